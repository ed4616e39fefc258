use Rattle.std.proofs.Common.{◌&&◌, rules, ap, ◌∙◌}
use Rattle.std.specs.Prelude.{not, position}
use Rattle.std.proofs.lemmas.Iterator.{YieldsList-from_slice}
use Rattle.std.proofs.lemmas.Iterator.Search.{position_from_yields_List}
use borrow.Author.Tests.{tests}
use Rattle.sm_place.specs.declared.shard.Shard.{Shard}
use Rattle.sm_ranges.specs.Stand.{names, is_paused}
use Rattle.sm_tasks.proofs.counts.serving_shard.Goals as goal

pub returns : goal.returns
returns c =
    let test = λ (shard : Shard). names shard.stand c.args.a && not (is_paused shard.stand) in
    c.shard_id.ensures
    ∙ position_from_yields_List test _ _ c.position-place.result c.position-place.ensures.ran
    (YieldsList-from_slice c.shards.result.now (cc))
    (λ x b q k. search (rules, tests))
    ∙ ap (position test) c.shards.ensures
