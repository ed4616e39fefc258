use Rattle.std.proofs.Common.{[], sym, subst, refl}
use Rattle.sm_map.specs.Block.{BlockValue}
use Rattle.sm_map.specs.Blocks.{IsSized}
use Rattle.sm_map.proofs.Search.{first_placed}
use Rattle.sm_map.proofs.index.first_key.Goals as goal

pub get-requires : goal.get-requires
get-requires c =
    let some = (subst (λ (x : BlockValue). IsSized x) (sym c.index-blocks-at.is)
    (c.requires.filled c.args.at c.index-blocks-at.result c.requires.within)).0 in
    first_placed _ _ [] c.requires.rising c.args.at c.requires.within _ c.index-blocks-at.is some _ c.entry.ensures _
    refl c.requires.keys
