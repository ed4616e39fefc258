use Rattle.std.proofs.Common.{◌≡◌, length, sum, subst, sym, ◌∙◌}
use Rattle.sm_map.specs.ArenaMap.{MapValue}
use Rattle.sm_map.specs.Blocks.{entries_in}
use Rattle.sm_map.proofs.Blocks.{all_entries}
use Rattle.sm_map.proofs.Entries.{length-pairs}
use Rattle.sm_map.proofs.arena_map.ArenaMap.blocks.Goals as goal

pub returns-clause-sum : goal.returns-clause-sum
returns-clause-sum c =
    subst (λ (x : MapValue). sum x.blocks ≡ length x.pairs) c.self.view_is (all_entries c.self.inside.index.blocks
    ∙ sym (length-pairs c.self.inside.arena.placed (entries_in c.self.inside.index.blocks)))
