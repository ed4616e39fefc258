use Rattle.std.proofs.Common.{List, length, subst, arith, ap}
use Rattle.sm_map.specs.Block.{BlockValue}
use Rattle.sm_map.specs.Index.{IndexValue}
use Rattle.sm_map.specs.Blocks.{lengths_in, HasEntry}
use Rattle.sm_map.proofs.Indexes.{has_first}
use Rattle.sm_map.proofs.index.Index.find.Goals as goal

pub returns-in-Ok-clause-entry : goal.returns-in-Ok-clause-entry
returns-in-Ok-clause-entry c =
    subst (λ (x : IndexValue). HasEntry (lengths_in x.blocks) (record { block = c.in-Ok.block; offset = 0 }))
    c.self.view_is (has_first c.self.inside.blocks.items c.self.inside.len c.self.invariant c.in-Ok.block
    (omega (arith, c.in-Ok.ensures.within, ap (λ (x : List BlockValue). length x) c.deref.ensures.value)))
