use Rattle.std.proofs.Common.{subst}
use Rattle.sm_map.specs.Index.{IndexValue}
use Rattle.sm_map.specs.Blocks.{lengths_in, IsStop}
use Rattle.sm_map.proofs.Indexes.{stop_first}
use Rattle.sm_map.proofs.index.Index.first.Goals as goal

pub returns-clause-stop : goal.returns-clause-stop
returns-clause-stop c = subst (λ (x : IndexValue). IsStop (lengths_in x.blocks) (record { block = 0; offset = 0 }))
    c.self.view_is (stop_first c.self.inside.blocks.items c.self.inside.len c.self.invariant)
