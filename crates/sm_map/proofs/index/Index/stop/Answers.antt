use Rattle.std.proofs.Common.{◌+◌, subst, arith}
use Rattle.sm_map.specs.Index.{IndexValue}
use Rattle.sm_map.specs.Blocks.{lengths_in, IsStop}
use Rattle.sm_map.proofs.Indexes.{stop_next}
use Rattle.sm_map.proofs.index.Index.stop.Goals as goal

pub returns-then-place-len-2-clause-stop : goal.returns-then-place-len-2-clause-stop
returns-then-place-len-2-clause-stop c =
    subst (λ (x : IndexValue). IsStop (lengths_in x.blocks) (record { block = c.args.place.block + 1; offset = 0 }))
    c.self.view_is (stop_next c.self.inside.blocks.items c.self.inside.len c.self.invariant c.args.place.block
    (omega (arith, c.if-place-len.true, c.len.ensures, c.self.inside.blocks.ok.0)) c.index.result.now)
