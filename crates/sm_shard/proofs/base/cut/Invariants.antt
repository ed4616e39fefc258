use Rattle.std.proofs.Common.{◌≡◌, ◌++◌, ◌-◌}
use Rattle.sm_shard.specs.Bases.{cut}
use Rattle.sm_shard.proofs.base.cut.Given as goal

abbrev pub invariant-loop : goal.invariant-loop
invariant-loop g l =
    l.parts.items ++ cut l.floor (l.count - l.counter) l.state l.lasts ≡ cut l.floor l.count l.fn.state l.fn.lasts
