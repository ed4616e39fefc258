use Rattle.std.proofs.Common.{arith, refl}
use Rattle.sm_permit.proofs.Moves.{after, at_last, before, right_added, waited_added}
use Rattle.sm_permit.proofs.laws.permits_move.Goals as goal

pub returns : goal.returns
returns g c = record {
  waits = refl;
  safe = record { some = omega arith; within = omega arith };
  timely = λ from to le. omega arith;
  right = right_added _ _;
  waited = waited_added g.row.Q.Denot g.row.P.Denot;
  before = before _ _;
  after = after _ _;
  at_last = at_last _ _;
}
