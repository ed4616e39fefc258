use Rattle.std.proofs.Common.{arith}
use Rattle.sm_opaque.proofs.Counting.{known, placed}
use Rattle.sm_opaque.proofs.laws.replies_are_places.Goals as goal

pub returns : goal.returns
returns c =
    record {
      made = λ items all few. placed items 0 all (omega arith);
      known = λ items client number all few. known items client number all few;
    }
