-- A request that only reads leaves the count as it is.
use Rattle.std.proofs.Common.{◌≡◌, ℕ, Bool, ap}
use Rattle.std.specs.Prelude.{IsTrue}
use Rattle.sm_opaque.specs.Opaque.{count_after}

pub count_stays : (count : ℕ) (reads : Bool) → IsTrue reads → count_after count reads ≡ count
count_stays count reads is = ap (λ (b : Bool). count_after count b) is
