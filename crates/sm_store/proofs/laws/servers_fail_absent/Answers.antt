use Rattle.std.proofs.Common.{subst}
use Rattle.sm_store.specs.Deeds.{AreRight}
use Rattle.sm_store.proofs.Failures.{absent_when_failed}
use Rattle.sm_store.proofs.Runs.{lawful}
use Rattle.sm_store.proofs.laws.servers_fail_absent.Goals as goal

pub returns : goal.returns
returns g c = λ service charter events might later past txn server is was now.
    absent_when_failed charter later past txn server
    (subst (AreRight charter) is (lawful service charter events might).right) was now
