use Rattle.std.proofs.Common.{subst}
use Rattle.sm_store.specs.Deeds.{AreRight}
use Rattle.sm_store.specs.System.{system_after}
use Rattle.sm_store.proofs.Runs.{lawful}
use Rattle.sm_store.proofs.Stops.{begins_anew, named, rises}
use Rattle.sm_store.proofs.laws.stopped_servers_begin_anew.Goals as goal

pub returns-clause-process : goal.returns-clause-process
returns-clause-process g c = λ service charter events might server is.
    named charter server (system_after events).log (lawful service charter events might).right is

pub returns-clause-later : goal.returns-clause-later
returns-clause-later g c = λ service charter events might later past txn server is was now.
    begins_anew charter server later past txn
    (subst (AreRight charter) is (lawful service charter events might).right) was now

pub returns-clause-rises : goal.returns-clause-rises
returns-clause-rises g c = λ service charter events might later past server is.
    rises charter server later past (subst (AreRight charter) is (lawful service charter events might).right)
