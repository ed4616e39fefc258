use Rattle.std.proofs.Common.{subst}
use Rattle.sm_store.specs.Deeds.{AreRight}
use Rattle.sm_permit.proofs.laws.one_permit_in_runs.Goals as goal

pub returns : goal.returns
returns g c = λ service charter events terms timeline waiting might is safe waits.
    c.one_permit.ensures charter terms timeline waiting safe
    (subst (AreRight charter) is (c.runs_are_lawful.ensures.lawful service charter events might).right) waits
