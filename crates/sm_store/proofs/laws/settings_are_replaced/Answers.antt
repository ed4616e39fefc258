use Rattle.std.proofs.Common.{◌∷◌, ◌++◌}
use Rattle.sm_store.proofs.Right.{honest_is_right}
use Rattle.sm_store.specs.lemmas.Footing.{settings_kept, settings_last, stay_or_are_replaced}
use Rattle.sm_store.proofs.laws.settings_are_replaced.Goals as goal

pub returns-clause-written : goal.returns-clause-written
returns-clause-written g c = λ charter later past honest has.
    settings_last charter later past (honest_is_right charter (later ++ past) honest) has

pub returns-clause-replaced : goal.returns-clause-replaced
returns-clause-replaced g c = λ charter past txn honest has.
    stay_or_are_replaced charter past txn (honest_is_right charter (txn ∷ past) honest) has

pub returns-clause-kept : goal.returns-clause-kept
returns-clause-kept g c = λ charter later past honest has same.
    settings_kept charter later past (honest_is_right charter (later ++ past) honest) has same
