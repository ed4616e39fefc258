use Rattle.sm_store.specs.Deeds.{IsBehind, MayClear}
use Rattle.sm_store.proofs.Joined.{all_joined}
use Rattle.sm_store.proofs.laws.deletions_join.Goals as goal

pub returns-clause-may : goal.returns-clause-may
returns-clause-may g c = λ charter log keys more first second. all_joined (MayClear charter log) keys more first second

pub returns-clause-right : goal.returns-clause-right
returns-clause-right g c = λ charter log keys more first second.
    all_joined (IsBehind charter log) keys more first second
