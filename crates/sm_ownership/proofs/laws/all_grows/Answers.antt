use Rattle.sm_ownership.specs.lemmas.Requests.{all_of-append}
use Rattle.sm_ownership.proofs.laws.all_grows.Goals as goal

pub returns : goal.returns
returns g c = all_of-append
