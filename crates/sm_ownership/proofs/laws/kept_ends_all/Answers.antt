use Rattle.sm_ownership.specs.lemmas.Requests.{first_of-within, kept-end}
use Rattle.sm_ownership.proofs.laws.kept_ends_all.Goals as goal

pub returns : goal.returns
returns g c = record { within = first_of-within; parts = kept-end }
