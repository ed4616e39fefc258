use Rattle.sm_store.specs.lemmas.Acks.{let_go_as_read, let_go_grows}
use Rattle.sm_store.proofs.laws.controls_wait.Goals as goal

pub returns : goal.returns
returns g c = record { waited = let_go_as_read; stays = let_go_grows }
