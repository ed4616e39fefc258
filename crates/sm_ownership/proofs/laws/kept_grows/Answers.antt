use Rattle.std.proofs.Common.{refl}
use Rattle.std.proofs.lemmas.Bool.{ne_eqb}
use Rattle.sm_ownership.specs.declared.entry.Ending.TheVariants.{Checkpoint}
use Rattle.sm_ownership.specs.declared.entry.Entry.{Entry}
use Rattle.sm_ownership.specs.declared.entry.Kind.TheVariants.{Done}
use Rattle.sm_ownership.specs.lemmas.Requests.{first_of-push_checkpoint, kept-push, kept-push_checkpoint}
use Rattle.sm_ownership.specs.lemmas.Requests.{kept-push_other}
use Rattle.sm_ownership.proofs.laws.kept_grows.Goals as goal

pub returns : goal.returns
returns g c = record {
  own = kept-push;
  checkpoint = λ history actor shard.
      let entry : Entry g.row.Q.Denot = record { actor = actor; shard = shard; kind = Done Checkpoint } in
      (kept-push_checkpoint history entry refl, first_of-push_checkpoint history entry refl);
  others = λ history entry shard apart. kept-push_other history entry shard (ne_eqb entry.shard shard apart);
}
