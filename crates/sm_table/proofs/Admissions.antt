-- An admission, in the parts and in the world that they stand for.
use Rattle.std.proofs.Common.{◌≡◌, ℕ, List, refl, sym, ap, ◌∙◌}
use Rattle.std.specs.Prelude.{Some}
use Rattle.sm_ownership.specs.declared.entry.Entry.{Entry}
use Rattle.sm_ownership.specs.declared.entry.Kind.TheVariants.{Admit}
use Rattle.sm_ownership.specs.declared.mode.Mode.{Mode}
use Rattle.sm_ownership.specs.lemmas.Growth.{fits-push, table_of-push}
use Rattle.sm_table.specs.declared.hands.InHand.{InHand}
use Rattle.sm_table.specs.World.{WorldState, count_of, with_entry, with_hand}
use Rattle.sm_table.specs.Standing.{IsSound, with_admission}
use Rattle.sm_table.specs.Bodies.{Past}
use Rattle.sm_table.proofs.Pasts.{past_of-push_none}
use Rattle.sm_table.proofs.Parts.{parts_of, Keeps}

module _ {Q : Type 0} (w : WorldState Q) (server shard : ℕ) (mode : Mode) (hand : InHand Q)
    (pasts : List (Past Q)) where
  -- the world after the admission
  abbrev pub entered : WorldState Q
  entered = with_hand (with_entry w server shard (Admit server mode)) shard (Some hand)

  -- the world after the admission has the parts that the code makes
  pub entered_parts : IsSound entered → with_admission (parts_of w pasts) shard hand ≡ parts_of entered pasts
  entered_parts after =
      let entry : Entry Q = record { actor = server; shard = shard; kind = Admit server mode } in
      let grown = table_of-push (count_of w) w.frame.ceiling w.history entry
      (fits-push (count_of w) w.frame.ceiling w.history entry after.legal) in
      ap (λ records. record (with_admission (parts_of w pasts) shard hand) { records = records }) (sym grown)

  -- the world after the admission has the pasts that it had before
  pub entered_keeps : Keeps w pasts → Keeps entered pasts
  entered_keeps keeps =
      record {
        bodies = keeps.bodies;
        each = λ other within. keeps.each other within ∙ sym (past_of-push_none w.history
            (record { actor = server; shard = shard; kind = Admit server mode }) other refl);
      }
