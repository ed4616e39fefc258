-- Settings that were written stay until the leader writes others; and the values on which a command rests stay as long
-- as the key of commands is not written.
use Rattle.std.proofs.Common.{◌≡◌, ℕ, Bool, true, false, List, [], ◌∷◌, ◌++◌, Option, Some, None, refl, sym, ap, subst}
use Rattle.std.proofs.Common.{◌∙◌, inl, inr, ⊎_elim, append_assoc}
use Rattle.std.specs.Prelude.{is_some, ◌||◌}
use Rattle.std.specs.List.{AllByRecursion}
use Rattle.std.proofs.lemmas.Bool.{true≢false, false≢true}
use Rattle.sm_store.specs.declared.store_key.PassingKey.{PassingKey}
use Rattle.sm_store.specs.Store.{Deletes, Placement, Transaction, placement_key, placement_of, revision_of}
use Rattle.sm_store.specs.Store.{stored_settings, touches}
use Rattle.sm_store.specs.Settings.{ControlSettings, Footing, footing_of, in_force, read_by}
use Rattle.sm_store.specs.Deeds.{AreRight, Charter, Deed, Electing, Expiring, Changing, Restarting, Settling, Executing}
use Rattle.sm_store.specs.Deeds.{Basing, Naming, Clearing, Following, Checking, Foreign, Resettling, IsRight}
use Rattle.sm_store.specs.Deeds.{HasFooting, StayOrAreReplaced, done_at, transaction_of}
use Rattle.sm_store.specs.lemmas.Heart.{IsViewAmong, deleted_apart, ends, unwritten_among}
use Rattle.sm_store.specs.lemmas.Views.{placement_view, rising_of_right}

none_some : {A : Type 0} (found : Option A) → found ≡ None → is_some found ≡ true → false ≡ true
none_some found none some = sym (ap is_some none) ∙ some

some_is : {A : Type 0} (found : Option A) (x : A) → found ≡ Some x → is_some found ≡ true
some_is found x is = ap is_some is

-- settings that are read were written
written_if_read : (reading : List ℕ → Option ControlSettings) (written : Option (List ℕ)) (settings : ControlSettings)
    → read_by reading written ≡ Some settings → is_some written ≡ true
written_if_read reading (Some line) settings is = refl
written_if_read reading None settings is = absurd (false≢true (ap is_some is))

module _ {Q P : Type 0} (charter : Charter Q P) where
  replaced_by_deed : (log : List (Transaction Q P)) (deed : Deed Q P) (revision : ℕ) → IsRight charter log deed
      → is_some (stored_settings log) ≡ true → StayOrAreReplaced charter log (done_at revision deed)
  replaced_by_deed log (Electing process) revision right has = inl refl
  replaced_by_deed log (Expiring keys) revision right has = inl refl
  replaced_by_deed log (Changing process shard change next elected placed) revision right has = inl refl
  replaced_by_deed log (Restarting process server run elected placed) revision right has = inl refl
  replaced_by_deed log (Settling settings) revision right has =
      absurd (false≢true (none_some (stored_settings log) right has))
  replaced_by_deed log (Resettling process settings elected placed) revision right has =
      inr (process, settings, refl, right)
  replaced_by_deed log (Executing shard server items head stood logged) revision right has = inl refl
  replaced_by_deed log (Basing shard number place part) revision right has = inl refl
  replaced_by_deed log (Naming shard head number parts logged) revision right has = inl refl
  replaced_by_deed log (Clearing keys) revision right has = inl refl
  replaced_by_deed log (Following server seen acks told) revision right has = inl refl
  replaced_by_deed log (Checking compares) revision right has = inl refl
  replaced_by_deed log Foreign revision right has = inl refl

  pub stay_or_are_replaced : (past : List (Transaction Q P)) (txn : Transaction Q P) → AreRight charter (txn ∷ past)
      → is_some (stored_settings past) ≡ true → StayOrAreReplaced charter past txn
  stay_or_are_replaced past txn right has =
      subst (StayOrAreReplaced charter past) (sym right.0.is)
      (replaced_by_deed past right.0.deed txn.revision right.0.right has)

  some_after : (past : List (Transaction Q P)) (txn : Transaction Q P) → is_some (stored_settings past) ≡ true
      → StayOrAreReplaced charter past txn → is_some (stored_settings (txn ∷ past)) ≡ true
  some_after past txn has (inl same) = ap is_some same ∙ has
  some_after past txn has (inr new) = ap is_some new.2

  -- once settings are written there always are some
  pub settings_last : (later past : List (Transaction Q P)) → AreRight charter (later ++ past)
      → is_some (stored_settings past) ≡ true → is_some (stored_settings (later ++ past)) ≡ true
  settings_last [] past right has = has
  settings_last (txn ∷ later) past right has =
      let before = settings_last later past right.1 has in
      some_after (later ++ past) txn before (stay_or_are_replaced (later ++ past) txn right before)

  -- the deed doesn't write first settings
  abbrev pub IsOther : Deed Q P → Type 0
  IsOther (Settling settings) = ⊥
  IsOther _ = Unit {0}

  -- the transaction belongs to such a deed
  abbrev pub IsLater : Transaction Q P → Type 0
  IsLater txn = (deed : Deed Q P) × (txn ≡ done_at txn.revision deed) × IsOther deed

  other_deed : (log : List (Transaction Q P)) (deed : Deed Q P) → IsRight charter log deed
      → is_some (stored_settings log) ≡ true → IsOther deed
  other_deed log (Electing process) right has = tt
  other_deed log (Expiring keys) right has = tt
  other_deed log (Changing process shard change next elected placed) right has = tt
  other_deed log (Restarting process server run elected placed) right has = tt
  other_deed log (Settling settings) right has =
      absurd (false≢true (none_some (stored_settings log) right has))
  other_deed log (Resettling process settings elected placed) right has = tt
  other_deed log (Executing shard server items head stood logged) right has = tt
  other_deed log (Basing shard number place part) right has = tt
  other_deed log (Naming shard head number parts logged) right has = tt
  other_deed log (Clearing keys) right has = tt
  other_deed log (Following server revision acks told) right has = tt
  other_deed log (Checking compares) right has = tt
  other_deed log Foreign right has = tt

  all_later : (later past : List (Transaction Q P)) → AreRight charter (later ++ past)
      → is_some (stored_settings past) ≡ true → AllByRecursion IsLater later
  all_later [] past right has = tt
  all_later (txn ∷ later) past right has = (
    (
      right.0.deed,
      right.0.is,
      other_deed (later ++ past) right.0.deed right.0.right (settings_last later past right.1 has),
    ),
    all_later later past right.1 has,
  )

  settings_apart : (deed : Deed Q P) (earlier : List (Transaction Q P)) → IsOther deed
      → touches placement_key (transaction_of deed).writes ≡ false
      → stored_settings (transaction_of deed ∷ earlier) ≡ stored_settings earlier
  settings_apart (Electing process) earlier other apart = refl
  settings_apart (Expiring keys) earlier other apart = refl
  settings_apart (Changing process shard change next elected placed) earlier other apart = refl
  settings_apart (Restarting process server run elected placed) earlier other apart = refl
  settings_apart (Settling settings) earlier other apart = absurd other
  settings_apart (Resettling process settings elected placed) earlier other apart = absurd (true≢false apart)
  settings_apart (Executing shard server items head stood logged) earlier other apart = refl
  settings_apart (Basing shard number place part) earlier other apart = refl
  settings_apart (Naming shard head number parts logged) earlier other apart = refl
  settings_apart (Clearing keys) earlier other apart = refl
  settings_apart (Following server revision acks told) earlier other apart = refl
  settings_apart (Checking compares) earlier other apart = refl
  settings_apart Foreign earlier other apart = refl

  settings_view : IsViewAmong IsLater stored_settings placement_key
  settings_view txn earlier of apart =
      subst (λ (t : Transaction Q P). stored_settings (t ∷ earlier) ≡ stored_settings earlier) (sym of.1)
      (settings_apart of.0 earlier of.2
      (subst (λ (t : Transaction Q P). touches placement_key t.writes ≡ false) of.1 apart))

  footing_view : IsViewAmong IsLater (footing_of charter.settings) placement_key
  footing_view txn earlier of apart =
      ap (λ (p : Placement). record { placement = p; settings = in_force charter.settings (txn ∷ earlier) })
      (placement_view txn earlier (of.0, of.1) apart)
      ∙ ap (λ (s : Option (List ℕ)). record {
        placement = placement_of earlier;
        settings = read_by charter.settings s;
      }) (settings_view txn earlier of apart)

  -- settings that were written stay while the key of commands is not written
  pub settings_kept : (later past : List (Transaction Q P)) → AreRight charter (later ++ past)
      → is_some (stored_settings past) ≡ true
      → revision_of placement_key (later ++ past) ≡ revision_of placement_key past
      → stored_settings (later ++ past) ≡ stored_settings past
  settings_kept later past right has same =
      unwritten_among IsLater stored_settings placement_key settings_view later past
      (rising_of_right charter (later ++ past) right) (all_later later past right has) (inl refl) same

  -- the values that were read are still in force if the key of commands was not written since
  pub footing_stands : (log : List (Transaction Q P)) (read : Placement) (settings : ControlSettings) (placed : ℕ)
      → AreRight charter log → HasFooting charter.settings log read settings placed
      → revision_of placement_key log ≡ placed
      → footing_of charter.settings log ≡ record { placement = read; settings = Some settings }
  footing_stands log read settings placed right found now =
      let all : AreRight charter (found.later ++ found.past) = subst (AreRight charter) found.is right in
      let has : is_some (stored_settings found.past) ≡ true =
      written_if_read charter.settings (stored_settings found.past) settings
      (ap (λ (f : Footing). f.settings) found.was) in
      let same : revision_of placement_key (found.later ++ found.past) ≡ revision_of placement_key found.past =
      ap (revision_of placement_key) (sym found.is) ∙ now ∙ sym found.at in
      ap (footing_of charter.settings) found.is
      ∙ unwritten_among IsLater (footing_of charter.settings) placement_key footing_view found.later found.past
      (rising_of_right charter (found.later ++ found.past) all) (all_later found.later found.past all has) (inl refl)
      same
      ∙ found.was

  touched_alone : (touched : Bool) → (touched || false) ≡ true → touched ≡ true
  touched_alone true is = refl
  touched_alone false is = absurd (false≢true is)

  -- no deletion is one of the key of commands
  none_deleted : (keys : List PassingKey)
      → touches {Q = Q} {P = P} placement_key (Deletes keys ∷ []) ≡ true → true ≡ false
  none_deleted keys touched = deleted_apart keys placement_key (touched_alone _ touched)

  -- a process that writes the key of commands goes by settings that were written
  settled_then : (log : List (Transaction Q P)) (deed : Deed Q P) → IsRight charter log deed
      → touches placement_key (transaction_of deed).writes ≡ true → is_some (stored_settings log) ≡ true
  settled_then log (Electing process) right touched = absurd (false≢true touched)
  settled_then log (Expiring keys) right touched = absurd (true≢false (none_deleted keys touched))
  settled_then log (Changing process shard change next elected placed) right touched =
      written_if_read charter.settings (stored_settings log) right.settings right.settings_are
  settled_then log (Restarting process server run elected placed) right touched =
      written_if_read charter.settings (stored_settings log) right.settings right.settings_are
  settled_then log (Settling settings) right touched = absurd (false≢true touched)
  settled_then log (Resettling process settings elected placed) right touched =
      written_if_read charter.settings (stored_settings log) right.old right.old_are
  settled_then log (Executing shard server items head stood logged) right touched = absurd (false≢true touched)
  settled_then log (Basing shard number place part) right touched = absurd (false≢true touched)
  settled_then log (Naming shard head number parts logged) right touched = absurd (false≢true touched)
  settled_then log (Clearing keys) right touched = absurd (true≢false (none_deleted keys touched))
  settled_then log (Following server seen acks told) right touched = absurd (false≢true touched)
  settled_then log (Checking compares) right touched = absurd (false≢true touched)
  settled_then log Foreign right touched = absurd (false≢true touched)

  right_end : (later past : List (Transaction Q P)) → AreRight charter (later ++ past) → AreRight charter past
  right_end [] past right = right
  right_end (txn ∷ later) past right = right_end later past right.1

  -- the values that were read were in force when a command was made that compared the same revision
  pub footing_then : (log : List (Transaction Q P)) (read : Placement) (settings : ControlSettings) (placed : ℕ)
      → AreRight charter log → HasFooting charter.settings log read settings placed
      → (later past : List (Transaction Q P)) (txn : Transaction Q P) → log ≡ later ++ txn ∷ past
      → touches placement_key txn.writes ≡ true → revision_of placement_key past ≡ placed
      → footing_of charter.settings past ≡ record { placement = read; settings = Some settings }
  footing_then log read settings placed right found later past txn is touched now =
      let rest : AreRight charter (txn ∷ past) = right_end later (txn ∷ past) (subst (AreRight charter) is right) in
      let has : is_some (stored_settings past) ≡ true =
      settled_then past rest.0.deed rest.0.right
      (subst (λ (t : Transaction Q P). touches placement_key t.writes ≡ true) rest.0.is touched) in
      ⊎_elim
      (λ (longer : (more : List (Transaction Q P)) × (found.past ≡ more ++ past)).
      let all : AreRight charter (longer.0 ++ past) =
      subst (AreRight charter) longer.1
      (right_end found.later found.past (subst (AreRight charter) found.is right)) in
      let same : revision_of placement_key (longer.0 ++ past) ≡ revision_of placement_key past =
      ap (revision_of placement_key) (sym longer.1) ∙ found.at ∙ sym now in
      sym (unwritten_among IsLater (footing_of charter.settings) placement_key footing_view longer.0 past
      (rising_of_right charter (longer.0 ++ past) all) (all_later longer.0 past all has) (inl refl) same)
      ∙ ap (footing_of charter.settings) (sym longer.1)
      ∙ found.was)
      (λ (shorter : (more : List (Transaction Q P)) × (past ≡ more ++ found.past)).
      let all : AreRight charter (shorter.0 ++ found.past) = subst (AreRight charter) shorter.1 rest.1 in
      let had : is_some (stored_settings found.past) ≡ true =
      written_if_read charter.settings (stored_settings found.past) settings
      (ap (λ (f : Footing). f.settings) found.was) in
      let same : revision_of placement_key (shorter.0 ++ found.past) ≡ revision_of placement_key found.past =
      ap (revision_of placement_key) (sym shorter.1) ∙ now ∙ sym found.at in
      ap (footing_of charter.settings) shorter.1
      ∙ unwritten_among IsLater (footing_of charter.settings) placement_key footing_view shorter.0 found.past
      (rising_of_right charter (shorter.0 ++ found.past) all) (all_later shorter.0 found.past all had) (inl refl) same
      ∙ found.was)
      (ends found.later (later ++ txn ∷ []) found.past past
      (sym found.is ∙ is ∙ sym (append_assoc later (txn ∷ []) past)))
