-- Which settings may be sent in place of those in force.
use Rattle.std.proofs.Common.{◌≡◌, ℕ, zero, suc, ◌<◌, Bool, true, false, List, [], ◌∷◌, length, get_or}
use Rattle.std.proofs.Common.{Option, Some, None, refl, sym, ap, subst, ◌∙◌, inl, arith}
use Rattle.std.specs.Prelude.{find, not, ◌==◌, ◌&&◌, if◌then◌else◌}
use Rattle.std.specs.Option.{option_map}
use Rattle.std.proofs.lemmas.Bool.{eqb-true, false≢true, ltb-true, true≢false}
use Rattle.std.proofs.lemmas.List.{length-map}
use Rattle.sm_rows.specs.declared.server_row.ServerRow.{ServerRow}
use Rattle.sm_place.specs.declared.server_state.ServerState.{ServerState}
use Rattle.sm_place.specs.declared.shard.Shard.{Shard}
use Rattle.sm_place.specs.Books.{IsKnown, no_server, place_of}
use Rattle.sm_place.specs.ServerState.{is_unreached}
use Rattle.sm_place.specs.Sound.{AreSound}
use Rattle.sm_place.specs.lemmas.Changed.{id-at_place}
use Rattle.sm_tasks.specs.Caps.{MeetsCaps}
use Rattle.sm_desk.specs.Desk.{is_known, is_reached}
use Rattle.sm_store.specs.declared.item.Item.{Item}
use Rattle.sm_store.specs.Settings.{SettingsHold}
use Rattle.sm_store.specs.Store.{Transaction, placement_key, placement_of}
use Rattle.sm_store.specs.Deeds.{AreRight, MaySend, Resettling}
use Rattle.sm_store.specs.lemmas.Heart.{stood_among}
use Rattle.sm_store.specs.lemmas.Views.{IsOfDeed, deeds_of_right, placement_view, rising_of_right}
use Rattle.sm_lead.specs.declared.resettle_fault.ResettleFault.TheVariants.{Apart, OtherShards, OtherCeiling, InUse}
use Rattle.sm_lead.specs.declared.store_control.StoreControl.{StoreControl}
use Rattle.sm_lead.specs.Controls.{GoesByStore, KnowsStore, settings_held}
use Rattle.sm_lead.specs.Placements.{SettingsReading, charter_of}
use Rattle.sm_lead.specs.Resettlings.{is_in_use, resettle_fault, resettling}
use Rattle.sm_lead.proofs.Agreement.{same_books}

-- a test that must hold, or there is a fault
must_hold : {A : Type 0} (holds : Bool) (fault : A) (rest : Option A)
    → (if not holds then Some fault else rest) ≡ None → (holds ≡ true) × (rest ≡ None)
must_hold true fault rest none = (refl, none)
must_hold false fault rest none = absurd cc

unmapped : {A B : Type 0} (f : A → B) (a : Option A) → option_map f a ≡ None → a ≡ None
unmapped f None is = refl
unmapped f (Some x) is = absurd cc

-- if no element of a list is found, none passes the test
none_passes : {A : Type 0} (test : A → Bool) (xs : List A) (other : A) → find test xs ≡ None → (i : ℕ) → i < length xs
    → test (get_or xs i other) ≡ false
none_passes test [] other none i below = absurd (omega arith)
none_passes test (x ∷ xs) other none i below =
    passes_on (test x) refl (λ left k inside. none_passes test xs other left k inside) none i below
  where
    passes_on : (passed : Bool) → test x ≡ passed
        → (find test xs ≡ None → (k : ℕ) → k < length xs → test (get_or xs k other) ≡ false)
        → (if passed then Some x else find test xs) ≡ None → (i : ℕ) → i < length (x ∷ xs)
        → test (get_or (x ∷ xs) i other) ≡ false
    passes_on true is rest left i below = absurd cc
    passes_on false is rest left zero below = is
    passes_on false is rest left (suc i) below = rest left i (omega arith)

-- a server that isn't in use and is reached has a row
has_row : (reached known : Bool) → (reached && not known) ≡ false → reached ≡ true → known ≡ true
has_row true true is so = refl
has_row true false is so = absurd (true≢false is)
has_row false known is so = absurd (false≢true so)

reached_not : (unreached : Bool) → unreached ≡ false → not unreached ≡ true
reached_not unreached is = ap not is

-- the meaning of the absence of a fault
record AreFit (control other : StoreControl) : Type 0 where
  pub placed : other.placed ≡ control.placed
  pub shards : length other.desk.books.shards ≡ length control.desk.books.shards
  pub ceiling : other.ceiling ≡ control.ceiling
  pub none : find (λ (row : ServerRow). is_in_use control.desk other.desk row.id) control.desk.books.servers ≡ None

fit_of : (control other : StoreControl) → resettle_fault control other ≡ None → AreFit control other
fit_of control other none =
    let one = must_hold (other.placed == control.placed) Apart _ none in
    let two = must_hold (length other.desk.books.shards == length control.desk.books.shards) OtherShards _ one.1 in
    let three = must_hold (other.ceiling == control.ceiling) OtherCeiling _ two.1 in
    record {
      placed = eqb-true other.placed control.placed one.0;
      shards = eqb-true (length other.desk.books.shards) (length control.desk.books.shards) two.0;
      ceiling = eqb-true other.ceiling control.ceiling three.0;
      none = unmapped (λ (row : ServerRow). row.id) _ (unmapped InUse _ three.1);
    }

module _ {Q P : Type 0} (reading : SettingsReading) (parts : List (Item Q) → List P) (log : List (Transaction Q P))
    (control other : StoreControl) where
  -- both controls read the same records and states
  same_read : AreRight (charter_of reading control.waits parts) log → (knows : KnowsStore log control)
      → (knew : KnowsStore log other) → other.placed ≡ control.placed → knew.read ≡ knows.read
  same_read right knows knew placed =
      let charter = charter_of reading control.waits parts in
      let found = knew.placement_was in
      sym found.was
      ∙ stood_among IsOfDeed placement_of placement_key placement_view log knows.read control.placed
      (rising_of_right charter log right) (deeds_of_right charter log right) (inl refl) knows.placement_was
      found.later found.past found.is (found.at ∙ placed)

  -- a server that requests reach has a row among the other's
  keeps_row : (fit : AreFit control other) → (knows : KnowsStore log control) → (a : ℕ)
      → IsKnown control.desk.books.servers a → is_unreached (knows.read.states a) ≡ false
      → IsKnown other.desk.books.servers a
  keeps_row fit knows a known unreached =
      let servers = control.desk.books.servers in
      let row_is : (get_or servers (place_of servers a) no_server).id ≡ a = id-at_place servers a known in
      let free : is_in_use control.desk other.desk a ≡ false =
      subst (λ (n : ℕ). is_in_use control.desk other.desk n ≡ false) row_is
      (none_passes (λ (row : ServerRow). is_in_use control.desk other.desk row.id) servers no_server fit.none
      (place_of servers a) known) in
      let reached : is_reached control.desk a ≡ true =
      ap (λ (state : ServerState). not (is_unreached state)) (knows.agrees.states a known)
      ∙ reached_not (is_unreached (knows.read.states a)) unreached in
      ltb-true (place_of other.desk.books.servers a) (length other.desk.books.servers)
      (has_row (is_reached control.desk a) (is_known other.desk.books.servers a) free reached)

  -- the records and states that the one read keep to the other's settings
  kept_by_other : AreSound other.desk.books → MeetsCaps other.desk.caps other.desk.books
      → (knows : KnowsStore log control) → (knew : KnowsStore log other) → knew.read ≡ knows.read
      → SettingsHold (settings_held other) knows.read
  kept_by_other sound caps knows knew same =
      let is = same_books other.desk.books knew.read sound knew.agrees in
      subst (SettingsHold (settings_held other)) same (record {
        sound = subst AreSound is sound;
        caps = subst (MeetsCaps other.desk.caps) is caps;
      })

  pub settings_may : (settings : List ℕ) → AreRight (charter_of reading control.waits parts) log
      → GoesByStore reading.settings log control → AreSound other.desk.books
      → MeetsCaps other.desk.caps other.desk.books → KnowsStore log other
      → reading.settings settings ≡ Some (settings_held other) → resettle_fault control other ≡ None
      → MaySend (charter_of reading control.waits parts) log (resettling control settings)
  settings_may settings right by sound caps knew read none =
      let fit = fit_of control other none in
      let old_rows = length-map control.desk.books.shards (λ (shard : Shard). shard.row) in
      let new_rows = length-map other.desk.books.shards (λ (shard : Shard). shard.row) in
      record {
        deed = Resettling control.lead.process settings control.lead.elected control.placed;
        is = refl;
        may = record {
          led = by.knows.led;
          read = by.knows.read;
          old = settings_held control;
          footing = by.footing;
          new = settings_held other;
          new_are = read;
          replaces = record {
            shards = new_rows ∙ fit.shards ∙ sym old_rows;
            ceiling = fit.ceiling;
            servers = λ a known unreached. keeps_row fit by.knows a known unreached;
            kept = kept_by_other sound caps by.knows knew (same_read right by.knows knew fit.placed);
          };
        };
      }
