-- The entries that steps write keep a world sound.
use Rattle.std.proofs.Common.{◌≡◌, ◌≢◌, ℕ, zero, suc, ◌<◌, ◌≤◌, Bool, true, false, not, ◌&&◌, ◌||◌, List, [], ◌∷◌, ◌++◌}
use Rattle.std.proofs.Common.{length, refl, sym, ap, subst, ◌∙◌, arith, ⊎_elim}
use Rattle.std.specs.Prelude.{All, Option, Some, None, map, unwrap_or, reverse, slice_set, slice_index_or, nat_lt}
use Rattle.std.specs.Prelude.{is_none, ◌==◌, if◌then◌else◌}
use Rattle.std.specs.List.{list_all}
use Rattle.std.specs.Option.{option_map}
use Rattle.std.proofs.lemmas.Bool.{true≢false, cases_eq, cases_lt, eq-eqb, ne_eqb, and_parts, and_from, lt-ltb}
use Rattle.std.proofs.lemmas.Bool.{eqb-true, not-true}
use Rattle.std.proofs.lemmas.Bool.Decides.{nat_tests}
use Rattle.std.proofs.lemmas.List.{reverse-append, get_or-set_same, get_or-set_other, get_or_past, get_or-map}
use Rattle.std.proofs.lemmas.List.{length-map, length-set, map-set, set-get_or}
use Rattle.std.proofs.Math.Seq.{map-set_same}
use Rattle.std.proofs.lemmas.List.Folds.{list_all-append}
use Rattle.sm_ranges.specs.ServerId.{IsServer}
use Rattle.sm_ranges.specs.Stand.{AllNamed}
use Rattle.sm_ranges.specs.declared.stand.Stand.TheVariants.{Vacant}
use Rattle.sm_ownership.specs.declared.change.Change.{Change}
use Rattle.sm_ownership.specs.declared.entry.Ending.{Ending}
use Rattle.sm_ownership.specs.declared.entry.Entry.{Entry}
use Rattle.sm_ownership.specs.declared.entry.Kind.{Kind}
use Rattle.sm_ownership.specs.declared.entry.Kind.TheVariants.{Change as Changed, Admit, Done}
use Rattle.sm_ownership.specs.declared.mode.Mode.{Mode}
use Rattle.sm_ownership.specs.declared.mode.Mode.TheVariants.{Direct}
use Rattle.sm_ownership.specs.declared.record.Record.{Record}
use Rattle.sm_table.specs.declared.hands.InHand.{InHand}
use Rattle.sm_ownership.specs.Rules.{phase_fault, admit_fault, stand_after}
use Rattle.sm_desk.specs.declared.command.Command.{Command}
use Rattle.sm_desk.specs.declared.command.Command.TheVariants.{Change as ChangeOf}
use Rattle.sm_desk.specs.declared.command.CommandFault.TheVariants.{Change as ChangeRefused}
use Rattle.sm_desk.specs.Desk.{DeskView, commanded, desk_fault, stands_of}
use Rattle.sm_place.specs.Books.{moved, no_shard, shard_at}
use Rattle.sm_place.specs.declared.shard.Shard.{Shard}
use Rattle.sm_desk.specs.lemmas.Changes.{let_through}
use Rattle.sm_ownership.specs.History.{vacant, after_change, after_kind, admits_only, acts_as, fits}
use Rattle.sm_table.specs.World.{WorldState, count_of, world_record, with_entry, with_hand, table_fault}
use Rattle.sm_table.specs.World.{ended}
use Rattle.sm_table.specs.Standing.{AgreesWithHand, IsFlight, IsLedTo, IsSound, IsThere, world_table}
use Rattle.sm_ownership.specs.lemmas.Faults.{change_fits-no_fault, admit_fault-none}
use Rattle.sm_ownership.specs.Tables.{record_fault}
use Rattle.sm_table.specs.lemmas.Names.{names_after}
use Rattle.sm_ownership.specs.lemmas.Growth.{length-table_of, legal-push, record_at-push, record_at-push_other}
use Rattle.sm_ownership.specs.lemmas.Growth.{table_of-push}

list_all-reverse : {X : Type 0} (test : X → Bool) (xs : List X) → list_all test (reverse xs) ≡ list_all test xs
list_all-reverse test [] = refl
list_all-reverse test (x ∷ xs) =
    ap (list_all test) (reverse-append (x ∷ []) xs) ∙ list_all-append test (reverse xs) (x ∷ [])
    ∙ rw (list_all-reverse test xs) (swapped (list_all test xs) (test x))
  where
    swapped : (a b : Bool) → (a && (b && true)) ≡ (b && a)
    swapped true true = refl
    swapped true false = refl
    swapped false true = refl
    swapped false false = refl

list_all_weaker : {X : Type 0} (test weaker : X → Bool) → ((x : X) → test x ≡ true → weaker x ≡ true) → (xs : List X)
    → list_all test xs ≡ true → list_all weaker xs ≡ true
list_all_weaker test weaker each [] all = refl
list_all_weaker test weaker each (x ∷ xs) all =
    let both = and_parts (test x) (list_all test xs) all in
    and_from (weaker x) (list_all weaker xs) (each x both.0) (list_all_weaker test weaker each xs both.1)

unless_other : {Q : Type 0} (same : Bool) (own actor : ℕ) (kind : Kind Q) → (same ≡ true → own ≡ actor)
    → admits_only own kind ≡ true → (not same || admits_only actor kind) ≡ true
unless_other false own actor kind is own_only = refl
unless_other true own actor kind is own_only = subst (λ a. admits_only a kind ≡ true) (is refl) own_only

-- if each actor is admitted only under its own number, each has one server for good
acts_as_itself : {Q : Type 0} (history : List (Entry Q)) (actor : ℕ) → list_all
    (λ entry. admits_only entry.actor entry.kind) history ≡ true → acts_as (reverse history) actor actor ≡ true
acts_as_itself history actor own =
    list_all-reverse _ history ∙ list_all_weaker _ _ (λ entry only. unless_other
    (entry.actor == actor) entry.actor actor entry.kind (eqb-true entry.actor actor) only) history own

module _ {Q : Type 0} where
  -- an entry of another shard doesn't change who holds this one
  held_other : (history : List (Entry Q)) (entry : Entry Q) (admitted : Bool) (shard : ℕ) (hand : Option (InHand Q))
      → (entry.shard == shard) ≡ false → AgreesWithHand history admitted shard hand
      → AgreesWithHand (history ++ entry ∷ []) admitted shard hand
  held_other history entry admitted shard None other held = held
  held_other history entry admitted shard (Some hand) other held =
      (held.0, rw (reverse-append history (entry ∷ [])) (rw other held.1))

  -- nothing is in hand at an idle record, whatever entries come later
  held_idle : (history longer : List (Entry Q)) (admitted : Bool) (shard : ℕ) (hand : Option (InHand Q))
      → admitted ≡ false → AgreesWithHand history admitted shard hand → AgreesWithHand longer admitted shard hand
  held_idle history longer admitted shard None idle held = held
  held_idle history longer admitted shard (Some hand) idle held = absurd (true≢false (sym held.0 ∙ idle))

  -- nothing is in hand at an idle record
  pub none_held : (history : List (Entry Q)) (admitted : Bool) (shard : ℕ) (hand : Option (InHand Q)) → admitted ≡ false
      → AgreesWithHand history admitted shard hand → hand ≡ None
  none_held history admitted shard None idle held = refl
  none_held history admitted shard (Some hand) idle held = absurd (true≢false (sym held.0 ∙ idle))

  -- a shard that is in hand is there
  pub hand_within : (hands : List (Option (InHand Q))) (shard : ℕ) (hand : InHand Q)
      → slice_index_or hands shard None ≡ Some hand → shard < length hands
  hand_within hands shard hand is =
      ⊎_elim
      (λ (within : shard < length hands). within)
      (λ (past : length hands ≤ shard). let gone = get_or_past hands shard None past in absurd cc)
      (cases_lt shard (length hands))

-- an element that is written twice
pub set-set : {X : Type 0} (xs : List X) (i : ℕ) (a b : X) → slice_set (slice_set xs i a) i b ≡ slice_set xs i b
set-set [] i a b = refl
set-set (x ∷ xs) zero a b = refl
set-set (x ∷ xs) (suc i) a b = ap (λ rest. x ∷ rest) (set-set xs i a b)

-- the desk after one more command that it doesn't refuse
pub led_on : (start desk : DeskView) (command : Command) → IsLedTo start desk → desk_fault desk command ≡ None
    → IsLedTo start (commanded desk command)
led_on start desk command led through = record {
  commands = command ∷ led.commands;
  leads = ap (λ one. commanded one command) led.leads;
  through = (ap (λ one. desk_fault one command) led.leads ∙ through, led.through);
}

-- an entry that may come next in a world, and the desk and the hands after it
record IsNext {Q : Type 0} (w : WorldState Q) (entry : Entry Q) (desk : DeskView)
    (hands : List (Option (InHand Q))) : Type 0 where
  led : IsLedTo w.frame.start desk
  stands : stands_of desk ≡ map (λ (state : Record). state.stand)
      (slice_set (world_table w) entry.shard (after_kind (world_record w entry.shard) entry.kind))
  servers : desk.books.servers ≡ w.desk.books.servers
  fit : fits w.frame.ceiling (reverse w.history) (world_table w) entry ≡ true
  own_server : admits_only entry.actor entry.kind ≡ true
  places : length hands ≡ count_of w
  others : (shard : ℕ) → shard ≢ entry.shard → slice_index_or hands shard None ≡ slice_index_or w.in_hand shard None
  named : AllNamed (IsThere desk.books.servers) (after_kind (world_record w entry.shard) entry.kind).stand
  here : AgreesWithHand (w.history ++ entry ∷ [])
      (after_kind (world_record w entry.shard) entry.kind).admitted entry.shard (slice_index_or hands entry.shard None)

module _ {Q : Type 0} (w : WorldState Q) (entry : Entry Q) (desk : DeskView) (hands : List (Option (InHand Q)))
    (sound : IsSound w) (next : IsNext w entry desk hands) where
  abbrev grown : WorldState Q
  grown = record w { desk = desk; history = w.history ++ entry ∷ []; in_hand = hands }

  abbrev HeldAt : ℕ → Type 0
  HeldAt shard =
      AgreesWithHand grown.history (world_record grown shard).admitted shard (slice_index_or hands shard None)

  held_own : HeldAt entry.shard
  held_own =
      let at = ap (λ state. state.admitted) (record_at-push (count_of w) w.frame.ceiling w.history entry next.fit) in
      subst (λ admitted. AgreesWithHand grown.history admitted entry.shard (slice_index_or hands entry.shard None))
      (sym at) next.here

  held_apart : (shard : ℕ) → shard < count_of w → shard ≢ entry.shard → HeldAt shard
  held_apart shard within apart =
      let at = ap (λ state. state.admitted)
      (record_at-push_other (count_of w) w.frame.ceiling w.history entry shard apart next.fit) in
      let other : (entry.shard == shard) ≡ false = ne_eqb entry.shard shard (λ same. apart (sym same)) in
      let before :
      AgreesWithHand w.history (world_record grown shard).admitted shard (slice_index_or w.in_hand shard None) =
      subst (λ admitted. AgreesWithHand w.history admitted shard (slice_index_or w.in_hand shard None)) (sym at)
      (sound.held shard within) in
      held_other w.history entry (world_record grown shard).admitted shard (slice_index_or hands shard None) other
      (rw (next.others shard apart) before)

  abbrev NamedAt : ℕ → Type 0
  NamedAt shard = AllNamed (IsThere desk.books.servers) (world_record grown shard).stand

  named_own : NamedAt entry.shard
  named_own = subst (λ (state : Record). AllNamed (IsThere desk.books.servers) state.stand)
      (sym (record_at-push (count_of w) w.frame.ceiling w.history entry next.fit)) next.named

  named_apart : (shard : ℕ) → shard < count_of w → shard ≢ entry.shard → NamedAt shard
  named_apart shard within apart =
      subst (λ (state : Record). AllNamed (IsThere desk.books.servers) state.stand)
      (sym (record_at-push_other (count_of w) w.frame.ceiling w.history entry shard apart next.fit))
      (subst (λ servers. AllNamed (IsThere servers) (world_record w shard).stand) (sym next.servers)
      (sound.named shard within))

  -- a world stays sound with an entry that may come next
  grown_sound : IsSound grown
  grown_sound = record {
    frame = sound.frame;
    desk = next.led;
    stands = next.stands ∙ ap (map (λ (state : Record). state.stand))
        (sym (table_of-push (count_of w) w.frame.ceiling w.history entry next.fit));
    legal = legal-push (count_of w) w.frame.ceiling w.history entry sound.legal next.fit;
    own_server = list_all-append _ w.history (entry ∷ []) ∙ rw (sound.own_server, next.own_server) refl;
    named = λ shard within. ⊎_elim (λ same. subst NamedAt (sym same) named_own) (named_apart shard within)
        (cases_eq shard entry.shard);
    flights = subst (λ servers. All (IsFlight (count_of w) servers) w.in_flight) (sym next.servers) sound.flights;
    hands = next.places;
    held = λ shard within. ⊎_elim (λ same. subst HeldAt (sym same) held_own) (held_apart shard within)
        (cases_eq shard entry.shard);
  }

-- a fact that holds if no fault of the table applies
not_busy : {X : Type 0} (room busy : Bool) (x y : X)
    → (if not room then Some x else if busy then Some y else None) ≡ None → busy ≡ false
not_busy true false x y none = refl
not_busy true true x y none = absurd cc
not_busy false busy x y none = absurd cc

not_mapped : {X Y : Type 0} (of : X → Y) (option : Option X) → option_map of option ≡ None → option ≡ None
not_mapped of None none = refl
not_mapped of (Some x) none = absurd cc

not_zero : (server : ℕ) → 1 ≤ server → not (server == 0) ≡ true
not_zero server some = grind (arith, nat_tests)

module _ {Q : Type 0} (w : WorldState Q) (sound : IsSound w) where
  long_table : length (world_table w) ≡ count_of w
  long_table = length-table_of (count_of w) w.frame.ceiling w.history

  -- an entry that doesn't change the stand of its shard changes no stand
  stands_stay : (shard : ℕ) (after : Record) → after.stand ≡ (world_record w shard).stand
      → stands_of w.desk ≡ map (λ (state : Record). state.stand) (slice_set (world_table w) shard after)
  stands_stay shard after stays =
      sound.stands ∙ sym (map-set_same (λ (state : Record). state.stand) (world_table w) shard after vacant stays)

  -- the desk has a shard for each record, with the stand of that record
  pub shards_long : length w.desk.books.shards ≡ length (world_table w)
  shards_long = omega (
    arith,
    ap length sound.stands,
    length-map w.desk.books.shards (λ (one : Shard). one.stand),
    length-map (world_table w) (λ (one : Record). one.stand),
  )

  pub same_stand : (shard : ℕ) → shard < length w.desk.books.shards
      → (shard_at w.desk.books.shards shard).stand ≡ (world_record w shard).stand
  same_stand shard below =
      let long = shards_long in
      let inside : shard < length (world_table w) = omega arith in
      sym (get_or-map (λ (one : Shard). one.stand) w.desk.books.shards shard no_shard Vacant below)
      ∙ ap (λ all. slice_index_or all shard Vacant) sound.stands
      ∙ get_or-map (λ (one : Record). one.stand) (world_table w) shard vacant Vacant inside

  -- a change that neither the desk nor the table refuses
  pub sound_change : (shard : ℕ) (change : Change) → desk_fault w.desk (ChangeOf shard change) ≡ None
      → table_fault w (ChangeOf shard change) ≡ None
      → IsSound (record (with_entry w 0 shard (Changed change)) { desk = commanded w.desk (ChangeOf shard change) })
  sound_change shard change desk table =
      let state = world_record w shard in
      let shards = w.desk.books.shards in
      let allowed = let_through w.desk.books shard change desk in
      let below = allowed.within in
      let count = long_table in
      let long = shards_long in
      let inside : shard < length (world_table w) = omega arith in
      let within : shard < count_of w = omega arith in
      let stand : (shard_at shards shard).stand ≡ state.stand = same_stand shard below in
      let phase : phase_fault state.stand change ≡ None =
      ap (λ at. phase_fault at change) (sym stand) ∙ allowed.phase in
      let free : record_fault w.frame.ceiling state ≡ None =
      not_mapped (λ fault. ChangeRefused fault) (record_fault w.frame.ceiling state) table in
      let idle : state.admitted ≡ false = not_busy (nat_lt state.generation w.frame.ceiling) state.admitted _ _ free in
      let entry : Entry Q = record { actor = 0; shard = shard; kind = Changed change } in
      grown_sound w entry (commanded w.desk (ChangeOf shard change)) w.in_hand sound (record {
        led = led_on w.frame.start w.desk (ChangeOf shard change) sound.desk desk;
        stands =
            map-set (λ (one : Shard). one.stand) shards shard (moved (shard_at shards shard)
            (unwrap_or (stand_after (shard_at shards shard).stand change) (shard_at shards shard).stand))
            ∙ ap (λ at. slice_set (map (λ (one : Shard). one.stand) shards) shard
            (unwrap_or (stand_after at change) at)) stand
            ∙ ap (λ all. slice_set all shard (unwrap_or (stand_after state.stand change) state.stand)) sound.stands
            ∙ sym (map-set (λ (one : Record). one.stand) (world_table w) shard (after_change state change));
        servers = refl;
        fit = and_from _ _ (lt-ltb _ _ inside)
            (change_fits-no_fault w.frame.ceiling state change ∙ and_from _ _ (ap is_none phase) (ap is_none free));
        own_server = refl;
        places = sound.hands;
        others = λ _ _. refl;
        named = names_after w.desk.books.servers state.stand change (sound.named shard within) allowed.known;
        here = held_idle w.history (w.history ++ entry ∷ []) state.admitted shard
            (slice_index_or w.in_hand shard None) idle (sound.held shard within);
      })

  -- the admission of a server that no fault keeps out, with its request in hand
  pub sound_admit : (server shard : ℕ) (mode : Mode) (hand : InHand Q) → shard < count_of w → IsServer server
      → server ≡ hand.server → admit_fault w.frame.ceiling (world_record w shard) server mode ≡ None
      → IsSound (with_hand (with_entry w server shard (Admit server mode)) shard (Some hand))
  sound_admit server shard mode hand within is same none =
      let count = long_table in
      let long = sound.hands in
      let inside : shard < length (world_table w) = omega arith in
      let alone = acts_as_itself w.history server sound.own_server in
      let accepted = sym (admit_fault-none w.frame.ceiling (world_record w shard) server mode) ∙ ap is_none none in
      let placed : slice_index_or (slice_set w.in_hand shard (Some hand)) shard None ≡ Some hand =
      get_or-set_same w.in_hand shard (Some hand) None (omega arith) in
      let entry : Entry Q = record { actor = server; shard = shard; kind = Admit server mode } in
      grown_sound w entry w.desk (slice_set w.in_hand shard (Some hand)) sound (record {
        led = sound.desk;
        stands = stands_stay shard (after_kind {Q = Q} (world_record w shard) (Admit server mode)) refl;
        servers = refl;
        fit = and_from _ _ (lt-ltb _ _ inside) (and_from _ _ (not_zero server is.0) (and_from _ _ alone accepted));
        own_server = eq-eqb server server refl;
        places = length-set w.in_hand shard (Some hand) ∙ sound.hands;
        others = λ other apart. get_or-set_other w.in_hand shard other (Some hand) None apart;
        named = sound.named shard within;
        here = rw placed (
          refl,
          rw (reverse-append w.history (entry ∷ [])) (rw (eq-eqb shard shard refl)
              (and_from _ _ (eq-eqb server hand.server same) refl)),
        );
      })

  -- the end of an admission by the server that has its request in hand
  pub sound_done : (shard : ℕ) (hand : InHand Q) (ending : Ending Q) → slice_index_or w.in_hand shard None ≡ Some hand
      → IsSound (ended w shard hand.server ending)
  sound_done shard hand ending is =
      let count = long_table in
      let long = sound.hands in
      let there : shard < length w.in_hand = hand_within w.in_hand shard hand is in
      let inside : shard < length (world_table w) = omega arith in
      let held : AgreesWithHand w.history (world_record w shard).admitted shard (Some hand) =
      subst (λ one. AgreesWithHand w.history (world_record w shard).admitted shard one) is
      (sound.held shard (omega arith)) in
      let freed : slice_index_or (slice_set w.in_hand shard None) shard None ≡ None =
      get_or-set_same w.in_hand shard None None there in
      grown_sound w (record { actor = hand.server; shard = shard; kind = Done ending }) w.desk
      (slice_set w.in_hand shard None) sound (record {
        led = sound.desk;
        stands = stands_stay shard (after_kind {Q = Q} (world_record w shard) (Done ending)) refl;
        servers = refl;
        fit = and_from _ _ (lt-ltb _ _ inside) (and_from _ _ held.0 held.1);
        own_server = refl;
        places = length-set w.in_hand shard None ∙ sound.hands;
        others = λ other apart. get_or-set_other w.in_hand shard other None None apart;
        named = sound.named shard (omega arith);
        here = rw freed refl;
      })

-- an admission that ends at once: nothing is in hand before it or after it
module _ {Q : Type 0} (w : WorldState Q) (sound : IsSound w) where
  pub sound_admit_done : (server shard : ℕ) (ending : Ending Q) → shard < count_of w → IsServer server
      → admit_fault w.frame.ceiling (world_record w shard) server Direct ≡ None
      → IsSound (with_entry (with_entry w server shard (Admit server Direct)) server shard (Done ending))
  sound_admit_done server shard ending within is none =
      let hand : InHand Q = record { server = server; work = None } in
      let held = sound_admit w sound server shard Direct hand within is refl none in
      let count = sound.hands in
      let there : slice_index_or (slice_set w.in_hand shard (Some hand)) shard None ≡ Some hand =
      get_or-set_same w.in_hand shard (Some hand) None (omega arith) in
      let idle : (world_record w shard).admitted ≡ false =
      not-true (world_record w shard).admitted (and_parts (not (world_record w shard).admitted) _
      (sym (admit_fault-none w.frame.ceiling (world_record w shard) server Direct) ∙ ap is_none none)).0 in
      let free : slice_index_or w.in_hand shard None ≡ None = none_held w.history (world_record w shard).admitted shard
      (slice_index_or w.in_hand shard None) idle (sound.held shard within) in
      let same : slice_set (slice_set w.in_hand shard (Some hand)) shard None ≡ w.in_hand = set-set w.in_hand shard
      (Some hand) None ∙ (ap (slice_set w.in_hand shard) (sym free) ∙ set-get_or w.in_hand shard None) in
      subst (λ hands. IsSound (record (with_entry (with_entry w server shard (Admit server Direct)) server shard
      (Done ending)) { in_hand = hands })) same
      (sound_done
      (with_hand (with_entry w server shard (Admit server Direct)) shard (Some hand)) held shard hand ending there)
