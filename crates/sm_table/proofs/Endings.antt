-- The end of an admission, in the parts and in the world that they stand for.
use Rattle.std.proofs.Common.{◌≡◌, ℕ, ◌<◌, ◌≤◌, true, false, List, [], ◌∷◌, ◌++◌, length, refl, sym, ap, subst, ◌∙◌}
use Rattle.std.proofs.Common.{arith, ⊎_elim}
use Rattle.std.specs.Prelude.{Option, Some, None, Ok, Err, nat_lt, slice_index_or, slice_set, ◌==◌}
use Rattle.std.proofs.lemmas.Bool.{cases_eq, lt-ltb}
use Rattle.std.proofs.lemmas.Bool.Decides.{nat_tests}
use Rattle.std.proofs.lemmas.List.{get_or-set_same, get_or-set_other, length-set}
use Rattle.sm_ownership.specs.declared.entry.Ending.{Ending}
use Rattle.sm_ownership.specs.declared.entry.Ending.TheVariants.{Nothing, Request}
use Rattle.sm_ownership.specs.declared.entry.Entry.{Entry}
use Rattle.sm_ownership.specs.declared.entry.Kind.TheVariants.{Done}
use Rattle.sm_ownership.specs.declared.route.Route.{Route}
use Rattle.sm_table.specs.declared.hands.InHand.{InHand}
use Rattle.sm_table.specs.declared.hands.Work.{Work}
use Rattle.sm_table.specs.Hands.{work_of}
use Rattle.std.specs.Option.{option_map}
use Rattle.sm_envelope.specs.declared.refusal.Refusal.TheVariants.{KeptFull, NoMemory as NoMemoryFor}
use Rattle.sm_table.specs.declared.step.Step.TheVariants.{Finish}
use Rattle.sm_table.specs.declared.world_answer.WorldAnswer.TheVariants.{Replied, Refused}
use Rattle.sm_table.specs.declared.world_fault.WorldFault.TheVariants.{NotHeld}
use Rattle.sm_ownership.specs.History.{record_at, after_done, all_of, kept}
use Rattle.sm_table.specs.Bodies.{BodiesView, Past, kept_in, no_past, past_after, past_at, past_of}
use Rattle.sm_ownership.specs.Tables.{TableView, table_done}
use Rattle.sm_body.specs.Service.{Meaning}
use Rattle.sm_table.specs.World.{WorldState, Mark, Plain, Unserved, count_of, ended, outcome}
use Rattle.sm_table.specs.Standing.{IsSound, WorldView, view_of, StandsFor, Follows}
use Rattle.sm_ownership.specs.lemmas.Growth.{fits-push, table_of-push}
use Rattle.sm_table.proofs.Pasts.{past_of-push, past_of-push_none, past_of-push_other}
use Rattle.sm_table.proofs.Parts.{parts_of, Keeps, parts-from_StandsFor, Follows-unchanged, Follows-changed}
use Rattle.sm_desk.specs.Desk.{DeskView}
use Rattle.sm_table.specs.declared.world.Flight.{Flight}
use Rattle.sm_table.specs.lemmas.Entries.{hand_within}
use Rattle.sm_table.specs.lemmas.Steps.{served, worked}

-- the work in hand, by its parts
abbrev pub in_hand : {Q : Type 0} → ℕ → Option (Work Q) → Option (InHand Q)
in_hand server work = Some (record { server = server; work = work })

abbrev begun : {Q : Type 0} → ℕ → Work Q → ℕ × Work Q
begun server work = (server, work)

abbrev hand_with : {Q : Type 0} → ℕ × Work Q → InHand Q
hand_with begun = record { server = begun.0; work = Some begun.1 }

in_hand-begun : {Q : Type 0} (own : ℕ) (some : Option (Work Q)) (begun_by : ℕ × Work Q)
    → Some begun_by ≡ option_map (begun own) some → in_hand own some ≡ in_hand begun_by.0 (Some begun_by.1)
in_hand-begun own None begun_by is = absurd cc
in_hand-begun own (Some one) begun_by is = ap (option_map hand_with) (sym is)

-- the work in hand if a server has begun a request
pub hand-from_work : {Q : Type 0} (hand : Option (InHand Q)) (begun_by : ℕ × Work Q) → Some begun_by ≡ work_of hand
    → hand ≡ in_hand begun_by.0 (Some begun_by.1)
hand-from_work None begun_by is = absurd cc
hand-from_work (Some hand) begun_by is = in_hand-begun hand.server hand.work begun_by is

module _ {Q : Type 0} (w : WorldState Q) (shard : ℕ) (server : ℕ) (ending : Ending Q) where
  -- the parts after the end, as the code makes them
  abbrev pub done_parts : List (Past Q) → WorldView Q → WorldView Q
  done_parts pasts v = record v {
    records = slice_set v.records shard (after_done (record_at v.records shard));
    pasts = pasts;
    in_hand = slice_set v.in_hand shard None;
  }

  -- the parts after the end are the parts of the world after it
  pub done_parts_of : (pasts before : List (Past Q)) → IsSound (ended w shard server ending)
      → done_parts pasts (parts_of w before) ≡ parts_of (ended w shard server ending) pasts
  done_parts_of pasts before after =
      let entry : Entry Q = record { actor = server; shard = shard; kind = Done ending } in
      let grown = table_of-push (count_of w) w.frame.ceiling w.history entry
      (fits-push (count_of w) w.frame.ceiling w.history entry after.legal) in
      ap (λ records. record (done_parts pasts (parts_of w before)) { records = records }) (sym grown)

worked-none :
    {Q R : Type 0} (service : Meaning Q R) (w : WorldState Q) (mark : Mark) (shard server : ℕ) (work : Option (Work Q))
    → None ≡ option_map (begun server) work → worked service w mark shard server work ≡ (Err NotHeld, w)
worked-none service w mark shard server None none = refl
worked-none service w mark shard server (Some work) none = absurd cc

served-none : {Q R : Type 0} (service : Meaning Q R) (w : WorldState Q) (mark : Mark) (shard : ℕ)
    (hand : Option (InHand Q)) → None ≡ work_of hand → served service w mark shard hand ≡ (Err NotHeld, w)
served-none service w mark shard None none = refl
served-none service w mark shard (Some hand) none = worked-none service w mark shard hand.server hand.work none

module _ {Q R : Type 0} (service : Meaning Q R) {bounds : List (List ℕ)} {desk_was : DeskView} {table_was : TableView}
    {bodies_was : BodiesView Q} {routes_was : List (Option Route)} {flights_was : List (Flight Q)}
    {hands_was : List (Option (InHand Q))} (now : WorldView Q)
    (same : view_of bounds desk_was table_was bodies_was routes_was flights_was hands_was ≡ now) (w : WorldState Q)
    (given : StandsFor now w) (shard : ℕ) where
  -- no server has begun a request on the shard
  pub not_begun : (hands : List (Option (InHand Q))) → None ≡ work_of (slice_index_or hands_was shard None)
      → hands ≡ hands_was → Follows {R = R} (view_of bounds desk_was table_was bodies_was routes_was flights_was hands)
      (Err NotHeld) (outcome service w Plain (Finish shard))
  not_begun hands none stays =
      let before = view_of bounds desk_was table_was bodies_was routes_was flights_was in
      let stands : StandsFor (before hands_was) w = subst (λ u. StandsFor u w) (sym same) given in
      let nothing : None ≡ work_of (slice_index_or w.in_hand shard None) =
      none ∙ ap (λ all. work_of (slice_index_or all shard None)) stands.in_hand in
      Follows-unchanged service w Plain (Finish shard) (before hands) (before hands_was) (Err NotHeld) stands
      (served-none service w Plain shard (slice_index_or w.in_hand shard None) nothing)
      (ap (λ all. before all) stays)

module _ {Q R : Type 0} (service : Meaning Q R) {bounds : List (List ℕ)} {desk_was : DeskView} {table_was : TableView}
    {bodies_was : BodiesView Q} {routes_was : List (Option Route)} {flights_was : List (Flight Q)}
    {hands_was : List (Option (InHand Q))} (now : WorldView Q)
    (same : view_of bounds desk_was table_was bodies_was routes_was flights_was hands_was ≡ now) (w : WorldState Q)
    (given : StandsFor now w) (shard : ℕ) (server : ℕ) (work : Work Q)
    (held : slice_index_or hands_was shard None ≡ in_hand server (Some work)) where
  abbrev v : WorldView Q
  v = view_of bounds desk_was table_was bodies_was routes_was flights_was hands_was

  stands : StandsFor v w
  stands = subst (λ u. StandsFor u w) (sym same) given

  inside : shard < count_of w
  inside = let within = hand_within v.in_hand shard (record { server = server; work = Some work }) held in
      omega (arith, ap length stands.in_hand, stands.sound.hands)

  in_hand_of_world : slice_index_or w.in_hand shard None ≡ in_hand server (Some work)
  in_hand_of_world = ap (λ hands. slice_index_or hands shard None) (sym stands.in_hand) ∙ held

  Keeps-none : Keeps (ended w shard server Nothing) v.pasts
  Keeps-none = record {
    bodies = stands.bodies;
    each = λ other there. stands.pasts other there ∙ sym (past_of-push_none
        w.history (record { actor = server; shard = shard; kind = Done Nothing }) other refl);
  }

  -- the shard's requests after such an end, among those of all
  abbrev pasts_after : Ending Q → List (Past Q)
  pasts_after ending = slice_set v.pasts shard (past_after (past_at v.pasts shard) ending)

  Keeps-end : (ending : Ending Q) → Keeps (ended w shard server ending) (pasts_after ending)
  Keeps-end ending =
      record {
        bodies = length-set v.pasts shard (past_after (past_at v.pasts shard) ending) ∙ stands.bodies;
        each = λ other there. each other there;
      }
    where
      each : (other : ℕ) → other < count_of w → past_at (pasts_after ending) other
          ≡ past_of (w.history ++ record { actor = server; shard = shard; kind = Done ending } ∷ []) other
      each other there = ⊎_elim
          (λ (at : other ≡ shard).
          ap (λ i. past_at (pasts_after ending) i) at
          ∙ get_or-set_same v.pasts shard (past_after (past_at v.pasts shard) ending) no_past
          (omega (arith, stands.bodies, inside))
          ∙ ap (λ past. past_after past ending) (stands.pasts shard inside)
          ∙ sym (past_of-push w.history (record { actor = server; shard = shard; kind = Done ending }) ending refl)
          ∙ ap (λ i. past_of (w.history ++ record { actor = server; shard = shard; kind = Done ending } ∷ []) i)
          (sym at))
          (λ (apart : other ≡ shard → ⊥).
          let differs : (shard == other) ≡ false = grind (arith, nat_tests) in
          get_or-set_other v.pasts shard other (past_after (past_at v.pasts shard) ending) no_past apart
          ∙ stands.pasts other there
          ∙ sym (past_of-push_other w.history
          (record { actor = server; shard = shard; kind = Done ending }) other differs))
          (cases_eq other shard)

  -- room in the parts is room in the world
  has_room : length (kept_in (past_at v.pasts shard)) < slice_index_or v.limits shard 0
      → nat_lt (length (kept w.history shard)) (slice_index_or w.frame.limits shard 0) ≡ true
  has_room room =
      let past : past_at v.pasts shard ≡ past_of w.history shard = stands.pasts shard inside in
      let below : length (kept w.history shard) < slice_index_or w.frame.limits shard 0 =
      subst (λ one. length (kept_in one) < slice_index_or w.frame.limits shard 0) past
      (subst (λ all. length (kept_in (past_at v.pasts shard)) < slice_index_or all shard 0) stands.limits room) in
      lt-ltb _ _ below

  module _ (table : TableView) (bodies : BodiesView Q) (hands : List (Option (InHand Q)))
      (done : table ≡ table_done (record { records = v.records; ceiling = v.ceiling }) shard)
      (limits : bodies.limits ≡ v.limits) (let_go : hands ≡ slice_set v.in_hand shard None) where
    -- the parts that the code makes
    abbrev pub parts : WorldView Q
    parts = record v {
      records = table.records;
      ceiling = table.ceiling;
      pasts = bodies.pasts;
      limits = bodies.limits;
      in_hand = hands;
    }

    parts_are : (pasts : List (Past Q)) → bodies.pasts ≡ pasts
        → parts ≡ record v {
          records = slice_set v.records shard (after_done (record_at v.records shard));
          pasts = pasts;
          in_hand = slice_set v.in_hand shard None;
        }
    parts_are pasts is =
        ap (λ (t : TableView). record v {
          records = t.records;
          ceiling = t.ceiling;
          pasts = bodies.pasts;
          limits = bodies.limits;
          in_hand = hands;
        }) done
        ∙ ap (λ all. record v {
          records = slice_set v.records shard (after_done (record_at v.records shard));
          pasts = all;
          limits = bodies.limits;
          in_hand = hands;
        }) is
        ∙ ap (λ all. record v {
          records = slice_set v.records shard (after_done (record_at v.records shard));
          pasts = pasts;
          limits = all;
          in_hand = hands;
        }) limits
        ∙ ap (λ all. record v {
          records = slice_set v.records shard (after_done (record_at v.records shard));
          pasts = pasts;
          in_hand = all;
        }) let_go

    parts_of_world : (ending : Ending Q) (pasts : List (Past Q)) → bodies.pasts ≡ pasts
        → IsSound (ended w shard server ending) → parts ≡ parts_of (ended w shard server ending) pasts
    parts_of_world ending pasts is after =
        parts_are pasts is
        ∙ ap (done_parts w shard server ending pasts) (parts-from_StandsFor v w stands)
        ∙ done_parts_of w shard server ending pasts v.pasts after

    -- the request was executed
    pub replied : (reply : R) (place : ℕ) → bodies.pasts ≡ pasts_after (Request work.request)
        → place ≡ length (past_at v.pasts shard).all → reply ≡ service.reply_of (past_at v.pasts shard).all work.request
        → length (kept_in (past_at v.pasts shard)) < slice_index_or v.limits shard 0
        → Follows parts (Ok (Replied work.number server reply place)) (outcome service w Plain (Finish shard))
    replied reply place keeps place_is reply_is room =
        let past : past_at v.pasts shard ≡ past_of w.history shard = stands.pasts shard inside in
        let lt = has_room room in
        let as_said : reply ≡ service.reply_of (all_of w.history shard) work.request =
        reply_is ∙ ap (λ one. service.reply_of one.all work.request) past in
        let at : place ≡ length (all_of w.history shard) = place_is ∙ ap (λ one. length one.all) past in
        Follows-changed service w Plain (Finish shard) parts (Ok (Replied work.number server reply place))
        (ended w shard server (Request work.request)) (pasts_after (Request work.request)) stands.sound
        (rw (in_hand_of_world, lt, as_said, at) refl)
        (λ after. parts_of_world (Request work.request) _ keeps after)
        (λ _. Keeps-end (Request work.request))

    -- the shard keeps as many requests as it may
    pub full : bodies.pasts ≡ v.pasts → slice_index_or v.limits shard 0 ≤ length (kept_in (past_at v.pasts shard))
        → Follows {R = R} parts (Ok (Refused KeptFull)) (outcome service w Plain (Finish shard))
    full keeps reached =
        let past : past_at v.pasts shard ≡ past_of w.history shard = stands.pasts shard inside in
        let above : slice_index_or w.frame.limits shard 0 ≤ length (kept w.history shard) =
        subst (λ one. slice_index_or w.frame.limits shard 0 ≤ length (kept_in one)) past (subst
        (λ all. slice_index_or all shard 0 ≤ length (kept_in (past_at v.pasts shard))) stands.limits reached) in
        let ge : nat_lt (length (kept w.history shard)) (slice_index_or w.frame.limits shard 0) ≡ false =
        not_below _ _ above in
        Follows-changed service w Plain (Finish shard) parts (Ok (Refused KeptFull))
        (ended w shard server Nothing) v.pasts stands.sound (rw (in_hand_of_world, ge) refl)
        (λ after. parts_of_world Nothing _ keeps after)
        (λ _. Keeps-none)
      where
        not_below : (a b : ℕ) → b ≤ a → nat_lt a b ≡ false
        not_below a b h = grind (arith, nat_tests)

    -- memory was refused to the service
    pub unserved : bodies.pasts ≡ v.pasts → length (kept_in (past_at v.pasts shard)) < slice_index_or v.limits shard 0
        → Follows {R = R} parts (Ok (Refused NoMemoryFor)) (outcome service w Unserved (Finish shard))
    unserved keeps room =
        let lt = has_room room in
        Follows-changed service w Unserved (Finish shard) parts (Ok (Refused NoMemoryFor))
        (ended w shard server Nothing) v.pasts stands.sound (rw (in_hand_of_world, lt) refl)
        (λ after. parts_of_world Nothing _ keeps after)
        (λ _. Keeps-none)
