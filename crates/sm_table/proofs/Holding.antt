-- A server that holds a shard without a request, in the parts and in the world that they stand for.
use Rattle.std.proofs.Common.{◌≡◌, ℕ, ◌<◌, ◌≤◌, true, false, List, length, refl, sym, ap, subst, ◌∙◌, arith}
use Rattle.std.specs.Prelude.{Option, Some, None, Ok, Err, is_none, nat_lt, slice_index_or, slice_set}
use Rattle.std.proofs.lemmas.Bool.{lt-ltb}
use Rattle.std.proofs.lemmas.Bool.Decides.{nat_tests}
use Rattle.sm_ownership.specs.declared.entry.Kind.TheVariants.{Done}
use Rattle.sm_ownership.specs.declared.mode.Mode.TheVariants.{Direct}
use Rattle.sm_ownership.specs.declared.entry.Ending.TheVariants.{Nothing}
use Rattle.sm_ownership.specs.lemmas.Growth.{length-table_of}
use Rattle.sm_ownership.specs.History.{record_at}
use Rattle.sm_ownership.specs.Rules.{admit_fault}
use Rattle.sm_ownership.specs.Tables.{TableView, table_done}
use Rattle.sm_ownership.specs.declared.route.Route.{Route}
use Rattle.sm_table.specs.declared.hands.InHand.{InHand}
use Rattle.sm_table.specs.declared.hands.Work.{Work}
use Rattle.sm_table.specs.declared.step.Step.TheVariants.{Hold, Free}
use Rattle.sm_table.specs.declared.world_answer.WorldAnswer.TheVariants.{Made}
use Rattle.sm_table.specs.declared.world_fault.WorldFault.TheVariants.{NotHeld, UnknownShard}
use Rattle.sm_desk.specs.Desk.{is_known, DeskView}
use Rattle.sm_table.specs.Hands.{is_alone}
use Rattle.sm_body.specs.Service.{Meaning}
use Rattle.sm_table.specs.World.{WorldState, Plain, count_of, is_there, world_record, ended}
use Rattle.sm_table.specs.World.{outcome}
use Rattle.sm_table.specs.Standing.{WorldView, view_of, StandsFor, Follows, with_admission, world_table}
use Rattle.sm_table.proofs.Admissions.{entered, entered_parts, entered_keeps}
use Rattle.sm_table.proofs.Endings.{in_hand, done_parts, done_parts_of}
use Rattle.sm_table.specs.Bodies.{BodiesView}
use Rattle.sm_table.specs.declared.world.Flight.{Flight}
use Rattle.sm_table.proofs.Pasts.{past_of-push_none}
use Rattle.sm_table.proofs.Parts.{parts-from_StandsFor, Follows-unchanged, Follows-changed}
use Rattle.sm_table.specs.lemmas.Steps.{freed, let_go}

in_hand-alone : {Q : Type 0} (own : ℕ) (some : Option (Work Q)) → true ≡ is_none some
    → in_hand own some ≡ in_hand own None
in_hand-alone own None is = refl
in_hand-alone own (Some one) is = absurd cc

-- the hand of a server that holds the shard without a request
pub hand-from_alone : {Q : Type 0} (hand : Option (InHand Q)) → true ≡ is_alone hand
    → (server : ℕ) × (hand ≡ in_hand server None)
hand-from_alone None is = absurd cc
hand-from_alone (Some hand) is = (hand.server, in_hand-alone hand.server hand.work is)

let_go-some : {Q R : Type 0} (w : WorldState Q) (shard server : ℕ) (work : Option (Work Q)) → is_none work ≡ false
    → let_go {R = R} w shard server work ≡ (Err NotHeld, w)
let_go-some w shard server None some = absurd cc
let_go-some w shard server (Some work) some = refl

freed-not_alone : {Q R : Type 0} (w : WorldState Q) (shard : ℕ) (hand : Option (InHand Q)) → is_alone hand ≡ false
    → freed {R = R} w shard hand ≡ (Err NotHeld, w)
freed-not_alone w shard None alone = refl
freed-not_alone w shard (Some hand) alone = let_go-some w shard hand.server hand.work alone

-- a shard past the records isn't there
pub past_shards : {Q : Type 0} {bounds : List (List ℕ)} {desk_was : DeskView} {table_was : TableView}
    {bodies_was : BodiesView Q} {routes_was : List (Option Route)} {flights_was : List (Flight Q)}
    {hands_was : List (Option (InHand Q))} (now : WorldView Q)
    → view_of bounds desk_was table_was bodies_was routes_was flights_was hands_was ≡ now → (w : WorldState Q)
    → StandsFor now w → (shard : ℕ) → length table_was.records ≤ shard → nat_lt shard (count_of w) ≡ false
past_shards {Q = Q} {table_was = table_was} now same w given shard past =
    let shown : table_was.records ≡ world_table w = ap (λ (v : WorldView Q). v.records) same ∙ given.records in
    let long = length-table_of (count_of w) w.frame.ceiling w.history in
    let as_long : length table_was.records ≡ length (world_table w) = ap length shown in
    grind (arith, nat_tests)

pub not_a_shard : {Q R : Type 0} (service : Meaning Q R) {bounds : List (List ℕ)} {desk_was : DeskView}
    {table_was : TableView} {bodies_was : BodiesView Q} {routes_was : List (Option Route)}
    {flights_was : List (Flight Q)} {hands_was : List (Option (InHand Q))} (now : WorldView Q)
    → view_of bounds desk_was table_was bodies_was routes_was flights_was hands_was ≡ now → (w : WorldState Q)
    → StandsFor now w → (shard server : ℕ) → length table_was.records ≤ shard
    → Follows {R = R} now (Err UnknownShard) (outcome service w Plain (Hold shard server))
not_a_shard service now same w given shard server past =
    Follows-unchanged service w Plain (Hold shard server) now now (Err UnknownShard) given
    (rw (past_shards now same w given shard past) refl) refl

module _ {Q R : Type 0} (service : Meaning Q R) {bounds : List (List ℕ)} {desk_was : DeskView} {table_was : TableView}
    {bodies_was : BodiesView Q} {routes_was : List (Option Route)} {flights_was : List (Flight Q)}
    {hands_was : List (Option (InHand Q))} (now : WorldView Q)
    (same : view_of bounds desk_was table_was bodies_was routes_was flights_was hands_was ≡ now) (w : WorldState Q)
    (given : StandsFor now w) (shard : ℕ) (within : shard < length table_was.records) where
  abbrev v : WorldView Q
  v = view_of bounds desk_was table_was bodies_was routes_was flights_was hands_was

  stands : StandsFor v w
  stands = subst (λ u. StandsFor u w) (sym same) given

  inside : nat_lt shard (count_of w) ≡ true
  inside = let there : shard < count_of w = omega (
    arith,
    ap length stands.records,
    length-table_of (count_of w) w.frame.ceiling w.history,
  ) in lt-ltb _ _ there

  -- the server is admitted
  pub held_by : (server : ℕ) (after : WorldView Q) → is_known v.desk.books.servers server ≡ true
      → None ≡ admit_fault v.ceiling (record_at v.records shard) server Direct → after ≡ with_admission v shard
      (record { server = server; work = None }) → Follows after (Ok Made) (outcome service w Plain (Hold shard server))
  held_by server after knows is admitted =
      let hand : InHand Q = record { server = server; work = None } in
      let known : is_there w server ≡ true =
      ap (λ (desk : DeskView). is_known desk.books.servers server) (sym stands.desk) ∙ knows in
      let by_record : admit_fault w.frame.ceiling (world_record w shard) server Direct ≡ None =
      ap (λ ceiling. admit_fault ceiling (world_record w shard) server Direct) (sym stands.ceiling)
      ∙ ap (λ records. admit_fault v.ceiling (record_at records shard) server Direct) (sym stands.records)
      ∙ sym is in
      Follows-changed service w Plain (Hold shard server) after (Ok Made)
      (entered w server shard Direct hand v.pasts) v.pasts stands.sound (rw inside (rw known (rw by_record refl)))
      (λ sound. admitted ∙ ap (λ u. with_admission u shard hand) (parts-from_StandsFor v w stands)
      ∙ entered_parts w server shard Direct hand v.pasts sound)
      (λ _. entered_keeps w server shard Direct hand v.pasts (record { bodies = stands.bodies; each = stands.pasts }))

  -- no server holds the shard without a request
  pub not_freed : (hands : List (Option (InHand Q))) → false ≡ is_alone (slice_index_or v.in_hand shard None) → hands
      ≡ v.in_hand → Follows {R = R} (record v { in_hand = hands }) (Err NotHeld) (outcome service w Plain (Free shard))
  not_freed hands alone stays =
      let not_alone : is_alone (slice_index_or w.in_hand shard None) ≡ false =
      ap (λ all. is_alone (slice_index_or all shard None)) (sym stands.in_hand) ∙ sym alone in
      Follows-unchanged service w Plain (Free shard) (record v { in_hand = hands }) v (Err NotHeld) stands
      (rw inside (freed-not_alone w shard (slice_index_or w.in_hand shard None) not_alone))
      (ap (λ all. record v { in_hand = all }) stays)

  -- the server lets the shard go
  pub freed_by : (server : ℕ) (table : TableView) (hands : List (Option (InHand Q)))
      → slice_index_or v.in_hand shard None ≡ in_hand server None
      → table ≡ table_done (record { records = v.records; ceiling = v.ceiling }) shard
      → hands ≡ slice_set v.in_hand shard None → Follows (record v {
        records = table.records;
        ceiling = table.ceiling;
        in_hand = hands;
      }) (Ok Made) (outcome service w Plain (Free shard))
  freed_by server table hands held done let_go =
      let in_hand_of_world : slice_index_or w.in_hand shard None ≡ in_hand server None =
      ap (λ all. slice_index_or all shard None) (sym stands.in_hand) ∙ held in
      Follows-changed service w Plain (Free shard)
      (record v { records = table.records; ceiling = table.ceiling; in_hand = hands }) (Ok Made)
      (ended w shard server Nothing) v.pasts stands.sound (rw inside (rw in_hand_of_world refl))
      (λ sound. ap (λ (t : TableView). record v { records = t.records; ceiling = t.ceiling; in_hand = hands }) done
      ∙ ap
      (λ all. record v {
        records = (table_done (record { records = v.records; ceiling = v.ceiling }) shard).records;
        in_hand = all;
      }) let_go
      ∙ ap (done_parts w shard server Nothing v.pasts) (parts-from_StandsFor v w stands)
      ∙ done_parts_of w shard server Nothing v.pasts v.pasts sound)
      (λ _. record {
        bodies = stands.bodies;
        each = λ other there. stands.pasts other there ∙ sym (past_of-push_none
            w.history (record { actor = server; shard = shard; kind = Done Nothing }) other refl);
      })
