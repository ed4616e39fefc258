-- When the parts of a `World` stand for a world of the definitions.
use Rattle.std.specs.Prelude.{ℕ, Bool, true, false, Option, Some, None, Result, ◌≡◌, ◌<◌, ◌≤◌, ◌^◌, List, [], ◌∷◌, All}
use Rattle.std.specs.Prelude.{length, map, replicate, reverse, slice_index_or, slice_set}
use Rattle.std.specs.List.{list_all}
use Rattle.sm_body.specs.Service.{Meaning}
use Rattle.sm_ranges.specs.Ranges.{IsLayout}
use Rattle.sm_ranges.specs.declared.stand.Stand.TheVariants.{Vacant}
use Rattle.sm_ranges.specs.Stand.{AllNamed}
use Rattle.sm_ownership.specs.declared.entry.Entry.{Entry}
use Rattle.sm_ownership.specs.declared.record.Record.{Record}
use Rattle.sm_ownership.specs.declared.route.Route.{Route}
use Rattle.sm_table.specs.declared.world.Flight.{Flight}
use Rattle.sm_table.specs.declared.hands.InHand.{InHand}
use Rattle.sm_table.specs.declared.world.Setup.{Setup}
use Rattle.sm_table.specs.declared.step.Step.{Step}
use Rattle.sm_table.specs.declared.world_answer.WorldAnswer.{WorldAnswer}
use Rattle.sm_table.specs.declared.world_fault.WorldFault.{WorldFault}
use Rattle.sm_desk.specs.declared.command.Command.{Command}
use Rattle.sm_desk.specs.Desk.{DeskView, commanded, desk_fault, is_known, stands_of}
use Rattle.sm_place.specs.Sound.{AreSound}
use Rattle.sm_rows.specs.declared.server_row.ServerRow.{ServerRow}
use Rattle.sm_tasks.specs.Caps.{MeetsCaps}
use Rattle.sm_ownership.specs.History.{after_admit, record_at, IsLegal, admits_only, is_admission_of, latest_of}
use Rattle.sm_ownership.specs.History.{table_of}
use Rattle.sm_ownership.specs.Tables.{TableView}
use Rattle.sm_table.specs.Bodies.{BodiesView, Past, past_at, past_of}
use Rattle.sm_table.specs.World.{Frame, WorldState, StepOutcome, count_of, last_routes, mark_of, outcome, world_record}

-- the world's ownership table
abbrev pub world_table : {Q : Type 0} → WorldState Q → List Record
world_table w = table_of (count_of w) w.frame.ceiling w.history

-- a frame that a world can be made with: bounds of a layout, and a desk whose books are sound and keep the caps, with a
-- vacant shard for each range
pub record IsFrame (frame : Frame) : Type 0 where
  pub layout : IsLayout frame.bounds
  pub books : AreSound frame.start.books
  pub caps : MeetsCaps frame.start.caps frame.start.books
  pub vacant : stands_of frame.start ≡ replicate (length frame.bounds) Vacant

-- the desk after these commands, the latest first
abbrev pub desk_after : DeskView → List Command → DeskView
desk_after desk [] = desk
desk_after desk (command ∷ earlier) = commanded (desk_after desk earlier) command

-- the desk refuses none of these commands
abbrev pub AreLetThrough : DeskView → List Command → Type 0
AreLetThrough desk [] = Unit {0}
AreLetThrough desk (command ∷ earlier) =
    (desk_fault (desk_after desk earlier) command ≡ None) × AreLetThrough desk earlier

-- the desk is the result of commands that it didn't refuse
pub record IsLedTo (start desk : DeskView) : Type 0 where
  pub commands : List Command
  pub leads : desk_after start commands ≡ desk
  pub through : AreLetThrough start commands

-- the frame of a world with this setup and with bodies of these limits
abbrev pub setup_frame : Setup → List ℕ → Frame
setup_frame setup limits =
    record { bounds = setup.layout; start = setup.desk; ceiling = setup.ceiling; limits = limits }

-- the server exists
abbrev pub IsThere : List ServerRow → ℕ → Type 0
IsThere servers server = is_known servers server ≡ true

-- an envelope is for a shard that is there, and goes to a server that is there
pub record IsFlight {Q : Type 0} (count : ℕ) (servers : List ServerRow) (flight : Flight Q) : Type 0 where
  pub shard : flight.envelope.shard < count
  pub server : IsThere servers flight.to

-- a shard is admitted if and only if a server has it in hand, and then that server was admitted last
abbrev pub AgreesWithHand : {Q : Type 0} → List (Entry Q) → Bool → ℕ → Option (InHand Q) → Type 0
AgreesWithHand history admitted shard None = admitted ≡ false
AgreesWithHand history admitted shard (Some hand) =
    (admitted ≡ true) × (is_admission_of hand.server (latest_of (reverse history) shard) ≡ true)

-- the facts that hold of each world that steps lead to
pub record IsSound {Q : Type 0} (w : WorldState Q) : Type 0 where
  pub frame : IsFrame w.frame
  pub desk : IsLedTo w.frame.start w.desk
  pub stands : stands_of w.desk ≡ map (λ state. state.stand) (world_table w)
  pub legal : IsLegal (count_of w) w.frame.ceiling w.history
  pub own_server : list_all (λ entry. admits_only entry.actor entry.kind) w.history ≡ true
  pub named : (shard : ℕ) → shard < count_of w → AllNamed (IsThere w.desk.books.servers) (world_record w shard).stand
  pub flights : All (IsFlight (count_of w) w.desk.books.servers) w.in_flight
  pub hands : length w.in_hand ≡ count_of w
  pub held : (shard : ℕ) → shard < count_of w
      → AgreesWithHand w.history (world_record w shard).admitted shard (slice_index_or w.in_hand shard None)

-- the parts of a `World`, as views
pub record WorldView (Q : Type 0) : Type 0 where
  pub bounds : List (List ℕ)
  pub desk : DeskView
  pub records : List Record
  pub ceiling : ℕ
  pub pasts : List (Past Q)
  pub limits : List ℕ
  pub routes : List (Option Route)
  pub in_flight : List (Flight Q)
  pub in_hand : List (Option (InHand Q))

-- the view of these parts
abbrev pub view_of : {Q : Type 0} → List (List ℕ) → DeskView → TableView → BodiesView Q → List (Option Route)
    → List (Flight Q) → List (Option (InHand Q)) → WorldView Q
view_of bounds desk table bodies routes in_flight in_hand = record {
  bounds = bounds;
  desk = desk;
  records = table.records;
  ceiling = table.ceiling;
  pasts = bodies.pasts;
  limits = bodies.limits;
  routes = routes;
  in_flight = in_flight;
  in_hand = in_hand;
}

-- each part has an element for each shard, the desk and the table have the same stands, flights are for shards that are
-- there, a shard that a server has in hand is admitted, and no shard has more requests than its generation
pub record IsTogether {Q : Type 0} (view : WorldView Q) : Type 0 where
  pub layout : length view.bounds ≡ length view.in_hand
  pub table : length view.records ≡ length view.in_hand
  pub stands : stands_of view.desk ≡ map (λ state. state.stand) view.records
  pub bodies : length view.pasts ≡ length view.in_hand
  pub routes : length view.routes ≡ length view.in_hand
  pub flights : All (λ flight. flight.envelope.shard < length view.in_hand) view.in_flight
  pub admitted : (shard : ℕ) (hand : InHand Q) → slice_index_or view.in_hand shard None ≡ Some hand
      → (record_at view.records shard).admitted ≡ true
  pub few : (shard : ℕ) → length (past_at view.pasts shard).all ≤ (record_at view.records shard).generation
  pub low : view.ceiling < 2 ^ 36

-- the parts are the parts of the world, and steps lead to that world
pub record StandsFor {Q : Type 0} (view : WorldView Q) (w : WorldState Q) : Type 0 where
  pub bounds : view.bounds ≡ w.frame.bounds
  pub desk : view.desk ≡ w.desk
  pub records : view.records ≡ world_table w
  pub ceiling : view.ceiling ≡ w.frame.ceiling
  pub bodies : length view.pasts ≡ count_of w
  pub pasts : (shard : ℕ) → shard < count_of w → past_at view.pasts shard ≡ past_of w.history shard
  pub limits : view.limits ≡ w.frame.limits
  pub routes : view.routes ≡ last_routes w
  pub in_flight : view.in_flight ≡ w.in_flight
  pub in_hand : view.in_hand ≡ w.in_hand
  pub sound : IsSound w

-- the step gave the answer that it must give, and the parts are the parts of the world that it leaves
pub record Follows {Q R : Type 0} (view : WorldView Q) (result : Result (WorldAnswer R) WorldFault)
    (outcome : StepOutcome Q R) : Type 0 where
  pub answered : result ≡ outcome.0
  pub stands : StandsFor view outcome.1

-- the step went as its answer says: if the parts stood for a world, it gave the answer that it must give, and the parts
-- stand for the next world
abbrev pub GoesAs : {Q R : Type 0} → Meaning Q R → WorldView Q → Result (WorldAnswer R) WorldFault → WorldView Q
    → Step Q → Type 0
GoesAs {Q = Q} service before result after step =
    (w : WorldState Q) → StandsFor before w → Follows after result (outcome service w (mark_of result) step)

-- the parts after an admission to a shard, with the hand that the server then has
abbrev pub with_admission : {Q : Type 0} → WorldView Q → ℕ → InHand Q → WorldView Q
with_admission view shard hand =
    record view {
      records = slice_set view.records shard (after_admit (record_at view.records shard));
      in_hand = slice_set view.in_hand shard (Some hand);
    }
