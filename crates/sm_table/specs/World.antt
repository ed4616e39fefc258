-- The world: shards, servers and requests on their way, as one thread would run them; the answer to each step, and the
-- world that the step leaves.
use Rattle.std.specs.Prelude.{ℕ, Bool, true, false, Option, Some, None, Result, Ok, Err, nat_lt, if◌then◌else◌, List}
use Rattle.std.specs.Prelude.{[], ◌∷◌, ◌++◌, length, map, remove, replicate, slice_get, slice_index_or, slice_set}
use Rattle.std.specs.List.{range_with_len}
use Rattle.std.specs.Option.{option_map, option_map_or, option_or}
use Rattle.sm_body.specs.Service.{Meaning}
use Rattle.sm_ranges.specs.Ranges.{shard_of}
use Rattle.sm_ownership.specs.declared.admit_fault.AdmitFault.{AdmitFault}
use Rattle.sm_desk.specs.declared.command.Command.{Command}
use Rattle.sm_desk.specs.declared.command.Command.TheVariants.{Change as ChangeOf}
use Rattle.sm_desk.specs.declared.command.CommandFault.{CommandFault}
use Rattle.sm_desk.specs.declared.command.CommandFault.TheVariants.{Change as ChangeRefused}
use Rattle.sm_ownership.specs.declared.entry.Ending.{Ending}
use Rattle.sm_ownership.specs.declared.entry.Ending.TheVariants.{Nothing, Request}
use Rattle.sm_ownership.specs.declared.entry.Entry.{Entry}
use Rattle.sm_ownership.specs.declared.entry.Kind.{Kind}
use Rattle.sm_ownership.specs.declared.entry.Kind.TheVariants.{Change as Changed, Admit, Done}
use Rattle.sm_ownership.specs.declared.mode.Mode.TheVariants.{Direct}
use Rattle.sm_ownership.specs.declared.record.Record.{Record}
use Rattle.sm_ownership.specs.declared.route.Route.{Route}
use Rattle.sm_table.specs.declared.world.Flight.{Flight}
use Rattle.sm_table.specs.declared.hands.InHand.{InHand}
use Rattle.sm_table.specs.declared.hands.Work.{Work}
use Rattle.sm_envelope.specs.declared.refusal.Refusal.TheVariants.{TooManyHops, Unreachable as NotReached}
use Rattle.sm_envelope.specs.declared.refusal.Refusal.TheVariants.{Admit as NotAdmitted, KeptFull}
use Rattle.sm_envelope.specs.declared.refusal.Refusal.TheVariants.{NoMemory as NoMemoryFor}
use Rattle.sm_table.specs.declared.step.Step.{Step}
use Rattle.sm_table.specs.declared.step.Step.TheVariants.{Control, Look, Send, Deliver, Finish, Lose, Hold, Free}
use Rattle.sm_table.specs.declared.step.Step.TheVariants.{Checkpoint as CheckpointAt, Publish, RouteOf}
use Rattle.sm_table.specs.declared.world_answer.WorldAnswer.{WorldAnswer}
use Rattle.sm_table.specs.declared.world_answer.WorldAnswer.TheVariants.{Made, Seen, Sent, Began, Forwarded, Refused}
use Rattle.sm_table.specs.declared.world_answer.WorldAnswer.TheVariants.{Replied, Way}
use Rattle.sm_table.specs.declared.world_fault.WorldFault.{WorldFault}
use Rattle.sm_table.specs.declared.world_fault.WorldFault.TheVariants.{Command as CommandRefused, Admit as AdmitRefused}
use Rattle.sm_table.specs.declared.world_fault.WorldFault.TheVariants.{UnknownShard, UnknownServer, Unreachable}
use Rattle.sm_table.specs.declared.world_fault.WorldFault.TheVariants.{NoEnvelope, NotHeld, OldRoute, WrongPhase}
use Rattle.sm_table.specs.declared.world_fault.WorldFault.TheVariants.{NoMemory}
use Rattle.sm_desk.specs.Desk.{DeskView, commanded, desk_fault, is_known, is_reached}
use Rattle.sm_envelope.specs.Envelope.{EnvelopeView, sent_on}
use Rattle.sm_ownership.specs.History.{all_of, checkpoint_ending, kept, record_at, table_of}
use Rattle.sm_ownership.specs.Routes.{is_old, record_route, routes_of}
use Rattle.sm_ownership.specs.Rules.{admit_fault, forward_to}
use Rattle.sm_ownership.specs.Tables.{record_fault}

-- the parts of a world that never change: the bounds of shards, the desk at the start, the greatest generation, and the
-- most requests by shard
pub record Frame : Type 0 where
  pub bounds : List (List ℕ)
  pub start : DeskView
  pub ceiling : ℕ
  pub limits : List ℕ

-- a world: the desk, the history, the publications in order, the envelopes in flight, and by shard the hand of its
-- server
pub record WorldState (Q : Type 0) : Type 0 where
  pub frame : Frame
  pub desk : DeskView
  pub history : List (Entry Q)
  pub publications : List Route
  pub in_flight : List (Flight Q)
  pub in_hand : List (Option (InHand Q))

-- how a step went: as it should, with its memory refused and nothing changed, or as a `Finish` whose service lacked it
pub data Mark : Type 0 where
  Plain : Mark
  Unmade : Mark
  Unserved : Mark

-- how a step may go: only a `Send` and a `Checkpoint` may have their memory refused, and only a `Finish` may have
-- memory refused to its service
abbrev pub may_go : {Q : Type 0} → Step Q → Mark → Bool
may_go step Plain = true
may_go (Send to number request) Unmade = true
may_go (CheckpointAt shard server) Unmade = true
may_go (Finish shard) Unserved = true
may_go step mark = false

-- the number of shards
abbrev pub count_of : {Q : Type 0} → WorldState Q → ℕ
count_of w = length w.frame.bounds

-- the record of a shard in a world's ownership table
abbrev pub world_record : {Q : Type 0} → WorldState Q → ℕ → Record
world_record w shard = record_at (table_of (count_of w) w.frame.ceiling w.history) shard

-- by shard, the last route that was published
abbrev pub last_routes : {Q : Type 0} → WorldState Q → List (Option Route)
last_routes w = map (routes_of w.publications) (range_with_len 0 (count_of w))

-- the answer to a step, and the world that it leaves
abbrev pub StepOutcome : Type 0 → Type 0 → Type 0
StepOutcome Q R = Result (WorldAnswer R) WorldFault × WorldState Q

-- a world with one more entry
abbrev pub with_entry : {Q : Type 0} → WorldState Q → ℕ → ℕ → Kind Q → WorldState Q
with_entry w actor shard kind =
    record w { history = w.history ++ record { actor = actor; shard = shard; kind = kind } ∷ [] }

-- a world with this hand for a shard
abbrev pub with_hand : {Q : Type 0} → WorldState Q → ℕ → Option (InHand Q) → WorldState Q
with_hand w shard hand = record w { in_hand = slice_set w.in_hand shard hand }

-- the server exists
abbrev pub is_there : {Q : Type 0} → WorldState Q → ℕ → Bool
is_there w server = is_known w.desk.books.servers server

-- the fault of the table in a command that the desk lets through
abbrev pub table_fault : {Q : Type 0} → WorldState Q → Command → Option CommandFault
table_fault w (ChangeOf shard change) =
    option_map (λ fault. ChangeRefused fault) (record_fault w.frame.ceiling (world_record w shard))
table_fault w command = None

-- a change is an entry of the history, by actor 0; a step of a restart isn't an entry
abbrev pub with_change : {Q : Type 0} → WorldState Q → Command → WorldState Q
with_change w (ChangeOf shard change) = with_entry w 0 shard (Changed change)
with_change w command = w

-- a command is made if neither the desk nor the table refuses it
abbrev pub after_control : {Q R : Type 0} → WorldState Q → Command → StepOutcome Q R
after_control w command = option_map_or (λ fault. (Err (CommandRefused fault), w))
    (option_or (desk_fault w.desk command) (table_fault w command))
    (Ok Made, record (with_change w command) { desk = commanded w.desk command })

-- an envelope in flight to a server
abbrev pub flight_to : {Q : Type 0} → ℕ → EnvelopeView Q (Unit {0}) → Flight Q
flight_to to envelope = record { to = to; envelope = envelope }

-- a direct envelope of this number, for the shard whose range covers the request's key
abbrev pub new_envelope : {Q R : Type 0} → Meaning Q R → List (List ℕ) → ℕ → Q → EnvelopeView Q (Unit {0})
new_envelope service bounds n asked = record
    { number = n; shard = shard_of bounds (service.key_of asked); mode = Direct; hops = 0; request = asked; note = tt }

-- a new envelope is put last in flight, if the server is reached
abbrev pub after_send : {Q R : Type 0} → Meaning Q R → WorldState Q → ℕ → ℕ → Q → StepOutcome Q R
after_send service w to number request =
    if is_there w to
    then (if is_reached w.desk to
    then (
      Ok Sent,
      record w { in_flight = w.in_flight ++ flight_to to (new_envelope service w.frame.bounds number request) ∷ [] },
    )
    else (Err Unreachable, w))
    else (Err UnknownServer, w)

-- the request of an envelope, as the server that begins it has it in hand
abbrev pub hand_of : {Q : Type 0} → ℕ → EnvelopeView Q (Unit {0}) → InHand Q
hand_of server envelope =
    record { server = server; work = Some (record { number = envelope.number; request = envelope.request }) }

-- the server is admitted for the envelope and has its request in hand, or refuses it
abbrev pub reached : {Q R : Type 0} → WorldState Q → ℕ → EnvelopeView Q (Unit {0}) → Option AdmitFault → StepOutcome Q R
reached w to envelope (Some fault) = (Ok (Refused (NotAdmitted fault)), w)
reached w to envelope None = (
  Ok (Began to),
  with_hand (with_entry w to envelope.shard (Admit to envelope.mode)) envelope.shard (Some (hand_of to envelope)),
)

-- a hop puts the envelope last in flight; if no hop is left, or the server isn't reached, the request is refused
abbrev pub after_hop : {Q R : Type 0} → DeskView → List (Flight Q)
    → Result (ℕ × EnvelopeView Q (Unit {0})) (EnvelopeView Q (Unit {0})) → WorldAnswer R × List (Flight Q)
after_hop desk in_flight (Ok hop) =
    if is_reached desk hop.0 then (Forwarded hop.0, in_flight ++ flight_to hop.0 hop.1 ∷ [])
    else (Refused NotReached, in_flight)
after_hop desk in_flight (Err envelope) = (Refused TooManyHops, in_flight)

-- a server that forwards requests for the shard forwards the envelope; any other server begins it or refuses it
abbrev pub arrived : {Q R : Type 0} → WorldState Q → ℕ → EnvelopeView Q (Unit {0}) → Option ℕ → StepOutcome Q R
arrived w at envelope None =
    reached w at envelope (admit_fault w.frame.ceiling (world_record w envelope.shard) at envelope.mode)
arrived w at envelope (Some to) = let hop = after_hop w.desk w.in_flight (sent_on envelope at (Some to)) in
    (Ok hop.0, record w { in_flight = hop.1 })

-- a world without the envelope at this place
abbrev pub without_flight : {Q : Type 0} → WorldState Q → ℕ → WorldState Q
without_flight w place = record w { in_flight = remove w.in_flight place }

-- the envelope at this place of those in flight reaches its server
abbrev pub after_deliver : {Q R : Type 0} → WorldState Q → ℕ → StepOutcome Q R
after_deliver w place = option_map_or (λ flight. arrived (without_flight w place) flight.to flight.envelope
    (forward_to (world_record w flight.envelope.shard) flight.to)) (slice_get w.in_flight place) (Err NoEnvelope, w)

-- the world after the admission ended in this way
abbrev pub ended : {Q : Type 0} → WorldState Q → ℕ → ℕ → Ending Q → WorldState Q
ended w shard server ending = with_hand (with_entry w server shard (Done ending)) shard None

-- a shard with room keeps the request and replies, unless memory for it is refused
abbrev pub with_room : {Q R : Type 0} → Meaning Q R → WorldState Q → Mark → ℕ → ℕ → Work Q → StepOutcome Q R
with_room service w Unserved shard server work = (Ok (Refused NoMemoryFor), ended w shard server Nothing)
with_room service w mark shard server work = (
  Ok (Replied work.number server (service.reply_of (all_of w.history shard) work.request)
      (length (all_of w.history shard))),
  ended w shard server (Request work.request),
)

-- an admission with work ends with its request, or is refused if the shard keeps as many requests as it may
abbrev pub finished : {Q R : Type 0} → Meaning Q R → WorldState Q → Mark → ℕ → ℕ → Work Q → StepOutcome Q R
finished service w mark shard server work =
    if nat_lt (length (kept w.history shard)) (slice_index_or w.frame.limits shard 0)
    then with_room service w mark shard server work
    else (Ok (Refused KeptFull), ended w shard server Nothing)

-- the server with the shard's request in hand executes it, and its admission ends
abbrev pub after_finish : {Q R : Type 0} → Meaning Q R → WorldState Q → Mark → ℕ → StepOutcome Q R
after_finish service w mark shard =
    option_map_or (λ hand. option_map_or (finished service w mark shard hand.server) hand.work (Err NotHeld, w))
    (slice_index_or w.in_hand shard None) (Err NotHeld, w)

-- the world after an admission without a request, unless its first fault refuses it
abbrev pub after_admission : {Q R : Type 0} → WorldState Q → ℕ → ℕ → WorldState Q → StepOutcome Q R
after_admission w shard server made =
    if nat_lt shard (count_of w)
    then (if is_there w server
    then option_map_or (λ fault. (Err (AdmitRefused fault), w))
    (admit_fault w.frame.ceiling (world_record w shard) server Direct) (Ok Made, made)
    else (Err UnknownServer, w))
    else (Err UnknownShard, w)

-- the server is admitted to the shard, without a request
abbrev pub after_hold : {Q R : Type 0} → WorldState Q → ℕ → ℕ → StepOutcome Q R
after_hold w shard server =
    after_admission w shard server
    (with_hand (with_entry w server shard (Admit server Direct)) shard (Some (record { server = server; work = None })))

-- the admission without a request ends with nothing
abbrev pub after_free : {Q R : Type 0} → WorldState Q → ℕ → StepOutcome Q R
after_free w shard =
    if nat_lt shard (count_of w) then option_map_or (λ hand.
    option_map_or (λ work. (Err NotHeld, w)) hand.work (Ok Made, ended w shard hand.server Nothing))
    (slice_index_or w.in_hand shard None) (Err NotHeld, w) else (Err UnknownShard, w)

-- the server is admitted to the shard, makes the shard's state its base, and its admission ends
abbrev pub after_checkpoint : {Q R : Type 0} → WorldState Q → ℕ → ℕ → StepOutcome Q R
after_checkpoint w shard server =
    after_admission w shard server
    (with_entry (with_entry w server shard (Admit server Direct)) server shard
    (Done (checkpoint_ending (kept w.history shard))))

-- the shard's owner at its generation is published, if it has one and the generation is above the shard's last route
abbrev pub after_publish : {Q R : Type 0} → WorldState Q → ℕ → StepOutcome Q R
after_publish w shard =
    if nat_lt shard (count_of w) then option_map_or (λ route.
    if is_old (routes_of w.publications route.shard) route then (Err OldRoute, w)
    else (Ok Made, record w { publications = w.publications ++ route ∷ [] }))
    (record_route shard (world_record w shard)) (Err WrongPhase, w) else (Err UnknownShard, w)

-- the answer to a step that went in this way, and the world that it leaves
abbrev pub outcome : {Q R : Type 0} → Meaning Q R → WorldState Q → Mark → Step Q → StepOutcome Q R
outcome service w Unmade step = (Err NoMemory, w)
outcome service w mark (Control command) = after_control w command
outcome service w mark (Look shard) =
    if nat_lt shard (count_of w) then (Ok (Seen (world_record w shard)), w) else (Err UnknownShard, w)
outcome service w mark (Send to number request) = after_send service w to number request
outcome service w mark (Deliver place) = after_deliver w place
outcome service w mark (Finish shard) = after_finish service w mark shard
outcome service w mark (Lose place) =
    if nat_lt place (length w.in_flight) then (Ok Made, without_flight w place) else (Err NoEnvelope, w)
outcome service w mark (Hold shard server) = after_hold w shard server
outcome service w mark (Free shard) = after_free w shard
outcome service w mark (CheckpointAt shard server) = after_checkpoint w shard server
outcome service w mark (Publish shard) = after_publish w shard
outcome service w mark (RouteOf key) = (Ok (Way (routes_of w.publications (shard_of w.frame.bounds key))), w)

-- the answer to a step
abbrev pub answer : {Q R : Type 0} → Meaning Q R → WorldState Q → Mark → Step Q → Result (WorldAnswer R) WorldFault
answer service w mark step = (outcome service w mark step).0

-- the world that a step leaves
abbrev pub next : {Q R : Type 0} → Meaning Q R → WorldState Q → Mark → Step Q → WorldState Q
next service w mark step = (outcome service w mark step).1

-- how a step went, by its answer
abbrev pub mark_of : {R : Type 0} → Result (WorldAnswer R) WorldFault → Mark
mark_of (Err NoMemory) = Unmade
mark_of (Ok (Refused NoMemoryFor)) = Unserved
mark_of _ = Plain

-- the world in which nothing has happened
abbrev pub empty_world : {Q : Type 0} → Frame → WorldState Q
empty_world frame = record {
  frame = frame;
  desk = frame.start;
  history = [];
  publications = [];
  in_flight = [];
  in_hand = replicate (length frame.bounds) None;
}

-- the world after these steps, from this world on
abbrev pub world_after : {Q R : Type 0} → Meaning Q R → WorldState Q → List (Mark × Step Q) → WorldState Q
world_after service w [] = w
world_after service w (step ∷ steps) = world_after service (next service w step.0 step.1) steps

-- the world that a list of steps makes, each with how it went
abbrev pub world_of : {Q R : Type 0} → Meaning Q R → Frame → List (Mark × Step Q) → WorldState Q
world_of service frame steps = world_after service (empty_world frame) steps
