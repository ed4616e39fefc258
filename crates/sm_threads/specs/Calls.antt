-- A cluster's answer to each call of a script, and the session after it.
use Rattle.std.specs.Prelude.{ℕ, Bool, true, false, ◌+◌, ◌*◌, ◌≡◌, ◌<◌, ◌≤◌, Option, Some, None, Result, Ok, Err}
use Rattle.std.specs.Prelude.{OnOk, OnErr, IfErr, List, length, if◌then◌else◌}
use Rattle.std.specs.Option.{option_map}
use Rattle.sm_cluster.specs.Basing.{HasBased}
use Rattle.sm_cluster.specs.Calls.{CallResult, Called, CalledAt, ClientValue, HasHeard, HasLooked, HasReadRoute}
use Rattle.sm_cluster.specs.Calls.{shard_asked}
use Rattle.sm_cluster.specs.Clusters.{FreeRefused, HasFreed, HasHeld, HasTold, HoldRefused}
use Rattle.sm_cluster.specs.Commands.{HasCommanded}
use Rattle.sm_cluster.specs.Front.{Front}
use Rattle.sm_cluster.specs.Publications.{HasPublished}
use Rattle.sm_cluster.specs.declared.hold_fault.HoldFault.{HoldFault}
use Rattle.sm_load.specs.declared.loading.LoadReport.{LoadReport}
use Rattle.sm_desk.specs.Desk.{is_known}
use Rattle.sm_desk.specs.declared.command.Command.{Command}
use Rattle.sm_desk.specs.declared.command.CommandFault.{CommandFault}
use Rattle.sm_ownership.specs.declared.admit_fault.AdmitFault.TheVariants.{Vacant}
use Rattle.sm_ownership.specs.declared.record.Record.{Record}
use Rattle.sm_ownership.specs.declared.route.Route.{Route}
use Rattle.sm_ownership.specs.declared.route_fault.RouteFault.{RouteFault}
use Rattle.sm_place.specs.Plans.{assign_plan, drain_plan}
use Rattle.sm_ranges.specs.Ranges.{shard_of}
use Rattle.sm_ranges.specs.Stand.{owner_of}
use Rattle.sm_script.specs.declared.line_answer.LineAnswer.{LineAnswer}
use Rattle.sm_script.specs.declared.line_answer.LineAnswer.TheVariants.{Made, Refused as IsRefused, Seen, Executed}
use Rattle.sm_script.specs.declared.line_answer.LineAnswer.TheVariants.{Planned, Way, Loaded}
use Rattle.sm_script.specs.declared.call.Call.{Call}
use Rattle.sm_script.specs.declared.call.Call.TheVariants as call
use Rattle.sm_script.specs.declared.refused.Refused.{Refused}
use Rattle.sm_script.specs.declared.refused.Refused.TheVariants as refused
use Rattle.sm_service.specs.declared.reply.Reply.{Reply}
use Rattle.sm_service.specs.declared.request.Request.{Request}
use Rattle.sm_session.specs.Service.{counter_text}
use Rattle.sm_threads.specs.Loads.{IsLoadOf, IsVerdictOn}
use Rattle.sm_threads.specs.Refusals.{call_refused, hold_refused, publish_refused}
use Rattle.sm_threads.specs.Sessions.{SessionValue}

-- a session whose client is now this
abbrev pub with_client : SessionValue → ClientValue Request → SessionValue
with_client session client = record session { client = client }

-- the answer to a call that is made or refused; a call that ends the run because memory was refused has none
abbrev pub may_answer : {T F : Type 0} → (F → Option Refused) → Result T F → Option LineAnswer
may_answer refusal (Ok made) = Some Made
may_answer refusal (Err fault) = option_map IsRefused (refusal fault)

-- ---- requests

-- the answer to the result of a client's call: an answer whose note the client has met, or why there is none
abbrev pub AnsweredResult : ClientValue Request → CallResult Request Reply → LineAnswer → ClientValue Request → Type 0
AnsweredResult before (Ok given) answer after =
    HasHeard before given.note after × (answer ≡ Executed given.reply given.server given.place)
AnsweredResult before (Err why) answer after =
    (option_map IsRefused (call_refused why.fault) ≡ Some answer) × (after ≡ before)

-- the result of a call by the session's client, which so changed the client, is answered; nothing else has changed
abbrev pub AnsweredCall : (CallResult Request Reply → ClientValue Request → Type 0) → SessionValue → LineAnswer
    → SessionValue → Type 0
AnsweredCall called before answer after =
    (given : CallResult Request Reply) × (asked : ClientValue Request)
    × called given asked × AnsweredResult asked given answer after.client × (after ≡ with_client before after.client)

-- a request goes to this server, which exists, or is refused
abbrev pub AnsweredWhere : Bool → SessionValue → ℕ → Request → LineAnswer → SessionValue → Type 0
AnsweredWhere true before server request answer after =
    AnsweredCall (CalledAt counter_text before.client server 0 request) before answer after
AnsweredWhere false before server request answer after = (answer ≡ IsRefused refused.UnknownServer) × (after ≡ before)

-- a request goes to this server
abbrev pub AnsweredAt : SessionValue → ℕ → Request → LineAnswer → SessionValue → Type 0
AnsweredAt before server request answer after =
    AnsweredWhere (is_known before.cluster.control.desk.books.servers server) before server request answer after

-- a request goes to the shard's owner, and is refused if there is none
abbrev pub AnsweredByOwner : SessionValue → Option ℕ → Request → LineAnswer → SessionValue → Type 0
AnsweredByOwner before None request answer after =
    (answer ≡ IsRefused (refused.Admit Vacant)) × (after ≡ before)
AnsweredByOwner before (Some owner) request answer after = AnsweredAt before owner request answer after

-- ---- calls

-- a record is that of everything that the client then has seen
abbrev pub Looked : SessionValue → ℕ → LineAnswer → SessionValue → Type 0
Looked before shard (Seen state) after =
    (shard < length before.cluster.bounds) × HasLooked before.client shard state after.client
    × (after ≡ with_client before after.client)
Looked before shard answer after =
    (length before.cluster.bounds ≤ shard) × (answer ≡ IsRefused refused.UnknownShard) × (after ≡ before)

-- a route is that of the key's shard that the client's router has read
abbrev pub RoutedKey : SessionValue → List ℕ → LineAnswer → SessionValue → Type 0
RoutedKey before key (Way route) after =
    HasReadRoute before.client (shard_of before.client.bounds key) route after.client
    × (after ≡ with_client before after.client)
RoutedKey before key answer after = ⊥

-- the cluster has changed, and has then told the client
abbrev pub TellsClient : SessionValue → SessionValue → Type 0
TellsClient before after =
    HasTold after.cluster before.client after.client
    × (after ≡ record before { cluster = after.cluster; client = after.client })

-- a command was made or refused as the cluster says
abbrev pub WasCommanded : SessionValue → Command → LineAnswer → SessionValue → Type 0
WasCommanded before command answer after =
    (made : Result (Unit {0}) CommandFault) × HasCommanded before.cluster command made after.cluster
    × (may_answer (λ fault. Some (refused.Command fault)) made ≡ Some answer) × TellsClient before after

-- a hold was made or refused as the cluster says, and its end
abbrev pub WasHeld : SessionValue → ℕ → ℕ → LineAnswer → SessionValue → Type 0
WasHeld before shard server answer after =
    (made : Result (Unit {0}) HoldFault)
    × OnOk made (HasHeld before.cluster shard server after.cluster)
    × IfErr made (λ fault. HoldRefused before.cluster shard server fault after.cluster)
    × (may_answer hold_refused made ≡ Some answer) × TellsClient before after

-- how the end of a hold may be answered
abbrev pub WasFreed : SessionValue → ℕ → LineAnswer → SessionValue → Type 0
WasFreed before shard answer after =
    (made : Result (Unit {0}) HoldFault)
    × OnOk made (HasFreed before.cluster shard after.cluster) × IfErr made (FreeRefused before.cluster shard)
    × OnErr made (after.cluster ≡ before.cluster)
    × (may_answer hold_refused made ≡ Some answer) × TellsClient before after

-- a checkpoint was made or refused as the cluster says
abbrev pub WasBased : SessionValue → ℕ → ℕ → LineAnswer → SessionValue → Type 0
WasBased before shard server answer after =
    (made : Result Front HoldFault) × HasBased before.cluster shard server made after.cluster
    × (may_answer hold_refused made ≡ Some answer) × TellsClient before after

-- a shard's route was published or refused as the cluster says
abbrev pub WasPublished : SessionValue → ℕ → LineAnswer → SessionValue → Type 0
WasPublished before shard answer after =
    (made : Result Route RouteFault) × HasPublished before.cluster shard made after.cluster
    × (may_answer publish_refused made ≡ Some answer) × TellsClient before after

-- a request goes to the owner in the record that the client then sees
abbrev pub WasRequested : SessionValue → Request → LineAnswer → SessionValue → Type 0
WasRequested before request answer after =
    (seen : ClientValue Request) × (state : Record)
    × HasLooked before.client (shard_asked counter_text before.client request) state seen
    × AnsweredByOwner (with_client before seen) (owner_of state.stand) request answer after

-- a request goes by the published route
abbrev pub WasRouted : SessionValue → Request → LineAnswer → SessionValue → Type 0
WasRouted before request answer after =
    AnsweredCall (Called counter_text before.client 0 request) before answer after

-- so many clients of the session made so many additions each, each of which was acknowledged or refused, and the answer
-- says whether the counts that another client was told differ by the acknowledged ones; nothing else in the session has
-- changed
abbrev pub WasLoaded : SessionValue → List ℕ → ℕ → ℕ → LineAnswer → SessionValue → Type 0
WasLoaded before key clients each (Loaded verdict) after =
    (report : LoadReport) × (report.acked + report.refused ≡ clients * each)
    × IsLoadOf key clients each before.loaders report after.loaders
    × IsVerdictOn report verdict × (after ≡ record before { loaders = after.loaders })
WasLoaded before key clients each answer after = ⊥

-- the possible answers to a call
abbrev pub Answers : SessionValue → Call → LineAnswer → SessionValue → Type 0
Answers before (call.Control command) answer after = WasCommanded before command answer after
Answers before (call.Hold shard server) answer after = WasHeld before shard server answer after
Answers before (call.Free shard) answer after = WasFreed before shard answer after
Answers before (call.Checkpoint shard server) answer after = WasBased before shard server answer after
Answers before (call.Publish shard) answer after = WasPublished before shard answer after
Answers before (call.Route key) answer after = RoutedKey before key answer after
Answers before (call.Look shard) answer after = Looked before shard answer after
Answers before (call.Load key clients each) answer after = WasLoaded before key clients each answer after
Answers before call.Place answer after =
    (answer ≡ Planned (assign_plan before.cluster.control.desk.books)) × (after ≡ before)
Answers before (call.Drain server) answer after =
    (answer ≡ (if is_known before.cluster.control.desk.books.servers server
    then Planned (drain_plan before.cluster.control.desk.books server)
    else IsRefused refused.UnknownServer)) × (after ≡ before)
Answers before (call.Request request) answer after = WasRequested before request answer after
Answers before (call.RequestAt server request) answer after = AnsweredAt before server request answer after
Answers before (call.RequestByRoute request) answer after = WasRouted before request answer after
