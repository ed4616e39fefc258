-- The text of a script's answers, each without its line feed.
use Rattle.std.specs.Prelude.{ℕ, if◌then◌else◌, List, [], ◌∷◌, ◌++◌, length, codes, decimal, flat_map, Option}
use Rattle.std.specs.Prelude.{None, Some, unwrap_or}
use Rattle.std.specs.List.{join_with_byte}
use Rattle.std.specs.Fmt.{signed_decimal}
use Rattle.sm_desk.specs.declared.command.CommandFault.{CommandFault}
use Rattle.sm_desk.specs.declared.command.CommandFault.TheVariants as command
use Rattle.sm_map.specs.KeyMap.{KeyPair, KeyValue}
use Rattle.sm_map.specs.KeyMap.{Text as HeldText, Count as HeldCount}
use Rattle.sm_ownership.specs.declared.admit_fault.AdmitFault.{AdmitFault}
use Rattle.sm_ownership.specs.declared.admit_fault.AdmitFault.TheVariants as admit
use Rattle.sm_ownership.specs.declared.change_fault.ChangeFault.TheVariants as change
use Rattle.sm_ownership.specs.declared.record.Record.{Record}
use Rattle.sm_place.specs.declared.place_fault.PlaceFault.TheVariants as place
use Rattle.sm_place.specs.declared.plan.Move.{Move}
use Rattle.sm_place.specs.Plans.{PlanView}
use Rattle.sm_tasks.specs.Approvals.{restart_fault_name, restart_fault_number}
use Rattle.sm_ownership.specs.declared.route.Route.{Route}
use Rattle.sm_ranges.specs.Stand.{other_of, owner_of}
use Rattle.sm_ranges.specs.declared.stand.Stand.{Stand}
use Rattle.sm_ranges.specs.declared.stand.Stand.TheVariants.{Vacant, Serving, Prepared, Forwarding, Taken, Paused}
use Rattle.sm_script.specs.declared.line_answer.LineAnswer.{LineAnswer}
use Rattle.sm_script.specs.declared.line_answer.LineAnswer.TheVariants.{Made, Refused as IsRefused, Seen, Executed}
use Rattle.sm_script.specs.declared.line_answer.LineAnswer.TheVariants.{Planned, Loaded, Way, Error}
use Rattle.sm_script.specs.declared.fault.LineFault.{LineFault}
use Rattle.sm_script.specs.declared.fault.LineFault.TheVariants.{LineTooLong, UnknownWord, BadLine, BadNumber, BadKey}
use Rattle.sm_script.specs.declared.fault.LineFault.TheVariants.{NotHere}
use Rattle.sm_script.specs.declared.load_verdict.LoadVerdict.{LoadVerdict}
use Rattle.sm_script.specs.declared.load_verdict.LoadVerdict.TheVariants.{Agrees, Unknown, Differs}
use Rattle.sm_script.specs.declared.refused.Refused.{Refused}
use Rattle.sm_script.specs.declared.refused.Refused.TheVariants as refused
use Rattle.sm_service.specs.declared.reply.Reply.{Reply}
use Rattle.sm_service.specs.declared.reply.Reply.TheVariants.{Nothing, Done, Text, Count, Pairs, WrongKind, Overflow}
use Rattle.sm_service.specs.declared.reply.Reply.TheVariants.{TooLong}

-- the name of a line's fault
abbrev pub line_fault_name : LineFault → List ℕ
line_fault_name LineTooLong = codes "LineTooLong"
line_fault_name UnknownWord = codes "UnknownWord"
line_fault_name BadLine = codes "BadLine"
line_fault_name BadNumber = codes "BadNumber"
line_fault_name BadKey = codes "BadKey"
line_fault_name NotHere = codes "NotHere"

-- the name of a command's refusal
abbrev pub command_fault_name : CommandFault → List ℕ
command_fault_name command.UnknownServer = codes "UnknownServer"
command_fault_name (command.Change change.UnknownShard) = codes "UnknownShard"
command_fault_name (command.Change change.WrongPhase) = codes "WrongPhase"
command_fault_name (command.Change change.SameServer) = codes "SameServer"
command_fault_name (command.Change (change.Spent state)) = codes "Spent"
command_fault_name (command.Change (change.Busy state)) = codes "Busy"
command_fault_name (command.Place place.Leaving) = codes "Leaving"
command_fault_name (command.Place place.NoCapacity) = codes "NoCapacity"
command_fault_name (command.Place place.DomainLimit) = codes "DomainLimit"
command_fault_name (command.Restart fault) = restart_fault_name fault
command_fault_name (command.Raced read found) = codes "Raced"

-- the name of an admission's refusal
abbrev pub admit_fault_name : AdmitFault → List ℕ
admit_fault_name admit.Vacant = codes "Vacant"
admit_fault_name admit.Paused = codes "Paused"
admit_fault_name admit.NotExecutor = codes "NotExecutor"
admit_fault_name admit.NotYet = codes "NotYet"
admit_fault_name admit.Admitted = codes "Admitted"
admit_fault_name admit.Spent = codes "Spent"

-- the name of a call's refusal
abbrev pub refused_name : Refused → List ℕ
refused_name refused.UnknownShard = codes "UnknownShard"
refused_name refused.UnknownServer = codes "UnknownServer"
refused_name refused.Unreachable = codes "Unreachable"
refused_name refused.NotHeld = codes "NotHeld"
refused_name refused.OldRoute = codes "OldRoute"
refused_name refused.WrongPhase = codes "WrongPhase"
refused_name refused.NoRoute = codes "NoRoute"
refused_name refused.WrongShard = codes "WrongShard"
refused_name refused.Raced = codes "Raced"
refused_name refused.Closed = codes "Closed"
refused_name (refused.Command fault) = command_fault_name fault
refused_name (refused.Admit fault) = admit_fault_name fault
refused_name refused.TooManyHops = codes "TooManyHops"
refused_name refused.KeptFull = codes "KeptFull"

-- the number that the answer gives after the name, if it gives one: of the shard, group or domain at which the refusal
-- came
abbrev pub refused_number : Refused → Option ℕ
refused_number (refused.Command (command.Restart fault)) = restart_fault_number fault
refused_number why = None

-- a name, and the number after it
abbrev pub numbered : List ℕ → Option ℕ → List ℕ
numbered name None = name
numbered name (Some number) = name ++ codes " " ++ decimal number

-- the name of a kind of stand
abbrev pub stand_name : Stand → List ℕ
stand_name Vacant = codes "Vacant"
stand_name (Serving owner) = codes "Serving"
stand_name (Prepared owner next) = codes "Prepared"
stand_name (Forwarding owner next) = codes "Forwarding"
stand_name (Taken owner previous) = codes "Taken"
stand_name (Paused owner) = codes "Paused"

-- a shard's record, between single spaces: its stand, its owner and the other server, or 0 if there is none, its
-- admission and its generation
abbrev pub record_text : Record → List ℕ
record_text state =
    join_with_byte 32 (
    stand_name state.stand ∷ decimal (unwrap_or (owner_of state.stand) 0)
    ∷ decimal (unwrap_or (other_of state.stand) 0)
    ∷ (if state.admitted then codes "admitted" else codes "idle") ∷ decimal state.generation ∷ []
    )

-- a shard's route: the shard, the server and the generation, between single spaces
abbrev pub route_text : Route → List ℕ
route_text route =
    codes "route " ++ join_with_byte 32 (decimal route.shard ∷ decimal route.server ∷ decimal route.generation ∷ [])

-- bytes, and before them how many they are
abbrev pub counted : List ℕ → List ℕ
counted bytes = decimal (length bytes) ++ codes ":" ++ bytes

-- the value of a key, in a scan
abbrev pub held_text : KeyValue → List ℕ
held_text (HeldText text) = codes " t" ++ counted text
held_text (HeldCount count) = codes " c" ++ signed_decimal count

-- a pair of a scan
abbrev pub pair_text : KeyPair → List ℕ
pair_text pair = codes " " ++ counted pair.key ++ held_text pair.value

-- a reply of the service
abbrev pub reply_text : Reply → List ℕ
reply_text Nothing = codes "nothing"
reply_text Done = codes "done"
reply_text (Text text) = codes "text " ++ counted text
reply_text (Count count) = codes "count " ++ signed_decimal count
reply_text (Pairs pairs) = codes "pairs " ++ decimal (length pairs) ++ flat_map pair_text pairs
reply_text WrongKind = codes "reply WrongKind"
reply_text Overflow = codes "reply Overflow"
reply_text TooLong = codes "reply TooLong"

-- a move of a plan
abbrev pub move_text : Move → List ℕ
move_text one = codes " " ++ decimal one.shard ++ codes ">" ++ decimal one.to

-- a shard that the plan leaves
abbrev pub left_text : ℕ → List ℕ
left_text shard = codes " " ++ decimal shard

-- a plan: its moves, and the shards that it leaves
abbrev pub plan_text : PlanView → List ℕ
plan_text plan = codes "plan" ++ flat_map move_text plan.moves ++ codes " left" ++ flat_map left_text plan.left

-- the verdict by the counts of a load
abbrev pub load_verdict_name : LoadVerdict → List ℕ
load_verdict_name Agrees = codes "ok"
load_verdict_name Unknown = codes "unknown"
load_verdict_name Differs = codes "wrong"

-- the answer to a line
abbrev pub answer_text : LineAnswer → List ℕ
answer_text Made = codes "ok"
answer_text (IsRefused why) = codes "refused " ++ numbered (refused_name why) (refused_number why)
answer_text (Planned plan) = plan_text plan
answer_text (Seen state) = record_text state
answer_text (Executed reply server place) =
    reply_text reply ++ codes " @" ++ decimal server ++ codes "#" ++ decimal place
answer_text (Way None) = codes "none"
answer_text (Way (Some route)) = route_text route
answer_text (Loaded verdict) = codes "load " ++ load_verdict_name verdict
answer_text (Error fault) = codes "error " ++ line_fault_name fault
