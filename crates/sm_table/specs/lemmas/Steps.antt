-- The parts of steps, as proofs go through them one by one.
use Rattle.std.specs.Prelude.{ℕ, Option, Ok, Err, nat_lt, if◌then◌else◌, List, [], ◌∷◌, ◌++◌, length}
use Rattle.std.specs.Option.{option_map_or}
use Rattle.sm_body.specs.Service.{Meaning}
use Rattle.sm_desk.specs.declared.command.Command.{Command}
use Rattle.sm_desk.specs.declared.command.CommandFault.{CommandFault}
use Rattle.sm_desk.specs.Desk.{commanded}
use Rattle.sm_ownership.specs.declared.admit_fault.AdmitFault.{AdmitFault}
use Rattle.sm_ownership.specs.declared.entry.Ending.TheVariants.{Nothing}
use Rattle.sm_ownership.specs.declared.route.Route.{Route}
use Rattle.sm_ownership.specs.Routes.{is_old, routes_of}
use Rattle.sm_ownership.specs.Rules.{forward_to}
use Rattle.sm_table.specs.declared.hands.InHand.{InHand}
use Rattle.sm_table.specs.declared.hands.Work.{Work}
use Rattle.sm_table.specs.declared.world.Flight.{Flight}
use Rattle.sm_table.specs.declared.world_answer.WorldAnswer.{WorldAnswer}
use Rattle.sm_table.specs.declared.world_answer.WorldAnswer.TheVariants.{Made, Seen}
use Rattle.sm_table.specs.declared.world_fault.WorldFault.TheVariants.{Command as CommandRefused, Admit as AdmitRefused}
use Rattle.sm_table.specs.declared.world_fault.WorldFault.TheVariants.{UnknownShard, NoEnvelope, NotHeld, OldRoute}
use Rattle.sm_table.specs.declared.world_fault.WorldFault.TheVariants.{WrongPhase}
use Rattle.sm_table.specs.World.{WorldState, Mark, StepOutcome, arrived, count_of, ended, finished, with_change}
use Rattle.sm_table.specs.World.{without_flight, world_record}

-- a command, unless this fault forbids it
abbrev pub controlled : {Q R : Type 0} → WorldState Q → Command → Option CommandFault → StepOutcome Q R
controlled w command fault = option_map_or (λ (why : CommandFault). (Err (CommandRefused why), w)) fault
    (Ok Made, record (with_change w command) { desk = commanded w.desk command })

-- a look at a shard's record
abbrev pub after_look : {Q R : Type 0} → WorldState Q → ℕ → StepOutcome Q R
after_look w shard = if nat_lt shard (count_of w) then (Ok (Seen (world_record w shard)), w) else (Err UnknownShard, w)

-- a forwarded envelope is on its way, or was refused
abbrev pub hopped : {Q R : Type 0} → WorldState Q → WorldAnswer R × List (Flight Q) → StepOutcome Q R
hopped w hop = (Ok hop.0, record w { in_flight = hop.1 })

-- the delivery of an envelope, if there is one
abbrev pub delivered : {Q R : Type 0} → WorldState Q → ℕ → Option (Flight Q) → StepOutcome Q R
delivered {Q} w place flight = option_map_or (λ (one : Flight Q). arrived (without_flight w place) one.to one.envelope
    (forward_to (world_record w one.envelope.shard) one.to)) flight (Err NoEnvelope, w)

-- the envelope at this place of those in flight is lost
abbrev pub after_lose : {Q R : Type 0} → WorldState Q → ℕ → StepOutcome Q R
after_lose w place =
    if nat_lt place (length w.in_flight) then (Ok Made, without_flight w place) else (Err NoEnvelope, w)

-- the end of an admission, if it has work
abbrev pub worked : {Q R : Type 0} → Meaning Q R → WorldState Q → Mark → ℕ → ℕ → Option (Work Q) → StepOutcome Q R
worked service w mark shard server work = option_map_or (finished service w mark shard server) work (Err NotHeld, w)

-- the end of the admission in hand, if there is one
abbrev pub served : {Q R : Type 0} → Meaning Q R → WorldState Q → Mark → ℕ → Option (InHand Q) → StepOutcome Q R
served {Q} service w mark shard hand =
    option_map_or (λ (one : InHand Q). worked service w mark shard one.server one.work) hand (Err NotHeld, w)

-- the world after an admission, or only its fault
abbrev pub made_unless : {Q R : Type 0} → Option AdmitFault → WorldState Q → WorldState Q → StepOutcome Q R
made_unless fault w made = option_map_or (λ (why : AdmitFault). (Err (AdmitRefused why), w)) fault (Ok Made, made)

-- the end of an admission without work
abbrev pub let_go : {Q R : Type 0} → WorldState Q → ℕ → ℕ → Option (Work Q) → StepOutcome Q R
let_go {Q} w shard server work = option_map_or (λ (one : Work Q). (Err NotHeld, w)) work
    (Ok Made, ended w shard server Nothing)

-- the end of an admission that holds a shard, if there is one
abbrev pub freed : {Q R : Type 0} → WorldState Q → ℕ → Option (InHand Q) → StepOutcome Q R
freed {Q} w shard hand = option_map_or (λ (one : InHand Q). let_go w shard one.server one.work) hand (Err NotHeld, w)

-- the publication of a shard's route, if it has one
abbrev pub published : {Q R : Type 0} → WorldState Q → Option Route → StepOutcome Q R
published w route = option_map_or (λ (one : Route).
    if is_old (routes_of w.publications one.shard) one then (Err OldRoute, w)
    else (Ok Made, record w { publications = w.publications ++ one ∷ [] })) route (Err WrongPhase, w)
