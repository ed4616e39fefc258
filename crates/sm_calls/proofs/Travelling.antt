-- Envelopes of a call on their way.
use Rattle.std.proofs.Common.{◌≡◌, ℕ, List, Some, refl, sym, ap, ◌∙◌, subst}
use Rattle.sm_body.specs.Service.{Meaning}
use Rattle.sm_envelope.specs.Envelope.{ShellView, shell_of}
use Rattle.sm_ownership.specs.declared.mode.Mode.TheVariants.{Direct}
use Rattle.sm_rule.specs.Boards.{BoardValue}
use Rattle.sm_rule.specs.Passes.{PassValue}
use Rattle.sm_rule.specs.Views.{Begins}
use Rattle.sm_rule.specs.lemmas.Passing.{begins_begins}
use Rattle.sm_server.specs.lemmas.Beginnings.{none_begins}
use Rattle.sm_server.specs.declared.outcome.Outcome.{Outcome}
use Rattle.sm_server.specs.declared.outcome.Outcome.TheVariants.{Answered, Forward, Refused}
use Rattle.sm_server.specs.Answers.{AnswerValue, IsAnswer}
use Rattle.sm_server.specs.declared.refusal.Refusal.{Refusal}
use Rattle.sm_server.specs.Serving.{IsAnswered, IsHandedBack, Sent, Served, is_here}
use Rattle.sm_calls.specs.declared.call_refused.CallFault.{CallFault}
use Rattle.sm_calls.specs.declared.call_refused.CallFault.TheVariants as call
use Rattle.sm_calls.specs.declared.reply.CallReply.TheVariants as reply
use Rattle.sm_calls.specs.Passes.{IsNewPass}
use Rattle.sm_calls.specs.Replies.{CallCame, CallValue, ComesBackFor, HasReached, IsAnswerTo, IsOfTheWay, IsOnTheWay}
use Rattle.sm_calls.specs.Replies.{IsRefusalTo}
use Rattle.sm_calls.specs.Telling.{IsNotedAgain, IsToldOf}
use Rattle.sm_calls.specs.lemmas.Passes.{begins_same, new_told}
use Rattle.sm_calls.proofs.Coming.{came_more, came_on}

-- the envelope as it was sent is on its way
pub way_begins : {Q : Type 0} (sent : Sent Q) → IsOnTheWay sent sent
way_begins sent =
    record { number = refl; shard = refl; request = refl; board = refl; told = begins_same sent.note.seen }

-- a direct envelope with no hop has reached the server that its caller named
pub reached_first : {Q : Type 0} (asked : CallValue Q) → asked.sent.mode ≡ Direct → asked.sent.hops ≡ 0
    → HasReached asked asked.server asked.sent
reached_first {Q} asked mode hops = record {
  way = way_begins asked.sent;
  came = subst (λ (n : ℕ). CallCame asked n asked.sent.mode asked.server asked.sent.note.seen) (sym hops)
      (refl, mode, begins_same asked.sent.note.seen);
}

-- the reason that stops a message on its way is the reason for which it comes back
pub held_up : {Q R : Type 0} (service : Meaning Q R) (asked : CallValue Q) (fault : CallFault) (back : Sent Q)
    → IsOfTheWay fault → ComesBackFor service asked fault back
held_up service asked call.NoRoute back held = absurd held
held_up service asked call.Unreachable back held = held
held_up service asked (call.Refused refusal) back held = absurd held
held_up service asked call.NoMemory back held = held
held_up service asked call.Closed back held = absurd held

-- an envelope that a server hands back or on stays on its way
pub way_on : {Q : Type 0} (sent envelope back : Sent Q) → IsOnTheWay sent envelope → IsHandedBack envelope back
    → back.number ≡ envelope.number → back.shard ≡ envelope.shard → IsOnTheWay sent back
way_on sent envelope back way handed number shard = record {
  number = number ∙ way.number;
  shard = shard ∙ way.shard;
  request = handed.request ∙ way.request;
  board = handed.board ∙ way.board;
  told = begins_begins sent.note.seen envelope.note.seen back.note.seen way.told handed.told;
}

some_same : (one other : ℕ) → Some one ≡ Some other → one ≡ other
some_same one other same = cc

-- an answer to the envelope, by the server that it had reached, is one to its call
answers : {Q R : Type 0} (service : Meaning Q R) (before : PassValue Q) (asked : CallValue Q) (server : ℕ)
    (envelope : Sent Q) (answer : AnswerValue Q R) → envelope.note.board ≡ before.board → before.server ≡ Some server
    → HasReached asked server envelope → IsAnswered service before envelope answer → IsAnswerTo service asked answer
answers {Q} service before asked server envelope answer board own reached answered =
    let sent = asked.sent in
    let way = reached.way in
    let at : server ≡ answer.server = some_same server answer.server (sym own ∙ answered.server) in
    record {
      number = answered.number ∙ way.number;
      board = answered.board ∙ (sym board ∙ way.board);
      told = begins_begins sent.note.seen envelope.note.seen answer.note.seen way.told answered.told;
      untold = none_begins answer.note.number sent.note.seen envelope.note.seen way.told answered.untold;
      hops = envelope.hops;
      mode = envelope.mode;
      came = came_more sent.note asked.server sent.shard envelope.hops envelope.mode answer.server envelope.note.seen
          answer.note.seen
          (subst (λ (s : ℕ). CallCame asked envelope.hops envelope.mode s envelope.note.seen) at reached.came)
          answered.told;
      executed = subst (λ (pair : ℕ × Q). IsAnswer service pair.0 envelope.mode pair.1 answer)
          (λ i. (way.shard i, way.request i)) answered.executed;
    }

abbrev number_of_shell : ShellView → ℕ
number_of_shell shell = shell.number

abbrev shard_of_shell : ShellView → ℕ
shard_of_shell shell = shell.shard

-- an envelope of the same shell, with a note that has seen at least as much, is at the same server
still_there : {Q : Type 0} (asked : CallValue Q) (server : ℕ) (envelope again : Sent Q)
    → HasReached asked server envelope → IsOnTheWay asked.sent again → shell_of again ≡ shell_of envelope
    → Begins envelope.note.seen again.note.seen → HasReached asked server again
still_there asked server envelope again reached way shell told = record {
  way = way;
  came = came_more asked.sent.note asked.server asked.sent.shard again.hops again.mode server envelope.note.seen
      again.note.seen
      (subst (λ (s : ShellView). CallCame asked s.hops s.mode server envelope.note.seen) (sym shell) reached.came)
      told;
}

-- an envelope with another note of the seen history is on its way, at the same server
reached_noted : {Q : Type 0} (asked : CallValue Q) (server : ℕ) (envelope again : Sent Q)
    → HasReached asked server envelope → IsNotedAgain envelope again → HasReached asked server again
reached_noted asked server envelope again reached noted =
    let way = reached.way in
    still_there asked server envelope again reached
    (record {
      number = ap number_of_shell noted.shell ∙ way.number;
      shard = ap shard_of_shell noted.shell ∙ way.shard;
      request = noted.request ∙ way.request;
      board = noted.board ∙ way.board;
      told = begins_begins asked.sent.note.seen envelope.note.seen again.note.seen way.told noted.told;
    })
    noted.shell noted.told

-- a server's step on an envelope, with a new pass that was told the history of its note
module _ {Q R : Type 0} (service : Meaning Q R) (stepped asked : CallValue Q) (board : BoardValue)
    (before : PassValue Q) (envelope : Sent Q)
    (board_is : stepped.sent.note.board ≡ board) (new : IsNewPass board stepped.server stepped.sent.note.seen before)
    (noted : IsNotedAgain stepped.sent envelope)
    (bounds : asked.bounds ≡ stepped.bounds) (reached : HasReached asked stepped.server stepped.sent) where
  board_asked : board ≡ asked.sent.note.board
  board_asked = sym board_is ∙ reached.way.board

  still : HasReached asked stepped.server envelope
  still = reached_noted asked stepped.server stepped.sent envelope reached noted

  -- an answer is one to the call
  answered : (answer : AnswerValue Q R) → Served service
      (is_here service stepped.bounds board.limits.count envelope) before envelope (Answered answer)
      → IsAnswerTo service asked answer
  answered answer served =
      answers service before asked stepped.server envelope answer (noted.board ∙ (board_is ∙ sym new.board_is))
      new.server_is still served.1

  forwards : (to : ℕ) (back : Sent Q) → Served service (is_here service stepped.bounds board.limits.count envelope)
      before envelope (Forward to back) → HasReached asked to back
  forwards to back served = record {
    way = way_on asked.sent envelope back still.way served.1 (ap number_of_shell served.2.shell)
        (ap shard_of_shell served.2.shell);
    came = came_on asked.sent.note before asked.server asked.sent.shard stepped.server to envelope back still.way.board
        still.way.shard new.server_is still.came served.1 served.2;
  }

  -- a refusal comes back with a note of all by which it was decided
  refuses : (refusal : Refusal) (back : Sent Q) → Served service
      (is_here service stepped.bounds board.limits.count envelope) before envelope (Refused refusal back)
      → HasReached asked stepped.server back × IsRefusalTo service asked refusal back.note.seen
  refuses refusal back served = (
    still_there asked stepped.server envelope back still
        (way_on asked.sent envelope back still.way served.1 (ap number_of_shell served.2) (ap shard_of_shell served.2))
        served.2 served.1.told,
    record {
      envelope = envelope;
      back = back;
      server = stepped.server;
      before = before;
      reached = still;
      new = new_told board asked.sent.note.board stepped.server stepped.sent.note.seen asked.sent.note.seen before
          board_asked reached.way.told new;
      served =
          subst (λ (pair : List (List ℕ) × BoardValue). Served service
          (is_here service pair.0 pair.1.limits.count envelope) before envelope (Refused refusal back))
          (λ i. (sym bounds i, board_asked i)) served;
      given = begins_same back.note.seen;
    },
  )

  pub told : (outcome : Outcome (AnswerValue Q R) (Sent Q)) → Served service
      (is_here service stepped.bounds board.limits.count envelope) before envelope outcome
      → IsToldOf service asked stepped.server outcome
  told (Answered answer) served = answered answer served
  told (Forward to back) served = forwards to back served
  told (Refused refusal back) served = refuses refusal back served
