-- A server's result for an envelope.
use Rattle.std.specs.Prelude.{ℕ, Bool, true, false, ◌≡◌, ◌≤◌, ◌<◌, ◌⊎◌, ◌==◌, ◌&&◌, nat_lt, List, [], Option, Some}
use Rattle.std.specs.Prelude.{None, length}
use Rattle.std.specs.List.{filter_map}
use Rattle.sm_body.specs.Service.{Meaning}
use Rattle.sm_envelope.specs.Envelope.{EnvelopeView, one_hop_more, shell_of}
use Rattle.sm_envelope.specs.declared.envelope.TheConstants.{MOST_HOPS}
use Rattle.sm_ownership.specs.declared.entry.Ending.TheVariants.{Nothing}
use Rattle.sm_ownership.specs.declared.entry.Entry.{Entry}
use Rattle.sm_ownership.specs.History.{NoneBy, ending_of, kept, request_of}
use Rattle.sm_ownership.specs.Rules.{forward_to}
use Rattle.sm_ranges.specs.Ranges.{shard_of}
use Rattle.sm_rule.specs.declared.admit_refusal.AdmitRefusal.{AdmitRefusal}
use Rattle.sm_rule.specs.declared.admit_refusal.AdmitRefusal.TheVariants as admission
use Rattle.sm_rule.specs.Admissions.{RefusedBy}
use Rattle.sm_rule.specs.Boards.{limit_at}
use Rattle.sm_rule.specs.Passes.{PassValue, own, record_of}
use Rattle.sm_rule.specs.Views.{Begins}
use Rattle.sm_server.specs.declared.outcome.Outcome.{Outcome}
use Rattle.sm_server.specs.declared.outcome.Outcome.TheVariants.{Answered, Forward, Refused}
use Rattle.sm_server.specs.declared.refusal.Refusal.{Refusal}
use Rattle.sm_server.specs.declared.refusal.Refusal.TheVariants.{WrongShard, TooManyHops, Admit as NotAdmitted}
use Rattle.sm_server.specs.declared.refusal.Refusal.TheVariants.{KeptFull, NoMemory}
use Rattle.sm_server.specs.Answers.{AnswerValue, IsAnswer, run_of}

-- the envelope of a request, with a note of everything that its sender has seen
abbrev pub Sent : Type 0 → Type 0
Sent Q = EnvelopeView Q (PassValue Q)

-- the envelope's shard is one of so many, and the one whose range covers the request's key
abbrev pub is_here : {Q R N : Type 0} → Meaning Q R → List (List ℕ) → ℕ → EnvelopeView Q N → Bool
is_here service bounds count envelope =
    nat_lt envelope.shard count && (shard_of bounds (service.key_of envelope.request) == envelope.shard)

-- the requests that entries say were executed
abbrev pub requests_in : {Q : Type 0} → List (Entry Q) → List Q
requests_in entries = filter_map (λ entry. request_of (ending_of entry.kind)) entries

-- the request was executed once: the answer's history extends everything that the pass and the envelope's note had
-- seen, and the entries by which it was executed come after that
pub record IsAnswered {Q R : Type 0} (service : Meaning Q R) (before : PassValue Q) (envelope : Sent Q)
    (answer : AnswerValue Q R) : Type 0 where
  pub number : answer.number ≡ envelope.number
  pub server : before.server ≡ Some answer.server
  pub board : answer.note.board ≡ before.board
  pub seen : Begins before.seen answer.note.seen
  pub told : Begins envelope.note.seen answer.note.seen
  pub unseen : NoneBy answer.note.number before.seen
  pub untold : NoneBy answer.note.number envelope.note.seen
  pub executed : IsAnswer service envelope.shard envelope.mode envelope.request answer

-- an envelope comes back with its request, and with its note or a note that has seen more and executed nothing
pub record IsHandedBack {Q : Type 0} (envelope back : Sent Q) : Type 0 where
  pub request : back.request ≡ envelope.request
  pub board : back.note.board ≡ envelope.note.board
  pub told : Begins envelope.note.seen back.note.seen
  pub idle : (back.note ≡ envelope.note) ⊎ (requests_in (own back.note.number back.note.seen) ≡ [])

-- the shard's record in all that the envelope's note has seen since has the pass's server forward to this one, and the
-- envelope has gone one hop more
pub record IsForwarded {Q : Type 0} (before : PassValue Q) (envelope : Sent Q) (to : ℕ) (back : Sent Q) : Type 0 where
  pub seen : Begins before.seen back.note.seen
  pub server : ℕ
  pub is_own : before.server ≡ Some server
  pub forwards : forward_to (record_of back.note envelope.shard) server ≡ Some to
  pub hops : envelope.hops < MOST_HOPS
  pub shell : shell_of back ≡ shell_of (one_hop_more envelope server)

-- the record would have the server forward the envelope, which went as many hops as it may
pub record IsTooFar {Q : Type 0} (before : PassValue Q) (envelope back : Sent Q) : Type 0 where
  pub seen : Begins before.seen back.note.seen
  pub server : ℕ
  pub is_own : before.server ≡ Some server
  pub to : ℕ
  pub forwards : forward_to (record_of back.note envelope.shard) server ≡ Some to
  pub hops : MOST_HOPS ≤ envelope.hops

-- a server doesn't forward by the record that refused its admission; of an admission that was overtaken nothing is said
abbrev pub NotForwarding : Option ℕ → AdmitRefusal → Type 0
NotForwarding (Some server) (admission.Refused fault state) = forward_to state server ≡ None
NotForwarding server refusal = Unit {0}

-- the admission was refused by the record in all that the envelope's note has seen since, or overtaken
pub record IsNotAdmitted {Q : Type 0} (before : PassValue Q) (envelope back : Sent Q) (refusal : AdmitRefusal) : Type 0
  where
    pub seen : Begins before.seen back.note.seen
    pub refused : RefusedBy before back.note envelope.shard envelope.mode refusal
    pub stays : NotForwarding before.server refusal

-- the server was admitted, and the admission ended with nothing; the new note did that and no more
pub record IsUnserved {Q : Type 0} (before : PassValue Q) (envelope back : Sent Q) : Type 0 where
  pub seen : Begins before.seen back.note.seen
  pub server : ℕ
  pub is_own : before.server ≡ Some server
  pub ran : own back.note.number back.note.seen ≡ run_of back.note.number envelope.shard server envelope.mode Nothing

-- the most requests that the shard keeps
abbrev pub limit_of : {Q : Type 0} → PassValue Q → ℕ → ℕ
limit_of pass shard = limit_at pass.board.limits shard

-- why an envelope comes back
abbrev pub RefusedFor : {Q : Type 0} → PassValue Q → Sent Q → Sent Q → Refusal → Type 0
RefusedFor before envelope back WrongShard = back ≡ envelope
RefusedFor before envelope back TooManyHops = IsTooFar before envelope back
RefusedFor before envelope back (NotAdmitted refusal) = IsNotAdmitted before envelope back refusal
RefusedFor before envelope back KeptFull =
    IsUnserved before envelope back × (limit_of before envelope.shard ≤ length (kept back.note.seen envelope.shard))
RefusedFor before envelope back NoMemory =
    IsUnserved before envelope back × (length (kept back.note.seen envelope.shard) < limit_of before envelope.shard)

-- it was refused for another reason than that its key is of another shard
abbrev pub is_of_shard : Refusal → Bool
is_of_shard WrongShard = false
is_of_shard _ = true

-- a server's result for an envelope that is here or not, by the earlier history of its pass
abbrev pub Served : {Q R : Type 0} → Meaning Q R → Bool → PassValue Q → Sent Q
    → Outcome (AnswerValue Q R) (Sent Q) → Type 0
Served service here before envelope (Answered answer) = (here ≡ true) × IsAnswered service before envelope answer
Served service here before envelope (Forward to back) =
    (here ≡ true) × IsHandedBack envelope back × IsForwarded before envelope to back
Served service here before envelope (Refused refusal back) =
    (here ≡ is_of_shard refusal) × IsHandedBack envelope back × (shell_of back ≡ shell_of envelope)
    × RefusedFor before envelope back refusal
