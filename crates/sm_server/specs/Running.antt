-- The steps of a server on an envelope, which no public clause names.
use Rattle.std.specs.Prelude.{ℕ, ◌≡◌, ◌≤◌, ◌<◌, nat_lt, [], ◌∷◌, Option, Some, None, if◌then◌else◌, length}
use Rattle.sm_body.specs.Service.{Meaning}
use Rattle.sm_body.specs.declared.service.ApplyFault.{ApplyFault}
use Rattle.sm_body.specs.declared.service.ApplyFault.TheVariants as apply
use Rattle.sm_envelope.specs.Envelope.{EnvelopeView, ShellView, one_hop_more, shell_of}
use Rattle.sm_envelope.specs.declared.envelope.TheConstants.{MOST_HOPS}
use Rattle.sm_ownership.specs.declared.admit_fault.AdmitFault.{AdmitFault}
use Rattle.sm_ownership.specs.declared.entry.Ending.TheVariants.{Nothing}
use Rattle.sm_ownership.specs.declared.entry.Kind.TheVariants.{Admit}
use Rattle.sm_ownership.specs.declared.mode.Mode.{Mode}
use Rattle.sm_ownership.specs.declared.record.Record.{Record}
use Rattle.sm_ownership.specs.History.{kept, NoneBy}
use Rattle.sm_ownership.specs.Rules.{forward_to}
use Rattle.sm_rule.specs.declared.admit_refusal.AdmitRefusal.{AdmitRefusal}
use Rattle.sm_rule.specs.declared.admit_refusal.AdmitRefusal.TheVariants as admission
use Rattle.sm_rule.specs.Passes.{PassValue, own}
use Rattle.sm_rule.specs.Views.{Begins, entry_of}
use Rattle.sm_server.specs.declared.outcome.Outcome.{Outcome}
use Rattle.sm_server.specs.declared.outcome.Outcome.TheVariants.{Answered, Forward, Refused}
use Rattle.sm_server.specs.declared.refusal.Refusal.{Refusal}
use Rattle.sm_server.specs.declared.refusal.Refusal.TheVariants.{TooManyHops, Admit as NotAdmitted, KeptFull, NoMemory}
use Rattle.sm_server.specs.Answers.{AnswerValue, IsAnswer, run_of}
use Rattle.sm_server.specs.Serving.{Sent, limit_of}

-- a new pass of the same server that has seen everything that another pass and a note have seen, and has done nothing
pub record IsHelper {Q : Type 0} (pass note helper : PassValue Q) : Type 0 where
  pub board : helper.board ≡ pass.board
  pub server : helper.server ≡ pass.server
  pub held : helper.held ≡ None
  pub none : NoneBy helper.number helper.seen
  pub seen : Begins pass.seen helper.seen
  pub told : Begins note.seen helper.seen

-- all that a pass did is an admission of its server to the shard
pub record HasBegun {Q : Type 0} (helper : PassValue Q) (shard server : ℕ) (mode : Mode) : Type 0 where
  pub own_server : helper.server ≡ Some server
  pub did : own helper.number helper.seen ≡ entry_of helper.number shard (Admit server mode) ∷ []

-- why an admitted server refuses a request: the shard keeps as many as it may, or fewer and memory was refused
abbrev pub WantsRoom : Refusal → ℕ → ℕ → Type 0
WantsRoom KeptFull limit length = limit ≤ length
WantsRoom NoMemory limit length = length < limit
WantsRoom refusal limit length = ⊥

-- why a server refuses a request that its body didn't apply
abbrev pub refusal_of : ApplyFault → Refusal
refusal_of apply.KeptFull = KeptFull
refusal_of apply.NoMemory = NoMemory

-- a helper executed the request of a shell
pub record HasRun {Q R : Type 0} (service : Meaning Q R) (helper : PassValue Q) (shell : ShellView) (request : Q)
    (answer : AnswerValue Q R) : Type 0 where
  pub number : answer.number ≡ shell.number
  pub server : helper.server ≡ Some answer.server
  pub board : answer.note.board ≡ helper.board
  pub number_is : answer.note.number ≡ helper.number
  pub seen : Begins helper.seen answer.note.seen
  pub executed : IsAnswer service shell.shard shell.mode request answer

-- a helper ended its admission with nothing
pub record HasRefused {Q : Type 0} (helper : PassValue Q) (shell : ShellView) (request : Q) (refusal : Refusal)
    (back : Sent Q) : Type 0 where
  pub same_shell : shell_of back ≡ shell
  pub same_request : back.request ≡ request
  pub board : back.note.board ≡ helper.board
  pub seen : Begins helper.seen back.note.seen
  pub server : ℕ
  pub is_own : helper.server ≡ Some server
  pub ran : own back.note.number back.note.seen ≡ run_of back.note.number shell.shard server shell.mode Nothing
  pub room : WantsRoom refusal (limit_of helper shell.shard) (length (kept back.note.seen shell.shard))

-- the result of a request under a permit that the helper got
abbrev pub Ran : {Q R : Type 0} → Meaning Q R → PassValue Q → ShellView → Q → Outcome (AnswerValue Q R) (Sent Q)
    → Type 0
Ran service helper shell request (Answered answer) = HasRun service helper shell request answer
Ran service helper shell request (Forward to back) = ⊥
Ran service helper shell request (Refused refusal back) = HasRefused helper shell request refusal back

-- the envelope after a refused admission: if the record read makes the server forward it, it goes on
abbrev pub turned_by : {A Q N : Type 0} → Option ℕ → AdmitFault → Record → ℕ → EnvelopeView Q N
    → Outcome A (EnvelopeView Q N)
turned_by None fault state server envelope = Refused (NotAdmitted (admission.Refused fault state)) envelope
turned_by (Some to) fault state server envelope =
    if nat_lt envelope.hops MOST_HOPS then Forward to (one_hop_more envelope server) else Refused TooManyHops envelope

abbrev pub turned_away : {A Q N : Type 0} → AdmitRefusal → ℕ → EnvelopeView Q N → Outcome A (EnvelopeView Q N)
turned_away (admission.Raced read found) server envelope = Refused (NotAdmitted (admission.Raced read found)) envelope
turned_away (admission.Refused fault state) server envelope =
    turned_by (forward_to state server) fault state server envelope
