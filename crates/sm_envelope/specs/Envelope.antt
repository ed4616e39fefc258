-- Requests on their way, and how servers forward them.
use Rattle.std.specs.Prelude.{ℕ, Option, Some, None, Result, Ok, Err, ◌+◌, nat_lt, if◌then◌else◌}
use Rattle.sm_envelope.specs.declared.envelope.TheConstants.{MOST_HOPS}
use Rattle.sm_ownership.specs.declared.mode.Mode.{Mode}
use Rattle.sm_ownership.specs.declared.mode.Mode.TheVariants.{Forwarded}
use Rattle.sm_ownership.specs.declared.record.Record.{Record}
use Rattle.sm_ownership.specs.Rules.{forward_to}

-- a request with its number, its shard, how it came, how often it was forwarded, and its note
pub record EnvelopeView (Q N : Type 0) : Type 0 where
  pub number : ℕ
  pub shard : ℕ
  pub mode : Mode
  pub hops : ℕ
  pub request : Q
  pub note : N

-- an envelope without its request and its note
pub record ShellView : Type 0 where
  pub number : ℕ
  pub shard : ℕ
  pub mode : Mode
  pub hops : ℕ

-- the shell of an envelope
abbrev pub shell_of : {Q N : Type 0} → EnvelopeView Q N → ShellView
shell_of envelope =
    record { number = envelope.number; shard = envelope.shard; mode = envelope.mode; hops = envelope.hops }

-- the envelope of a shell, a request and a note
abbrev pub whole : {Q N : Type 0} → ShellView → Q → N → EnvelopeView Q N
whole shell request note = record {
  number = shell.number;
  shard = shell.shard;
  mode = shell.mode;
  hops = shell.hops;
  request = request;
  note = note;
}

-- the envelope after one more hop, from this server on
abbrev pub one_hop_more : {Q N : Type 0} → EnvelopeView Q N → ℕ → EnvelopeView Q N
one_hop_more envelope from = record envelope { mode = Forwarded from; hops = envelope.hops + 1 }

-- an envelope that a server forwards, and to whom; it doesn't change if nobody is named or no hop is left
abbrev pub sent_on : {Q N : Type 0} → EnvelopeView Q N → ℕ → Option ℕ → Result (ℕ × EnvelopeView Q N) (EnvelopeView Q N)
sent_on envelope from None = Err envelope
sent_on envelope from (Some to) =
    if nat_lt envelope.hops MOST_HOPS then Ok (to, one_hop_more envelope from) else Err envelope

-- the result of forwarding an envelope by the shard's record: if the server forwards requests and a hop is left, the
-- server to which the envelope goes, and the envelope with that hop; otherwise the envelope as it was
abbrev pub forwarded : {Q N : Type 0} → EnvelopeView Q N → Record → ℕ → Result (ℕ × EnvelopeView Q N) (EnvelopeView Q N)
forwarded envelope state at = sent_on envelope at (forward_to state at)
