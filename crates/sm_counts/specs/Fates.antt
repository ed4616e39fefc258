-- The fate of an envelope, as the counters of a server tell it.
use Rattle.std.specs.Prelude.{ℕ}
use Rattle.sm_ownership.specs.declared.admit_fault.AdmitFault.{AdmitFault}
use Rattle.sm_ownership.specs.declared.admit_fault.AdmitFault.TheVariants as admit
use Rattle.sm_rule.specs.declared.admit_refusal.AdmitRefusal.TheVariants as admission
use Rattle.sm_server.specs.declared.outcome.Outcome.{Outcome}
use Rattle.sm_server.specs.declared.outcome.Outcome.TheVariants as outcome
use Rattle.sm_server.specs.declared.refusal.Refusal.{Refusal}
use Rattle.sm_server.specs.declared.refusal.Refusal.TheVariants as refusal
use Rattle.sm_counts.specs.declared.fate.Fate.{Fate}
use Rattle.sm_counts.specs.declared.fate.Fate.TheVariants as fate

-- the fate of an envelope whose shard's record refused it
abbrev pub fate_of_fault : AdmitFault → Fate
fate_of_fault admit.Vacant = fate.Vacant
fate_of_fault admit.Paused = fate.Paused
fate_of_fault admit.NotExecutor = fate.NotExecutor
fate_of_fault admit.NotYet = fate.NotYet
fate_of_fault admit.Admitted = fate.Admitted
fate_of_fault admit.Spent = fate.Spent

-- the fate of an envelope that a server refused
abbrev pub fate_of_refusal : Refusal → Fate
fate_of_refusal refusal.WrongShard = fate.WrongShard
fate_of_refusal refusal.TooManyHops = fate.TooManyHops
fate_of_refusal (refusal.Admit (admission.Refused fault read)) = fate_of_fault fault
fate_of_refusal (refusal.Admit (admission.Raced read found)) = fate.Raced
fate_of_refusal refusal.KeptFull = fate.KeptFull
fate_of_refusal refusal.NoMemory = fate.NoMemory

-- the fate of an envelope by the outcome of the server's step on it
abbrev pub fate_of : {A E : Type 0} → Outcome A E → Fate
fate_of (outcome.Answered answer) = fate.Answered
fate_of (outcome.Forward server envelope) = fate.Forwarded
fate_of (outcome.Refused why envelope) = fate_of_refusal why

-- the numbers of servers and shards that have counters
pub record CountersValue : Type 0 where
  pub servers : ℕ
  pub shards : ℕ
