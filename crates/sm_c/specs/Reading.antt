-- The record that a refused call had read.
use Rattle.std.specs.Prelude.{ℕ, ◌≡◌, Option, Some, None}
use Rattle.sm_desk.specs.declared.command.CommandFault.TheVariants.{Change as ByChange, Raced as RacedChange}
use Rattle.sm_ownership.specs.declared.change_fault.ChangeFault.TheVariants.{Busy, Spent}
use Rattle.sm_ownership.specs.declared.record.Record.{Record}
use Rattle.sm_rule.specs.Admissions.{record_told}
use Rattle.sm_rule.specs.Words.{IsWordOf}
use Rattle.sm_server.specs.declared.checkpoint_fault.CheckpointFault.TheVariants.{Admit as ByAdmission}
use Rattle.sm_server.specs.declared.refusal.Refusal.{Refusal}
use Rattle.sm_server.specs.declared.refusal.Refusal.TheVariants.{Admit as UnadmittedAt}
use Rattle.sm_handle.specs.ActFault.{ActFault}
use Rattle.sm_handle.specs.ActFault.TheVariants.{Admit, Checkpoint, Command}
use Rattle.sm_c.specs.Words.{ArePartsOf}
use Rattle.sm_c.specs.declared.record_parts.RecordParts.{RecordParts}

-- the record that refused an act, or the record that was found in its place; nothing if none was read
abbrev pub act_read : ActFault → Option Record
act_read (Admit refusal) = Some (record_told refusal)
act_read (Checkpoint (ByAdmission refusal)) = Some (record_told refusal)
act_read (Command (RacedChange read found)) = Some found
act_read (Command (ByChange (Spent read))) = Some read
act_read (Command (ByChange (Busy read))) = Some read
act_read fault = None

-- the same of an envelope
abbrev pub refusal_read : Refusal → Option Record
refusal_read (UnadmittedAt refusal) = Some (record_told refusal)
refusal_read refusal = None

-- the parts are then those of this record; without one they are as they were
abbrev pub TellsRecord : Option Record → RecordParts → RecordParts → Type 0
TellsRecord (Some state) before after = ArePartsOf after state
TellsRecord None before after = after ≡ before

-- the word is then that of the record by which an admission was refused, or of the record that was found in its place;
-- if none was read, it is as it was
abbrev pub TellsAdmission : ActFault → ℕ → ℕ → Type 0
TellsAdmission (Admit refusal) before after = IsWordOf (record_told refusal) after
TellsAdmission fault before after = after ≡ before
