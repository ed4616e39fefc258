-- How a run ends, by how answering its lines ended.
use Rattle.std.specs.Prelude.{Result, Ok, Err}
use Rattle.sm_lines.specs.declared.answer_fault.AnswerFault.{AnswerFault}
use Rattle.sm_lines.specs.declared.answer_fault.AnswerFault.TheVariants as answer
use Rattle.sm_lines.specs.declared.run_fault.RunFault.{RunFault}
use Rattle.sm_lines.specs.declared.run_fault.RunFault.TheVariants.{Read, Write, NoMemory}
use Rattle.sm_lines.specs.declared.status.Status.{Status}
use Rattle.sm_lines.specs.declared.status.Status.TheVariants.{Ran}

-- the fault of the run for a fault of answering
abbrev pub run_fault_of : AnswerFault → RunFault
run_fault_of answer.Read = Read
run_fault_of answer.Write = Write
run_fault_of answer.NoMemory = NoMemory

-- the run ended because its lines were all answered, or with the same fault
abbrev pub status_of : {T : Type 0} → Result T AnswerFault → Result Status RunFault
status_of (Ok all) = Ok Ran
status_of (Err fault) = Err (run_fault_of fault)
