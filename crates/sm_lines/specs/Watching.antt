-- The state in which a run leaves the reader and the writer, whatever the script.
use Rattle.std.specs.Prelude.{◌≡◌, ◌≢◌, true, ℕ, List, [], Result, Ok, Err}
use Rattle.std.specs.Io.KnownBytes.{IsAtEnd}
use Rattle.sm_lines.specs.Reading.{Reads}
use Rattle.sm_lines.specs.Transcripts.{Transcript}
use Rattle.sm_lines.specs.declared.run_fault.RunFault.{RunFault}
use Rattle.sm_lines.specs.declared.run_fault.RunFault.TheVariants.{Read, Write}
use Rattle.sm_lines.specs.declared.status.Status.{Status}
use Rattle.sm_lines.specs.declared.status.Status.TheVariants.{Ran}

-- the reader and the writer after the run
pub record KeepsWatch (result : Result Status RunFault) (was now : Transcript) : Type 0 where
  -- if the whole script ran, nothing is left to read
  pub read_all : result ≡ Ok Ran → IsAtEnd now.reading.left
  -- no failed call is hidden by another fault: if a read fails, all answers so far are written
  pub reader_unfailed : result ≢ Err Read → now.reading.failed ≡ was.reading.failed
  pub writer_unfailed : result ≢ Err Write → now.writing.failed ≡ was.writing.failed
  -- the reader is called no more often than it gives bytes, but for one call that sees the end or fails, and not later
  pub reads : (taken : List ℕ) × Reads was.reading now.reading taken true
  -- no answer is kept back
  pub none_waits : was.writing.waiting ≡ [] → now.writing.waiting ≡ []
