-- The state of a dialogue, as callers see it.
use Rattle.sm_lines.specs.Reading.{Reading}
use Rattle.sm_lines.specs.Writing.{Writing}

-- the state of its reader and of its writer
pub record Transcript : Type 0 where
  pub reading : Reading
  pub writing : Writing
