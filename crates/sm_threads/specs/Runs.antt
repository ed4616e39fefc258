-- The output of a run on a cluster.
use Rattle.std.specs.Prelude.{ℕ, List}
use Rattle.sm_lines.specs.Openings.{BeginsLine}
use Rattle.sm_lines.specs.Runs.{WritesFor}
use Rattle.sm_session.specs.Responses.{Responds}
use Rattle.sm_threads.specs.Calls.{Answers}
use Rattle.sm_threads.specs.Sessions.{IsBegun}

-- the possible output for these lines of a script
abbrev pub WritesAnswers : List (List ℕ) → List ℕ → Type 0
WritesAnswers = WritesFor (BeginsLine IsBegun) (Responds Answers)
