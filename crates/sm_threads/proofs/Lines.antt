-- Each line of a script has the response of its call, whatever its length.
use Rattle.sm_lines.specs.Answers.{AnswersLine}
use Rattle.sm_lines.specs.Openings.{BeginsLine}
use Rattle.sm_lines.specs.Runs.{WritesFor}
use Rattle.sm_lines.specs.lemmas.Rewording.{Rewords, answers_as}
use Rattle.sm_script.specs.declared.line.TheConstants.{MAX_LINE}
use Rattle.sm_session.specs.LongLines.{RespondsLong}
use Rattle.sm_session.specs.Responses.{Responds}
use Rattle.sm_session.specs.lemmas.Lengths.{responds_any}
use Rattle.sm_threads.specs.Calls.{Answers}
use Rattle.sm_threads.specs.Runs.{WritesAnswers}
use Rattle.sm_threads.specs.Sessions.{IsBegun}

pub writes_answers :
    Rewords
    (WritesFor (BeginsLine IsBegun)
    (AnswersLine (Responds Answers) (λ session start text. RespondsLong start text) MAX_LINE))
    WritesAnswers
writes_answers =
    answers_as (BeginsLine IsBegun)
    (AnswersLine (Responds Answers) (λ session start text. RespondsLong start text) MAX_LINE) (Responds Answers)
    (responds_any Answers)
