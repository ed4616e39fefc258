use Rattle.std.proofs.Common.{◌≡◌}
use Rattle.sm_lines.specs.Answers.{AnswersLine}
use Rattle.sm_lines.proofs.AnswerLemmas.{SoFar}
use Rattle.sm_lines.proofs.respond.answer_lines.Given as goal

abbrev pub invariant-lines : goal.invariant-lines
invariant-lines g l = record {
  so_far : SoFar (AnswersLine g.E.Responder.gives g.E.Responder.gives_long l.limit) l.fn.dialogue l.dialogue
      l.fn.responder l.responder l._count;
  read_unfailed : l.dialogue.reading.failed ≡ l.fn.dialogue.reading.failed;
  write_unfailed : l.dialogue.writing.failed ≡ l.fn.dialogue.writing.failed;
  ready : g.E.Responder.ready l.responder;
}
