use Rattle.std.proofs.Common.{◌∙◌, ap, sym}
use Rattle.sm_script.specs.Words.{is_nil}
use Rattle.sm_script.proofs.WordLemmas.{words_left-some, is_nil-words_of}
use Rattle.sm_script.proofs.words.Words.is_empty.Goals as goal

pub returns-in-Some : goal.returns-in-Some
returns-in-Some c =
    sym (ap is_nil (words_left-some c.args.self.now c.self.inside.rest c.in-Some.field-0 c.self.view_is c.in-Some.is)
    ∙ is_nil-words_of c.in-Some.field-0.now)
