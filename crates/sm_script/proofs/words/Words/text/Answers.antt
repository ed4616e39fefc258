use Rattle.std.proofs.Common.{◌∙◌, ap, sym}
use Rattle.std.specs.List.{join_with_byte}
use Rattle.sm_script.proofs.WordLemmas.{words_left-some, text_of-words_of}
use Rattle.sm_script.proofs.words.Words.text.Goals as goal

pub returns-in-Some : goal.returns-in-Some
returns-in-Some c =
    sym (ap (join_with_byte 32) (words_left-some c.args.self.now c.self.inside.rest c.in-Some.line c.self.view_is
    c.in-Some.is) ∙ text_of-words_of c.in-Some.line.now)
