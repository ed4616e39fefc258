use Rattle.sm_script.proofs.WordLemmas.{words_of-at_space, words_of-no_space}
use Rattle.sm_script.proofs.words.cut.Goals as goal

pub returns-in-Some : goal.returns-in-Some
returns-in-Some c =
    words_of-at_space c.args.line.now c.in-Some.end c.in-Some.ensures.space.0 c.in-Some.ensures.space.1
    c.in-Some.ensures.before

pub returns-in-None : goal.returns-in-None
returns-in-None c = words_of-no_space c.args.line.now c.in-None.ensures.none
