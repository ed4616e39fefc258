use Rattle.std.proofs.Common.{sym, ◌∙◌}
use Rattle.sm_ownership.specs.lemmas.Lasting.{stand_stays}
use Rattle.sm_rule.proofs.chair.Chair.stand.Goals as goal

pub returns-clause-stays : goal.returns-clause-stays
returns-clause-stays g c = λ later legal none.
    c.kept_stand.ensures ∙ sym (stand_stays c.args.self.now.board.limits.count c.args.self.now.board.limits.ceiling
    c.args.self.now.seen later c.args.k legal none)
