use Rattle.std.proofs.Common.{Some, ap, sym, ◌∙◌}
use Rattle.sm_rule.proofs.Seeing.{slot_alone}
use Rattle.sm_rule.proofs.board.Board.taken.Goals as goal

pub exchange-requires : goal.exchange-requires
exchange-requires g c =
    let body = c.requires.slot in (
      c.requires.table ∙ sym (ap (λ b. b.id) c.self.view_is),
      slot_alone _ _ _ (Some body.0) body.1 c.index.ensures.value,
    )
