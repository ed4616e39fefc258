use Rattle.std.proofs.Common.{ap, sym, ◌∙◌, arith}
use Rattle.sm_publish.proofs.Storing.{reads}
use Rattle.sm_publish.proofs.word_router.WordRouter.route.Goals as goal

pub load-word-requires : goal.load-word-requires
load-word-requires c =
    let first = ap (λ table. table.shared.table_id.words) (c.deref.ensures ∙ sym c.deref-2.ensures) in
    let seated = c.self.invariant.0 ∙ ap (λ table. table.shared.table_id) (sym c.deref-2.ensures) in
    let index = c.index.ensures.value in
    let again = c.index-2.ensures.value in
    let count = c.word_count.ensures in
    let inside = c.if-index-word_count.false in
    (seated, omega arith, reads _ _ _ _ _)
