use Rattle.std.proofs.Common.{ap, sym, ◌∙◌, arith}
use Rattle.sm_publish.proofs.Storing.{recalls}
use Rattle.sm_publish.proofs.word_publisher.WordPublisher.last.Goals as goal

pub load-word-requires : goal.load-word-requires
load-word-requires c =
    let seated = c.self.invariant.0 ∙ ap (λ table. table.shared.table_id) (sym c.deref.ensures) in
    let words = ap (λ id. id.words) seated in
    let counted = c.self.invariant.2 in
    let map = ap (λ view. view.map.count) c.self.view_is in
    let index = c.index.ensures.value in
    let inside = c.requires in
    (seated, omega arith, recalls _ _ _ _ _ c.self.invariant.1)
