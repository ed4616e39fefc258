use Rattle.std.proofs.Common.{ap, sym, ◌∙◌, arith}
use Rattle.sm_publish.proofs.Storing.{splits}
use Rattle.sm_publish.proofs.word_publisher.WordPublisher.router.Goals as goal

pub split_seat-seat-requires : goal.split_seat-seat-requires
split_seat-seat-requires c =
    let seated = c.self.invariant.0 ∙ ap (λ table. table.shared.table_id) (sym c.deref.ensures) in
    let words = ap (λ id. id.words) seated in
    let counted = c.self.invariant.2 in
    let some = c.self.invariant.3 in
    (seated, omega arith, splits _ _ _)
