use Rattle.std.proofs.Common.{ap, sym, ◌∙◌, arith}
use Rattle.sm_publish.specs.RouteWords.{route_in}
use Rattle.sm_publish.proofs.Storing.{stores}
use Rattle.sm_publish.proofs.word_publisher.WordPublisher.publish.Goals as goal

pub store-requires : goal.store-requires
store-requires c =
    let seated = c.self.invariant.0 ∙ ap (λ table. table.shared.table_id) (sym c.deref.ensures) in
    let words = ap (λ id. id.words) seated in
    let counted = c.self.invariant.2 in
    let map = ap (λ view. view.map.count) (c.self.view_is ∙ c.last.ensures.unchanged) in
    let first = c.index.ensures.value in
    let index = c.index-2.ensures.value in
    let count = c.count.ensures in
    let inside = c.if-index-count.false in
    let is = ap (λ shard. route_in shard c.word_of_route-word.result) index ∙ c.word_of_route-word.ensures in
    (seated, omega arith, stores _ _ _ _ _ _ _ c.self.invariant.1 (omega arith) is)
