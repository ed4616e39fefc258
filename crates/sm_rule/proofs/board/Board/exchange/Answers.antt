use Rattle.std.proofs.Common.{◌≡◌, ap, ◌∙◌}
use Rattle.sm_word.specs.Word.{word_of}
use Rattle.sm_rule.specs.Boards.{limits_of}
use Rattle.sm_rule.proofs.Keeping.{exchange_allowed, low_ceiling}
use Rattle.sm_rule.proofs.Seeing.{in_key, in_words, same_table}
use Rattle.sm_rule.proofs.board.Board.exchange.Goals as goal

pub compare_exchange-found-requires : goal.compare_exchange-found-requires
compare_exchange-found-requires g c =
    let origin = c.self.inside.table.shared.key in
    let key = limits_of g.S.Service.limit origin.count origin.ceiling origin.bodies.value.items in
    let limits = limits_of g.S.Service.limit c.self.inside.count c.self.inside.ceiling
    c.self.inside.table.shared.key.bodies.value.items in
    let same : key ≡ limits =
    λ i. limits_of g.S.Service.limit (c.self.invariant.0 i) (c.self.invariant.1 i) origin.bodies.value.items in (
      same_table c.self.inside.table.shared.table_id limits _ c.self.view_is _ c.requires.table,
      in_words c.self.inside.table.shared.table_id limits _ c.self.view_is c.self.invariant.2 c.args.k c.index.result
          c.requires.shard c.index.ensures.value,
      exchange_allowed _ _ key _ _ c.args.k c.index.result _ _ _ c.args.read.now _ c.index.ensures.value
          (low_ceiling c.self.inside.table.shared.key.ceiling c.self.inside.ceiling c.self.invariant.1
          c.self.invariant.6)
          (in_key c.self.inside.table.shared.table_id limits _ c.self.view_is key same c.args.k c.requires.shard)
          c.requires.live c.requires.formed.0 c.requires.words.0
          (c.requires.words.1 ∙ ap word_of c.requires.next) c.requires.may,
    )
