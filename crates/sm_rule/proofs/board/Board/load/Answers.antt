use Rattle.sm_rule.specs.Boards.{limits_of}
use Rattle.sm_rule.proofs.Keeping.{loads, low_ceiling}
use Rattle.sm_rule.proofs.Seeing.{in_words, record_found, same_table}
use Rattle.sm_rule.proofs.board.Board.load.Goals as goal

pub load-word-requires : goal.load-word-requires
load-word-requires g c =
    let limits = limits_of g.S.Service.limit c.self.inside.count c.self.inside.ceiling
    c.self.inside.table.shared.key.bodies.value.items in (
      same_table c.self.inside.table.shared.table_id limits _ c.self.view_is _ c.requires.table,
      in_words c.self.inside.table.shared.table_id limits _ c.self.view_is c.self.invariant.2 c.args.k c.index.result
          c.requires.shard c.index.ensures.value,
      loads _ _ _ _ _ _ _ (low_ceiling c.self.inside.table.shared.key.ceiling c.self.inside.ceiling c.self.invariant.1
          c.self.invariant.6) c.requires.live,
    )

pub record_of_word-requires : goal.record_of_word-requires
record_of_word-requires g c =
    record_found c.load-word.new.seat.me.0 c.index.result c.load-word.result c.load-word.ensures.2.1
