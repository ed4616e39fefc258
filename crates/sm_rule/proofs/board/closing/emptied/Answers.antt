use Rattle.std.proofs.Common.{◌≡◌, ◌≢◌, ◌<◌, ◌+◌, false, [], ◌∷◌, ap, length, length-append, sym, subst, ◌∙◌, arith}
use Rattle.std.proofs.Common.{⊎_elim}
use Rattle.std.specs.Prelude.{Option, slice_index_or, slice_set}
use Rattle.std.proofs.lemmas.Bool.{cases_eq}
use Rattle.std.proofs.lemmas.List.{get_or-set_other}
use lib.ListN.{get_elem?}
use Rattle.core.specs.Mem.Slots.{IsFull, slots_filled, slots_items, slots_len}
use Rattle.sm_ownership.specs.declared.record.Record.{Record}
use Rattle.sm_rule.specs.Closing.{AreTaken, IsTaken}
use Rattle.sm_rule.proofs.Ending.{taken_pushed, unset, word_taken}
use Rattle.sm_rule.proofs.board.closing.emptied.Goals as goal

pub word-requires : goal.word-requires
word-requires g c =
    let same = c.loop-shard.invariant.0 in
    let full = c.requires.full in
    let below = c.loop-shard-test.true in
    let end = c.slot_count-shard-end.ensures in
    let many = full.2 in
    let within : c.loop-shard.shard < slots_len c.args.closed.words = omega arith in
    (subst (λ row. c.loop-shard.shard < slots_len row) (sym same) within, subst IsFull (sym same) full.0)

pub loop-shard-preserved : goal.loop-shard-preserved
loop-shard-preserved g c =
    let before = c.loop-shard.invariant in
    let taken = c.take-slot.ensures.others in
    let marks = slots_filled c.loop-shard.closed.slots in
    let at = c.loop-shard.shard in
    let row : Record × Option g.row.S.Denot = (c.record_of_word-state.result, c.at_home-body.result) in
    let many = before.5 in
    let length_grown = ap length c.in-Ok.ensures.items ∙ length-append c.loop-shard.rows.items (row ∷ []) in
    let room = before.6 in
    let grown = c.push.ensures.capacity in
    let same = taken.2 in
    let word =
    word_taken (slots_items c.args.closed.words) c.requires.words at c.word.result c.record_of_word-state.result (ap
    (λ words. get_elem? (slots_items words) at) (sym before.0) ∙ c.word.ensures) c.record_of_word-state.ensures in
    let slot = ap (λ slots. get_elem? slots at) (sym before.1) ∙ c.take-slot.ensures.value in
    let next : IsTaken (slots_items c.args.closed.words) (slots_items c.args.closed.slots) at row =
    (word.0, word.1, (c.take-slot.result, slot, c.at_home-body.ensures)) in
    let rows = taken_pushed (slots_items c.args.closed.words)
    (slots_items c.args.closed.slots) c.loop-shard.rows.items row before.7 (subst
    (λ k. IsTaken (slots_items c.args.closed.words) (slots_items c.args.closed.slots) k row) (sym many) next) in (
      taken.3 ∙ before.0,
      taken.0 ∙ before.1,
      taken.2 ∙ before.2,
      (λ k above within. ap (λ flags. slice_index_or flags k false) taken.1
          ∙ (get_or-set_other marks at k false false (λ is. omega arith) ∙ before.3 k (omega arith) (omega arith))),
      (λ k below. ap (λ flags. slice_index_or flags k false) taken.1 ∙ ⊎_elim
          (λ (is : k ≡ at). ap (λ one. slice_index_or (slice_set marks at false) one false) is ∙ unset marks at) (λ
          (apart : k ≢ at). get_or-set_other marks at k false false apart ∙ before.4 k (omega arith)) (cases_eq k at)),
      length_grown ∙ ap (λ n. n + 1) many,
      omega arith,
      subst (AreTaken (slots_items c.args.closed.words) (slots_items c.args.closed.slots))
          (sym c.in-Ok.ensures.items) rows,
    )
