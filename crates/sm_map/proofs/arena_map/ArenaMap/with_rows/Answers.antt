use Rattle.std.proofs.Common.{◌≡◌, ℕ, ◌<◌, ◌≤◌, ◌+◌, List, length, map, subst, sym, ap, ◌∙◌, arith}
use Rattle.std.specs.List.{between}
use Rattle.std.specs.Borrow.{Bor}
use Rattle.std.proofs.lemmas.List.{length_push}
use Rattle.sm_map.specs.ArenaMap.{MapValue}
use Rattle.sm_map.specs.Blocks.{entries_in, lengths_in, number_of}
use Rattle.sm_map.specs.KeyEntry.{pairs_of}
use Rattle.sm_map.specs.Val.{row_of}
use Rattle.sm_map.specs.declared.val.Val.{Val}
use Rattle.sm_map.proofs.Blocks.{item_there}
use Rattle.sm_map.proofs.Entries.{key_placed, slot_readable, row_there, length-pairs}
use Rattle.sm_map.proofs.Ranges.{rows_more}
use Rattle.sm_map.proofs.arena_map.ArenaMap.with_rows.Goals as goal

pub get-requires : goal.get-requires
get-requires c =
    let there = item_there c.self.inside.index.blocks c.args.place c.args.high c.entries-entry-items.result.now
    (rw (← c.self.view_is) at c.requires.block)
    (rw (← c.self.view_is) at c.requires.order.1) c.entries-entry-items.ensures.count
    c.entries-entry-items.ensures.each c.loop-entry.entry-index c.loop-entry-test.true _ in
    key_placed _ _ there.0 _ there.1 _ c.self.invariant

pub read-requires : goal.read-requires
read-requires c =
    let there = item_there c.self.inside.index.blocks c.args.place c.args.high c.entries-entry-items.result.now
    (rw (← c.self.view_is) at c.requires.block)
    (rw (← c.self.view_is) at c.requires.order.1) c.entries-entry-items.ensures.count
    c.entries-entry-items.ensures.each c.loop-entry.entry-index c.loop-entry-test.true _ in
    slot_readable _ _ there.0 _ there.1 _ c.self.invariant

pub loop-entry-preserved : goal.loop-entry-preserved
loop-entry-preserved c =
    let blocks = c.self.inside.index.blocks in
    let before = number_of (lengths_in blocks) c.args.place in
    let pairs = pairs_of c.self.inside.arena.placed (entries_in blocks) in
    let there = item_there blocks c.args.place c.args.high c.entries-entry-items.result.now (rw (← c.self.view_is) at
    c.requires.block) (rw (← c.self.view_is) at c.requires.order.1) c.entries-entry-items.ensures.count
    c.entries-entry-items.ensures.each c.loop-entry.entry-index c.loop-entry-test.true _ in
    let row : Bor (List ℕ) × Val = (c.get.result, c.read.result) in
    let here =
    row_there (entries_in blocks) _ there.0 _ there.1 c.self.inside.arena.placed row c.get.ensures c.read.ensures in
    let within : before + c.loop-entry.entry-index < length pairs =
    omega (arith, there.0, length-pairs c.self.inside.arena.placed (entries_in blocks)) in
    let next : (before + c.loop-entry.entry-index) + 1 ≡ before + (c.loop-entry.entry-index + 1) = omega arith in
    let long = ap (λ (l : List (Bor (List ℕ) × Val)). length l) c.in_ok-push.ensures.items
    ∙ length_push c.loop-entry.rows.items row in
    let so_far = subst (λ (x : MapValue). (start : ℕ) → start ≤ number_of x.blocks c.args.place
    → map row_of c.args.rows.items ≡ between start (number_of x.blocks c.args.place) x.pairs → map row_of
    c.loop-entry.rows.items ≡ between start (number_of x.blocks c.args.place + c.loop-entry.entry-index) x.pairs)
    (sym c.self.view_is) c.loop-entry.invariant.rows in
    record {
      count = omega (arith, c.loop-entry.invariant.count, long);
      rows = subst (λ (x : MapValue). (start : ℕ) → start ≤ number_of x.blocks c.args.place → map row_of
          c.args.rows.items ≡ between start (number_of x.blocks c.args.place) x.pairs → map row_of c.push.new.self.items
          ≡ between start (number_of x.blocks c.args.place + (c.loop-entry.entry-index + 1)) x.pairs) c.self.view_is
          (λ start le is. ap (λ (l : List (Bor (List ℕ) × Val)). map row_of l) c.in_ok-push.ensures.items
          ∙ (rows_more pairs start (before + c.loop-entry.entry-index)
          (omega (arith, le)) within c.loop-entry.rows.items row (so_far start le is) here
          ∙ ap (λ (n : ℕ). between start n pairs) next));
    }
