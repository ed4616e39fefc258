use Rattle.std.proofs.Common.{◌≡◌, ℕ, ◌<◌, ◌+◌, List, length, sum, take, subst, sym, ap, ◌∙◌, arith}
use Rattle.std.proofs.lemmas.List.{take_all, length-take}
use Rattle.sm_ranges.specs.Keyed.{IsKeyGap}
use Rattle.sm_map.specs.KeyMap.{KeyPair, key_of}
use Rattle.sm_map.specs.ArenaMap.{MapValue, IsAddition}
use Rattle.sm_map.specs.Blocks.{number_of, HasEntry, IsStop}
use Rattle.sm_map.specs.declared.place.Place.{Place}
use Rattle.sm_map.specs.Val.{row_of}
use Rattle.sm_map.proofs.Blocks.{stop_has, stop_end, has_within, filled_more}
use Rattle.sm_map.proofs.KeyMaps.{copy_gap, copy_more}
use Rattle.sm_map.proofs.Entries.{seen_in_order, map_sum}
use Rattle.sm_map.proofs.arena_map.ArenaMap.copy.Goals as goal

-- at a place before the end there is an entry; `seen` is the map as its parts show it
entry_at : (seen map : MapValue) → seen ≡ map → (place : Place) (count : ℕ) → place.block < count
    → count ≡ length seen.blocks → IsStop map.blocks place
    → sum seen.blocks ≡ length seen.pairs → HasEntry map.blocks place × (number_of map.blocks place < length map.pairs)
entry_at seen map is place count before counted stop all =
    let blocks = subst (λ (x : MapValue). count ≡ length x.blocks) is counted in
    let pairs = subst (λ (x : MapValue). sum x.blocks ≡ length x.pairs) is all in
    let has = stop_has map.blocks place stop (omega (arith, before, blocks)) in
    (has, omega (arith, pairs, has_within map.blocks place has))

pub pair_at-requires : goal.pair_at-requires
pair_at-requires c =
    (entry_at _ _ c.self.view_is c.loop-place.place _ c.loop-place-test.true c.block_count.ensures
    c.loop-place.invariant.stop (map_sum c.self.inside.arena c.self.inside.index.blocks)).0

pub insert_at-requires-clause-absent : goal.insert_at-requires-clause-absent
insert_at-requires-clause-absent c =
    let within = (entry_at _ _ c.self.view_is c.loop-place.place _ c.loop-place-test.true c.block_count.ensures
    c.loop-place.invariant.stop (map_sum c.self.inside.arena c.self.inside.index.blocks)).1 in
    let end : number_of c.args.self.now.blocks c.loop-place.place ≡ number_of c.loop-place.map.blocks c.end.result =
    omega (
      arith,
      c.end.ensures.end,
      ap (λ (l : List KeyPair). length l) c.loop-place.invariant.pairs,
      length-take (number_of c.args.self.now.blocks c.loop-place.place) c.args.self.now.pairs,
      within,
    ) in
    let rising = seen_in_order _ _ _ _ c.self.view_is c.self.invariant in
    subst (λ (n : ℕ). IsKeyGap key_of c.loop-place.map.pairs (row_of c.pair_at.result).key n) end
    (copy_gap _ rising _ within (row_of c.pair_at.result) c.pair_at.ensures _ c.loop-place.invariant.pairs)

pub loop-place-preserved : goal.loop-place-preserved
loop-place-preserved c =
    let within = (entry_at _ _ c.self.view_is c.loop-place.place _ c.loop-place-test.true c.block_count.ensures
    c.loop-place.invariant.stop (map_sum c.self.inside.arena c.self.inside.index.blocks)).1 in
    let end : number_of c.args.self.now.blocks c.loop-place.place ≡ number_of c.loop-place.map.blocks c.end.result =
    omega (
      arith,
      c.end.ensures.end,
      ap (λ (l : List KeyPair). length l) c.loop-place.invariant.pairs,
      length-take (number_of c.args.self.now.blocks c.loop-place.place) c.args.self.now.pairs,
      within,
    ) in
    let next : number_of c.args.self.now.blocks c.after-place.result
    ≡ number_of c.args.self.now.blocks c.loop-place.place + 1 =
    subst (λ (x : MapValue). number_of x.blocks c.after-place.result ≡ number_of x.blocks c.loop-place.place + 1)
    c.self.view_is c.after-place.ensures.next in
    let rising = seen_in_order _ _ _ _ c.self.view_is c.self.invariant in
    let one = subst (λ (n : ℕ). IsAddition c.loop-place.map n (row_of c.pair_at.result) c.insert_at.new.self)
    (sym end) c.in_ok-insert_at.ensures.ok in
    let more = copy_more c.args.self.now.pairs rising (number_of c.args.self.now.blocks c.loop-place.place) within
    (row_of c.pair_at.result) c.pair_at.ensures c.loop-place.map c.insert_at.new.self (
      c.loop-place.invariant.pairs,
      c.loop-place.invariant.dead,
    ) one in
    record {
      stop = subst (λ (x : MapValue). IsStop x.blocks c.after-place.result) c.self.view_is c.after-place.ensures.stop;
      pairs = more.0 ∙ sym (ap (λ (n : ℕ). take n c.args.self.now.pairs) next);
      dead = more.1;
      filled = filled_more c.loop-place.map.blocks c.insert_at.new.self.blocks c.end.result c.end.ensures.last
          c.in_ok-insert_at.ensures.blocks c.loop-place.invariant.filled;
    }

pub loop-place-smaller : goal.loop-place-smaller
loop-place-smaller c =
    let within = (entry_at _ _ c.self.view_is c.loop-place.place _ c.loop-place-test.true c.block_count.ensures
    c.loop-place.invariant.stop (map_sum c.self.inside.arena c.self.inside.index.blocks)).1 in
    let next : number_of c.args.self.now.blocks c.after-place.result
    ≡ number_of c.args.self.now.blocks c.loop-place.place + 1 =
    subst (λ (x : MapValue). number_of x.blocks c.after-place.result ≡ number_of x.blocks c.loop-place.place + 1)
    c.self.view_is c.after-place.ensures.next in
    omega (arith, within, next)

pub returns-clause-pairs : goal.returns-clause-pairs
returns-clause-pairs c =
    let all : sum c.args.self.now.blocks ≡ length c.args.self.now.pairs =
    subst (λ (x : MapValue). sum x.blocks ≡ length x.pairs) c.self.view_is
    (map_sum c.self.inside.arena c.self.inside.index.blocks) in
    let past = subst (λ (x : MapValue). c.block_count.result ≡ length x.blocks) c.self.view_is c.block_count.ensures in
    let end = stop_end c.args.self.now.blocks c.loop-place.place c.loop-place.invariant.stop
    (omega (arith, past, c.loop-place-test.false)) in (
      c.loop-place.invariant.pairs ∙ take_all (number_of c.args.self.now.blocks
          c.loop-place.place) c.args.self.now.pairs (omega (arith, end, all)),
      c.loop-place.invariant.dead,
    )
