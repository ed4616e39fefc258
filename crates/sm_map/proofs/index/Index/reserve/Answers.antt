use Rattle.std.proofs.Common.{◌≡◌, set, subst, sym, arith}
use Rattle.sm_map.specs.Index.{IndexValue}
use Rattle.sm_map.specs.Blocks.{entries_in, lengths_in, IsGap}
use Rattle.sm_map.proofs.Indexes.{gap_block, same_entries, still_lengths, still_kept}
use Rattle.sm_map.proofs.index.Index.reserve.Goals as goal

pub invariant_of-self-in_err-reserve-2 : goal.invariant_of-self-in_err-reserve-2
invariant_of-self-in_err-reserve-2 c =
    let lt = gap_block c.self.inside.blocks.items c.args.place
    (subst (λ (x : IndexValue). IsGap (lengths_in x.blocks) c.args.place) (sym c.self.view_is) c.requires)
    (λ past. c.if-place-len.false (omega (arith, c.len.ensures, c.self.inside.blocks.ok.0, past))) in
    still_kept c.self.inside.blocks.items c.self.inside.len c.self.invariant c.args.place c.index_mut.result.now
    c.reserve-then-len-lt-MOST_ENTRIES.new.self lt c.index_mut.ensures.value
    c.reserve-then-len-lt-MOST_ENTRIES.ensures.entries

pub returns-in_err-reserve-2-clause-entries : goal.returns-in_err-reserve-2-clause-entries
returns-in_err-reserve-2-clause-entries c =
    let lt = gap_block c.self.inside.blocks.items c.args.place
    (subst (λ (x : IndexValue). IsGap (lengths_in x.blocks) c.args.place) (sym c.self.view_is) c.requires)
    (λ past. c.if-place-len.false (omega (arith, c.len.ensures, c.self.inside.blocks.ok.0, past))) in
    subst (λ (x : IndexValue). entries_in
    (set c.self.inside.blocks.items c.args.place.block c.reserve-then-len-lt-MOST_ENTRIES.new.self)
    ≡ entries_in x.blocks) c.self.view_is (same_entries c.self.inside.blocks.items c.self.inside.len
    c.self.invariant c.args.place c.index_mut.result.now c.reserve-then-len-lt-MOST_ENTRIES.new.self lt
    c.index_mut.ensures.value c.reserve-then-len-lt-MOST_ENTRIES.ensures.entries)

pub returns-in_err-reserve-2-clause-lengths : goal.returns-in_err-reserve-2-clause-lengths
returns-in_err-reserve-2-clause-lengths c =
    let lt = gap_block c.self.inside.blocks.items c.args.place
    (subst (λ (x : IndexValue). IsGap (lengths_in x.blocks) c.args.place) (sym c.self.view_is) c.requires)
    (λ past. c.if-place-len.false (omega (arith, c.len.ensures, c.self.inside.blocks.ok.0, past))) in
    subst (λ (x : IndexValue). lengths_in
    (set c.self.inside.blocks.items c.args.place.block c.reserve-then-len-lt-MOST_ENTRIES.new.self)
    ≡ lengths_in x.blocks) c.self.view_is (still_lengths c.self.inside.blocks.items c.self.inside.len
    c.self.invariant c.args.place c.index_mut.result.now c.reserve-then-len-lt-MOST_ENTRIES.new.self lt
    c.index_mut.ensures.value c.reserve-then-len-lt-MOST_ENTRIES.ensures.entries)

pub invariant_of-self-then-len-lt-MOST_ENTRIES : goal.invariant_of-self-then-len-lt-MOST_ENTRIES
invariant_of-self-then-len-lt-MOST_ENTRIES c =
    let lt = gap_block c.self.inside.blocks.items c.args.place
    (subst (λ (x : IndexValue). IsGap (lengths_in x.blocks) c.args.place) (sym c.self.view_is) c.requires)
    (λ past. c.if-place-len.false (omega (arith, c.len.ensures, c.self.inside.blocks.ok.0, past))) in
    still_kept c.self.inside.blocks.items c.self.inside.len c.self.invariant c.args.place c.index_mut.result.now
    c.reserve-then-len-lt-MOST_ENTRIES.new.self lt c.index_mut.ensures.value
    c.reserve-then-len-lt-MOST_ENTRIES.ensures.entries

pub returns-then-len-lt-MOST_ENTRIES-clause-entries : goal.returns-then-len-lt-MOST_ENTRIES-clause-entries
returns-then-len-lt-MOST_ENTRIES-clause-entries c =
    let lt = gap_block c.self.inside.blocks.items c.args.place
    (subst (λ (x : IndexValue). IsGap (lengths_in x.blocks) c.args.place) (sym c.self.view_is) c.requires)
    (λ past. c.if-place-len.false (omega (arith, c.len.ensures, c.self.inside.blocks.ok.0, past))) in
    subst (λ (x : IndexValue). entries_in
    (set c.self.inside.blocks.items c.args.place.block c.reserve-then-len-lt-MOST_ENTRIES.new.self)
    ≡ entries_in x.blocks) c.self.view_is (same_entries c.self.inside.blocks.items c.self.inside.len
    c.self.invariant c.args.place c.index_mut.result.now c.reserve-then-len-lt-MOST_ENTRIES.new.self lt
    c.index_mut.ensures.value c.reserve-then-len-lt-MOST_ENTRIES.ensures.entries)

pub returns-then-len-lt-MOST_ENTRIES-clause-lengths : goal.returns-then-len-lt-MOST_ENTRIES-clause-lengths
returns-then-len-lt-MOST_ENTRIES-clause-lengths c =
    let lt = gap_block c.self.inside.blocks.items c.args.place
    (subst (λ (x : IndexValue). IsGap (lengths_in x.blocks) c.args.place) (sym c.self.view_is) c.requires)
    (λ past. c.if-place-len.false (omega (arith, c.len.ensures, c.self.inside.blocks.ok.0, past))) in
    subst (λ (x : IndexValue). lengths_in
    (set c.self.inside.blocks.items c.args.place.block c.reserve-then-len-lt-MOST_ENTRIES.new.self)
    ≡ lengths_in x.blocks) c.self.view_is (still_lengths c.self.inside.blocks.items c.self.inside.len
    c.self.invariant c.args.place c.index_mut.result.now c.reserve-then-len-lt-MOST_ENTRIES.new.self lt
    c.index_mut.ensures.value c.reserve-then-len-lt-MOST_ENTRIES.ensures.entries)
