use Rattle.std.specs.Vec.{vec_capacity}
use Rattle.sm_map.specs.Block.{BlockValue}
use Rattle.std.proofs.Common.{◌≡◌, ◌<◌, ◌≤◌, vec_len, List, ◌+◌, ◌-◌, length, set, subst, sym, ap, ◌∙◌, arith}
use Rattle.std.specs.List.{insert}
use Rattle.sm_map.specs.Index.{IndexValue, IsIndex, IsReady}
use Rattle.sm_map.specs.Blocks.{entries_in, lengths_in, number_of, HasOneMore}
use Rattle.sm_map.specs.declared.key_entry.KeyEntry.{KeyEntry}
use Rattle.sm_map.specs.declared.room.Room.TheVariants.{Inside, Beside, Behind}
use Rattle.sm_map.proofs.Indexes.{entries_bounded, ready_as, insert_entries, insert_kept, half_entries, half_kept}
use Rattle.sm_map.proofs.Indexes.{behind_entries, behind_kept, longer_lengths, half_lengths, behind_lengths}
use Rattle.sm_map.proofs.index.Index.insert.Goals as goal

pub overflow_add-self : goal.overflow_add-self
overflow_add-self c = record {
  fits = omega (
    arith,
    c.self.invariant.counted,
    entries_bounded c.self.inside.blocks.items c.self.invariant.filled,
    c.self.inside.blocks.ok.0,
    c.self.inside.blocks.ok.1,
    c.self.inside.blocks.small,
  );
}

pub invariant_of-self : goal.invariant_of-self
invariant_of-self c =
    let ready : IsReady (record {
      blocks = c.self.inside.blocks.items;
      room = vec_capacity c.self.inside.blocks - vec_len c.self.inside.blocks;
    }) c.args.place Inside =
    ready_as _ _ _ _ _ c.self.view_is c.in-Inside.is c.requires in
    let here = subst (λ (x : BlockValue). (c.args.place.offset ≤ length x.entries) × (length x.entries < 64)
    × (0 < x.room)) (sym c.index_mut.ensures.value) (ready.1 c.index_mut.result.now) in
    insert_kept c.self.inside.blocks.items c.self.inside.len c.self.invariant c.args.place c.index_mut.result.now
    c.insert.new.self ready.0 c.index_mut.ensures.value c.args.entry here.0 here.1 c.insert.ensures

pub returns-in-Inside-clause-entries : goal.returns-in-Inside-clause-entries
returns-in-Inside-clause-entries c =
    let ready : IsReady (record {
      blocks = c.self.inside.blocks.items;
      room = vec_capacity c.self.inside.blocks - vec_len c.self.inside.blocks;
    }) c.args.place Inside =
    ready_as _ _ _ _ _ c.self.view_is c.in-Inside.is c.requires in
    let here = subst (λ (x : BlockValue). (c.args.place.offset ≤ length x.entries) × (length x.entries < 64)
    × (0 < x.room)) (sym c.index_mut.ensures.value) (ready.1 c.index_mut.result.now) in
    subst (λ (x : IndexValue). entries_in (set c.self.inside.blocks.items c.args.place.block c.insert.new.self)
    ≡ insert (entries_in x.blocks) (number_of (lengths_in x.blocks) c.args.place) c.args.entry) c.self.view_is
    (insert_entries c.self.inside.blocks.items c.self.inside.len c.self.invariant c.args.place c.index_mut.result.now
    c.insert.new.self ready.0 c.index_mut.ensures.value c.args.entry here.0 here.1 c.insert.ensures)

pub invariant_of-self-in-Beside : goal.invariant_of-self-in-Beside
invariant_of-self-in-Beside c =
    let ready : IsReady (record {
      blocks = c.self.inside.blocks.items;
      room = vec_capacity c.self.inside.blocks - vec_len c.self.inside.blocks;
    }) c.args.place
    (Beside c.in-Beside.lower) = ready_as _ _ _ _ _ c.self.view_is c.in-Beside.is c.requires in
    let here = subst (λ (x : BlockValue). (c.args.place.offset ≤ length x.entries) × (length x.entries ≡ 64))
    (sym c.index_mut-in-Beside.ensures.value) (ready.1 c.index_mut-in-Beside.result.now) in
    subst (λ (l : List BlockValue). IsIndex l (c.self.inside.len + 1)) (sym c.add.ensures)
    (half_kept c.self.inside.blocks.items c.self.inside.len c.self.invariant c.args.place
    c.index_mut-in-Beside.result.now c.insert_split-upper.new.self ready.0 c.index_mut-in-Beside.ensures.value
    c.args.entry here.0 c.insert_split-upper.result c.insert_split-upper.ensures)

pub returns-in-Beside-clause-entries : goal.returns-in-Beside-clause-entries
returns-in-Beside-clause-entries c =
    let ready : IsReady (record {
      blocks = c.self.inside.blocks.items;
      room = vec_capacity c.self.inside.blocks - vec_len c.self.inside.blocks;
    }) c.args.place
    (Beside c.in-Beside.lower) = ready_as _ _ _ _ _ c.self.view_is c.in-Beside.is c.requires in
    let here = subst (λ (x : BlockValue). (c.args.place.offset ≤ length x.entries) × (length x.entries ≡ 64))
    (sym c.index_mut-in-Beside.ensures.value) (ready.1 c.index_mut-in-Beside.result.now) in
    subst (λ (x : IndexValue). entries_in (c.add.new.blocks.items)
    ≡ insert (entries_in x.blocks) (number_of (lengths_in x.blocks) c.args.place) c.args.entry) c.self.view_is
    (ap entries_in c.add.ensures
    ∙ half_entries c.self.inside.blocks.items c.self.inside.len c.self.invariant c.args.place
    c.index_mut-in-Beside.result.now c.insert_split-upper.new.self ready.0 c.index_mut-in-Beside.ensures.value
    c.args.entry here.0 c.insert_split-upper.result c.insert_split-upper.ensures)

pub invariant_of-self-in-Behind : goal.invariant_of-self-in-Behind
invariant_of-self-in-Behind c =
    let ready : IsReady (record {
      blocks = c.self.inside.blocks.items;
      room = vec_capacity c.self.inside.blocks - vec_len c.self.inside.blocks;
    }) c.args.place
    (Behind c.in-Behind.last) = ready_as _ _ _ _ _ c.self.view_is c.in-Behind.is c.requires in
    let one = c.insert-in-Behind.ensures ∙ ap (λ (l : List KeyEntry). insert l 0 c.args.entry) ready.3 in
    subst (λ (l : List BlockValue). IsIndex l (c.self.inside.len + 1)) (sym c.add-in-Behind.ensures)
    (behind_kept c.self.inside.blocks.items c.self.inside.len c.self.invariant c.args.place
    c.insert-in-Behind.new.self c.args.entry ready.0 ready.1 one)

pub returns-in-Behind-clause-entries : goal.returns-in-Behind-clause-entries
returns-in-Behind-clause-entries c =
    let ready : IsReady (record {
      blocks = c.self.inside.blocks.items;
      room = vec_capacity c.self.inside.blocks - vec_len c.self.inside.blocks;
    }) c.args.place
    (Behind c.in-Behind.last) = ready_as _ _ _ _ _ c.self.view_is c.in-Behind.is c.requires in
    let one = c.insert-in-Behind.ensures ∙ ap (λ (l : List KeyEntry). insert l 0 c.args.entry) ready.3 in
    subst (λ (x : IndexValue). entries_in (c.add-in-Behind.new.blocks.items)
    ≡ insert (entries_in x.blocks) (number_of (lengths_in x.blocks) c.args.place) c.args.entry) c.self.view_is
    (ap entries_in c.add-in-Behind.ensures ∙ behind_entries c.self.inside.blocks.items c.self.inside.len
    c.self.invariant c.args.place c.insert-in-Behind.new.self c.args.entry ready.0 ready.1 one)

pub returns-in-Inside-clause-lengths : goal.returns-in-Inside-clause-lengths
returns-in-Inside-clause-lengths c =
    let ready : IsReady (record {
      blocks = c.self.inside.blocks.items;
      room = vec_capacity c.self.inside.blocks - vec_len c.self.inside.blocks;
    }) c.args.place Inside = ready_as _ _ _ _ _ c.self.view_is c.in-Inside.is c.requires in
    let here = subst (λ (x : BlockValue). (c.args.place.offset ≤ length x.entries) × (length x.entries < 64)
    × (0 < x.room)) (sym c.index_mut.ensures.value) (ready.1 c.index_mut.result.now) in
    subst (λ (x : IndexValue). HasOneMore (lengths_in x.blocks) c.args.place
    (lengths_in (set c.self.inside.blocks.items c.args.place.block c.insert.new.self))) c.self.view_is
    (longer_lengths c.self.inside.blocks.items c.self.inside.len c.self.invariant c.args.place c.index_mut.result.now
    c.insert.new.self ready.0 c.index_mut.ensures.value c.args.entry here.0 here.1 c.insert.ensures)

pub returns-in-Beside-clause-lengths : goal.returns-in-Beside-clause-lengths
returns-in-Beside-clause-lengths c =
    let ready : IsReady (record {
      blocks = c.self.inside.blocks.items;
      room = vec_capacity c.self.inside.blocks - vec_len c.self.inside.blocks;
    }) c.args.place (Beside c.in-Beside.lower) = ready_as _ _ _ _ _ c.self.view_is c.in-Beside.is c.requires in
    let here = subst (λ (x : BlockValue). (c.args.place.offset ≤ length x.entries) × (length x.entries ≡ 64))
    (sym c.index_mut-in-Beside.ensures.value) (ready.1 c.index_mut-in-Beside.result.now) in
    subst (λ (x : IndexValue). HasOneMore (lengths_in x.blocks) c.args.place (lengths_in c.add.new.blocks.items))
    c.self.view_is (subst (λ (l : List BlockValue). HasOneMore (lengths_in c.self.inside.blocks.items) c.args.place
    (lengths_in l)) (sym c.add.ensures)
    (half_lengths c.self.inside.blocks.items c.self.inside.len c.self.invariant c.args.place
    c.index_mut-in-Beside.result.now c.insert_split-upper.new.self ready.0 c.index_mut-in-Beside.ensures.value
    c.args.entry here.0 c.insert_split-upper.result c.insert_split-upper.ensures here.1))

pub returns-in-Behind-clause-lengths : goal.returns-in-Behind-clause-lengths
returns-in-Behind-clause-lengths c =
    let ready : IsReady (record {
      blocks = c.self.inside.blocks.items;
      room = vec_capacity c.self.inside.blocks - vec_len c.self.inside.blocks;
    }) c.args.place (Behind c.in-Behind.last) = ready_as _ _ _ _ _ c.self.view_is c.in-Behind.is c.requires in
    let one = c.insert-in-Behind.ensures ∙ ap (λ (l : List KeyEntry). insert l 0 c.args.entry) ready.3 in
    subst (λ (x : IndexValue). HasOneMore (lengths_in x.blocks) c.args.place
    (lengths_in c.add-in-Behind.new.blocks.items))
    c.self.view_is (subst (λ (l : List BlockValue). HasOneMore (lengths_in c.self.inside.blocks.items) c.args.place
    (lengths_in l)) (sym c.add-in-Behind.ensures) (behind_lengths c.self.inside.blocks.items c.self.inside.len
    c.self.invariant c.args.place c.insert-in-Behind.new.self c.args.entry ready.0 ready.1 one))
