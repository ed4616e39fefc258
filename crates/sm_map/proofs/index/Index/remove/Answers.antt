use Rattle.std.proofs.Common.{ℕ, ◌≡◌, ◌<◌, List, length, get_or, set, subst, sym, ap, ◌∙◌, arith}
use Rattle.std.proofs.lemmas.List.{get_or-set_same}
use Rattle.sm_map.specs.Block.{BlockValue}
use Rattle.std.specs.List.{remove}
use Rattle.sm_map.specs.Index.{IndexValue, IsIndex}
use Rattle.sm_map.specs.declared.key_entry.KeyEntry.{KeyEntry}
use Rattle.sm_map.specs.declared.place.Place.{Place}
use Rattle.sm_map.specs.Blocks.{entries_in, lengths_in, number_of, HasEntry}
use Rattle.sm_map.proofs.Blocks.{blocks_counted, entry_read, number_inside}
use Rattle.sm_map.proofs.Indexes.{has_in, remove_entries, remove_kept, gone_entries, gone_kept}
use Rattle.sm_map.proofs.index.Index.remove.Goals as goal

-- the conditions on the index, said of its blocks; and the results for the blocks, said of the index
module _ {seen now : IndexValue} (is : seen ≡ now) (place : Place)
    (asked : HasEntry (lengths_in now.blocks) place) where
  has : HasEntry (lengths_in seen.blocks) place
  has = subst (λ (x : IndexValue). HasEntry (lengths_in x.blocks) place) (sym is) asked

  inside : place.block < length seen.blocks
  inside = omega (arith, has.0, blocks_counted seen.blocks)

  gone_entry : (old : BlockValue) → old ≡ get_or seen.blocks place.block old → (entry d : KeyEntry)
      → entry ≡ get_or old.entries place.offset d
      → entry ≡ get_or (entries_in now.blocks) (number_of (lengths_in now.blocks) place) d
  gone_entry old read entry d there =
      subst (λ (x : IndexValue). entry ≡ get_or (entries_in x.blocks) (number_of (lengths_in x.blocks) place) d) is
      (entry_read seen.blocks place old has read entry d there)

  left_entries : (left : List BlockValue)
      → entries_in left ≡ remove (entries_in seen.blocks) (number_of (lengths_in seen.blocks) place)
      → entries_in left ≡ remove (entries_in now.blocks) (number_of (lengths_in now.blocks) place)
  left_entries left same = subst (λ (x : IndexValue). entries_in left
      ≡ remove (entries_in x.blocks) (number_of (lengths_in x.blocks) place)) is same

  within : (len : ℕ) → IsIndex seen.blocks len → (old : BlockValue) → old ≡ get_or seen.blocks place.block old
      → place.offset < length old.entries
  within len kept old read = has_in seen.blocks len kept place old old inside read has

  -- a block that is written over is read so
  module _ (new read : BlockValue) (there : read ≡ get_or (set seen.blocks place.block new) place.block read) where
    same_length : length read.entries ≡ length new.entries
    same_length =
        ap (λ (x : BlockValue). length x.entries) (there ∙ get_or-set_same seen.blocks place.block new read inside)

pub overflow_sub-self : goal.overflow_sub-self
overflow_sub-self c = omega (
  arith,
  c.self.invariant.counted,
  number_inside c.self.inside.blocks.items c.args.place (has c.self.view_is c.args.place c.requires),
)

pub invariant_of-self : goal.invariant_of-self
invariant_of-self c =
    rw c.remove.ensures.items
    (gone_kept c.self.inside.blocks.items c.self.inside.len c.self.invariant c.args.place c.index_mut.result.now
    c.remove-entry.new.self (inside c.self.view_is c.args.place c.requires) c.index_mut.ensures.value
    (within c.self.view_is c.args.place c.requires c.self.inside.len c.self.invariant c.index_mut.result.now
    c.index_mut.ensures.value) c.remove-entry.ensures.entries (omega (
      arith,
      c.len.ensures,
      c.if-len-eq0.true,
      same_length c.self.view_is c.args.place c.requires c.remove-entry.new.self c.index.result.now c.index.ensures,
    )))

pub invariant_of-self-else-len-eq0 : goal.invariant_of-self-else-len-eq0
invariant_of-self-else-len-eq0 c =
    remove_kept c.self.inside.blocks.items c.self.inside.len c.self.invariant c.args.place c.index_mut.result.now
    c.remove-entry.new.self (inside c.self.view_is c.args.place c.requires) c.index_mut.ensures.value
    (within c.self.view_is c.args.place c.requires c.self.inside.len c.self.invariant c.index_mut.result.now
    c.index_mut.ensures.value) c.remove-entry.ensures.entries
    (λ none. c.if-len-eq0.false (c.len.ensures ∙ (same_length c.self.view_is c.args.place c.requires
    c.remove-entry.new.self c.index.result.now c.index.ensures ∙ none)))

pub returns-then-len-eq0-clause-removed : goal.returns-then-len-eq0-clause-removed
returns-then-len-eq0-clause-removed c d =
    gone_entry c.self.view_is c.args.place c.requires c.index_mut.result.now c.index_mut.ensures.value
    c.remove-entry.result d (c.remove-entry.ensures.removed d)

pub returns-then-len-eq0-clause-entries : goal.returns-then-len-eq0-clause-entries
returns-then-len-eq0-clause-entries c =
    left_entries c.self.view_is c.args.place c.requires c.remove.new.self.items (ap entries_in c.remove.ensures.items
    ∙ gone_entries c.self.inside.blocks.items c.self.inside.len c.self.invariant c.args.place c.index_mut.result.now
    c.remove-entry.new.self (inside c.self.view_is c.args.place c.requires) c.index_mut.ensures.value
    (within c.self.view_is c.args.place c.requires c.self.inside.len c.self.invariant c.index_mut.result.now
    c.index_mut.ensures.value) c.remove-entry.ensures.entries (omega (
      arith,
      c.len.ensures,
      c.if-len-eq0.true,
      same_length c.self.view_is c.args.place c.requires c.remove-entry.new.self c.index.result.now c.index.ensures,
    )))

pub returns-else-len-eq0-clause-removed : goal.returns-else-len-eq0-clause-removed
returns-else-len-eq0-clause-removed c d =
    gone_entry c.self.view_is c.args.place c.requires c.index_mut.result.now c.index_mut.ensures.value
    c.remove-entry.result d (c.remove-entry.ensures.removed d)

pub returns-else-len-eq0-clause-entries : goal.returns-else-len-eq0-clause-entries
returns-else-len-eq0-clause-entries c =
    left_entries c.self.view_is c.args.place c.requires
    (set c.self.inside.blocks.items c.args.place.block c.remove-entry.new.self) (remove_entries
    c.self.inside.blocks.items c.self.inside.len c.self.invariant c.args.place c.index_mut.result.now
    c.remove-entry.new.self (inside c.self.view_is c.args.place c.requires) c.index_mut.ensures.value
    (within c.self.view_is c.args.place c.requires c.self.inside.len c.self.invariant c.index_mut.result.now
    c.index_mut.ensures.value) c.remove-entry.ensures.entries)
