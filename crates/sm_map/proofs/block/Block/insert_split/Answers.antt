use Rattle.std.proofs.Common.{List, length, ap, ◌∙◌, arith}
use Rattle.std.proofs.lemmas.List.{length-take, length-drop}
use Rattle.sm_map.specs.declared.key_entry.KeyEntry.{KeyEntry}
use Rattle.sm_map.proofs.Blocks.{lower_insert, upper_insert}
use Rattle.sm_map.proofs.block.Block.insert_split.Goals as goal

pub insert-requires-clause-place : goal.insert-requires-clause-place
insert-requires-clause-place c =
    omega (
      arith,
      c.if-at-le-HALF_ENTRIES.true,
      ap (λ (l : List KeyEntry). length l) c.cut-upper.ensures.lower,
      length-take 32 c.args.self.now.entries,
      c.requires.full,
    )

pub returns-then-at-le-HALF_ENTRIES : goal.returns-then-at-le-HALF_ENTRIES
returns-then-at-le-HALF_ENTRIES c = lower_insert _ _ _ _ _ c.requires.full c.if-at-le-HALF_ENTRIES.true _
    c.cut-upper.ensures.lower c.insert.ensures (c.shrink.ensures ∙ c.cut-upper.ensures.upper)

pub insert-requires-2-clause-place : goal.insert-requires-2-clause-place
insert-requires-2-clause-place c =
    omega (
      arith,
      c.requires.place,
      ap (λ (l : List KeyEntry). length l) c.cut-upper.ensures.upper,
      length-drop 32 c.args.self.now.entries,
      c.requires.full,
    )

pub returns-then-at-lt-MOST_ENTRIES : goal.returns-then-at-lt-MOST_ENTRIES
returns-then-at-lt-MOST_ENTRIES c = upper_insert _ _ _ _ _ c.requires.full c.if-at-le-HALF_ENTRIES.false (omega (
  arith,
  c.requires.place,
  c.requires.full,
)) _ c.cut-upper.ensures.upper c.cut-upper.ensures.lower (c.shrink-then-at-lt-MOST_ENTRIES.ensures ∙ c.insert-2.ensures)

pub returns-else-at-lt-MOST_ENTRIES : goal.returns-else-at-lt-MOST_ENTRIES
returns-else-at-lt-MOST_ENTRIES c = upper_insert _ _ _ _ _ c.requires.full c.if-at-le-HALF_ENTRIES.false (omega (
  arith,
  c.requires.place,
  c.requires.full,
)) _ c.cut-upper.ensures.upper c.cut-upper.ensures.lower c.insert-2.ensures
