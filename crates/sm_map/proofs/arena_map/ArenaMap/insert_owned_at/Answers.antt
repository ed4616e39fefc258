use Rattle.std.proofs.Common.{ℕ, List, refl, sym, ap, subst, ◌∙◌}
use Rattle.sm_map.specs.ArenaMap.{MapValue, IsAddition}
use Rattle.sm_map.specs.Blocks.{entries_in, lengths_in, number_of, HasOneMore}
use Rattle.sm_map.specs.Index.{IndexValue}
use Rattle.sm_map.specs.Kept.{IsMap}
use Rattle.sm_map.specs.KeyMap.{Text as HeldText}
use Rattle.sm_map.proofs.Blocks.{inserted_in}
use Rattle.sm_map.proofs.Edits.{addition_kept, added, kept_by, same_map, through}
use Rattle.sm_map.proofs.Entries.{joined_stored, joined_reads, keys_placed}
use Rattle.sm_map.proofs.arena_map.ArenaMap.insert_owned_at.Goals as goal

pub note-requires-clause-keys : goal.note-requires-clause-keys
note-requires-clause-keys c =
    let placed = c.in_ok-text_span.ensures.placed in
    let stored = joined_stored _ _ _ _ _ _ placed in
    let reads = joined_reads _ _ _ _ _ _ placed in
    let gap = rw (← c.self.view_is) at c.requires.absent in
    keys_placed c.join_and_place.new.self _ (kept_by c.join_and_place.new.self c.join_and_place.new.self _ _ refl
    (inserted_in c.self.inside.index.blocks c.reserve.new.self.blocks c.insert.new.self.blocks c.args.place _
    c.insert.ensures.entries c.reserve.ensures.entries c.reserve.ensures.lengths) (addition_kept _ _ c.self.invariant _
    c.join_and_place.new.self stored _ reads _ gap))

pub note-requires-clause-rising : goal.note-requires-clause-rising
note-requires-clause-rising c =
    let placed = c.in_ok-text_span.ensures.placed in
    let stored = joined_stored _ _ _ _ _ _ placed in
    let reads = joined_reads _ _ _ _ _ _ placed in
    let gap = rw (← c.self.view_is) at c.requires.absent in
    let kept : IsMap c.join_and_place.new.self (entries_in c.insert.new.self.blocks) =
    kept_by c.join_and_place.new.self c.join_and_place.new.self _ _ refl
    (inserted_in c.self.inside.index.blocks c.reserve.new.self.blocks c.insert.new.self.blocks c.args.place _
    c.insert.ensures.entries c.reserve.ensures.entries c.reserve.ensures.lengths) (addition_kept _ _ c.self.invariant _
    c.join_and_place.new.self stored _ reads _ gap) in
    kept.rising

pub invariant_of-self-2 : goal.invariant_of-self-2
invariant_of-self-2 c =
    let placed = c.in_ok-text_span.ensures.placed in
    let stored = joined_stored _ _ _ _ _ _ placed in
    let reads = joined_reads _ _ _ _ _ _ placed in
    let gap = rw (← c.self.view_is) at c.requires.absent in
    subst (λ (x : IndexValue). IsMap c.join_and_place.new.self (entries_in x.blocks)) (sym c.note.ensures)
    (kept_by c.join_and_place.new.self c.join_and_place.new.self _ _ refl
    (inserted_in c.self.inside.index.blocks c.reserve.new.self.blocks c.insert.new.self.blocks c.args.place _
    c.insert.ensures.entries c.reserve.ensures.entries c.reserve.ensures.lengths) (addition_kept _ _ c.self.invariant _
    c.join_and_place.new.self stored _ reads _ gap))

pub returns-clause-ok : goal.returns-clause-ok
returns-clause-ok c =
    let placed = c.in_ok-text_span.ensures.placed in
    let stored = joined_stored _ _ _ _ _ _ placed in
    let reads = joined_reads _ _ _ _ _ _ placed in
    let gap = rw (← c.self.view_is) at c.requires.absent in
    let arena = c.join_and_place.new.self in
    through (λ (old new : MapValue). IsAddition old (number_of old.blocks c.args.place)
    (record { key = c.args.key.now; value = HeldText c.args.text.items }) new) _ _ _ _ c.self.view_is (same_map
    arena arena _ _ _ refl (ap (λ (x : IndexValue). entries_in x.blocks) c.note.ensures
    ∙ inserted_in c.self.inside.index.blocks c.reserve.new.self.blocks c.insert.new.self.blocks c.args.place _
    c.insert.ensures.entries c.reserve.ensures.entries c.reserve.ensures.lengths)) (added _ _ c.self.invariant _
    c.join_and_place.new.self stored _ reads _ gap _ _)

pub returns-clause-blocks : goal.returns-clause-blocks
returns-clause-blocks c =
    subst (λ (x : MapValue). HasOneMore x.blocks c.args.place (lengths_in c.note.new.self.blocks)) c.self.view_is
    (subst (λ (x : IndexValue). HasOneMore (lengths_in c.self.inside.index.blocks) c.args.place (lengths_in x.blocks))
    (sym c.note.ensures) (subst (λ (l : List ℕ). HasOneMore l c.args.place (lengths_in c.insert.new.self.blocks))
    c.reserve.ensures.lengths c.insert.ensures.lengths))
