use Rattle.std.proofs.Common.{◌≡◌, ◌++◌, Some, subst}
use Rattle.std.specs.List.{HoldsAt}
use Rattle.sm_map.specs.KeyMap.{KeyPair, text_of}
use Rattle.sm_map.specs.ArenaMap.{MapValue, IsRewrite}
use Rattle.sm_map.specs.KeyMap.{Text as HeldText}
use Rattle.sm_map.specs.KeyEntry.{pair_of}
use Rattle.sm_map.specs.Blocks.{entries_in, number_of}
use Rattle.sm_map.proofs.Entries.{slot_readable, pair_there}
use Rattle.sm_map.proofs.Blocks.{number_inside}
use Rattle.sm_map.proofs.Edits.{old_forgettable, rewrite_kept, lengthened, kept_by, same_map, through}
use Rattle.sm_map.proofs.arena_map.ArenaMap.lengthen_at.Goals as goal

pub concat-requires-clause-readable : goal.concat-requires-clause-readable
concat-requires-clause-readable c = slot_readable _ _ (number_inside c.self.inside.index.blocks c.args.place
    (rw (← c.self.view_is) at c.requires.entry)) _ c.entry-before.ensures _ c.self.invariant

pub concat-requires-clause-text : goal.concat-requires-clause-text
concat-requires-clause-text c =
    let within = number_inside c.self.inside.index.blocks c.args.place (rw (← c.self.view_is) at c.requires.entry) in
    let there = pair_there
    (entries_in c.self.inside.index.blocks) _ within _ c.entry-before.ensures c.self.inside.arena.placed in
    let text = rw (← c.self.view_is) at c.requires.text in
    let pair = pair_of c.self.inside.arena.placed c.entry-before.result in
    subst (λ (p : KeyPair). p.value ≡ HeldText (text_of (Some p.value))) (there pair) (text pair)

pub forget-requires : goal.forget-requires
forget-requires c =
    let within = number_inside c.self.inside.index.blocks c.args.place (rw (← c.self.view_is) at c.requires.entry) in
    old_forgettable _ _ c.self.invariant _ within _ c.entry-before.ensures _ _ c.in_ok-slot.ensures.stored

pub invariant_of-self-2 : goal.invariant_of-self-2
invariant_of-self-2 c =
    let within = number_inside c.self.inside.index.blocks c.args.place (rw (← c.self.view_is) at c.requires.entry) in
    kept_by _ _ _ _ c.forget.ensures c.set.ensures
    (rewrite_kept _ _ c.self.invariant _ within _ c.entry-before.ensures _ _ c.in_ok-slot.ensures.stored)

pub returns-clause-ok : goal.returns-clause-ok
returns-clause-ok c =
    let within = number_inside c.self.inside.index.blocks c.args.place (rw (← c.self.view_is) at c.requires.entry) in
    through (λ (old new : MapValue). HoldsAt (λ (pair : KeyPair). IsRewrite old (number_of old.blocks c.args.place) pair
    (HeldText (text_of (Some pair.value) ++ c.args.tail.now)) new) old.pairs (number_of old.blocks c.args.place)) _
    _ _ _ c.self.view_is (same_map _ _ _ _ _ c.forget.ensures c.set.ensures)
    (lengthened _ _ c.self.invariant _ within _ c.entry-before.ensures _ _ c.in_ok-slot.ensures.stored _ _ _
    c.in_ok-slot.ensures.reads)
