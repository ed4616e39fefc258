use Rattle.std.specs.List.{HoldsAt}
use Rattle.sm_map.specs.KeyMap.{KeyPair}
use Rattle.sm_map.specs.ArenaMap.{MapValue, IsRemoval}
use Rattle.sm_map.specs.Blocks.{number_of}
use Rattle.sm_map.proofs.Entries.{key_placed}
use Rattle.sm_map.proofs.Blocks.{number_inside}
use Rattle.sm_map.proofs.Edits.{key_forgettable, slot_forgettable, removal_kept, removed, forgot_both, kept_by}
use Rattle.sm_map.proofs.Edits.{same_map, through}
use Rattle.sm_map.proofs.Spans.{uses_itself}
use Rattle.std.proofs.Common.{arith}
use Rattle.sm_map.proofs.arena_map.ArenaMap.remove_at.Goals as goal

pub forget-requires-clause-placed : goal.forget-requires-clause-placed
forget-requires-clause-placed c =
    let within = number_inside c.self.inside.index.blocks c.args.place (rw (← c.self.view_is) at c.requires) in
    key_placed _ _ within _ c.remove-slot.ensures.removed _ c.self.invariant

pub forget-requires-clause-kept : goal.forget-requires-clause-kept
forget-requires-clause-kept c =
    let within = number_inside c.self.inside.index.blocks c.args.place (rw (← c.self.view_is) at c.requires) in
    (key_forgettable _ _ c.self.invariant _ within _ c.remove-slot.ensures.removed).kept c.remove-slot.result.key
    (omega (arith, uses_itself c.remove-slot.result.key))

pub forget-requires-2 : goal.forget-requires-2
forget-requires-2 c =
    let within = number_inside c.self.inside.index.blocks c.args.place (rw (← c.self.view_is) at c.requires) in
    rw c.forget.ensures (slot_forgettable _ _ c.self.invariant _ within _ c.remove-slot.ensures.removed)

pub invariant_of-self : goal.invariant_of-self
invariant_of-self c =
    let within = number_inside c.self.inside.index.blocks c.args.place (rw (← c.self.view_is) at c.requires) in
    kept_by _ c.forget-2.new.arena _ _ (forgot_both c.self.inside.arena c.forget.new.self c.forget-2.new.arena
    c.remove-slot.result.key c.remove-slot.result.slot c.forget-2.ensures c.forget.ensures)
    c.remove-slot.ensures.entries (removal_kept _ _ c.self.invariant _ within _ c.remove-slot.ensures.removed)

pub returns : goal.returns
returns c =
    let within = number_inside c.self.inside.index.blocks c.args.place (rw (← c.self.view_is) at c.requires) in
    through (λ (old new : MapValue). HoldsAt (λ (pair : KeyPair). IsRemoval old (number_of old.blocks c.args.place) pair
    new) old.pairs (number_of old.blocks c.args.place)) _ _ _ _ c.self.view_is (same_map _ c.forget-2.new.arena _ _
    _ (forgot_both c.self.inside.arena c.forget.new.self c.forget-2.new.arena c.remove-slot.result.key
    c.remove-slot.result.slot c.forget-2.ensures c.forget.ensures) c.remove-slot.ensures.entries)
    (removed _ _ c.self.invariant _ within _ c.remove-slot.ensures.removed _ _)
