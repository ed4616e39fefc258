use Rattle.std.specs.List.{HoldsAt}
use Rattle.sm_map.specs.KeyMap.{KeyPair}
use Rattle.sm_map.specs.ArenaMap.{MapValue, IsRewrite}
use Rattle.sm_map.specs.Blocks.{number_of}
use Rattle.sm_map.specs.Val.{held_of}
use Rattle.sm_map.proofs.Blocks.{number_inside}
use Rattle.sm_map.proofs.Edits.{old_forgettable, rewrite_kept, rewritten, kept_by, same_map, through}
use Rattle.sm_map.proofs.arena_map.ArenaMap.write_at.Goals as goal

pub forget-requires : goal.forget-requires
forget-requires c =
    let within = number_inside c.self.inside.index.blocks c.args.place (rw (← c.self.view_is) at c.requires) in
    old_forgettable _ _ c.self.invariant _ within _ c.entry-before.ensures _ _ c.in_ok-slot.ensures.stored

pub invariant_of-self-2 : goal.invariant_of-self-2
invariant_of-self-2 c =
    let within = number_inside c.self.inside.index.blocks c.args.place (rw (← c.self.view_is) at c.requires) in
    kept_by _ _ _ _ c.forget.ensures c.set.ensures
    (rewrite_kept _ _ c.self.invariant _ within _ c.entry-before.ensures _ _ c.in_ok-slot.ensures.stored)

pub returns-clause-ok : goal.returns-clause-ok
returns-clause-ok c =
    let within = number_inside c.self.inside.index.blocks c.args.place (rw (← c.self.view_is) at c.requires) in
    through (λ (old new : MapValue). HoldsAt (λ (pair : KeyPair). IsRewrite old (number_of old.blocks c.args.place) pair
    (held_of c.args.value) new) old.pairs (number_of old.blocks c.args.place)) _ _ _ _ c.self.view_is
    (same_map _ _ _ _ _ c.forget.ensures c.set.ensures)
    (rewritten _ _ c.self.invariant _ within _ c.entry-before.ensures _ _ c.in_ok-slot.ensures.stored _ _ _
    c.in_ok-slot.ensures.reads)
