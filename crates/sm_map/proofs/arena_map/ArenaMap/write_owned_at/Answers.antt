use Rattle.std.proofs.Common.{ℕ, List, [], Option, unwrap_or, ap}
use Rattle.std.specs.List.{HoldsAt}
use Rattle.sm_map.specs.KeyMap.{KeyPair}
use Rattle.sm_map.specs.ArenaMap.{MapValue, IsRewrite}
use Rattle.sm_map.specs.Blocks.{number_of}
use Rattle.sm_map.specs.KeyMap.{Text as HeldText}
use Rattle.sm_map.specs.declared.slot.Slot.TheVariants.{Text}
use Rattle.sm_map.proofs.Blocks.{number_inside}
use Rattle.sm_map.proofs.Edits.{old_forgettable, rewrite_kept, rewritten, kept_by, same_map, through}
use Rattle.sm_map.proofs.Spans.{piece_stored}
use Rattle.sm_map.proofs.arena_map.ArenaMap.write_owned_at.Goals as goal

pub forget-requires : goal.forget-requires
forget-requires c =
    let stored = piece_stored _ _ _ _ c.in_ok-span.ensures.placed in
    let within = number_inside c.self.inside.index.blocks c.args.place (rw (← c.self.view_is) at c.requires) in
    old_forgettable _ _ c.self.invariant _ within _ c.entry-before.ensures (Text c.in_ok-span.span) _ stored

pub invariant_of-self-2 : goal.invariant_of-self-2
invariant_of-self-2 c =
    let stored = piece_stored _ _ _ _ c.in_ok-span.ensures.placed in
    let within = number_inside c.self.inside.index.blocks c.args.place (rw (← c.self.view_is) at c.requires) in
    kept_by _ _ _ _ c.forget.ensures c.set.ensures
    (rewrite_kept _ _ c.self.invariant _ within _ c.entry-before.ensures (Text c.in_ok-span.span) _ stored)

pub returns-clause-ok : goal.returns-clause-ok
returns-clause-ok c =
    let stored = piece_stored _ _ _ _ c.in_ok-span.ensures.placed in
    let within = number_inside c.self.inside.index.blocks c.args.place (rw (← c.self.view_is) at c.requires) in
    through (λ (old new : MapValue). HoldsAt (λ (pair : KeyPair). IsRewrite old (number_of old.blocks c.args.place) pair
    (HeldText c.args.text.items) new) old.pairs (number_of old.blocks c.args.place)) _ _ _ _ c.self.view_is
    (same_map _ _ _ _ _ c.forget.ensures c.set.ensures)
    (rewritten _ _ c.self.invariant _ within _ c.entry-before.ensures (Text c.in_ok-span.span) _ stored _ _ _
    (ap (λ (o : Option (List ℕ)). HeldText (unwrap_or o [])) c.in_ok-span.ensures.placed.reads))
