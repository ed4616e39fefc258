use Rattle.std.proofs.Common.{arith}
use Rattle.sm_arena.specs.Chunks.{chunks_of}
use Rattle.sm_arena.proofs.Chunks.{total_fits}
use Rattle.sm_arena.proofs.Placing.{was_live, held_forgotten, forgets, forgets_nothing}
use Rattle.sm_arena.proofs.arena.Arena.forget.Goals as goal

pub overflow_sub-self : goal.overflow_sub-self
overflow_sub-self c =
    let is = rw (← c.self.view_is) at c.requires.placed in
    let kept = rw (← c.self.view_is) at c.requires.kept in
    was_live (chunks_of c.self.inside.blocks) c.self.inside.live c.self.inside.gone _ c.self.invariant c.args.span is
    kept c.if-span-gt0.true

pub overflow_add-self : goal.overflow_add-self
overflow_add-self c =
    let is = rw (← c.self.view_is) at c.requires.placed in
    let kept = rw (← c.self.view_is) at c.requires.kept in
    let live = was_live (chunks_of c.self.inside.blocks) c.self.inside.live c.self.inside.gone _ c.self.invariant
    c.args.span is kept c.if-span-gt0.true in
    record { fits = omega (arith, live, c.self.invariant.bounded, total_fits c.self.inside.blocks) }

pub invariant_of-self : goal.invariant_of-self
invariant_of-self c =
    let is = rw (← c.self.view_is) at c.requires.placed in
    let kept = rw (← c.self.view_is) at c.requires.kept in
    rw c.push.ensures (held_forgotten (chunks_of c.self.inside.blocks) c.self.inside.live c.self.inside.gone _
    c.self.invariant c.args.span is kept c.if-span-gt0.true)

pub returns-then-span-gt0 : goal.returns-then-span-gt0
returns-then-span-gt0 c =
    let is = rw (← c.self.view_is) at c.requires.placed in
    let kept = rw (← c.self.view_is) at c.requires.kept in
    rw (← c.self.view_is, c.push.ensures) (forgets (chunks_of c.self.inside.blocks) c.self.inside.live
    c.self.inside.gone _ c.self.invariant c.args.span is kept c.if-span-gt0.true)

pub returns-else-span-gt0 : goal.returns-else-span-gt0
returns-else-span-gt0 c =
    let is = rw (← c.self.view_is) at c.requires.placed in
    rw (← c.self.view_is) (forgets_nothing (chunks_of c.self.inside.blocks) c.self.inside.live c.self.inside.gone _
    c.self.invariant c.args.span is (omega arith))
