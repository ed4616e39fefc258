use Rattle.std.proofs.Common.{◌+◌, [], ◌∷◌, ◌++◌, ℕ, sym, subst, arith}
use Rattle.sm_arena.specs.Pieces.{IsPlaced}
use Rattle.sm_arena.specs.Blocks.{bytes_at}
use Rattle.sm_arena.specs.Chunks.{chunks_of, sizes_of, joined_of}
use Rattle.sm_arena.specs.Kept.{IsArena, lying}
use Rattle.sm_arena.proofs.Chunks.{total_fits}
use Rattle.sm_arena.proofs.Placing.{lies_at, held_written, is_placing_written}
use Rattle.sm_arena.proofs.arena.Arena.concat.Goals as goal

pub write_joined-requires : goal.write_joined-requires
write_joined-requires c =
    let is = subst (λ v. IsPlaced v.placed c.args.head) (sym c.self.view_is) c.requires in
    (lies_at (chunks_of c.self.inside.blocks) _ c.args.head c.self.invariant.lies is).1

pub overflow_add-self : goal.overflow_add-self
overflow_add-self c =
    let written = c.in_ok-span.ensures.written in
    record {
      fits = omega (
        arith,
        c.self.invariant.bounded,
        written.whole,
        written.total,
        total_fits c.write_joined.new.self,
      );
    }

pub invariant_of-self-2 : goal.invariant_of-self-2
invariant_of-self-2 c =
    let written = c.in_ok-span.ensures.written in
    let longer = subst (λ (n : ℕ). IsArena (chunks_of c.write_joined.new.self) (c.self.inside.live + n)
    c.self.inside.gone (lying (chunks_of c.write_joined.new.self) (sizes_of c.write_joined.new.self)
    (joined_of c.write_joined.new.self) (c.self.inside.placed.items ++ c.in_ok-span.span ∷ [])
    c.self.inside.forgotten.items)) (sym written.whole) (
    held_written (chunks_of c.self.inside.blocks) (chunks_of c.write_joined.new.self) (sizes_of c.self.inside.blocks)
    (sizes_of c.write_joined.new.self) (joined_of c.self.inside.blocks) (joined_of c.write_joined.new.self)
    c.self.inside.live c.self.inside.gone c.self.inside.placed.items
    c.self.inside.forgotten.items c.self.invariant c.in_ok-span.span
    (bytes_at (chunks_of c.self.inside.blocks) c.args.head ++ c.args.tail.now) written
    ) in
    rw c.push.ensures longer

pub returns-clause-placed : goal.returns-clause-placed
returns-clause-placed c =
    let is = subst (λ v. IsPlaced v.placed c.args.head) (sym c.self.view_is) c.requires in
    let lies = lies_at (chunks_of c.self.inside.blocks) _ c.args.head c.self.invariant.lies is in
    rw (← c.self.view_is, lies.0, c.push.ensures) (
    is_placing_written (chunks_of c.self.inside.blocks) (chunks_of c.write_joined.new.self)
    (sizes_of c.self.inside.blocks) (sizes_of c.write_joined.new.self) (joined_of c.self.inside.blocks)
    (joined_of c.write_joined.new.self) c.self.inside.live c.self.inside.gone
    c.self.inside.placed.items c.self.inside.forgotten.items c.self.invariant c.in_ok-span.span
    (bytes_at (chunks_of c.self.inside.blocks) c.args.head ++ c.args.tail.now) c.in_ok-span.ensures.written
    )

pub returns-clause-sizes : goal.returns-clause-sizes
returns-clause-sizes c =
    let is = subst (λ v. IsPlaced v.placed c.args.head) (sym c.self.view_is) c.requires in
    let lies = lies_at (chunks_of c.self.inside.blocks) _ c.args.head c.self.invariant.lies is in
    rw (← c.self.view_is, lies.0) c.in_ok-span.ensures.sizes
