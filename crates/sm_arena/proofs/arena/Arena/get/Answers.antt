use Rattle.std.proofs.Common.{sym, subst}
use Rattle.sm_arena.specs.Pieces.{IsPlaced}
use Rattle.sm_arena.specs.Chunks.{chunks_of}
use Rattle.sm_arena.proofs.Placing.{lies_at}
use Rattle.sm_arena.proofs.arena.Arena.get.Goals as goal

pub piece-requires : goal.piece-requires
piece-requires c =
    let is = subst (λ v. IsPlaced v.placed c.args.span) (sym c.self.view_is) c.requires in
    (lies_at (chunks_of c.self.inside.blocks) _ c.args.span c.self.invariant.lies is).1

pub returns : goal.returns
returns c =
    let is = subst (λ v. IsPlaced v.placed c.args.span) (sym c.self.view_is) c.requires in
    let lies = lies_at (chunks_of c.self.inside.blocks) _ c.args.span c.self.invariant.lies is in
    rw (← c.self.view_is, lies.0) c.piece.ensures
