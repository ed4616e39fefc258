use Rattle.std.proofs.Common.{◌≡◌, ℕ, sum, take, get_or, ap, subst, arith}
use Rattle.sm_map.specs.ArenaMap.{MapValue}
use Rattle.sm_map.proofs.Blocks.{part_before}
use Rattle.sm_map.proofs.arena_map.ArenaMap.part_end.Goals as goal
use Rattle.sm_map.proofs.arena_map.ArenaMap.part_end.Goals.{then-place-end, else-place-end}

pub returns-clause-before : goal.returns-clause-before
returns-clause-before c = elim c.if-place-end.branch [
  | then-place-end w ↦
      omega (arith, ap (λ (n : ℕ). sum (take n c.args.self.now.blocks)) w.if-place-end.true, w.high-is, c.min.ensures)
  | else-place-end w ↦ (
      let long : w.block_len-high.result ≡ get_or c.args.self.now.blocks c.args.place.block 0 =
      subst (λ (x : MapValue). w.block_len-high.result ≡ get_or x.blocks c.args.place.block 0) c.self.view_is
      w.block_len-high.ensures.value in
      part_before c.args.self.now.blocks c.args.place c.args.end c.min.result c.requires.place c.requires.order
      (omega (arith, w.high-is, long, c.min.ensures)) (λ e. absurd (w.if-place-end.false e)))
]
