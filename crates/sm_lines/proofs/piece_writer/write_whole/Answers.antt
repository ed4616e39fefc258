use Rattle.std.proofs.Common.{arith, ◌∙◌}
use Rattle.std.proofs.lemmas.Grind.{common_steps}
use Rattle.sm_lines.proofs.Writing.{Appends-rest}
use Rattle.sm_lines.proofs.piece_writer.write_whole.Goals as goal

pub loop-at-preserved : goal.loop-at-preserved
loop-at-preserved g c = record {
  inside = grind (arith, common_steps, c.in-Ok.ensures.bound, c.loop-at.invariant.inside);
  wrote = Appends-rest _ _ _ c.args.bytes.now c.loop-at.at c.in-Ok.taken c.loop-at.invariant.wrote
      c.in-Ok.ensures.bytes;
  unfailed = c.in-Ok.ensures.took_some (omega (arith, c.if-taken-eq0.false)) ∙ c.loop-at.invariant.unfailed;
}
