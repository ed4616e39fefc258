use Rattle.std.proofs.Common.{◌≡◌, ◌++◌, codes, take}
use Rattle.std.specs.Prelude.{flat_map}
use Rattle.sm_script.specs.Answers.{left_text}
use Rattle.sm_script.proofs.plan.append_left.Given as goal

abbrev pub invariant-loop-shard : goal.invariant-loop-shard
invariant-loop-shard l =
    l.out.items ≡ l.fn.out.items ++ (codes " left" ++ flat_map left_text (take l.shard-index l.left))
