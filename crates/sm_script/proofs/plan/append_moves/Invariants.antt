use Rattle.std.proofs.Common.{◌≡◌, ◌++◌, codes, take}
use Rattle.std.specs.Prelude.{flat_map}
use Rattle.sm_script.specs.Answers.{move_text}
use Rattle.sm_script.proofs.plan.append_moves.Given as goal

abbrev pub invariant-loop-one : goal.invariant-loop-one
invariant-loop-one l =
    l.out.items ≡ l.fn.out.items ++ (codes "plan" ++ flat_map move_text (take l.one-index l.moves))
