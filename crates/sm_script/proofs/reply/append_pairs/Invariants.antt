use Rattle.std.proofs.Common.{◌≡◌, ◌++◌, codes, decimal, length, take}
use Rattle.std.specs.Prelude.{flat_map}
use Rattle.sm_script.specs.Answers.{pair_text}
use Rattle.sm_script.proofs.reply.append_pairs.Given as goal

abbrev pub invariant-loop-pair : goal.invariant-loop-pair
invariant-loop-pair l =
    l.out.items ≡ l.fn.out.items
    ++ (codes "pairs " ++ decimal (length l.pairs) ++ flat_map pair_text (take l.pair-index l.pairs))
