use Rattle.std.proofs.Common.{◌≡◌, List, length}
use Rattle.sm_map.specs.KeyMap.{KeyPair}
use Rattle.sm_texts.specs.Saves.{spelled_pairs}
use Rattle.sm_texts.proofs.Loading.{Loading}
use Rattle.sm_texts.proofs.Reached.{IsHeld}
use Rattle.sm_texts.proofs.saves.load.Given as goal

abbrev pub invariant-loop-rest : goal.invariant-loop-rest
invariant-loop-rest l = (m : List KeyPair) → IsHeld m → l.bytes ≡ spelled_pairs m → Loading m l.map.pairs l.rest

abbrev pub decreases-loop-rest : goal.decreases-loop-rest
decreases-loop-rest l = length l.rest
