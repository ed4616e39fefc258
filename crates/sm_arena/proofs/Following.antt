-- Shared by the proofs of a chunk's functions: their arguments, the calls that they may make, a parameter by its place,
-- and the rest of a body after a part of it. Assumes `Logic`.
use Rattle.std.proofs.Common.{ℕ, zero, suc, List, [], ◌∷◌}
use seplogic.Ra.Ura.{Ura}
use mir.Syntax.{Args, Body, Dict, a_type, dcons, dnil}
use prog.Model.{Model}
use prog.Wp.{Env, Calls, Loops, Wp, after_seq, after_block}
use contract.Running.{Running, tables}
use types.Logic.{Logic}
use types.Kit.{Post, any_q, post}
use denote.Builtin.{unit}
use denote.Param.{bounded}
use denote.RattleType.{RattleType}
use denote.Signature.{Slot, plain}

abbrev pub slot_at : {n : ℕ} → ℕ → List (Slot n) → Slot n
slot_at k [] = plain (λ _. unit)
slot_at zero (s ∷ ss) = s
slot_at (suc k) (s ∷ ss) = slot_at k ss

-- the allocator's type, with its bounds
abbrev pub args_of : RattleType → Dict → Dict → Args
args_of A d dd = bounded (a_type ∷ []) (A, tt) (dcons d (dcons dd dnil))

module _ {M : Type 1} {𝓤 : Ura M} (𝓛 : Logic 𝓤) where
  open 𝓛 use {H}

  -- then b runs, and q holds at its end
  abbrev pub then_runs : Calls 𝓤 H → Loops 𝓤 H → Env 𝓤 H → Body → Post 𝓤 H → Post 𝓤 H
  then_runs C Λ E b q = any_q (after_seq 𝓤 H (Wp 𝓤 H C Λ E b (post 𝓤 H q)) (post 𝓤 H q))

  abbrev pub out_of_block : Post 𝓤 H → Post 𝓤 H
  out_of_block q = any_q (after_block 𝓤 H (post 𝓤 H q))

  module _ (𝓜 : Model 𝓤 H) (𝓡 : Running 𝓤 H 𝓜) where
    abbrev pub calls_of : Calls 𝓤 H
    calls_of = (tables 𝓤 H 𝓜 𝓡 𝓡.env).C

    abbrev pub loops_of : Loops 𝓤 H
    loops_of = (tables 𝓤 H 𝓜 𝓡 𝓡.env).Λ
