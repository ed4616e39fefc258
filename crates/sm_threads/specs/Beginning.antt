-- The duty of a closure that begins sessions.
use Rattle.std.specs.Prelude.{Result, IfErr, IfOk}

-- in every state it may be called with the settings that are allowed, and its result is the session that they begin, or
-- why there is none
abbrev pub BeginsSessions : {F V S E : Type 0} → (V → Type 0) → (F → V → Type 0) → (F → V → Result S E → F → Type 0)
    → (V → S → Type 0) → (V → E → Type 0) → Type 0
BeginsSessions {F} {V} {S} {E} allows pre step begins refuses =
    ((state : F) (settings : V) → allows settings → pre state settings)
    × ((state : F) (settings : V) (made : Result S E) (after : F) → allows settings → step state settings made after
    → IfOk made (begins settings) × IfErr made (refuses settings))
