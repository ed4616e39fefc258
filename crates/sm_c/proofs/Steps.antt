-- The meaning of the absence of a fault for a record.
use Rattle.std.proofs.Common.{◌≡◌, ℕ, ◌+◌, ◌<◌, ◌≤◌, ◌^◌, true, false, not, refl, sym, ap, ◌∙◌, arith}
use Rattle.std.specs.Prelude.{Option, Some, None, Bool, is_none, nat_le, nat_lt, if◌then◌else◌}
use Rattle.std.specs.Option.{option_or}
use Rattle.std.proofs.lemmas.Bool.{and_parts, leb-true, ltb-true, not-true}
use Rattle.sm_ownership.specs.declared.change.Change.{Change}
use Rattle.sm_ownership.specs.declared.mode.Mode.{Mode}
use Rattle.sm_ownership.specs.declared.record.Record.{Record}
use Rattle.sm_ownership.specs.lemmas.Faults.{admit_fault-none, phase_fault-none}
use Rattle.sm_ownership.specs.History.{after_admit, after_change, after_done}
use Rattle.sm_ownership.specs.Rules.{admit_fault, phase_fault}
use Rattle.sm_ownership.specs.Tables.{change_fault, record_fault}
use Rattle.sm_word.specs.lemmas.Histories.{formed_admit, formed_change, formed_done}
use Rattle.sm_word.specs.Known.{NewlyNamesServer}
use Rattle.sm_word.specs.Word.{IsWellFormed}

or_parts : {X : Type 0} (a b : Option X) → None ≡ option_or a b → (a ≡ None) × (None ≡ b)
or_parts None b e = (refl, e)
or_parts (Some x) b e = absurd cc

two_parts : {X : Type 0} (room busy : Bool) (x y : X)
    → None ≡ (if not room then Some x else if busy then Some y else None) → (room ≡ true) × (busy ≡ false)
two_parts true false x y e = (refl, refl)
two_parts true true x y e = absurd cc
two_parts false busy x y e = absurd cc

pub formed_next : (ceiling : ℕ) (state : Record) (change : Change) → None ≡ change_fault ceiling state change
    → IsWellFormed state → NewlyNamesServer change → ceiling < 2 ^ 36 → IsWellFormed (after_change state change)
formed_next ceiling state change none formed known low =
    let o = or_parts (phase_fault state.stand change) (record_fault ceiling state) none in
    let r = two_parts (nat_lt state.generation ceiling) state.admitted _ _ o.1 in
    formed_change state change formed known r.1 (phase_fault-none state.stand change
    ∙ ap is_none o.0) (let below : state.generation < ceiling = ltb-true _ _ r.0 in omega arith)

pub idle_admitted : (ceiling : ℕ) (state : Record) (server : ℕ) (mode : Mode)
    → admit_fault ceiling state server mode ≡ None → state.admitted ≡ false
idle_admitted ceiling state server mode none =
    not-true state.admitted (and_parts (not state.admitted) _ (sym (admit_fault-none ceiling state server mode)
    ∙ ap is_none none)).0

-- an admission that no fault forbids leaves a record that has a word, and so does its end
pub formed_admitted : (ceiling : ℕ) (state : Record) (server : ℕ) (mode : Mode)
    → admit_fault ceiling state server mode ≡ None → IsWellFormed state → ceiling < 2 ^ 36
    → IsWellFormed (after_admit state) × IsWellFormed (after_done (after_admit state))
formed_admitted ceiling state server mode none formed low =
    let free = and_parts (not state.admitted) _ (sym (admit_fault-none ceiling state server mode) ∙ ap is_none none) in
    let room = and_parts (nat_le (state.generation + 2) ceiling) _ free.1 in
    let below : state.generation + 2 ≤ ceiling = leb-true _ _ room.0 in
    let next = formed_admit state server mode formed room.1 (omega arith) in
    (next, formed_done (after_admit state) next refl (omega arith))
