-- An entry meets the conditions of legality if and only if the table has no fault with which to refuse it.
use Rattle.std.proofs.Common.{◌≡◌, ℕ, ◌+◌, Bool, true, false, not, ◌&&◌, refl, ap, ◌∙◌, arith}
use Rattle.std.specs.Prelude.{Option, Some, None, is_none, is_some, nat_lt, nat_le, if◌then◌else◌}
use Rattle.std.proofs.lemmas.Bool.{and_parts, not-true}
use Rattle.std.proofs.lemmas.Bool.Decides.{nat_tests}
use Rattle.sm_ranges.specs.declared.stand.Stand.{Stand}
use Rattle.sm_ranges.specs.declared.stand.Stand.TheVariants.{Vacant, Paused}
use Rattle.sm_ownership.specs.declared.admit_fault.AdmitFault.{AdmitFault}
use Rattle.sm_ownership.specs.declared.admit_fault.AdmitFault.TheVariants.{Admitted, Spent}
use Rattle.sm_ownership.specs.declared.change.Change.{Change}
use Rattle.sm_ownership.specs.declared.mode.Mode.{Mode}
use Rattle.sm_ownership.specs.declared.record.Record.{Record}
use Rattle.sm_ownership.specs.Rules.{stand_after, phase_fault, admit_fault, accepts, accepts_at, executing_fault}
use Rattle.sm_ownership.specs.Rules.{executor, is_early, is_server}
use Rattle.sm_ownership.specs.History.{change_fits}
use Rattle.sm_ownership.specs.Tables.{record_fault}

none_exactly : {X : Type 0} (leads : Bool) (x : X) → leads ≡ is_none (if leads then None else Some x)
none_exactly true x = refl
none_exactly false x = refl

-- a change leads on from a stand if and only if no fault of its phase applies
pub phase_fault-none : (stand : Stand) (change : Change)
    → is_some (stand_after stand change) ≡ is_none (phase_fault stand change)
phase_fault-none stand change = none_exactly (is_some (stand_after stand change)) _

none_of_two : {X : Type 0} (room busy leads : Bool) (x y : X)
    → (not busy && (room && leads)) ≡ (leads && is_none (if not room then Some x else if busy then Some y else None))
none_of_two true true true x y = refl
none_of_two true true false x y = refl
none_of_two true false true x y = refl
none_of_two true false false x y = refl
none_of_two false true true x y = refl
none_of_two false true false x y = refl
none_of_two false false true x y = refl
none_of_two false false false x y = refl

-- the control's change fits if and only if neither the stand nor the table refuses it
pub change_fits-no_fault : (ceiling : ℕ) (state : Record) (change : Change) → change_fits ceiling state 0 change
    ≡ (is_none (phase_fault state.stand change) && is_none (record_fault ceiling state))
change_fits-no_fault ceiling state change =
    none_of_two (nat_lt state.generation ceiling) state.admitted (is_some (stand_after state.stand change)) _ _
    ∙ ap (λ none. none && is_none (record_fault ceiling state)) (phase_fault-none state.stand change)

and_never : (busy room : Bool) → false ≡ (not busy && (room && false))
and_never true room = refl
and_never false true = refl
and_never false false = refl

none_of_four : {X : Type 0} (serves early busy room : Bool) (x y z u : X)
    → is_none (if not serves then Some x else if early then Some y else if busy then Some z else if not room then Some u
    else None)
    ≡ (not busy && (room && (serves && not early)))
none_of_four false early busy room x y z u = and_never busy room
none_of_four true true busy room x y z u = and_never busy room
none_of_four true false true room x y z u = refl
none_of_four true false false true x y z u = refl
none_of_four true false false false x y z u = refl

spent_unless : (ceiling reached : ℕ) → nat_lt ceiling reached ≡ not (nat_le reached ceiling)
spent_unless ceiling reached = grind (arith, nat_tests)

-- for a shard that has an executor
none_executing : (ceiling : ℕ) (state : Record) (server : ℕ) (mode : Mode)
    → is_none (executing_fault ceiling state server mode)
    ≡ (not state.admitted && (nat_le (state.generation + 2) ceiling && accepts state server mode))
none_executing ceiling state server mode =
    rw (spent_unless ceiling (state.generation + 2))
    (none_of_four (is_server (executor state) server) (is_early state.stand mode) state.admitted
    (nat_le (state.generation + 2) ceiling) _ _ _ _)

none_at : (stand : Stand) (admitted : Bool) (generation ceiling server : ℕ) (mode : Mode)
    → is_none (admit_fault ceiling (record { stand = stand; admitted = admitted; generation = generation }) server mode)
    ≡ (not admitted && (nat_le (generation + 2) ceiling && accepts_at stand server mode))
none_at Vacant admitted generation ceiling server mode = and_never admitted (nat_le (generation + 2) ceiling)
none_at (Paused owner) admitted generation ceiling server mode = and_never admitted (nat_le (generation + 2) ceiling)
none_at stand admitted generation ceiling server mode =
    none_executing ceiling (record { stand = stand; admitted = admitted; generation = generation }) server mode

-- no fault of admission applies if and only if the record is idle, has room for an admission and its end, and accepts
-- the server
pub admit_fault-none : (ceiling : ℕ) (state : Record) (server : ℕ) (mode : Mode)
    → is_none (admit_fault ceiling state server mode)
    ≡ (not state.admitted && (nat_le (state.generation + 2) ceiling && accepts state server mode))
admit_fault-none ceiling state server mode = none_at state.stand state.admitted state.generation ceiling server mode

-- the fault of a request that the stand accepts
abbrev fault_of_accepted : ℕ → Bool → ℕ → Option AdmitFault
fault_of_accepted ceiling admitted generation =
    if admitted then Some Admitted else if nat_lt ceiling (generation + 2) then Some Spent else None

accepted_executing : (ceiling : ℕ) (state : Record) (server : ℕ) (mode : Mode) → accepts state server mode ≡ true
    → executing_fault ceiling state server mode ≡ fault_of_accepted ceiling state.admitted state.generation
accepted_executing ceiling state server mode accepted =
    let both = and_parts (is_server (executor state) server) (not (is_early state.stand mode)) accepted in
    rw (both.0, not-true (is_early state.stand mode) both.1) refl

accepted_at : (stand : Stand) (admitted : Bool) (generation ceiling server : ℕ) (mode : Mode)
    → accepts_at stand server mode ≡ true
    → admit_fault ceiling (record { stand = stand; admitted = admitted; generation = generation }) server mode
    ≡ fault_of_accepted ceiling admitted generation
accepted_at Vacant admitted generation ceiling server mode accepted = cc
accepted_at (Paused owner) admitted generation ceiling server mode accepted = cc
accepted_at stand admitted generation ceiling server mode accepted =
    accepted_executing ceiling
    (record { stand = stand; admitted = admitted; generation = generation }) server mode accepted

-- if a record accepts a request, it is refused only if the shard is admitted or its generations are spent
pub admit_fault-accepted : (ceiling : ℕ) (state : Record) (server : ℕ) (mode : Mode) → accepts state server mode ≡ true
    → admit_fault ceiling state server mode
    ≡ (if state.admitted then Some Admitted else if nat_lt ceiling (state.generation + 2) then Some Spent else None)
admit_fault-accepted ceiling state server mode accepted =
    accepted_at state.stand state.admitted state.generation ceiling server mode accepted
