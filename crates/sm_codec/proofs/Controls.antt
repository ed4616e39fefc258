-- States of servers: the bytes that are read are the encoding of the value, and the encoding of a value is read.
use Rattle.std.proofs.Common.{◌≡◌, ℕ, suc, ◌^◌, ◌<◌, Bool, true, false, List, [], ◌∷◌, ◌++◌, cond, eqb, Option, Some}
use Rattle.std.proofs.Common.{None, Result, Ok, Err, refl, sym, ap, subst, ◌∙◌, arith, append-nil, inl, inr, ⊎_elim}
use Rattle.std.specs.Int.{w64, to_be_bytes}
use Rattle.std.specs.Prelude.{IfOk}
use Rattle.std.proofs.lemmas.Bool.{cases_Bool, cond-false, cond-true, eqb-true}
use Rattle.sm_place.specs.declared.server_state.ServerState.{ServerState}
use Rattle.sm_place.specs.declared.server_state.ServerState.TheVariants.{Up, Asked, Approved, Stopped, Failed}
use Rattle.sm_codec.specs.declared.fault.ReadError.{ReadError}
use Rattle.sm_codec.specs.declared.stored_state.StoredState.{StoredState}
use Rattle.sm_codec.specs.declared.fault.Fault.{Fault}
use Rattle.sm_codec.specs.Reading.{◌>>=◌, Decodes, all_read, named_state_in, nameless_state_in, number_in, pair_in}
use Rattle.sm_codec.specs.Reading.{state_by, state_in, state_named, triple_in}
use Rattle.sm_codec.specs.Spelling.{SpellsState, nameless_state_bytes, pair_bytes, state_bytes, state_number}
use Rattle.sm_codec.specs.Spelling.{triple_bytes}
use Rattle.sm_codec.proofs.FieldLemmas.{IsBytes, Takes-then, bind_ok, bind_to, ended_takes, number_again, number_takes}
use Rattle.sm_codec.proofs.FieldLemmas.{ok_is, wide64}
use Rattle.sm_codec.proofs.Heads.{pair_again, pair_takes, taken_all}

some_if : (b : Bool) (x y : ServerState) (rest : Option ServerState) (P : Type 0) → cond b (Some x) rest ≡ Some y
    → (b ≡ true → x ≡ y → P) → (rest ≡ Some y → P) → P
some_if true x y rest P e here there = here refl cc
some_if false x y rest P e here there = there e

-- the number of a named state is the number that names it
pub state_number_is : (n : ℕ) (state : ServerState) → state_named n ≡ Some state → state_number state ≡ n
state_number_is n state e =
    some_if (eqb n 0) Up state _ _ e (λ b is. ap state_number (sym is) ∙ sym (eqb-true n 0 b)) (λ e1.
    some_if (eqb n 1) Asked state _ _ e1 (λ b is. ap state_number (sym is) ∙ sym (eqb-true n 1 b)) (λ e2.
    some_if (eqb n 2) Approved state _ _ e2 (λ b is. ap state_number (sym is) ∙ sym (eqb-true n 2 b)) (λ e3.
    some_if (eqb n 3) Stopped state _ _ e3 (λ b is. ap state_number (sym is) ∙ sym (eqb-true n 3 b)) (λ e4.
    some_if (eqb n 4) Failed state None _ e4 (λ b is. ap state_number (sym is) ∙ sym (eqb-true n 4 b))
    (λ none. absurd cc)))))

state_known : (state : ServerState) → state_named (state_number state) ≡ Some state
state_known Up = refl
state_known Asked = refl
state_known Approved = refl
state_known Stopped = refl
state_known Failed = refl

state_below : (state : ServerState) → state_number state < 2 ^ 64
state_below Up = omega arith
state_below Asked = omega arith
state_below Approved = omega arith
state_below Stopped = omega arith
state_below Failed = omega arith

by_takes : (found : Option ServerState) (process named : ℕ) (stored : StoredState)
    → state_by found process named ≡ Ok stored
    → (found ≡ Some stored.run.state) × (process ≡ stored.process) × (named ≡ stored.run.process)
by_takes None process named stored e = absurd cc
by_takes (Some state) process named stored e =
    let one : StoredState = record { run = record { state = state; process = named }; process = process } in
    let is = ok_is one stored e in (
      ap (λ (s : StoredState). Some s.run.state) is,
      ap (λ (s : StoredState). s.process) is,
      ap (λ (s : StoredState). s.run.process) is,
    )

triple_takes : (bytes : List ℕ) (x : ℕ × ℕ × ℕ) → IsBytes bytes → triple_in bytes ≡ Ok x
    → bytes ≡ triple_bytes x.0 x.1 x.2
unfolding triple_in
triple_takes bytes x fits e =
    let a = bind_ok (number_in w64 bytes) (λ first. number_in w64 first.1 >>= λ second. number_in w64 second.1
    >>= λ third. all_read (first.0, second.0, third.0) third.1) x e in
    let b = bind_ok (number_in w64 a.0.1) (λ second. number_in w64 second.1
    >>= λ third. all_read (a.0.0, second.0, third.0) third.1) x a.2 in
    let c = bind_ok (number_in w64 b.0.1) (λ third. all_read (a.0.0, b.0.0, third.0) third.1) x b.2 in
    let made : ℕ × ℕ × ℕ = (a.0.0, b.0.0, c.0.0) in
    let end = ended_takes made x c.0.1 c.2 in
    let t0 = number_takes w64 (2 ^ 64) wide64 bytes a.0.0 a.0.1 fits a.1 in
    let t1 = number_takes w64 (2 ^ 64) wide64 a.0.1 b.0.0 b.0.1 t0.0.rest_fits b.1 in
    let t2 = number_takes w64 (2 ^ 64) wide64 b.0.1 c.0.0 c.0.1 t1.0.rest_fits c.1 in
    let e12 = Takes-then a.0.1 (to_be_bytes w64 b.0.0) b.0.1 (to_be_bytes w64 c.0.0) c.0.1 t1.0 t2.0 in
    let all = Takes-then bytes (to_be_bytes w64 a.0.0) a.0.1 (to_be_bytes w64 b.0.0 ++ to_be_bytes w64 c.0.0) c.0.1 t0.0
    e12 in
    subst (λ (y : ℕ × ℕ × ℕ). bytes ≡ triple_bytes y.0 y.1 y.2) end.1
    (taken_all bytes (triple_bytes a.0.0 b.0.0 c.0.0) c.0.1 all end.0)

triple_again : (first second third : ℕ) → first < 2 ^ 64 → second < 2 ^ 64 → third < 2 ^ 64
    → triple_in (triple_bytes first second third) ≡ Ok (first, second, third)
unfolding triple_in
triple_again first second third one two three =
    let tail = to_be_bytes w64 third in
    let rest = to_be_bytes w64 second ++ tail in
    let all = to_be_bytes w64 first ++ rest in
    let last : number_in w64 tail ≡ Ok (third, []) =
    ap (number_in w64) (sym (append-nil tail)) ∙ number_again w64 (2 ^ 64) wide64 third [] three in
    let f0 : ℕ × List ℕ → Result (ℕ × ℕ × ℕ) Fault = λ a. number_in w64 a.1 >>= λ b. number_in w64 b.1 >>= λ c.
    all_read (a.0, b.0, c.0) c.1 in
    let f1 : ℕ × List ℕ → Result (ℕ × ℕ × ℕ) Fault = λ b. number_in w64 b.1 >>= λ c.
    all_read (first, b.0, c.0) c.1 in
    let f2 : ℕ × List ℕ → Result (ℕ × ℕ × ℕ) Fault = λ c. all_read (first, second, c.0) c.1 in
    let p0 : ℕ × List ℕ = (first, rest) in
    let p1 : ℕ × List ℕ = (second, tail) in
    let p2 : ℕ × List ℕ = (third, []) in
    bind_to (number_in w64 all) p0 f0 (number_again w64 (2 ^ 64) wide64 first rest one)
    ∙ bind_to (number_in w64 rest) p1 f1 (number_again w64 (2 ^ 64) wide64 second tail two)
    ∙ bind_to (number_in w64 tail) p2 f2 last

nameless_takes : (bytes : List ℕ) (stored : StoredState) → IsBytes bytes → nameless_state_in bytes ≡ Ok stored
    → (bytes ≡ nameless_state_bytes stored) × (stored.run.process ≡ 0)
unfolding nameless_state_in
nameless_takes bytes stored fits e =
    let p = bind_ok (pair_in bytes) (λ pair. state_by (state_named pair.0) pair.1 0) stored e in
    let t = pair_takes bytes p.0 fits p.1 in
    let by = by_takes (state_named p.0.0) p.0.1 0 stored p.2 in (
      t.0
          ∙ ap (λ (n : ℕ). pair_bytes n p.0.1) (sym (state_number_is p.0.0 stored.run.state by.0))
          ∙ ap (pair_bytes (state_number stored.run.state)) by.1,
      sym by.2,
    )

named_takes : (bytes : List ℕ) (stored : StoredState) → IsBytes bytes → named_state_in bytes ≡ Ok stored
    → bytes ≡ triple_bytes (state_number stored.run.state) stored.process stored.run.process
unfolding named_state_in
named_takes bytes stored fits e =
    let p = bind_ok (triple_in bytes) (λ triple. state_by (state_named triple.0) triple.1 triple.2) stored e in
    let by = by_takes (state_named p.0.0) p.0.1 p.0.2 stored p.2 in
    triple_takes bytes p.0 fits p.1
    ∙ ap (λ (n : ℕ). triple_bytes n p.0.1 p.0.2) (sym (state_number_is p.0.0 stored.run.state by.0))
    ∙ ap (λ (n : ℕ). triple_bytes (state_number stored.run.state) n p.0.2) by.1
    ∙ ap (triple_bytes (state_number stored.run.state) stored.process) by.2

state_takes : (bytes : List ℕ) (stored : StoredState) → IsBytes bytes → state_in bytes ≡ Ok stored
    → SpellsState bytes stored
unfolding state_in
state_takes [] stored fits e = absurd cc
state_takes (byte ∷ rest) stored fits e =
    ⊎_elim
    (λ (two : eqb byte 2 ≡ true).
    let is : named_state_in rest ≡ Ok stored =
    sym (cond-true (eqb byte 2) (named_state_in rest) (nameless_state_in (byte ∷ rest)) two) ∙ e in
    inl (ap (λ (b : ℕ). b ∷ rest) (eqb-true byte 2 two)
    ∙ ap (λ (bytes : List ℕ). 2 ∷ bytes) (named_takes rest stored (λ i. fits (suc i)) is)))
    (λ (other : eqb byte 2 ≡ false).
    inr (nameless_takes (byte ∷ rest) stored fits
    (sym (cond-false (eqb byte 2) (named_state_in rest) (nameless_state_in (byte ∷ rest)) other) ∙ e)))
    (cases_Bool (eqb byte 2))

pub state_again : (stored : StoredState) → stored.process < 2 ^ 64 → stored.run.process < 2 ^ 64
    → state_in (state_bytes stored) ≡ Ok stored
unfolding state_in named_state_in
state_again stored two three =
    let number = state_number stored.run.state in
    let triple : ℕ × ℕ × ℕ = (number, stored.process, stored.run.process) in
    bind_to (triple_in (triple_bytes number stored.process stored.run.process)) triple
    (λ t. state_by (state_named t.0) t.1 t.2)
    (triple_again number stored.process stored.run.process (state_below stored.run.state) two three)
    ∙ ap (λ (found : Option ServerState). state_by found stored.process stored.run.process)
    (state_known stored.run.state)

pub nameless_again : (stored : StoredState) → stored.process < 2 ^ 64 → stored.run.process ≡ 0
    → state_in (nameless_state_bytes stored) ≡ Ok stored
unfolding state_in nameless_state_in
nameless_again stored two none =
    let number = state_number stored.run.state in
    let pair : ℕ × ℕ = (number, stored.process) in
    bind_to (pair_in (nameless_state_bytes stored)) pair (λ p. state_by (state_named p.0) p.1 0)
    (pair_again number stored.process (state_below stored.run.state) two)
    ∙ ap (λ (found : Option ServerState). state_by found stored.process 0) (state_known stored.run.state)
    ∙ ap (state_by (Some stored.run.state) stored.process) (sym none)

pub state_found : (bytes : List ℕ) (result : Result StoredState ReadError) → IsBytes bytes
    → Decodes (λ (stored : StoredState). stored) result (state_in bytes)
    → IfOk result (SpellsState bytes)
state_found bytes (Ok stored) fits given = state_takes bytes stored fits given
state_found bytes (Err error) fits given = tt
