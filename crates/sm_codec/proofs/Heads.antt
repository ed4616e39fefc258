-- Heads, and pairs of numbers: the bytes that are read are the encoding of the value, and the encoding of a value is
-- read.
use Rattle.std.proofs.Common.{◌≡◌, ℕ, ◌^◌, ◌<◌, List, [], ◌∷◌, ◌++◌, Result, Ok, Err, sym, ap, subst, ◌∙◌}
use Rattle.std.proofs.Common.{append-nil}
use Rattle.std.specs.Prelude.{IfOk}
use Rattle.std.specs.Int.{w64, to_be_bytes}
use Rattle.sm_store.specs.declared.head.Head.{Head}
use Rattle.sm_codec.specs.declared.fault.Fault.{Fault}
use Rattle.sm_codec.specs.declared.fault.ReadError.{ReadError}
use Rattle.sm_codec.specs.declared.fault.ReadError.TheVariants as errors
use Rattle.sm_codec.specs.Reading.{◌>>=◌, IsFault, Decodes, all_read, head_in, number_in, pair_in, version_in}
use Rattle.sm_codec.specs.Spelling.{FitsHead, head_bytes, pair_bytes}
use Rattle.sm_codec.proofs.FieldLemmas.{IsBytes, Takes, Takes-then, bind_ok, ended_takes, number_again}
use Rattle.sm_codec.proofs.FieldLemmas.{number_takes}
use Rattle.sm_codec.proofs.FieldLemmas.{bind_to, version_again, version_takes, wide64}

-- all of the bytes, if none are left
pub taken_all : (bytes text rest : List ℕ) → Takes bytes text rest → rest ≡ [] → bytes ≡ text
taken_all bytes text rest takes none =
    takes.parts ∙ ap (λ (list : List ℕ). text ++ list) none ∙ append-nil text

pub pair_takes : (bytes : List ℕ) (x : ℕ × ℕ) → IsBytes bytes → pair_in bytes ≡ Ok x
    → (bytes ≡ pair_bytes x.0 x.1) × (x.0 < 2 ^ 64) × (x.1 < 2 ^ 64)
unfolding pair_in
pair_takes bytes x fits e =
    let v = bind_ok (version_in bytes) (λ rest. number_in w64 rest >>= λ first. number_in w64 first.1 >>= λ second.
    all_read (first.0, second.0) second.1) x e in
    let a = bind_ok (number_in w64 v.0) (λ first. number_in w64 first.1 >>= λ second.
    all_read (first.0, second.0) second.1) x v.2 in
    let b = bind_ok (number_in w64 a.0.1) (λ second. all_read (a.0.0, second.0) second.1) x a.2 in
    let made : ℕ × ℕ = (a.0.0, b.0.0) in
    let end = ended_takes made x b.0.1 b.2 in
    let t = version_takes bytes v.0 fits v.1 in
    let t0 = number_takes w64 (2 ^ 64) wide64 v.0 a.0.0 a.0.1 t.rest_fits a.1 in
    let t1 = number_takes w64 (2 ^ 64) wide64 a.0.1 b.0.0 b.0.1 t0.0.rest_fits b.1 in
    let e01 = Takes-then v.0 (to_be_bytes w64 a.0.0) a.0.1 (to_be_bytes w64 b.0.0) b.0.1 t0.0 t1.0 in
    let all = Takes-then bytes (1 ∷ []) v.0 (to_be_bytes w64 a.0.0 ++ to_be_bytes w64 b.0.0) b.0.1 t e01 in
    subst (λ (y : ℕ × ℕ). (bytes ≡ pair_bytes y.0 y.1) × (y.0 < 2 ^ 64) × (y.1 < 2 ^ 64)) end.1
    (taken_all bytes (pair_bytes a.0.0 b.0.0) b.0.1 all end.0, t0.1, t1.1)

pub pair_again : (first second : ℕ) → first < 2 ^ 64 → second < 2 ^ 64
    → pair_in (pair_bytes first second) ≡ Ok (first, second)
unfolding pair_in
pair_again first second one two =
    let tail = to_be_bytes w64 second in
    let rest = to_be_bytes w64 first ++ tail in
    let last : number_in w64 tail ≡ Ok (second, []) =
    ap (number_in w64) (sym (append-nil tail)) ∙ number_again w64 (2 ^ 64) wide64 second [] two in
    let f0 : List ℕ → Result (ℕ × ℕ) Fault = λ x. number_in w64 x >>= λ a. number_in w64 a.1 >>= λ b.
    all_read (a.0, b.0) b.1 in
    let f1 : ℕ × List ℕ → Result (ℕ × ℕ) Fault = λ a. number_in w64 a.1 >>= λ b. all_read (a.0, b.0) b.1 in
    let f2 : ℕ × List ℕ → Result (ℕ × ℕ) Fault = λ b. all_read (first, b.0) b.1 in
    let p1 : ℕ × List ℕ = (first, tail) in
    let p2 : ℕ × List ℕ = (second, []) in
    bind_to (version_in (1 ∷ rest)) rest f0 (version_again rest)
    ∙ bind_to (number_in w64 rest) p1 f1 (number_again w64 (2 ^ 64) wide64 first tail one)
    ∙ bind_to (number_in w64 tail) p2 f2 last

pub head_takes : (bytes : List ℕ) (head : Head) → IsBytes bytes → head_in bytes ≡ Ok head
    → FitsHead head × (bytes ≡ head_bytes head)
unfolding head_in
head_takes bytes head fits e =
    let v = bind_ok (version_in bytes) (λ rest. number_in w64 rest >>= λ batches. number_in w64 batches.1 >>= λ base.
    number_in w64 base.1 >>= λ parts. all_read (record { batches = batches.0; base = base.0; parts = parts.0 })
    parts.1)
    head e in
    let a = bind_ok (number_in w64 v.0) (λ batches. number_in w64 batches.1 >>= λ base. number_in w64 base.1
    >>= λ parts. all_read (record { batches = batches.0; base = base.0; parts = parts.0 }) parts.1) head v.2 in
    let b = bind_ok (number_in w64 a.0.1) (λ base. number_in w64 base.1
    >>= λ parts. all_read (record { batches = a.0.0; base = base.0; parts = parts.0 }) parts.1) head a.2 in
    let c = bind_ok (number_in w64 b.0.1) (λ parts. all_read (record {
      batches = a.0.0;
      base = b.0.0;
      parts = parts.0;
    })
    parts.1) head b.2 in
    let made : Head = record { batches = a.0.0; base = b.0.0; parts = c.0.0 } in
    let end = ended_takes made head c.0.1 c.2 in
    let t = version_takes bytes v.0 fits v.1 in
    let t0 = number_takes w64 (2 ^ 64) wide64 v.0 a.0.0 a.0.1 t.rest_fits a.1 in
    let t1 = number_takes w64 (2 ^ 64) wide64 a.0.1 b.0.0 b.0.1 t0.0.rest_fits b.1 in
    let t2 = number_takes w64 (2 ^ 64) wide64 b.0.1 c.0.0 c.0.1 t1.0.rest_fits c.1 in
    let e12 = Takes-then a.0.1 (to_be_bytes w64 b.0.0) b.0.1 (to_be_bytes w64 c.0.0) c.0.1 t1.0 t2.0 in
    let e02 = Takes-then v.0 (to_be_bytes w64 a.0.0) a.0.1 (to_be_bytes w64 b.0.0 ++ to_be_bytes w64 c.0.0) c.0.1 t0.0
    e12 in
    let all = Takes-then bytes (1 ∷ []) v.0 (to_be_bytes w64 a.0.0 ++ (to_be_bytes w64 b.0.0 ++ to_be_bytes w64 c.0.0))
    c.0.1 t e02 in
    subst (λ (y : Head). FitsHead y × (bytes ≡ head_bytes y)) end.1
    (record { batches = t0.1; base = t1.1; parts = t2.1 }, taken_all bytes (head_bytes made) c.0.1 all end.0)

pub head_again : (head : Head) → FitsHead head → head_in (head_bytes head) ≡ Ok head
unfolding head_in
head_again head fits =
    let third = to_be_bytes w64 head.parts in
    let second = to_be_bytes w64 head.base ++ third in
    let first = to_be_bytes w64 head.batches ++ second in
    let last : number_in w64 third ≡ Ok (head.parts, []) =
    ap (number_in w64) (sym (append-nil third)) ∙ number_again w64 (2 ^ 64) wide64 head.parts [] fits.parts in
    let f0 : List ℕ → Result Head Fault = λ x. number_in w64 x >>= λ a. number_in w64 a.1 >>= λ b.
    number_in w64 b.1 >>= λ c. all_read (record { batches = a.0; base = b.0; parts = c.0 }) c.1 in
    let f1 : ℕ × List ℕ → Result Head Fault = λ a. number_in w64 a.1 >>= λ b.
    number_in w64 b.1 >>= λ c. all_read (record { batches = a.0; base = b.0; parts = c.0 }) c.1 in
    let f2 : ℕ × List ℕ → Result Head Fault = λ b. number_in w64 b.1 >>= λ c.
    all_read (record { batches = head.batches; base = b.0; parts = c.0 }) c.1 in
    let f3 : ℕ × List ℕ → Result Head Fault = λ c.
    all_read (record { batches = head.batches; base = head.base; parts = c.0 }) c.1 in
    let p1 : ℕ × List ℕ = (head.batches, second) in
    let p2 : ℕ × List ℕ = (head.base, third) in
    let p3 : ℕ × List ℕ = (head.parts, []) in
    bind_to (version_in (1 ∷ first)) first f0 (version_again first)
    ∙ bind_to (number_in w64 first) p1 f1 (number_again w64 (2 ^ 64) wide64 head.batches second fits.batches)
    ∙ bind_to (number_in w64 second) p2 f2 (number_again w64 (2 ^ 64) wide64 head.base third fits.base)
    ∙ bind_to (number_in w64 third) p3 f3 last

pub head_found : (bytes : List ℕ) (result : Result Head ReadError) → IsBytes bytes
    → Decodes (λ (head : Head). head) result (head_in bytes)
    → IfOk result (λ head. FitsHead head × (bytes ≡ head_bytes head))
head_found bytes (Ok head) fits given = head_takes bytes head fits given
head_found bytes (Err error) fits given = tt

-- a fault is not a fault of bytes that are read
pub fails_apart : {A B : Type 0} (error : ReadError) (read : Result A Fault) (x : A) → read ≡ Ok x
    → IsFault error read → (target : Result B Fault) → IsFault error target
fails_apart errors.Memory read x is fails target = tt
fails_apart (errors.Fault fault) read x is fails target = let clash = sym is ∙ fails in absurd cc
