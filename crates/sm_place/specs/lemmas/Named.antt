-- The servers that a stand names: facts about all of them hold for one, and one of them shows that there is one.
use Rattle.std.proofs.Common.{◌≡◌, ℕ, Bool, true, eqb, Option, Some, None, refl, ap, sym, ◌∙◌, inl, inr}
use Rattle.std.specs.Prelude.{IfSome}
use Rattle.std.proofs.lemmas.Bool.{eqb-true, eq-eqb, or_cases, or_left, or_right}
use Rattle.sm_ranges.specs.declared.stand.Stand.{Stand}
use Rattle.sm_ranges.specs.Stand.{passes, names, names_one, owner_of, other_of, AllNamed}

-- if an option passes, it holds a server that passes
passes-found : (test : ℕ → Bool) (x : Option ℕ) → passes test x ≡ true
    → (b : ℕ) × ((passes (λ c. eqb c b) x ≡ true) × (test b ≡ true))
passes-found test None e = absurd (cc)
passes-found test (Some a) e = (a, (eq-eqb a a refl, e))

passes-one : (test : ℕ → Bool) (x : Option ℕ) (b : ℕ) → passes (λ c. eqb c b) x ≡ true → test b ≡ true
    → passes test x ≡ true
passes-one test None b e t = absurd (cc)
passes-one test (Some a) b e t = ap test (eqb-true a b e) ∙ t

-- if a named server passes, there is such a server
pub names_one-found : (test : ℕ → Bool) (stand : Stand) → names_one test stand ≡ true
    → (b : ℕ) × ((names stand b ≡ true) × (test b ≡ true))
names_one-found test stand e =
    elim (or_cases (passes test (owner_of stand)) (passes test (other_of stand)) e) [
      | inl p ↦ let found = passes-found test (owner_of stand) p in (
        found.0,
        (
          or_left (passes (λ c. eqb c found.0) (owner_of stand)) (passes (λ c. eqb c found.0)
              (other_of stand)) found.1.0,
          found.1.1,
        ),
      )
      | inr p ↦ let found = passes-found test (other_of stand) p in (
        found.0,
        (
          or_right (passes (λ c. eqb c found.0) (owner_of stand)) (passes (λ c. eqb c found.0)
              (other_of stand)) found.1.0,
          found.1.1,
        ),
      )
    ]

-- if a server passes and the stand names it, a named server passes
pub names_one-named : (test : ℕ → Bool) (stand : Stand) (b : ℕ) → names stand b ≡ true → test b ≡ true
    → names_one test stand ≡ true
names_one-named test stand b e t =
    elim (or_cases (passes (λ c. eqb c b) (owner_of stand)) (passes (λ c. eqb c b) (other_of stand)) e) [
      | inl p ↦
          or_left (passes test (owner_of stand)) (passes test (other_of stand)) (passes-one test (owner_of stand) b p t)
      | inr p ↦ or_right (passes test (owner_of stand)) (passes test (other_of stand))
          (passes-one test (other_of stand) b p t)
    ]

IfSome-at : (P : ℕ → Type 0) (x : Option ℕ) (b : ℕ) → IfSome x P → passes (λ c. eqb c b) x ≡ true → P b
IfSome-at P None b h e = absurd (cc)
IfSome-at P (Some a) b h e = rw (sym (eqb-true a b e)) h

-- a fact about each named server holds for this one
pub AllNamed-at : (P : ℕ → Type 0) (stand : Stand) → AllNamed P stand → (b : ℕ) → names stand b ≡ true → P b
AllNamed-at P stand all b e =
    elim (or_cases (passes (λ c. eqb c b) (owner_of stand)) (passes (λ c. eqb c b) (other_of stand)) e) [
      | inl p ↦ IfSome-at P (owner_of stand) b all.0 p
      | inr p ↦ IfSome-at P (other_of stand) b all.1 p
    ]

-- the owner is one of the named servers
pub names-owner : (stand : Stand) (a : ℕ) → owner_of stand ≡ Some a → names stand a ≡ true
names-owner stand a e =
    or_left (passes (λ c. eqb c a) (owner_of stand)) (passes (λ c. eqb c a) (other_of stand))
    (ap (passes (λ c. eqb c a)) e ∙ eq-eqb a a refl)
