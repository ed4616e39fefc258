-- Lists gathered item by item, each tested.
use Rattle.std.proofs.Common.{◌≡◌, ℕ, ◌<◌, List, length, map, refl, ap, ◌∙◌, sym, subst, None, Some, Ok, Err, Bool}
use Rattle.std.proofs.Common.{true, false, if◌then◌else◌, get_or}
use Rattle.std.specs.List.{list_all}
use Rattle.std.proofs.lemmas.List.Folds.{list_all-map, list_all_at}
use Rattle.sm_settings.specs.Members.{when}

-- if the value isn't there, the test failed
pub failed_test : {R : Type 0} (passed : Bool) (row : R) → None ≡ when passed row → passed ≡ false
failed_test true row none = cc
failed_test false row none = refl

-- one row that fails is enough
pub refused_at : {V D R : Type 0} (view : V → D) (of : D → R) (test : R → Bool) (vs : List V) (i : ℕ) (v : V)
    → i < length vs → v ≡ get_or vs i v
    → None ≡ when (test (of (view v))) (of (view v))
    → None ≡ when (list_all test (map of (map view vs))) (map of (map view vs))
refused_at view of test vs i v within is none =
    let failed : test (of (view (get_or vs i v))) ≡ false =
    ap (λ x. test (of (view x))) (sym is) ∙ failed_test (test (of (view v))) (of (view v)) none in
    let all_failed : list_all test (map of (map view vs)) ≡ false =
    list_all-map test of (map view vs) ∙ list_all-map (λ d. test (of d)) view vs
    ∙ list_all_at (λ x. test (of (view x))) vs i v within failed in
    sym (ap (λ b. when b (map of (map view vs))) all_failed)

-- rows that weren't gathered break the rule
pub refused_rows : {R : Type 0} (rule gathered : Bool) (rows : R) → None ≡ when gathered rows
    → (gathered ≡ false → rule ≡ false) → None ≡ when rule rows
refused_rows rule gathered rows none breaks = sym (ap (λ b. when b rows) (breaks (failed_test gathered rows none)))

-- rows that were gathered are those of the values
gathered_rows : {R : Type 0} (gathered : Bool) (found rows : R) → Some found ≡ when gathered rows → found ≡ rows
gathered_rows true found rows some = cc
gathered_rows false found rows some = cc

-- and they are given if and only if they keep the rule
pub judged_rows : {R : Type 0} (rule : R → Bool) (gathered keeps : Bool) (found rows : R)
    → Some found ≡ when gathered rows → rule found ≡ keeps → when keeps found ≡ when (rule rows) rows
judged_rows rule gathered keeps found rows some judged =
    let same = gathered_rows gathered found rows some in
    ap (when keeps) same ∙ ap (λ b. when b rows) (sym judged ∙ ap rule same)

-- if something is given, the rule holds for the contents of the items, and these are given
pub given_by : {D R : Type 0} (says : List D → R) (rule : R → Bool) (found : R) (items all : List D)
    → Some found ≡ when (rule (says items)) (says items) → items ≡ all
    → (rule (says all) ≡ true) × (found ≡ says all)
given_by says rule found items all some same =
    subst (λ ds. (rule (says ds) ≡ true) × (found ≡ says ds)) same (by (rule (says items)) some)
  where
    by : (holds : Bool) → Some found ≡ when holds (says items) → (holds ≡ true) × (found ≡ says items)
    by true some = (refl, cc)
    by false some = absurd (cc)

-- if nothing is given, the rule doesn't hold
pub broken_by : {D R : Type 0} (says : List D → R) (rule : R → Bool) (items all : List D)
    → None ≡ when (rule (says items)) (says items) → items ≡ all → rule (says all) ≡ false
broken_by says rule items all none same =
    subst (λ ds. rule (says ds) ≡ false) same (failed_test (rule (says items)) (says items) none)

-- if a number is within its limits, it is given
pub within_limits : {F : Type 0} (within : Bool) (number given : ℕ) (fault : F)
    → Ok given ≡ (if within then Ok number else Err fault) → (within ≡ true) × (given ≡ number)
within_limits true number given fault is = (refl, cc)
within_limits false number given fault is = absurd (cc)

-- if it isn't, a fault is given
pub beyond_limits : {F : Type 0} (within : Bool) (number : ℕ) (given fault : F)
    → Err given ≡ (if within then Ok number else Err fault) → (within ≡ false) × (given ≡ fault)
beyond_limits true number given fault is = absurd (cc)
beyond_limits false number given fault is = (refl, cc)
