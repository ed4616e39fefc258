-- Putting the pairs of a map one after the other.
use Rattle.std.proofs.Common.{◌≡◌, ◌≢◌, ℕ, suc, ◌<◌, List, [], ◌∷◌, ◌++◌, length, get_or, Some, None, refl}
use Rattle.std.proofs.Common.{sym, ap, subst, ◌∙◌, append_assoc, arith}
use Rattle.std.specs.List.{All}
use Rattle.std.proofs.lemmas.List.{append-nil, get_or_at, get_or_append_left, length-append}
use Rattle.std.proofs.lemmas.List.Edits.{insert_end}
use Rattle.std.specs.declared.cmp.Ordering.TheVariants.{Less}
use Rattle.sm_ranges.specs.KeyOrder.{key_cmp}
use Rattle.sm_ranges.specs.Keyed.{IsKeyGap}
use Rattle.sm_ranges.specs.lemmas.Keyed as keyed
use Rattle.sm_map.specs.KeyMap.{IsKeyMap, KeyPair, KeyValue, holding, key_of}
use Rattle.sm_texts.specs.Saves.{front_bytes, pair_at, spelled_pairs}
use Rattle.sm_texts.proofs.Pairs.{FitsPair, pair_again}
use Rattle.sm_texts.proofs.Reached.{IsHeld}

-- the first pairs were put, and the bytes spell the pairs that are left
abbrev pub Loading : List KeyPair → List KeyPair → List ℕ → Type 0
Loading m done rest = (todo : List KeyPair) × (m ≡ done ++ todo) × (rest ≡ spelled_pairs todo)

long_end : (done todo : List KeyPair) (pair : KeyPair) → length done < length (done ++ pair ∷ todo)
long_end done todo pair = omega (arith, length-append done (pair ∷ todo))

end_gap : (done todo : List KeyPair) (pair : KeyPair) → IsKeyMap (done ++ pair ∷ todo)
    → IsKeyGap key_of done pair.key (length done)
end_gap done todo pair order = record {
  within = omega arith;
  apart = (
    λ k d _ low. subst (λ (p : KeyPair). key_cmp p.key pair.key ≡ Less) (get_or_append_left done (pair ∷ todo) d k low)
        (subst (λ (p : KeyPair). key_cmp (get_or (done ++ pair ∷ todo) k d).key p.key ≡ Less)
        (get_or_at done pair todo d (length done) refl) (order k (length done) d low (long_end done todo pair))),
    λ k d high inside. absurd (omega arith),
  );
}

next_put : (done todo : List KeyPair) (pair : KeyPair) → IsKeyMap (done ++ pair ∷ todo)
    → (done' : IsKeyMap done) → holding done pair.key pair.value ≡ done ++ pair ∷ []
next_put done todo pair order done' =
    sym (keyed.insert_here key_of done pair.key done' (length done) (end_gap done todo pair order) pair)
    ∙ insert_end done pair

front_order : (done todo : List KeyPair) → IsKeyMap (done ++ todo) → IsKeyMap done
front_order done todo order i j d below within =
    subst (λ (p : KeyPair). key_cmp p.key (get_or done j d).key ≡ Less)
    (get_or_append_left done todo d i (omega (arith, below, within)))
    (subst (λ (p : KeyPair). key_cmp (get_or (done ++ todo) i d).key p.key ≡ Less)
    (get_or_append_left done todo d j within)
    (order i j d below (omega (arith, within, length-append done todo))))

some_pair : (x y : KeyPair × List ℕ) → Some x ≡ Some y → x ≡ y
some_pair x y e = cc

pub load_step : (m done : List KeyPair) (rest after : List ℕ) (key : List ℕ) (value : KeyValue) → IsHeld m
    → Loading m done rest → length rest ≢ 0 → Some (record { key = key; value = value }, after) ≡ pair_at rest
    → Loading m (holding done key value) after
load_step m done rest after key value held ([], is, left) some found = absurd (some (ap length left))
load_step m done rest after key value held (pair ∷ todo, is, left) some found =
    let order = subst IsKeyMap is held.order in
    let fits = subst FitsPair (get_or_at done pair todo pair (length done) refl)
    (subst (All FitsPair) is held.fits (length done) pair (long_end done todo pair)) in
    let one : KeyPair × List ℕ = (record { key = key; value = value }, after) in
    let other : KeyPair × List ℕ = (pair, spelled_pairs todo) in
    let same : one ≡ other =
    some_pair one other (found ∙ ap pair_at left ∙ pair_again pair (spelled_pairs todo) fits) in
    let put : holding done key value ≡ done ++ pair ∷ [] =
    ap (λ (p : KeyPair × List ℕ). holding done p.0.key p.0.value) same
    ∙ next_put done todo pair order (front_order done (pair ∷ todo) order) in (
      todo,
      is ∙ sym (append_assoc done (pair ∷ []) todo) ∙ ap (λ (ps : List KeyPair). ps ++ todo) (sym put),
      ap (λ (p : KeyPair × List ℕ). p.1) same,
    )

none_some : (x : KeyPair × List ℕ) → None ≡ Some x → ⊥
none_some x e = absurd cc

pub load_none : (m done : List KeyPair) (rest : List ℕ) → IsHeld m → Loading m done rest → length rest ≢ 0
    → None ≡ pair_at rest → ⊥
load_none m done rest held ([], is, left) some found = some (ap length left)
load_none m done rest held (pair ∷ todo, is, left) some found =
    let fits = subst FitsPair (get_or_at done pair todo pair (length done) refl)
    (subst (All FitsPair) is held.fits (length done) pair (long_end done todo pair)) in
    let other : KeyPair × List ℕ = (pair, spelled_pairs todo) in
    none_some other (found ∙ ap pair_at left ∙ pair_again pair (spelled_pairs todo) fits)

suc_zero : {n : ℕ} → suc n ≡ 0 → ⊥
suc_zero e = absurd (omega (arith, e))

pub load_done : (m done : List KeyPair) (rest : List ℕ) → Loading m done rest → length rest ≡ 0 → done ≡ m
unfolding front_bytes
load_done m done rest ([], is, left) none = sym (is ∙ append-nil done)
load_done m done rest (pair ∷ todo, is, left) none =
    absurd (suc_zero (sym (ap length left) ∙ none))
