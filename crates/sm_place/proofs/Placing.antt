-- How the table of places is filled.
use Rattle.std.proofs.Common.{ℕ, zero, suc, ◌+◌, ◌<◌, ◌≤◌, ◌≡◌, ◌≢◌, false, not, cond, eqb, ltb, List, length, map}
use Rattle.std.proofs.Common.{get_or, set, sym, refl, ap, ◌∙◌, inl, inr, ◌⊎◌, arith}
use Rattle.std.specs.Prelude.{replicate}
use Rattle.std.proofs.lemmas.Bool.{lt-ltb, le-ltb, eq-eqb}
use Rattle.std.proofs.lemmas.Bool.Decides.{eqb_tells}
use Rattle.std.proofs.lemmas.List.{get_or-set_same, get_or-map, get_or-set_other, length-map, length-set}
use Rattle.std.proofs.lemmas.List.{length-replicate, get_or-replicate}
use Rattle.std.proofs.lemmas.List.Kept.{AllPairs-from_increasing}
use Rattle.std.specs.List.Sorted.{IsStrictlyIncreasing}
use Rattle.std.proofs.lemmas.List.Sums.{position_or_len_is, prefix_len-le-length}
use Rattle.sm_ranges.specs.declared.limits.TheConstants.{MAX_SERVER}
use Rattle.sm_rows.specs.declared.server_row.ServerRow.{ServerRow}
use Rattle.sm_place.specs.Books.{no_server, place_of, IsKnown}
use Rattle.sm_place.specs.Counters.{HasPlaces}
use Rattle.sm_place.specs.lemmas.Changed.{id-at_place}

-- either one number is below the other, or it isn't
pub split : (m n : ℕ) → (m < n) ⊎ (n ≤ m)
split zero zero = inr (omega arith)
split zero (suc n) = inl (omega arith)
split (suc m) zero = inr (omega arith)
split (suc m) (suc n) = elim (split m n) [ inl p ↦ inl (omega arith) | inr p ↦ inr (omega arith) ]

-- a place is at most the number of rows
pub place_of-le : (servers : List ServerRow) (a : ℕ) → place_of servers a ≤ length servers
place_of-le servers a = prefix_len-le-length (λ row. not (eqb row.id a)) servers

-- the table after this many rows: it has the places below their count
pub record IsPlacedUpTo (servers : List ServerRow) (m : ℕ) (places : List ℕ) (count : ℕ) : Type 0 where
  pub len : length places ≡ m
  pub at : (a : ℕ) → a < m
      → get_or places a 0 ≡ cond (ltb (place_of servers a) count) (place_of servers a) (length servers)

-- before the first row no server has a place
pub IsPlacedUpTo-new : (servers : List ServerRow) (m n : ℕ) → n ≡ length servers
    → IsPlacedUpTo servers m (replicate m n) 0
IsPlacedUpTo-new servers m n e = record {
  len = length-replicate m n;
  at = λ a h. get_or-replicate m a n 0 h ∙ e
      ∙ sym (ap (λ b. cond b (place_of servers a) (length servers)) (le-ltb (place_of servers a) 0 (omega arith)));
}

-- if numbers rise, each is below the later ones
rising : (servers : List ServerRow) → IsStrictlyIncreasing (map (λ row. row.id) servers) → (i j : ℕ) → i < j
    → j < length servers
    → (get_or servers i no_server).id < (get_or servers j no_server).id
rising servers rise i j h inside =
    let ids = map (λ row. row.id) servers in
    let before : get_or ids i 0 ≡ (get_or servers i no_server).id =
    get_or-map (λ row. row.id) servers i no_server 0 (omega arith) in
    let after : get_or ids j 0 ≡ (get_or servers j no_server).id =
    get_or-map (λ row. row.id) servers j no_server 0 inside in
    let within : j < length ids = simp length-map inside in
    omega (arith, before, after, AllPairs-from_increasing ids rise i j 0 h within)

-- the first row with a number is the row of this server
pub place_of-row : (servers : List ServerRow) (i : ℕ) → IsStrictlyIncreasing (map (λ row. row.id) servers)
    → i < length servers
    → place_of servers (get_or servers i no_server).id ≡ i
place_of-row servers i rise h =
    position_or_len_is (λ row. eqb row.id (get_or servers i no_server).id) servers i no_server (omega arith)
    (λ k below. other k below)
    (λ _. eq-eqb _ _ refl)
  where
    other : (k : ℕ) → k < i → eqb (get_or servers k no_server).id (get_or servers i no_server).id ≡ false
    other k below = elim (eqb_tells (get_or servers k no_server).id (get_or servers i no_server).id) [
      | inl p ↦ absurd (omega (arith, p.1, rising servers rise k i below h))
      | inr p ↦ p.0
    ]

-- the next row has its place written
pub IsPlacedUpTo-next : (servers : List ServerRow) (m : ℕ) (places : List ℕ) (i a : ℕ)
    → IsStrictlyIncreasing (map (λ row. row.id) servers) → i < length servers
    → a ≡ (get_or servers i no_server).id → a < m
    → IsPlacedUpTo servers m places i → IsPlacedUpTo servers m (set places a i) (i + 1)
IsPlacedUpTo-next servers m places i a rise h e small filled = record {
  len = length-set places a i ∙ filled.len;
  at = λ b hb. elim (eqb_tells b a) [
    | inl p ↦
        let here : place_of servers b ≡ i = ap (place_of servers) (p.1 ∙ e) ∙ place_of-row servers i rise h in
        let wide : a < length places = omega (arith, filled.len) in
        ap (λ v. get_or (set places a i) v 0) p.1 ∙ get_or-set_same places a i 0 wide
        ∙ sym (ap (λ v. cond (ltb v (i + 1)) v (length servers)) here
        ∙ ap (λ v. cond v i (length servers)) (lt-ltb i (i + 1) (omega arith)))
    | inr p ↦
        get_or-set_other places a b i 0 p.1 ∙ filled.at b hb ∙ same b p.1 (split (place_of servers b) i)
  ];
}
  where
    same : (b : ℕ) → b ≢ a → (place_of servers b < i) ⊎ (i ≤ place_of servers b)
        → cond (ltb (place_of servers b) i) (place_of servers b) (length servers)
        ≡ cond (ltb (place_of servers b) (i + 1)) (place_of servers b) (length servers)
    same b ne (inl q) =
        ap (λ v. cond v (place_of servers b) (length servers))
        (lt-ltb (place_of servers b) i q ∙ sym (lt-ltb (place_of servers b) (i + 1) (omega arith)))
    same b ne (inr q) =
        let apart : place_of servers b ≢ i = λ s.
        let known : IsKnown servers b = omega (arith, s, h) in
        ne (sym (id-at_place servers b known) ∙ ap (λ v. (get_or servers v no_server).id) s ∙ sym e) in
        ap (λ v. cond v (place_of servers b) (length servers))
        (le-ltb (place_of servers b) i q ∙ sym (le-ltb (place_of servers b) (i + 1) (omega (arith, apart))))

-- after the last row each server has its place
pub HasPlaces-filled : (servers : List ServerRow) (places : List ℕ) (n : ℕ) → n ≡ length servers
    → IsPlacedUpTo servers (MAX_SERVER + 1) places n → HasPlaces servers places
HasPlaces-filled servers places n e filled = record {
  len = filled.len;
  at = λ a h. filled.at a (omega (arith, h))
      ∙ ap (λ v. cond (ltb (place_of servers a) v) (place_of servers a) (length servers)) e
      ∙ whole a (split (place_of servers a) (length servers));
}
  where
    whole : (a : ℕ) → (place_of servers a < length servers) ⊎ (length servers ≤ place_of servers a)
        → cond (ltb (place_of servers a) (length servers)) (place_of servers a) (length servers) ≡ place_of servers a
    whole a (inl q) = ap (λ v. cond v (place_of servers a) (length servers)) (lt-ltb _ _ q)
    whole a (inr q) =
        let same : length servers ≡ place_of servers a = omega (arith, place_of-le servers a) in
        ap (λ v. cond v (place_of servers a) (length servers)) (le-ltb _ _ q) ∙ same
