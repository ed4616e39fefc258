-- How much a stand adds at the places of its servers.
use Rattle.std.proofs.Common.{ℕ, ◌+◌, ◌<◌, ◌≡◌, zero, suc, Bool, true, false, cond, eqb, List, [], ◌∷◌}
use Rattle.std.proofs.Common.{length, get_or, Option, Some, None, sym, refl, ap, ◌∙◌, inl, inr, arith, ◌||◌}
use Rattle.std.specs.Prelude.{IfSome, option_map, remove, slice_index}
use Rattle.std.proofs.lemmas.Bool.{eq-eqb, or_right}
use Rattle.std.proofs.lemmas.Bool.Decides.{eqb_tells}
use Rattle.std.proofs.lemmas.List.Sums.{sum_by-set, sum_by-remove}
use Rattle.sm_ranges.specs.declared.stand.Stand.{Stand}
use Rattle.sm_ranges.specs.Stand.{AllNamed, passes, names, owner_of, other_of}
use Rattle.sm_rows.specs.declared.server_row.ServerRow.{ServerRow}
use Rattle.sm_place.specs.declared.shard.Shard.{Shard}
use Rattle.sm_place.specs.Counters.{HasLoads}
use Rattle.sm_place.specs.Cells.{amount_at, is_hit, ArePlaces}
use Rattle.sm_place.specs.Books.{moved, no_shard, place_of, IsKnown, shard_at, with_stand}
use Rattle.sm_place.specs.lemmas.Changed.{same_place}
use Rattle.sm_place.specs.Room.{load_on, load_by}

-- servers with different places are different
pub eqb-place : (servers : List ServerRow) (a b : ℕ) → IsKnown servers a
    → eqb (place_of servers b) (place_of servers a) ≡ eqb b a
eqb-place servers a b known =
    elim (eqb_tells b a) [
      | inl p ↦ eq-eqb _ _ (ap (place_of servers) p.1) ∙ sym p.0
      | inr p ↦ elim (eqb_tells (place_of servers b) (place_of servers a)) [
        | inl q ↦ absurd (p.1 (same_place servers a b known q.1))
        | inr q ↦ q.0 ∙ sym p.0
      ]
    ]

pub passes-place : (servers : List ServerRow) (a : ℕ) → IsKnown servers a → (x : Option ℕ)
    → passes (λ at. eqb at (place_of servers a)) (option_map (place_of servers) x) ≡ passes (λ b. eqb b a) x
passes-place servers a known None = refl
passes-place servers a known (Some b) = eqb-place servers a b known

-- a server gets the amount at its place if the stand names it
pub amount_at-place : (servers : List ServerRow) (a : ℕ) → IsKnown servers a → (x y : Option ℕ) (n : ℕ)
    → amount_at (option_map (place_of servers) x) (option_map (place_of servers) y) n (place_of servers a)
    ≡ cond (passes (λ b. eqb b a) x || passes (λ b. eqb b a) y) n 0
amount_at-place servers a known x y n =
    ap (λ (p : Bool). cond (p || passes (λ at. eqb at (place_of servers a)) (option_map (place_of servers) y)) n 0)
    (passes-place servers a known x)
    ∙ ap (λ (p : Bool). cond (passes (λ b. eqb b a) x || p) n 0) (passes-place servers a known y)

-- the server gets the shard's load at its place if the stand names it
pub amount_at-load : (servers : List ServerRow) (a : ℕ) → IsKnown servers a → (stand : Stand) (n : ℕ)
    → amount_at (option_map (place_of servers) (owner_of stand)) (option_map (place_of servers) (other_of stand)) n
    (place_of servers a)
    ≡ cond (names stand a) n 0
amount_at-load servers a known stand n = amount_at-place servers a known (owner_of stand) (other_of stand) n

-- without one shard, a server bears that much less
pub load_on-remove : (shards : List Shard) (k a : ℕ) → k < length shards
    → load_on (remove shards k) a + load_by a (shard_at shards k) ≡ load_on shards a
load_on-remove shards k a h = sum_by-remove (load_by a) shards k no_shard h

pub load_on-with_stand : (shards : List Shard) (k a : ℕ) (stand : Stand) → k < length shards
    → load_on (with_stand shards k stand) a + load_by a (shard_at shards k)
    ≡ load_on shards a + load_by a (moved (shard_at shards k) stand)
load_on-with_stand shards k a stand h = sum_by-set (load_by a) shards k (moved (shard_at shards k) stand) no_shard h

-- a place that is hit is the place of one of the two servers
pub hit_place : (servers : List ServerRow) (x y : Option ℕ) (i : ℕ) → IfSome x (IsKnown servers)
    → IfSome y (IsKnown servers)
    → is_hit (option_map (place_of servers) x) (option_map (place_of servers) y) i ≡ true
    → (a : ℕ)
    × (IsKnown servers a × (place_of servers a ≡ i) × ((passes (λ b. eqb b a) x || passes (λ b. eqb b a) y) ≡ true))
hit_place servers None None i hx hy e = absurd (cc)
hit_place servers (Some a) None i hx hy e =
    elim (eqb_tells (place_of servers a) i) [
      | inl p ↦ (a, (hx, p.1, ap (λ v. v || false) (eq-eqb a a refl)))
      | inr p ↦ let f : false ≡ true = rw p.0 at e in absurd (cc)
    ]
hit_place servers None (Some b) i hx hy e =
    elim (eqb_tells (place_of servers b) i) [
      | inl p ↦ (b, (hy, p.1, eq-eqb b b refl))
      | inr p ↦ let f : false ≡ true = rw p.0 at e in absurd (cc)
    ]
hit_place servers (Some a) (Some b) i hx hy e =
    elim (eqb_tells (place_of servers a) i) [
      | inl p ↦ (a, (hx, p.1, ap (λ v. v || eqb b a) (eq-eqb a a refl)))
      | inr p ↦ elim (eqb_tells (place_of servers b) i) [
        | inl q ↦ (b, (hy, q.1, or_right (eqb a b) (eqb b b) (eq-eqb b b refl)))
        | inr q ↦ let f : false ≡ true = rw (p.0, q.0) at e in absurd (cc)
      ]
    ]

-- a shard's load counts at each server that it names
pub load_by-named : (a : ℕ) (shard : Shard) → names shard.stand a ≡ true → load_by a shard ≡ shard.row.load
load_by-named a shard h = ap (λ (p : Bool). cond p shard.row.load 0) h

pub gets : (servers : List ServerRow) (stand : Stand) (x y : Option ℕ) (n a : ℕ) → ArePlaces servers stand x y
    → IsKnown servers a
    → amount_at x y n (place_of servers a) ≡ cond (names stand a) n 0
gets servers stand x y n a at known =
    ap (λ v. amount_at v y n (place_of servers a)) at.owner
    ∙ ap (λ v. amount_at (option_map (place_of servers) (owner_of stand)) v n (place_of servers a)) at.other
    ∙ amount_at-load servers a known stand n

pub hit_named : (servers : List ServerRow) (stand : Stand) (x y : Option ℕ) (i : ℕ) → ArePlaces servers stand x y
    → AllNamed (IsKnown servers) stand → is_hit x y i ≡ true
    → (a : ℕ) × (IsKnown servers a × (place_of servers a ≡ i) × (names stand a ≡ true))
hit_named servers stand x y i at known hit =
    hit_place servers (owner_of stand) (other_of stand) i known.0 known.1
    (sym (ap (λ v. is_hit v y i) at.owner
    ∙ ap (λ v. is_hit (option_map (place_of servers) (owner_of stand)) v i) at.other) ∙ hit)

-- the counters of loads, after the servers of one stand lost the shard's load and those of another gained it
pub HasLoads-moved :
    (servers : List ServerRow) (shards : List Shard) (k : ℕ) (stand : Stand) (loads0 loads1 loads2 : List ℕ)
    (x y x' y' : Option ℕ) (n : ℕ)
    → k < length shards
    → HasLoads servers shards loads0
    → ArePlaces servers (shard_at shards k).stand x y → ArePlaces servers stand x' y' → n ≡ (shard_at shards k).row.load
    → length loads1 ≡ length loads0 → length loads2 ≡ length loads0
    → ((i : ℕ) → i < length loads0 → slice_index loads1 i + amount_at x y n i ≡ slice_index loads0 i)
    → ((i : ℕ) → i < length loads1 → slice_index loads2 i ≡ slice_index loads1 i + amount_at x' y' n i)
    → HasLoads servers (with_stand shards k stand) loads2
HasLoads-moved servers shards k stand loads0 loads1 loads2 x y x' y' n inside has at at' en e1 e2 lowered raised =
    record {
      len = e2 ∙ has.len;
      at = λ a known.
          let here : place_of servers a < length loads0 = rw has.len known in
          let here1 : place_of servers a < length loads1 = rw e1 here in
          let lost : amount_at x y n (place_of servers a) ≡ load_by a (shard_at shards k) =
          gets servers (shard_at shards k).stand x y n a at known
          ∙ ap (λ m. cond (names (shard_at shards k).stand a) m 0) en in
          let gained : amount_at x' y' n (place_of servers a) ≡ load_by a (moved (shard_at shards k) stand) =
          gets servers stand x' y' n a at' known ∙ ap (λ m. cond (names stand a) m 0) en in
          omega (
            arith,
            lowered (place_of servers a) here,
            raised (place_of servers a) here1,
            lost,
            gained,
            has.at a known,
            load_on-with_stand shards k a stand inside,
          );
    }

-- the raised counter fits, because the new sum does
pub raise_fits : (servers : List ServerRow) (shards : List Shard) (k : ℕ) (stand : Stand) (loads0 loads1 : List ℕ)
    (x y x' y' : Option ℕ) (n m : ℕ)
    → k < length shards
    → AllNamed (IsKnown servers) stand
    → HasLoads servers shards loads0
    → ArePlaces servers (shard_at shards k).stand x y → ArePlaces servers stand x' y' → n ≡ (shard_at shards k).row.load
    → ((a : ℕ) → IsKnown servers a → load_on (with_stand shards k stand) a < m)
    → ((i : ℕ) → i < length loads0 → slice_index loads1 i + amount_at x y n i ≡ slice_index loads0 i)
    → (i : ℕ) → is_hit x' y' i ≡ true → slice_index loads1 i + n < m
raise_fits servers shards k stand loads0 loads1 x y x' y' n m inside known has at at' en fits lowered i hit =
    let found = hit_named servers stand x' y' i at' known hit in
    let a = found.0 in
    let here : place_of servers a < length loads0 = rw has.len found.1.0 in
    let lost : amount_at x y n (place_of servers a) ≡ load_by a (shard_at shards k) =
    gets servers (shard_at shards k).stand x y n a at found.1.0
    ∙ ap (λ m. cond (names (shard_at shards k).stand a) m 0) en in
    let gained : load_by a (moved (shard_at shards k) stand) ≡ n =
    load_by-named a (moved (shard_at shards k) stand) found.1.2 ∙ sym en in
    let goal : slice_index loads1 (place_of servers a) + n < m =
    omega (
      arith,
      lowered (place_of servers a) here,
      lost,
      gained,
      has.at a found.1.0,
      fits a found.1.0,
      load_on-with_stand shards k a stand inside,
    ) in
    rw (← found.1.1) goal

-- the result of an index is the shard
pub shard_is : (shards : List Shard) (k : ℕ) (shard : Shard) → k < length shards → shard ≡ get_or shards k shard
    → shard ≡ shard_at shards k
shard_is [] k shard h e = absurd (omega arith)
shard_is (x ∷ xs) zero shard h e = e
shard_is (x ∷ xs) (suc k) shard h e = shard_is xs k shard (omega arith) e
