-- How much a stand adds at the cells of its group and its servers' domains.
use Rattle.std.proofs.Common.{ℕ, ◌+◌, ◌*◌, ◌<◌, ◌≤◌, ◌≡◌, Bool, true, false, cond, eqb, List, length, Option}
use Rattle.std.proofs.Common.{Some, None, sym, refl, ap, ◌∙◌, inl, inr, arith, ◌||◌, ◌&&◌}
use Rattle.std.specs.Prelude.{IfSome, option_map, remove, slice_index}
use Rattle.std.proofs.lemmas.Bool.{and_from, and_right, eqb-true, eq-eqb}
use Rattle.std.proofs.lemmas.Bool.Decides.{eqb_tells}
use Rattle.std.proofs.lemmas.Nat.{same_from_place}
use Rattle.std.proofs.lemmas.List.Sums.{sum_by-set, sum_by-remove}
use Rattle.sm_ranges.specs.declared.stand.Stand.{Stand}
use Rattle.sm_ranges.specs.Stand.{AllNamed, passes, owner_of, other_of}
use Rattle.sm_rows.specs.declared.server_row.ServerRow.{ServerRow}
use Rattle.sm_place.specs.declared.shard.Shard.{Shard}
use Rattle.sm_place.specs.Counters.{HasCells, HasCounts}
use Rattle.sm_place.specs.Ranks.{Ranking, domain_cell, rank_of, AreRanked}
use Rattle.sm_place.specs.Cells.{amount_at, is_hit, cell_of, AreInside, AreCells}
use Rattle.sm_place.specs.Books.{moved, no_shard, IsKnown, domain_of, shard_at, with_stand}
use Rattle.sm_place.specs.Room.{names_domain, is_in, count_in}

-- two cells are the same if the groups and the domains are
pub eqb-cell : (w g b g' d : ℕ) → b < w → d < w → eqb (g * w + b) (g' * w + d) ≡ (eqb g g' && eqb b d)
eqb-cell w g b g' d hb hd =
    elim (eqb_tells (g * w + b) (g' * w + d)) [
      | inl p ↦ let e = same_from_place g b g' d w hb hd p.1 in
          p.0 ∙ sym (and_from _ _ (eq-eqb g g' e.0) (eq-eqb b d e.1))
      | inr p ↦ elim (eqb_tells g g') [
        | inl q ↦ elim (eqb_tells b d) [
          | inl r ↦ absurd (p.1 (ap (λ (n : ℕ). n * w + b) q.1 ∙ ap (λ (n : ℕ). g' * w + n) r.1))
          | inr r ↦ p.0 ∙ sym (and_right _ _ r.0)
        ]
        | inr q ↦ p.0 ∙ sym (ap (λ v. v && eqb b d) q.0)
      ]
    ]

-- domains with different ranks are different
eqb-rank : (servers : List ServerRow) (r : Ranking) (e d : ℕ) → AreRanked servers r → rank_of r d < r.width
    → eqb (rank_of r e) (rank_of r d) ≡ eqb e d
eqb-rank servers r e d ranked h =
    elim (eqb_tells e d) [
      | inl p ↦ eq-eqb _ _ (ap (rank_of r) p.1) ∙ sym p.0
      | inr p ↦ elim (eqb_tells (rank_of r e) (rank_of r d)) [
        | inl q ↦ absurd (p.1 (ranked.apart d e h q.1))
        | inr q ↦ q.0 ∙ sym p.0
      ]
    ]

pub passes-cell : (servers : List ServerRow) (r : Ranking) (g g' d : ℕ) (x : Option ℕ)
    → AreRanked servers r → IfSome x (IsKnown servers) → rank_of r d < r.width
    → passes (λ at. eqb at (domain_cell r g' d)) (option_map (cell_of servers r g) x)
    ≡ (eqb g g' && passes (λ a. eqb (domain_of servers a) d) x)
passes-cell servers r g g' d None ranked row h = sym (and_right (eqb g g') false refl)
passes-cell servers r g g' d (Some a) ranked row h =
    eqb-cell r.width g (rank_of r (domain_of servers a)) g' (rank_of r d) (ranked.at a row) h
    ∙ ap (λ (p : Bool). eqb g g' && p) (eqb-rank servers r (domain_of servers a) d ranked h)

-- the cell of a group and a domain gets one if the stand's shard is in it
pub gets_one : (servers : List ServerRow) (r : Ranking) (g g' d : ℕ) (stand : Stand) (x y : Option ℕ)
    → AreCells servers r g stand x y → AreRanked servers r → AllNamed (IsKnown servers) stand → rank_of r d < r.width
    → amount_at x y 1 (domain_cell r g' d) ≡ cond (eqb g g' && names_domain servers stand d) 1 0
gets_one servers r g g' d stand x y at ranked known h =
    let i = domain_cell r g' d in
    let ox = passes-cell servers r g g' d (owner_of stand) ranked known.0 h in
    let oy = passes-cell servers r g g' d (other_of stand) ranked known.1 h in
    let fx : passes (λ v. eqb v i) x ≡ (eqb g g' && passes (λ a. eqb (domain_of servers a) d) (owner_of stand)) =
    ap (passes (λ v. eqb v i)) at.owner ∙ ox in
    let fy : passes (λ v. eqb v i) y ≡ (eqb g g' && passes (λ a. eqb (domain_of servers a) d) (other_of stand)) =
    ap (passes (λ v. eqb v i)) at.other ∙ oy in
    ap (λ (p : Bool). cond (p || passes (λ v. eqb v i) y) 1 0) fx
    ∙ ap (λ (p : Bool). cond ((eqb g g' && passes (λ a. eqb (domain_of servers a) d) (owner_of stand)) || p) 1 0) fy
    ∙ ap (λ (p : Bool). cond p 1 0) (and_or (eqb g g') _ _)
  where
    and_or : (u v w : Bool) → ((u && v) || (u && w)) ≡ (u && (v || w))
    and_or true v w = refl
    and_or false v w = refl

-- a cell that is hit is the cell of the group and a domain that the stand names
pub hit_in : (servers : List ServerRow) (r : Ranking) (g i : ℕ) (stand : Stand) (x y : Option ℕ)
    → AreCells servers r g stand x y → AreRanked servers r → AllNamed (IsKnown servers) stand → is_hit x y i ≡ true
    → (d : ℕ) × ((rank_of r d < r.width) × (domain_cell r g d ≡ i))
hit_in servers r g i stand x y at ranked known hit =
    found (owner_of stand) (other_of stand) known.0 known.1
    (sym (ap (λ v. is_hit v y i) at.owner
    ∙ ap (λ v. is_hit (option_map (cell_of servers r g) (owner_of stand)) v i) at.other) ∙ hit)
  where
    one : (a : ℕ) → IsKnown servers a → eqb (cell_of servers r g a) i ≡ true
        → (d : ℕ) × ((rank_of r d < r.width) × (domain_cell r g d ≡ i))
    one a row e = (domain_of servers a, (ranked.at a row, eqb-true _ _ e))

    found : (p q : Option ℕ) → IfSome p (IsKnown servers) → IfSome q (IsKnown servers)
        → is_hit (option_map (cell_of servers r g) p) (option_map (cell_of servers r g) q) i ≡ true
        → (d : ℕ) × ((rank_of r d < r.width) × (domain_cell r g d ≡ i))
    found None None hp hq e = absurd (cc)
    found None (Some b) hp hq e = one b hq e
    found (Some a) None hp hq e =
        elim (eqb_tells (cell_of servers r g a) i) [
          | inl r ↦ one a hp r.0
          | inr r ↦ let f : false ≡ true = rw r.0 at e in absurd (cc)
        ]
    found (Some a) (Some b) hp hq e =
        elim (eqb_tells (cell_of servers r g a) i) [
          | inl r ↦ one a hp r.0
          | inr r ↦ one b hq (rw r.0 at e)
        ]

pub count_in-remove : (servers : List ServerRow) (shards : List Shard) (k g d : ℕ) → k < length shards
    → count_in servers (remove shards k) g d + cond (is_in servers g d (shard_at shards k)) 1 0
    ≡ count_in servers shards g d
count_in-remove servers shards k g d h = sum_by-remove (λ s. cond (is_in servers g d s) 1 0) shards k no_shard h

pub count_in-with_stand : (servers : List ServerRow) (shards : List Shard) (k g d : ℕ) (stand : Stand)
    → k < length shards
    → count_in servers (with_stand shards k stand) g d + cond (is_in servers g d (shard_at shards k)) 1 0
    ≡ count_in servers shards g d + cond (is_in servers g d (moved (shard_at shards k) stand)) 1 0
count_in-with_stand servers shards k g d stand h =
    sum_by-set (λ s. cond (is_in servers g d s) 1 0) shards k (moved (shard_at shards k) stand) no_shard h

-- the counters, after the domains of one stand lost the shard and those of another gained it
pub HasCounts-moved : (servers : List ServerRow) (r : Ranking) (shards : List Shard) (k : ℕ) (stand : Stand)
    (counts0 counts1 counts2 : List ℕ) (x y x' y' : Option ℕ)
    → k < length shards → AreRanked servers r
    → AllNamed (IsKnown servers) (shard_at shards k).stand → AllNamed (IsKnown servers) stand
    → HasCounts servers shards counts0 r
    → AreCells servers r (shard_at shards k).row.group (shard_at shards k).stand x y
    → AreCells servers r (shard_at shards k).row.group stand x' y'
    → length counts1 ≡ length counts0 → length counts2 ≡ length counts0
    → ((i : ℕ) → i < length counts0 → slice_index counts1 i + amount_at x y 1 i ≡ slice_index counts0 i)
    → ((i : ℕ) → i < length counts1 → slice_index counts2 i ≡ slice_index counts1 i + amount_at x' y' 1 i)
    → HasCounts servers (with_stand shards k stand) counts2 r
HasCounts-moved servers r shards k stand counts0 counts1 counts2 x y x' y' inside ranked before after has at at' e1 e2
    lowered raised =
    record {
      at = λ g d hd hi.
          let here : domain_cell r g d < length counts0 = rw (← e2) hi in
          let here1 : domain_cell r g d < length counts1 = rw e1 here in
          let lost =
          gets_one servers r (shard_at shards k).row.group g d (shard_at shards k).stand x y at ranked before hd in
          let gained = gets_one servers r (shard_at shards k).row.group g d stand x' y' at' ranked after hd in
          omega (
            arith,
            lowered (domain_cell r g d) here,
            raised (domain_cell r g d) here1,
            lost,
            gained,
            has.at g d hd here,
            count_in-with_stand servers shards k g d stand inside,
          );
    }

pub AreInside-cell : (servers : List ServerRow) (counts : List ℕ) (r : Ranking) (g : ℕ) (x : Option ℕ)
    → HasCells counts g r
    → AreRanked servers r → IfSome x (IsKnown servers)
    → AreInside (length counts) (option_map (cell_of servers r g) x)
AreInside-cell servers counts r g None cells ranked row = tt
AreInside-cell servers counts r g (Some a) cells ranked row = cells.at (domain_of servers a) (ranked.at a row)

-- the cells of a stand are counters
pub AreInside-AreCells :
    (servers : List ServerRow) (counts : List ℕ) (n : ℕ) (r : Ranking) (g : ℕ) (stand : Stand) (x y : Option ℕ)
    → AreCells servers r g stand x y → HasCells counts g r → AreRanked servers r → AllNamed (IsKnown servers) stand
    → n ≡ length counts
    → AreInside n x × AreInside n y
AreInside-AreCells servers counts n r g stand x y at cells ranked known e = (
  rw (e, at.owner) (AreInside-cell servers counts r g (owner_of stand) cells ranked known.0),
  rw (e, at.other) (AreInside-cell servers counts r g (other_of stand) cells ranked known.1),
)

-- a counter that loses the shard had counted it
pub lower_one :
    (servers : List ServerRow) (r : Ranking) (shards : List Shard) (k : ℕ) (counts : List ℕ) (x y : Option ℕ)
    → k < length shards → AreRanked servers r → HasCells counts (shard_at shards k).row.group r
    → AllNamed (IsKnown servers) (shard_at shards k).stand
    → HasCounts servers shards counts r
    → AreCells servers r (shard_at shards k).row.group (shard_at shards k).stand x y
    → (i : ℕ) → is_hit x y i ≡ true → 1 ≤ slice_index counts i
lower_one servers r shards k counts x y inside ranked cells before has at i hit =
    let g = (shard_at shards k).row.group in
    let found = hit_in servers r g i (shard_at shards k).stand x y at ranked before hit in
    let d = found.0 in
    let once : amount_at x y 1 i ≡ 1 = ap (λ (p : Bool). cond p 1 0) hit in
    let there : amount_at x y 1 (domain_cell r g d) ≡ amount_at x y 1 i = ap (amount_at x y 1) found.1.1 in
    let lost = gets_one servers r g g d (shard_at shards k).stand x y at ranked before found.1.0 in
    let goal : 1 ≤ slice_index counts (domain_cell r g d) =
    omega (
      arith,
      once,
      there,
      lost,
      has.at g d found.1.0 (cells.at d found.1.0),
      count_in-remove servers shards k g d inside,
    ) in
    rw (← found.1.1) goal

-- the raised counter fits, because the new count does
pub raise_one :
    (servers : List ServerRow) (r : Ranking) (shards : List Shard) (k : ℕ) (stand : Stand) (counts0 counts1 : List ℕ)
    (x y x' y' : Option ℕ) (m : ℕ)
    → k < length shards → AreRanked servers r → HasCells counts0 (shard_at shards k).row.group r
    → AllNamed (IsKnown servers) (shard_at shards k).stand → AllNamed (IsKnown servers) stand
    → HasCounts servers shards counts0 r
    → AreCells servers r (shard_at shards k).row.group (shard_at shards k).stand x y
    → AreCells servers r (shard_at shards k).row.group stand x' y'
    → ((d : ℕ) → count_in servers (with_stand shards k stand) (shard_at shards k).row.group d < m)
    → ((i : ℕ) → i < length counts0 → slice_index counts1 i + amount_at x y 1 i ≡ slice_index counts0 i)
    → (i : ℕ) → is_hit x' y' i ≡ true → slice_index counts1 i + 1 < m
raise_one servers r shards k stand counts0 counts1 x y x' y' m inside ranked cells before after has at at' fits lowered
    i hit =
    let g = (shard_at shards k).row.group in
    let found = hit_in servers r g i stand x' y' at' ranked after hit in
    let d = found.0 in
    let here = cells.at d found.1.0 in
    let once : amount_at x' y' 1 i ≡ 1 = ap (λ (p : Bool). cond p 1 0) hit in
    let there : amount_at x' y' 1 (domain_cell r g d) ≡ amount_at x' y' 1 i = ap (amount_at x' y' 1) found.1.1 in
    let lost = gets_one servers r g g d (shard_at shards k).stand x y at ranked before found.1.0 in
    let gained = gets_one servers r g g d stand x' y' at' ranked after found.1.0 in
    let goal : slice_index counts1 (domain_cell r g d) + 1 < m =
    omega (
      arith,
      once,
      there,
      lost,
      gained,
      lowered (domain_cell r g d) here,
      fits d,
      has.at g d found.1.0 here,
      count_in-with_stand servers shards k g d stand inside,
    ) in
    rw (← found.1.1) goal

-- the counter of the server's domain counts the other shards there, and this shard if it names a server there
pub count_others : (servers : List ServerRow) (r : Ranking) (shards : List Shard) (k a : ℕ) (counts : List ℕ)
    → k < length shards → AreRanked servers r → HasCells counts (shard_at shards k).row.group r → IsKnown servers a
    → HasCounts servers shards counts r
    → count_in servers (remove shards k) (shard_at shards k).row.group (domain_of servers a)
    + cond (names_domain servers (shard_at shards k).stand (domain_of servers a)) 1 0
    ≡ slice_index counts (cell_of servers r (shard_at shards k).row.group a)
count_others servers r shards k a counts inside ranked cells known has =
    let g = (shard_at shards k).row.group in
    let d = domain_of servers a in
    let named = names_domain servers (shard_at shards k).stand d in
    let own : ◌≡◌ {A = ℕ} (cond (eqb g g && named) 1 0) (cond named 1 0) =
    ap (λ (p : Bool). cond (p && named) 1 0) (eq-eqb g g refl) in
    let hd = ranked.at a known in
    omega (arith, own, has.at g d hd (cells.at d hd), count_in-remove servers shards k g d inside)
