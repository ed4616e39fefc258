-- How domains get their ranks.
use Rattle.std.proofs.Common.{ℕ, zero, suc, ◌+◌, ◌<◌, ◌≤◌, ◌≡◌, ◌≢◌, cond, eqb, true, false, List, length}
use Rattle.std.proofs.Common.{get_or, set, sym, refl, ap, ◌∙◌, inl, inr, ◌⊎◌, arith, subst}
use Rattle.std.specs.Prelude.{replicate}
use Rattle.std.proofs.lemmas.Bool.Decides.{eqb_tells}
use Rattle.std.proofs.lemmas.List.{get_or-set_same, get_or-set_other, length-set, length-replicate}
use Rattle.sm_rows.specs.declared.server_row.ServerRow.{ServerRow}
use Rattle.sm_place.specs.Books.{no_server, place_of}
use Rattle.sm_place.specs.Ranks.{Ranking, rank_of, with_rank, AreRanked}
use Rattle.sm_ranges.specs.declared.limits.TheConstants.{MAX_SERVER}
use Rattle.sm_place.specs.declared.ranks.TheConstants.{NO_RANK}

-- the ranks after this many rows
pub record IsRanked (servers : List ServerRow) (r : Ranking) (count : ℕ) : Type 0 where
  pub inside : count ≤ length servers
  pub len : length r.ranks ≡ NO_RANK
  pub few : r.width ≤ count
  pub at : (i : ℕ) → i < count → rank_of r (get_or servers i no_server).domain < r.width
  pub apart : (d e : ℕ) → rank_of r d < r.width → rank_of r e ≡ rank_of r d → e ≡ d
  pub or_none : (d : ℕ) → (rank_of r d < r.width) ⊎ (rank_of r d ≡ NO_RANK)

-- in a list that repeats one value, each place has it
get_or-same : (n d v : ℕ) → get_or (replicate n v) d v ≡ v
get_or-same zero d v = refl
get_or-same (suc n) zero v = refl
get_or-same (suc n) (suc d) v = get_or-same n d v

-- before the first row no domain has a rank
pub IsRanked-new : (servers : List ServerRow)
    → IsRanked servers (record { ranks = replicate NO_RANK NO_RANK; width = 0 }) 0
IsRanked-new servers = record {
  inside = omega arith;
  len = length-replicate NO_RANK NO_RANK;
  few = omega arith;
  at = λ i h. absurd (omega arith);
  apart = λ d e h same. absurd (omega arith);
  or_none = λ d. inr (get_or-same NO_RANK d NO_RANK);
}

-- the ranks after a domain that had none gets the next one
abbrev raised : Ranking → ℕ → Ranking
raised r d = record { ranks = set r.ranks d r.width; width = r.width + 1 }

IsRanked-raised : (servers : List ServerRow) (r : Ranking) (i d : ℕ) → i < length servers → i < NO_RANK → d < NO_RANK
    → d ≡ (get_or servers i no_server).domain → rank_of r d ≡ NO_RANK
    → IsRanked servers r i → IsRanked servers (raised r d) (i + 1)
IsRanked-raised servers r i d next few small is none ranked = record {
  inside = omega (arith, next);
  len = length-set r.ranks d r.width ∙ ranked.len;
  few = let h = ranked.few in omega arith;
  at = λ j h. below j h (eqb_tells (get_or servers j no_server).domain d) (eqb_tells j i);
  apart = λ x y h same. one x y h same (eqb_tells x d) (eqb_tells y d);
  or_none = λ x. either x (eqb_tells x d);
}
  where
    here : rank_of (raised r d) d ≡ r.width
    here = let wide : d < length r.ranks = omega (arith, ranked.len) in get_or-set_same r.ranks d r.width NO_RANK wide

    there : (x : ℕ) → x ≢ d → rank_of (raised r d) x ≡ rank_of r x
    there x ne = get_or-set_other r.ranks d x r.width NO_RANK ne

    below : (j : ℕ) → j < i + 1
        → ((eqb (get_or servers j no_server).domain d ≡ true) × ((get_or servers j no_server).domain ≡ d))
        ⊎ ((eqb (get_or servers j no_server).domain d ≡ false) × ((get_or servers j no_server).domain ≢ d))
        → ((eqb j i ≡ true) × (j ≡ i)) ⊎ ((eqb j i ≡ false) × (j ≢ i))
        → rank_of (raised r d) (get_or servers j no_server).domain < r.width + 1
    below j h (inl p) q = rw p.1 (omega (arith, here))
    below j h (inr p) (inl q) = absurd (p.1 (ap (λ v. (get_or servers v no_server).domain) q.1 ∙ sym is))
    below j h (inr p) (inr q) =
        omega (arith, there (get_or servers j no_server).domain p.1, ranked.at j (omega (arith, q.1)))

    smaller : (x : ℕ) → rank_of r x < r.width + 1 → rank_of r x < r.width
    smaller x h = elim (ranked.or_none x) [ inl q ↦ q | inr q ↦ absurd (omega (arith, q, ranked.few)) ]

    next_is_free : (x : ℕ) → rank_of r x ≡ r.width → ⊥
    next_is_free x e = elim (ranked.or_none x) [ inl q ↦ omega (arith, q, e) | inr q ↦ omega (arith, q, e, ranked.few) ]

    one : (x y : ℕ) → rank_of (raised r d) x < r.width + 1 → rank_of (raised r d) y ≡ rank_of (raised r d) x
        → ((eqb x d ≡ true) × (x ≡ d)) ⊎ ((eqb x d ≡ false) × (x ≢ d))
        → ((eqb y d ≡ true) × (y ≡ d)) ⊎ ((eqb y d ≡ false) × (y ≢ d)) → y ≡ x
    one x y h same (inl p) (inl q) = q.1 ∙ sym p.1
    one x y h same (inl p) (inr q) =
        let at_x : rank_of (raised r d) x ≡ r.width = ap (rank_of (raised r d)) p.1 ∙ here in
        absurd (next_is_free y (sym (there y q.1) ∙ same ∙ at_x))
    one x y h same (inr p) (inl q) =
        let at_y : rank_of (raised r d) y ≡ r.width = ap (rank_of (raised r d)) q.1 ∙ here in
        absurd (next_is_free x (sym (there x p.1) ∙ sym same ∙ at_y))
    one x y h same (inr p) (inr q) =
        ranked.apart x y (smaller x (omega (arith, there x p.1))) (sym (there y q.1) ∙ same ∙ there x p.1)

    either : (x : ℕ) → ((eqb x d ≡ true) × (x ≡ d)) ⊎ ((eqb x d ≡ false) × (x ≢ d))
        → (rank_of (raised r d) x < r.width + 1) ⊎ (rank_of (raised r d) x ≡ NO_RANK)
    either x (inl p) = inl (rw p.1 (omega (arith, here)))
    either x (inr p) = elim (ranked.or_none x) [
      | inl q ↦ inl (omega (arith, q, there x p.1))
      | inr q ↦ inr (there x p.1 ∙ q)
    ]

-- a domain that has a rank keeps it
IsRanked-kept : (servers : List ServerRow) (r : Ranking) (i d : ℕ) → i < length servers
    → d ≡ (get_or servers i no_server).domain → rank_of r d ≢ NO_RANK
    → IsRanked servers r i → IsRanked servers r (i + 1)
IsRanked-kept servers r i d next is some ranked = record {
  inside = omega (arith, next);
  len = ranked.len;
  few = let h = ranked.few in omega arith;
  at = λ j h. elim (eqb_tells j i) [
    | inl q ↦ rw (q.1, ← is) own
    | inr q ↦ ranked.at j (omega (arith, q.1))
  ];
  apart = ranked.apart;
  or_none = ranked.or_none;
}
  where
    own : rank_of r d < r.width
    own = elim (ranked.or_none d) [ inl q ↦ q | inr q ↦ absurd (some q) ]

-- after the next row its domain has a rank
pub IsRanked-next : (servers : List ServerRow) (r : Ranking) (i d : ℕ) → i < length servers
    → length servers ≤ MAX_SERVER → d < NO_RANK
    → d ≡ (get_or servers i no_server).domain
    → IsRanked servers r i → IsRanked servers (with_rank r d) (i + 1)
IsRanked-next servers r i d next few small is ranked =
    elim (eqb_tells (rank_of r d) NO_RANK) [
      | inl p ↦ subst (λ (s : Ranking). IsRanked servers s (i + 1)) (sym (ap (λ v. cond v (raised r d) r) p.0))
          (IsRanked-raised servers r i d next (omega (arith, next, few)) small is p.1 ranked)
      | inr p ↦ subst (λ (s : Ranking). IsRanked servers s (i + 1)) (sym (ap (λ v. cond v (raised r d) r) p.0))
          (IsRanked-kept servers r i d next is p.1 ranked)
    ]

-- after the last row all servers' domains have ranks
pub AreRanked-all : (servers : List ServerRow) (r : Ranking) (n : ℕ) → length servers ≤ n → length servers ≤ MAX_SERVER
    → IsRanked servers r n → AreRanked servers r
AreRanked-all servers r n e few ranked = record {
  few = omega (arith, few, ranked.few, ranked.inside);
  at = λ a known. ranked.at (place_of servers a) (omega (arith, e, known));
  apart = ranked.apart;
}
