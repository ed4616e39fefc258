-- How a draft finds the first server that a shard fits.
use Rattle.std.proofs.Common.{ℕ, ◌+◌, ◌*◌, ◌<◌, ◌≤◌, ◌≡◌, ◌∷◌, Bool, true, false, not, cond, eqb, ltb, List, length}
use Rattle.std.proofs.Common.{drop, drop-cons, suc, add-one, refl, ap, sym, ◌∙◌, arith, Option, Some, Result, Ok, Err}
use Rattle.std.proofs.Common.{◌&&◌, ◌||◌, ◌⊎◌, inl, inr, subst}
use Rattle.std.specs.Prelude.{is_ok, nat_lt, remove}
use Rattle.std.specs.Prelude.{slice_index, slice_index_or, map}
use Rattle.std.specs.List.Sorted.{IsStrictlyIncreasing}
use Rattle.std.proofs.lemmas.Bool.{le-leb, le-ltb, lt-leb, lt-ltb}
use Rattle.std.proofs.lemmas.Nat.{mul-add-lt}
use Rattle.std.proofs.Math.Dec.{leb, leb-suc-suc}
use Rattle.sm_ranges.specs.Stand.{names, passes}
use Rattle.sm_rows.specs.declared.server_row.ServerRow.{ServerRow}
use Rattle.sm_rows.specs.declared.group_row.GroupRow.{GroupRow}
use Rattle.sm_place.specs.declared.shard.Shard.{Shard}
use Rattle.sm_place.specs.declared.server_state.ServerState.TheVariants.{Up}
use Rattle.sm_place.specs.declared.place_fault.PlaceFault.{PlaceFault}
use Rattle.sm_place.specs.declared.place_fault.PlaceFault.TheVariants.{Leaving, NoCapacity, DomainLimit}
use Rattle.sm_place.specs.Books.{BooksView, IsKnown, no_group, no_server, row_at, shard_at, state_of, row_by_id}
use Rattle.sm_place.specs.Books.{domain_of}
use Rattle.sm_place.specs.Counters.{HasCells, HasCounts, HasLoads}
use Rattle.sm_place.specs.Ranks.{Ranking, AreRanked, domain_cell, rank_of}
use Rattle.sm_place.specs.Room.{HasRoom, count_in, fit, load_by, load_on, names_domain}
use Rattle.sm_place.specs.ServerState.{is_leaving}
use Rattle.sm_place.proofs.Leaving.{known_at}
use Rattle.sm_place.proofs.Placing.{place_of-row, split}
use Rattle.sm_place.proofs.Sharing.{load_on-remove}
use Rattle.sm_place.proofs.Counting.{count_others}
use Rattle.sm_place.specs.Plans.{first_fit, servers_but}

-- whether a server has capacity for a shard beside the others, from the load of all of them; if the shard is named
-- already, that load must be within the capacity
pub has_capacity : (most others own all load : ℕ) (n : Bool) → own ≡ cond n load 0 → others + own ≡ all
    → (n ≡ true → all ≤ most) → (leb (all + load) most || n) ≡ not (nat_lt most (others + load))
has_capacity most others own all load true e sum fits =
    let both : others + load ≤ most = omega (arith, e, sum, fits refl) in
    or-true (leb (all + load) most) ∙ sym (ap not (le-ltb most (others + load) both))
  where
    or-true : (b : Bool) → (b || true) ≡ true
    or-true true = refl
    or-true false = refl
has_capacity most others own all load false e sum fits =
    let same : all ≡ others = omega (arith, e, sum) in
    or-false (leb (all + load) most) ∙ ap (λ v. leb (v + load) most) same
    ∙ within (others + load) most (split most (others + load))
  where
    or-false : (b : Bool) → (b || false) ≡ b
    or-false true = refl
    or-false false = refl

    within : (m n : ℕ) → (n < m) ⊎ (m ≤ n) → leb m n ≡ not (ltb n m)
    within m n (inl p) = lt-leb m n p ∙ sym (ap not (lt-ltb n m p))
    within m n (inr p) = le-leb m n p ∙ sym (ap not (le-ltb n m p))

-- whether the server at a place has capacity for the shard, by its counter of loads
pub capacity-at : (servers : List ServerRow) (groups : List GroupRow) (shards : List Shard) (k i : ℕ) (loads : List ℕ)
    (row : ServerRow) (shard : Shard) (load : ℕ)
    → k < length shards → i < length servers → IsStrictlyIncreasing (map (λ row. row.id) servers)
    → HasLoads servers shards loads → HasRoom servers groups shards
    → row ≡ row_at servers i → shard ≡ shard_at shards k → load ≡ slice_index loads i
    → (leb (load + shard.row.load) row.capacity || names shard.stand row.id)
    ≡ not (nat_lt (row_at servers i).capacity
    (load_on (remove shards k) (row_at servers i).id + (shard_at shards k).row.load))
capacity-at servers groups shards k i loads row shard load inside place rise has room is there e =
    let a = (row_at servers i).id in
    let here = place_of-row servers i rise place in
    let known : IsKnown servers a = known_at servers i place in
    let all : load ≡ load_on shards a = e ∙ ap (slice_index loads) (sym here) ∙ has.at a known in
    let fits : load_on shards a ≤ (row_at servers i).capacity =
    rw here at (room.capacity a known) in
    rw (is, there, all)
    (has_capacity (row_at servers i).capacity (load_on (remove shards k) a) (load_by a (shard_at shards k))
    (load_on shards a) (shard_at shards k).row.load (names (shard_at shards k).stand a) refl
    (load_on-remove shards k a inside) (λ _. fits))

-- whether a shard fits the server of a row
pub fit-at : (books : BooksView) (k i : ℕ) → IsStrictlyIncreasing (map (λ row. row.id) books.servers)
    → i < length books.servers
    → is_ok (fit books k (row_at books.servers i).id)
    ≡ (not (nat_lt (row_at books.servers i).capacity
    (load_on (remove books.shards k) (row_at books.servers i).id + (shard_at books.shards k).row.load))
    && (not (is_leaving (slice_index_or books.states i Up))
    && not (nat_lt (slice_index_or books.groups (shard_at books.shards k).row.group no_group).limit
    (count_in books.servers (remove books.shards k) (shard_at books.shards k).row.group (row_at books.servers i).domain
    + 1))))
fit-at books k i rise place =
    let a = (row_at books.servers i).id in
    let row = (shard_at books.shards k).row in
    let limit = (slice_index_or books.groups row.group no_group).limit in
    let others = remove books.shards k in
    tests (is_leaving (state_of books a)) (nat_lt (row_by_id books.servers a).capacity (load_on others a + row.load))
    (nat_lt limit (count_in books.servers others row.group (domain_of books.servers a) + 1))
    ∙ ap (λ (j : ℕ). not (nat_lt (slice_index_or books.servers j no_server).capacity (load_on others a + row.load))
    && (not (is_leaving (slice_index_or books.states j Up))
    && not (nat_lt limit (count_in books.servers others row.group (slice_index_or books.servers j no_server).domain
    + 1)))) (place_of-row books.servers i rise place)
  where
    tests : (p q r : Bool)
        → is_ok {T = Unit {0}} {E = PlaceFault}
        (cond p (Err Leaving) (cond q (Err NoCapacity) (cond r (Err DomainLimit) (Ok tt))))
        ≡ (not q && (not p && not r))
    tests true true r = refl
    tests true false r = refl
    tests false true r = refl
    tests false false true = refl
    tests false false false = refl

-- a limit is exceeded by one more than the others, and also by the count of all
pub exceeds : (limit others own count : ℕ) (n : Bool) → own ≡ cond n 1 0 → others + own ≡ count
    → cond n (nat_lt limit count) (leb limit count) ≡ nat_lt limit (others + 1)
exceeds limit others own count true e sum =
    let same : count ≡ others + 1 = omega (arith, e, sum) in ap (nat_lt limit) same
exceeds limit others own count false e sum =
    let same : count ≡ others = omega (arith, e, sum) in
    ap (leb limit) same ∙ reached limit others
  where
    reached : (limit n : ℕ) → leb limit n ≡ nat_lt limit (n + 1)
    reached limit n = rw (add-one, leb-suc-suc) refl

-- if there are the counters of all groups, a group has its own
pub HasCells-all : (counts : List ℕ) (n g : ℕ) (r : Ranking) → length counts ≡ n * r.width → g < n
    → HasCells counts g r
HasCells-all counts n g r e h = record {
  at = λ d ranked. let inside = mul-add-lt g r.width (rank_of r d) n h ranked in omega (arith, e, inside);
}

-- the domain of a server at a place
domain-at : (servers : List ServerRow) (i : ℕ) → i < length servers
    → IsStrictlyIncreasing (map (λ row. row.id) servers)
    → domain_of servers (row_at servers i).id ≡ (row_at servers i).domain
domain-at servers i place rise =
    ap (λ (j : ℕ). (slice_index_or servers j no_server).domain) (place_of-row servers i rise place)

-- it has a rank
pub ranked-at : (servers : List ServerRow) (r : Ranking) (i : ℕ) → i < length servers
    → IsStrictlyIncreasing (map (λ row. row.id) servers) → AreRanked servers r
    → rank_of r (row_at servers i).domain < r.width
ranked-at servers r i place rise ranked =
    subst (λ (d : ℕ). rank_of r d < r.width) (domain-at servers i place rise)
    (ranked.at (row_at servers i).id (known_at servers i place))

-- whether the shard and the others in the domain of the server at a place exceed the limit, by the counter
pub exceeds-at : (servers : List ServerRow) (r : Ranking) (shards : List Shard) (k i limit cell count : ℕ)
    (counts : List ℕ) (n : Bool)
    → k < length shards → i < length servers → IsStrictlyIncreasing (map (λ row. row.id) servers)
    → AreRanked servers r → HasCells counts (shard_at shards k).row.group r → HasCounts servers shards counts r
    → cell ≡ domain_cell r (shard_at shards k).row.group (row_at servers i).domain → count ≡ slice_index counts cell
    → n ≡ names_domain servers (shard_at shards k).stand (row_at servers i).domain
    → cond n (nat_lt limit count) (leb limit count)
    ≡ nat_lt limit
    (count_in servers (remove shards k) (shard_at shards k).row.group (row_at servers i).domain + 1)
exceeds-at servers r shards k i limit cell count counts n inside place rise ranked cells has here holds named =
    let g = (shard_at shards k).row.group in
    let stand = (shard_at shards k).stand in
    let sum : count_in servers (remove shards k) g (row_at servers i).domain
    + cond (names_domain servers stand (row_at servers i).domain) 1 0
    ≡ slice_index counts (domain_cell r g (row_at servers i).domain) =
    subst (λ (d : ℕ). count_in servers (remove shards k) g d + cond (names_domain servers stand d) 1 0
    ≡ slice_index counts (domain_cell r g d)) (domain-at servers i place rise)
    (count_others servers r shards k (row_at servers i).id counts inside ranked cells (known_at servers i place) has) in
    exceeds limit _ (cond (names_domain servers (shard_at shards k).stand (row_at servers i).domain) 1 0) count n
    (sym (ap (λ (v : Bool). cond v 1 0) named))
    (sum ∙ sym (holds ∙ ap (slice_index counts) here))

-- the servers from a row on
servers-from : (from : Option ℕ) (rows : List ServerRow) (i : ℕ) → i < length rows
    → servers_but from (drop i rows)
    ≡ cond (not (passes (λ b. eqb b (row_at rows i).id) from))
    ((row_at rows i).id ∷ servers_but from (drop (i + 1) rows)) (servers_but from (drop (i + 1) rows))
servers-from from rows i h =
    let d : drop i rows ≡ row_at rows i ∷ drop (suc i) rows = drop-cons rows i no_server h in
    rw add-one (ap (servers_but from) d)

-- the first fit is the server of a row if it is one of the plan's and the shard fits it
pub first_fit-here : (books : BooksView) (k : ℕ) (from : Option ℕ) (rows : List ServerRow) (i : ℕ) (all : Option ℕ)
    → i < length rows → first_fit books k (servers_but from (drop i rows)) ≡ all
    → is_ok (fit books k (row_at rows i).id) ≡ true
    → not (passes (λ b. eqb b (row_at rows i).id) from) ≡ true
    → Some (row_at rows i).id ≡ all
first_fit-here books k from rows i all h inv fits other =
    let step : first_fit books k (servers_but from (drop i rows)) ≡ Some (row_at rows i).id =
    ap (first_fit books k) (servers-from from rows i h)
    ∙ ap (λ (v : Bool). first_fit books k (cond v ((row_at rows i).id ∷ servers_but from (drop (i + 1) rows))
    (servers_but from (drop (i + 1) rows)))) other
    ∙ ap (λ (v : Bool). cond v (Some (row_at rows i).id) (first_fit books k
    (servers_but from (drop (i + 1) rows)))) fits in
    sym step ∙ inv

-- the server of a row is passed over if it isn't one of the plan's, or the shard doesn't fit it
pub first_fit-past : (books : BooksView) (k : ℕ) (from : Option ℕ) (rows : List ServerRow) (i : ℕ) (all : Option ℕ)
    → i < length rows → first_fit books k (servers_but from (drop i rows)) ≡ all
    → (is_ok (fit books k (row_at rows i).id) && not (passes (λ b. eqb b (row_at rows i).id) from)) ≡ false
    → first_fit books k (servers_but from (drop (i + 1) rows)) ≡ all
first_fit-past books k from rows i all h inv fails =
    let rest = servers_but from (drop (i + 1) rows) in
    let a = (row_at rows i).id in
    sym (ap (first_fit books k) (servers-from from rows i h)
    ∙ step (is_ok (fit books k a)) refl (not (passes (λ b. eqb b a) from)) fails) ∙ inv
  where
    step : (f : Bool) → is_ok (fit books k (row_at rows i).id) ≡ f → (o : Bool) → (f && o) ≡ false
        → first_fit books k (cond o ((row_at rows i).id ∷ servers_but from (drop (i + 1) rows))
        (servers_but from (drop (i + 1) rows)))
        ≡ first_fit books k (servers_but from (drop (i + 1) rows))
    step f same false e = refl
    step true same true e = absurd (cc)
    step false same true e =
        ap (λ (v : Bool). cond v (Some (row_at rows i).id) (first_fit books k
        (servers_but from (drop (i + 1) rows)))) same

-- the results of the tests of a fit
pub no_capacity : (x fits leaves full : Bool) → x ≡ (fits && (not leaves && not full)) → fits ≡ false → false ≡ x
no_capacity x fits leaves full is lacks = sym (is ∙ ap (λ (v : Bool). v && (not leaves && not full)) lacks)

pub no_stay : (x fits leaves full : Bool) → x ≡ (fits && (not leaves && not full)) → fits ≡ true → leaves ≡ true
    → false ≡ x
no_stay x fits leaves full is has goes =
    sym (is ∙ ap (λ (v : Bool). v && (not leaves && not full)) has ∙ ap (λ (v : Bool). not v && not full) goes)

pub by_limit : (x fits leaves full : Bool) → x ≡ (fits && (not leaves && not full)) → fits ≡ true → leaves ≡ false
    → not full ≡ x
by_limit x fits leaves full is has stays =
    sym (is ∙ ap (λ (v : Bool). v && (not leaves && not full)) has ∙ ap (λ (v : Bool). not v && not full) stays)

-- an answer without a fault
pub ok-is : (r : Result (Unit {0}) PlaceFault) → is_ok r ≡ true → r ≡ Ok tt
ok-is (Ok tt) e = refl
ok-is (Err fault) e = absurd (cc)
