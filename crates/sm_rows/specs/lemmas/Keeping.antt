-- If rows pass the tests of their rules, they keep the rules.
use Rattle.std.proofs.Common.{◌≡◌, ◌≤◌, ◌<◌, ◌+◌, ◌-◌, ◌^◌, ◌&&◌, ℕ, zero, suc, List, [], ◌∷◌, length, map, subst, refl}
use Rattle.std.proofs.Common.{ap, ◌∙◌, eqb, Bool, true, get_or, arith, nat_le, nat_lt}
use Rattle.std.specs.Prelude.{All}
use Rattle.std.specs.List.{list_all, range_with_len}
use Rattle.std.specs.List.Sorted.{IsStrictlyIncreasing}
use Rattle.std.proofs.lemmas.Bool.{and_parts, eqb-true, leb-true, ltb-true}
use Rattle.std.proofs.lemmas.List.Elements.{All-nil, All-cons}
use Rattle.std.proofs.lemmas.List.FromFn.{length-range_with_len}
use Rattle.std.proofs.lemmas.List.Sums.{count_by-le-length, length-filter}
use Rattle.sm_ranges.specs.ServerId.{IsServer}
use Rattle.sm_ranges.specs.declared.limits.TheConstants.{MAX_SERVER, MAX_SHARDS}
use Rattle.sm_rows.specs.declared.limits.TheConstants.{MAX_DOMAIN, MAX_DOMAIN_DOWN, MAX_GROUPS, MAX_LIMIT, MAX_CAP}
use Rattle.sm_rows.specs.declared.server_row.ServerRow.{ServerRow}
use Rattle.sm_rows.specs.declared.group_row.GroupRow.{GroupRow}
use Rattle.sm_rows.specs.declared.shard_row.ShardRow.{ShardRow}
use Rattle.sm_rows.specs.declared.domain_row.DomainRow.{DomainRow}
use Rattle.sm_rows.specs.Domains.{are_domains, are_same, domains_from, domains_of, is_domain_row, is_used}
use Rattle.sm_rows.specs.Rows.{is_within, is_server_row, is_group_row, is_shard_row, are_rising, are_servers}
use Rattle.sm_rows.specs.Rows.{are_groups, are_shards}
use Rattle.sm_rows.specs.Kept.{AreServers, AreGroups, AreShards, AreDomains}

-- a number within a range is from its low to its high end
pub is_within-true : (low high n : ℕ) → is_within low high n ≡ true → (low ≤ n) × (n ≤ high)
is_within-true low high n e =
    let parts = and_parts (nat_le low n) (nat_le n high) e in (leb-true low n parts.0, leb-true n high parts.1)

-- if all elements pass a test, the fact behind the test holds for each
pub All-list_all : {X : Type 0} (P : X → Type 0) (test : X → Bool) → ((x : X) → test x ≡ true → P x) → (xs : List X)
    → list_all test xs ≡ true → All P xs
All-list_all P test tells [] e = All-nil P
All-list_all P test tells (x ∷ xs) e =
    let parts = and_parts (test x) (list_all test xs) e in
    All-cons P x xs (tells x parts.0) (All-list_all P test tells xs parts.1)

-- each of three tests, if all three hold
three : (p q r : Bool) → (p && q && r) ≡ true → (p ≡ true) × (q ≡ true) × (r ≡ true)
three p q r e = let last = and_parts (p && q) r e in let firsts = and_parts p q last.0 in (firsts.0, firsts.1, last.1)

-- if each number is below the next one, the numbers rise strictly
pub IsStrictlyIncreasing-are_rising : (rows : List ServerRow) → are_rising rows ≡ true
    → IsStrictlyIncreasing (map (λ row. row.id) rows)
IsStrictlyIncreasing-are_rising [] e k within = absurd (omega arith)
IsStrictlyIncreasing-are_rising (row ∷ []) e k within = absurd (omega arith)
IsStrictlyIncreasing-are_rising (row ∷ next ∷ rows) e zero within =
    ltb-true row.id next.id (and_parts (nat_lt row.id next.id) (are_rising (next ∷ rows)) e).0
IsStrictlyIncreasing-are_rising (row ∷ next ∷ rows) e (suc k) within =
    let rest = IsStrictlyIncreasing-are_rising (next ∷ rows)
    (and_parts (nat_lt row.id next.id) (are_rising (next ∷ rows)) e).1 k (omega arith) in
    let place : suc (k + 1) ≡ suc k + 1 = omega arith in
    let ids : List ServerRow → List ℕ = map (λ row. row.id) in
    subst (λ j. get_or (ids (next ∷ rows)) k 0 < get_or (ids (row ∷ next ∷ rows)) j 0) place rest

-- if servers pass, they keep their rules
pub AreServers-are_servers : (rows : List ServerRow) → are_servers rows ≡ true → AreServers rows
AreServers-are_servers rows e =
    let tests = three (is_within 1 MAX_SERVER (length rows)) (list_all is_server_row rows) (are_rising rows) e in
    let count = is_within-true 1 MAX_SERVER (length rows) tests.0 in
    record {
      some = count.0;
      few = count.1;
      ids = All-list_all (λ row. IsServer row.id) is_server_row
          (λ row t. is_within-true 1 MAX_SERVER row.id (parts row t).0) rows tests.1;
      ids_rise = IsStrictlyIncreasing-are_rising rows tests.2;
      domains = All-list_all (λ row. row.domain ≤ MAX_DOMAIN) is_server_row
          (λ row t. (is_within-true 0 MAX_DOMAIN row.domain (parts row t).1).1) rows tests.1;
      capacities = All-list_all (λ row. row.capacity < 2 ^ 32) is_server_row
          (λ row t. let most = is_within-true 0 4294967295 row.capacity (parts row t).2 in omega arith) rows tests.1;
    }
  where
    parts : (row : ServerRow) → is_server_row row ≡ true
        → (is_within 1 MAX_SERVER row.id ≡ true) × (is_within 0 MAX_DOMAIN row.domain ≡ true)
        × (is_within 0 4294967295 row.capacity ≡ true)
    parts row t = three (is_within 1 MAX_SERVER row.id) (is_within 0 MAX_DOMAIN row.domain)
        (is_within 0 4294967295 row.capacity) t

-- if groups pass, they keep their rules
pub AreGroups-are_groups : (rows : List GroupRow) → are_groups rows ≡ true → AreGroups rows
AreGroups-are_groups rows e =
    let tests = and_parts (is_within 1 MAX_GROUPS (length rows)) (list_all is_group_row rows) e in
    let count = is_within-true 1 MAX_GROUPS (length rows) tests.0 in
    record {
      some = count.0;
      few = count.1;
      limits = All-list_all (λ row. row.limit ≤ MAX_LIMIT) is_group_row
          (λ row t. (is_within-true 0 MAX_LIMIT row.limit (parts row t).0).1) rows tests.1;
      downs = All-list_all (λ row. row.down ≤ MAX_LIMIT) is_group_row
          (λ row t. (is_within-true 0 MAX_LIMIT row.down (parts row t).1).1) rows tests.1;
    }
  where
    parts : (row : GroupRow) → is_group_row row ≡ true
        → (is_within 0 MAX_LIMIT row.limit ≡ true) × (is_within 0 MAX_LIMIT row.down ≡ true)
    parts row t = and_parts (is_within 0 MAX_LIMIT row.limit) (is_within 0 MAX_LIMIT row.down) t

-- if shards pass, they keep their rules
pub AreShards-are_shards : (groups : ℕ) (rows : List ShardRow) → are_shards groups rows ≡ true → AreShards groups rows
AreShards-are_shards groups rows e =
    let tests = and_parts (is_within 1 MAX_SHARDS (length rows)) (list_all (is_shard_row groups) rows) e in
    let count = is_within-true 1 MAX_SHARDS (length rows) tests.0 in
    record {
      some = count.0;
      few = count.1;
      places_of_groups = All-list_all (λ row. row.group < groups) (is_shard_row groups)
          (λ row t. ltb-true row.group groups (parts row t).0) rows tests.1;
      loads = All-list_all (λ row. row.load < 2 ^ 32) (is_shard_row groups)
          (λ row t. let most = is_within-true 0 4294967295 row.load (parts row t).1 in omega arith) rows tests.1;
      caps = All-list_all (λ row. row.cap ≤ MAX_CAP) (is_shard_row groups)
          (λ row t. (is_within-true 0 MAX_CAP row.cap (parts row t).2).1) rows tests.1;
    }
  where
    parts : (row : ShardRow) → is_shard_row groups row ≡ true
        → (nat_lt row.group groups ≡ true) × (is_within 0 4294967295 row.load ≡ true)
        × (is_within 0 MAX_CAP row.cap ≡ true)
    parts row t = three (nat_lt row.group groups) (is_within 0 4294967295 row.load) (is_within 0 MAX_CAP row.cap) t

-- if numbers are equal one by one, the lists are equal
same-are_same : (xs ys : List ℕ) → are_same xs ys ≡ true → xs ≡ ys
same-are_same [] [] e = refl
same-are_same [] (y ∷ ys) e = absurd (cc)
same-are_same (x ∷ xs) [] e = absurd (cc)
same-are_same (x ∷ xs) (y ∷ ys) e =
    let parts = and_parts (eqb x y) (are_same xs ys) e in
    ap (λ n. n ∷ xs) (eqb-true x y parts.0) ∙ ap (λ ns. y ∷ ns) (same-are_same xs ys parts.1)

-- there are no more domains than numbers
pub domains_of-few : (servers : List ServerRow) → length (domains_of servers) ≤ MAX_DOMAIN + 1
unfolding domains_of
domains_of-few servers = below (MAX_DOMAIN + 1)
  where
    below : (n : ℕ) → length (domains_from 0 n servers) ≤ n
    below n =
        let numbers = range_with_len 0 (n - 0) in
        omega (
          arith,
          length-filter (is_used servers) numbers,
          count_by-le-length (is_used servers) numbers,
          length-range_with_len 0 (n - 0),
        )

-- if domains pass, they keep their rules
pub AreDomains-are_domains : (servers : List ServerRow) (rows : List DomainRow) → are_domains servers rows ≡ true
    → AreDomains servers rows
AreDomains-are_domains servers rows e =
    let tests =
    and_parts (are_same (map (λ row. row.domain) rows) (domains_of servers)) (list_all is_domain_row rows) e in
    record {
      those_of_servers = same-are_same (map (λ row. row.domain) rows) (domains_of servers) tests.0;
      domains = All-list_all (λ row. row.domain ≤ MAX_DOMAIN) is_domain_row
          (λ row t. (is_within-true 0 MAX_DOMAIN row.domain (parts row t).0).1) rows tests.1;
      downs = All-list_all (λ row. row.down ≤ MAX_DOMAIN_DOWN) is_domain_row
          (λ row t. (is_within-true 0 MAX_DOMAIN_DOWN row.down (parts row t).1).1) rows tests.1;
    }
  where
    parts : (row : DomainRow) → is_domain_row row ≡ true
        → (is_within 0 MAX_DOMAIN row.domain ≡ true) × (is_within 0 MAX_DOMAIN_DOWN row.down ≡ true)
    parts row t = and_parts (is_within 0 MAX_DOMAIN row.domain) (is_within 0 MAX_DOMAIN_DOWN row.down) t
