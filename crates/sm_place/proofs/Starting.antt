-- Rows that keep their rules make books.
use Rattle.std.proofs.Common.{ℕ, zero, suc, ◌*◌, ◌<◌, ◌≤◌, ◌^◌, ◌≡◌, Bool, true, false, cond, eqb, List}
use Rattle.std.proofs.Common.{[], ◌∷◌, length, get_or, map, sym, refl, ◌∙◌, arith, ◌&&◌, Option, Some, None}
use Rattle.std.specs.Prelude.{replicate}
use Rattle.std.proofs.lemmas.List.Elements.{All-get_or}
use Rattle.std.proofs.lemmas.List.Sums.{sum_by-cons}
use Rattle.std.proofs.lemmas.List.{length-replicate, get_or-replicate, length-map}
use Rattle.sm_rows.specs.declared.limits.TheConstants.{MAX_LIMIT}
use Rattle.sm_rows.specs.declared.server_row.ServerRow.{ServerRow}
use Rattle.sm_rows.specs.declared.group_row.GroupRow.{GroupRow}
use Rattle.sm_rows.specs.declared.shard_row.ShardRow.{ShardRow}
use Rattle.sm_rows.specs.declared.domain_row.DomainRow.{DomainRow}
use Rattle.sm_rows.specs.Rows.{are_servers, are_groups, are_shards}
use Rattle.sm_rows.specs.Domains.{are_domains}
use Rattle.sm_rows.specs.Kept.{AreServers, AreGroups, AreShards, AreDomains}
use Rattle.sm_rows.specs.lemmas.Keeping.{AreServers-are_servers, AreGroups-are_groups, AreShards-are_shards}
use Rattle.sm_rows.specs.lemmas.Keeping.{AreDomains-are_domains}
use Rattle.sm_place.specs.declared.server_state.ServerState.TheVariants.{Up}
use Rattle.sm_place.specs.declared.books_fault.BooksFault.{BooksFault}
use Rattle.sm_place.specs.declared.books_fault.BooksFault.TheVariants.{BadServers, BadGroups, BadShards, BadDomains}
use Rattle.sm_place.specs.Books.{no_server, no_group, no_shard, place_of, first_books_fault, vacant_shard, shard_at}
use Rattle.sm_place.specs.Room.{load_on, is_in, count_in}
use Rattle.sm_place.specs.Counters.{IsTallied}
use Rattle.sm_place.specs.Ranks.{Ranking, domain_cell, AreRanked}

-- rows without a fault keep their rules
pub record AreBooks (servers : List ServerRow) (groups : List GroupRow) (shards : List ShardRow)
    (domains : List DomainRow) : Type 0 where
  pub of_servers : AreServers servers
  pub of_groups : AreGroups groups
  pub of_shards : AreShards (length groups) shards
  pub of_domains : AreDomains servers domains

pub AreBooks-no_fault :
    (servers : List ServerRow) (groups : List GroupRow) (shards : List ShardRow) (domains : List DomainRow)
    → first_books_fault servers groups shards domains ≡ None → AreBooks servers groups shards domains
AreBooks-no_fault servers groups shards domains e =
    let t = four (are_servers servers) (are_groups groups) (are_shards (length groups) shards)
    (are_domains servers domains) e in
    record {
      of_servers = AreServers-are_servers servers t.0;
      of_groups = AreGroups-are_groups groups t.1;
      of_shards = AreShards-are_shards (length groups) shards t.2;
      of_domains = AreDomains-are_domains servers domains t.3;
    }
  where
    four : (p q r s : Bool)
        → ◌≡◌ {A = Option BooksFault}
        (cond p (cond q (cond r (cond s None (Some BadDomains)) (Some BadShards)) (Some BadGroups)) (Some BadServers))
        None
        → (p ≡ true) × (q ≡ true) × (r ≡ true) × (s ≡ true)
    four true true true true e = (refl, refl, refl, refl)
    four true true true false e = absurd (cc)
    four true true false s e = absurd (cc)
    four true false r s e = absurd (cc)
    four false q r s e = absurd (cc)

-- vacant shards load no server
load_on-vacant : (rows : List ShardRow) (a : ℕ) → load_on (map vacant_shard rows) a ≡ 0
load_on-vacant [] a = refl
load_on-vacant (row ∷ rows) a = load_on-vacant rows a

-- vacant shards are in no domain
count_in-vacant : (servers : List ServerRow) (rows : List ShardRow) (g d : ℕ)
    → count_in servers (map vacant_shard rows) g d ≡ 0
count_in-vacant servers [] g d = refl
count_in-vacant servers (row ∷ rows) g d =
    omega (
      arith,
      sum_by-cons (λ s. cond (is_in servers g d s) 1 0) (vacant_shard row) (map vacant_shard rows),
      nowhere (eqb row.group g),
      count_in-vacant servers rows g d,
    )
  where
    nowhere : (b : Bool) → ◌≡◌ {A = ℕ} (cond (b && false) 1 0) 0
    nowhere true = refl
    nowhere false = refl

-- there are as many vacant shards as rows
length-vacant : (rows : List ShardRow) → length (map vacant_shard rows) ≡ length rows
length-vacant rows = simp length-map

-- a vacant shard has its row and names nobody
shard_at-vacant : (rows : List ShardRow) (k : ℕ) → k < length rows
    → shard_at (map vacant_shard rows) k ≡ vacant_shard (get_or rows k no_shard.row)
shard_at-vacant [] k h = absurd (omega arith)
shard_at-vacant (row ∷ rows) zero h = refl
shard_at-vacant (row ∷ rows) (suc k) h = shard_at-vacant rows k (omega arith)

-- new counters agree with new books
pub IsTallied-new : (servers : List ServerRow) (groups : List GroupRow) (shards : List ShardRow)
    (domains : List DomainRow) (r : Ranking)
    → AreBooks servers groups shards domains → AreRanked servers r
    → IsTallied servers groups (map vacant_shard shards) (replicate (length servers) Up) (replicate (length servers) 0)
    (replicate (length groups * r.width) 0) r
IsTallied-new servers groups shards domains r ok ranked = record {
  has_ranges = record {
    numbers = ok.of_servers.ids;
    servers_rise = ok.of_servers.ids_rise;
    states_len = length-replicate (length servers) Up;
    domains = ranked;
    capacities = λ a known. All-get_or (λ row. row.capacity < 2 ^ 32) servers
        (place_of servers a) no_server known ok.of_servers.capacities;
    group_count = ok.of_groups.few;
    limits = λ g h. All-get_or (λ row. row.limit ≤ MAX_LIMIT) groups g no_group h ok.of_groups.limits;
  };
  has_rows = record {
    count = let few = ok.of_shards.few in let same = length-vacant shards in omega arith;
    group = λ k h.
        let inside : k < length shards = omega (arith, length-vacant shards) in
        rw (shard_at-vacant shards k inside)
        (All-get_or (λ row. row.group < length groups) shards k no_shard.row inside ok.of_shards.places_of_groups);
    known = λ k h.
        let inside : k < length shards = omega (arith, length-vacant shards) in
        rw (shard_at-vacant shards k inside) (tt, tt);
  };
  has_room = record {
    capacity = λ a known. omega (arith, load_on-vacant shards a);
    limit = λ g d h. omega (arith, count_in-vacant servers shards g d);
  };
  has_loads = record {
    len = length-replicate (length servers) 0;
    at = λ a known. get_or-replicate (length servers) (place_of servers a) 0 0 known ∙ sym (load_on-vacant shards a);
  };
  counts_len = length-replicate (length groups * r.width) 0;
  has_counts = record {
    at = λ g d hd hi.
        let inside : domain_cell r g d < length groups * r.width =
        rw (length-replicate {A = ℕ} (length groups * r.width) 0) at hi in
        get_or-replicate (length groups * r.width) (domain_cell r g d) 0 0 inside
        ∙ sym (count_in-vacant servers shards g d);
  };
}
