-- The effect of the rules on rows: if a number is out of its range, it breaks them, and rows that keep them are few.
use Rattle.std.proofs.Common.{◌≡◌, ℕ, ◌≤◌, ◌&&◌, ◌==◌, List, length, map, refl, ap, ◌∙◌, true, false, Bool, arith}
use Rattle.std.specs.List.{list_all}
use Rattle.std.proofs.lemmas.Bool.{and_parts}
use Rattle.std.proofs.lemmas.List.{length-map}
use Rattle.sm_rows.specs.Rows.{is_within, is_server_row, is_group_row, is_shard_row, are_rising, are_shards}
use Rattle.sm_rows.specs.Domains.{are_same, domains_of, is_domain_row}
use Rattle.sm_rows.specs.lemmas.Keeping.{AreServers-are_servers, AreGroups-are_groups, AreShards-are_shards}
use Rattle.sm_rows.specs.lemmas.Keeping.{AreDomains-are_domains, domains_of-few}
use Rattle.sm_rows.specs.declared.domain_row.DomainRow.{DomainRow}
use Rattle.sm_rows.specs.declared.group_row.GroupRow.{GroupRow}
use Rattle.sm_ranges.specs.declared.limits.TheConstants.{MAX_SERVER, MAX_SHARDS}
use Rattle.sm_rows.specs.declared.limits.TheConstants.{MAX_GROUPS}
use Rattle.sm_rows.specs.declared.server_row.ServerRow.{ServerRow}
use Rattle.sm_rows.specs.declared.shard_row.ShardRow.{ShardRow}
use Rattle.sm_settings.specs.SettingsRows.{rule_of_servers, rule_of_groups, rule_of_shards, rule_of_domains}

last_false : (a : Bool) → (a && false) ≡ false
last_false true = refl
last_false false = refl

middle_false : (a c : Bool) → ((a && false) && c) ≡ false
middle_false true c = refl
middle_false false c = refl

pub servers_refused : (rows : List ServerRow) → list_all is_server_row rows ≡ false → rule_of_servers rows ≡ false
unfolding rule_of_servers
servers_refused rows out = ap (λ b. is_within 1 MAX_SERVER (length rows) && b && are_rising rows) out
    ∙ middle_false (is_within 1 MAX_SERVER (length rows)) (are_rising rows)

pub groups_refused : (rows : List GroupRow) → list_all is_group_row rows ≡ false → rule_of_groups rows ≡ false
unfolding rule_of_groups
groups_refused rows out =
    ap (λ b. is_within 1 MAX_GROUPS (length rows) && b) out ∙ last_false (is_within 1 MAX_GROUPS (length rows))

pub shards_refused : (bounds groups : ℕ) (rows : List ShardRow) → list_all (is_shard_row groups) rows ≡ false
    → rule_of_shards bounds groups rows ≡ false
unfolding rule_of_shards
shards_refused bounds groups rows out =
    ap (λ b. length rows == bounds && (is_within 1 MAX_SHARDS (length rows) && b)) out
    ∙ ap (λ b. length rows == bounds && b) (last_false (is_within 1 MAX_SHARDS (length rows)))
    ∙ last_false (length rows == bounds)

pub servers_few : (rows : List ServerRow) → rule_of_servers rows ≡ true → length rows ≤ MAX_SHARDS
unfolding rule_of_servers
servers_few rows kept = let few = (AreServers-are_servers rows kept).few in omega (arith, few)

pub groups_few : (rows : List GroupRow) → rule_of_groups rows ≡ true → length rows ≤ MAX_SHARDS
unfolding rule_of_groups
groups_few rows kept = (AreGroups-are_groups rows kept).few

pub shards_few : (bounds groups : ℕ) (rows : List ShardRow) → rule_of_shards bounds groups rows ≡ true
    → length rows ≤ MAX_SHARDS
unfolding rule_of_shards
shards_few bounds groups rows kept =
    (AreShards-are_shards groups rows (and_parts (length rows == bounds) (are_shards groups rows) kept).1).few

pub domains_refused : (servers : List ServerRow) (rows : List DomainRow) → list_all is_domain_row rows ≡ false
    → rule_of_domains servers rows ≡ false
unfolding rule_of_domains
domains_refused servers rows out =
    ap (λ b. are_same (map (λ row. row.domain) rows) (domains_of servers) && b) out
    ∙ last_false (are_same (map (λ row. row.domain) rows) (domains_of servers))

pub domains_few : (servers : List ServerRow) (rows : List DomainRow) → rule_of_domains servers rows ≡ true
    → length rows ≤ MAX_SHARDS
unfolding rule_of_domains
domains_few servers rows kept =
    let same = ap length (AreDomains-are_domains servers rows kept).those_of_servers in
    let mapped = length-map rows (λ (row : DomainRow). row.domain) in
    omega (arith, same, mapped, domains_of-few servers)
