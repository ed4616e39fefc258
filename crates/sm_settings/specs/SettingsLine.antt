-- The result of a settings line: its values, or the first rule that it breaks.
use Rattle.std.specs.Prelude.{ℕ, ◌==◌, ◌||◌, List, [], ◌∷◌, ◌++◌, length, map, is_none, Bool, nat_le, if◌then◌else◌}
use Rattle.std.specs.Prelude.{Option, None, Some, Result, Ok, Err, codes}
use Rattle.std.specs.Str.{is_utf8}
use Rattle.serde_json.specs.Data.{Data}
use Rattle.serde_json.specs.Read.{read}
use Rattle.sm_ranges.specs.LayoutFault.{first_layout_fault}
use Rattle.sm_rows.specs.declared.domain_row.DomainRow.{DomainRow}
use Rattle.sm_rows.specs.declared.group_row.GroupRow.{GroupRow}
use Rattle.sm_rows.specs.declared.server_row.ServerRow.{ServerRow}
use Rattle.sm_rows.specs.declared.shard_row.ShardRow.{ShardRow}
use Rattle.sm_rows.specs.declared.limits.TheConstants.{MAX_DOMAIN_DOWN}
use Rattle.sm_rows.specs.Domains.{equal_domains}
use Rattle.sm_rows.specs.Rows.{is_within}
use Rattle.sm_settings.specs.declared.settings.Settings.{Settings}
use Rattle.sm_settings.specs.declared.settings.TheConstants.{MAX_SETTINGS, MAX_OPS, MAX_KEPT, MIN_CEILING, MAX_CEILING}
use Rattle.sm_settings.specs.declared.settings.TheConstants.{MAX_WORKERS}
use Rattle.sm_settings.specs.declared.settings_fault.SettingsFault.{SettingsFault}
use Rattle.sm_settings.specs.declared.settings_fault.SettingsFault.TheVariants.{TooLong, BadJson, BadVersion, BadShape}
use Rattle.sm_settings.specs.declared.settings_fault.SettingsFault.TheVariants.{BadLayout, BadServers, BadGroups}
use Rattle.sm_settings.specs.declared.settings_fault.SettingsFault.TheVariants.{BadShards, BadOps, BadKept, BadCeiling}
use Rattle.sm_settings.specs.declared.settings_fault.SettingsFault.TheVariants.{BadWorkers, BadDomains}
use Rattle.sm_settings.specs.Members.{number_at, string_of, items_at, is_whole, is_string, is_array_of, is_object_of}
use Rattle.sm_settings.specs.SettingsRows.{is_server_object, server_row_of, is_group_object, group_row_of}
use Rattle.sm_settings.specs.SettingsRows.{is_shard_object, shard_row_of, is_domain_object, domain_row_of}
use Rattle.sm_settings.specs.SettingsRows.{rule_of_servers, rule_of_groups, rule_of_shards, rule_of_domains}

-- whether the settings are of version 2, which has the member `domains`
abbrev pub has_domains : Data → Bool
has_domains d = number_at (codes "version") d == 2

-- whether the settings have a version that exists
unfoldable pub has_version : Data → Bool
has_version d = number_at (codes "version") d == 1 || has_domains d

-- the members of settings of both versions, each with the test of its type
abbrev pub settings_members : List (List ℕ × (Data → Bool))
settings_members =
    (codes "version", is_whole) ∷
    (codes "bounds", is_array_of is_string) ∷
    (codes "servers", is_array_of is_server_object) ∷
    (codes "groups", is_array_of is_group_object) ∷
    (codes "shards", is_array_of is_shard_object) ∷
    (codes "ops", is_whole) ∷
    (codes "kept", is_whole) ∷
    (codes "ceiling", is_whole) ∷
    (codes "workers", is_whole) ∷ []

-- exactly the members of settings of the version, each of its type
unfoldable pub is_settings_object : Data → Bool
is_settings_object d =
    if has_domains d then is_object_of ((codes "domains", is_array_of is_domain_object) ∷ settings_members) d
    else is_object_of settings_members d

-- the values of settings: the bounds of the layout, the rows, and the limits
pub record SettingsValues : Type 0 where
  pub bounds : List (List ℕ)
  pub servers : List ServerRow
  pub groups : List GroupRow
  pub shards : List ShardRow
  pub ops : ℕ
  pub kept : ℕ
  pub ceiling : ℕ
  pub workers : ℕ
  pub domains : List DomainRow

-- the rows of domains of an object, if these are the servers: in version 1 each domain has a row that lets all of its
-- servers be down
unfoldable pub domains_in : List ServerRow → Data → List DomainRow
domains_in servers d =
    if has_domains d then map domain_row_of (items_at (codes "domains") d) else equal_domains MAX_DOMAIN_DOWN servers

-- the values of an object
abbrev pub values_in : Data → SettingsValues
values_in d = record {
  bounds = map string_of (items_at (codes "bounds") d);
  servers = map server_row_of (items_at (codes "servers") d);
  groups = map group_row_of (items_at (codes "groups") d);
  shards = map shard_row_of (items_at (codes "shards") d);
  ops = number_at (codes "ops") d;
  kept = number_at (codes "kept") d;
  ceiling = number_at (codes "ceiling") d;
  workers = number_at (codes "workers") d;
  domains = domains_in (map server_row_of (items_at (codes "servers") d)) d;
}

-- the rules of settings except for that of domains, in the order of the checks, each with the fault of a line that
-- breaks it
abbrev pub base_rules : Data → SettingsValues → List (Bool × SettingsFault)
base_rules d v =
    (has_version d, BadVersion) ∷
    (is_settings_object d, BadShape) ∷
    (is_none (first_layout_fault v.bounds), BadLayout) ∷
    (rule_of_servers v.servers, BadServers) ∷
    (rule_of_groups v.groups, BadGroups) ∷
    (rule_of_shards (length v.bounds) (length v.groups) v.shards, BadShards) ∷
    (is_within 0 MAX_OPS v.ops, BadOps) ∷
    (is_within 1 MAX_KEPT v.kept, BadKept) ∷
    (is_within MIN_CEILING MAX_CEILING v.ceiling, BadCeiling) ∷
    (is_within 1 MAX_WORKERS v.workers, BadWorkers) ∷ []

-- all rules of settings, in the order of the checks
abbrev pub rules : Data → SettingsValues → List (Bool × SettingsFault)
rules d v = base_rules d v ++ (rule_of_domains v.servers v.domains, BadDomains) ∷ []

-- the value if all rules hold, and otherwise the fault of the first rule that doesn't
abbrev pub value_or_fault : {V F : Type 0} → List (Bool × F) → V → Result V F
value_or_fault [] v = Ok v
value_or_fault (r ∷ rs) v = if r.0 then value_or_fault rs v else Err r.1

-- the values with these rows of domains
abbrev pub with_domains : SettingsValues → List DomainRow → SettingsValues
with_domains v domains = record v { domains = domains }

-- the result of JSON data as settings, without domains
abbrev pub base_verdict : Data → Result SettingsValues SettingsFault
base_verdict d = value_or_fault (base_rules d (values_in d)) (with_domains (values_in d) [])

-- the result of JSON data as settings: its values, or the fault of the first rule that it breaks; if the line was no
-- JSON, there is no data
abbrev pub verdict_of : Option Data → Result SettingsValues SettingsFault
verdict_of None = Err BadJson
verdict_of (Some d) = value_or_fault (rules d (values_in d)) (values_in d)

-- the result of the bytes of a line as settings: their values, or their first fault
unfoldable pub settings_of : List ℕ → Result SettingsValues SettingsFault
settings_of line = if nat_le (length line) MAX_SETTINGS
    then (if is_utf8 line then verdict_of (read line) else Err BadJson) else Err TooLong

-- the values of settings
abbrev pub values_of : Settings → SettingsValues
values_of s = record {
  bounds = s.layout;
  servers = s.servers.items;
  groups = s.groups.items;
  shards = s.shards.items;
  ops = s.ops;
  kept = s.kept;
  ceiling = s.ceiling;
  workers = s.workers;
  domains = s.domains.items;
}
