-- The rules that settings keep, as facts about their values.
use Rattle.std.specs.Prelude.{◌≡◌, ◌≤◌, ◌<◌, ◌^◌, length, true}
use Rattle.sm_ranges.specs.Ranges.{IsLayout}
use Rattle.sm_rows.specs.Domains.{are_domains}
use Rattle.sm_rows.specs.Rows.{are_groups, are_servers, are_shards}
use Rattle.sm_rows.specs.Kept.{AreServers, AreGroups, AreShards, AreDomains}
use Rattle.sm_settings.specs.declared.settings.TheConstants.{MAX_OPS, MAX_KEPT, MIN_CEILING, MAX_WORKERS}
use Rattle.sm_settings.specs.SettingsLine.{SettingsValues}

-- the tests of rows that settings pass
unfoldable pub PassTests : SettingsValues → Type 0
PassTests s =
    (are_servers s.servers ≡ true) × (are_groups s.groups ≡ true) × (are_shards (length s.groups) s.shards ≡ true)
    × (are_domains s.servers s.domains ≡ true)

-- the facts about the values of every settings line that is accepted
pub record KeepsRules (s : SettingsValues) : Type 0 where
  pub layout : IsLayout s.bounds
  pub servers : AreServers s.servers
  pub groups : AreGroups s.groups
  pub one_row_a_shard : length s.shards ≡ length s.bounds
  pub shards : AreShards (length s.groups) s.shards
  pub ops : s.ops ≤ MAX_OPS
  pub some_kept : 1 ≤ s.kept
  pub few_kept : s.kept ≤ MAX_KEPT
  pub ceiling_reaches : MIN_CEILING ≤ s.ceiling
  pub ceiling_fits : s.ceiling < 2 ^ 36
  pub some_workers : 1 ≤ s.workers
  pub few_workers : s.workers ≤ MAX_WORKERS
  pub domains : AreDomains s.servers s.domains
  pub tests : PassTests s
