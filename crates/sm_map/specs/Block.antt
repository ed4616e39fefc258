-- A Block in contracts.
use Rattle.std.specs.Prelude.{ℕ, List}
use Rattle.sm_map.specs.declared.key_entry.KeyEntry.{KeyEntry}

-- the entries in order, and how many more fit without growing
pub record BlockValue : Type 0 where
  pub entries : List KeyEntry
  pub room : ℕ
