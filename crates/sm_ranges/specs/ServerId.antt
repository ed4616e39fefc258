-- Numbers of servers.
use Rattle.std.specs.Prelude.{ℕ, ◌≤◌}
use Rattle.sm_ranges.specs.declared.limits.TheConstants.{MAX_SERVER}

-- the number names a server: 1 to 4,095, so that 0 can stand for no server
abbrev pub IsServer : ℕ → Type 0
IsServer number = (1 ≤ number) × (number ≤ MAX_SERVER)
