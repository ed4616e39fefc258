-- Numbers of clients of a load.
use Rattle.std.specs.Prelude.{ℕ, ◌≤◌}
use Rattle.sm_script.specs.declared.shape.TheConstants.{MAX_CLIENTS}

-- this many clients may add to a count in a load
abbrev pub IsLoadClients : ℕ → Type 0
IsLoadClients count = (1 ≤ count) × (count ≤ MAX_CLIENTS)
