-- Keys as lists of bytes.
use Rattle.std.specs.Prelude.{ℕ, ◌≤◌, List, length}
use Rattle.sm_ranges.specs.declared.limits.TheConstants.{MAX_KEY}

-- the bytes of a key: at least one, and at most 255
abbrev pub IsKey : List ℕ → Type 0
IsKey bytes = (1 ≤ length bytes) × (length bytes ≤ MAX_KEY)
