-- The order of keys. They are compared byte by byte, as unsigned numbers, and a proper prefix comes first.
use Rattle.std.specs.Prelude.{ℕ, Bool, List}
use Rattle.std.specs.declared.cmp.Ordering.{Ordering}
use Rattle.std.specs.Ordering.{nat_cmp, is_lt, is_le}
use Rattle.std.specs.Cmp.Lexicographic.{slice_cmp}

-- the order of two keys: byte by byte, a proper prefix first
abbrev pub key_cmp : List ℕ → List ℕ → Ordering
key_cmp = slice_cmp nat_cmp

-- the first key comes before the second
abbrev pub is_below : List ℕ → List ℕ → Bool
is_below first second = is_lt (key_cmp first second)

-- the first key comes before the second, or is the same
abbrev pub is_at_most : List ℕ → List ℕ → Bool
is_at_most first second = is_le (key_cmp first second)
