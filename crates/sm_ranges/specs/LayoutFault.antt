-- The faults of bounds that are no layout.
use Rattle.std.specs.Prelude.{ℕ, ◌+◌, nat_lt, not, List, [], ◌∷◌, length, map, drop, position, Option, Some, None}
use Rattle.std.specs.Prelude.{if◌then◌else◌}
use Rattle.std.specs.List.{zip}
use Rattle.std.specs.Option.{option_map, option_or}
use Rattle.std.specs.Borrow.{Bor}
use Rattle.sm_ranges.specs.KeyOrder.{is_below}
use Rattle.sm_ranges.specs.declared.limits.TheConstants.{MAX_KEY, MAX_SHARDS}
use Rattle.sm_ranges.specs.declared.layout.LayoutFault.{LayoutFault}
use Rattle.sm_ranges.specs.declared.layout.LayoutFault.TheVariants.{Empty, FirstNotEmpty, NotRising, KeyTooLong}
use Rattle.sm_ranges.specs.declared.layout.LayoutFault.TheVariants.{TooMany}

-- the bytes that the references point to
abbrev pub texts_of : List (Bor (List ℕ)) → List (List ℕ)
texts_of bounds = map (λ bound. bound.now) bounds

-- the first place whose bound isn't above the bound before it
abbrev pub first_not_rising : List (List ℕ) → Option ℕ
first_not_rising bounds =
    option_map (λ low. low + 1) (position (λ pair. not (is_below pair.0 pair.1)) (zip bounds (drop 1 bounds)))

-- the first place whose bound has more bytes than a key may have
abbrev pub first_too_long : List (List ℕ) → Option ℕ
first_too_long bounds = position (λ bound. nat_lt MAX_KEY (length bound)) bounds

-- the first fault that applies, in the order Empty, FirstNotEmpty, NotRising, KeyTooLong, TooMany; there is none if the
-- bounds are a layout
abbrev pub first_layout_fault : List (List ℕ) → Option LayoutFault
first_layout_fault [] = Some Empty
first_layout_fault ((byte ∷ bytes) ∷ bounds) = Some FirstNotEmpty
first_layout_fault ([] ∷ bounds) =
    option_or (option_map NotRising (first_not_rising ([] ∷ bounds)))
    (option_or (option_map KeyTooLong (first_too_long ([] ∷ bounds)))
    (if nat_lt MAX_SHARDS (length ([] ∷ bounds)) then Some TooMany else None))
