-- Looking into JSON data: the values of an object's members, and tests of their types. If a member is missing or of
-- another type, it counts as 0 or as nothing. A line with such a member breaks the rule on shapes, which comes before
-- all rules on values.
use Rattle.std.specs.Prelude.{ℕ, suc, ◌&&◌, ◌==◌, List, [], ◌∷◌, length, Bool, false, if◌then◌else◌, Option, None, Some}
use Rattle.std.specs.Prelude.{is_some, unwrap_or, option_map, option_and_then}
use Rattle.std.specs.List.{list_all}
use Rattle.serde_json.specs.Data.{Data, Items, no_items, item, Members, no_members, member}
use Rattle.serde_json.specs.Find.{get, as_number, as_u64, as_array, as_object, as_str}

-- ---- values

-- the number, if it is written only in digits and is below 2^64
abbrev pub as_whole : Data → Option ℕ
as_whole d = option_and_then as_u64 (as_number d)

-- the number at a member
abbrev pub number_at : List ℕ → Data → ℕ
number_at name d = unwrap_or (option_and_then as_whole (get name d)) 0

-- the bytes of a string
abbrev pub string_of : Data → List ℕ
string_of d = unwrap_or (as_str d) []

-- the items as a list
abbrev pub list_of : Items → List Data
list_of no_items = []
list_of (item d ds) = d ∷ list_of ds

-- the items of an array
abbrev pub array_of : Data → Option (List Data)
array_of d = option_map list_of (as_array d)

-- the items of the array at a member
abbrev pub items_at : List ℕ → Data → List Data
items_at name d = unwrap_or (option_and_then array_of (get name d)) []

-- ---- types

-- the value exists and passes
abbrev pub holds_of : {T : Type 0} → (T → Bool) → Option T → Bool
holds_of test None = false
holds_of test (Some x) = test x

-- a number in digits only, below 2^64
abbrev pub is_whole : Data → Bool
is_whole d = is_some (as_whole d)

-- a string
abbrev pub is_string : Data → Bool
is_string d = is_some (as_str d)

-- an array whose items all pass
abbrev pub is_array_of : (Data → Bool) → Data → Bool
is_array_of test d = holds_of (list_all test) (array_of d)

-- how many members there are
abbrev pub member_count : Members → ℕ
member_count no_members = 0
member_count (member name d ms) = suc (member_count ms)

-- an object with this many members
abbrev pub has_size : ℕ → Data → Bool
has_size size d = holds_of (λ ms. member_count ms == size) (as_object d)

-- an object with exactly these members, each of which passes its test
abbrev pub is_object_of : List (List ℕ × (Data → Bool)) → Data → Bool
is_object_of members d = has_size (length members) d && list_all (λ m. holds_of m.1 (get m.0 d)) members

-- ---- tests

-- the value, if the test passes
abbrev pub when : {T : Type 0} → Bool → T → Option T
when holds x = if holds then Some x else None
