-- The clauses of `Value`, in the words of Members.
use Rattle.std.proofs.Common.{◌≡◌, ◌==◌, nat_eq, ℕ, suc, List, [], ◌∷◌, length, map, refl, ap, ◌∙◌, sym, Option, Some}
use Rattle.std.proofs.Common.{None, option_map, String, Global, Bool, ◌&&◌}
use Rattle.serde_json.specs.Data.{Data, Members}
use Rattle.serde_json.specs.View.{view, items_view, members_view}
use Rattle.serde_json.specs.declared.value.Value.{Value}
use Rattle.std.specs.List.{list_all}
use Rattle.std.proofs.lemmas.List.Folds.{list_all-map}
use Rattle.std.specs.Prelude.{option_and_then}
use Rattle.std.proofs.lemmas.List.{length-map}
use Rattle.serde_json.specs.Find.{as_array, get}
use Rattle.sm_settings.specs.Members.{member_count, holds_of, list_of, array_of, has_size, is_array_of, is_object_of}
use Rattle.sm_settings.specs.Members.{is_whole}

member_count-members_view : (ms : List (String Global × Value)) → member_count (members_view ms) ≡ length ms
member_count-members_view [] = refl
member_count-members_view (m ∷ ms) = ap suc (member_count-members_view ms)

-- an object has as many members as its map
pub size_of_map : (ms : List (String Global × Value)) (n size : ℕ) (o : Option Members) → Some (members_view ms) ≡ o
    → n ≡ length ms → nat_eq n size ≡ holds_of (λ ms. member_count ms == size) o
size_of_map ms n size o found len =
    ap (λ k. nat_eq k size) (len ∙ sym (member_count-members_view ms))
    ∙ ap (holds_of (λ ms. member_count ms == size)) found

list_of-items_view : (vs : List Value) → list_of (items_view vs) ≡ map view vs
list_of-items_view [] = refl
list_of-items_view (v ∷ vs) = ap (λ ds. view v ∷ ds) (list_of-items_view vs)

-- the items of an array are those of its list
pub array_of_list : (items : List Value) (member : Data) (found : Option Data) → Some (items_view items)
    ≡ as_array member → Some member ≡ found → Some (map view items) ≡ option_and_then array_of found
array_of_list items member found is_array is_found =
    ap Some (sym (list_of-items_view items)) ∙ ap (option_map list_of) is_array ∙ ap (option_and_then array_of) is_found

-- an array's test goes by its items
pub holds_of_array : (test : Data → Bool) (o : Option Data)
    → holds_of (is_array_of test) o ≡ holds_of (list_all test) (option_and_then array_of o)
holds_of_array test None = refl
holds_of_array test (Some d) = refl

-- and so by the values that are seen as its items
pub all_viewed : (test : Data → Bool) (values : List Value) (o : Option Data)
    → Some (map view values) ≡ option_and_then array_of o
    → list_all (λ value. test (view value)) values ≡ holds_of (is_array_of test) o
all_viewed test values o items =
    sym (list_all-map test view values) ∙ ap (holds_of (list_all test)) items ∙ sym (holds_of_array test o)

-- an object's members are numbers if each of their names has one
pub named_numbers : {N : Type 0} (of : N → List ℕ) (names : List N) (d : Data) (sized each : Bool)
    → sized ≡ has_size (length names) d
    → each ≡ list_all (λ name. holds_of is_whole (get (of name) d)) names
    → (sized && each) ≡ is_object_of (map (λ name. (of name, is_whole)) names) d
named_numbers {N} of names d sized each is all =
    let member : N → List ℕ × (Data → Bool) = λ name. (of name, is_whole) in
    let holds : List ℕ × (Data → Bool) → Bool = λ m. holds_of m.1 (get m.0 d) in
    (λ i. is i && all i) ∙ sym (ap (λ n. has_size n d && list_all holds (map member names)) (length-map names member)
    ∙ ap (λ b. has_size (length names) d && b) (list_all-map holds member names))
