-- A request that only reads leaves the map as it is.
use Rattle.std.proofs.Common.{◌≡◌, ℕ, Bool, true, false, List, [], ◌∷◌, take, drop, length, refl, sym, subst}
use Rattle.std.specs.Prelude.{IsTrue, Some, None, nat_lt, ◌==◌, ◌||◌, if◌then◌else◌}
use Rattle.std.proofs.lemmas.Bool.{eqb-true}
use Rattle.sm_map.specs.KeyMap.{KeyPair}
use Rattle.sm_texts.specs.Texts.{is_read, request_by_parts, request_in, request_of_kind, texts_after}

parts_leave : (b : Bool) (pairs : List KeyPair) (kind : ℕ) (key rest : List ℕ) → (kind == 1) ≡ true
    → texts_after pairs (request_by_parts (if b then None else Some (kind, key, rest))) ≡ pairs
parts_leave true pairs kind key rest is = refl
parts_leave false pairs kind key rest is =
    subst (λ (k : ℕ). texts_after pairs (request_of_kind k key rest) ≡ pairs) (sym (eqb-true kind 1 is)) refl

pub reads_leave : (pairs : List KeyPair) (bytes : List ℕ) → IsTrue (is_read bytes)
    → texts_after pairs (request_in bytes) ≡ pairs
reads_leave pairs [] reads = refl
reads_leave pairs (kind ∷ []) reads = refl
reads_leave pairs (kind ∷ count ∷ rest) reads =
    parts_leave (count == 0 || (nat_lt 255 count || nat_lt (length rest) count)) pairs kind (take count rest)
    (drop count rest) reads
