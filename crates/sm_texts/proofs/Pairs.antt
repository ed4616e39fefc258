-- A pair that was spelled is read again.
use Rattle.std.proofs.Common.{◌≡◌, ℕ, ◌^◌, ◌<◌, ◌≤◌, false, ltb, List, ◌∷◌, ◌++◌, length}
use Rattle.std.proofs.Common.{ℤ, pos, negsuc, Some, refl, ◌∙◌, append_assoc, arith}
use Rattle.std.specs.Prelude.{FitsSigned}
use Rattle.std.specs.Int.{Width, w64, byte_len, from_be_bytes, to_be_bytes, cast_unsigned}
use Rattle.std.proofs.lemmas.Bool.{le-ltb}
use Rattle.std.proofs.lemmas.List.{take_at, drop_at, length-append}
use Rattle.std.proofs.lemmas.Nat.{from_be_bytes-to_be_bytes_8}
use Rattle.std.proofs.lemmas.Int.{to_z-of_z}
use Rattle.sm_map.specs.KeyMap.{KeyPair, KeyValue, Text, Count, text_of}
use Rattle.sm_service.specs.declared.counter_text.TheConstants.{MAX_TEXT}
use Rattle.sm_texts.specs.Saves.{front_bytes, wide_number_in, pair_at, held_pair_bytes, pair_keyed, value_kind}
use Rattle.sm_texts.specs.Saves.{value_number}

abbrev pub FitsValue : KeyValue → Type 0
FitsValue (Text text) = length text ≤ MAX_TEXT
FitsValue (Count count) = FitsSigned w64 count

-- a pair as requests make it
pub record FitsPair (pair : KeyPair) : Type 0 where
  pub key : length pair.key ≤ 255
  pub value : FitsValue pair.value

number_wide : (w : Width) (n : ℕ) (rest : List ℕ) → length (to_be_bytes w n) ≡ byte_len w
    → from_be_bytes w (to_be_bytes w n) ≡ n → wide_number_in w (to_be_bytes w n ++ rest) ≡ Some (n, rest)
number_wide w n rest len again =
    let long : ltb (length (to_be_bytes w n ++ rest)) (byte_len w) ≡ false =
    le-ltb _ _ (omega (arith, length-append (to_be_bytes w n) rest, len)) in
    rw (
      long,
      take_at (to_be_bytes w n) rest (byte_len w) len,
      drop_at (to_be_bytes w n) rest (byte_len w) len,
      again,
    ) refl

number_again : (n : ℕ) (rest : List ℕ) → n < 2 ^ 64 → wide_number_in w64 (to_be_bytes w64 n ++ rest) ≡ Some (n, rest)
number_again n rest lt = number_wide w64 n rest refl (from_be_bytes-to_be_bytes_8 n lt)

keyed_again : (key rest : List ℕ) (value : KeyValue) → FitsValue value
    → pair_keyed (value_kind value) (value_number value) key (text_of (Some value) ++ rest)
    ≡ Some (record { key = key; value = value }, rest)
keyed_again key rest (Text text) fits =
    let long : ltb (length (text ++ rest)) (length text) ≡ false =
    le-ltb _ _ (omega (arith, length-append text rest)) in
    rw (long, take_at text rest (length text) refl, drop_at text rest (length text) refl) refl
keyed_again key rest (Count count) fits = rw (to_z-of_z w64 count fits) refl

unsigned_small : (count : ℤ) → FitsSigned w64 count → cast_unsigned w64 count < 2 ^ 64
unsigned_small (pos n) fits = omega (arith, fits.sfits)
unsigned_small (negsuc n) fits = omega (arith, fits.sfits)

number_small : (value : KeyValue) → FitsValue value → value_number value < 2 ^ 64
number_small (Text text) fits = omega (arith, fits)
number_small (Count count) fits = unsigned_small count fits

-- the pair, if both numbers are read again
parts_again : (kind a b : ℕ) (first second key text rest : List ℕ)
    → ((xs : List ℕ) → wide_number_in w64 (first ++ xs) ≡ Some (a, xs))
    → ((xs : List ℕ) → wide_number_in w64 (second ++ xs) ≡ Some (b, xs)) → length key ≡ a
    → pair_at (((kind ∷ (first ++ second)) ++ (key ++ text)) ++ rest) ≡ pair_keyed kind b key (text ++ rest)
parts_again kind a b first second key text rest one two long =
    let e : ((first ++ second) ++ (key ++ text)) ++ rest ≡ first ++ (second ++ (key ++ (text ++ rest))) =
    simp append_assoc in
    let room : ltb (length (key ++ (text ++ rest))) a ≡ false =
    le-ltb _ _ (omega (arith, length-append key (text ++ rest), long)) in
    rw (
      e,
      one (second ++ (key ++ (text ++ rest))),
      two (key ++ (text ++ rest)),
      room,
      take_at key (text ++ rest) a long,
      drop_at key (text ++ rest) a long,
    ) refl

pub pair_again : (pair : KeyPair) (rest : List ℕ) → FitsPair pair → pair_at (held_pair_bytes pair ++ rest)
    ≡ Some (pair, rest)
unfolding front_bytes
pair_again pair rest fits =
    parts_again (value_kind pair.value) (length pair.key) (value_number pair.value) (to_be_bytes w64 (length pair.key))
    (to_be_bytes w64 (value_number pair.value)) pair.key (text_of (Some pair.value)) rest
    (λ xs. number_again (length pair.key) xs (omega (arith, fits.key)))
    (λ xs. number_again (value_number pair.value) xs (number_small pair.value fits.value)) refl
    ∙ keyed_again pair.key rest pair.value fits.value
