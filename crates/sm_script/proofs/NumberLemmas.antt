-- Numbers as a line spells them, and as std reads them.
use Rattle.std.proofs.Common.{◌≡◌, ℕ, List, [], ◌∷◌, Bool, true, false, length, ◌<◌, ◌^◌, arith, refl, Result, Ok, Err}
use Rattle.std.proofs.Common.{IsTrue, rules, ◌≢◌, zero, suc, sym, ap, ◌∙◌, slice_index_or, decimal}
use Rattle.std.specs.Char.{is_ascii_digit}
use Rattle.std.specs.List.{list_all}
use Rattle.std.proofs.lemmas.Result.{OkIff-at_ok, OkIff-at_err}
use Rattle.std.specs.Str.{IsUtf8}
use Rattle.std.specs.Str.Parse.{digits_value, ParsesUnsigned}
use Rattle.std.proofs.lemmas.Str.{IsUtf8-from_ascii}
use Rattle.std.proofs.lemmas.Str.Parse.{IsNumeralModel, numerals_by_value, parse_digits}
use Rattle.std.proofs.lemmas.Fmt.{IsAscii-from_digits, decimal-digits_value, decimal_digit, decimal_nonempty}
use Rattle.std.proofs.lemmas.Fmt.{first_decimal, digits_decimal, digits_value-decimal}
use Rattle.std.proofs.lemmas.Grind.{common_steps}
use Rattle.sm_script.specs.Numbers.{has_no_leading_zero, is_number, number}

-- the grammar's digits are those that std reads
numerals : IsNumeralModel (λ digits. list_all is_ascii_digit digits ≡ true) (digits_value 10)
numerals = numerals_by_value _ (search rules)

only_digits : (word : List ℕ) → is_number word ≡ true → list_all is_ascii_digit word ≡ true
only_digits word h = grind (arith, common_steps)

-- a number is text
pub IsUtf8-number : (word : List ℕ) → is_number word ≡ true → IsUtf8 word
IsUtf8-number word h = IsUtf8-from_ascii word (IsAscii-from_digits word (numerals.to word (only_digits word h)))

-- a number has a digit
length-number : (word : List ℕ) → is_number word ≡ true → 0 < length word
length-number [] h = cc
length-number (digit ∷ digits) h = grind (arith, common_steps)

-- a number of 64 bits is read
pub number-read : {E : Type 0} (word text : List ℕ) (r : Result ℕ E) (e : E) → text ≡ word → ParsesUnsigned 64 10 text r
    → r ≡ Err e → IsTrue (is_number word) × (number word < 2 ^ 64) → ⊥
number-read word text r e same parsed is fits =
    OkIff-at_err r ((0 < length word) × (number word < 2 ^ 64)) (number word) e
    (parse_digits numerals 64 word r (rw same at parsed) (only_digits word fits.0)) is (
      length-number word fits.0,
      fits.1,
    )

-- a number that begins with `0` has no more digits
length-zero : (word : List ℕ) → is_number word ≡ true → slice_index_or word 0 0 ≡ 48 → length word ≡ 1
length-zero [] h starts = cc
length-zero (digit ∷ []) h starts = refl
length-zero (digit ∷ next ∷ digits) h starts = grind (arith, common_steps)

-- `decimal` writes each number's value as that number
number-is_decimal : (word : List ℕ) → is_number word ≡ true → number word < 2 ^ 64 → word ≡ decimal (number word)
number-is_decimal word h small =
    sym (decimal-digits_value numerals word (only_digits word h) (length-number word h) (length-zero word h) small)

no_leading_zero : (word : List ℕ) → 0 < length word → 48 < slice_index_or word 0 0 → has_no_leading_zero word ≡ true
no_leading_zero [] some first = absurd (omega arith)
no_leading_zero (digit ∷ []) some first = refl
no_leading_zero (digit ∷ next ∷ digits) some first = grind (arith, common_steps)

has_no_leading_zero-decimal : (n : ℕ) → n < 2 ^ 64 → has_no_leading_zero (decimal n) ≡ true
has_no_leading_zero-decimal zero small = rw (decimal_digit 0 (omega arith)) refl
has_no_leading_zero-decimal (suc n) small =
    no_leading_zero (decimal (suc n)) (decimal_nonempty (suc n) small) (first_decimal (suc n) (omega arith) small)

is_number-decimal : (n : ℕ) → n < 2 ^ 64 → is_number (decimal n) ≡ true
is_number-decimal n small =
    let plain = has_no_leading_zero-decimal n small in
    let digits = digits_decimal numerals n small in
    rw (plain, digits) refl

-- `decimal` also writes the number that is read
pub read-is_decimal : {E : Type 0} (word text : List ℕ) (r : Result ℕ E) (n : ℕ) → is_number word ≡ true → text ≡ word
    → ParsesUnsigned 64 10 text r → r ≡ Ok n → word ≡ decimal n
read-is_decimal word text r n h same parsed is =
    let value = OkIff-at_ok r ((0 < length word) × (number word < 2 ^ 64)) (number word) n
    (parse_digits numerals 64 word r (rw same at parsed) (only_digits word h)) is in
    number-is_decimal word h value.0.1 ∙ ap decimal (sym value.1)

-- a word that isn't a number of 64 bits isn't one that `decimal` writes of such a number
pub not_decimal : (word : List ℕ) → (IsTrue (is_number word) × (number word < 2 ^ 64) → ⊥) → (n : ℕ) → n < 2 ^ 64
    → word ≢ decimal n
not_decimal word other n small is =
    let value : number (decimal n) ≡ n = digits_value-decimal numerals n small in
    let fits : number (decimal n) < 2 ^ 64 = rw value small in
    other (rw is (is_number-decimal n small, fits))

-- nor is a word that isn't a number
pub not_number : (word : List ℕ) (answer : Bool) → answer ≡ is_number word → answer ≡ false → (n : ℕ) → n < 2 ^ 64
    → word ≢ decimal n
not_number word answer is refused = not_decimal word (λ number. let yes = number.0 in cc)
