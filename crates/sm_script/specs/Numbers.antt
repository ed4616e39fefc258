-- Numbers in decimal, as a line spells them.
use Rattle.std.specs.Prelude.{ℕ, ◌^◌, ◌-◌, ℤ, pos, Bool, true, false, not, ◌&&◌, ◌==◌, nat_le, if◌then◌else◌, List, []}
use Rattle.std.specs.Prelude.{◌∷◌, Option, None, Some}
use Rattle.std.specs.Option.{option_map}
use Rattle.std.specs.Char.{is_ascii_digit}
use Rattle.std.specs.List.{list_all}
use Rattle.std.specs.Str.Parse.{digits_value}
use lib.IntN.{neg_ℤ}

-- the word has one digit, or it has more and the first isn't `0`
abbrev pub has_no_leading_zero : List ℕ → Bool
has_no_leading_zero [] = false
has_no_leading_zero (digit ∷ []) = true
has_no_leading_zero (digit ∷ next ∷ digits) = not (digit == 48)

-- `0`, or a digit 1 to 9 with digits after it
abbrev pub is_number : List ℕ → Bool
is_number word = has_no_leading_zero word && list_all is_ascii_digit word

-- the number that the digits stand for
abbrev pub number : List ℕ → ℕ
number word = digits_value 10 word

-- the number that the word spells, if the number lies between `least` and `most`
abbrev pub number_between : ℕ → ℕ → List ℕ → Option ℕ
number_between least most word =
    if is_number word && (nat_le least (number word) && nat_le (number word) most) then Some (number word) else None

-- the number of 64 bits that the word spells: a `-` may stand before one that isn't 0
abbrev pub increment_of : List ℕ → Option ℤ
increment_of [] = None
increment_of (byte ∷ word) =
    if byte == 45
    then option_map (λ n. neg_ℤ (pos n)) (number_between 1 (2 ^ 63) word)
    else option_map pos (number_between 0 (2 ^ 63 - 1) (byte ∷ word))
