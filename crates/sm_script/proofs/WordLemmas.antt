-- The words of a line, by the place of its first space.
use Rattle.std.proofs.Common.{◌≡◌, ℕ, suc, List, [], ◌∷◌, ◌++◌, All, length, ◌<◌, ◌+◌, ◌-◌, ◌==◌, false, arith, refl}
use Rattle.std.proofs.Common.{ap, ◌∙◌, sym, add-one, take, drop, drop-cons, slice_index_or, Option, Some}
use Rattle.std.specs.Borrow.{Bor}
use Rattle.std.specs.Option.{option_copied}
use Rattle.std.proofs.lemmas.List.{take-append-drop}
use Rattle.std.proofs.lemmas.List.Splits.{slice_split_at, slice_split_none, join_with_byte-slice_split}
use Rattle.std.proofs.lemmas.Grind.{common_steps}
use Rattle.std.specs.List.{join_with_byte}
use Rattle.sm_script.specs.Words.{words_of, words_left, is_nil}

-- the line's bytes round its space
around_space : (line : List ℕ) (n : ℕ) → n < length line → slice_index_or line n 0 ≡ 32
    → line ≡ take n line ++ 32 ∷ drop (n + 1) line
around_space line n h e =
    let tail : drop n line ≡ 32 ∷ drop (suc n) line = drop-cons line n 0 h ∙ ap (λ b. b ∷ drop (suc n) line) e in
    sym (take-append-drop n line) ∙ ap (λ r. take n line ++ r) tail
    ∙ ap (λ k. take n line ++ 32 ∷ drop k line) (sym (add-one n))

-- the first word ends at the first space, and the others follow it
pub words_of-at_space : (line : List ℕ) (n : ℕ) → n < length line → slice_index_or line n 0 ≡ 32
    → All (λ byte. (byte == 32) ≡ false) (take n line)
    → words_of line ≡ take n line ∷ words_of (take (length line - (n + 1)) (drop (n + 1) line))
words_of-at_space line n h e plain =
    let all : take (length line - (n + 1)) (drop (n + 1) line) ≡ drop (n + 1) line = grind (arith, common_steps) in
    ap words_of (around_space line n h e)
    ∙ slice_split_at (λ byte. byte == 32) (take n line) 32 (drop (n + 1) line) plain refl
    ∙ ap (λ rest. take n line ∷ words_of rest) (sym all)

-- a line with no space is one word
pub words_of-no_space : (line : List ℕ) → All (λ byte. (byte == 32) ≡ false) line → words_of line ≡ line ∷ []
words_of-no_space line plain = slice_split_none (λ byte. byte == 32) line plain

-- a line has a word
pub is_nil-words_of : (line : List ℕ) → is_nil (words_of line) ≡ false
is_nil-words_of [] = refl
is_nil-words_of (byte ∷ line) = grind (arith, common_steps)

-- the words of a line, joined by spaces, are the line
pub text_of-words_of : (line : List ℕ) → join_with_byte 32 (words_of line) ≡ line
text_of-words_of line = join_with_byte-slice_split 32 line

-- the words that are left are the words of the part of the line that is left
pub words_left-some : (words : List (List ℕ)) (rest : Option (Bor (List ℕ))) (line : Bor (List ℕ))
    → words_left (option_copied rest) ≡ words → rest ≡ Some line → words ≡ words_of line.now
words_left-some words rest line view is = sym view ∙ ap (λ r. words_left (option_copied r)) is
