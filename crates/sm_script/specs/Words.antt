-- The words of a line.
use Rattle.std.specs.Prelude.{ℕ, Bool, true, false, List, [], ◌∷◌, ◌==◌, Option, None, Some}
use Rattle.std.specs.List.{slice_split}

-- the words of a line, between single spaces: two spaces enclose an empty word
abbrev pub words_of : List ℕ → List (List ℕ)
words_of line = slice_split (λ byte. byte == 32) line

-- the words of the part of a line that is left, if there is one
abbrev pub words_left : Option (List ℕ) → List (List ℕ)
words_left None = []
words_left (Some line) = words_of line

-- whether there is no word
abbrev pub is_nil : List (List ℕ) → Bool
is_nil [] = true
is_nil (word ∷ words) = false
