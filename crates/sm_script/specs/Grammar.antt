-- The grammar of a script's lines: the shapes that the words after the first one must have.
use Rattle.std.specs.Prelude.{ℕ, Bool, true, false, ◌&&◌, ◌||◌, nat_le, if◌then◌else◌, List, [], ◌∷◌, length, Option}
use Rattle.std.specs.Prelude.{None, Some, is_some}
use Rattle.std.specs.Option.{option_or}
use Rattle.sm_ranges.specs.declared.limits.TheConstants.{MAX_KEY, MAX_SERVER, MAX_SHARD}
use Rattle.sm_script.specs.Words.{is_nil}
use Rattle.sm_script.specs.Numbers.{number_between, increment_of}
use Rattle.sm_script.specs.declared.fault.LineFault.{LineFault}
use Rattle.sm_script.specs.declared.fault.LineFault.TheVariants.{BadLine, BadNumber, BadKey}
use Rattle.sm_script.specs.declared.shape.TheConstants.{MAX_CLIENTS, MAX_EACH, MAX_PAIRS}
use Rattle.sm_script.specs.declared.shape.Shape.{Shape}
use Rattle.sm_script.specs.declared.shape.Shape.TheVariants.{Shard, Server, Key, Text, Increment, Limit, Clients, Each}

-- a word of this shape, as it is written
abbrev pub takes_word : Shape → List ℕ → Bool
takes_word Shard word = is_some (number_between 0 MAX_SHARD word)
takes_word Server word = is_some (number_between 1 MAX_SERVER word)
takes_word Key word = nat_le 1 (length word) && nat_le (length word) MAX_KEY
takes_word Text word = true
takes_word Increment word = is_some (increment_of word)
takes_word Limit word = is_some (number_between 0 MAX_PAIRS word)
takes_word Clients word = is_some (number_between 1 MAX_CLIENTS word)
takes_word Each word = is_some (number_between 1 MAX_EACH word)

-- the fault if a word isn't of its shape
abbrev pub refusal : Shape → LineFault
refusal Key = BadKey
refusal _ = BadNumber

-- the fault of one word
abbrev pub word_fault : Shape → List ℕ → Option LineFault
word_fault shape word = if takes_word shape word then None else Some (refusal shape)

-- the rest of the line is a text
abbrev pub is_text : Shape → Bool
is_text Text = true
is_text _ = false

-- there is a word for each shape, and there are no others; a text takes all words that are left, or none
abbrev pub takes_as_many : List Shape → List (List ℕ) → Bool
takes_as_many [] words = is_nil words
takes_as_many (shape ∷ shapes) [] = is_text shape
takes_as_many (shape ∷ shapes) (word ∷ words) = is_text shape || takes_as_many shapes words

-- the fault of the leftmost word that isn't of its shape
abbrev pub first_fault : List Shape → List (List ℕ) → Option LineFault
first_fault [] words = None
first_fault (shape ∷ shapes) [] = None
first_fault (shape ∷ shapes) (word ∷ words) = option_or (word_fault shape word) (first_fault shapes words)

-- if there are too few or too many words, that is the fault; otherwise the fault is in the leftmost word that isn't of
-- its shape
abbrev pub arguments_fault : List Shape → List (List ℕ) → Option LineFault
arguments_fault shapes words = if takes_as_many shapes words then first_fault shapes words else Some BadLine
