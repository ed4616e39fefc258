-- The state of a reader of lines, as callers see it, and how reading a line changes it.
use Rattle.std.specs.Prelude.{◌≡◌, ℕ, ◌+◌, ◌*◌, ◌<◌, ◌≤◌, ◌⊎◌, List, [], ◌∷◌, ◌++◌, length, take, All, Bool, true}
use Rattle.std.specs.Prelude.{false, Option}
use Rattle.std.specs.Io.KnownBytes.{prepend_known, Consumes, IsAtEnd}
use Rattle.sm_lines.specs.Lines.{lines_of, with_feeds, IsPlain}
use Rattle.sm_lines.specs.declared.TheConstants.{PIECE}
use Rattle.sm_lines.specs.declared.line_reader.Next.{Next}
use Rattle.sm_lines.specs.declared.line_reader.Next.TheVariants.{Line, LongLine, End}
use Rattle.sm_lines.specs.declared.watch.TheConstants.{COUNT_LIMIT}

-- the bytes that are kept of the line that was read last, the bytes read beyond it and the bytes that the reader has
-- left; whether the end was seen, a call failed, or a call was made after the end; and how many calls were made
pub record Reading : Type 0 where
  pub line : List ℕ
  pub held : List ℕ
  pub left : Option (List ℕ)
  pub ended : Bool
  pub failed : Bool
  pub past_end : Bool
  pub calls : ℕ

-- the bytes of the lines to come: the held bytes, and then the bytes that the reader has left
abbrev pub to_come : Reading → Option (List ℕ)
to_come reading = prepend_known reading.held reading.left

-- at most a piece is held, and all held bytes came from the calls; once the end was seen, nothing is held or left
pub record IsOrderly (reading : Reading) : Type 0 where
  pub piece : length reading.held ≤ PIECE
  pub came : length reading.held ≤ PIECE * reading.calls
  pub end : reading.ended ≡ true → (reading.held ≡ []) × IsAtEnd reading.left

-- the reader wasn't called
abbrev pub IsUncalled : Reading → Reading → Type 0
IsUncalled was now = (now.left ≡ was.left) × (now.ended ≡ was.ended) × (now.calls ≡ was.calls)

-- the number of calls, by whether one was made
abbrev pub call_of : Bool → ℕ
call_of true = 1
call_of false = 0

-- these bytes were taken off: the reader's calls since gave `given`. Each call gives at least one byte and at most a
-- piece, but for a call that sees the end or fails; `last` says whether there was such a call. Once the end was seen
-- there are no calls
pub record Reads (was now : Reading) (taken : List ℕ) (last : Bool) : Type 0 where
  pub given : List ℕ
  pub lost : Consumes was.left now.left given
  pub split : was.held ++ given ≡ taken ++ now.held
  pub least : now.calls + call_of was.ended ≤ was.calls + length given + call_of last
  pub most : length given + PIECE * was.calls ≤ PIECE * now.calls
  pub at_end : was.ended ≡ true → IsUncalled was now
  pub not_past_end : now.past_end ≡ was.past_end
  pub before : IsOrderly was
  pub after : IsOrderly now

-- these lines were taken off, each with its line feed unless the end was seen
pub record TookLines (was now : Reading) (lines : List (List ℕ)) : Type 0 where
  pub taken : List ℕ
  pub reads : Reads was now taken now.ended
  pub are : lines_of taken ≡ lines
  pub plain : All IsPlain lines
  pub feeds : now.ended ≡ false → taken ≡ with_feeds lines

-- the line that reading took off: one within the limit, which is kept whole; a longer one, which is kept up to the
-- limit; or none, because there is no further line
abbrev pub TookNext : ℕ → Next → Reading → Reading → Type 0
TookNext limit Line was now = TookLines was now (now.line ∷ []) × (length now.line ≤ limit)
TookNext limit LongLine was now = (line : List ℕ) × TookLines was now (line ∷ []) × (limit < length line)
    × (now.line ≡ take limit line)
TookNext limit End was now = TookLines was now [] × (now.ended ≡ true)

-- a front of a line was taken off
abbrev pub TookPart : Reading → Reading → Bool → Type 0
TookPart was now last = (part : List ℕ) × IsPlain part × Reads was now part last

-- the reader failed in a line, or was called too often: nothing is held, and the end was not seen
pub record ReaderStopped (was now : Reading) : Type 0 where
  pub part : TookPart was now true
  pub unseen : was.ended ≡ false
  pub none_held : now.held ≡ []
  pub why : (now.failed ≡ true) ⊎ (COUNT_LIMIT ≤ now.calls)
