-- The words of records.
use Rattle.std.specs.Prelude.{ℕ, ◌≡◌}
use Rattle.sm_ownership.specs.declared.record.Record.{Record}
use Rattle.sm_word.specs.Word.{IsWellFormed, word_of}

-- the record is well formed, and this is its word
abbrev pub IsWordOf : Record → ℕ → Type 0
IsWordOf state word = IsWellFormed state × (word ≡ word_of state)
