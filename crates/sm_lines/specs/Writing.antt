-- The state of a writer of pieces, as callers see it, and the bytes that it passes on.
use Rattle.std.specs.Prelude.{◌≡◌, ℕ, Bool, true, List, [], ◌++◌, take, Option}
use Rattle.std.specs.Io.KnownBytes.{Appends}

-- the bytes that the writer took, the bytes that wait to be written, and whether a call failed
pub record Writing : Type 0 where
  pub written : Option (List ℕ)
  pub waiting : List ℕ
  pub failed : Bool

-- these bytes were added to the waiting ones; the first part of all was written, and the rest waits
pub record Sends (was now : Writing) (bytes : List ℕ) : Type 0 where
  pub sent : List ℕ
  pub wrote : Appends was.written now.written sent
  pub split : was.waiting ++ bytes ≡ sent ++ now.waiting
  pub unfailed : now.failed ≡ was.failed

-- these bytes were written after the waiting ones, and nothing waits
abbrev pub Wrote : Writing → Writing → List ℕ → Type 0
Wrote was now bytes = Sends was now bytes × (now.waiting ≡ [])

-- a front of the bytes was written
pub record WroteFront (old new : Option (List ℕ)) (bytes : List ℕ) : Type 0 where
  pub count : ℕ
  pub wrote : Appends old new (take count bytes)

-- writing failed: only the first part of the waiting bytes and of these was written, and nothing waits
pub record WroteShort (was now : Writing) (bytes : List ℕ) : Type 0 where
  pub front : WroteFront was.written now.written (was.waiting ++ bytes)
  pub none_waits : now.waiting ≡ []
  pub failed : now.failed ≡ true
