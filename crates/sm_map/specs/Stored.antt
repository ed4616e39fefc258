-- Spans in use: the bytes in an arena of a slot, an entry or a whole map, by how often each span is used.
use Rattle.std.specs.Prelude.{◌≡◌, ◌<◌, ◌≤◌, ◌+◌, ℕ, None, length}
use Rattle.sm_arena.specs.declared.span.Span.{Span}
use Rattle.sm_arena.specs.Pieces.{piece_of, IsPlaced, bytes_of}
use Rattle.sm_arena.specs.Value.{ArenaValue, times_forgotten}

-- each span in use is placed; if it holds a byte, it is used at most once, and is then not forgotten
pub record IsTidy (v : ArenaValue) (uses : Span → ℕ) : Type 0 where
  pub placed : (s : Span) → 0 < uses s + times_forgotten v s → IsPlaced v.placed s
  pub once : (s : Span) → 0 < length (bytes_of v.placed s) → uses s + times_forgotten v s ≤ 1

-- new is old with pieces placed for these uses; if a piece holds a byte, it has a span of its own
pub record IsStored (old : ArenaValue) (uses : Span → ℕ) (new : ArenaValue) : Type 0 where
  pub keeps : (s : Span) → IsPlaced old.placed s → piece_of new.placed s ≡ piece_of old.placed s
  pub forgotten : new.forgotten ≡ old.forgotten
  pub placed : (s : Span) → 0 < uses s → IsPlaced new.placed s
  pub fresh : (s : Span) → 0 < uses s → 0 < length (bytes_of new.placed s) → piece_of old.placed s ≡ None
  pub once : (s : Span) → 0 < length (bytes_of new.placed s) → uses s ≤ 1
