-- An arena in contracts.
use Rattle.std.specs.Prelude.{◌≡◌, ◌<◌, ℕ, cond, ◌++◌, ◌∷◌, [], ◌==◌, List, Some, None, length, count_by}
use Rattle.std.specs.List.{sum_by}
use Rattle.sm_arena.specs.declared.span.Span.{Span}
use Rattle.sm_arena.specs.Pieces.{Places, same_span, piece_of, bytes_of}

-- the pieces with their spans, in the order of their placing, the spans that were forgotten, the sizes of the chunks
-- that the arena made, and the capacities of the pieces that joined
pub record ArenaValue : Type 0 where
  pub placed : Places
  pub forgotten : List Span
  pub sizes : List ℕ
  pub joined : List ℕ

-- new is old with the piece placed at the span; unless the piece is empty, the span is a new one
pub record IsPlacing (old : ArenaValue) (piece : List ℕ) (span : Span) (new : ArenaValue) : Type 0 where
  pub placed : new.placed ≡ old.placed ++ (span, piece) ∷ []
  pub forgotten : new.forgotten ≡ old.forgotten
  pub reads : piece_of new.placed span ≡ Some piece
  pub fresh : 0 < length piece → piece_of old.placed span ≡ None

-- new is old with both pieces placed, one after the other
pub record IsPlacingPair (old : ArenaValue) (first second : List ℕ) (spans : Span × Span)
    (new : ArenaValue) : Type 0 where
  pub middle : ArenaValue
  pub one : IsPlacing old first spans.0 middle
  pub other : IsPlacing middle second spans.1 new

-- how often the span is on the list of the forgotten ones
abbrev pub times_forgotten : ArenaValue → Span → ℕ
times_forgotten v s = count_by (λ t. same_span t s) v.forgotten

-- the arena after the span is forgotten; the span of an empty piece is never on the list
abbrev pub forgetting : ArenaValue → Span → ArenaValue
forgetting v s =
    cond (length (bytes_of v.placed s) == 0) v
    (record { placed = v.placed; forgotten = v.forgotten ++ s ∷ []; sizes = v.sizes; joined = v.joined })

-- the sum of the lengths of the pieces on the list
abbrev pub dead_of : ArenaValue → ℕ
dead_of v = sum_by (λ s. length (bytes_of v.placed s)) v.forgotten

-- the sum of the lengths of the pieces that aren't on the list
abbrev pub live_of : ArenaValue → ℕ
live_of v = sum_by (λ e. cond (times_forgotten v e.0 == 0) (length e.1) 0) v.placed
