-- Pieces of bytes, by their spans.
use Rattle.std.specs.Prelude.{ℕ, Bool, ◌&&◌, ◌==◌, List, [], Option, IsSome, find, unwrap_or}
use Rattle.std.specs.Option.{option_map}
use Rattle.sm_arena.specs.declared.span.Span.{Span}

-- the spans are the same
abbrev pub same_span : Span → Span → Bool
same_span s t = (s.chunk == t.chunk) && ((s.start == t.start) && (s.length == t.length))

-- pieces with their spans, in the order of their placing
abbrev pub Places : Type 0
Places = List (Span × List ℕ)

-- the piece that was placed at a span
abbrev pub piece_of : Places → Span → Option (List ℕ)
piece_of places s = option_map (λ place. place.1) (find (λ place. same_span place.0 s) places)

-- a piece was placed at the span
abbrev pub IsPlaced : Places → Span → Type 0
IsPlaced places s = IsSome (piece_of places s)

-- the bytes of the piece at a span, or none
abbrev pub bytes_of : Places → Span → List ℕ
bytes_of places s = unwrap_or (piece_of places s) []
