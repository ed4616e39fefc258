-- Pieces by their spans: a span is the same only as itself, and placed pieces stay.
use Rattle.std.proofs.Common.{◌≡◌, ℕ, Bool, true, false, cond, ◌<◌, List, [], ◌∷◌, ◌++◌, length, count_by, unwrap_or}
use Rattle.std.proofs.Common.{Option, Some, None, IsSome, refl, ap, arith, inl, inr, ◌⊎◌}
use mathlib.Core.Bool.{false≢true}
use Rattle.std.specs.List.{find, sum_by}
use Rattle.std.specs.Option.{option_map}
use Rattle.std.proofs.lemmas.List.Sums.{sum_by-cons}
use Rattle.sm_arena.specs.declared.span.Span.{Span}
use Rattle.sm_arena.specs.Pieces.{Places, same_span, piece_of, IsPlaced, bytes_of}

chunk_of_same : (a b : Span) → same_span a b ≡ true → a.chunk ≡ b.chunk
chunk_of_same a b e = grind (arith)

start_of_same : (a b : Span) → same_span a b ≡ true → a.start ≡ b.start
start_of_same a b e = grind (arith)

length_of_same : (a b : Span) → same_span a b ≡ true → a.length ≡ b.length
length_of_same a b e = grind (arith)

pub span_of_same : (a b : Span) → same_span a b ≡ true → a ≡ b
span_of_same a b e =
    λ i. record { chunk = chunk_of_same a b e i; start = start_of_same a b e i; length = length_of_same a b e i }

pub same_itself : (a : Span) → same_span a a ≡ true
same_itself a = grind (arith)

pub placed_or_none : (es : Places) (s : Span) → (piece_of es s ≡ None) ⊎ IsPlaced es s
placed_or_none es s = by (piece_of es s) refl
  where
    by : (o : Option (List ℕ)) → piece_of es s ≡ o → (piece_of es s ≡ None) ⊎ IsPlaced es s
    by None e = inl e
    by (Some x) e = inr (rw e refl)

-- the piece at a span, if the first place has it, or if it hasn't
abbrev pub piece_behind : Bool → Span × List ℕ → Places → Span → Option (List ℕ)
piece_behind here x es s = option_map (λ (place : Span × List ℕ). place.1)
    (cond here (Some x) (find (λ (place : Span × List ℕ). same_span place.0 s) es))

-- placed pieces stay
pub placed_stays : (es : Places) (e : Span × List ℕ) (s : Span) → IsPlaced es s
    → piece_of (es ++ e ∷ []) s ≡ piece_of es s
placed_stays [] e s is = absurd (false≢true is)
placed_stays (x ∷ es) e s is = by (same_span x.0 s) is (placed_stays es e s)
  where
    by : (b : Bool) → IsSome (piece_behind b x es s) → (IsPlaced es s → piece_of (es ++ e ∷ []) s ≡ piece_of es s)
        → piece_behind b x (es ++ e ∷ []) s ≡ piece_behind b x es s
    by true is again = refl
    by false is again = again is

-- if each span of the list reads the same, the sum of the lengths at these spans stays
pub same_sum : (old new : Places) (l : List Span)
    → ((s : Span) → 0 < count_by (λ t. same_span t s) l → piece_of new s ≡ piece_of old s)
    → sum_by (λ s. length (bytes_of new s)) l ≡ sum_by (λ s. length (bytes_of old s)) l
same_sum old new [] keeps = refl
same_sum old new (x ∷ l) keeps =
    let one : ◌≡◌ {A = ℕ} (cond (same_span x x) 1 0) 1 = rw (same_itself x) refl in
    let here : piece_of new x ≡ piece_of old x =
    keeps x (omega (arith, one, sum_by-cons (λ t. cond (same_span t x) 1 0) x l)) in
    let long : length (bytes_of new x) ≡ length (bytes_of old x) =
    ap (λ (o : Option (List ℕ)). length (unwrap_or o [])) here in
    let there : sum_by (λ s. length (bytes_of new s)) l ≡ sum_by (λ s. length (bytes_of old s)) l =
    same_sum old new l (λ s lt. keeps s (omega (arith, sum_by-cons (λ t. cond (same_span t s) 1 0) x l))) in
    omega (
      arith,
      long,
      there,
      sum_by-cons (λ s. length (bytes_of new s)) x l,
      sum_by-cons (λ s. length (bytes_of old s)) x l,
    )
