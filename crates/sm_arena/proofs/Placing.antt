-- Pieces by their spans: the bytes at a span, and the two sums after a piece is placed or forgotten.
use Rattle.std.proofs.Common.{◌≡◌, ℕ, suc, Bool, true, false, cond, ◌+◌, ◌-◌, eqb, ◌<◌, ◌≤◌, List, [], ◌∷◌, ◌++◌}
use Rattle.std.proofs.Common.{length, get_or, count_by, unwrap_or, Option, Some, None, IsSome, All, refl, sym, ap}
use Rattle.std.proofs.Common.{subst, ◌∙◌, arith, inl, inr, ◌⊎◌}
use mathlib.Core.Bool.{false≢true}
use Rattle.std.specs.List.{sum_by}
use Rattle.std.proofs.lemmas.Bool.{cases_lt}
use Rattle.std.proofs.lemmas.Bool.Decides.{nat_tests}
use Rattle.std.proofs.lemmas.List.Sums.{sum_by-cons, sum_by_push}
use Rattle.std.proofs.lemmas.List.Elements.{All-push}
use Rattle.sm_arena.specs.declared.span.Span.{Span}
use Rattle.sm_arena.specs.Pieces.{Places, same_span, piece_of, IsPlaced, bytes_of}
use Rattle.sm_arena.specs.Blocks.{bytes_at, total, IsWriting, IsWritingPair}
use Rattle.sm_arena.specs.Value.{ArenaValue, IsPlacing, IsPlacingPair, times_forgotten, dead_of, live_of, forgetting}
use Rattle.sm_arena.specs.Kept.{Lies, pieces_in, lying, times_placed, IsArena}
use Rattle.sm_arena.specs.lemmas.Pieces.{span_of_same, same_itself, placed_or_none, piece_behind, placed_stays}
use Rattle.sm_arena.specs.lemmas.Pieces.{same_sum}
use Rattle.sm_arena.proofs.Chunks.{is_nil}

flipped : (a b : Span) → same_span a b ≡ false → same_span b a ≡ false
flipped a b e = by (same_span b a) refl
  where
    by : (y : Bool) → same_span b a ≡ y → y ≡ false
    by true f =
        absurd (false≢true (sym e ∙ (ap (λ (s : Span). same_span s b) (sym (span_of_same b a f)) ∙ same_itself b)))
    by false f = refl

abbrev once : Bool → ℕ
once b = cond b 1 0

-- ---- the bytes at a span

found : (cs : List (List ℕ)) (e : Span × List ℕ) (es : Places) (s : Span) (y : Bool) → same_span e.0 s ≡ y → Lies cs e
    → (IsPlaced es s → (piece_of es s ≡ Some (bytes_at cs s)) × (length (bytes_at cs s) ≡ s.length))
    → IsSome (piece_behind y e es s)
    → (piece_behind y e es s ≡ Some (bytes_at cs s)) × (length (bytes_at cs s) ≡ s.length)
found cs e es s true same lies more is = subst (λ (t : Span). (Some e.1 ≡ Some (bytes_at cs t))
    × (length (bytes_at cs t) ≡ t.length)) (span_of_same e.0 s same) (ap Some (sym lies.0), ap length lies.0 ∙ lies.1)
found cs e es s false same lies more is = more is

-- a piece that was placed is at its span
pub lies_at : (cs : List (List ℕ)) (es : Places) (s : Span) → All (Lies cs) es → IsPlaced es s
    → (piece_of es s ≡ Some (bytes_at cs s)) × (length (bytes_at cs s) ≡ s.length)
lies_at cs [] s all is = absurd (false≢true is)
lies_at cs (e ∷ es) s all is = found cs e es s (same_span e.0 s) refl (all 0 e (omega arith))
    (lies_at cs es s (λ k d lt. all (suc k) d (omega (arith, lt)))) is

-- a new span reads the piece that is placed at it
new_reads : (es : Places) (s : Span) (piece : List ℕ) → piece_of es s ≡ None
    → piece_of (es ++ (s, piece) ∷ []) s ≡ Some piece
new_reads [] s piece none = rw (same_itself s) refl
new_reads (x ∷ es) s piece none = by (same_span x.0 s) none (new_reads es s piece)
  where
    by : (b : Bool) → piece_behind b x es s ≡ None
        → (piece_of es s ≡ None → piece_of (es ++ (s, piece) ∷ []) s ≡ Some piece)
        → piece_behind b x (es ++ (s, piece) ∷ []) s ≡ Some piece
    by true none again = cc
    by false none again = again none

-- a new span was never placed
never_placed : (es : Places) (s : Span) → piece_of es s ≡ None → times_placed es s ≡ 0
never_placed [] s none = refl
never_placed (x ∷ es) s none = by (same_span x.0 s) refl none (never_placed es s)
  where
    by : (b : Bool) → same_span x.0 s ≡ b → piece_behind b x es s ≡ None
        → (piece_of es s ≡ None → times_placed es s ≡ 0) → times_placed (x ∷ es) s ≡ 0
    by true e none again = cc
    by false e none again = let zero_here : once (same_span x.0 s) ≡ once false = ap once e in
        omega (arith, again none, zero_here, sum_by-cons (λ (e : Span × List ℕ). cond (same_span e.0 s) 1 0) x es)

-- ---- the lengths that are forgotten

cond_none : (b : Bool) (n : ℕ) → n ≤ 0 → cond b n 0 ≡ n
cond_none true n none = refl
cond_none false n none = omega (arith, none)

-- ---- placing: v and w are the arena before and after

module _ (cs more : List (List ℕ)) (here away : ℕ) (v w : ArenaValue) (held : IsArena cs here away v) (span : Span)
    (piece : List ℕ) (placed : w.placed ≡ v.placed ++ (span, piece) ∷ []) (forgotten : w.forgotten ≡ v.forgotten)
    (moves : (e : Span × List ℕ) → Lies cs e → Lies more e) (there : Lies more (span, piece))
    (fresh : 0 < length piece → piece_of v.placed span ≡ None) (room : total more ≡ total cs + length piece) where
  same_times : (s : Span) → times_forgotten w s ≡ times_forgotten v s
  same_times s = ap (λ (l : List Span). count_by (λ t. same_span t s) l) forgotten

  stays : (s : Span) → IsPlaced v.placed s → piece_of w.placed s ≡ piece_of v.placed s
  stays s is = ap (λ (es : Places). piece_of es s) placed ∙ placed_stays v.placed (span, piece) s is

  same_dead : dead_of w ≡ dead_of v
  same_dead = same_sum v.placed w.placed w.forgotten (λ s lt. stays s (held.placed s (omega (arith, lt, same_times s))))
      ∙ ap (λ (l : List Span). sum_by (λ s. length (bytes_of v.placed s)) l) forgotten

  -- a new span isn't forgotten
  not_forgotten : piece_of v.placed span ≡ None → times_forgotten v span ≡ 0
  not_forgotten none = by (cases_lt 0 (times_forgotten v span))
    where
      by : (0 < times_forgotten v span) ⊎ (times_forgotten v span ≤ 0) → times_forgotten v span ≡ 0
      by (inl lt) = absurd (false≢true (rw none at (held.placed span lt)))
      by (inr le) = omega (arith, le)

  counts : cond (eqb (times_forgotten v span) 0) (length piece) 0 ≡ length piece
  counts = by (cases_lt 0 (length piece))
    where
      by : (0 < length piece) ⊎ (length piece ≤ 0)
          → cond (eqb (times_forgotten v span) 0) (length piece) 0 ≡ length piece
      by (inl some) = rw (not_forgotten (fresh some)) refl
      by (inr none) = cond_none (eqb (times_forgotten v span) 0) (length piece) none

  live_now : live_of w ≡ live_of v + length piece
  live_now =
      let f = λ (e : Span × List ℕ). cond (eqb (times_forgotten v e.0) 0) (length e.1) 0 in
      let at : live_of w ≡ sum_by f (v.placed ++ (span, piece) ∷ []) = (λ i. sum_by (λ (e : Span × List ℕ). cond
      (eqb (count_by (λ t. same_span t e.0) (forgotten i)) 0) (length e.1) 0) (placed i)) in
      omega (arith, at, sum_by_push f v.placed (span, piece), counts)

  distinct : (s : Span) → 0 < s.length → times_placed w.placed s ≤ 1
  distinct s some =
      let more_once : times_placed w.placed s ≡ times_placed v.placed s + once (same_span span s) =
      ap (λ (es : Places). times_placed es s) placed
      ∙ sum_by_push (λ (e : Span × List ℕ). cond (same_span e.0 s) 1 0) v.placed (span, piece) in
      by (same_span span s) refl more_once
    where
      by : (b : Bool) → same_span span s ≡ b → times_placed w.placed s ≡ times_placed v.placed s + once b
          → times_placed w.placed s ≤ 1
      by false e more_once = omega (arith, more_once, held.distinct s some)
      by true e more_once =
          let same : span ≡ s = span_of_same span s e in
          let long : 0 < length piece = omega (arith, some, there.1, ap (λ (t : Span). t.length) same) in
          let none : times_placed v.placed s ≡ 0 =
          subst (λ (t : Span). times_placed v.placed t ≡ 0) same (never_placed v.placed span (fresh long)) in
          omega (arith, more_once, none)

  pub held_placed : IsArena more (here + length piece) away w
  held_placed = record {
    lies = subst (λ (es : Places). All (Lies more) es) (sym placed)
        (All-push (Lies more) v.placed (span, piece) (λ k d lt. moves (get_or v.placed k d) (held.lies k d lt)) there);
    distinct = distinct;
    placed = λ s lt. let is = held.placed s (omega (arith, lt, same_times s)) in rw (stays s is) is;
    live = omega (arith, held.live, live_now);
    dead = held.dead ∙ sym same_dead;
    bounded = omega (arith, held.bounded, room);
  }

  pub is_placing : IsPlacing v piece span w
  is_placing = record {
    placed = placed;
    forgotten = forgotten;
    reads = by (placed_or_none v.placed span) (cases_lt 0 (length piece));
    fresh = fresh;
  }
    where
      by : (piece_of v.placed span ≡ None) ⊎ IsPlaced v.placed span → (0 < length piece) ⊎ (length piece ≤ 0)
          → piece_of w.placed span ≡ Some piece
      by (inl none) size = ap (λ (es : Places). piece_of es span) placed ∙ new_reads v.placed span piece none
      by (inr is) (inl long) = absurd (false≢true (rw (fresh long) at is))
      by (inr is) (inr empty) =
          let lies = lies_at cs v.placed span held.lies is in
          let nothing : bytes_at cs span ≡ [] = is_nil (bytes_at cs span) (omega (arith, lies.1, there.1, empty)) in
          stays span is ∙ (lies.0
          ∙ (ap (λ (x : List ℕ). Some x) nothing ∙ ap (λ (x : List ℕ). Some x) (sym (is_nil piece empty))))

-- the pieces of these spans, once a further one is written
pieces_grow : (cs more : List (List ℕ)) (spans : List Span) (span : Span) (piece : List ℕ)
    → All (Lies cs) (pieces_in cs spans) → IsWriting cs piece span more
    → pieces_in more (spans ++ span ∷ []) ≡ pieces_in cs spans ++ (span, piece) ∷ []
pieces_grow cs more [] span piece lie written = ap (λ (l : List ℕ). (span, l) ∷ []) written.reads
pieces_grow cs more (s ∷ spans) span piece lie written =
    let full : length (bytes_at cs s) ≡ s.length = (lie 0 (s, []) (omega arith)).1 in
    let rest : pieces_in more (spans ++ span ∷ []) ≡ pieces_in cs spans ++ (span, piece) ∷ [] =
    pieces_grow cs more spans span piece (λ k d lt. lie (suc k) d (omega (arith, lt))) written in
    λ i. (s, written.keeps s full i) ∷ rest i

-- a piece that was written
module _ (cs more : List (List ℕ)) (sizes sizes' joined joined' : List ℕ) (here away : ℕ) (spans gone : List Span)
    (held : IsArena cs here away (lying cs sizes joined spans gone)) (span : Span) (piece : List ℕ)
    (written : IsWriting cs piece span more) where
  abbrev v : ArenaValue
  v = lying cs sizes joined spans gone

  abbrev w : ArenaValue
  w = lying more sizes' joined' (spans ++ span ∷ []) gone

  placed : w.placed ≡ v.placed ++ (span, piece) ∷ []
  placed = pieces_grow cs more spans span piece held.lies written

  moved : (e : Span × List ℕ) → Lies cs e → Lies more e
  moved e lies = (written.keeps e.0 (ap length lies.0 ∙ lies.1) ∙ lies.0, lies.1)

  is_new : 0 < length piece → piece_of v.placed span ≡ None
  is_new some = by (placed_or_none v.placed span)
    where
      by : (piece_of v.placed span ≡ None) ⊎ IsPlaced v.placed span → piece_of v.placed span ≡ None
      by (inl none) = none
      by (inr is) = absurd
          (omega (arith, some, written.whole, (lies_at cs v.placed span held.lies is).1, ap length written.fresh))

  pub held_written : IsArena more (here + length piece) away (lying more sizes' joined' (spans ++ span ∷ []) gone)
  held_written = held_placed cs more here away v w held span piece placed refl moved (
    written.reads,
    sym written.whole,
  ) is_new written.total

  pub is_placing_written :
      IsPlacing (lying cs sizes joined spans gone) piece span (lying more sizes' joined' (spans ++ span ∷ []) gone)
  is_placing_written = is_placing cs more here away v w held span piece placed refl moved (
    written.reads,
    sym written.whole,
  ) is_new written.total

-- two pieces that were written
module _ (cs more : List (List ℕ)) (sizes sizes' joined joined' : List ℕ) (here away : ℕ) (spans gone : List Span)
    (held : IsArena cs here away (lying cs sizes joined spans gone)) (s t : Span) (first second : List ℕ)
    (written : IsWritingPair cs first second (s, t) more) where
  held_between :
      IsArena written.middle (here + length first) away (lying written.middle sizes' joined' (spans ++ s ∷ []) gone)
  held_between =
      held_written cs written.middle sizes sizes' joined joined' here away spans gone held s first written.one

  pub held_pair :
      IsArena more (here + length first + length second) away
      (lying more sizes' joined' ((spans ++ s ∷ []) ++ t ∷ []) gone)
  held_pair = held_written written.middle more sizes' sizes' joined' joined' (here + length first) away
      (spans ++ s ∷ []) gone held_between t second written.other

  pub is_placing_pair : IsPlacingPair (lying cs sizes joined spans gone) first second (
    s,
    t,
  ) (lying more sizes' joined' ((spans ++ s ∷ []) ++ t ∷ []) gone)
  is_placing_pair = record {
    middle = lying written.middle sizes' joined' (spans ++ s ∷ []) gone;
    one = is_placing_written cs written.middle sizes sizes' joined joined' here away spans gone held s first
        written.one;
    other = is_placing_written written.middle more sizes' sizes' joined' joined' (here + length first) away
        (spans ++ s ∷ []) gone held_between t second written.other;
  }

-- ---- forgetting

-- a piece that is forgotten was live, with exactly its length
module _ (times more : Span → ℕ) (s : Span) (none : times s ≡ 0)
    (up : (t : Span) → more t ≡ times t + once (same_span s t)) where
  abbrev before : Span × List ℕ → ℕ
  before e = cond (eqb (times e.0) 0) (length e.1) 0

  abbrev after : Span × List ℕ → ℕ
  after e = cond (eqb (more e.0) 0) (length e.1) 0

  abbrev there : Span × List ℕ → ℕ
  there e = cond (same_span e.0 s) (length e.1) 0

  one : (x : Span × List ℕ) → after x + there x ≡ before x
  one x = by (same_span x.0 s) refl
    where
      by : (b : Bool) → same_span x.0 s ≡ b → after x + cond b (length x.1) 0 ≡ before x
      by true e =
          let same = span_of_same x.0 s e in
          let t : times x.0 ≡ 0 = ap times same ∙ none in
          let m : more x.0 ≡ 1 = ap more same ∙ (up s ∙ omega (arith, none, ap once (same_itself s))) in
          grind (arith, nat_tests, t, m)
      by false e =
          let other : same_span s x.0 ≡ false = flipped x.0 s e in
          let m : more x.0 ≡ times x.0 = omega (arith, up x.0, ap once other) in
          rw m (omega arith)

  live_less : (es : Places) → sum_by after es + sum_by there es ≡ sum_by before es
  live_less [] = refl
  live_less (x ∷ es) =
      omega (arith, sum_by-cons after x es, sum_by-cons before x es, sum_by-cons there x es, one x, live_less es)

-- the pieces at a span, if there is at most one
no_lengths : (es : Places) (s : Span) → times_placed es s ≡ 0
    → sum_by (λ (e : Span × List ℕ). cond (same_span e.0 s) (length e.1) 0) es ≡ 0
no_lengths [] s none = refl
no_lengths (x ∷ es) s none = by (same_span x.0 s) refl (no_lengths es s)
  where
    by : (b : Bool) → same_span x.0 s ≡ b
        → (times_placed es s ≡ 0 → sum_by (λ (e : Span × List ℕ). cond (same_span e.0 s) (length e.1) 0) es ≡ 0)
        → sum_by (λ (e : Span × List ℕ). cond (same_span e.0 s) (length e.1) 0) (x ∷ es) ≡ 0
    by true e again =
        absurd (omega (arith, none, sum_by-cons (λ (e : Span × List ℕ). cond (same_span e.0 s) 1 0) x es, ap once e))
    by false e again =
        let nothing : cond (same_span x.0 s) (length x.1) 0 ≡ 0 = ap (λ (b : Bool). cond b (length x.1) 0) e in
        omega (
          arith,
          nothing,
          sum_by-cons (λ (e : Span × List ℕ). cond (same_span e.0 s) (length e.1) 0) x es,
          again (omega (arith, none, sum_by-cons (λ (e : Span × List ℕ). cond (same_span e.0 s) 1 0) x es)),
        )

one_length : (es : Places) (s : Span) → IsPlaced es s → times_placed es s ≤ 1
    → sum_by (λ (e : Span × List ℕ). cond (same_span e.0 s) (length e.1) 0) es ≡ length (bytes_of es s)
one_length [] s is few = absurd (false≢true is)
one_length (x ∷ es) s is few = by (same_span x.0 s) refl is (one_length es s)
  where
    by : (b : Bool) → same_span x.0 s ≡ b → IsSome (piece_behind b x es s) → (IsPlaced es s → times_placed es s ≤ 1
        → sum_by (λ (e : Span × List ℕ). cond (same_span e.0 s) (length e.1) 0) es ≡ length (bytes_of es s))
        → sum_by (λ (e : Span × List ℕ). cond (same_span e.0 s) (length e.1) 0) (x ∷ es)
        ≡ length (unwrap_or (piece_behind b x es s) [])
    by true e is again =
        let whole : cond (same_span x.0 s) (length x.1) 0 ≡ length x.1 = ap (λ (b : Bool). cond b (length x.1) 0) e in
        let rest : times_placed es s ≡ 0 =
        omega (arith, few, sum_by-cons (λ (e : Span × List ℕ). cond (same_span e.0 s) 1 0) x es, ap once e) in
        omega (
          arith,
          whole,
          no_lengths es s rest,
          sum_by-cons (λ (e : Span × List ℕ). cond (same_span e.0 s) (length e.1) 0) x es,
        )
    by false e is again =
        let nothing : cond (same_span x.0 s) (length x.1) 0 ≡ 0 = ap (λ (b : Bool). cond b (length x.1) 0) e in
        let rest : times_placed es s ≤ 1 =
        omega (arith, few, sum_by-cons (λ (e : Span × List ℕ). cond (same_span e.0 s) 1 0) x es) in
        omega (
          arith,
          nothing,
          again is rest,
          sum_by-cons (λ (e : Span × List ℕ). cond (same_span e.0 s) (length e.1) 0) x es,
        )

module _ (cs : List (List ℕ)) (here away : ℕ) (v : ArenaValue) (held : IsArena cs here away v) (span : Span)
    (is : IsPlaced v.placed span) (kept : 0 < length (bytes_of v.placed span) → times_forgotten v span ≡ 0)
    (long : 0 < span.length) where
  pub size : length (bytes_of v.placed span) ≡ span.length
  size = ap (λ (o : Option (List ℕ)). length (unwrap_or o [])) (lies_at cs v.placed span held.lies is).0
      ∙ (lies_at cs v.placed span held.lies is).1

  none : times_forgotten v span ≡ 0
  none = kept (omega (arith, size, long))

  abbrev now : ArenaValue
  now = record { placed = v.placed; forgotten = v.forgotten ++ span ∷ []; sizes = v.sizes; joined = v.joined }

  times_now : (s : Span) → times_forgotten now s ≡ times_forgotten v s + once (same_span span s)
  times_now s = sum_by_push (λ t. cond (same_span t s) 1 0) v.forgotten span

  live_after : live_of now + span.length ≡ live_of v
  live_after = omega (
    arith,
    live_less (times_forgotten v) (times_forgotten now) span none times_now v.placed,
    one_length v.placed span is (held.distinct span long),
    size,
  )

  dead_after : dead_of now ≡ dead_of v + span.length
  dead_after = omega (arith, sum_by_push (λ s. length (bytes_of v.placed s)) v.forgotten span, size)

  pub was_live : span.length ≤ here
  was_live = omega (arith, held.live, live_after)

  pub held_forgotten : IsArena cs (here - span.length) (away + span.length) now
  held_forgotten = record {
    lies = held.lies;
    distinct = held.distinct;
    placed = λ s lt. there s lt (same_span span s) refl;
    live = omega (arith, held.live, live_after);
    dead = omega (arith, held.dead, dead_after);
    bounded = omega (arith, held.bounded, was_live);
  }
    where
      there : (s : Span) → 0 < times_forgotten now s → (b : Bool) → same_span span s ≡ b → IsPlaced v.placed s
      there s lt true e = subst (λ (t : Span). IsPlaced v.placed t) (span_of_same span s e) is
      there s lt false e = let nothing : once (same_span span s) ≡ once false = ap once e in
          held.placed s (omega (arith, lt, times_now s, nothing))

  pub forgets : now ≡ forgetting v span
  forgets =
      let some : eqb (length (bytes_of v.placed span)) 0 ≡ false = grind (arith, nat_tests, size, long) in
      rw some refl

-- an empty piece is never forgotten
pub forgets_nothing : (cs : List (List ℕ)) (here away : ℕ) (v : ArenaValue) → IsArena cs here away v → (span : Span)
    → IsPlaced v.placed span → span.length ≤ 0 → v ≡ forgetting v span
forgets_nothing cs here away v held span is none =
    let lies = lies_at cs v.placed span held.lies is in
    let size : length (bytes_of v.placed span) ≡ span.length =
    ap (λ (o : Option (List ℕ)). length (unwrap_or o [])) lies.0 ∙ lies.1 in
    let nothing : eqb (length (bytes_of v.placed span)) 0 ≡ true = grind (arith, nat_tests, size, none) in
    rw nothing refl
