-- Spans in use after placing and forgetting.
use Rattle.std.proofs.Common.{◌≡◌, ℕ, ◌<◌, ◌≤◌, ◌+◌, Bool, true, false, cond, eqb, List, [], ◌∷◌, ◌++◌, length, Option}
use Rattle.std.proofs.Common.{Some, None, count_by, unwrap_or, refl, sym, ap, subst, ◌∙◌, arith, inl, inr, ◌⊎◌}
use mathlib.Core.Bool.{false≢true}
use Rattle.std.specs.List.{sum_by}
use Rattle.std.proofs.lemmas.Bool.{cases_lt, cond_both}
use Rattle.std.proofs.lemmas.Bool.Decides.{nat_tests}
use Rattle.std.proofs.lemmas.List.Sums.{sum_by_push}
use Rattle.sm_arena.specs.declared.span.Span.{Span}
use Rattle.sm_arena.specs.Pieces.{Places, same_span, piece_of, IsPlaced, bytes_of}
use Rattle.sm_arena.specs.Value.{ArenaValue, IsPlacing, times_forgotten, forgetting, dead_of}
use Rattle.sm_arena.specs.lemmas.Pieces.{span_of_same, same_itself, placed_or_none, placed_stays, same_sum}
use Rattle.sm_map.specs.KeyMap.{text_of}
use Rattle.sm_map.specs.Stored.{IsTidy, IsStored}
use Rattle.sm_map.specs.Slot.{held_in, uses_piece, uses_slot, IsForgettable, forgetting_slot}
use Rattle.sm_map.specs.declared.slot.Slot.{Slot}
use Rattle.sm_map.specs.declared.slot.Slot.TheVariants.{Text, Count}

-- a span that a piece uses is the piece's
used_is : (span s : Span) → 0 < uses_piece span s → span ≡ s
used_is span s lt = by (same_span span s) refl lt
  where
    by : (b : Bool) → same_span span s ≡ b → 0 < cond b 1 0 → span ≡ s
    by true e lt = span_of_same span s e
    by false e lt = absurd (omega arith)

pub uses_itself : (s : Span) → uses_piece s s ≡ 1
uses_itself s = rw (same_itself s) refl

piece_le : (span s : Span) → uses_piece span s ≤ 1
piece_le span s = by (same_span span s)
  where
    by : (b : Bool) → cond b 1 0 ≤ 1
    by true = omega arith
    by false = omega arith

-- a placed piece is stored for its span
pub piece_stored : (old : ArenaValue) (piece : List ℕ) (span : Span) (new : ArenaValue) → IsPlacing old piece span new
    → IsStored old (uses_piece span) new
piece_stored old piece span new p = record {
  keeps = λ s is. ap (λ (es : Places). piece_of es s) p.placed ∙ placed_stays old.placed (span, piece) s is;
  forgotten = p.forgotten;
  placed = λ s used. subst (λ (t : Span). IsPlaced new.placed t) (used_is span s used) (rw p.reads refl);
  fresh = λ s used long. subst (λ (t : Span). 0 < length (bytes_of new.placed t) → piece_of old.placed t ≡ None)
      (used_is span s used) (λ l. p.fresh (rw p.reads at l)) long;
  once = λ s long. piece_le span s;
}

-- a span reads the piece that was placed, and still does after more is stored
pub piece_reads : (old : ArenaValue) (piece : List ℕ) (span : Span) (middle : ArenaValue)
    → IsPlacing old piece span middle → (uses : Span → ℕ) (new : ArenaValue) → IsStored middle uses new
    → bytes_of new.placed span ≡ piece
piece_reads old piece span middle p uses new st =
    ap (λ (o : Option (List ℕ)). unwrap_or o []) (st.keeps span (rw p.reads refl) ∙ p.reads)

-- nothing is stored for a count
pub nothing_stored : (v : ArenaValue) → IsStored v (λ s. 0) v
nothing_stored v = record {
  keeps = λ s is. refl;
  forgotten = refl;
  placed = λ s used. absurd (omega arith);
  fresh = λ s used. absurd (omega arith);
  once = λ s long. omega arith;
}

-- one after the other
module _ (old middle new : ArenaValue) (one other : Span → ℕ) (first : IsStored old one middle)
    (second : IsStored middle other new) where
  still_there : (s : Span) → IsPlaced old.placed s → IsPlaced middle.placed s
  still_there s is = rw (first.keeps s is) is

  long_before : (s : Span) → IsPlaced middle.placed s → 0 < length (bytes_of new.placed s)
      → 0 < length (bytes_of middle.placed s)
  long_before s is long = subst (λ (o : Option (List ℕ)). 0 < length (unwrap_or o [])) (second.keeps s is) long

  new_to_second : (s : Span) → 0 < other s → 0 < length (bytes_of new.placed s) → IsPlaced middle.placed s → ⊥
  new_to_second s used long is = false≢true (rw (second.fresh s used long) at is)

  none_before : (s : Span) → 0 < one s + other s → 0 < length (bytes_of new.placed s) → piece_of old.placed s ≡ None
  none_before s used long = elim (cases_lt 0 (other s)) [
    | inl here ↦ by here (placed_or_none old.placed s)
    | inr none ↦ first.fresh s (omega arith) (long_before s (first.placed s (omega arith)) long)
  ]
    where
      by : 0 < other s → (piece_of old.placed s ≡ None) ⊎ IsPlaced old.placed s → piece_of old.placed s ≡ None
      by here (inl none) = none
      by here (inr is) = absurd (new_to_second s here long (still_there s is))

  once_in_all : (s : Span) → 0 < length (bytes_of new.placed s) → one s + other s ≤ 1
  once_in_all s long = elim (cases_lt 0 (one s)) [
    | inl here ↦ by here (cases_lt 0 (other s))
    | inr none ↦ omega (arith, second.once s long)
  ]
    where
      by : 0 < one s → (0 < other s) ⊎ (other s ≤ 0) → one s + other s ≤ 1
      by here (inl there) = absurd (new_to_second s there long (first.placed s here))
      by here (inr none) = omega (arith, first.once s (long_before s (first.placed s here) long))

  pub both_stored : IsStored old (λ s. one s + other s) new
  both_stored = record {
    keeps = λ s is. second.keeps s (still_there s is) ∙ first.keeps s is;
    forgotten = second.forgotten ∙ first.forgotten;
    placed = λ s used. elim (cases_lt 0 (other s)) [
      | inl here ↦ second.placed s here
      | inr none ↦ (let is = first.placed s (omega arith) in rw (second.keeps s is) is)
    ];
    fresh = none_before;
    once = once_in_all;
  }

module _ (old : ArenaValue) (uses : Span → ℕ) (new : ArenaValue) (st : IsStored old uses new) (used : Span → ℕ)
    (tidy : IsTidy old used) where
  same_times : (s : Span) → times_forgotten new s ≡ times_forgotten old s
  same_times s = ap (λ (l : List Span). count_by (λ t. same_span t s) l) st.forgotten

  still_placed : (s : Span) → IsPlaced old.placed s → IsPlaced new.placed s
  still_placed s is = rw (st.keeps s is) is

  pub tidy_stored : IsTidy new (λ s. used s + uses s)
  tidy_stored = record {
    placed = λ s lt. elim (cases_lt 0 (uses s)) [
      | inl here ↦ st.placed s here
      | inr none ↦ still_placed s (tidy.placed s (omega (arith, same_times s)))
    ];
    once = λ s long. elim (cases_lt 0 (used s + times_forgotten old s)) [
      | inr none ↦ omega (arith, same_times s, st.once s long)
      | inl before ↦ once_before s long before (cases_lt 0 (uses s))
    ];
  }
    where
      once_before : (s : Span) → 0 < length (bytes_of new.placed s) → 0 < used s + times_forgotten old s
          → (0 < uses s) ⊎ (uses s ≤ 0) → used s + uses s + times_forgotten new s ≤ 1
      once_before s long before (inl here) = absurd (false≢true (rw (st.fresh s here long) at (tidy.placed s before)))
      once_before s long before (inr none) =
          let kept = st.keeps s (tidy.placed s before) in
          let long_old : 0 < length (bytes_of old.placed s) =
          subst (λ (o : Option (List ℕ)). 0 < length (unwrap_or o [])) kept long in
          omega (arith, same_times s, tidy.once s long_old)

  -- spans in use read the same
  pub keeps_used : (s : Span) → 0 < used s → piece_of new.placed s ≡ piece_of old.placed s
  keeps_used s lt = st.keeps s (tidy.placed s (omega arith))

  pub dead_stored : dead_of new ≡ dead_of old
  dead_stored =
      same_sum old.placed new.placed new.forgotten (λ s lt. st.keeps s (tidy.placed s (omega (arith, same_times s))))
      ∙ ap (λ (l : List Span). sum_by (λ s. length (bytes_of old.placed s)) l) st.forgotten

-- the arena after a piece is forgotten
record Forgot (v : ArenaValue) (span : Span) (w : ArenaValue) : Type 0 where
  placed : w.placed ≡ v.placed
  times : (s : Span) → times_forgotten w s ≤ times_forgotten v s + uses_piece span s
  dead : dead_of w ≡ dead_of v + length (bytes_of v.placed span)

forgot : (v : ArenaValue) (span : Span) → Forgot v span (forgetting v span)
forgot v span = cond_both (eqb (length (bytes_of v.placed span)) 0) v
    (record { placed = v.placed; forgotten = v.forgotten ++ span ∷ []; sizes = v.sizes; joined = v.joined })
    (Forgot v span)
    (λ e. record {
      placed = refl;
      times = λ s. omega arith;
      dead = let none : length (bytes_of v.placed span) ≡ 0 = grind (arith, nat_tests) in omega (arith, none);
    })
    (λ e. record {
      placed = refl;
      times = λ s. omega (arith, sum_by_push (λ t. cond (same_span t s) 1 0) v.forgotten span);
      dead = sum_by_push (λ s. length (bytes_of v.placed s)) v.forgotten span;
    })

-- the arena after a slot's text is forgotten
pub record Forgets (v : ArenaValue) (slot : Slot) (w : ArenaValue) : Type 0 where
  pub placed : w.placed ≡ v.placed
  pub times : (s : Span) → times_forgotten w s ≤ times_forgotten v s + uses_slot slot s
  pub dead : dead_of w ≡ dead_of v + length (text_of (Some (held_in v.placed slot)))

pub forgets : (v : ArenaValue) (slot : Slot) → Forgets v slot (forgetting_slot v slot)
forgets v (Text span) = let f = forgot v span in record { placed = f.placed; times = f.times; dead = f.dead }
forgets v (Count count) = record { placed = refl; times = λ s. omega arith; dead = omega arith }

module _ (v : ArenaValue) (used rest : Span → ℕ) (slot : Slot) (parts : (s : Span) → rest s + uses_slot slot s ≡ used s)
    (tidy : IsTidy v used) where
  pub may_forget : IsForgettable v slot
  may_forget = record {
    placed = λ s lt. tidy.placed s (omega (arith, parts s));
    kept = λ s lt long. omega (arith, parts s, tidy.once s long);
  }

  pub tidy_forgot : IsTidy (forgetting_slot v slot) rest
  tidy_forgot =
      let f = forgets v slot in
      record {
        placed = λ s lt. subst (λ (es : Places). IsPlaced es s) (sym f.placed)
            (tidy.placed s (omega (arith, parts s, f.times s)));
        once = λ s long.
            let long_before : 0 < length (bytes_of v.placed s) =
            subst (λ (es : Places). 0 < length (bytes_of es s)) f.placed long in
            omega (arith, parts s, f.times s, tidy.once s long_before);
      }
