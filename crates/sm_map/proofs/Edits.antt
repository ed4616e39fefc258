-- The map after each change of its entries.
use Rattle.std.proofs.Common.{◌≡◌, ℕ, ◌<◌, ◌+◌, List, ◌++◌, length, get_or, set, Some, refl, sym, ap, subst, ◌∙◌, arith}
use Rattle.std.specs.List.{HoldsAt, insert, remove}
use Rattle.std.proofs.lemmas.List.{map-set}
use Rattle.std.proofs.lemmas.List.Sums.{sum_by-set, sum_by-insert, sum_by-remove}
use Rattle.sm_arena.specs.declared.span.Span.{Span}
use Rattle.sm_arena.specs.Pieces.{Places, piece_of, bytes_of}
use Rattle.sm_arena.specs.Value.{ArenaValue, forgetting}
use Rattle.sm_ranges.specs.Keyed.{IsKeyGap}
use Rattle.sm_map.specs.KeyMap.{KeyValue, KeyPair, key_of, text_of, size_of}
use Rattle.sm_map.specs.KeyMap.{Text as HeldText}
use Rattle.sm_map.specs.ArenaMap.{MapValue, IsRewrite, IsRemoval, IsAddition}
use Rattle.sm_map.specs.Stored.{IsTidy, IsStored}
use Rattle.sm_map.specs.Slot.{held_in, uses_slot, IsForgettable, forgetting_slot}
use Rattle.sm_map.specs.KeyEntry.{pair_of, pairs_of, uses_entry, uses_all}
use Rattle.sm_map.specs.Kept.{IsMap, map_of}
use Rattle.sm_map.specs.declared.slot.Slot.{Slot}
use Rattle.sm_map.specs.declared.slot.Slot.TheVariants.{Text}
use Rattle.sm_map.specs.declared.key_entry.KeyEntry.{KeyEntry}
use Rattle.sm_map.proofs.KeyMaps.{set_in_order, remove_in_order, insert_here, holding_in_order}
use Rattle.sm_map.proofs.Spans.{tidy_stored, keeps_used, dead_stored, may_forget, tidy_forgot, forgets}
use Rattle.sm_map.proofs.Entries.{same_held, same_key_bytes, same_pairs, pairs-insert, pairs-remove, length-pairs}
use Rattle.sm_map.proofs.Entries.{pair_there, used_there}

module _ (v : ArenaValue) (es : List KeyEntry) (m : IsMap v es) (at : ℕ) (within : at < length es) (e : KeyEntry)
    (read : HoldsAt (λ (x : KeyEntry). e ≡ x) es at) where
  in_pairs : at < length (pairs_of v.placed es)
  in_pairs = omega (arith, length-pairs v.placed es)

  -- another slot stands in the entry
  module _ (slot : Slot) (w : ArenaValue) (st : IsStored v (uses_slot slot) w) where
    abbrev new : KeyEntry
    new = record { key = e.key; slot = slot }

    slot_parts : (s : Span) → uses_all (set es at new) s + uses_slot e.slot s ≡ uses_all es s + uses_slot slot s
    slot_parts s = omega (
      arith,
      sum_by-set (λ (x : KeyEntry). uses_entry x s) es at new e within,
      ap (λ (x : KeyEntry). uses_entry x s) (read e),
    )

    tidy_with : IsTidy w (λ s. uses_all es s + uses_slot slot s)
    tidy_with = tidy_stored v (uses_slot slot) w st (uses_all es) m.tidy

    keeps : (s : Span) → 0 < uses_all es s → piece_of w.placed s ≡ piece_of v.placed s
    keeps = keeps_used v (uses_slot slot) w st (uses_all es) m.tidy

    keeps_there : (s : Span) → 0 < uses_entry e s → piece_of w.placed s ≡ piece_of v.placed s
    keeps_there s lt = keeps s (omega (arith, used_there es at within e read s))

    pub old_forgettable : IsForgettable w e.slot
    old_forgettable =
        may_forget w (λ s. uses_all es s + uses_slot slot s) (uses_all (set es at new)) e.slot slot_parts tidy_with

    new_pairs : (d : KeyPair) → pairs_of (forgetting_slot w e.slot).placed (set es at new) ≡ set (pairs_of v.placed es)
        at (record { key = (get_or (pairs_of v.placed es) at d).key; value = held_in w.placed slot })
    new_pairs d =
        let f = forgets w e.slot in
        let key : bytes_of w.placed e.key ≡ (get_or (pairs_of v.placed es) at d).key =
        same_key_bytes v.placed w.placed e keeps_there
        ∙ sym (ap (λ (pair : KeyPair). pair.key) (pair_there es at within e read v.placed d)) in
        let pair : pair_of w.placed new ≡ record {
          key = (get_or (pairs_of v.placed es) at d).key;
          value = held_in w.placed slot;
        } = λ i. record { key = key i; value = held_in w.placed slot } in
        ap (λ (p : Places). pairs_of p (set es at new)) f.placed
        ∙ (map-set (pair_of w.placed) es at new
        ∙ (λ i. set (same_pairs v.placed w.placed es keeps i) at (pair i)))

    pub rewrite_kept : IsMap (forgetting_slot w e.slot) (set es at new)
    rewrite_kept = record {
      rising = rw (new_pairs (pair_of v.placed e))
          (set_in_order (pairs_of v.placed es) m.rising at in_pairs (pair_of v.placed e) (held_in w.placed slot));
      tidy =
          tidy_forgot w (λ s. uses_all es s + uses_slot slot s) (uses_all (set es at new)) e.slot slot_parts tidy_with;
    }

    pub rewritten : (ls after : List ℕ) (held : KeyValue) → held_in w.placed slot ≡ held
        → HoldsAt (λ (pair : KeyPair). IsRewrite (map_of v es ls) at pair held
        (map_of (forgetting_slot w e.slot) (set es at new) after)) (pairs_of v.placed es) at
    rewritten ls after held is d =
        let f = forgets w e.slot in
        let same : held_in w.placed e.slot ≡ held_in v.placed e.slot =
        same_held v.placed w.placed e.slot (λ s lt. keeps_there s (omega arith)) in
        let there : (get_or (pairs_of v.placed es) at d).value ≡ held_in v.placed e.slot =
        ap (λ (pair : KeyPair). pair.value) (pair_there es at within e read v.placed d) in
        record {
          pairs = rw (← is) (new_pairs d);
          dead = omega (
            arith,
            f.dead,
            ap (λ (h : KeyValue). length (text_of (Some h))) same,
            ap (λ (h : KeyValue). length (text_of (Some h))) there,
            dead_stored v (uses_slot slot) w st (uses_all es) m.tidy,
          );
        }

    pub lengthened : (ls after : List ℕ) (tail : List ℕ)
        → held_in w.placed slot ≡ HeldText (text_of (Some (held_in v.placed e.slot)) ++ tail)
        → HoldsAt (λ (pair : KeyPair). IsRewrite (map_of v es ls) at pair (HeldText (text_of (Some pair.value) ++ tail))
        (map_of (forgetting_slot w e.slot) (set es at new) after)) (pairs_of v.placed es) at
    lengthened ls after tail is d =
        let there : held_in v.placed e.slot ≡ (get_or (pairs_of v.placed es) at d).value =
        sym (ap (λ (pair : KeyPair). pair.value) (pair_there es at within e read v.placed d)) in
        rewritten ls after (HeldText (text_of (Some (get_or (pairs_of v.placed es) at d).value) ++ tail))
        (is ∙ ap (λ (h : KeyValue). HeldText (text_of (Some h) ++ tail)) there) d

  -- the entry goes
  removed_parts : (s : Span)
      → (uses_all (remove es at) s + uses_slot e.slot s) + uses_slot (Text e.key) s ≡ uses_all es s
  removed_parts s = omega (
    arith,
    sum_by-remove (λ (x : KeyEntry). uses_entry x s) es at e within,
    ap (λ (x : KeyEntry). uses_entry x s) (read e),
  )

  tidy_less_key : IsTidy (forgetting v e.key) (λ s. uses_all (remove es at) s + uses_slot e.slot s)
  tidy_less_key = tidy_forgot v (uses_all es) (λ s. uses_all (remove es at) s + uses_slot e.slot s)
      (Text e.key) removed_parts m.tidy

  pub key_forgettable : IsForgettable v (Text e.key)
  key_forgettable =
      may_forget v (uses_all es) (λ s. uses_all (remove es at) s + uses_slot e.slot s) (Text e.key) removed_parts m.tidy

  pub slot_forgettable : IsForgettable (forgetting v e.key) e.slot
  slot_forgettable = may_forget (forgetting v e.key) (λ s. uses_all (remove es at) s + uses_slot e.slot s)
      (uses_all (remove es at)) e.slot (λ s. refl) tidy_less_key

  left_pairs :
      pairs_of (forgetting_slot (forgetting v e.key) e.slot).placed (remove es at) ≡ remove (pairs_of v.placed es) at
  left_pairs =
      let f = forgets v (Text e.key) in
      let g = forgets (forgetting v e.key) e.slot in
      ap (λ (p : Places). pairs_of p (remove es at)) (g.placed ∙ f.placed) ∙ pairs-remove v.placed es at

  pub removal_kept : IsMap (forgetting_slot (forgetting v e.key) e.slot) (remove es at)
  removal_kept = record {
    rising = rw left_pairs (remove_in_order (pairs_of v.placed es) m.rising at in_pairs (pair_of v.placed e));
    tidy = tidy_forgot (forgetting v e.key) (λ s. uses_all (remove es at) s + uses_slot e.slot s)
        (uses_all (remove es at)) e.slot (λ s. refl) tidy_less_key;
  }

  pub removed : (ls after : List ℕ) → HoldsAt (λ (pair : KeyPair). IsRemoval (map_of v es ls) at pair
      (map_of (forgetting_slot (forgetting v e.key) e.slot) (remove es at) after)) (pairs_of v.placed es) at
  removed ls after d =
      let f = forgets v (Text e.key) in
      let g = forgets (forgetting v e.key) e.slot in
      record {
        pairs = left_pairs;
        dead = omega (
          arith,
          f.dead,
          g.dead,
          ap (λ (p : Places). length (text_of (Some (held_in p e.slot)))) f.placed,
          ap size_of (pair_there es at within e read v.placed d),
        );
      }

-- an entry comes in
module _ (v : ArenaValue) (es : List KeyEntry) (m : IsMap v es) (e : KeyEntry) (w : ArenaValue)
    (st : IsStored v (uses_entry e) w) (pair : KeyPair) (is : pair_of w.placed e ≡ pair) (at : ℕ)
    (gap : IsKeyGap key_of (pairs_of v.placed es) pair.key at) where
  added_parts : (s : Span) → uses_all (insert es at e) s ≡ uses_all es s + uses_entry e s
  added_parts s = omega (arith, sum_by-insert (λ (x : KeyEntry). uses_entry x s) es at e)

  more_pairs : pairs_of w.placed (insert es at e) ≡ insert (pairs_of v.placed es) at pair
  more_pairs = pairs-insert w.placed es at e ∙ (λ i. insert
      (same_pairs v.placed w.placed es (keeps_used v (uses_entry e) w st (uses_all es) m.tidy) i) at (is i))

  pub addition_kept : IsMap w (insert es at e)
  addition_kept =
      let tidy = tidy_stored v (uses_entry e) w st (uses_all es) m.tidy in
      record {
        rising = rw (more_pairs, insert_here (pairs_of v.placed es) pair.key m.rising at gap pair.value)
            (holding_in_order (pairs_of v.placed es) pair.key m.rising pair.value);
        tidy = record {
          placed = λ s lt. tidy.placed s (omega (arith, added_parts s));
          once = λ s long. omega (arith, added_parts s, tidy.once s long);
        };
      }

  pub added : (ls after : List ℕ) → IsAddition (map_of v es ls) at pair (map_of w (insert es at e) after)
  added ls after = record { pairs = more_pairs; dead = dead_stored v (uses_entry e) w st (uses_all es) m.tidy }

-- the same of a map that is known by equations
pub kept_by : (v w : ArenaValue) (es fs : List KeyEntry) → w ≡ v → fs ≡ es → IsMap v es → IsMap w fs
kept_by v w es fs arena entries m =
    subst (λ (x : ArenaValue). IsMap x fs) (sym arena) (subst (λ (x : List KeyEntry). IsMap v x) (sym entries) m)

pub same_map : (v w : ArenaValue) (es fs : List KeyEntry) (ls : List ℕ) → w ≡ v → fs ≡ es
    → map_of v es ls ≡ map_of w fs ls
same_map v w es fs ls arena entries = λ i. map_of (sym arena i) (sym entries i) ls

pub through : (P : MapValue → MapValue → Type 0) (old seen new end : MapValue) → old ≡ seen → new ≡ end → P old new
    → P seen end
through P old seen new end first second h =
    subst (λ (x : MapValue). P x end) first (subst (λ (x : MapValue). P old x) second h)

pub forgot_both : (v w x : ArenaValue) (span : Span) (slot : Slot) → x ≡ forgetting_slot w slot → w ≡ forgetting v span
    → x ≡ forgetting_slot (forgetting v span) slot
forgot_both v w x span slot second first = second ∙ ap (λ (y : ArenaValue). forgetting_slot y slot) first
