-- The pairs of entries: at a place, if spans in use read the same, and after an edit.
use Rattle.std.proofs.Common.{◌≡◌, ℕ, ℤ, ◌<◌, ◌≤◌, ◌+◌, List, [], ◌∷◌, length, sum, get_or, Option, unwrap_or, refl}
use Rattle.std.proofs.Common.{sym, ap, subst, ◌∙◌, arith}
use Rattle.std.specs.List.{AllWithin, HoldsAt, insert, remove}
use Rattle.std.specs.Borrow.{Bor}
use Rattle.std.specs.declared.cmp.Ordering.{Ordering}
use Rattle.std.specs.declared.cmp.Ordering.TheVariants.{Less, Equal, Greater}
use Rattle.std.proofs.lemmas.List.{get_or-map, get_or_default, length-map, map-append, take-map, drop-map}
use Rattle.std.proofs.lemmas.List.Sums.{sum_by-cons, get_or-le-sum_by}
use Rattle.sm_arena.specs.declared.span.Span.{Span}
use Rattle.sm_arena.specs.Pieces.{Places, piece_of, IsPlaced, bytes_of}
use Rattle.sm_arena.specs.Value.{ArenaValue, IsPlacing, IsPlacingPair}
use Rattle.sm_ranges.specs.KeyOrder.{key_cmp}
use Rattle.sm_ranges.specs.Keyed.{IsKeyPlace}
use Rattle.sm_ranges.specs.lemmas.Keyed.{below_up_to, above_from}
use Rattle.sm_map.specs.KeyMap.{KeyPair, key_of, IsKeyMap}
use Rattle.sm_map.specs.KeyMap.{Text as HeldText, Count as HeldCount}
use Rattle.sm_map.specs.ArenaMap.{MapValue}
use Rattle.sm_map.specs.Stored.{IsStored}
use Rattle.sm_map.specs.Val.{held_of, row_of}
use Rattle.sm_map.specs.Slot.{held_in, uses_piece, uses_slot, IsReadable}
use Rattle.sm_map.specs.KeyEntry.{pair_of, pairs_of, uses_entry, uses_all, HasKeys}
use Rattle.sm_map.specs.Kept.{IsMap, map_of}
use Rattle.sm_map.specs.declared.val.Val.{Val}
use Rattle.sm_map.specs.declared.slot.Slot.{Slot}
use Rattle.sm_map.specs.declared.slot.Slot.TheVariants.{Text, Count}
use Rattle.sm_map.specs.declared.key_entry.KeyEntry.{KeyEntry}
use Rattle.sm_map.specs.Block.{BlockValue}
use Rattle.sm_map.specs.Blocks.{entries_in, lengths_in}
use Rattle.sm_map.proofs.Blocks.{all_entries}
use Rattle.sm_map.proofs.Spans.{uses_itself, piece_stored, piece_reads, nothing_stored, both_stored}

pub same_held : (old new : Places) (slot : Slot) → ((s : Span) → 0 < uses_slot slot s → piece_of new s ≡ piece_of old s)
    → held_in new slot ≡ held_in old slot
same_held old new (Text span) keeps =
    ap (λ (o : Option (List ℕ)). HeldText (unwrap_or o [])) (keeps span (omega (arith, uses_itself span)))
same_held old new (Count count) keeps = refl

pub same_key_bytes : (old new : Places) (e : KeyEntry)
    → ((s : Span) → 0 < uses_entry e s → piece_of new s ≡ piece_of old s) → bytes_of new e.key ≡ bytes_of old e.key
same_key_bytes old new e keeps =
    ap (λ (o : Option (List ℕ)). unwrap_or o []) (keeps e.key (omega (arith, uses_itself e.key)))

same_pair : (old new : Places) (e : KeyEntry) → ((s : Span) → 0 < uses_entry e s → piece_of new s ≡ piece_of old s)
    → pair_of new e ≡ pair_of old e
same_pair old new e keeps =
    let key : bytes_of new e.key ≡ bytes_of old e.key = same_key_bytes old new e keeps in
    let value : held_in new e.slot ≡ held_in old e.slot = same_held old new e.slot (λ s lt. keeps s (omega arith)) in
    λ i. record { key = key i; value = value i }

-- if each span in use reads the same, the pairs stay
pub same_pairs : (old new : Places) (es : List KeyEntry)
    → ((s : Span) → 0 < uses_all es s → piece_of new s ≡ piece_of old s) → pairs_of new es ≡ pairs_of old es
same_pairs old new [] keeps = refl
same_pairs old new (e ∷ es) keeps =
    let here : pair_of new e ≡ pair_of old e =
    same_pair old new e (λ s lt. keeps s (omega (arith, sum_by-cons (λ (x : KeyEntry). uses_entry x s) e es))) in
    let there : pairs_of new es ≡ pairs_of old es =
    same_pairs old new es (λ s lt. keeps s (omega (arith, sum_by-cons (λ (x : KeyEntry). uses_entry x s) e es))) in
    λ i. here i ∷ there i

pub pairs-insert : (placed : Places) (es : List KeyEntry) (at : ℕ) (e : KeyEntry)
    → pairs_of placed (insert es at e) ≡ insert (pairs_of placed es) at (pair_of placed e)
pairs-insert placed es at e = simp (map-append, take-map, drop-map)

pub pairs-remove : (placed : Places) (es : List KeyEntry) (at : ℕ)
    → pairs_of placed (remove es at) ≡ remove (pairs_of placed es) at
pairs-remove placed es at = simp (map-append, take-map, drop-map)

pub length-pairs : (placed : Places) (es : List KeyEntry) → length (pairs_of placed es) ≡ length es
length-pairs placed es = length-map es (pair_of placed)

pub seen_in_order : (v : ArenaValue) (es : List KeyEntry) (ls : List ℕ) (seen : MapValue) → map_of v es ls ≡ seen
    → IsMap v es → IsKeyMap seen.pairs
seen_in_order v es ls seen is m = rw (← is) m.rising

pub map_sum : (v : ArenaValue) (blocks : List BlockValue)
    → sum (lengths_in blocks) ≡ length (pairs_of v.placed (entries_in blocks))
map_sum v blocks = all_entries blocks ∙ sym (length-pairs v.placed (entries_in blocks))

-- an entry that stands at a place
module _ (es : List KeyEntry) (at : ℕ) (within : at < length es) (e : KeyEntry)
    (read : HoldsAt (λ (x : KeyEntry). e ≡ x) es at) where
  pub pair_there : (placed : Places) (d : KeyPair) → get_or (pairs_of placed es) at d ≡ pair_of placed e
  pair_there placed d = get_or-map (pair_of placed) es at e d within ∙ ap (pair_of placed) (sym (read e))

  pub used_there : (s : Span) → uses_entry e s ≤ uses_all es s
  used_there s = omega (
    arith,
    get_or-le-sum_by (λ (x : KeyEntry). uses_entry x s) es at e within,
    ap (λ (x : KeyEntry). uses_entry x s) (read e),
  )

  module _ (v : ArenaValue) (m : IsMap v es) where
    pub key_placed : IsPlaced v.placed e.key
    key_placed = m.tidy.placed e.key (omega (arith, used_there e.key, uses_itself e.key))

    pub slot_readable : IsReadable v.placed e.slot
    slot_readable s lt = m.tidy.placed s (omega (arith, used_there s))

  pub row_there : (placed : Places) (row : Bor (List ℕ) × Val) → row.0.now ≡ bytes_of placed e.key
      → held_of row.1 ≡ held_in placed e.slot → HoldsAt (λ (pair : KeyPair). row_of row ≡ pair) (pairs_of placed es) at
  row_there placed row key value d = (λ i. record { key = key i; value = value i }) ∙ sym (pair_there placed d)

-- the keys of a map are placed
pub keys_placed : (v : ArenaValue) (es : List KeyEntry) → IsMap v es → HasKeys v.placed es
keys_placed v es m k d within =
    key_placed es k within (get_or es k d) (λ (x : KeyEntry). get_or_default es k d x within) v m

-- the facts behind a comparison with the key of an entry that was read
module _ (placed : Places) (es : List KeyEntry) (key : List ℕ) (rising : IsKeyMap (pairs_of placed es)) (at : ℕ)
    (within : at < length es) (e : KeyEntry) (bytes : List ℕ) (is : bytes ≡ bytes_of placed (get_or es at e).key) where
  in_pairs : at < length (pairs_of placed es)
  in_pairs = omega (arith, length-pairs placed es)

  order_there : (o : Ordering) → o ≡ key_cmp bytes key
      → HoldsAt (λ (pair : KeyPair). key_cmp pair.key key ≡ o) (pairs_of placed es) at
  order_there o h d = ap (λ (pair : KeyPair). key_cmp pair.key key) (get_or-map (pair_of placed) es at e d within)
      ∙ (ap (λ (k : List ℕ). key_cmp k key) (sym is) ∙ sym h)

  pub read_less : Less ≡ key_cmp bytes key
      → AllWithin (λ (pair : KeyPair). key_cmp pair.key key ≡ Less) (pairs_of placed es) 0 (at + 1)
  read_less h = below_up_to key_of (pairs_of placed es) key rising at in_pairs (order_there Less h)

  pub read_greater : Greater ≡ key_cmp bytes key → AllWithin (λ (pair : KeyPair). key_cmp pair.key key ≡ Greater)
      (pairs_of placed es) at (length (pairs_of placed es))
  read_greater h = above_from key_of (pairs_of placed es) key rising at in_pairs (order_there Greater h)

  pub read_equal : Equal ≡ key_cmp bytes key → IsKeyPlace key_of (pairs_of placed es) key at
  read_equal h = record { within = in_pairs; same = order_there Equal h }

-- ---- a new entry

pub pair_stored : (old : ArenaValue) (key text : List ℕ) (s t : Span) (new : ArenaValue)
    → IsPlacingPair old key text (s, t) new → IsStored old (uses_entry (record { key = s; slot = Text t })) new
pair_stored old key text s t new p = both_stored old p.middle new (uses_piece s) (uses_piece t)
    (piece_stored old key s p.middle p.one) (piece_stored p.middle text t new p.other)

pub pair_reads : (old : ArenaValue) (key text : List ℕ) (s t : Span) (new : ArenaValue) → IsPlacingPair old key text (
  s,
  t,
) new → pair_of new.placed (record { key = s; slot = Text t }) ≡ record { key = key; value = HeldText text }
pair_reads old key text s t new p =
    let first : bytes_of new.placed s ≡ key =
    piece_reads old key s p.middle p.one (uses_piece t) new (piece_stored p.middle text t new p.other) in
    let second : bytes_of new.placed t ≡ text = ap (λ (o : Option (List ℕ)). unwrap_or o []) p.other.reads in
    λ i. record { key = first i; value = HeldText (second i) }

-- the text was placed first
pub joined_stored : (old : ArenaValue) (key text : List ℕ) (s t : Span) (new : ArenaValue)
    → IsPlacingPair old text key (t, s) new → IsStored old (uses_entry (record { key = s; slot = Text t })) new
joined_stored old key text s t new p =
    let turn : (u : Span) → uses_piece t u + uses_piece s u ≡ uses_piece s u + uses_piece t u = λ u. omega arith in
    let turned : ◌≡◌ {A = Span → ℕ} (λ u. uses_piece t u + uses_piece s u) (λ u. uses_piece s u + uses_piece t u) =
    λ i u. turn u i in
    subst (λ (uses : Span → ℕ). IsStored old uses new) turned
    (both_stored old p.middle new (uses_piece t) (uses_piece s)
    (piece_stored old text t p.middle p.one) (piece_stored p.middle key s new p.other))

pub joined_reads : (old : ArenaValue) (key text : List ℕ) (s t : Span) (new : ArenaValue) → IsPlacingPair old text key (
  t,
  s,
) new → pair_of new.placed (record { key = s; slot = Text t }) ≡ record { key = key; value = HeldText text }
joined_reads old key text s t new p =
    let first : bytes_of new.placed t ≡ text =
    piece_reads old text t p.middle p.one (uses_piece s) new (piece_stored p.middle key s new p.other) in
    let second : bytes_of new.placed s ≡ key = ap (λ (o : Option (List ℕ)). unwrap_or o []) p.other.reads in
    λ i. record { key = second i; value = HeldText (first i) }

pub count_stored : (old : ArenaValue) (key : List ℕ) (s : Span) (count : ℤ) (new : ArenaValue) → IsPlacing old key s new
    → IsStored old (uses_entry (record { key = s; slot = Count count })) new
count_stored old key s count new p =
    both_stored old new new (uses_piece s) (λ t. 0) (piece_stored old key s new p) (nothing_stored new)

pub count_reads : (old : ArenaValue) (key : List ℕ) (s : Span) (count : ℤ) (new : ArenaValue) → IsPlacing old key s new
    → pair_of new.placed (record { key = s; slot = Count count }) ≡ record { key = key; value = HeldCount count }
count_reads old key s count new p =
    let first : bytes_of new.placed s ≡ key = ap (λ (o : Option (List ℕ)). unwrap_or o []) p.reads in
    λ i. record { key = first i; value = HeldCount count }
