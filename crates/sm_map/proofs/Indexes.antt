-- An index after an edit of one block.
use Rattle.std.proofs.Common.{◌≡◌, ℕ, suc, ◌<◌, ◌≤◌, ◌+◌, ◌-◌, ◌*◌, List, [], ◌∷◌, ◌++◌, length, get_or, set, take}
use Rattle.std.proofs.Common.{drop, refl, sym, ap, subst, ◌∙◌, arith, inl, inr}
use Rattle.std.specs.Prelude.{All}
use Rattle.std.specs.List.{insert, remove}
use Rattle.std.proofs.lemmas.Bool.{cases_lt}
use Rattle.std.proofs.lemmas.List.{length-set, get_or-set_same, nil_from_length, length-append, take-set, drop-set-lt}
use Rattle.std.proofs.lemmas.List.Concat.{flat_map-append, length-flat_map}
use Rattle.std.proofs.lemmas.List.Edits.{insert_end, length-insert, length-remove}
use Rattle.std.proofs.lemmas.List.Elements.{All-set, All-take, All-drop, All-append, All-cons}
use Rattle.std.proofs.lemmas.List.Sums.{sum_by-le}
use Rattle.sm_map.specs.Block.{BlockValue}
use Rattle.sm_map.specs.Blocks.{entries_in, lengths_in, number_of, HasEntry, IsGap, IsStop, IsSized, IsSplit}
use Rattle.sm_map.specs.Blocks.{HasOneMore}
use Rattle.sm_map.specs.Index.{IndexValue, IsIndex, IsReady}
use Rattle.sm_map.specs.declared.key_entry.KeyEntry.{KeyEntry}
use Rattle.sm_map.specs.declared.place.Place.{Place}
use Rattle.sm_map.specs.declared.room.Room.{Room}
use Rattle.sm_map.proofs.Blocks.{inserted, written, taken, unchanged, same_lengths, halved, dropped, number_inside}
use Rattle.sm_map.proofs.Blocks.{half_sized, insert_lengths, set_lengths, past_number, blocks_counted, length_there}
use Rattle.sm_map.proofs.Blocks.{before_block, parts}

-- a number of entries is far from overflow
pub entries_bounded : (blocks : List BlockValue) → All IsSized blocks → length (entries_in blocks) ≤ length blocks * 64
entries_bounded blocks filled = omega (
  arith,
  length-flat_map (λ (b : BlockValue). b.entries) blocks,
  sum_by-le (λ (b : BlockValue). length b.entries) 64 blocks (λ k d lt. (filled k d lt).1),
)

pub stop_first : (blocks : List BlockValue) (len : ℕ) → IsIndex blocks len
    → IsStop (lengths_in blocks) (record { block = 0; offset = 0 })
stop_first [] len kept = inr (refl, refl)
stop_first (x ∷ xs) len kept = inl (omega arith, (kept.filled 0 x (omega arith)).0)

pub has_first : (blocks : List BlockValue) (len : ℕ) → IsIndex blocks len → (b : ℕ) → b < length blocks
    → HasEntry (lengths_in blocks) (record { block = b; offset = 0 })
has_first blocks len kept b lt =
    let none : BlockValue = record { entries = []; room = 0 } in
    (omega (arith, blocks_counted blocks), omega (arith, length_there blocks b none lt, (kept.filled b none lt).0))

pub small_offset : (blocks : List BlockValue) (len : ℕ) → IsIndex blocks len → (place : Place)
    → HasEntry (lengths_in blocks) place → place.offset < 64
small_offset blocks len kept place has =
    let none : BlockValue = record { entries = []; room = 0 } in
    let lt : place.block < length blocks = omega (arith, has.0, blocks_counted blocks) in
    omega (arith, has.1, length_there blocks place.block none lt, (kept.filled place.block none lt).1)

pub gap_block : (blocks : List BlockValue) (place : Place) → IsGap (lengths_in blocks) place
    → (place.block ≡ length blocks → ⊥) → place.block < length blocks
gap_block blocks place (inl has) some = omega (arith, has.0, blocks_counted blocks)
gap_block blocks place (inr end) some = absurd (some (omega (arith, end.0, blocks_counted blocks)))

-- the place after the last one in a block
pub stop_next : (blocks : List BlockValue) (len : ℕ) → IsIndex blocks len → (b : ℕ) → b < length blocks
    → (d : BlockValue) → IsStop (lengths_in blocks) (record { block = b + 1; offset = 0 })
stop_next blocks len kept b lt d = elim (cases_lt (b + 1) (length blocks)) [
  | inl less ↦ inl (
    omega (arith, blocks_counted blocks),
    omega (arith, length_there blocks (b + 1) d less, (kept.filled (b + 1) d less).0),
  )
  | inr more ↦ inr (omega (arith, blocks_counted blocks), refl)
]

module _ (blocks : List BlockValue) (len : ℕ) (kept : IsIndex blocks len) (place : Place) (old new : BlockValue)
    (lt : place.block < length blocks) (read : old ≡ get_or blocks place.block old) where
  size : length old.entries ≡ length (get_or blocks place.block old).entries
  size = ap (λ (x : BlockValue). length x.entries) read

  filled : IsSized old
  filled = subst (λ (x : BlockValue). IsSized x) (sym read) (kept.filled place.block old lt)

  pub has_in : HasEntry (lengths_in blocks) place → place.offset < length old.entries
  has_in has = omega (arith, has.1, length_there blocks place.block old lt, size)

  -- nothing changes but room
  module _ (is : new.entries ≡ old.entries) where
    pub same_entries : entries_in (set blocks place.block new) ≡ entries_in blocks
    same_entries = unchanged blocks place old new lt (is ∙ ap (λ (x : BlockValue). x.entries) read)

    pub still_lengths : lengths_in (set blocks place.block new) ≡ lengths_in blocks
    still_lengths = same_lengths blocks place old new lt (ap length is ∙ size)

    pub still_kept : IsIndex (set blocks place.block new) len
    still_kept = record {
      filled = All-set IsSized blocks place.block new (
        omega (arith, ap length is, filled.0),
        omega (arith, ap length is, filled.1),
      ) kept.filled;
      counted = kept.counted ∙ sym (ap length same_entries);
    }

  -- an entry is written over
  module _ (e : KeyEntry) (within : place.offset < length old.entries)
      (is : new.entries ≡ set old.entries place.offset e) where
    pub set_entries :
        entries_in (set blocks place.block new) ≡ set (entries_in blocks) (number_of (lengths_in blocks) place) e
    set_entries = written blocks place old new lt e (omega (arith, within, size))
        (is ∙ ap (λ (x : BlockValue). set x.entries place.offset e) read)

    long : length new.entries ≡ length old.entries
    long = ap length is ∙ length-set old.entries place.offset e

    pub set_kept : IsIndex (set blocks place.block new) len
    set_kept = record {
      filled = All-set IsSized blocks place.block new (
        omega (arith, long, filled.0),
        omega (arith, long, filled.1),
      ) kept.filled;
      counted = kept.counted
          ∙ sym (ap length set_entries ∙ length-set (entries_in blocks) (number_of (lengths_in blocks) place) e);
    }

  here : get_or (lengths_in blocks) place.block 0 ≡ length old.entries
  here = length_there blocks place.block old lt ∙ sym size

  inside : place.block < length (lengths_in blocks)
  inside = omega (arith, lt, blocks_counted blocks)

  gap_within : place.offset ≤ length old.entries → number_of (lengths_in blocks) place ≤ length (entries_in blocks)
  gap_within le = omega (
    arith,
    ap length (parts blocks place.block old lt),
    length-append (entries_in (take place.block blocks)) ((get_or blocks place.block old).entries
        ++ entries_in (drop (suc place.block) blocks)),
    length-append (get_or blocks place.block old).entries (entries_in (drop (suc place.block) blocks)),
    before_block blocks place.block,
    size,
  )

  -- an entry comes into the block
  module _ (e : KeyEntry) (within : place.offset ≤ length old.entries) where
    module _ (short : length old.entries < 64) (is : new.entries ≡ insert old.entries place.offset e) where
      pub insert_entries :
          entries_in (set blocks place.block new) ≡ insert (entries_in blocks) (number_of (lengths_in blocks) place) e
      insert_entries = inserted blocks place old new lt e (omega (arith, within, size))
          (is ∙ ap (λ (x : BlockValue). insert x.entries place.offset e) read)

      longer : length new.entries ≡ length old.entries + 1
      longer = ap length is ∙ length-insert old.entries place.offset e within

      pub longer_lengths : HasOneMore (lengths_in blocks) place (lengths_in (set blocks place.block new))
      longer_lengths =
          let more : length new.entries ≡ get_or (lengths_in blocks) place.block 0 + 1 = omega (arith, longer, here) in
          inl (
            inside,
            omega (arith, here, short),
            set_lengths blocks place.block new
                ∙ ap (λ (n : ℕ). set (lengths_in blocks) place.block n) more,
          )

      pub insert_kept : IsIndex (set blocks place.block new) (len + 1)
      insert_kept = record {
        filled =
            All-set IsSized blocks place.block new (omega (arith, longer), omega (arith, longer, short)) kept.filled;
        counted = omega (
          arith,
          kept.counted,
          ap length insert_entries,
          length-insert (entries_in blocks) (number_of (lengths_in blocks) place) e (gap_within within),
        );
      }

    -- or into one of its halves
    module _ (upper : BlockValue) (cut : IsSplit (insert old.entries place.offset e) new upper) where
      pub half_entries : entries_in (insert (set blocks place.block new) (place.block + 1) upper)
          ≡ insert (entries_in blocks) (number_of (lengths_in blocks) place) e
      half_entries =
          let next : place.block + 1 ≡ suc place.block = omega arith in
          ap (λ (n : ℕ). entries_in (insert (set blocks place.block new) n upper)) next
          ∙ (halved blocks place.block new upper
          (record { entries = insert old.entries place.offset e; room = 0 }) lt cut.joined
          ∙ inserted blocks place old (record { entries = insert old.entries place.offset e; room = 0 }) lt e
          (omega (arith, within, size)) (ap (λ (x : BlockValue). insert x.entries place.offset e) read))

      two_lengths : (low high : ℕ) → length new.entries ≡ low → length upper.entries ≡ high
          → lengths_in (insert (set blocks place.block new) (place.block + 1) upper)
          ≡ insert (set (lengths_in blocks) place.block low) (place.block + 1) high
      two_lengths low high is_low is_high =
          let one = set_lengths blocks place.block new
          ∙ ap (λ (n : ℕ). set (lengths_in blocks) place.block n) is_low in
          insert_lengths (set blocks place.block new) (place.block + 1) upper
          ∙ (λ i. insert (one i) (place.block + 1) (is_high i))

      pub half_lengths : length old.entries ≡ 64 → HasOneMore (lengths_in blocks) place
          (lengths_in (insert (set blocks place.block new) (place.block + 1) upper))
      half_lengths full = inr (inl (
        inside,
        omega (arith, here, full),
        elim cut.halves [
          | inl (low, high) ↦ inl (two_lengths 32 33 low high)
          | inr (low, high) ↦ inr (two_lengths 33 32 low high)
        ],
      ))

      pub half_kept : IsIndex (insert (set blocks place.block new) (place.block + 1) upper) (len + 1)
      half_kept =
          let sized = half_sized (insert old.entries place.offset e) new upper cut in
          let one = All-set IsSized blocks place.block new sized.0 kept.filled in
          record {
            filled = All-append IsSized (take (place.block + 1) (set blocks place.block new)) _
                (All-take IsSized (place.block + 1) (set blocks place.block new) one)
                (All-cons IsSized upper (drop (place.block + 1) (set blocks place.block new)) sized.1
                (All-drop IsSized (place.block + 1) (set blocks place.block new) one));
            counted = omega (
              arith,
              kept.counted,
              ap length half_entries,
              length-insert (entries_in blocks) (number_of (lengths_in blocks) place) e (gap_within within),
            );
          }

  -- an entry goes
  module _ (within : place.offset < length old.entries) (is : new.entries ≡ remove old.entries place.offset) where
    pub remove_entries :
        entries_in (set blocks place.block new) ≡ remove (entries_in blocks) (number_of (lengths_in blocks) place)
    remove_entries = taken blocks place old new lt (omega (arith, within, size))
        (is ∙ ap (λ (x : BlockValue). remove x.entries place.offset) read)

    has : HasEntry (lengths_in blocks) place
    has = (omega (arith, blocks_counted blocks), omega (arith, length_there blocks place.block old lt, size))

    shorter : length new.entries + 1 ≡ length old.entries
    shorter = ap (λ (l : List KeyEntry). length l + 1) is ∙ length-remove old.entries place.offset within

    fewer : length (remove (entries_in blocks) (number_of (lengths_in blocks) place)) + 1 ≡ len
    fewer = omega (
      arith,
      kept.counted,
      length-remove (entries_in blocks) (number_of (lengths_in blocks) place) (number_inside blocks place has),
    )

    pub some_left : 1 ≤ len
    some_left = omega (arith, fewer)

    pub remove_kept : (length new.entries ≡ 0 → ⊥) → IsIndex (set blocks place.block new) (len - 1)
    remove_kept some = record {
      filled = All-set IsSized blocks place.block new (omega arith, omega (arith, shorter, filled.1)) kept.filled;
      counted = omega (arith, fewer, ap length remove_entries);
    }

    module _ (none : length new.entries ≡ 0) where
      pub gone_entries : entries_in (remove (set blocks place.block new) place.block)
          ≡ remove (entries_in blocks) (number_of (lengths_in blocks) place)
      gone_entries =
          let here = get_or-set_same blocks place.block new new lt in
          let less : place.block < length (set blocks place.block new) =
          omega (arith, length-set blocks place.block new) in
          dropped (set blocks place.block new) place.block new less
          (ap (λ (x : BlockValue). x.entries) here ∙ nil_from_length new.entries none) ∙ remove_entries

      pub gone_kept : IsIndex (remove (set blocks place.block new) place.block) (len - 1)
      gone_kept = record {
        filled = All-append IsSized (take place.block (set blocks place.block new))
            (drop (suc place.block) (set blocks place.block new))
            (subst (λ (l : List BlockValue). All IsSized l) (sym (take-set blocks place.block new))
            (All-take IsSized place.block blocks kept.filled))
            (subst (λ (l : List BlockValue). All IsSized l) (sym (drop-set-lt (suc place.block) blocks place.block new
            (omega arith))) (All-drop IsSized (suc place.block) blocks kept.filled));
        counted = omega (arith, fewer, ap length gone_entries);
      }

-- the last block is full
pub last_full : (blocks : List BlockValue) (len : ℕ) → IsIndex blocks len → (b : ℕ) (block : BlockValue)
    → b + 1 ≡ length blocks → block ≡ get_or blocks b block → 64 ≤ length block.entries → (k : ℕ)
    → k + 1 ≡ length (lengths_in blocks) → get_or (lengths_in blocks) k 0 ≡ 64
last_full blocks len kept b block last read most k end =
    let lt : b < length blocks = omega (arith, last) in
    let same : k ≡ b = omega (arith, end, last, blocks_counted blocks) in
    let sized = subst (λ (x : BlockValue). IsSized x) (sym read) (kept.filled b block lt) in
    let full : length (get_or blocks b block).entries ≡ 64 =
    omega (arith, ap (λ (x : BlockValue). length x.entries) read, most, sized.1) in
    ap (λ (n : ℕ). get_or (lengths_in blocks) n 0) same ∙ (length_there blocks b block lt ∙ full)

-- a block with one entry comes behind the others
module _ (blocks : List BlockValue) (len : ℕ) (kept : IsIndex blocks len) (place : Place) (last : BlockValue)
    (e : KeyEntry) (past : place.block ≡ length blocks) (first : place.offset ≡ 0) (one : last.entries ≡ e ∷ []) where
  number : number_of (lengths_in blocks) place ≡ length (entries_in blocks)
  number = past_number blocks place past first

  pub behind_entries :
      entries_in (insert blocks place.block last) ≡ insert (entries_in blocks) (number_of (lengths_in blocks) place) e
  behind_entries =
      ap entries_in (ap (λ (n : ℕ). insert blocks n last) past ∙ insert_end blocks last)
      ∙ (flat_map-append (λ (b : BlockValue). b.entries) blocks (last ∷ [])
      ∙ (ap (λ (l : List KeyEntry). entries_in blocks ++ (l ++ [])) one
      ∙ sym (ap (λ (n : ℕ). insert (entries_in blocks) n e) number ∙ insert_end (entries_in blocks) e)))

  pub behind_lengths : HasOneMore (lengths_in blocks) place (lengths_in (insert blocks place.block last))
  behind_lengths =
      let end : place.block ≡ length (lengths_in blocks) = omega (arith, past, blocks_counted blocks) in
      let single : length last.entries ≡ 1 = ap length one in
      inr (inr (
        end,
        insert_lengths blocks place.block last
            ∙ ((λ i. insert (lengths_in blocks) (end i) (single i)) ∙ insert_end (lengths_in blocks) 1),
      ))

  pub behind_kept : IsIndex (insert blocks place.block last) (len + 1)
  behind_kept = record {
    filled = All-append IsSized (take place.block blocks) _ (All-take IsSized place.block blocks kept.filled)
        (All-cons IsSized last (drop place.block blocks) (
          omega (arith, ap length one),
          omega (arith, ap length one),
        ) (All-drop IsSized place.block blocks kept.filled));
    counted = omega (
      arith,
      kept.counted,
      ap length behind_entries,
      length-insert (entries_in blocks) (number_of (lengths_in blocks) place) e (omega (arith, number)),
    );
  }

-- the room that was made, as it is known in a branch
pub ready_as : (index seen : IndexValue) (place : Place) (room known : Room) → index ≡ seen → room ≡ known
    → IsReady seen place room → IsReady index place known
ready_as index seen place room known view is ready =
    subst (λ (r : Room). IsReady index place r) is (subst (λ (x : IndexValue). IsReady x place room) (sym view) ready)
