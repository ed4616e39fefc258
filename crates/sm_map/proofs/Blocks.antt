-- The contents of blocks: the entry at a place, the blocks after an edit of one of them, and how places count.
use Rattle.std.proofs.Common.{◌≡◌, true, false, ℕ, zero, suc, ◌<◌, ◌≤◌, ◌+◌, ◌-◌, List, [], ◌∷◌, ◌++◌, length, sum}
use Rattle.std.proofs.Common.{get_or, set, take, drop, refl, sym, ap, ◌∙◌, arith, inl, inr, ◌⊎◌, append_assoc}
use Rattle.std.specs.List.{between, insert, remove}
use Rattle.std.proofs.lemmas.Bool.{cases_lt}
use Rattle.std.proofs.lemmas.List.{length-map, length-take, length-drop, take-append-drop, take-take}
use Rattle.std.proofs.lemmas.List.{get_or-map, get_or_default, take-map, drop-map, take_all, set_split, set-get_or}
use Rattle.std.proofs.lemmas.List.{set-append_left, set-append_right, map-append, map-set, length-set, length-append}
use Rattle.std.proofs.lemmas.List.{get_or-set_other}
use Rattle.std.proofs.lemmas.List.{get_or_append_left}
use Rattle.std.proofs.lemmas.List.Concat.{flat_map-append, length-flat_map, get_or-flat_map}
use Rattle.std.proofs.lemmas.List.Edits.{length-insert, length-between, get_or-between, insert-append_left}
use Rattle.std.proofs.lemmas.List.Edits.{insert-append_right, remove-append_left, remove-append_right}
use Rattle.std.proofs.lemmas.List.Sums.{sum-map, sum_by_more, sum_by-take-le}
use Rattle.sm_arena.specs.Pieces.{Places}
use Rattle.sm_map.specs.KeyMap.{KeyPair}
use Rattle.sm_map.specs.KeyEntry.{pair_of, pairs_of}
use Rattle.sm_map.specs.Block.{BlockValue}
use Rattle.std.proofs.lemmas.Bool.Decides.{nat_tests}
use Rattle.sm_map.specs.Places.{precedes}
use Rattle.sm_map.specs.Blocks.{entries_in, lengths_in, number_of, HasEntry, IsStop, IsSized, IsSplit}
use Rattle.sm_map.specs.Blocks.{HasOneMore, IsEnd, IsPacked}
use Rattle.sm_map.specs.declared.key_entry.KeyEntry.{KeyEntry}
use Rattle.sm_map.specs.declared.place.Place.{Place}

abbrev held : BlockValue → List KeyEntry
held block = block.entries

abbrev size : BlockValue → ℕ
size block = length block.entries

-- how many entries stand before a block
pub before_block : (blocks : List BlockValue) (b : ℕ)
    → sum (take b (lengths_in blocks)) ≡ length (entries_in (take b blocks))
before_block blocks b =
    ap sum (take-map size b blocks) ∙ (sum-map size (take b blocks) ∙ sym (length-flat_map held (take b blocks)))

-- how many there are in all
pub all_entries : (blocks : List BlockValue) → sum (lengths_in blocks) ≡ length (entries_in blocks)
all_entries blocks = sum-map size blocks ∙ sym (length-flat_map held blocks)

pub length_there : (blocks : List BlockValue) (b : ℕ) (d : BlockValue) → b < length blocks
    → get_or (lengths_in blocks) b 0 ≡ length (get_or blocks b d).entries
length_there blocks b d lt = get_or-map size blocks b d 0 lt

pub blocks_counted : (blocks : List BlockValue) → length (lengths_in blocks) ≡ length blocks
blocks_counted blocks = length-map blocks size

-- the lengths of the blocks with another one
pub insert_lengths : (blocks : List BlockValue) (b : ℕ) (block : BlockValue)
    → lengths_in (insert blocks b block) ≡ insert (lengths_in blocks) b (length block.entries)
insert_lengths blocks b block =
    map-append size (take b blocks) (block ∷ drop b blocks)
    ∙ (λ i. sym (take-map size b blocks) i ++ size block ∷ sym (drop-map size b blocks) i)

pub set_lengths : (blocks : List BlockValue) (b : ℕ) (block : BlockValue)
    → lengths_in (set blocks b block) ≡ set (lengths_in blocks) b (length block.entries)
set_lengths blocks b block = map-set size blocks b block

-- the blocks with another one in the place of one
pub with_block : (blocks : List BlockValue) (b : ℕ) (block : BlockValue) → b < length blocks → entries_in
    (set blocks b block) ≡ entries_in (take b blocks) ++ (block.entries ++ entries_in (drop (suc b) blocks))
with_block blocks b block lt =
    ap entries_in (set_split blocks b block lt) ∙ flat_map-append held (take b blocks) (block ∷ drop (suc b) blocks)

pub parts : (blocks : List BlockValue) (b : ℕ) (d : BlockValue) → b < length blocks → entries_in blocks
    ≡ entries_in (take b blocks) ++ ((get_or blocks b d).entries ++ entries_in (drop (suc b) blocks))
parts blocks b d lt = ap entries_in (sym (set-get_or blocks b d)) ∙ with_block blocks b (get_or blocks b d) lt

-- the same of their pairs
pub pair_parts : (placed : Places) (blocks : List BlockValue) (b : ℕ) (d : BlockValue) → b < length blocks
    → pairs_of placed (entries_in blocks) ≡ pairs_of placed (entries_in (take b blocks))
    ++ (pairs_of placed (get_or blocks b d).entries ++ pairs_of placed (entries_in (drop (suc b) blocks)))
pair_parts placed blocks b d lt =
    let front = entries_in (take b blocks) in
    let part = (get_or blocks b d).entries in
    let back = entries_in (drop (suc b) blocks) in
    ap (pairs_of placed) (parts blocks b d lt) ∙ (map-append (pair_of placed) front (part ++ back)
    ∙ ap (λ (l : List KeyPair). pairs_of placed front ++ l) (map-append (pair_of placed) part back))

pub front_pairs : (placed : Places) (blocks : List BlockValue) (b : ℕ)
    → length (pairs_of placed (entries_in (take b blocks))) ≡ sum (take b (lengths_in blocks))
front_pairs placed blocks b = length-map (entries_in (take b blocks)) (pair_of placed) ∙ sym (before_block blocks b)

-- how many entries stand before the next block
pub next_block : (blocks : List BlockValue) (b : ℕ) (d : BlockValue) → b < length blocks
    → sum (take (b + 1) (lengths_in blocks)) ≡ sum (take b (lengths_in blocks)) + length (get_or blocks b d).entries
next_block blocks b d lt =
    let here = sum_by_more (λ (n : ℕ). n) (lengths_in blocks) b 0 (omega (arith, blocks_counted blocks)) in
    here ∙ ap (λ (n : ℕ). sum (take b (lengths_in blocks)) + n) (length_there blocks b d lt)

-- an edit of one block is one of all entries
module _ (edit : List KeyEntry → ℕ → List KeyEntry)
    (right : (xs ys : List KeyEntry) (k : ℕ) → edit (xs ++ ys) (length xs + k) ≡ xs ++ edit ys k) where
  pub edited : (blocks : List BlockValue) (place : Place) (d block : BlockValue) → place.block < length blocks
      → block.entries ≡ edit (get_or blocks place.block d).entries place.offset
      → ((rest : List KeyEntry) → edit ((get_or blocks place.block d).entries ++ rest) place.offset
      ≡ edit (get_or blocks place.block d).entries place.offset ++ rest)
      → entries_in (set blocks place.block block) ≡ edit (entries_in blocks) (number_of (lengths_in blocks) place)
  edited blocks place d block lt is left =
      let front = entries_in (take place.block blocks) in
      let part = (get_or blocks place.block d).entries in
      let back = entries_in (drop (suc place.block) blocks) in
      let count : length front + place.offset ≡ number_of (lengths_in blocks) place =
      omega (arith, before_block blocks place.block) in
      with_block blocks place.block block lt
      ∙ (ap (λ (l : List KeyEntry). front ++ (l ++ back)) is
      ∙ (ap (λ (l : List KeyEntry). front ++ l) (sym (left back))
      ∙ (sym (right front (part ++ back) place.offset)
      ∙ (λ i. edit (sym (parts blocks place.block d lt) i) (count i)))))

insert_right : (e : KeyEntry) (xs ys : List KeyEntry) (k : ℕ)
    → insert (xs ++ ys) (length xs + k) e ≡ xs ++ insert ys k e
insert_right e xs ys k =
    let rest : (length xs + k) - length xs ≡ k = omega arith in
    insert-append_right xs ys (length xs) (length xs + k) e refl (omega arith)
    ∙ ap (λ (n : ℕ). xs ++ insert ys n e) rest

set_right : (e : KeyEntry) (xs ys : List KeyEntry) (k : ℕ) → set (xs ++ ys) (length xs + k) e ≡ xs ++ set ys k e
set_right e xs ys k =
    let rest : (length xs + k) - length xs ≡ k = omega arith in
    set-append_right xs ys (length xs) (length xs + k) e refl (omega arith) ∙ ap (λ (n : ℕ). xs ++ set ys n e) rest

remove_right : (xs ys : List KeyEntry) (k : ℕ) → remove (xs ++ ys) (length xs + k) ≡ xs ++ remove ys k
remove_right xs ys k =
    let rest : (length xs + k) - length xs ≡ k = omega arith in
    remove-append_right xs ys (length xs) (length xs + k) refl (omega arith) ∙ ap (λ (n : ℕ). xs ++ remove ys n) rest

module _ (blocks : List BlockValue) (place : Place) (d block : BlockValue) (lt : place.block < length blocks) where
  abbrev there : List KeyEntry
  there = (get_or blocks place.block d).entries

  pub inserted : (e : KeyEntry) → place.offset ≤ length there → block.entries ≡ insert there place.offset e
      → entries_in (set blocks place.block block) ≡ insert (entries_in blocks) (number_of (lengths_in blocks) place) e
  inserted e within is = edited (λ xs k. insert xs k e) (insert_right e) blocks place d block lt is
      (λ rest. insert-append_left there rest place.offset e within)

  pub written : (e : KeyEntry) → place.offset < length there → block.entries ≡ set there place.offset e
      → entries_in (set blocks place.block block) ≡ set (entries_in blocks) (number_of (lengths_in blocks) place) e
  written e within is = edited (λ xs k. set xs k e) (set_right e) blocks place d block lt is
      (λ rest. set-append_left there rest place.offset e within)

  pub taken : place.offset < length there → block.entries ≡ remove there place.offset
      → entries_in (set blocks place.block block) ≡ remove (entries_in blocks) (number_of (lengths_in blocks) place)
  taken within is = edited (λ xs k. remove xs k) remove_right blocks place d block lt is
      (λ rest. remove-append_left there rest place.offset within)

  pub unchanged : block.entries ≡ there → entries_in (set blocks place.block block) ≡ entries_in blocks
  unchanged is = edited (λ xs k. xs) (λ xs ys k. refl) blocks place d block lt is (λ rest. refl)

  pub same_lengths : length block.entries ≡ length there → lengths_in (set blocks place.block block) ≡ lengths_in blocks
  same_lengths same = map-set size blocks place.block block ∙ (ap (λ (n : ℕ). set (lengths_in blocks) place.block n)
      (same ∙ sym (length_there blocks place.block d lt)) ∙ set-get_or (lengths_in blocks) place.block 0)

-- an entry that is put into room that was made for it
pub inserted_in : (old mid new : List BlockValue) (place : Place) (e : KeyEntry)
    → entries_in new ≡ insert (entries_in mid) (number_of (lengths_in mid) place) e → entries_in mid ≡ entries_in old
    → lengths_in mid ≡ lengths_in old → entries_in new ≡ insert (entries_in old) (number_of (lengths_in old) place) e
inserted_in old mid new place e is entries lengths = is ∙ (λ i. insert (entries i) (number_of (lengths i) place) e)

-- two blocks in the place of one
pub halved : (blocks : List BlockValue) (b : ℕ) (lower upper whole : BlockValue) → b < length blocks
    → lower.entries ++ upper.entries ≡ whole.entries
    → entries_in (insert (set blocks b lower) (suc b) upper) ≡ entries_in (set blocks b whole)
halved [] b lower upper whole lt is = absurd (omega arith)
halved (x ∷ xs) zero lower upper whole lt is =
    sym (append_assoc lower.entries upper.entries (entries_in xs)) ∙ ap (λ (l : List KeyEntry). l ++ entries_in xs) is
halved (x ∷ xs) (suc b) lower upper whole lt is =
    ap (λ (l : List KeyEntry). x.entries ++ l) (halved xs b lower upper whole (omega arith) is)

-- an empty block goes
pub dropped : (blocks : List BlockValue) (b : ℕ) (d : BlockValue) → b < length blocks → (get_or blocks b d).entries ≡ []
    → entries_in (remove blocks b) ≡ entries_in blocks
dropped [] b d lt is = absurd (omega arith)
dropped (x ∷ xs) zero d lt is = ap (λ (l : List KeyEntry). l ++ entries_in xs) (sym is)
dropped (x ∷ xs) (suc b) d lt is = ap (λ (l : List KeyEntry). x.entries ++ l) (dropped xs b d (omega arith) is)

-- an entry that is put into a half of a full block
module _ (xs : List KeyEntry) (at : ℕ) (e : KeyEntry) (lower upper : BlockValue) (full : length xs ≡ 64) where
  pub lower_insert : at ≤ 32 → (cut : List KeyEntry) → cut ≡ take 32 xs → lower.entries ≡ insert cut at e
      → upper.entries ≡ drop 32 xs → IsSplit (insert xs at e) lower upper
  lower_insert le cut is_cut is_lower is_upper =
      let front : length (take 32 xs) ≡ 32 = omega (arith, length-take 32 xs) in
      let low : lower.entries ≡ insert (take 32 xs) at e =
      is_lower ∙ ap (λ (l : List KeyEntry). insert l at e) is_cut in
      let longer = length-insert (take 32 xs) at e (omega arith) in
      record {
        joined = (λ i. low i ++ is_upper i) ∙ (sym (insert-append_left (take 32 xs) (drop 32 xs) at e (omega arith))
            ∙ ap (λ (l : List KeyEntry). insert l at e) (take-append-drop 32 xs));
        halves = inr (
          omega (arith, ap length low, longer, front),
          omega (arith, ap length is_upper, length-drop 32 xs),
        );
      }

  pub upper_insert : 32 < at → at ≤ 64 → (cut : List KeyEntry) → cut ≡ drop 32 xs → lower.entries ≡ take 32 xs
      → upper.entries ≡ insert cut (at - 32) e → IsSplit (insert xs at e) lower upper
  upper_insert more le cut is_cut is_lower is_upper =
      let front : length (take 32 xs) ≡ 32 = omega (arith, length-take 32 xs) in
      let high : upper.entries ≡ insert (drop 32 xs) (at - 32) e =
      is_upper ∙ ap (λ (l : List KeyEntry). insert l (at - 32) e) is_cut in
      let back : length (drop 32 xs) ≡ 32 = omega (arith, length-drop 32 xs) in
      let longer = length-insert (drop 32 xs) (at - 32) e (omega arith) in
      record {
        joined = (λ i. is_lower i ++ high i)
            ∙ (sym (insert-append_right (take 32 xs) (drop 32 xs) 32 at e front (omega arith))
            ∙ ap (λ (l : List KeyEntry). insert l at e) (take-append-drop 32 xs));
        halves = inl (omega (arith, ap length is_lower, front), omega (arith, ap length high, longer, back));
      }

-- halves are blocks that an index may have
pub half_sized : (entries : List KeyEntry) (lower upper : BlockValue) → IsSplit entries lower upper
    → IsSized lower × IsSized upper
half_sized entries lower upper cut = elim cut.halves [
  | inl (low, high) ↦ ((omega (arith, low), omega (arith, low)), (omega (arith, high), omega (arith, high)))
  | inr (low, high) ↦ ((omega (arith, low), omega (arith, low)), (omega (arith, high), omega (arith, high)))
]

-- ---- places

pub number_inside : (blocks : List BlockValue) (place : Place) → HasEntry (lengths_in blocks) place
    → number_of (lengths_in blocks) place < length (entries_in blocks)
number_inside blocks place has =
    let more = sum_by_more (λ (n : ℕ). n) (lengths_in blocks) place.block 0 has.0 in
    let most = sum_by-take-le (λ (n : ℕ). n) (lengths_in blocks) (place.block + 1) in
    omega (arith, more, most, has.1, all_entries blocks)

-- the entry that stands at a place
pub entry_there : (blocks : List BlockValue) (place : Place) (d : BlockValue) → HasEntry (lengths_in blocks) place
    → (e : KeyEntry) → get_or (entries_in blocks) (number_of (lengths_in blocks) place) e
    ≡ get_or (get_or blocks place.block d).entries place.offset e
entry_there blocks place d has e =
    let lt : place.block < length blocks = omega (arith, has.0, blocks_counted blocks) in
    let count : length (entries_in (take place.block blocks)) + place.offset ≡ number_of (lengths_in blocks) place =
    omega (arith, before_block blocks place.block) in
    ap (λ (n : ℕ). get_or (entries_in blocks) n e) (sym count) ∙ get_or-flat_map held blocks place.block place.offset d
    e lt (omega (arith, has.1, length_there blocks place.block d lt))

pub has_within : (lengths : List ℕ) (place : Place) → HasEntry lengths place → number_of lengths place < sum lengths
has_within lengths place has = omega (
  arith,
  sum_by_more (λ (n : ℕ). n) lengths place.block 0 has.0,
  sum_by-take-le (λ (n : ℕ). n) lengths (place.block + 1),
  has.1,
)

pub entry_read : (blocks : List BlockValue) (place : Place) (block : BlockValue) → HasEntry (lengths_in blocks) place
    → block ≡ get_or blocks place.block block → (e d : KeyEntry) → e ≡ get_or block.entries place.offset d
    → e ≡ get_or (entries_in blocks) (number_of (lengths_in blocks) place) d
entry_read blocks place block has read e d is =
    is ∙ (ap (λ (x : BlockValue). get_or x.entries place.offset d) read ∙ sym (entry_there blocks place block has d))

-- the entries that stand from a place on in its block
pub entries_read : (blocks : List BlockValue) (place : Place) (high : ℕ) (block : BlockValue) (part : List KeyEntry)
    → place.block < length (lengths_in blocks) → high ≤ get_or (lengths_in blocks) place.block 0 → block
    ≡ get_or blocks place.block block → part ≡ between place.offset high block.entries → (k : ℕ) → k < length part
    → (d : KeyEntry) → get_or part k (get_or (entries_in blocks) (number_of (lengths_in blocks) place + k) d)
    ≡ get_or (entries_in blocks) (number_of (lengths_in blocks) place + k) d
entries_read blocks place high block part lt le read is k less d =
    let inside : place.block < length blocks = omega (arith, lt, blocks_counted blocks) in
    let long : high ≤ length block.entries = omega (
      arith,
      le,
      length_there blocks place.block block inside,
      ap (λ (x : BlockValue). length x.entries) read,
    ) in
    let count : length part ≡ high - place.offset =
    ap (λ (l : List KeyEntry). length l) is ∙ length-between block.entries place.offset high long in
    let there : Place = record { block = place.block; offset = place.offset + k } in
    let has : HasEntry (lengths_in blocks) there = (lt, omega (arith, less, count, le)) in
    let same : number_of (lengths_in blocks) there ≡ number_of (lengths_in blocks) place + k = omega arith in
    let x : KeyEntry = get_or (entries_in blocks) (number_of (lengths_in blocks) place + k) d in
    let within : number_of (lengths_in blocks) place + k < length (entries_in blocks) =
    omega (arith, number_inside blocks there has, same) in
    (λ i. get_or (is i) k x)
    ∙ (get_or-between block.entries place.offset high k x (omega (arith, less, count))
    ∙ (ap (λ (b : BlockValue). get_or b.entries (place.offset + k) x) read
    ∙ (sym (entry_there blocks there block has x)
    ∙ (ap (λ (n : ℕ). get_or (entries_in blocks) n x) same
    ∙ get_or_default (entries_in blocks) (number_of (lengths_in blocks) place + k) x d within))))

-- an item of these
pub item_there : (blocks : List BlockValue) (place : Place) (high : ℕ) (items : List KeyEntry)
    → place.block < length (lengths_in blocks) → high ≤ get_or (lengths_in blocks) place.block 0
    → place.offset + length items ≡ high → ((k : ℕ) → k < length items → (d : KeyEntry)
    → get_or items k (get_or (entries_in blocks) (number_of (lengths_in blocks) place + k) d)
    ≡ get_or (entries_in blocks) (number_of (lengths_in blocks) place + k) d) → (k : ℕ) → k < length items
    → (e : KeyEntry) → (number_of (lengths_in blocks) place + k < length (entries_in blocks))
    × ((d : KeyEntry) → get_or items k e ≡ get_or (entries_in blocks) (number_of (lengths_in blocks) place + k) d)
item_there blocks place high items lt le count each k less e =
    let there : Place = record { block = place.block; offset = place.offset + k } in
    let has : HasEntry (lengths_in blocks) there = (lt, omega (arith, less, count, le)) in (
      omega (arith, number_inside blocks there has),
      λ d. get_or_default items k e (get_or (entries_in blocks)
          (number_of (lengths_in blocks) place + k) d) less ∙ each k less d,
    )

-- behind all blocks stand all entries before
pub past_number : (blocks : List BlockValue) (place : Place) → place.block ≡ length blocks → place.offset ≡ 0
    → number_of (lengths_in blocks) place ≡ length (entries_in blocks)
past_number blocks place past first = omega (
  arith,
  first,
  ap sum (take_all place.block (lengths_in blocks) (omega (arith, past, blocks_counted blocks))),
  all_entries blocks,
)

pub end_number : (blocks : List BlockValue) (b : ℕ) (block : BlockValue) → b + 1 ≡ length blocks
    → block ≡ get_or blocks b block → (size : ℕ) → size ≡ length block.entries
    → sum (take b (lengths_in blocks)) + size ≡ length (entries_in blocks)
end_number blocks b block last read size is =
    let next = next_block blocks b block (omega arith) in
    let all = ap sum (take_all (b + 1) (lengths_in blocks) (omega (arith, blocks_counted blocks))) in
    omega (arith, next, all, all_entries blocks, is, ap (λ (x : BlockValue). length x.entries) read)

-- a place in an earlier block has a smaller number
pub stops_ordered : (lengths : List ℕ) (first second : Place) → IsStop lengths first → IsStop lengths second
    → first.block < second.block → number_of lengths first ≤ number_of lengths second
stops_ordered lengths first second (inl has) _ less =
    let next = sum_by_more (λ (n : ℕ). n) lengths first.block 0 has.0 in
    let part = sum_by-take-le (λ (n : ℕ). n) (take second.block lengths) (first.block + 1) in
    let same = ap sum (take-take (first.block + 1) second.block lengths (omega arith)) in
    omega (arith, next, part, same, has.1)
stops_ordered lengths first second (inr end) (inl has) less = absurd (omega (arith, end.0, has.0))
stops_ordered lengths first second (inr end) (inr also) less = absurd (omega (arith, end.0, also.0))

pub stop_end : (lengths : List ℕ) (place : Place) → IsStop lengths place → length lengths ≤ place.block
    → number_of lengths place ≡ sum lengths
stop_end lengths place (inl has) past = absurd (omega (arith, has.0, past))
stop_end lengths place (inr end) past = omega (arith, ap sum (take_all place.block lengths past), end.1)

pub stop_has : (lengths : List ℕ) (place : Place) → IsStop lengths place → place.block < length lengths
    → HasEntry lengths place
stop_has lengths place (inl has) less = has
stop_has lengths place (inr end) less = absurd (omega (arith, end.0, less))

-- an entry after all others leaves each block but the last full
pub filled_more : (old new : List ℕ) (place : Place) → IsEnd old place → HasOneMore old place new → IsPacked old
    → IsPacked new
filled_more old new place (inl (last, room)) (inl (inside, short, is)) filled k less =
    let long = ap (λ (l : List ℕ). length l) is ∙ length-set old place.block (get_or old place.block 0 + 1) in
    ap (λ (l : List ℕ). get_or l k 0) is
    ∙ (get_or-set_other old place.block k (get_or old place.block 0 + 1) 0
    (λ same. omega (arith, same, last, less, long))
    ∙ filled k (omega (arith, less, long)))
filled_more old new place (inl (last, room)) (inr (inl (inside, full, is))) filled k less =
    absurd (omega (arith, room, full))
filled_more old new place (inl (last, room)) (inr (inr (behind, is))) filled k less =
    absurd (omega (arith, last, behind))
filled_more old new place (inr (past, all)) (inl (inside, short, is)) filled k less =
    absurd (omega (arith, past, inside))
filled_more old new place (inr (past, all)) (inr (inl (inside, full, is))) filled k less =
    absurd (omega (arith, past, inside))
filled_more old new place (inr (past, all)) (inr (inr (behind, is))) filled k less =
    let long = ap (λ (l : List ℕ). length l) is ∙ length-append old (1 ∷ []) in
    ap (λ (l : List ℕ). get_or l k 0) is
    ∙ (get_or_append_left old (1 ∷ []) 0 k (omega (arith, less, long)) ∙ elim (cases_lt (k + 1) (length old)) [
      | inl before ↦ filled k before
      | inr after ↦ all k (omega (arith, less, long, after))
    ])

-- the facts behind the order of two places
reads_before : (first second : Place) → precedes first second ≡ true
    → (first.block < second.block) ⊎ ((first.block ≡ second.block) × (first.offset < second.offset))
reads_before first second is = elim (cases_lt first.block second.block) [
  | inl less ↦ inl less
  | inr more ↦ inr (grind (arith, nat_tests), grind (arith, nat_tests))
]

pub not_before : (lengths : List ℕ) (first second : Place) → IsStop lengths first → IsStop lengths second
    → precedes first second ≡ false → number_of lengths second ≤ number_of lengths first
not_before lengths first second one other is = elim (cases_lt second.block first.block) [
  | inl less ↦ stops_ordered lengths second first other one less
  | inr more ↦ (let same : second.block ≡ first.block = grind (arith, nat_tests) in let le : second.offset
      ≤ first.offset = grind (arith, nat_tests) in omega (arith, le, ap (λ (n : ℕ). sum (take n lengths)) same))
]

-- the pairs from a place on in its block stand before a place in a later one
pub part_before : (lengths : List ℕ) (first second : Place) (high : ℕ) → HasEntry lengths first → precedes first second
    ≡ true → high ≤ get_or lengths first.block 0 → (first.block ≡ second.block → high ≤ second.offset)
    → sum (take first.block lengths) + high ≤ number_of lengths second
part_before lengths first second high has is within here = by (reads_before first second is)
  where
    by : (first.block < second.block) ⊎ ((first.block ≡ second.block) × (first.offset < second.offset))
        → sum (take first.block lengths) + high ≤ number_of lengths second
    by (inl less) =
        let next = sum_by_more (λ (n : ℕ). n) lengths first.block 0 has.0 in
        let part = sum_by-take-le (λ (n : ℕ). n) (take second.block lengths) (first.block + 1) in
        let same = ap sum (take-take (first.block + 1) second.block lengths (omega arith)) in
        omega (arith, next, part, same, within)
    by (inr same) = omega (arith, here same.0, ap (λ (n : ℕ). sum (take n lengths)) same.0)
