-- The first entries of blocks show the only block that can have a key.
use Rattle.std.proofs.Common.{◌≡◌, ℕ, ◌<◌, ◌+◌, ◌-◌, List, ◌++◌, length, sum, get_or, take, drop, suc, sym, ap, subst}
use Rattle.std.proofs.Common.{◌∙◌, arith}
use Rattle.std.specs.List.{AllWithin, HoldsAt}
use Rattle.std.specs.declared.cmp.Ordering.TheVariants.{Less, Equal, Greater}
use Rattle.std.proofs.lemmas.List.{take_all}
use Rattle.sm_arena.specs.Pieces.{Places, IsPlaced, bytes_of}
use Rattle.sm_ranges.specs.KeyOrder.{key_cmp}
use Rattle.sm_ranges.specs.Keyed.{IsKeyPlace, IsKeyGap}
use Rattle.sm_map.specs.KeyMap.{KeyPair, key_of, IsKeyMap}
use Rattle.sm_map.specs.KeyEntry.{pairs_of, HasKeys}
use Rattle.sm_map.specs.Block.{BlockValue}
use Rattle.sm_map.specs.Blocks.{entries_in, lengths_in, number_of, IsBlockGap}
use Rattle.sm_map.specs.declared.key_entry.KeyEntry.{KeyEntry}
use Rattle.sm_map.specs.declared.place.Place.{Place}
use Rattle.sm_map.proofs.Entries.{length-pairs, read_less, read_equal, read_greater}
use Rattle.sm_map.proofs.Parts.{part_rises, place_in_part, gap_in_part}
use Rattle.sm_map.proofs.Blocks.{all_entries, blocks_counted, length_there, pair_parts, front_pairs, next_block}
use Rattle.sm_map.proofs.Blocks.{number_inside, entry_there}

-- no entry stands after all blocks
pub none_after : (placed : Places) (blocks : List BlockValue) (key : List ℕ)
    → AllWithin (λ (pair : KeyPair). key_cmp pair.key key ≡ Greater) (pairs_of placed (entries_in blocks))
    (sum (take (length blocks) (lengths_in blocks))) (length (pairs_of placed (entries_in blocks)))
none_after placed blocks key k d more within =
    let all = ap sum (take_all (length blocks) (lengths_in blocks) (omega (arith, blocks_counted blocks))) in
    absurd (omega (arith, all, all_entries blocks, length-pairs placed (entries_in blocks)))

-- the first entry of a block
module _ (placed : Places) (blocks : List BlockValue) (key : List ℕ)
    (rising : IsKeyMap (pairs_of placed (entries_in blocks))) (b : ℕ) (lt : b < length blocks) (block : BlockValue)
    (read : block ≡ get_or blocks b block) (some : 0 < length block.entries) (e : KeyEntry)
    (first : HoldsAt (λ (x : KeyEntry). e ≡ x) block.entries 0) (bytes : List ℕ)
    (is : bytes ≡ bytes_of placed e.key) where
  abbrev start : ℕ
  start = sum (take b (lengths_in blocks))

  abbrev at : Place
  at = record { block = b; offset = 0 }

  same_size : length (get_or blocks b block).entries ≡ length block.entries
  same_size = ap (λ (x : BlockValue). length x.entries) (sym read)

  has : (b < length (lengths_in blocks)) × (0 < get_or (lengths_in blocks) b 0)
  has = (omega (arith, blocks_counted blocks), omega (arith, length_there blocks b block lt, same_size))

  no_more : start + 0 ≡ start
  no_more = omega arith

  here : get_or (entries_in blocks) start e ≡ e
  here = ap (λ (n : ℕ). get_or (entries_in blocks) n e) (sym no_more)
      ∙ (entry_there blocks at block has e ∙ (ap (λ (x : BlockValue). get_or x.entries 0 e) (sym read) ∙ sym (first e)))

  within : start < length (entries_in blocks)
  within = omega (arith, number_inside blocks at has)

  spelled : bytes ≡ bytes_of placed (get_or (entries_in blocks) start e).key
  spelled = is ∙ ap (λ (x : KeyEntry). bytes_of placed x.key) (sym here)

  pub first_less : Less ≡ key_cmp bytes key
      → AllWithin (λ (pair : KeyPair). key_cmp pair.key key ≡ Less) (pairs_of placed (entries_in blocks)) 0 (start + 1)
  first_less = read_less placed (entries_in blocks) key rising start within e bytes spelled

  pub first_greater : Greater ≡ key_cmp bytes key → AllWithin (λ (pair : KeyPair). key_cmp pair.key key ≡ Greater)
      (pairs_of placed (entries_in blocks)) start (length (pairs_of placed (entries_in blocks)))
  first_greater = read_greater placed (entries_in blocks) key rising start within e bytes spelled

  pub first_placed : HasKeys placed (entries_in blocks) → IsPlaced placed e.key
  first_placed keys = subst (λ (x : KeyEntry). IsPlaced placed x.key) here (keys start e within)

  pub first_equal : Equal ≡ key_cmp bytes key → IsKeyPlace key_of (pairs_of placed (entries_in blocks)) key
      (number_of (lengths_in blocks) (record { block = b; offset = 0 }))
  first_equal h = subst (λ (n : ℕ). IsKeyPlace key_of (pairs_of placed (entries_in blocks)) key n) (sym no_more)
      (read_equal placed (entries_in blocks) key rising start within e bytes spelled h)

-- a search in one block
module _ (placed : Places) (blocks : List BlockValue) (b : ℕ) (lt : b < length blocks) (block : BlockValue)
    (read : block ≡ get_or blocks b block) where
  abbrev front : List KeyPair
  front = pairs_of placed (entries_in (take b blocks))

  abbrev part : List KeyPair
  part = pairs_of placed block.entries

  abbrev back : List KeyPair
  back = pairs_of placed (entries_in (drop (suc b) blocks))

  split : pairs_of placed (entries_in blocks) ≡ front ++ (part ++ back)
  split = pair_parts placed blocks b block lt
      ∙ ap (λ (x : BlockValue). front ++ (pairs_of placed x.entries ++ back)) (sym read)

  pub block_rises : IsKeyMap (pairs_of placed (entries_in blocks)) → IsKeyMap (pairs_of placed block.entries)
  block_rises = part_rises (pairs_of placed (entries_in blocks)) front part back split

  pub block_keys : HasKeys placed (entries_in blocks) → HasKeys placed block.entries
  block_keys keys k d less =
      let has : (b < length (lengths_in blocks)) × (k < get_or (lengths_in blocks) b 0) = (
        omega (arith, blocks_counted blocks),
        omega (arith, length_there blocks b block lt, ap (λ (x : BlockValue). length x.entries) read),
      ) in
      let place : Place = record { block = b; offset = k } in
      subst (λ (x : KeyEntry). IsPlaced placed x.key)
      (entry_there blocks place block has d ∙ ap (λ (x : BlockValue). get_or x.entries k d) (sym read))
      (keys (number_of (lengths_in blocks) place) d (number_inside blocks place has))

  size : length (get_or blocks b block).entries ≡ length part
  size = ap (λ (x : BlockValue). length x.entries) (sym read) ∙ sym (length-pairs placed block.entries)

  module _ (key : List ℕ) (offset : ℕ) where
    count : length front + offset ≡ number_of (lengths_in blocks) (record { block = b; offset = offset })
    count = omega (arith, front_pairs placed blocks b)

    pub found_in_block : IsKeyPlace key_of (pairs_of placed block.entries) key offset
        → IsKeyPlace key_of (pairs_of placed (entries_in blocks)) key
        (number_of (lengths_in blocks) (record { block = b; offset = offset }))
    found_in_block place = subst (λ (n : ℕ). IsKeyPlace key_of (pairs_of placed (entries_in blocks)) key n) count
        (place_in_part (pairs_of placed (entries_in blocks)) front part back split key offset place)

    pub absent_in_block : IsBlockGap (pairs_of placed (entries_in blocks)) (lengths_in blocks) key (b + 1)
        → IsKeyGap key_of (pairs_of placed block.entries) key offset
        → IsKeyGap key_of (pairs_of placed (entries_in blocks)) key
        (number_of (lengths_in blocks) (record { block = b; offset = offset }))
    absent_in_block between gap =
        let this : (b + 1) - 1 ≡ b = omega arith in
        let before = subst (λ (n : ℕ). AllWithin (λ (pair : KeyPair). key_cmp pair.key key ≡ Less) (pairs_of placed
        (entries_in blocks)) 0 (sum (take n (lengths_in blocks)) + 1)) this (between.before (omega arith)) in
        let ends : sum (take (b + 1) (lengths_in blocks)) ≡ length front + length part =
        omega (arith, next_block blocks b block lt, size, front_pairs placed blocks b) in
        let after = subst (λ (n : ℕ). AllWithin (λ (pair : KeyPair). key_cmp pair.key key ≡ Greater) (pairs_of placed
        (entries_in blocks)) n (length (pairs_of placed (entries_in blocks)))) ends between.after in
        subst (λ (n : ℕ). IsKeyGap key_of (pairs_of placed (entries_in blocks)) key n) count
        (gap_in_part (pairs_of placed (entries_in blocks)) front part back split key offset
        (λ k d low high. before k d low (omega (arith, front_pairs placed blocks b))) after gap)
