-- The other chunks after a piece is written into one, and how many bytes chunks can have.
use Rattle.std.proofs.Common.{◌≡◌, ℕ, zero, suc, ◌+◌, ◌*◌, ◌^◌, ◌<◌, ◌≤◌, ◌-◌, List, [], ◌∷◌, ◌++◌, length, take, drop}
use Rattle.std.proofs.Common.{get_or, set, replicate, refl, sym, ap, subst, ◌∙◌, arith, inl, inr, ◌⊎◌}
use Rattle.std.proofs.Math.Seq.{drop-append_seam, take-add}
use Rattle.std.proofs.lemmas.Bool.{cases_lt}
use Rattle.std.proofs.lemmas.List.{append-nil, append_assoc, length-append, length-set, length-take, length-drop}
use Rattle.std.proofs.lemmas.List.{length-map, take-append-le, drop-append-le, drop-drop, drop-take, take-take, set-set}
use Rattle.std.proofs.lemmas.List.{set-get_or, map-append, map-set, get_or-map, get_or-take, get_or-append_right}
use Rattle.std.proofs.lemmas.List.{get_or-set_same, get_or-set_other, set-append_right, take-map}
use Rattle.std.proofs.lemmas.List.Sums.{sum_by-cons, sum_by-append, sum_by-set}
use Rattle.std.proofs.lemmas.List.Folds.{sum_by-replicate}
use Rattle.sm_arena.specs.declared.span.Span.{Span}
use Rattle.sm_arena.specs.declared.arena_block.ArenaBlock.{ArenaBlock}
use Rattle.sm_arena.specs.Memory.{made_size, joined_size, IsJoined}
use Rattle.sm_arena.specs.declared.blocks.Blocks.{Blocks}
use Rattle.sm_arena.specs.Blocks.{written_in, chunks_in, bytes_at, total, IsWriting, IsFilled, HasSpace}
use Rattle.sm_arena.specs.Blocks.{EndsJoined}
use Rattle.sm_arena.specs.Chunks.{chunks_of}
use Rattle.sm_arena.proofs.Sizes.{written_fits, block_fits, flat_set}

pub is_nil : (xs : List ℕ) → length xs ≤ 0 → xs ≡ []
is_nil [] le = refl
is_nil (x ∷ xs) le = absurd (omega arith)

take_none : (n : ℕ) (xs : List ℕ) → n ≤ 0 → take n xs ≡ []
take_none zero xs le = refl
take_none (suc n) xs le = absurd (omega arith)

take_of_none : (n : ℕ) → ◌≡◌ {A = List ℕ} (take n []) []
take_of_none zero = refl
take_of_none (suc n) = refl

drop_all : (xs : List ℕ) → drop (length xs) xs ≡ []
drop_all [] = refl
drop_all (x ∷ xs) = drop_all xs

pub take_whole : (xs : List ℕ) → take (length xs) xs ≡ xs
take_whole [] = refl
take_whole (x ∷ xs) = ap (λ (l : List ℕ). x ∷ l) (take_whole xs)

empty_at : (k i : ℕ) → ◌≡◌ {A = List ℕ} (get_or (replicate k []) i []) []
empty_at zero i = refl
empty_at (suc k) zero = refl
empty_at (suc k) (suc i) = empty_at k i

-- empty chunks more change no chunk
grown_at : (old : List (List ℕ)) (k i : ℕ) → get_or (old ++ replicate k []) i [] ≡ get_or old i []
grown_at [] k i = empty_at k i
grown_at (x ∷ old) k zero = refl
grown_at (x ∷ old) k (suc i) = grown_at old k i

-- so every span reads the same
pub grown_reads : (old new : List (List ℕ)) (k : ℕ) → new ≡ old ++ replicate k [] → (s : Span)
    → bytes_at new s ≡ bytes_at old s
grown_reads old new k grown s = ap (λ (l : List (List ℕ)). bytes_at l s) grown
    ∙ ap (λ (l : List ℕ). take s.length (drop s.start l)) (grown_at old k s.chunk)

-- a run that is full inside a list is the same in a longer one
run_stays : (xs ys : List ℕ) (start n : ℕ) → length (take n (drop start xs)) ≡ n
    → take n (drop start (xs ++ ys)) ≡ take n (drop start xs)
run_stays xs ys start n full = by (cases_lt 0 n)
  where
    by : (0 < n) ⊎ (n ≤ 0) → take n (drop start (xs ++ ys)) ≡ take n (drop start xs)
    by (inl some) =
        let ends : start + n ≤ length xs =
        omega (arith, length-take n (drop start xs), length-drop start xs, full, some) in
        ap (λ (l : List ℕ). take n l) (drop-append-le start xs ys (omega (arith, ends)))
        ∙ take-append-le n (drop start xs) ys (omega (arith, ends, length-drop start xs))
    by (inr none) = take_none n (drop start (xs ++ ys)) none ∙ sym (take_none n (drop start xs) none)

-- a piece is written behind the bytes of a chunk
module _ (old new : List (List ℕ)) (k place : ℕ) (piece : List ℕ) (inside : place < length (old ++ replicate k []))
    (is : new ≡ set (old ++ replicate k []) place (get_or (old ++ replicate k []) place [] ++ piece)) where
  abbrev middle : List (List ℕ)
  middle = old ++ replicate k []

  abbrev before : List ℕ
  before = get_or middle place []

  abbrev span : Span
  span = record { chunk = place; start = length before; length = length piece }

  here : get_or new place [] ≡ before ++ piece
  here = ap (λ (l : List (List ℕ)). get_or l place []) is ∙ get_or-set_same middle place (before ++ piece) [] inside

  elsewhere : (i : ℕ) → (i ≡ place → ⊥) → get_or new i [] ≡ get_or old i []
  elsewhere i other = ap (λ (l : List (List ℕ)). get_or l i []) is
      ∙ (get_or-set_other middle place i (before ++ piece) [] other ∙ grown_at old k i)

  keeps : (s : Span) → length (bytes_at old s) ≡ s.length → bytes_at new s ≡ bytes_at old s
  keeps s full = by (cases_lt s.chunk place) (cases_lt place s.chunk)
    where
      apart : (s.chunk ≡ place → ⊥) → bytes_at new s ≡ bytes_at old s
      apart other = ap (λ (l : List ℕ). take s.length (drop s.start l)) (elsewhere s.chunk other)

      at_place : s.chunk ≡ place → bytes_at new s ≡ bytes_at old s
      at_place same =
          let was : get_or old s.chunk [] ≡ before =
          sym (grown_at old k s.chunk) ∙ ap (λ (i : ℕ). get_or middle i []) same in
          let now : get_or new s.chunk [] ≡ before ++ piece = ap (λ (i : ℕ). get_or new i []) same ∙ here in
          let full' : length (take s.length (drop s.start before)) ≡ s.length =
          ap (λ (l : List ℕ). length (take s.length (drop s.start l))) (sym was) ∙ full in
          ap (λ (l : List ℕ). take s.length (drop s.start l)) now ∙ (run_stays before piece s.start s.length full'
          ∙ ap (λ (l : List ℕ). take s.length (drop s.start l)) (sym was))

      by : (s.chunk < place) ⊎ (place ≤ s.chunk) → (place < s.chunk) ⊎ (s.chunk ≤ place)
          → bytes_at new s ≡ bytes_at old s
      by (inl lt) above = apart (λ e. omega (arith, lt, e))
      by (inr le) (inl lt) = apart (λ e. omega (arith, lt, e))
      by (inr le) (inr ge) = at_place (omega (arith, le, ge))

  totals : total new ≡ total old + length piece
  totals =
      let grown : total middle ≡ total old = omega (
        arith,
        sum_by-append {X = List ℕ} length old (replicate k []),
        sum_by-replicate {X = List ℕ} length k [],
      ) in
      let over : total new + length before ≡ total middle + length (before ++ piece) =
      ap (λ (l : List (List ℕ)). total l + length before) is
      ∙ sum_by-set {X = List ℕ} length middle place (before ++ piece) [] inside in
      omega (arith, over, grown, length-append before piece)

  pub is_writing : IsWriting old piece span new
  is_writing = record {
    keeps = keeps;
    reads = ap (λ (l : List ℕ). take (length piece) (drop (length before) l)) here
        ∙ (ap (λ (l : List ℕ). take (length piece) l) (drop-append_seam before piece) ∙ take_whole piece);
    whole = refl;
    fresh = ap (λ (l : List ℕ). take (length piece) (drop (length before) l)) (sym (grown_at old k place))
        ∙ (ap (λ (l : List ℕ). take (length piece) l) (drop_all before) ∙ take_of_none (length piece));
    total = totals;
  }

-- the last chunk of these, written whole
pub joins : (old : List (List ℕ)) (piece : List ℕ)
    → IsWriting old piece (record { chunk = length old; start = 0; length = length piece }) (old ++ piece ∷ [])
joins old piece =
    let none : length old - length old ≡ 0 = omega arith in
    let empty : get_or (old ++ replicate 1 []) (length old) [] ≡ [] = grown_at old 1 (length old) ∙ past old in
    let inside : length old < length (old ++ replicate 1 []) = omega (arith, length-append old ([] ∷ [])) in
    let same : set (old ++ replicate 1 []) (length old) piece ≡ old ++ piece ∷ [] =
    set-append_right old (replicate 1 []) (length old) (length old) piece refl (omega arith)
    ∙ ap (λ (n : ℕ). old ++ set (replicate 1 []) n piece) none in
    let is : old ++ piece ∷ [] ≡ set (old ++ replicate 1 []) (length old)
    (get_or (old ++ replicate 1 []) (length old) [] ++ piece) =
    sym same ∙ ap (λ (l : List ℕ). set (old ++ replicate 1 []) (length old) (l ++ piece)) (sym empty) in
    rw empty at (is_writing old (old ++ piece ∷ []) 1 (length old) piece inside is)
  where
    past : (xs : List (List ℕ)) → get_or xs (length xs) [] ≡ []
    past [] = refl
    past (x ∷ xs) = past xs

-- a piece is written into a block
module _ (old : List ArenaBlock) (place : ℕ) (piece : List ℕ) (inside : place < length old) (block block' : ArenaBlock)
    (at : get_or old place block ≡ block) (bytes : written_in block' ≡ written_in block ++ piece)
    (limit : block'.limit ≡ block.limit) (made : made_size block'.memory ≡ made_size block.memory)
    (joined : joined_size block'.memory ≡ joined_size block.memory) where
  was : get_or (chunks_in old) place [] ≡ written_in block
  was = get_or-map written_in old place block [] inside
      ∙ ap written_in at

  room : (count : ℕ) → HasSpace old place (length piece + count) → HasSpace (set old place block') place count
  room count has =
      let here : (d : ArenaBlock) → get_or (set old place block') place d ≡ block' =
      λ d. get_or-set_same old place block' d inside in
      let before : length (written_in block) + (length piece + count) ≤ block.limit = rw at at (has.1 block) in
      let after : length (written_in block') + count ≤ block'.limit =
      omega (arith, before, ap length bytes, length-append (written_in block) piece, limit) in
      (omega (arith, inside, length-set old place block'), λ d. rw (here d) after)

  pub fills : IsFilled old place piece (set old place block')
  fills = record {
    chunks = map-set written_in old place block'
        ∙ ap (λ (l : List ℕ). set (chunks_in old) place l) (bytes ∙ ap (λ (l : List ℕ). l ++ piece) (sym was));
    room = room;
    sizes = flat_set (λ (b : ArenaBlock). made_size b.memory) old place block block' at made;
    joined = flat_set (λ (b : ArenaBlock). joined_size b.memory) old place block block' at joined;
  }

-- the bytes in an earlier block
pub reads_earlier : (blocks : List ArenaBlock) (place : ℕ) (s : Span) → s.chunk < place
    → bytes_at (chunks_in (take place blocks)) s ≡ bytes_at (chunks_in blocks) s
reads_earlier blocks place s lt =
    ap (λ (l : List ℕ). take s.length (drop s.start l)) (ap (λ (l : List (List ℕ)). get_or l s.chunk []) (sym (take-map
    written_in place blocks)) ∙ get_or-take place (chunks_in blocks) s.chunk [] lt)

-- a piece is written into the first block behind so many others
pub fills_behind : (old front back : List ArenaBlock) (place : ℕ) (piece : List ℕ) (block block' : ArenaBlock)
    → old ≡ front ++ back → length front ≡ place → place < length old → get_or back 0 block ≡ block → written_in block'
    ≡ written_in block ++ piece → block'.limit ≡ block.limit → made_size block'.memory ≡ made_size block.memory
    → joined_size block'.memory ≡ joined_size block.memory → IsFilled old place piece (front ++ set back 0 block')
fills_behind old front back place piece block block' split count inside at bytes limit made joined =
    let none : place - place ≡ 0 = omega arith in
    let read : get_or old place block ≡ block = ap (λ (l : List ArenaBlock). get_or l place block) split
    ∙ (get_or-append_right front back place place block count (omega arith)
    ∙ (ap (λ (n : ℕ). get_or back n block) none ∙ at)) in
    let here : set old place block' ≡ front ++ set back 0 block' =
    ap (λ (l : List ArenaBlock). set l place block') split ∙ (set-append_right front back place place block' count
    (omega arith) ∙ ap (λ (n : ℕ). front ++ set back n block') none) in
    subst (λ (l : List ArenaBlock). IsFilled old place piece l) here
    (fills old place piece inside block block' read bytes limit made joined)

pub fills_nothing : (old : List ArenaBlock) (place : ℕ) → IsFilled old place [] old
fills_nothing old place = record {
  chunks = sym (ap (λ (l : List ℕ). set (chunks_in old) place l) (append-nil (get_or (chunks_in old) place []))
      ∙ set-get_or (chunks_in old) place []);
  room = λ count has. let same : 0 + count ≡ count = omega arith in subst (λ (n : ℕ). HasSpace old place n) same has;
  sizes = refl;
  joined = refl;
}

-- one piece after the other
pub fills_both : (a b c : List ArenaBlock) (place : ℕ) (p q : List ℕ) → place < length a → IsFilled a place p b
    → IsFilled b place q c → IsFilled a place (p ++ q) c
fills_both a b c place p q inside first second =
    let within : place < length (chunks_in a) =
    omega (arith, inside, length-map a written_in) in
    let x : List ℕ = get_or (chunks_in a) place [] in
    let middle : get_or (chunks_in b) place [] ≡ x ++ p = ap (λ (l : List (List ℕ)). get_or l place []) first.chunks
    ∙ get_or-set_same (chunks_in a) place (x ++ p) [] within in
    let last : set (chunks_in b) place (get_or (chunks_in b) place [] ++ q) ≡ set (chunks_in a) place (x ++ (p ++ q)) =
    (λ i. set (first.chunks i) place (middle i ++ q)) ∙ (set-set (chunks_in a) place (x ++ p) ((x ++ p) ++ q)
    ∙ ap (λ (l : List ℕ). set (chunks_in a) place l) (append_assoc x p q)) in
    record {
      chunks = second.chunks ∙ last;
      sizes = second.sizes ∙ first.sizes;
      joined = second.joined ∙ first.joined;
      room = λ count has. second.room count (first.room (length q + count)
          (subst (λ (n : ℕ). HasSpace a place n) (omega (arith, length-append p q)) has));
    }

pub writes : (old : List (List ℕ)) (middle new : List ArenaBlock) (k place : ℕ) (piece : List ℕ)
    → chunks_in middle ≡ old ++ replicate k [] → place < length middle → IsFilled middle place piece new
    → IsWriting old piece (record {
      chunk = place;
      start = length (get_or (chunks_in middle) place []);
      length = length piece;
    }) (chunks_in new)
writes old middle new k place piece grown inside filled =
    let longer : place < length (old ++ replicate k []) =
    omega (arith, inside, ap length grown, length-map middle written_in) in
    let is : chunks_in new ≡ set (old ++ replicate k []) place (get_or (old ++ replicate k []) place [] ++ piece) =
    filled.chunks ∙ (λ i. set (grown i) place (get_or (grown i) place [] ++ piece)) in
    rw grown (is_writing old (chunks_in new) k place piece longer is)

-- a piece more in the same block
pub writes_next : (old new : List ArenaBlock) (place : ℕ) (piece : List ℕ) → place < length old
    → IsFilled old place piece new
    → IsWriting (chunks_in old) piece (record {
      chunk = place;
      start = length (get_or (chunks_in old) place []);
      length = length piece;
    }) (chunks_in new)
writes_next old new place piece inside filled =
    writes (chunks_in old) old new 0 place piece (sym (append-nil (chunks_in old))) inside filled

-- a write into a block keeps all earlier bytes
pub fills_keep : (old new : List ArenaBlock) (place : ℕ) (piece : List ℕ) → place < length old
    → IsFilled old place piece new → (s : Span) → length (bytes_at (chunks_in old) s) ≡ s.length
    → bytes_at (chunks_in new) s ≡ bytes_at (chunks_in old) s
fills_keep old new place piece inside filled = (writes_next old new place piece inside filled).keeps

-- a part of a span
abbrev pub part_of : Span → ℕ → ℕ → Span
part_of span copied count = record { chunk = span.chunk; start = span.start + copied; length = count }

part_lies : (chunks : List (List ℕ)) (span : Span) (copied count : ℕ) → copied + count ≤ span.length
    → bytes_at chunks (part_of span copied count) ≡ take count (drop copied (bytes_at chunks span))
part_lies chunks span copied count within =
    let x : List ℕ = get_or chunks span.chunk [] in
    let y : List ℕ = drop span.start x in
    let rest : ℕ = span.length - copied in
    let whole : span.length ≡ copied + rest = omega (arith, within) in
    ap (λ (l : List ℕ). take count l) (sym (drop-drop copied span.start x))
    ∙ (sym (take-take count rest (drop copied y) (omega (arith, within))) ∙ (ap (λ (l : List ℕ). take count l)
    (sym (drop-take copied rest y)) ∙ ap (λ (n : ℕ). take count (drop copied (take n y))) (sym whole)))

part_inside : (chunks : List (List ℕ)) (span : Span) (copied count : ℕ) → copied + count ≤ span.length
    → length (bytes_at chunks span) ≡ span.length → length (bytes_at chunks (part_of span copied count)) ≡ count
part_inside chunks span copied count within full =
    let b : List ℕ = bytes_at chunks span in
    let size : length (take count (drop copied b)) ≡ count =
    omega (arith, length-take count (drop copied b), length-drop copied b, full, within) in
    ap length (part_lies chunks span copied count within) ∙ size

-- a span is copied into a block: so many bytes stand there now, and count more come
module _ (old now : List ArenaBlock) (place : ℕ) (span : Span) (copied count : ℕ) (inside : place < length old)
    (full : length (bytes_at (chunks_in old) span) ≡ span.length) (within : copied + count ≤ span.length)
    (filled : IsFilled old place (take copied (bytes_at (chunks_in old) span)) now) where
  abbrev part : Span
  part = part_of span copied count

  part_stays : bytes_at (chunks_in now) part ≡ bytes_at (chunks_in old) part
  part_stays = fills_keep old now place (take copied (bytes_at (chunks_in old) span)) inside filled part
      (part_inside (chunks_in old) span copied count within full)

  pub part_there : length (bytes_at (chunks_in now) part) ≡ count
  part_there = ap length part_stays ∙ part_inside (chunks_in old) span copied count within full

  pub part_room : HasSpace old place span.length → HasSpace now place count
  part_room has =
      let b : List ℕ = bytes_at (chunks_in old) span in
      let room : HasSpace old place (length (take copied b) + count) =
      (has.0, λ d. omega (arith, has.1 d, length-take copied b, full, within)) in
      filled.room count room

  pub part_filled : (new : List ArenaBlock) → IsFilled now place (bytes_at (chunks_in now) part) new
      → IsFilled old place (take (copied + count) (bytes_at (chunks_in old) span)) new
  part_filled new more =
      let b : List ℕ = bytes_at (chunks_in old) span in
      let piece : bytes_at (chunks_in now) part ≡ take count (drop copied b) =
      part_stays ∙ part_lies (chunks_in old) span copied count within in
      let both : IsFilled old place (take copied b ++ bytes_at (chunks_in now) part) new =
      fills_both old now new place (take copied b) (bytes_at (chunks_in now) part) inside filled more in
      subst (λ (l : List ℕ). IsFilled old place l new)
      (ap (λ (l : List ℕ). take copied b ++ l) piece ∙ sym (take-add copied count b)) both

-- a new block is one empty chunk more
pub pushed : (bs : List ArenaBlock) (block : ArenaBlock) → written_in block ≡ []
    → chunks_in (bs ++ block ∷ []) ≡ chunks_in bs ++ replicate 1 []
pushed bs block none =
    map-append written_in bs (block ∷ []) ∙ ap (λ (l : List ℕ). chunks_in bs ++ l ∷ []) none

chunk_fits : (bs : List ArenaBlock) (i : ℕ) → length (get_or (chunks_in bs) i []) < 2 ^ 32
chunk_fits [] i = omega arith
chunk_fits (b ∷ bs) zero = omega (arith, b.written, b.filled, b.small)
chunk_fits (b ∷ bs) (suc i) = chunk_fits bs i

-- the end of a span of bytes is still a number of its type
pub span_fits : (bs : List ArenaBlock) (span : Span) → length (bytes_at (chunks_in bs) span) ≡ span.length
    → 0 < span.length → span.start + span.length < 2 ^ 32
span_fits bs span full some =
    let x : List ℕ = get_or (chunks_in bs) span.chunk [] in
    omega (
      arith,
      full,
      some,
      length-take span.length (drop span.start x),
      length-drop span.start x,
      chunk_fits bs span.chunk,
    )

all_fit : (bs : List ArenaBlock) → total (chunks_in bs) ≤ length bs * 2 ^ 63
all_fit [] = omega arith
all_fit (b ∷ bs) = omega (
  arith,
  sum_by-cons {X = List ℕ} length (written_in b) (chunks_in bs),
  all_fit bs,
  written_fits b,
  block_fits b,
)

pub total_fits : (b : Blocks) → total (chunks_of b) < 2 ^ 127
total_fits b = omega (arith, all_fit b.blocks.items, b.blocks.ok.0, b.blocks.ok.1, b.blocks.small)

-- an empty piece lies anywhere
pub writes_nothing : (old : List (List ℕ)) (piece : List ℕ) → length piece ≤ 0
    → IsWriting old piece (record { chunk = 0; start = 0; length = 0 }) old
writes_nothing old piece none = record {
  keeps = λ s full. refl;
  reads = take_none 0 (drop 0 (get_or old 0 [])) (omega arith) ∙ sym (is_nil piece none);
  whole = omega (arith, none);
  fresh = take_none 0 (drop 0 (get_or old 0 [])) (omega arith);
  total = omega (arith, none);
}

-- a block more is the last one
last_is : (bs : List ArenaBlock) (block d : ArenaBlock)
    → get_or (bs ++ block ∷ []) (length (bs ++ block ∷ []) - 1) d ≡ block
last_is bs block d =
    let at : length (bs ++ block ∷ []) - 1 ≡ length bs = omega (arith, length-append bs (block ∷ [])) in
    let none : length bs - length bs ≡ 0 = omega arith in
    ap (λ (n : ℕ). get_or (bs ++ block ∷ []) n d) at
    ∙ (get_or-append_right bs (block ∷ []) (length bs) (length bs) d refl (omega arith)
    ∙ ap (λ (n : ℕ). get_or (block ∷ []) n d) none)

-- so the blocks end as that one
pub ends_joined : (bs : List ArenaBlock) (block : ArenaBlock) → IsJoined block.memory → EndsJoined (bs ++ block ∷ [])
ends_joined bs block is d = subst (λ (b : ArenaBlock). IsJoined b.memory) (sym (last_is bs block d)) is

pub last_joined : (bs : List ArenaBlock) (block : ArenaBlock) → EndsJoined (bs ++ block ∷ []) → IsJoined block.memory
last_joined bs block ends = subst (λ (b : ArenaBlock). IsJoined b.memory) (last_is bs block block) (ends block)
