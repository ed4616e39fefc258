-- Chunks grow, and hold the bytes written to them.
use Rattle.std.proofs.Common.{◌≡◌, ℕ, zero, suc, ◌+◌, ◌*◌, ◌^◌, ◌<◌, ◌≤◌, List, [], ◌∷◌, ◌++◌, length, get_or, set}
use Rattle.std.proofs.Common.{flat_map, fold, sum, refl, sym, ap, ◌∙◌, arith}
use Rattle.std.proofs.lemmas.List.{append-nil}
use Rattle.std.proofs.lemmas.List.Concat.{flat_map-append}
use Rattle.std.proofs.lemmas.List.Sums.{sum_by-append, sum_by-cons, sum_by_push}
use Rattle.sm_arena.specs.declared.arena_block.ArenaBlock.{ArenaBlock}
use Rattle.sm_arena.specs.declared.memory.Memory.{Memory}
use Rattle.sm_arena.specs.declared.memory.Memory.TheVariants.{Made, Joined}
use Rattle.sm_arena.specs.Memory.{limit_in, size_in, made_size, joined_size, IsJoined}
use Rattle.sm_arena.specs.declared.blocks.Blocks.{Blocks}
use Rattle.sm_arena.specs.Blocks.{written_in, chunks_in, total}
use Rattle.sm_arena.specs.Sizes.{next_size, least_after, sizes_in, joined_in}

next_more : (least : ℕ) (sizes : List ℕ) (size : ℕ)
    → fold least_after least (sizes ++ size ∷ []) ≡ least_after (fold least_after least sizes) size
next_more least [] size = refl
next_more least (x ∷ sizes) size = next_more (least_after least x) sizes size

-- a block that is another one with as much memory
pub flat_set : (f : ArenaBlock → List ℕ) (bs : List ArenaBlock) (place : ℕ) (b b' : ArenaBlock)
    → get_or bs place b ≡ b → f b' ≡ f b → flat_map f (set bs place b') ≡ flat_map f bs
flat_set f [] place b b' at same = refl
flat_set f (x ∷ bs) zero b b' at same = ap (λ (l : List ℕ). l ++ flat_map f bs) (same ∙ ap f (sym at))
flat_set f (x ∷ bs) (suc place) b b' at same = ap (λ (l : List ℕ). f x ++ l) (flat_set f bs place b b' at same)

flat_push : (f : ArenaBlock → List ℕ) (bs : List ArenaBlock) (block : ArenaBlock) (l : List ℕ) → f block ≡ l
    → flat_map f (bs ++ block ∷ []) ≡ flat_map f bs ++ l
flat_push f bs block l is = flat_map-append f bs (block ∷ [])
    ∙ (ap (λ (l : List ℕ). flat_map f bs ++ l) (append-nil (f block) ∙ is))

-- memory that joined wasn't made, and counts with its capacity
never_made : (m : Memory) → IsJoined m → made_size m ≡ []
never_made (Made owned) is = absurd is
never_made (Joined piece) is = refl

joined_whole : (m : Memory) → IsJoined m → joined_size m ≡ size_in m ∷ []
joined_whole (Made owned) is = absurd is
joined_whole (Joined piece) is = refl

-- a block more
module _ (bs : List ArenaBlock) (block : ArenaBlock) where
  -- that the arena made
  module _ (size : ℕ) (made : made_size block.memory ≡ size ∷ []) (none : joined_size block.memory ≡ []) where
    pub made_sizes : sizes_in (bs ++ block ∷ []) ≡ sizes_in bs ++ size ∷ []
    made_sizes = flat_push (λ (b : ArenaBlock). made_size b.memory) bs block (size ∷ []) made

    pub made_joined : joined_in (bs ++ block ∷ []) ≡ joined_in bs
    made_joined = flat_push (λ (b : ArenaBlock). joined_size b.memory) bs block [] none ∙ append-nil (joined_in bs)

    pub made_next : next_size (sizes_in (bs ++ block ∷ [])) ≡ least_after (next_size (sizes_in bs)) size
    made_next = ap next_size made_sizes ∙ next_more 1024 (sizes_in bs) size

    pub made_held : sum (sizes_in (bs ++ block ∷ [])) + sum (joined_in (bs ++ block ∷ []))
        ≡ sum (sizes_in bs) + sum (joined_in bs) + size
    made_held =
        omega (arith, ap sum made_sizes, sum_by_push (λ (n : ℕ). n) (sizes_in bs) size, ap sum made_joined)

  -- of a piece that joined
  module _ (is : IsJoined block.memory) where
    pub joined_sizes : sizes_in (bs ++ block ∷ []) ≡ sizes_in bs
    joined_sizes = flat_push (λ (b : ArenaBlock). made_size b.memory) bs block [] (never_made block.memory is)
        ∙ append-nil (sizes_in bs)

    pub joined_more : joined_in (bs ++ block ∷ []) ≡ joined_in bs ++ size_in block.memory ∷ []
    joined_more = flat_push (λ (b : ArenaBlock). joined_size b.memory) bs block (size_in block.memory ∷ [])
        (joined_whole block.memory is)

    pub joined_held : sum (sizes_in (bs ++ block ∷ [])) + sum (joined_in (bs ++ block ∷ []))
        ≡ sum (sizes_in bs) + sum (joined_in bs) + size_in block.memory
    joined_held = omega (
      arith,
      ap sum joined_sizes,
      ap sum joined_more,
      sum_by_push (λ (n : ℕ). n) (joined_in bs) (size_in block.memory),
    )

-- the bytes that may be written fit in the memory
limit_fits : (m : Memory) → limit_in m ≤ size_in m
limit_fits (Made owned) = omega arith
limit_fits (Joined piece) = omega (arith, piece.ok.0, piece.ok.1)

-- so the written bytes do
pub written_fits : (block : ArenaBlock) → length (written_in block) ≤ size_in block.memory
written_fits block = omega (arith, limit_fits block.memory, block.written, block.filled, block.limited)

-- memory has fewer bytes than half of all numbers
size_fits : (m : Memory) → limit_in m < 2 ^ 32 → size_in m < 2 ^ 63
size_fits (Made owned) small = omega (arith, small)
size_fits (Joined piece) small = piece.small

-- a block's size is a number of 63 bits
pub block_fits : (block : ArenaBlock) → size_in block.memory < 2 ^ 63
block_fits block = size_fits block.memory (omega (arith, block.small, block.limited))

-- a block's memory is made, or joined
memory_counts : (m : Memory) → sum (made_size m) + sum (joined_size m) ≡ size_in m
memory_counts (Made owned) = omega arith
memory_counts (Joined piece) = omega arith

-- a block in front counts with its size
counted : (b : ArenaBlock) (bs : List ArenaBlock) → sum (sizes_in (b ∷ bs)) + sum (joined_in (b ∷ bs))
    ≡ size_in b.memory + (sum (sizes_in bs) + sum (joined_in bs))
counted b bs = omega (
  arith,
  memory_counts b.memory,
  sum_by-append {X = ℕ} (λ n. n) (made_size b.memory) (sizes_in bs),
  sum_by-append {X = ℕ} (λ n. n) (joined_size b.memory) (joined_in bs),
)

-- and in the blocks
pub covered : (bs : List ArenaBlock) → total (chunks_in bs) ≤ sum (sizes_in bs) + sum (joined_in bs)
covered [] = omega arith
covered (b ∷ bs) = omega (
  arith,
  sum_by-cons {X = List ℕ} length (written_in b) (chunks_in bs),
  counted b bs,
  covered bs,
  written_fits b,
)

sizes_fit : (bs : List ArenaBlock) → sum (sizes_in bs) + sum (joined_in bs) ≤ length bs * 2 ^ 63
sizes_fit [] = omega arith
sizes_fit (b ∷ bs) = omega (arith, counted b bs, sizes_fit bs, block_fits b)

pub held_fits : (b : Blocks) → sum (sizes_in b.blocks.items) + sum (joined_in b.blocks.items) < 2 ^ 127
held_fits b = omega (arith, sizes_fit b.blocks.items, b.blocks.ok.0, b.blocks.ok.1, b.blocks.small)
