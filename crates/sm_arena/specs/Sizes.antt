-- The sizes of the chunks that an arena makes: each is twice the largest before, from 1,024 to 65,536 bytes.
use Rattle.std.specs.Prelude.{◌≡◌, ◌*◌, ◌<◌, ◌++◌, ◌⊎◌, ℕ, nat_le, List, [], ◌∷◌, find, flat_map, fold, unwrap_or}
use Rattle.std.specs.Prelude.{cond, min, max}
use Rattle.sm_arena.specs.declared.arena_block.ArenaBlock.{ArenaBlock}
use Rattle.sm_arena.specs.Memory.{made_size, joined_size}

-- the sizes of chunks for pieces that fit one of them
abbrev pub chunk_sizes : List ℕ
chunk_sizes = 1024 ∷ 2048 ∷ 4096 ∷ 8192 ∷ 16384 ∷ 32768 ∷ 65536 ∷ []

-- the least of them that holds this many bytes; if none does, exactly this many
abbrev pub size_holding : ℕ → ℕ
size_holding count = unwrap_or (find (λ size. nat_le count size) chunk_sizes) count

-- the least size of the chunk after one of this size, if it was `least` for that one: at least twice the size, up to
-- 65,536; a larger chunk doesn't count
abbrev pub least_after : ℕ → ℕ → ℕ
least_after least size = cond (nat_le size 65536) (max least (min 65536 (2 * size))) least

-- the least size of the chunk that comes after those of these sizes
abbrev pub next_size : List ℕ → ℕ
next_size sizes = fold least_after 1024 sizes

-- the size of the chunk that is made for this many bytes
abbrev pub size_for : List ℕ → ℕ → ℕ
size_for sizes count = size_holding (max (next_size sizes) count)

-- new is old with at most one more chunk, made for this many bytes
abbrev pub HasGrown : List ℕ → ℕ → List ℕ → Type 0
HasGrown old count new = (new ≡ old) ⊎ ((0 < count) × (new ≡ old ++ size_for old count ∷ []))

-- the size of each chunk that the arena made
abbrev pub sizes_in : List ArenaBlock → List ℕ
sizes_in blocks = flat_map (λ block. made_size block.memory) blocks

-- the capacity of each piece that joined
abbrev pub joined_in : List ArenaBlock → List ℕ
joined_in blocks = flat_map (λ block. joined_size block.memory) blocks
