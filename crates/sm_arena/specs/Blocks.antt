-- Chunks of bytes, which are the blocks' bytes, and the writing of a piece into one of them.
use Rattle.std.specs.Prelude.{◌≡◌, ◌+◌, ◌<◌, ◌≤◌, ◌-◌, ◌++◌, ℕ, List, [], map, length, take, drop, replicate}
use Rattle.std.specs.Prelude.{slice_index_or, slice_set}
use Rattle.std.specs.List.{sum_by}
use Rattle.sm_arena.specs.declared.span.Span.{Span}
use Rattle.sm_arena.specs.declared.arena_block.ArenaBlock.{ArenaBlock}
use Rattle.sm_arena.specs.Memory.{bytes_in, IsJoined}
use Rattle.sm_arena.specs.Sizes.{sizes_in, joined_in}

-- the bytes that are written in a block
abbrev pub written_in : ArenaBlock → List ℕ
written_in block = bytes_in block.memory

-- the bytes of each block
abbrev pub chunks_in : List ArenaBlock → List (List ℕ)
chunks_in blocks = map written_in blocks

-- the last block is that of a piece that joined
abbrev pub EndsJoined : List ArenaBlock → Type 0
EndsJoined blocks = (d : ArenaBlock) → IsJoined (slice_index_or blocks (length blocks - 1) d).memory

-- the bytes at a span of these chunks
abbrev pub bytes_at : List (List ℕ) → Span → List ℕ
bytes_at chunks s = take s.length (drop s.start (slice_index_or chunks s.chunk []))

-- how many bytes are written in all
abbrev pub total : List (List ℕ) → ℕ
total chunks = sum_by length chunks

-- the same chunks, and then empty ones
abbrev pub IsGrown : List (List ℕ) → List (List ℕ) → Type 0
IsGrown old new = (n : ℕ) × (new ≡ old ++ replicate n [])

-- the same chunks with the same bytes
abbrev pub IsSame : List ArenaBlock → List ArenaBlock → Type 0
IsSame old new =
    (chunks_in new ≡ chunks_in old) × (sizes_in new ≡ sizes_in old) × (joined_in new ≡ joined_in old)

-- this many bytes can still be written into the block at that place
abbrev pub HasSpace : List ArenaBlock → ℕ → ℕ → Type 0
HasSpace blocks place count =
    (place < length blocks) ×
    ((d : ArenaBlock) → let block = slice_index_or blocks place d in length (written_in block) + count ≤ block.limit)

-- the span of this many more bytes in the chunk at that place
abbrev pub next_span : List (List ℕ) → ℕ → ℕ → Span
next_span chunks place count = record { chunk = place; start = length (slice_index_or chunks place []); length = count }

-- new is old with the piece written behind the bytes of the block at that place
pub record IsFilled (old : List ArenaBlock) (place : ℕ) (piece : List ℕ) (new : List ArenaBlock) : Type 0 where
  pub chunks : chunks_in new ≡ slice_set (chunks_in old) place (slice_index_or (chunks_in old) place [] ++ piece)
  pub room : (count : ℕ) → HasSpace old place (length piece + count) → HasSpace new place count
  pub sizes : sizes_in new ≡ sizes_in old
  pub joined : joined_in new ≡ joined_in old

-- new is old with the piece written at the span, at which nothing was written before
pub record IsWriting (old : List (List ℕ)) (piece : List ℕ) (span : Span) (new : List (List ℕ)) : Type 0 where
  pub keeps : (s : Span) → length (bytes_at old s) ≡ s.length → bytes_at new s ≡ bytes_at old s
  pub reads : bytes_at new span ≡ piece
  pub whole : span.length ≡ length piece
  pub fresh : bytes_at old span ≡ []
  pub total : total new ≡ total old + length piece

-- new is old with both pieces written, one after the other, each at a span at which nothing was written before
pub record IsWritingPair (old : List (List ℕ)) (first second : List ℕ) (spans : Span × Span)
    (new : List (List ℕ)) : Type 0 where
  pub middle : List (List ℕ)
  pub one : IsWriting old first spans.0 middle
  pub other : IsWriting middle second spans.1 new
