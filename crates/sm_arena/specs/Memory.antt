-- The memory of a block of an arena: a chunk that the arena made, or the memory of a piece that joined.
use Rattle.std.specs.Prelude.{⊤, ℕ, List, [], ◌∷◌, length, vec_capacity}
use Rattle.sm_arena.specs.declared.memory.Memory.{Memory}
use Rattle.sm_arena.specs.declared.memory.Memory.TheVariants.{Made, Joined}

-- the bytes that are written in it
abbrev pub bytes_in : Memory → List ℕ
bytes_in (Made owned) = owned.chunk.bytes
bytes_in (Joined piece) = piece.items

-- how many bytes it holds, written or not
abbrev pub size_in : Memory → ℕ
size_in (Made owned) = owned.chunk.size
size_in (Joined piece) = vec_capacity piece

-- the size of the chunk, if the arena made it
abbrev pub made_size : Memory → List ℕ
made_size (Made owned) = owned.chunk.size ∷ []
made_size (Joined piece) = []

-- the capacity of the piece, if it joined
abbrev pub joined_size : Memory → List ℕ
joined_size (Made owned) = []
joined_size (Joined piece) = vec_capacity piece ∷ []

-- how many bytes may be written in all: the room behind a piece that joined stays free
abbrev pub limit_in : Memory → ℕ
limit_in (Made owned) = owned.chunk.size
limit_in (Joined piece) = length piece.items

-- it is the memory of a piece that joined
abbrev pub IsJoined : Memory → Type 0
IsJoined (Made owned) = ⊥
IsJoined (Joined piece) = ⊤
