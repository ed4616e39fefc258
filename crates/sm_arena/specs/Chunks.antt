-- The chunks of an arena's blocks, and their sizes.
use Rattle.std.specs.Prelude.{ℕ, List}
use Rattle.sm_arena.specs.declared.blocks.Blocks.{Blocks}
use Rattle.sm_arena.specs.Blocks.{chunks_in}
use Rattle.sm_arena.specs.Sizes.{sizes_in, joined_in}

-- the bytes of each chunk
abbrev pub chunks_of : Blocks → List (List ℕ)
chunks_of b = chunks_in b.blocks.items

-- the sizes of the chunks that the arena made
abbrev pub sizes_of : Blocks → List ℕ
sizes_of b = sizes_in b.blocks.items

-- the capacities of the pieces that joined
abbrev pub joined_of : Blocks → List ℕ
joined_of b = joined_in b.blocks.items
