-- The invariant of an arena.
use Rattle.std.specs.Prelude.{◌≡◌, ◌<◌, ◌≤◌, ◌+◌, ℕ, List, All, length, map, count_by}
use Rattle.sm_arena.specs.declared.arena.Arena.TheInside.{Inside}
use Rattle.sm_arena.specs.declared.span.Span.{Span}
use Rattle.sm_arena.specs.Blocks.{bytes_at, total}
use Rattle.sm_arena.specs.Chunks.{chunks_of, sizes_of, joined_of}
use Rattle.sm_arena.specs.Pieces.{Places, IsPlaced, same_span}
use Rattle.sm_arena.specs.Value.{ArenaValue, dead_of, live_of, times_forgotten}

-- the bytes at these spans in the chunks
abbrev pub pieces_in : List (List ℕ) → List Span → Places
pieces_in chunks spans = map (λ s. (s, bytes_at chunks s)) spans

-- the arena with these chunks, made with these sizes or joined with these capacities, in which these spans were placed
-- and these were forgotten
abbrev pub lying : List (List ℕ) → List ℕ → List ℕ → List Span → List Span → ArenaValue
lying chunks sizes joined placed forgotten = record {
  placed = pieces_in chunks placed;
  forgotten = forgotten;
  sizes = sizes;
  joined = joined;
}

-- an arena as contracts see it
abbrev pub arena_value : Inside → ArenaValue
arena_value a =
    lying (chunks_of a.blocks) (sizes_of a.blocks) (joined_of a.blocks) a.placed.items a.forgotten.items

-- the entry's bytes are at its span
abbrev pub Lies : List (List ℕ) → Span × List ℕ → Type 0
Lies chunks e = (bytes_at chunks e.0 ≡ e.1) × (length e.1 ≡ e.0.length)

-- how often a piece was placed at the span
abbrev pub times_placed : Places → Span → ℕ
times_placed es s = count_by (λ e. same_span e.0 s) es

-- every piece is at its span in the chunks, spans with bytes are distinct, forgotten spans were placed, and both counts
-- are exact
pub record IsArena (chunks : List (List ℕ)) (here away : ℕ) (v : ArenaValue) : Type 0 where
  pub lies : All (Lies chunks) v.placed
  pub distinct : (s : Span) → 0 < s.length → times_placed v.placed s ≤ 1
  pub placed : (s : Span) → 0 < times_forgotten v s → IsPlaced v.placed s
  pub live : here ≡ live_of v
  pub dead : away ≡ dead_of v
  pub bounded : here + away ≤ total chunks

abbrev pub KeepsArena : Inside → Type 0
KeepsArena a = IsArena (chunks_of a.blocks) a.live a.gone (arena_value a)
