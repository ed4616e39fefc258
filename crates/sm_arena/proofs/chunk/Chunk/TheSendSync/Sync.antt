use denote.RattleType.{RattleType}
use denote.Param.Send.{IsSync}
use Rattle.core.specs.declared.alloc.Allocator.{Ghosts}
use Rattle.sm_arena.specs.contracts.chunk.Chunk.{the_row}
use Rattle.sm_arena.proofs.Sending.{chunk_sync}

pub sync : (A : RattleType) (g : Ghosts A.Denot) → IsSync A → IsSync (the_row A g)
sync A g s = chunk_sync A g
