use denote.RattleType.{RattleType}
use denote.Param.Send.{IsSend, Frees}
use Rattle.core.specs.declared.alloc.Allocator.{Ghosts}
use Rattle.sm_arena.specs.contracts.chunk.Chunk.{the_row}
use Rattle.sm_arena.proofs.Sending.{chunk_send}

pub send : (A : RattleType) (g : Ghosts A.Denot) → IsSend A → Frees g g.dealloc_token → IsSend (the_row A g)
send A g s f = chunk_send A g f
