-- A `&` to a chunk lends the bytes written so far, and neither the room after them nor the right to free them. Assumes
-- `Logic`.
use mathlib.Core.List.{[]}
use Prim.Native.Nat.{◌-◌}
use base.Fraction.{full_share}
use base.Fml.{fsep}
use contract.BorrowLft.{⊑_static}
use denote.RattleType.{RattleType}
use denote.Array.{Array}
use denote.Builtin.{u8}
use denote.RawPtr.{RawPtr, lies_at, room_for, ◌+ₚ◌}
use denote.Param.Laws.{Laws, array_laws}
use denote.Param.Shared.{copy_shared}
use denote.Shares.{Shares-less}
use denote.Struct.Field.{RawPtr-field, usize-field}
use denote.Struct.Laws.{RawPtr-copy, usize-copy, field_copy}
use denote.Struct.Lending.{lent_at, lent_at_shr_laws, Lends-lies, Lends-first, of_Lends}
use Rattle.core.specs.declared.alloc.Allocator.{Ghosts}
use Rattle.core.specs.contracts.marker.PhantomData as marker
use Rattle.sm_arena.specs.Ownership.{chunk_type}
use Rattle.sm_arena.specs.contracts.chunk.Chunk as chunk
use Rattle.sm_arena.proofs.Bytes.{byte_laws}
use Rattle.sm_arena.proofs.chunk.Chunk.TheLaw.Statement.{statement}

pub shares : (A : RattleType) (g : Ghosts A.Denot) (L : Laws A) → statement A g L
shares A g L = of_Lends (chunk.struct A g) (chunk.the_codes A.Denot A.coded (marker.the_row RawPtr).coded)
    (chunk.the_heap A g) (chunk.the_lent A g)
    (λ c p. lent_at_shr_laws (Array u8 c.used) (array_laws u8 byte_laws c.used).shr_laws c.at c.bytes) (
      copy_shared RawPtr-field RawPtr-copy,
      (
        copy_shared usize-field usize-copy,
        (
          copy_shared usize-field usize-copy,
          (copy_shared (marker.the_field RawPtr) (field_copy (marker.the_type RawPtr) tt), tt),
        ),
      ),
    )
    (λ M 𝓤 𝓛 c p.
    let lives = (chunk.the_row A g).lives in
    let written = Array u8 c.used in
    Lends-first 𝓛 (lies_at written full_share c.at c.bytes) (fsep (room_for (chunk_type (c.size - c.used))
    (c.at +ₚ c.used)) (g.dealloc_token c.alloc (chunk_type c.size) c.at)) (lent_at written c.at c.bytes) lives
    (Lends-lies 𝓛 written lives c.at c.bytes
    (Shares-less 𝓛 written [] lives (⊑_static lives) ((array_laws u8 byte_laws c.used).shares 𝓛) c.bytes)))
