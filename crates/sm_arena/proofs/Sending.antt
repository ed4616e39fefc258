-- A chunk owns nothing that names a thread. So if its allocator frees from any thread, it may go to any thread.
use Prim.Native.Nat.{◌-◌}
use mir.Syntax.{Ty}
use base.Fraction.{full_share}
use base.Fml.{Fml, ftrue}
use base.Shift.{Keyless}
use denote.Exit.{Exit, unchanged, leaves, hidden, under}
use denote.RattleType.{RattleType}
use denote.RawPtr.{Ptr, block_ptr, null_ptr, block_of, count_of, in_block, lies_at, room_for, ◌+ₚ◌}
use denote.Builtin.{RawPtr, usize, u8}
use denote.Array.{Array}
use denote.Struct.Struct.{exits_of}
use denote.Struct.Owning.{shape, fields, to}
use denote.Struct.Lending.{lent_at}
use denote.Param.Send.{IsSend, IsSync, Quiet, Common, Frees, AllSend, part_keyless, owning_send}
use denote.Param.Send.{struct_send, struct_sync, array_send, array_sync, sendable}
use Rattle.core.specs.declared.alloc.Allocator.{Ghosts}
use Rattle.core.specs.contracts.marker.PhantomData as marker
use Rattle.sm_arena.specs.Ownership.{chunk_type}
use Rattle.sm_arena.specs.contracts.chunk.Chunk.{the_row, the_type}

quiet : {D X : Type 0} (of : D → X) (e : Exit X) → Quiet e → Quiet (hidden (under of e))
quiet of unchanged q = λ x w. tt
quiet of (leaves L l S s r) q = λ d. q (of d)

lies : (R : RattleType) → IsSend R → (p : Ptr) (x : R.Denot) → Keyless (lies_at R full_share p x)
lies R s (block_ptr b o) x = part_keyless R s full_share x b o
lies R s null_ptr x = tt

room : (τ : Ty) (p : Ptr) → Keyless (room_for τ p)
room τ (block_ptr b o) = tt
room τ null_ptr = tt

pub chunk_send : (A : RattleType) (g : Ghosts A.Denot) → Frees g g.dealloc_token → IsSend (the_row A g)
chunk_send A g f =
    let O = the_type A g in
    let pointers : IsSend RawPtr = search sendable in
    let numbers : IsSend usize = search sendable in
    let bytes : IsSend u8 = search sendable in
    let marks : IsSend (marker.the_field RawPtr).row = search sendable in
    let all : AllSend (fields O) = (pointers, (numbers, (numbers, (marks, tt)))) in
    owning_send O all (λ c. (
      lies (Array u8 c.used) (array_send u8 c.used bytes) c.at c.bytes,
      (room (chunk_type (c.size - c.used)) (c.at +ₚ c.used), f.frees c.alloc (chunk_type c.size) c.at),
    ))
    (λ k. quiet (to O) (exits_of k (fields O)) ((struct_send (shape O) all).leaving k))

inside : (p : Ptr) (F : Fml) → Keyless F → Keyless (in_block p F)
inside (block_ptr b o) F k = k
inside null_ptr F k = tt

seen : (R : RattleType) → IsSync R → (p : Ptr) (x : R.Denot) → Common (lent_at R p x)
seen R s p x κ = (inside p ftrue tt, s.shared x (block_of p) (count_of p) κ)

-- A `&` to it lends nothing that names a thread either.
pub chunk_sync : (A : RattleType) (g : Ghosts A.Denot) → IsSync (the_row A g)
chunk_sync A g =
    let O = the_type A g in
    let pointers : IsSync RawPtr = search sendable in
    let numbers : IsSync usize = search sendable in
    let bytes : IsSync u8 = search sendable in
    let marks : IsSync (marker.the_field RawPtr).row = search sendable in
    record {
      shared = λ c b o κ. (
        (struct_sync (shape O) (pointers, (numbers, (numbers, (marks, tt))))).shared (to O c) b o κ,
        seen (Array u8 c.used) (array_sync u8 c.used bytes) c.at c.bytes κ,
      );
    }
