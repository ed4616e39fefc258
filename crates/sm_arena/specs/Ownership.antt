-- The memory that a chunk owns and lends. t is the allocator's right to free a block.
use Rattle.std.specs.Prelude.{ℕ, ◌-◌, List}
use base.Fraction.{full_share}
use base.Fml.{Fml, Lft, fsep}
use mir.Syntax.{Ty, w8, ty_int, ty_array}
use denote.Array.{Array}
use denote.Builtin.{u8}
use denote.RawPtr.{Ptr, lies_at, room_for, ◌+ₚ◌}
use denote.Struct.Lending.{lent_at}

-- the type of a block of n bytes
abbrev pub chunk_type : ℕ → Ty
chunk_type n = ty_array (ty_int w8) n

-- the block at p has size bytes, of which the first used are xs
abbrev pub chunk_owns : (Ty → Ptr → Fml) → Ptr → ℕ → ℕ → List ℕ → Fml
chunk_owns t p size used xs =
    fsep (lies_at (Array u8 used) full_share p xs)
    (fsep (room_for (chunk_type (size - used)) (p +ₚ used)) (t (chunk_type size) p))

-- the bytes that a `&` to a chunk lends: those written so far
abbrev pub chunk_lends : Ptr → ℕ → List ℕ → Lft → Fml
chunk_lends p used xs = lent_at (Array u8 used) p xs
