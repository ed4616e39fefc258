-- The owner of an optional state, in two fields: a pointer, and the allocator, which takes no bytes. A struct that C
-- keeps has no type parameter, so each has its own calls. Their walks are the same, and are beside this file.
--     Owner                the state's row and laws, and how its owner is made and taken apart
--     X, E                 the state as a row of one machine value, and its box
--     H, Parts             its owner, and a box's parts, as rows
--     owned                all that the owner owns, by its two fields and its state
--     moved, moves         the locals and the body of a function that moves both fields
use mathlib.Core.Path.{◌≡◌, refl}
use mathlib.Core.List.{List, [], ◌∷◌}
use Prim.Native.Nat.{ℕ}
use mir.Syntax.{Body, Local, Sym, Ty, aggregate, assign, copy, dnil, field, impl, local, place, return, rv_opd, seq}
use mir.Syntax.{tnil, ty_ptr, value_local}
use mir.Val.{Val}
use base.Fml.{Fml, Lft, fsep}
use base.Stored.{Coded}
use denote.Exit.{unseen}
use denote.RattleType.{RattleType}
use denote.Param.{layout}
use denote.Param.Laws.{Laws}
use denote.RawPtr.{Ptr, RawPtr}
use denote.Struct.Struct.{Shape, Struct}
use Rattle.std.specs.Prelude.{Option, Some, None, is_some, true}
use Rattle.std.specs.Global.{Global}
use Rattle.std.specs.contracts.alloc.Global as Heap
use Rattle.std.specs.contracts.impls.GlobalAllocator.TheImpl.{ghosts, dict}
use Rattle.std.proofs.alloc.Global.TheLaws as heap
use Rattle.std_alloc.proofs.BoxSteps.Form.{Bx}
use Rattle.sm_kept.specs.Owns.{state_owns}
use Rattle.sm_kept.specs.contracts.box_parts.BoxParts as BoxParts

-- the row at this one type of a machine value
abbrev pub at_one : RattleType → Ty → RattleType
at_one R τ = record {
  Denot = R.Denot;
  mir = τ ∷ [];
  written = R.written;
  reaches = R.reaches;
  lives = R.lives;
  own_val = R.own_val;
  exit = R.exit;
  coded = R.coded;
  shr_at = R.shr_at;
}

pub record Owner : Type 2 where
  pub state : RattleType
  pub ty : Ty
  pub laws : Laws (at_one state ty)
  pub D : Type 0
  pub name : Sym
  pub coded : Coded D
  pub shr_at : D → ℕ → ℕ → Lft → Fml
  pub parts : D → Ptr × (Global × Option state.Denot)
  pub made : Ptr × (Global × Option state.Denot) → D
  pub parts_made : (t : Ptr × (Global × Option state.Denot)) → parts (made t) ≡ t

module _ (O : Owner) where
  abbrev pub X : RattleType
  X = at_one O.state O.ty

  abbrev pub E : Bx
  E = record {
    row = X;
    laws = O.laws;
    al = record {
      row = Heap.the_row;
      laws = heap.the_row_laws;
      g = ghosts;
      d = dict;
      drops = impl [] tnil dnil;
    };
  }

  abbrev pub Kept : Type 0
  Kept = Ptr × (Global × Option X.Denot)

  abbrev pub state_of : O.D → Option X.Denot
  state_of d = (O.parts d).1.1

  abbrev pub fields : Shape
  fields = record { name = O.name; args = []; types = []; fields = RawPtr ∷ Heap.the_row ∷ [] }

  abbrev pub owned : Kept → List Val → Fml
  owned t vs = fsep ((Struct fields).own_val (t.0, (t.1.0, tt)) vs) (state_owns X t.1.0 t.0 t.1.1)

  abbrev pub H : RattleType
  H = record {
    Denot = O.D;
    mir = (Struct fields).mir;
    written = (Struct fields).written;
    reaches = (Struct fields).reaches;
    lives = (Struct fields).lives;
    own_val = λ d vs. owned (O.parts d) vs;
    exit = λ k. unseen;
    coded = O.coded;
    shr_at = O.shr_at;
  }

  abbrev pub Parts : RattleType
  Parts = BoxParts.the_row X Heap.the_row ghosts

-- the locals and the body of a function that moves both fields, and casts the first
abbrev pub moved : List Local
moved = local ty_ptr value_local ∷ local (layout Heap.the_row) value_local ∷ local ty_ptr value_local ∷ []

abbrev pub moves : Body
moves = seq (assign (place 2 []) (rv_opd (copy (place 1 (field 0 ∷ [])))))
    (seq (assign (place 3 []) (rv_opd (copy (place 1 (field 1 ∷ [])))))
    (seq (assign (place 4 []) (rv_opd (copy (place 2 []))))
    (seq (assign (place 0 []) (aggregate (copy (place 4 []) ∷ copy (place 3 []) ∷ []))) return)))

pub some_of : {Y : Type 0} (s : Option Y) → is_some s ≡ true → (y : Y) × (s ≡ Some y)
some_of (Some y) is = (y, refl)
some_of None is = absurd cc
