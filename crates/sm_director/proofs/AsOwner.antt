-- The owner of a director, as the walks of sm_kept take it.
use mathlib.Core.Path.{refl}
use denote.Param.{layout}
use Rattle.sm_kept.proofs.Owner.{Owner}
use Rattle.sm_director.specs.declared.owned_director.OwnedDirector.{OwnedDirector}
use Rattle.sm_director.specs.contracts.owned_director.OwnedDirector.{the_row, the_type}
use Rattle.sm_director.specs.contracts.director.Director as State
use Rattle.sm_director.proofs.director.Director.TheLaws as state

abbrev pub O : Owner
O = record {
  state = State.the_row;
  ty = layout State.the_row;
  laws = state.the_row_laws;
  D = OwnedDirector;
  name = the_type.name;
  coded = the_row.coded;
  shr_at = the_row.shr_at;
  parts = λ h. (h.ptr, (h.alloc, h.state));
  made = λ t. record { ptr = t.0; alloc = t.1.0; state = t.1.1 };
  parts_made = λ t. refl;
}
