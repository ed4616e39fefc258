-- The owner of a server, as the walks of sm_kept take it.
use mathlib.Core.Path.{refl}
use denote.Param.{layout}
use Rattle.sm_kept.proofs.Owner.{Owner}
use Rattle.sm_driver.specs.declared.owned_server.OwnedServer.{OwnedServer}
use Rattle.sm_driver.specs.contracts.owned_server.OwnedServer.{the_row, the_type}
use Rattle.sm_driver.specs.contracts.text_server.TextServer as State
use Rattle.sm_driver.proofs.text_server.TextServer.TheLaws as state

abbrev pub O : Owner
O = record {
  state = State.the_row;
  ty = layout State.the_row;
  laws = state.the_row_laws;
  D = OwnedServer;
  name = the_type.name;
  coded = the_row.coded;
  shr_at = the_row.shr_at;
  parts = λ h. (h.ptr, (h.alloc, h.state));
  made = λ t. record { ptr = t.0; alloc = t.1.0; state = t.1.1 };
  parts_made = λ t. refl;
}
