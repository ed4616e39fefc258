-- The owner of a relay, as the walks of sm_kept take it.
use mathlib.Core.Path.{refl}
use denote.Param.{layout}
use Rattle.sm_kept.proofs.Owner.{Owner}
use Rattle.sm_relay.specs.declared.owned_relay.OwnedRelay.{OwnedRelay}
use Rattle.sm_relay.specs.contracts.owned_relay.OwnedRelay.{the_row, the_type}
use Rattle.sm_relay.specs.contracts.relay_server.RelayServer as State
use Rattle.sm_relay.proofs.relay_server.RelayServer.TheLaws as state

abbrev pub O : Owner
O = record {
  state = State.the_row;
  ty = layout State.the_row;
  laws = state.the_row_laws;
  D = OwnedRelay;
  name = the_type.name;
  coded = the_row.coded;
  shr_at = the_row.shr_at;
  parts = λ h. (h.ptr, (h.alloc, h.state));
  made = λ t. record { ptr = t.0; alloc = t.1.0; state = t.1.1 };
  parts_made = λ t. refl;
}
