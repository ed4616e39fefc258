use Rattle.std.proofs.Common.{refl, rules}
use Rattle.sm_lead.proofs.Replays.{rows_after}
use Rattle.sm_lead.proofs.store_control.StoreControl.read.Goals as goal

pub returns : goal.returns
returns c = record {
  lead_is = refl;
  ceiling_is = refl;
  waits_is = refl;
  placed_is = refl;
  reads_are = refl;
  rows = rows_after _ _ _ (rows_after _ _ _ c.in_ok-desk.ensures c.in_ok-desk-2.ensures) c.in_ok-desk-3.ensures;
  stands = search rules;
  states_are = search rules;
  runs_are = refl;
}
