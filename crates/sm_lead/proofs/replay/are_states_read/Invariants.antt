use Rattle.std.proofs.Common.{◌≡◌, ◌<◌, ℕ}
use Rattle.std.specs.Prelude.{slice_index_or}
use Rattle.sm_place.specs.declared.server_state.ServerState.TheVariants.{Up}
use Rattle.sm_lead.specs.Commands.{unentered}
use Rattle.sm_lead.proofs.replay.are_states_read.Given as goal

abbrev pub invariant-loop-i : goal.invariant-loop-i
invariant-loop-i l = (j : ℕ) → j < l.i → slice_index_or l.states j Up ≡ (slice_index_or l.reads j unentered).state
