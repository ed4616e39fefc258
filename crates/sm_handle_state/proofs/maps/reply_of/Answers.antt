use Rattle.std.proofs.Common.{refl}
use Rattle.sm_handle_state.proofs.maps.reply_of.Goals as goal

pub returns-in-Err-clause-kept : goal.returns-in-Err-clause-kept
returns-in-Err-clause-kept c = rw (c.in-Map.is, c.in-Err.ensures.err, c.deref_mut.ensures.value) refl
