use Rattle.std.proofs.Common.{◌≡◌}
use Rattle.crossbeam_channel.specs.Claims.{IsSeatAt, view}
use Rattle.crossbeam_channel.specs.Ends.{receives_on}
use Rattle.sm_calls.proofs.reply.ReplyReceiver.receive_crossing.Given as goal

-- the pass is of the channel, and knows the call still
abbrev pub invariant-loop-look : goal.invariant-loop-look
invariant-loop-look g l = IsSeatAt (receives_on l.receiver) l.pass × (view l.pass ≡ l.fn.self)
