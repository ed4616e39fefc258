use Rattle.std.proofs.Common.{◌≡◌}
use Rattle.sm_lead.specs.Waits.{let_paused_go}
use Rattle.sm_lead.proofs.store_control.StoreControl.may_stop.Given as goal

abbrev pub invariant-loop-shard : goal.invariant-loop-shard
invariant-loop-shard l = l.let_go ≡ let_paused_go l.self l.acks l.server l.shard
