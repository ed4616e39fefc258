-- A value that has no bytes and owns nothing may go to any thread.
use denote.RattleType.{RattleType}
use denote.Param.Send.{IsSend, owning_send, sendable}
use Rattle.sm_trace.specs.contracts.trace.Trace.{the_row, the_type}

pub send : (A : RattleType) → IsSend A → IsSend (the_row A)
send A a = owning_send (the_type A) (search sendable, tt) (λ trace. tt) (λ k trace w. tt)
