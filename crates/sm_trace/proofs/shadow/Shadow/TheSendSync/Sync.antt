-- A value that has no bytes and owns nothing may be shared by threads.
use denote.Memory.{part_of, raw_all}
use denote.RattleType.{RattleType}
use denote.Param.Send.{IsSync, cell_keyless, owning_send, sendable}
use Rattle.sm_trace.specs.contracts.shadow.Shadow.{the_row, the_type}

pub sync : (A : RattleType) → IsSync A → IsSync (the_row A)
unfolding part_of
sync A a = record {
  shared = λ d b o κ q vs. (
    cell_keyless q (raw_all (the_row A).mir) vs b o,
    (owning_send (the_type A) (search sendable, tt) (λ shadow. tt) (λ k shadow w. tt)).owned d vs,
  );
}
