use Rattle.std.proofs.Common.{◌≡◌, ◌≤◌}
use Rattle.sm_ownership.specs.declared.mode.Mode.TheVariants.{Forwarded}
use Rattle.sm_handle_state.proofs.serving.hopped.Given as goal

abbrev pub invariant-loop-hop : goal.invariant-loop-hop
invariant-loop-hop l =
    (l.envelope.number ≡ l.fn.direct.number) × (l.envelope.shard ≡ l.fn.direct.shard) × (l.envelope.hops ≡ l._hop)
    × (1 ≤ l._hop → l.envelope.mode ≡ Forwarded l.from)
