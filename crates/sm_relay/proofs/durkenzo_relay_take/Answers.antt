use Rattle.std.proofs.Common.{Bool, Option, Some, subst, sym}
use Rattle.sm_opaque.specs.Opaque.{only_reads}
use Rattle.sm_shard_bytes.specs.Calls.{IsDecidedAs, IsRequestInput}
use Rattle.sm_relay.specs.declared.relay_server.RelayServer.{RelayServer}
use Rattle.sm_relay.specs.Calls.{RelaysOn}
use Rattle.sm_relay.specs.Relays.{RelayDone}
use Rattle.sm_relay.proofs.durkenzo_relay_take.Goals as goal

pub returns-clause-decided : goal.returns-clause-decided
returns-clause-decided c =
    let new : RelayServer = record { server = c.take.new.server } in
    let told = IsDecidedAs c.take.result c.take.new.reply c.take.new.forward in
    λ is.
    subst (λ (old : Option RelayServer). RelaysOn old
    (λ _. IsRequestInput (only_reads c.args.request.now) c.args.client c.args.number c.args.from c.args.hops
    c.args.forgets c.args.request.now) told (Some new)) (sym c.state_mut.ensures.value)
    (subst (λ (reads : Bool). RelayDone c.state_mut.result.now
    (IsRequestInput reads c.args.client c.args.number c.args.from c.args.hops c.args.forgets
    c.args.request.now) told new) c.is_read-reads.ensures (c.take.ensures.decided is))
