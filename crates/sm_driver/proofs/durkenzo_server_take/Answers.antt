use Rattle.std.proofs.Common.{Bool, Option, Some, subst, sym}
use Rattle.sm_texts.specs.Texts.{is_read}
use Rattle.sm_shard_bytes.specs.Calls.{IsDecidedAs, IsRequestInput}
use Rattle.sm_driver.specs.declared.text_server.TextServer.{TextServer}
use Rattle.sm_driver.specs.Calls.{MakesOn}
use Rattle.sm_driver.specs.Servers.{TextsDone}
use Rattle.sm_driver.proofs.durkenzo_server_take.Goals as goal

pub returns-clause-decided : goal.returns-clause-decided
returns-clause-decided c =
    let new : TextServer = record { server = c.take.new.server } in
    let told = IsDecidedAs c.take.result c.take.new.reply c.take.new.forward in
    λ is.
    subst (λ (old : Option TextServer). MakesOn old
    (λ _. IsRequestInput (is_read c.args.request.now) c.args.client c.args.number c.args.from c.args.hops
    c.args.forgets c.args.request.now) told (Some new)) (sym c.state_mut.ensures.value)
    (subst (λ (reads : Bool). TextsDone c.state_mut.result.now
    (IsRequestInput reads c.args.client c.args.number c.args.from c.args.hops c.args.forgets
    c.args.request.now) told new) c.is_read-reads.ensures (c.take.ensures.decided is))
