use Rattle.std.proofs.Common.{List, Option, ◌<◌, sym, subst}
use Rattle.sm_store.specs.declared.item.Item.{Item}
use Rattle.sm_store.specs.Deeds.{MaySend}
use Rattle.sm_shard.specs.declared.base_work.NamedBase.{NamedBase}
use Rattle.sm_shard.specs.Decisions.{named_by}
use Rattle.sm_shard.specs.ShardServers.{transaction_for}
use Rattle.sm_shard.proofs.ShardServers.{known_of, sent_may}
use Rattle.sm_shard.proofs.shard_server.ShardServer.sending.Goals as goal

pub returns-in-Some-clause-may : goal.returns-in-Some-clause-may
returns-in-Some-clause-may g c = λ charter log count parts known.
    let me = c.args.self.now.me in
    let shard = c.args.self.now.shard in
    let ready = c.in-Some.ready in
    let service = g.M.StoreMachine.service in
    let within : shard < charter.count = subst (λ n. shard < n) (sym count) c.args.self.now.within in
    subst
    (λ (base : Option NamedBase).
    MaySend charter log (transaction_for shard me base c.deref.result.now ready.head ready.stood ready.logged))
    (sym c.named.ensures)
    (subst
    (λ (items : List (Item g.row.Q.Denot)).
    MaySend charter log (transaction_for shard me (named_by ready.work) items ready.head ready.stood ready.logged))
    (sym c.deref.ensures.value)
    (sent_may service charter log me shard ready parts within c.args.self.now.named
    (known_of service log me shard c.args.self.now.ready ready c.in-Some.is known)))
