use Rattle.std.proofs.Common.{sym, subst, ◌∙◌}
use Rattle.std.specs.Prelude.{IfSome, Option}
use Rattle.sm_store.specs.declared.head.Head.{Head}
use Rattle.sm_shard.specs.declared.base_work.BaseWork.{BaseWork}
use Rattle.sm_shard.specs.declared.shard_state.ShardState.{ShardState}
use Rattle.sm_shard.specs.ShardServers.{HasRead, IsWorkTrue}
use Rattle.sm_shard.proofs.LogReads.{taken_back_so}
use Rattle.sm_shard.proofs.ShardServers.{some_of}
use Rattle.sm_shard.proofs.shard_server.ShardServer.on_record.Goals as goal

pub returns-clause-known : goal.returns-clause-known
returns-clause-known g c = λ log known stood.
    let service = g.M.StoreMachine.service in
    let me = c.args.self.now.me in
    let shard = c.args.self.now.shard in
    let old = c.in-Some.ready in
    let is = sym c.take.ensures.value ∙ c.in-Some.is in
    let knows = some_of (λ (r : ShardState g.row.M.Denot g.row.Q.Denot g.row.R.Denot). HasRead service log me shard r)
    c.args.self.now.ready old is known in
    let back = c.taken_back-again.ensures in
    let done = c.unsettle.ensures in
    let holds = IsWorkTrue service log shard in
    taken_back_so service log me shard old _ knows stood (back.made.0 ∙ done.replica)
    (back.read.2 ∙ done.read.2) (back.read.3 ∙ done.read.3) back.none.0 back.none.1
    (λ base. subst (λ (h : Head). IfSome c.taken_back-again.new.ready.work (holds h)) (sym back.read.2)
    (subst (λ (o : Option (BaseWork g.row.R.Denot)). IfSome o (holds c.unsettle.new.ready.head)) (sym back.made.1)
    (done.base log shard base)))
