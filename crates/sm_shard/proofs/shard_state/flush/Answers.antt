use Rattle.std.proofs.Common.{sym, subst}
use Rattle.std.specs.Prelude.{Option, IfSome}
use Rattle.sm_shard.specs.declared.base_work.BaseWork.{BaseWork}
use Rattle.sm_shard.specs.ShardServers.{IsWorkTrue}
use Rattle.sm_shard.proofs.Works.{base_naming}
use Rattle.sm_shard.proofs.shard_state.flush.Goals as goal

pub returns-clause-base : goal.returns-clause-base
returns-clause-base g c = λ log shard was.
    let service = g.M.StoreMachine.service in
    let old = c.args.ready.now in
    subst (λ (o : Option (BaseWork g.row.R.Denot)). IfSome o (IsWorkTrue service log shard old.head))
    (sym c.name_next.ensures) (base_naming service log shard old.head old.work was)
