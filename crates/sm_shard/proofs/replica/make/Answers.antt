use Rattle.std.proofs.Common.{rules, arith}
use Rattle.sm_shard.proofs.Replicas.{replica_next}
use Rattle.sm_shard.proofs.replica.make.Goals as goal

pub returns : goal.returns
returns g c = record {
  answer = search rules;
  machine = search rules;
  replica = λ before replica.
      replica_next g.M.StoreMachine.service before c.args.item.now
      c.args.replica.now c.answer.new.self c.note.new.lasts c.greater-replica.result c.in_ok-reply.reply replica
      (omega arith)
      (omega arith) c.in_ok-reply.ensures.reply c.in_ok-reply.ensures.after c.in_ok-note.ensures
      c.greater-replica.ensures;
}
