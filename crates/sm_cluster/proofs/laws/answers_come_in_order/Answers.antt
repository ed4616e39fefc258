use Rattle.std.proofs.Common.{subst, sym}
use Rattle.sm_server.specs.Answers.{IsAnswer}
use Rattle.sm_cluster.proofs.Placing.{in_order}
use Rattle.sm_cluster.proofs.laws.answers_come_in_order.Goals as goal

pub returns : goal.returns
returns g c = λ service earlier later number next_number request next learned answer gives told next_gives same.
    in_order service _ gives.mode next_gives.mode request next learned answer later.pass.seen (subst
    (λ shard. IsAnswer service shard gives.mode request learned) (sym same) gives.executed) next_gives.executed told
    next_gives.seen next_gives.unseen
