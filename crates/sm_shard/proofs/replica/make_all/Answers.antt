use Rattle.std.proofs.Common.{◌≡◌, ◌++◌, ◌∷◌, [], ◌+◌, List, take, ap, sym, ◌∙◌, subst}
use Rattle.std.proofs.lemmas.List.{take_more}
use Rattle.sm_store.specs.declared.item.Item.{Item}
use Rattle.sm_store.specs.Clients.{AreNext}
use Rattle.sm_store.specs.Clients.{state_after}
use Rattle.sm_shard.specs.Replicas.{IsReplica, replies_of}
use Rattle.sm_shard.proofs.Replicas.{replica_push}
use Rattle.sm_shard.proofs.Replies.{answers_push, state_push}
use Rattle.sm_shard.proofs.replica.make_all.Goals as goal

pub loop-item-preserved : goal.loop-item-preserved
loop-item-preserved g c =
    let service = g.M.StoreMachine.service in
    let item = c.item-item.result in
    let front = take c.loop-item.item-index c.args.items.now in
    let grown : take (c.loop-item.item-index + 1) c.args.items.now ≡ front ++ item ∷ [] =
    take_more c.args.items.now c.loop-item.item-index item c.loop-item-test.true
    ∙ ap (λ (x : Item g.row.Q.Denot). front ++ x ∷ []) (sym c.item-item.is) in
    record {
      answers = answers_push service c.args.replica.now.machine c.loop-item.replica.machine front item
          c.in_ok-reply.reply c.loop-item.answers.items c.push.new.self.items c.in_ok-push.ensures.items
          c.loop-item.invariant.answers c.loop-item.invariant.machine c.in_ok-reply.ensures.answer
          ∙ ap (replies_of service c.args.replica.now.machine) (sym grown);
      machine = state_push service c.args.replica.now.machine c.loop-item.replica.machine
          c.make.new.replica.machine front item c.loop-item.invariant.machine c.in_ok-reply.ensures.machine
          ∙ ap (state_after service c.args.replica.now.machine) (sym grown);
      replica = λ before replica.
          subst (λ (list : List (Item g.row.Q.Denot)). IsReplica service (before ++ list) c.make.new.replica
          × AreNext before list) (sym grown)
          (replica_push service front item c.args.replica.now c.loop-item.replica c.make.new.replica
          c.loop-item.invariant.replica c.in_ok-reply.ensures.replica before replica);
    }
