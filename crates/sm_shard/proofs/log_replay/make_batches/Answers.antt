use Rattle.std.proofs.Common.{◌≡◌, ◌++◌, ◌∷◌, [], ◌+◌, List, take, ap, sym, subst, ◌∙◌}
use Rattle.std.specs.Global.{Vec}
use Rattle.std.proofs.lemmas.List.{take_more}
use Rattle.sm_store.specs.declared.item.Item.{Item}
use Rattle.sm_shard.specs.Replicas.{IsReplica}
use Rattle.sm_shard.proofs.LogReads.{batch_items, batch_more}
use Rattle.sm_shard.proofs.log_replay.make_batches.Goals as goal

pub loop-batch-preserved : goal.loop-batch-preserved
loop-batch-preserved g c = λ before replica.
    let service = g.M.StoreMachine.service in
    let batches = c.args.batches.now in
    let batch = c.batch-item.result in
    let index = c.loop-batch.batch-index in
    let front = take index batches in
    let grown : take (index + 1) batches ≡ front ++ batch ∷ [] =
    take_more batches index batch c.loop-batch-test.true
    ∙ ap (λ (x : Vec (Item g.row.Q.Denot)). front ++ x ∷ []) (sym c.batch-item.is) in
    subst (λ (list : List (Vec (Item g.row.Q.Denot))). IsReplica service (before ++ batch_items list)
    c.make_all.new.replica) (sym grown)
    (subst (λ (list : List (Item g.row.Q.Denot)). IsReplica service list c.make_all.new.replica)
    (batch_more before front batch c.deref.result.now c.deref.ensures.value)
    (c.in_ok-make_all.ensures.replica (before ++ batch_items front) (c.loop-batch.invariant before replica)).0)
