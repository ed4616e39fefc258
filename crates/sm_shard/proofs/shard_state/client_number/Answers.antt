use Rattle.std.proofs.Common.{◌≡◌, ◌++◌, ◌∷◌, [], ◌+◌, take, drop, ap, sym, subst, ◌∙◌, List}
use Rattle.std.proofs.lemmas.List.{drop_more, take_more}
use Rattle.sm_store.specs.declared.item.Item.{Item}
use Rattle.sm_store.specs.Clients.{last_of}
use Rattle.sm_shard.specs.Decisions.{client_number}
use Rattle.sm_shard.proofs.ShardServers.{last_none_push, number_later}
use Rattle.sm_shard.proofs.shard_state.client_number.Goals as goal

pub loop-item-preserved : goal.loop-item-preserved
loop-item-preserved g c =
    let item = c.item-item.result in
    let items = c.args.items.now in
    let index = c.loop-item.item-index in
    let front = take index items in
    let grown : take (index + 1) items ≡ front ++ item ∷ [] =
    take_more items index item c.loop-item-test.true
    ∙ ap (λ (x : Item g.row.Q.Denot). front ++ x ∷ []) (sym c.item-item.is) in
    let left : drop index items ≡ item ∷ drop (index + 1) items =
    drop_more items index item c.loop-item-test.true
    ∙ ap (λ (x : Item g.row.Q.Denot). x ∷ drop (index + 1) items) (sym c.item-item.is) in (
      subst (λ (list : List (Item g.row.Q.Denot)). last_of c.args.client list ≡ 0) (sym grown)
          (last_none_push c.args.client front item c.loop-item.invariant.0 c.if-item-client.false),
      c.loop-item.invariant.1 ∙ ap (client_number c.args.client) left
          ∙ number_later c.args.client item (drop (index + 1) items) c.if-item-client.false,
    )
