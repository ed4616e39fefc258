use Rattle.std.proofs.Common.{◌≡◌, ◌++◌, ◌∷◌, [], ◌+◌, take, ap, sym, ◌∙◌, arith}
use Rattle.std.proofs.lemmas.List.{take_all, take_more}
use Rattle.sm_store.specs.declared.item.Item.{Item}
use Rattle.sm_store.specs.Clients.{floor_of}
use Rattle.sm_store.specs.lemmas.Numbers.{floor-append}
use Rattle.sm_shard.proofs.shard_state.floor_among.Goals as goal

pub loop-item-preserved : goal.loop-item-preserved
loop-item-preserved g c =
    let item = c.item-item.result in
    let items = c.args.items.now in
    let index = c.loop-item.item-index in
    let front = take index items in
    let grown : take (index + 1) items ≡ front ++ item ∷ [] =
    take_more items index item c.loop-item-test.true
    ∙ ap (λ (x : Item g.row.Q.Denot). front ++ x ∷ []) (sym c.item-item.is) in
    let both = floor-append front (item ∷ []) in
    let so_far = c.loop-item.invariant in
    let more = c.greater-floor.ensures in
    let whole : c.greater-floor.result ≡ floor_of (front ++ item ∷ []) = omega arith in
    whole ∙ ap floor_of (sym grown)

pub returns : goal.returns
returns g c =
    c.loop-item.invariant ∙ ap floor_of (take_all c.loop-item.item-index c.args.items.now c.loop-item-test.false)
