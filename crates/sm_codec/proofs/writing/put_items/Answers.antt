use Rattle.std.proofs.Common.{◌≡◌, ℕ, ◌++◌, ◌∷◌, [], ◌+◌, List, append_assoc, ap, sym, take, ◌∙◌}
use Rattle.std.specs.Global.{Vec}
use Rattle.std.specs.List.{flat_map}
use Rattle.std.proofs.lemmas.List.{take_more}
use Rattle.sm_store.specs.declared.item.Item.{Item}
use Rattle.sm_codec.specs.Spelling.{item_bytes, item_view, item_views}
use Rattle.sm_codec.proofs.Batches.{put_more, request_fits}
use Rattle.sm_codec.proofs.writing.put_items.Goals as goal

pub put_item-requires : goal.put_item-requires
put_item-requires c =
    rw c.item-item.is (request_fits c.args.items.now c.requires c.loop-item.item-index _ c.loop-item-test.true)

pub loop-item-preserved : goal.loop-item-preserved
loop-item-preserved c =
    let items = c.args.items.now in
    let item = c.item-item.result in
    let index = c.loop-item.item-index in
    let out = c.args.out.now.items in
    let front = take index items in
    let grown : take (index + 1) items ≡ front ++ item ∷ [] =
    take_more items index item c.loop-item-test.true
    ∙ ap (λ (x : Item (Vec ℕ)). front ++ x ∷ []) (sym c.item-item.is) in
    c.in_ok-put_item.ensures
    ∙ ap (λ (x : List ℕ). x ++ item_bytes (item_view item)) c.loop-item.invariant
    ∙ append_assoc out (flat_map item_bytes (item_views front)) (item_bytes (item_view item))
    ∙ ap (λ (x : List ℕ). out ++ x) (sym (put_more front item))
    ∙ ap (λ (l : List (Item (Vec ℕ))). out ++ flat_map item_bytes (item_views l)) (sym grown)
