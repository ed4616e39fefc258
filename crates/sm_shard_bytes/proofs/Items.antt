-- Last requests as items, with one more.
use Rattle.std.proofs.Common.{◌≡◌, ◌∙◌, ◌<◌, ℕ, ◌+◌, List, [], ◌∷◌, ◌++◌, length, get_or, map, take, sym, ap, subst}
use Rattle.std.specs.Global.{Vec}
use Rattle.std.specs.List.{AllByRecursion}
use Rattle.std.proofs.lemmas.List.{map_push, take_more}
use Rattle.sm_store.specs.declared.item.Item.{Item}
use Rattle.sm_codec.specs.Spelling.{FitsItem, item_view, item_views}
use Rattle.sm_shard.specs.declared.replica.LastRequest.{LastRequest}
use Rattle.sm_shard_bytes.specs.Replies.{last_item}

pub all_push : {A : Type 0} (P : A → Type 0) (xs : List A) (y : A) → AllByRecursion P xs → P y
    → AllByRecursion P (xs ++ y ∷ [])
all_push P [] y all one = (one, tt)
all_push P (x ∷ xs) y all one = (all.0, all_push P xs y all.1 one)

module _ (items pushed : List (Item (Vec ℕ))) (item : Item (Vec ℕ)) (is : pushed ≡ items ++ item ∷ []) where
  views : item_views pushed ≡ item_views items ++ item_view item ∷ []
  views = ap item_views is ∙ map_push item_view items item

  pub items_fit : AllByRecursion FitsItem (item_views items) → FitsItem (item_view item)
      → AllByRecursion FitsItem (item_views pushed)
  items_fit all one = subst (AllByRecursion FitsItem) (sym views) (all_push FitsItem (item_views items)
      (item_view item) all one)

  pub items_spelled : {R : Type 0} (spelled : R → List ℕ) (lasts : List (ℕ × LastRequest R)) (index : ℕ)
      (d : ℕ × LastRequest R) → index < length lasts → item_view item ≡ last_item spelled (get_or lasts index d)
      → item_views items ≡ map (last_item spelled) (take index lasts)
      → item_views pushed ≡ map (last_item spelled) (take (index + 1) lasts)
  items_spelled spelled lasts index d within one all =
      views
      ∙ ap (λ (xs : List (Item (List ℕ))). xs ++ item_view item ∷ []) all
      ∙ ap (λ (x : Item (List ℕ)). map (last_item spelled) (take index lasts) ++ x ∷ []) one
      ∙ sym (map_push (last_item spelled) (take index lasts) (get_or lasts index d))
      ∙ sym (ap (map (last_item spelled)) (take_more lasts index d within))
