-- The facts about a place or a gap in a key map, and the map after a change there.
use Rattle.std.proofs.Common.{◌≡◌, ℕ, ◌<◌, ◌+◌, List, [], ◌∷◌, ◌++◌, length, get_or, set, take, Option, Some, None}
use Rattle.std.proofs.Common.{unwrap_or, Result, OnOk, refl, sym, ap, subst, ◌∙◌, arith}
use Rattle.std.specs.List.{HoldsAt, insert, remove}
use Rattle.std.specs.Option.{option_map}
use Rattle.std.specs.Ordering.{is_lt}
use Rattle.std.specs.declared.cmp.Ordering.TheVariants.{Less}
use Rattle.std.proofs.lemmas.Result.{on_ok_weaker}
use Rattle.std.proofs.lemmas.List.{length-take, get_or-take, take_more}
use Rattle.std.proofs.lemmas.List.Edits.{insert_end}
use Rattle.sm_ranges.specs.KeyOrder.{key_cmp}
use Rattle.sm_ranges.specs.Keyed.{IsKeyPlace, IsKeyGap}
use Rattle.sm_ranges.specs.lemmas.Keyed as keyed
use Rattle.sm_map.specs.KeyMap.{KeyValue, KeyPair, key_of, IsKeyMap, held_at, holding, without, text_of, text_at}
use Rattle.sm_map.specs.KeyMap.{size_of, size_at, IsEdgeOf}
use Rattle.sm_map.specs.ArenaMap.{MapValue, IsRewrite, IsAddition}

module _ (m : List KeyPair) (key : List ℕ) (map : IsKeyMap m) where
  module _ (at : ℕ) (place : IsKeyPlace key_of m key at) where
    pub held_here : (d : KeyPair) → held_at m key ≡ Some (get_or m at d).value
    held_here d = ap (option_map (λ (pair : KeyPair). pair.value)) (keyed.found_here key_of m key map at place d)

    pub text_here : (d : KeyPair) → text_at m key ≡ text_of (Some (get_or m at d).value)
    text_here d = ap text_of (held_here d)

    pub size_here : (d : KeyPair) → size_at m key ≡ size_of (get_or m at d)
    size_here d = ap (λ (pair : Option KeyPair). unwrap_or (option_map size_of pair) 0)
        (keyed.found_here key_of m key map at place d)

    pub set_here : (d : KeyPair) (value : KeyValue)
        → set m at (record { key = (get_or m at d).key; value = value }) ≡ holding m key value
    set_here d value =
        ap (λ (k : List ℕ). set m at (record { key = k; value = value })) (keyed.key_here key_of m key map at place d)
        ∙ keyed.set_here key_of m key map at place (record { key = key; value = value })

    pub remove_here : remove m at ≡ without m key
    remove_here = keyed.remove_here key_of m key map at place

    pub edge_here : IsEdgeOf m key at
    edge_here = record {
      within = omega (arith, place.within);
      apart = (
        λ k d _ low. ap is_lt (keyed.front key_of m key map at place k d low),
        λ k d high within. keyed.from_here key_of m key map at place k d high within,
      );
    }

  module _ (at : ℕ) (gap : IsKeyGap key_of m key at) where
    pub held_nowhere : held_at m key ≡ None
    held_nowhere = ap (option_map (λ (pair : KeyPair). pair.value)) (keyed.found_nowhere key_of m key map at gap)

    pub text_nowhere : text_at m key ≡ []
    text_nowhere = ap text_of held_nowhere

    pub size_nowhere : size_at m key ≡ 0
    size_nowhere = ap (λ (pair : Option KeyPair). unwrap_or (option_map size_of pair) 0)
        (keyed.found_nowhere key_of m key map at gap)

    pub insert_here : (value : KeyValue) → insert m at (record { key = key; value = value }) ≡ holding m key value
    insert_here value = keyed.insert_here key_of m key map at gap (record { key = key; value = value })

    pub without_here : m ≡ without m key
    without_here = keyed.without_here key_of m key map at gap

    pub edge_gap : IsEdgeOf m key at
    edge_gap = record {
      within = gap.within;
      apart = (
        λ k d low high. ap is_lt (gap.apart.0 k d low high),
        λ k d low high. ap is_lt (gap.apart.1 k d low high),
      );
    }

  pub holding_in_order : (value : KeyValue) → IsKeyMap (holding m key value)
  holding_in_order value = keyed.with_key_in_order key_of m key map (record { key = key; value = value }) refl

  pub without_in_order : IsKeyMap (without m key)
  without_in_order = keyed.without_key_in_order key_of m key map

module _ (m : List KeyPair) (map : IsKeyMap m) (at : ℕ) (within : at < length m) (d : KeyPair) where
  pub set_in_order : (value : KeyValue) → IsKeyMap (set m at (record { key = (get_or m at d).key; value = value }))
  set_in_order value = rw (set_here m (get_or m at d).key map at (keyed.place_itself key_of m map at within d) d value)
      (holding_in_order m (get_or m at d).key map value)

  pub remove_in_order : IsKeyMap (remove m at)
  remove_in_order = rw (remove_here m (get_or m at d).key map at (keyed.place_itself key_of m map at within d))
      (without_in_order m (get_or m at d).key map)

-- the pair at a place goes to the end of a copy of those before it
module _ (m : List KeyPair) (map : IsKeyMap m) (at : ℕ) (within : at < length m) (pair : KeyPair)
    (read : HoldsAt (λ other. pair ≡ other) m at) where
  before_it : (k : ℕ) (d : KeyPair) → k < at → key_cmp (get_or (take at m) k d).key pair.key ≡ Less
  before_it k d low =
      let kept : get_or (take at m) k d ≡ get_or m k d = get_or-take at m k d low in
      rw (kept, read d) (map k at d low within)

  pub copy_gap : (copy : List KeyPair) → copy ≡ take at m → IsKeyGap key_of copy pair.key at
  copy_gap copy is = rw is (record {
    within = omega (arith, length-take at m);
    apart = (λ k d _ low. before_it k d low, λ k d high inside. absurd (omega (arith, length-take at m)));
  })

  pub copy_more : (old new : MapValue) → (old.pairs ≡ take at m) × (old.dead ≡ 0) → IsAddition old at pair new
      → (new.pairs ≡ take (at + 1) m) × (new.dead ≡ 0)
  copy_more old new before one =
      let long : length (take at m) ≡ at = omega (arith, length-take at m) in
      let end : insert (take at m) at pair ≡ take at m ++ pair ∷ [] =
      subst (λ (n : ℕ). insert (take at m) n pair ≡ take at m ++ pair ∷ []) long (insert_end (take at m) pair) in
      let next : take (at + 1) m ≡ take at m ++ pair ∷ [] = rw (read pair) (take_more m at pair within) in
      (one.pairs ∙ (ap (λ (l : List KeyPair). insert l at pair) before.0 ∙ (end ∙ sym next)), one.dead ∙ before.1)

-- the value at a key after a change at its place
module _ {T E : Type 0} (r : Result T E) (old : MapValue) (key : List ℕ) (map : IsKeyMap old.pairs) (at : ℕ)
    (new : MapValue) where
  module _ (place : IsKeyPlace key_of old.pairs key at) (value : KeyPair → KeyValue) (d : KeyPair)
      (written : OnOk r (HoldsAt (λ pair. IsRewrite old at pair (value pair) new) old.pairs at)) where
    pub rewrite_holds : OnOk r (new.pairs ≡ holding old.pairs key (value (get_or old.pairs at d)))
    rewrite_holds = on_ok_weaker r (λ (each : HoldsAt (λ pair. IsRewrite old at pair (value pair) new) old.pairs at).
        (each d).pairs ∙ set_here old.pairs key map at place d (value (get_or old.pairs at d))) written

    pub rewrite_dead : OnOk r (new.dead ≡ old.dead + length (text_at old.pairs key))
    rewrite_dead =
        on_ok_weaker r (λ (each : HoldsAt (λ pair. IsRewrite old at pair (value pair) new) old.pairs at). (each d).dead
        ∙ ap (λ (text : List ℕ). old.dead + length text) (sym (text_here old.pairs key map at place d))) written

  module _ (gap : IsKeyGap key_of old.pairs key at) (value : KeyValue)
      (added : OnOk r (IsAddition old at (record { key = key; value = value }) new)) where
    pub addition_holds : OnOk r (new.pairs ≡ holding old.pairs key value)
    addition_holds = on_ok_weaker r (λ (one : IsAddition old at (record { key = key; value = value }) new). one.pairs
        ∙ insert_here old.pairs key map at gap value) added

    pub addition_dead : OnOk r (new.dead ≡ old.dead + length (text_at old.pairs key))
    addition_dead = on_ok_weaker r (λ (one : IsAddition old at (record { key = key; value = value }) new). omega (
      arith,
      one.dead,
      ap (λ (text : List ℕ). length text) (text_nowhere old.pairs key map at gap),
    )) added
