-- Reading books after a stand or a state was set.
use Rattle.std.proofs.Common.{◌≡◌, ◌≢◌, ℕ, ◌<◌, false, eqb, List, length, get_or, set, ap, sym, ◌∙◌, inl, inr, ◌⊎◌}
use Rattle.std.proofs.lemmas.Bool.{eqb-true}
use Rattle.std.proofs.lemmas.Bool.Decides.{eqb_tells}
use Rattle.std.proofs.lemmas.List.{get_or-set_same, get_or-set_other, length-set}
use Rattle.std.proofs.lemmas.List.Sums.{passes_at_first}
use Rattle.sm_ranges.specs.declared.stand.Stand.{Stand}
use Rattle.sm_rows.specs.declared.server_row.ServerRow.{ServerRow}
use Rattle.sm_place.specs.declared.server_state.ServerState.{ServerState}
use Rattle.sm_place.specs.declared.server_state.ServerState.TheVariants.{Up}
use Rattle.sm_place.specs.declared.shard.Shard.{Shard}
use Rattle.sm_place.specs.Books.{BooksView, IsKnown, moved, no_server, no_shard, place_of, shard_at, state_of}
use Rattle.sm_place.specs.Books.{with_stand, with_state}

-- the shard whose stand was set has it, every other shard is as before, and there are as many
pub shard_at-same : (shards : List Shard) (k : ℕ) (stand : Stand) → k < length shards
    → shard_at (with_stand shards k stand) k ≡ moved (shard_at shards k) stand
shard_at-same shards k stand h = get_or-set_same shards k (moved (shard_at shards k) stand) no_shard h

pub shard_at-other : (shards : List Shard) (k j : ℕ) (stand : Stand) → j ≢ k
    → shard_at (with_stand shards k stand) j ≡ shard_at shards j
shard_at-other shards k j stand ne = get_or-set_other shards k j (moved (shard_at shards k) stand) no_shard ne

pub length-with_stand : (shards : List Shard) (k : ℕ) (stand : Stand)
    → length (with_stand shards k stand) ≡ length shards
length-with_stand shards k stand = length-set shards k (moved (shard_at shards k) stand)

-- the row at a server's place is its own
pub id-at_place : (servers : List ServerRow) (a : ℕ) → IsKnown servers a
    → (get_or servers (place_of servers a) no_server).id ≡ a
id-at_place servers a known = eqb-true _ _ (passes_at_first (λ row. eqb row.id a) servers no_server known)

-- if two servers have the same place, they are the same
pub same_place : (servers : List ServerRow) (a b : ℕ) → IsKnown servers a → place_of servers b ≡ place_of servers a
    → b ≡ a
same_place servers a b known e =
    let here = id-at_place servers a known in
    let b_known : IsKnown servers b = rw e known in
    let there = id-at_place servers b b_known in
    sym there ∙ ap (λ i. (get_or servers i no_server).id) e ∙ here

-- after the state of a was set, a has the new state, and every other server has its old one
pub state_of-set : (books : BooksView) (a b : ℕ) (state : ServerState)
    → length books.states ≡ length books.servers → IsKnown books.servers a
    → ((b ≡ a) × (state_of (with_state books a state) b ≡ state))
    ⊎ ((eqb b a ≡ false) × (state_of (with_state books a state) b ≡ state_of books b))
state_of-set books a b state len known =
    elim (eqb_tells b a) [
      | inl p ↦
          let inside : place_of books.servers a < length books.states = rw len known in
          inl (
            p.1,
            ap (λ i. get_or (set books.states (place_of books.servers a) state) (place_of books.servers i) Up) p.1
                ∙ get_or-set_same books.states (place_of books.servers a) state Up inside,
          )
      | inr p ↦ inr (
        p.0,
        get_or-set_other books.states (place_of books.servers a) (place_of books.servers b) state Up
            (λ same. p.1 (same_place books.servers a b known same)),
      )
    ]
