-- The history of the ownership table by a store, its latest entry first: each change of a record, and for each request
-- an admission of the server that executed it, which ended with the request.
use Rattle.std.specs.Prelude.{ℕ, List, [], ◌∷◌}
use Rattle.sm_ownership.specs.declared.entry.Ending.TheVariants.{Request}
use Rattle.sm_ownership.specs.declared.entry.Entry.{Entry}
use Rattle.sm_ownership.specs.declared.entry.Kind.TheVariants.{Change as Changed, Admit, Done}
use Rattle.sm_store.specs.declared.item.Item.{Item}
use Rattle.sm_store.specs.Store.{Transaction, Write, Stands, Executes, left_by}

-- an admission of the server for each request, and its end
abbrev pub with_requests : {Q : Type 0} → ℕ → ℕ → List (Entry Q) → List (Item Q) → List (Entry Q)
with_requests shard server earlier [] = earlier
with_requests shard server earlier (item ∷ items) =
    with_requests shard server
    (record { actor = server; shard = shard; kind = Done (Request item.request) }
    ∷ record { actor = server; shard = shard; kind = Admit server item.mode } ∷ earlier) items

-- the entries, with the entries of a write
abbrev pub with_write : {Q P : Type 0} → List (Entry Q) → Write Q P → List (Entry Q)
with_write earlier (Stands process shard change next) =
    record { actor = 0; shard = shard; kind = Changed change } ∷ earlier
with_write earlier (Executes shard number server items) = with_requests shard server earlier items
with_write earlier _ = earlier

-- the entries of a store
abbrev pub history_of : {Q P : Type 0} → List (Transaction Q P) → List (Entry Q)
history_of [] = []
history_of (txn ∷ earlier) = left_by with_write (history_of earlier) txn.writes
