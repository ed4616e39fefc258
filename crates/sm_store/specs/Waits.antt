-- The server that a change of a record must wait for, or a step of a restart, and when a server has let go.
use Rattle.std.specs.Prelude.{ℕ, Bool, Option, Some, None, IfSome, ◌≡◌, ◌≢◌, ◌<◌, ◌≤◌, ◌⊎◌, ◌||◌, List, nat_le}
use Rattle.sm_ranges.specs.declared.stand.Stand.{Stand}
use Rattle.sm_ranges.specs.declared.stand.Stand.TheVariants.{Forwarding, Paused}
use Rattle.sm_ownership.specs.declared.change.Change.{Change}
use Rattle.sm_ownership.specs.declared.change.Change.TheVariants.{AddShard, Cancel, Reassign}
use Rattle.sm_ownership.specs.declared.record.Record.{Record}
use Rattle.sm_ownership.specs.Rules.{executor}
use Rattle.sm_place.specs.declared.server_state.ServerState.TheVariants.{Failed}
use Rattle.sm_store.specs.Store.{Placement, Transaction, acked_of}

-- the server that a change of a record with this stand must wait for, because a process of that server may execute by
-- the record
abbrev pub gives_up : Stand → Change → Option ℕ
gives_up (Forwarding owner next) AddShard = Some owner
gives_up (Forwarding owner next) Cancel = Some next
gives_up (Paused owner) (Reassign next) = Some owner
gives_up _ _ = None

-- the server has acked the shard's record as it is among these records and states, or has failed there
abbrev pub HasLetGo : {Q P : Type 0} → List (Transaction Q P) → Placement → ℕ → ℕ → Type 0
HasLetGo log read shard server =
    ((read.records shard).generation ≤ acked_of shard server log) ⊎ (read.states server ≡ Failed)

-- the server that the change must wait for has let go
abbrev pub HasWaited : {Q P : Type 0} → List (Transaction Q P) → Placement → ℕ → Change → Type 0
HasWaited log read shard change = IfSome (gives_up (read.records shard).stand change) (HasLetGo log read shard)

-- the server has let go of each shard, among this many first ones, that is paused for it
abbrev pub HaveLetGo : {Q P : Type 0} → List (Transaction Q P) → Placement → ℕ → ℕ → Type 0
HaveLetGo log read count server =
    (shard : ℕ) → shard < count → (read.records shard).stand ≡ Paused server → HasLetGo log read shard server

-- the server has let go, by the values that were read of it: the generation up to which it acked, and whether it failed
abbrev pub has_let_go : Record → ℕ → Bool → Bool
has_let_go state acked failed = nat_le state.generation acked || failed

-- a server may let go of the records up to this generation, if the latest record is this one: that generation is
-- replaced, or the server doesn't execute by it
abbrev pub MayLetGo : ℕ → ℕ → Record → Type 0
MayLetGo server generation state =
    (generation < state.generation) ⊎ ((generation ≡ state.generation) × (executor state ≢ Some server))
