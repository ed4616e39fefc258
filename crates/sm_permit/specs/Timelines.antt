-- The steps of a store, and of the leases of its servers' keys, each at its moment. Lists have the latest first, as in
-- the store.
use Rattle.std.specs.Prelude.{ℕ, Bool, false, Option, Some, None, ◌≡◌, ◌==◌, List, [], ◌∷◌, if◌then◌else◌}
use Rattle.sm_store.specs.declared.store_key.PassingKey.{PassingKey}
use Rattle.sm_store.specs.declared.store_key.PassingKey.TheVariants.{Server}
use Rattle.sm_store.specs.Deeds.{Expiring, Following, done_at}
use Rattle.sm_store.specs.Store.{Ack, Transaction, Write, Deletes, deletes_key, left_by, made_at}

-- the lease under which a server's key lies in the store: the revision at which a process put the key there, which
-- stands for that process, and the moment at which the store granted the lease, or kept it last
pub record Lease : Type 0 where
  pub joined : ℕ
  pub kept : ℕ

-- the steps of the store and of its processes
pub data TimelineStep (Q P : Type 0) : Type 0 where
  -- the store makes a transaction; a server's key that is there stays under its lease if its process writes it again
  Makes : (txn : Transaction Q P) → TimelineStep Q P
  -- a process puts its server's key there, having read up to a revision: under a lease that it asked for at the moment
  -- `sent`, and the store granted at the moment `granted`
  Joins : (server read sent granted : ℕ) → TimelineStep Q P
  -- the store keeps the lease of the server's key, as its process asked at the moment `sent`
  Keeps : (server sent : ℕ) → TimelineStep Q P
  -- the process gives back the lease of its server's key, and executes no more under it; other keys that lie under the
  -- lease are deleted with it, such as the leader's key
  Leaves : (server : ℕ) (others : List PassingKey) → TimelineStep Q P
  -- the process that joined at this revision tells up to which revision it has read, and which records it acks: it
  -- executes no more by those. It wrote its server's key last at the revision `told`
  Tells : (server joined read : ℕ) (acks : List Ack) (told : ℕ) → TimelineStep Q P
  -- that process hands over a shard's body, in bytes that name the process and the generation: it executes no more by
  -- the shard's records up to this generation
  Hands : (shard server joined generation : ℕ) → TimelineStep Q P

-- a step at its moment; if it writes to the store, the store does so at this revision
pub record TimedStep (Q P : Type 0) : Type 0 where
  pub moment : ℕ
  pub revision : ℕ
  pub step : TimelineStep Q P

-- in this step, the server's process gives back its lease
abbrev pub gives_back_lease : {Q P : Type 0} → ℕ → TimelineStep Q P → Bool
gives_back_lease server (Leaves at others) = at == server
gives_back_lease server _ = false

-- the moment of the latest step
abbrev pub latest_moment : {Q P : Type 0} → List (TimedStep Q P) → ℕ
latest_moment [] = 0
latest_moment (one ∷ earlier) = one.moment

-- the store's log after a step, which writes to it at this revision, if it writes at all
abbrev pub stored_with : {Q P : Type 0} → ℕ → TimelineStep Q P → List (Transaction Q P) → List (Transaction Q P)
stored_with revision (Makes txn) log = made_at revision txn ∷ log
stored_with revision (Joins server read sent granted) log = done_at revision (Following server read [] 0) ∷ log
stored_with revision (Keeps server sent) log = log
stored_with revision (Leaves server others) log = done_at revision (Expiring (Server server ∷ others)) ∷ log
stored_with revision (Tells server joined read acks told) log = done_at revision (Following server read acks told) ∷ log
stored_with revision (Hands shard server joined generation) log = log

-- the store's log
abbrev pub stored : {Q P : Type 0} → List (TimedStep Q P) → List (Transaction Q P)
stored [] = []
stored (one ∷ earlier) = stored_with one.revision one.step (stored earlier)

-- a lease that is kept at a moment
abbrev pub kept_at : ℕ → Option Lease → Option Lease
kept_at moment None = None
kept_at moment (Some lease) = Some (record { joined = lease.joined; kept = moment })

-- the lease of a server's key after a write
abbrev pub lease_after : {Q P : Type 0} → ℕ → Option Lease → Write Q P → Option Lease
lease_after server before (Deletes keys) = if deletes_key keys (Server server) then None else before
lease_after server before _ = before

-- the lease of a server's key after a step at a moment, which writes to the store at this revision, if it writes at all
abbrev pub lease_with : {Q P : Type 0} → ℕ → ℕ → ℕ → Option Lease → TimelineStep Q P → Option Lease
lease_with server moment revision before (Makes txn) = left_by (lease_after server) before txn.writes
lease_with server moment revision before (Joins at read sent granted) =
    if at == server then Some (record { joined = revision; kept = granted }) else before
lease_with server moment revision before (Keeps at sent) = if at == server then kept_at moment before else before
lease_with server moment revision before (Leaves at others) =
    if deletes_key (Server at ∷ others) (Server server) then None else before
lease_with server moment revision before (Tells at joined read acks told) = before
lease_with server moment revision before (Hands shard at joined generation) = before

-- the lease under which a server's key lies, if it is there
abbrev pub lease_of : {Q P : Type 0} → ℕ → List (TimedStep Q P) → Option Lease
lease_of server [] = None
lease_of server (one ∷ earlier) =
    lease_with server one.moment one.revision (lease_of server earlier) one.step

-- the key lies there under the lease of the process that joined at this revision
abbrev pub IsUnder : ℕ → Option Lease → Type 0
IsUnder joined key = (lease : Lease) × (key ≡ Some lease) × (lease.joined ≡ joined)
