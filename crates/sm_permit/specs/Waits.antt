-- The conditions of a permit beyond the law of the store: how far each process has let go, and that the store ends no
-- lease early.
use Rattle.std.specs.Prelude.{ℕ, Bool, IfSome, ◌≡◌, ◌≤◌, ◌==◌, ◌&&◌, ◌+◌, List, [], ◌∷◌, max, if◌then◌else◌}
use Rattle.std.specs.List.{AllByRecursion}
use Rattle.sm_store.specs.declared.store_key.PassingKey.{PassingKey}
use Rattle.sm_store.specs.declared.store_key.PassingKey.TheVariants.{Server}
use Rattle.sm_store.specs.Store.{Write, Acks, Deletes, acked_among, revision_of, server_key}
use Rattle.sm_permit.specs.Timelines.{Lease, TimelineStep, TimedStep, Makes, Joins, Keeps, Leaves, Tells, Hands}
use Rattle.sm_permit.specs.Timelines.{IsUnder}
use Rattle.sm_permit.specs.Timelines.{latest_moment, lease_of, stored}

-- this is that server, and that process of it, which joined at that revision
abbrev pub is_process : ℕ → ℕ → ℕ → ℕ → Bool
is_process server joined by its = by == server && its == joined

-- the greatest generation up to which this one process has let go of the shard after a step, by an ack or by handing
-- over
abbrev pub let_go_with : {Q P : Type 0} → ℕ → ℕ → ℕ → ℕ → TimelineStep Q P → ℕ
let_go_with shard server joined before (Tells by its read acks told) =
    if is_process server joined by its then acked_among shard acks before else before
let_go_with shard server joined before (Hands at by its generation) =
    if at == shard && is_process server joined by its then max generation before else before
let_go_with shard server joined before _ = before

-- the same after all steps
abbrev pub let_go_of : {Q P : Type 0} → ℕ → ℕ → ℕ → List (TimedStep Q P) → ℕ
let_go_of shard server joined [] = 0
let_go_of shard server joined (one ∷ earlier) =
    let_go_with shard server joined (let_go_of shard server joined earlier) one.step

-- a lease that was kept so long ago is over at a moment
abbrev pub IsOverAt : ℕ → ℕ → Lease → Type 0
IsOverAt length moment lease = lease.kept + length ≤ moment

-- a key may be deleted at a moment: a server's key only if the lease under which it lies is over
abbrev pub MayBeDeleted : {Q P : Type 0} → ℕ → List (TimedStep Q P) → ℕ → PassingKey → Type 0
MayBeDeleted length earlier moment (Server server) = IfSome (lease_of server earlier) (IsOverAt length moment)
MayBeDeleted length earlier moment _ = Unit {0}

-- a write that may be made at a moment: the end of a lease waits for its length, and only a process tells acks
abbrev pub IsInTime : {Q P : Type 0} → ℕ → List (TimedStep Q P) → ℕ → Write Q P → Type 0
IsInTime length earlier moment (Deletes keys) = AllByRecursion (MayBeDeleted length earlier moment) keys
IsInTime length earlier moment (Acks server acks) = acks ≡ []
IsInTime length earlier moment _ = Unit {0}

-- a step that may be taken at a moment. A process joins only if no key of its server is there. As it leaves, it takes
-- no other server's key along unless that lease is over. It tells only over its own key, which the transaction must
-- compare: an ack of an earlier process of that server says nothing of the process whose key is there, because that one
-- may go by a record that it read before
abbrev pub MayStep : {Q P : Type 0} → ℕ → List (TimedStep Q P) → ℕ → TimelineStep Q P → Type 0
MayStep length earlier moment (Makes txn) = AllByRecursion (IsInTime length earlier moment) txn.writes
MayStep length earlier moment (Joins server read sent granted) =
    (revision_of (server_key server) (stored earlier) ≡ 0) × (sent ≤ granted) × (granted ≤ moment)
MayStep length earlier moment (Keeps server sent) = sent ≤ moment
MayStep length earlier moment (Leaves server others) = AllByRecursion (MayBeDeleted length earlier moment) others
MayStep length earlier moment (Tells server joined read acks told) = IsUnder joined (lease_of server earlier)
MayStep length earlier moment (Hands shard server joined generation) = Unit {0}

-- each step was allowed, came no earlier than the one before it, and had leases of this length
abbrev pub KeepsWaits : {Q P : Type 0} → ℕ → List (TimedStep Q P) → Type 0
KeepsWaits length [] = Unit {0}
KeepsWaits length (one ∷ earlier) =
    MayStep length earlier one.moment one.step × (latest_moment earlier ≤ one.moment) × KeepsWaits length earlier
