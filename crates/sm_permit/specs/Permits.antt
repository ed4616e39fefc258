-- Which process may execute for a shard at a moment, by a lease and a clock.
use Rattle.std.specs.Prelude.{ℕ, IsTrue, false, Some, ◌≡◌, ◌≢◌, ◌<◌, ◌≤◌, ◌⊎◌, ◌+◌, ◌*◌, List, ◌∷◌, ◌++◌}
use Rattle.std.specs.List.{AllByRecursion}
use Rattle.sm_ranges.specs.declared.stand.Stand.{Stand}
use Rattle.sm_ranges.specs.declared.stand.Stand.TheVariants.{Forwarding}
use Rattle.sm_ownership.specs.declared.mode.Mode.{Mode}
use Rattle.sm_ownership.specs.Rules.{accepts}
use Rattle.sm_place.specs.declared.server_state.ServerState.TheVariants.{Failed}
use Rattle.sm_store.specs.Store.{acked_of, last_revision, stored_record, stored_state}
use Rattle.sm_permit.specs.Timelines.{Lease, TimelineStep, TimedStep, Joins, Keeps, IsUnder, gives_back_lease}
use Rattle.sm_permit.specs.Timelines.{latest_moment, lease_of, stored}
use Rattle.sm_permit.specs.Waits.{let_go_of}

-- the length of leases in moments; the ticks of its own clock for which a server goes by a lease; and the drift: while
-- a clock counts `ticks`, at most `moments` pass
pub record Terms : Type 0 where
  pub length : ℕ
  pub allowed : ℕ
  pub moments : ℕ
  pub ticks : ℕ

-- a server goes by a lease for no longer than its length, however slow the clock is
pub record AreSafe (terms : Terms) : Type 0 where
  pub some : 0 < terms.moments
  pub within : terms.allowed * terms.moments ≤ terms.length * terms.ticks

-- the clock is slow by at most the drift: from a moment to a later one, `ticks` times the time that passed is at most
-- `moments` times the count of the clock
abbrev pub IsTimely : Terms → (ℕ → ℕ) → Type 0
IsTimely terms clock =
    (from to : ℕ) → from ≤ to
    → to * terms.ticks + clock from * terms.moments ≤ from * terms.ticks + clock to * terms.moments

-- the store grants or keeps the lease of the server's key, because that was asked for at the moment `sent`
abbrev pub IsGrant : {Q P : Type 0} → ℕ → ℕ → TimelineStep Q P → Type 0
IsGrant {Q = Q} {P = P} server sent step =
    ((read : ℕ) × (granted : ℕ) × (step ≡ Joins server read sent granted)) ⊎ (step ≡ Keeps server sent)

-- the server's process has this lease by a grant or a keep that it asked for at the moment `sent`, and hasn't left
pub record HasLease {Q P : Type 0} (timeline : List (TimedStep Q P)) (server sent : ℕ) (lease : Lease) : Type 0 where
  pub since : List (TimedStep Q P)
  pub grant : TimedStep Q P
  pub before : List (TimedStep Q P)
  pub is : timeline ≡ since ++ grant ∷ before
  pub granted : IsGrant server sent grant.step
  pub lies : lease_of server (grant ∷ before) ≡ Some lease
  pub stays : AllByRecursion (λ (one : TimedStep Q P). gives_back_lease server one.step ≡ false) since

-- why the next owner may execute requests that an owner forwards to it by a record that it read at an older moment
pub data IsFreed {Q P : Type 0} (shard : ℕ) (timeline older : List (TimedStep Q P)) (owner : ℕ) : Type 0 where
  -- the owner acked that it let go
  ByAck : (stored_record shard (stored older)).generation ≤ acked_of shard owner (stored timeline)
      → IsFreed shard timeline older owner
  -- the owner's process, whose key was read with the record, has let go, as the bytes say that it handed over
  ByBytes : (joined : ℕ) → IsUnder joined (lease_of owner older)
      → (stored_record shard (stored older)).generation ≤ let_go_of shard owner joined timeline
      → IsFreed shard timeline older owner
  -- the owner's state was read with the record, and says that it failed
  ByFailure : stored_state owner (stored older) ≡ Failed → IsFreed shard timeline older owner

-- the next owner may have the shard's body; a server that executes by another stand has it
abbrev pub MayHaveBody : {Q P : Type 0} → ℕ → List (TimedStep Q P) → List (TimedStep Q P) → Stand → Type 0
MayHaveBody shard timeline older (Forwarding owner next) = IsFreed shard timeline older owner
MayHaveBody shard timeline older _ = Unit {0}

-- a process of the server may execute a request for the shard that comes in this mode, at a moment after all these
-- steps
pub record HasPermit {Q P : Type 0} (terms : Terms) (clock : ℕ → ℕ) (timeline : List (TimedStep Q P))
    (now shard server : ℕ) (mode : Mode) : Type 0 where
  pub latest : latest_moment timeline ≤ now
  -- 1: by its own clock its lease lasts
  pub sent : ℕ
  pub lease : Lease
  pub has : HasLease timeline server sent lease
  pub lasts : clock now < clock sent + terms.allowed
  -- 2: it has read the store up to its key or further, and its server hasn't failed there
  pub newer : List (TimedStep Q P)
  pub older : List (TimedStep Q P)
  pub read : timeline ≡ newer ++ older
  pub under : lease.joined ≤ last_revision (stored older)
  pub stands : stored_state server (stored older) ≢ Failed
  -- 3: by the record there, it executes
  pub accepts_it : IsTrue (accepts (stored_record shard (stored older)) server mode)
  -- 4: it may have the body
  pub body : MayHaveBody shard timeline older (stored_record shard (stored older)).stand
  -- 5: it has let go neither of that record nor of a later one
  pub holds : let_go_of shard server lease.joined timeline < (stored_record shard (stored older)).generation

-- two permits for one shard at one moment belong to one process, whatever timely clocks they go by
abbrev pub OnePermit : {Q P : Type 0} → Terms → List (TimedStep Q P) → Type 0
OnePermit terms timeline =
    (now shard one other : ℕ) (first second : Mode) (clock counter : ℕ → ℕ)
    → IsTimely terms clock → IsTimely terms counter
    → (permit : HasPermit terms clock timeline now shard one first)
    → (another : HasPermit terms counter timeline now shard other second)
    → (one ≡ other) × (permit.lease.joined ≡ another.lease.joined)
