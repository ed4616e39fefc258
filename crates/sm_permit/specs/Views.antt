-- The knowledge of a process about a shard, how it decides by it, and when it is true.
use Rattle.std.specs.Prelude.{ℕ, Bool, true, false, Option, Some, None, IfSome, ◌≡◌, ◌≢◌, ◌≤◌, ◌+◌, ◌==◌, ◌&&◌, ◌||◌}
use Rattle.std.specs.Prelude.{◌⊎◌}
use Rattle.std.specs.Prelude.{max, nat_le, nat_lt, not, List, ◌∷◌, ◌++◌}
use Rattle.sm_ranges.specs.Stand.{owner_of}
use Rattle.sm_ranges.specs.declared.stand.Stand.{Stand}
use Rattle.sm_ranges.specs.declared.stand.Stand.TheVariants.{Forwarding}
use Rattle.sm_ownership.specs.declared.mode.Mode.{Mode}
use Rattle.sm_ownership.specs.History.{vacant}
use Rattle.sm_ownership.specs.Rules.{accepts, executor, is_server}
use Rattle.sm_place.specs.ServerState.{is_failed}
use Rattle.sm_store.specs.Store.{Ack, acked_among, acked_of, last_revision, stored_record, stored_state}
use Rattle.sm_permit.specs.declared.hand_over.HandOver.{HandOver}
use Rattle.sm_permit.specs.declared.shard_reading.ShardReading.{ShardReading}
use Rattle.sm_permit.specs.declared.shard_view.ShardView.{ShardView}
use Rattle.sm_permit.specs.Timelines.{Lease, TimelineStep, TimedStep, Tells, Hands, gives_back_lease, latest_moment}
use Rattle.sm_permit.specs.Timelines.{lease_of, stored}
use Rattle.sm_permit.specs.Waits.{let_go_of}
use Rattle.sm_permit.specs.Permits.{HasLease, IsTimely, MayHaveBody, Terms}

-- the revision at which a key's process joined, 0 if the key isn't there
abbrev pub joined_at : Option Lease → ℕ
joined_at None = 0
joined_at (Some lease) = lease.joined

-- everything that was read of a record's owner was true at this moment
pub record IsOwnerRead {Q P : Type 0} (older : List (TimedStep Q P)) (reading : ShardReading)
    (owner : ℕ) : Type 0 where
  pub joined_is : reading.owner_joined ≡ joined_at (lease_of owner older)
  pub failed_is : reading.owner_failed ≡ is_failed (stored_state owner (stored older))

-- everything that was read of a shard, of a server and of the record's owner was true at this moment, when the store
-- had reached the revision that was read
pub record IsReadingOf {Q P : Type 0} (older : List (TimedStep Q P)) (shard server : ℕ)
    (reading : ShardReading) : Type 0 where
  pub reached : reading.revision ≤ last_revision (stored older)
  pub state_is : reading.state ≡ stored_record shard (stored older)
  pub failed_is : reading.failed ≡ is_failed (stored_state server (stored older))
  pub owner_is : IfSome (owner_of reading.state.stand) (IsOwnerRead older reading)

-- a server that executes requests that an owner forwards needs that owner to have let go
abbrev pub has_body : Stand → Bool → Bool
has_body (Forwarding owner next) freed = freed
has_body _ freed = true

-- the process may execute requests that come in this mode, at this time of its clock
abbrev pub may_execute : ShardView → Mode → ℕ → Bool
may_execute view mode time =
    nat_lt time view.until && (nat_le view.joined view.reading.revision && (not view.reading.failed
    && (nat_lt view.let_go view.reading.state.generation && (has_body view.reading.state.stand view.freed
    && accepts view.reading.state view.server mode))))

-- the process may ack its record
abbrev pub may_ack : ShardView → Bool
may_ack view = not (is_server (executor view.reading.state) view.server)

-- the server is an owner that forwards
abbrev pub is_forwarder : Stand → ℕ → Bool
is_forwarder (Forwarding owner next) server = owner == server
is_forwarder _ server = false

-- an ack of the server up to this generation frees the shard by the record that was read
abbrev pub ack_frees : ShardReading → ℕ → ℕ → Bool
ack_frees reading server generation =
    is_forwarder reading.state.stand server && nat_le reading.state.generation generation

-- bytes that were handed over free it too, if they name the process whose key was read with the record
abbrev pub hand_over_frees : ShardReading → HandOver → Bool
hand_over_frees reading hand =
    ack_frees reading hand.server hand.generation
    && (nat_lt 0 hand.joined && hand.joined == reading.owner_joined)

-- the view of a process once it has joined: it has read nothing of the shard
abbrev pub new_view : ℕ → ℕ → ℕ → ShardView
new_view server joined until =
    record {
      server = server;
      joined = joined;
      until = until;
      reading = record {
        revision = 0;
        state = vacant;
        failed = false;
        owner_joined = 0;
        owner_failed = false;
      };
      freed = false;
      let_go = 0;
    }

-- the view once a keep was answered
abbrev pub view_kept : ShardView → ℕ → ShardView
view_kept view until = record view { until = until }

-- the view once the process has read
abbrev pub view_read : ShardView → ShardReading → ShardView
view_read view reading = record view { reading = reading; freed = reading.owner_failed }

-- the view once the process has read an ack
abbrev pub view_acked : ShardView → ℕ → ℕ → ShardView
view_acked view server generation =
    record view { freed = view.freed || ack_frees view.reading server generation }

-- the view once the process was handed a body
abbrev pub view_handed : ShardView → HandOver → ShardView
view_handed view hand = record view { freed = view.freed || hand_over_frees view.reading hand }

-- the view once the process has let go of its record
abbrev pub view_let_go : ShardView → ShardView
view_let_go view = record view { let_go = max view.let_go view.reading.state.generation }

-- the process's knowledge is true, at a moment after all these steps
pub record Knows {Q P : Type 0} (terms : Terms) (clock : ℕ → ℕ) (timeline : List (TimedStep Q P)) (now shard : ℕ)
    (view : ShardView) : Type 0 where
  pub latest : latest_moment timeline ≤ now
  -- its lease, as it asked for it and was answered
  pub sent : ℕ
  pub lease : Lease
  pub has : HasLease timeline view.server sent lease
  pub joined_is : view.joined ≡ lease.joined
  pub until_is : view.until ≡ clock sent + terms.allowed
  -- the steps since it read
  pub newer : List (TimedStep Q P)
  pub older : List (TimedStep Q P)
  pub was_read : timeline ≡ newer ++ older
  pub reads : IsReadingOf older shard view.server view.reading
  -- that the owner has let go, and up to which generation it has let go itself
  pub freed : view.freed ≡ true → MayHaveBody shard timeline older view.reading.state.stand
  pub let_go_is : let_go_of shard view.server view.joined timeline ≤ view.let_go

-- at most one of the processes whose knowledge is true decides at a moment that it may execute
abbrev pub AreOne : {Q P : Type 0} → Terms → List (TimedStep Q P) → Type 0
AreOne terms timeline =
    (now shard : ℕ) (first second : Mode) (clock counter : ℕ → ℕ) (view another : ShardView)
    → IsTimely terms clock → IsTimely terms counter
    → Knows terms clock timeline now shard view → Knows terms counter timeline now shard another
    → may_execute view first (clock now) ≡ true → may_execute another second (counter now) ≡ true
    → (view.server ≡ another.server) × (view.joined ≡ another.joined)

-- the step is a step of this process, and acks no record of the shard beyond this generation
abbrev pub TellsWithin : {Q P : Type 0} → ℕ → ShardView → ℕ → TimelineStep Q P → Type 0
TellsWithin {Q = Q} {P = P} shard view generation step =
    (read : ℕ) × (acks : List Ack) × (told : ℕ) × (step ≡ Tells view.server view.joined read acks told)
    × (acked_among shard acks 0 ≤ generation)

-- in this step, the process lets go of its record
abbrev pub IsLettingGo : {Q P : Type 0} → ℕ → ShardView → TimelineStep Q P → Type 0
IsLettingGo {Q = Q} {P = P} shard view step =
    TellsWithin shard view view.reading.state.generation step
    ⊎ (step ≡ Hands shard view.server view.joined view.reading.state.generation)

-- in this step, the process lets go of nothing of the shard, and doesn't leave
pub record IsOfOthers {Q P : Type 0} (shard : ℕ) (view : ShardView) (step : TimelineStep Q P) : Type 0 where
  pub stays : gives_back_lease view.server step ≡ false
  pub acks : (read : ℕ) (acks : List Ack) (told : ℕ) → step ≡ Tells view.server view.joined read acks told
      → acked_among shard acks 0 ≡ 0
  pub hands : (generation : ℕ) → step ≢ Hands shard view.server view.joined generation

-- the process has its lease because it asked for it at a moment, and goes by it until this time of its clock
pub record WasGranted {Q P : Type 0} (terms : Terms) (clock : ℕ → ℕ) (timeline : List (TimedStep Q P))
    (server joined until : ℕ) : Type 0 where
  pub sent : ℕ
  pub lease : Lease
  pub has : HasLease timeline server sent lease
  pub joined_is : joined ≡ lease.joined
  pub until_is : until ≡ clock sent + terms.allowed

-- the knowledge of a process stays true after each call that tells it more, if the call tells it the truth
pub record StaysKnown {Q P : Type 0} (terms : Terms) (clock : ℕ → ℕ) (timeline : List (TimedStep Q P))
    (now shard : ℕ) (view : ShardView) : Type 0 where
  pub kept : (until : ℕ) → WasGranted terms clock timeline view.server view.joined until
      → Knows terms clock timeline now shard (view_kept view until)
  pub read : (newer older : List (TimedStep Q P)) (reading : ShardReading) → timeline ≡ newer ++ older
      → IsReadingOf older shard view.server reading → Knows terms clock timeline now shard (view_read view reading)
  pub acked : (server generation : ℕ) → generation ≤ acked_of shard server (stored timeline)
      → Knows terms clock timeline now shard (view_acked view server generation)
  pub handed : (hand : HandOver) → hand.generation ≤ let_go_of shard hand.server hand.joined timeline
      → Knows terms clock timeline now shard (view_handed view hand)
  pub let_go : (one : TimedStep Q P) (later : ℕ) → IsLettingGo shard view one.step → one.moment ≤ later
      → Knows terms clock (one ∷ timeline) later shard (view_let_go view)
  pub others : (one : TimedStep Q P) (later : ℕ) → IsOfOthers shard view one.step → one.moment ≤ later
      → Knows terms clock (one ∷ timeline) later shard view
