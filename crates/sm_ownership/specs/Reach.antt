-- Who answers for a shard's requests while it migrates.
use Rattle.std.specs.Prelude.{ℕ, Some, None, ◌≡◌, ◌≢◌, ◌⊎◌, IfSome, IsTrue}
use Rattle.sm_ranges.specs.Stand.{other_of, owner_of}
use Rattle.sm_ranges.specs.declared.stand.Stand.{Stand}
use Rattle.sm_ranges.specs.declared.stand.Stand.TheVariants.{Vacant, Serving, Prepared, Forwarding, Taken, Paused}
use Rattle.sm_ownership.specs.declared.change.Change.TheVariants.{AddShard, DropShard}
use Rattle.sm_ownership.specs.declared.mode.Mode.TheVariants.{Direct, Forwarded}
use Rattle.sm_ownership.specs.Rules.{accepts_at, executor_of, forward_at, stand_after}

-- the next or previous server of a stand is not its owner
abbrev pub IsApart : Stand → Type 0
IsApart stand = IfSome (other_of stand) (λ other. owner_of stand ≢ Some other)

-- the server is the shard's owner, or its previous owner, which hasn't dropped the shard yet; if a shard is vacant or
-- paused, nobody executes for it
abbrev pub IsReached : Stand → ℕ → Type 0
IsReached Vacant server = ⊥
IsReached (Serving owner) server = owner ≡ server
IsReached (Prepared owner next) server = owner ≡ server
IsReached (Forwarding owner next) server = owner ≡ server
IsReached (Taken owner previous) server = (owner ≡ server) ⊎ (previous ≡ server)
IsReached (Paused owner) server = ⊥

-- the second server executes the requests that the first one forwarded
abbrev pub AcceptsForwarded : Stand → ℕ → ℕ → Type 0
AcceptsForwarded stand from to = IsTrue (accepts_at stand to (Forwarded from))

-- the server forwards to the executor, which accepts the request and forwards nothing; the executor accepts it also at
-- the stands that follow in the migration, after the shard is added there, and after it is dropped here
pub record ForwardsTo (stand : Stand) (server executor : ℕ) : Type 0 where
  pub forwards : forward_at stand server ≡ Some executor
  pub executes : executor_of stand ≡ Some executor
  pub takes : AcceptsForwarded stand server executor
  pub keeps : forward_at stand executor ≡ None
  pub takes_when_added : (added : Stand) → stand_after stand AddShard ≡ Some added
      → AcceptsForwarded added server executor
  pub takes_when_dropped : (dropped : Stand) → stand_after stand DropShard ≡ Some dropped
      → AcceptsForwarded dropped server executor
  pub takes_after_both : (added dropped : Stand) → stand_after stand AddShard ≡ Some added
      → stand_after added DropShard ≡ Some dropped → AcceptsForwarded dropped server executor

-- the server executes a request that comes to it directly, or forwards it to the executor
abbrev pub IsServed : Stand → ℕ → Type 0
IsServed stand server = IsTrue (accepts_at stand server Direct) ⊎ ((executor : ℕ) × ForwardsTo stand server executor)
