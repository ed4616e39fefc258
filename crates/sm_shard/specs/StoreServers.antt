-- All shards of one server: each is a server of its own, by the law of all servers.
use Rattle.std.specs.Prelude.{ℕ, ◌+◌, Some, Result, IfErr, IfOk, OnOk, ◌≡◌, List, [], ◌∷◌, length, slice_get, slice_set}
use Rattle.sm_store.specs.Clients.{Automaton}
use Rattle.sm_shard.specs.declared.replica.ReplayFault.{ReplayFault}
use Rattle.sm_shard.specs.declared.shard_server.ShardServer.{ShardServer}
use Rattle.sm_shard.specs.declared.steps.ShardInput.{ShardInput}
use Rattle.sm_shard.specs.declared.steps.ShardOutput.{ShardOutput}
use Rattle.sm_shard.specs.Steps.{IsCaughtUp, IsOutputOf, IsRefusedOn, IsStepOf, KeepsAsked}

-- it is this server's state for this shard, of so many shards
pub record IsAtShard {M Q R : Type 0} (me count shard : ℕ) (server : ShardServer M Q R) : Type 0 where
  pub me_is : server.me ≡ me
  pub shard_is : server.shard ≡ shard
  pub count_is : server.count ≡ count

-- they are one server's for the shards from this one on, in order
abbrev pub AreShardsFrom : {M Q R : Type 0} → ℕ → ℕ → ℕ → List (ShardServer M Q R) → Type 0
AreShardsFrom me count shard [] = Unit {0}
AreShardsFrom me count shard (server ∷ servers) =
    IsAtShard me count shard server × AreShardsFrom me count (shard + 1) servers

-- they are one server's states for the first shards, so many of a store's
pub record AreAllShards {M Q R : Type 0} (me count number : ℕ) (servers : List (ShardServer M Q R)) : Type 0 where
  pub all : length servers ≡ number
  pub each : AreShardsFrom me count 0 servers

-- the shard's server makes a step, and the others stay
pub record IsStoreStep {M Q R : Type 0} (service : Automaton M Q R) (size : Q → ℕ)
    (olds : List (ShardServer M Q R)) (shard : ℕ) (input : ShardInput Q R)
    (result : Result (ShardOutput Q R) ReplayFault)
    (news : List (ShardServer M Q R)) : Type 0 where
  pub old : ShardServer M Q R
  pub new : ShardServer M Q R
  pub was : slice_get olds shard ≡ Some old
  pub is : news ≡ slice_set olds shard new
  pub exact : IfOk result (IsOutputOf service size old input)
  pub call : IsStepOf service old input result new
  pub asked_for : KeepsAsked old input result new
  pub caught_up : OnOk result (IsCaughtUp old input new)
  pub refused : IfErr result (λ fault. IsRefusedOn old input fault new)
  pub me : new.me ≡ old.me
  pub shard_is : new.shard ≡ old.shard
  pub count : new.count ≡ old.count
  pub limits : new.limits ≡ old.limits
