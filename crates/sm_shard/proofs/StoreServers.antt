-- All shards of one server: one more, and one that makes a step.
use Rattle.std.proofs.Common.{◌≡◌, ◌<◌, ℕ, zero, suc, ◌+◌, List, [], ◌∷◌, ◌++◌, length, refl, sym, ap, subst, ◌∙◌}
use Rattle.std.proofs.Common.{arith, length-append}
use Rattle.std.specs.Prelude.{Some, Result, IfErr, IfOk, OnOk, slice_get, slice_index_or, slice_set}
use Rattle.sm_store.specs.Clients.{Automaton}
use Rattle.sm_shard.specs.declared.replica.ReplayFault.{ReplayFault}
use Rattle.sm_shard.specs.declared.shard_server.ShardServer.{ShardServer}
use Rattle.sm_shard.specs.declared.steps.ShardInput.{ShardInput}
use Rattle.sm_shard.specs.declared.steps.ShardOutput.{ShardOutput}
use Rattle.sm_shard.specs.Steps.{IsCaughtUp, IsOutputOf, IsRefusedOn, IsStepOf, KeepsAsked}
use Rattle.sm_shard.specs.StoreServers.{AreAllShards, AreShardsFrom, IsAtShard, IsStoreStep}

-- the borrowed element of a list is the one at the place
found_at : {A : Type 0} (xs : List A) (place : ℕ) (x : A) → place < length xs → x ≡ slice_index_or xs place x
    → slice_get xs place ≡ Some x
found_at [] place x within is = absurd (omega arith)
found_at (y ∷ ys) zero x within is = ap Some (sym is)
found_at (y ∷ ys) (suc place) x within is = found_at ys place x (omega arith) is

length_set : {A : Type 0} (xs : List A) (place : ℕ) (x : A) → length (slice_set xs place x) ≡ length xs
length_set [] place x = refl
length_set (y ∷ ys) zero x = refl
length_set (y ∷ ys) (suc place) x = ap suc (length_set ys place x)

module _ {M Q R : Type 0} (me count : ℕ) where
  from_push : (shard : ℕ) (servers : List (ShardServer M Q R)) (server : ShardServer M Q R)
      → AreShardsFrom me count shard servers → IsAtShard me count (shard + length servers) server
      → AreShardsFrom me count shard (servers ++ server ∷ [])
  from_push shard [] server all one = (subst (λ (k : ℕ). IsAtShard me count k server) (omega arith) one, tt)
  from_push shard (first ∷ servers) server all one =
      let place : shard + length (first ∷ servers) ≡ (shard + 1) + length servers = omega arith in (
        all.0,
        from_push (shard + 1) servers server all.1
            (subst (λ (k : ℕ). IsAtShard me count k server) place one),
      )

  from_set : (shard : ℕ) (servers : List (ShardServer M Q R)) (place : ℕ) (old new : ShardServer M Q R)
      → old ≡ slice_index_or servers place old → new.me ≡ old.me → new.shard ≡ old.shard → new.count ≡ old.count
      → AreShardsFrom me count shard servers → AreShardsFrom me count shard (slice_set servers place new)
  from_set shard [] place old new is me_is shard_is count_is all = tt
  from_set shard (first ∷ servers) zero old new is me_is shard_is count_is all =
      let was : IsAtShard me count shard old = subst (IsAtShard me count shard) (sym is) all.0 in (
        record {
          me_is = me_is ∙ was.me_is;
          shard_is = shard_is ∙ was.shard_is;
          count_is = count_is ∙ was.count_is;
        },
        all.1,
      )
  from_set shard (first ∷ servers) (suc place) old new is me_is shard_is count_is all =
      (all.0, from_set (shard + 1) servers place old new is me_is shard_is count_is all.1)

  -- one server more
  pub one_more : (number : ℕ) (servers more : List (ShardServer M Q R)) (server : ShardServer M Q R)
      → more ≡ servers ++ server ∷ [] → server.me ≡ me → server.shard ≡ length servers → server.count ≡ count
      → AreAllShards me count number servers → AreAllShards me count (number + 1) more
  one_more number servers more server is me_is shard_is count_is are =
      subst (AreAllShards me count (number + 1)) (sym is)
      (record {
        all = let long : length (servers ++ server ∷ []) ≡ length servers + 1 =
            omega (arith, length-append servers (server ∷ [])) in
            long ∙ ap (λ (n : ℕ). n + 1) are.all;
        each = from_push 0 servers server are.each
            (record { me_is = me_is; shard_is = shard_is ∙ omega arith; count_is = count_is });
      })

  -- the shards stay as they are
  pub still_shards : (number : ℕ) (servers : List (ShardServer M Q R)) (place : ℕ) (old new : ShardServer M Q R)
      → old ≡ slice_index_or servers place old → new.me ≡ old.me → new.shard ≡ old.shard → new.count ≡ old.count
      → AreAllShards me count number servers → AreAllShards me count number (slice_set servers place new)
  still_shards number servers place old new is me_is shard_is count_is are = record {
    all = length_set servers place new ∙ are.all;
    each = from_set 0 servers place old new is me_is shard_is count_is are.each;
  }

-- one shard makes a step
pub stepped : {M Q R : Type 0} (service : Automaton M Q R) (size : Q → ℕ)
    (olds : List (ShardServer M Q R)) (shard place : ℕ) (old new : ShardServer M Q R) (input : ShardInput Q R)
    (result : Result (ShardOutput Q R) ReplayFault)
    → place ≡ shard → shard < length olds → old ≡ slice_index_or olds place old
    → IfOk result (IsOutputOf service size old input) → IsStepOf service old input result new
    → KeepsAsked old input result new → OnOk result (IsCaughtUp old input new)
    → IfErr result (λ fault. IsRefusedOn old input fault new)
    → new.me ≡ old.me → new.shard ≡ old.shard → new.count ≡ old.count → new.limits ≡ old.limits
    → IsStoreStep service size olds shard input result (slice_set olds place new)
stepped {M} {Q} {R} service size olds shard place old new input result same within is exact call asked_for caught_up
    refused me_is shard_is count_is limits_is = record {
      old = old;
      new = new;
      was = found_at olds shard old within (subst (λ (k : ℕ). old ≡ slice_index_or olds k old) same is);
      is = ap (λ (k : ℕ). slice_set olds k new) same;
      exact = exact;
      call = call;
      asked_for = asked_for;
      caught_up = caught_up;
      refused = refused;
      me = me_is;
      shard_is = shard_is;
      count = count_is;
      limits = limits_is;
    }
