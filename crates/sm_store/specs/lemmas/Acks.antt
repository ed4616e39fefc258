-- An ack that was made stays, and a control must wait only for that.
use Rattle.std.proofs.Common.{◌≡◌, ◌≤◌, ℕ, Bool, true, List, [], ◌∷◌, ◌++◌, arith, ⊎_elim, inl, inr}
use Rattle.std.specs.Prelude.{◌==◌, IfSome, Option, Some, None, max, nat_le}
use Rattle.std.proofs.lemmas.Bool.{cond_both, leb-true, or_cases}
use Rattle.sm_ownership.specs.declared.change.Change.{Change}
use Rattle.sm_place.specs.declared.server_state.ServerState.TheVariants.{Failed}
use Rattle.sm_store.specs.Store.{Ack, Write, Leads, Stands, Enters, Commands, Settles, Heads, Executes, Bases, Follows}
use Rattle.sm_store.specs.Store.{Acks, Deletes, Elsewhere, Placement, Transaction, acked, acked_among, acked_of}
use Rattle.sm_store.specs.Store.{left_by}
use Rattle.sm_store.specs.Waits.{HasLetGo, HasWaited, HaveLetGo, gives_up, has_let_go}

pub among_rises : (shard : ℕ) (acks : List Ack) (before : ℕ) → before ≤ acked_among shard acks before
among_rises shard [] before = omega arith
among_rises shard (ack ∷ acks) before =
    let rest = among_rises shard acks before in
    cond_both (ack.shard == shard) (max ack.generation (acked_among shard acks before)) (acked_among shard acks before)
    (λ k. before ≤ k) (λ same. omega arith) (λ apart. omega arith)

module _ {Q P : Type 0} (shard server : ℕ) where
  acked_rises : (before : ℕ) (write : Write Q P) → before ≤ acked shard server before write
  acked_rises before (Acks by acks) =
      let more = among_rises shard acks before in
      cond_both (by == server) (acked_among shard acks before) before (λ k. before ≤ k)
      (λ same. omega arith) (λ apart. omega arith)
  acked_rises before (Leads process) = omega arith
  acked_rises before (Stands process at change next) = omega arith
  acked_rises before (Enters process at state) = omega arith
  acked_rises before (Commands process) = omega arith
  acked_rises before (Settles settings) = omega arith
  acked_rises before (Heads at head) = omega arith
  acked_rises before (Executes at number by items) = omega arith
  acked_rises before (Bases at number place part) = omega arith
  acked_rises before (Follows at revision) = omega arith
  acked_rises before (Deletes keys) = omega arith
  acked_rises before Elsewhere = omega arith

  acked_writes : (before : ℕ) (writes : List (Write Q P)) → before ≤ left_by (acked shard server) before writes
  acked_writes before [] = omega arith
  acked_writes before (write ∷ writes) =
      let one = acked_rises before write in
      let rest = acked_writes (acked shard server before write) writes in
      omega arith

  -- an ack that was made stays
  pub acks_grow : (later past : List (Transaction Q P))
      → acked_of shard server past ≤ acked_of shard server (later ++ past)
  acks_grow [] past = omega arith
  acks_grow (txn ∷ later) past =
      let before = acks_grow later past in
      let one = acked_writes (acked_of shard server (later ++ past)) txn.writes in
      omega arith

module _ {Q P : Type 0} where
  pub let_go_grows : (later past : List (Transaction Q P)) (read : Placement) (shard server : ℕ)
      → HasLetGo past read shard server → HasLetGo (later ++ past) read shard server
  let_go_grows later past read shard server (inl within) =
      let more = acks_grow {Q = Q} {P = P} shard server later past in inl (omega arith)
  let_go_grows later past read shard server (inr failed) = inr failed

  pub have_let_go_grows : (later past : List (Transaction Q P)) (read : Placement) (count server : ℕ)
      → HaveLetGo past read count server → HaveLetGo (later ++ past) read count server
  have_let_go_grows later past read count server have = λ shard within paused.
      let_go_grows later past read shard server (have shard within paused)

  waited_for : (later past : List (Transaction Q P)) (read : Placement) (shard : ℕ) (found : Option ℕ)
      → IfSome found (HasLetGo past read shard) → IfSome found (HasLetGo (later ++ past) read shard)
  waited_for later past read shard None waited = tt
  waited_for later past read shard (Some server) waited = let_go_grows later past read shard server waited

  -- a change that waited once has waited, however the store goes on
  pub waited_grows : (later past : List (Transaction Q P)) (read : Placement) (shard : ℕ) (change : Change)
      → HasWaited past read shard change → HasWaited (later ++ past) read shard change
  waited_grows later past read shard change waited =
      waited_for later past read shard (gives_up (read.records shard).stand change) waited

  -- an ack that was made stays, so if it was read, the server has let go
  pub let_go_as_read : (log : List (Transaction Q P)) (read : Placement) (shard server acked : ℕ) (failed : Bool)
      → acked ≤ acked_of shard server log → (failed ≡ true → read.states server ≡ Failed)
      → has_let_go (read.records shard) acked failed ≡ true → HasLetGo log read shard server
  let_go_as_read log read shard server acked failed within is either =
      let generation = (read.records shard).generation in
      ⊎_elim
      (λ (below : nat_le generation acked ≡ true). let enough = leb-true generation acked below in inl (omega arith))
      (λ (gone : failed ≡ true). inr (is gone))
      (or_cases (nat_le generation acked) failed either)
