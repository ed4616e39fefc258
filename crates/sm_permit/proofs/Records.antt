-- How right transactions change the state of a server whose key is in the store, and a shard's record.
use Rattle.std.proofs.Common.{◌≡◌, ◌≢◌, ℕ, ◌<◌, List, ◌∷◌, ◌++◌, sym}
use Rattle.std.proofs.Common.{subst, arith}
use Rattle.std.specs.Prelude.{◌==◌}
use Rattle.std.proofs.lemmas.Bool.{cond_both, eqb-true}
use Rattle.sm_place.specs.declared.server_state.ServerState.TheVariants.{Failed}
use Rattle.sm_store.specs.declared.server_run.ServerRun.{ServerRun}
use Rattle.sm_store.specs.Store.{Transaction, revision_of, server_key, stored_record, stored_run, stored_state}
use Rattle.sm_store.specs.Deeds.{AreRight, Charter, Deed, Electing, Expiring, Changing, Restarting, Settling, Executing}
use Rattle.sm_store.specs.Deeds.{Resettling}
use Rattle.sm_store.specs.Deeds.{Basing, Naming, Clearing, Following, Checking, Foreign, IsRight, WasRight, done_at}
use Rattle.sm_store.specs.lemmas.Records.{IsSince, record_since}
use Rattle.sm_permit.specs.Timelines.{TimelineStep, TimedStep, Makes, Joins, Keeps, Leaves, Tells, Hands, stored}
use Rattle.sm_permit.proofs.Leases.{stored_more}

module _ {Q P : Type 0} (charter : Charter Q P) (server revision : ℕ) where
  state_deed : (log : List (Transaction Q P)) (deed : Deed Q P) → IsRight charter log deed
      → 0 < revision_of (server_key server) log → stored_state server log ≢ Failed
      → stored_state server (done_at revision deed ∷ log) ≢ Failed
  state_deed log (Restarting process at run elected placed) right there was =
      cond_both (at == server) run (stored_run server log) (λ (k : ServerRun). k.state ≢ Failed)
      (λ same fails.
      let gone = subst (λ (n : ℕ). revision_of (server_key n) log ≡ 0) (eqb-true at server same)
      (right.absent fails) in
      omega arith)
      (λ apart. was)
  state_deed log (Electing process) right there was = was
  state_deed log (Expiring keys) right there was = was
  state_deed log (Changing process at change next elected placed) right there was = was
  state_deed log (Settling settings) right there was = was
  state_deed log (Resettling process settings elected placed) right there was = was
  state_deed log (Executing at by items head stood logged) right there was = was
  state_deed log (Basing at number place part) right there was = was
  state_deed log (Naming at head number parts logged) right there was = was
  state_deed log (Clearing keys) right there was = was
  state_deed log (Following at seen acks told) right there was = was
  state_deed log (Checking compares) right there was = was
  state_deed log Foreign right there was = was

module _ {Q P : Type 0} (charter : Charter Q P) (server : ℕ) where
  -- a server whose key is there doesn't fail
  pub state_step : (log : List (Transaction Q P)) (txn : Transaction Q P) → WasRight charter log txn
      → 0 < revision_of (server_key server) log → stored_state server log ≢ Failed
      → stored_state server (txn ∷ log) ≢ Failed
  state_step log txn right there was =
      subst (λ (t : Transaction Q P). stored_state server (t ∷ log) ≢ Failed) (sym right.is)
      (state_deed charter server txn.revision log right.deed right.right there was)

-- the log before a step was right
pub right_before : {Q P : Type 0} (charter : Charter Q P) (moment revision : ℕ) (step : TimelineStep Q P)
    (earlier : List (TimedStep Q P))
    → AreRight charter (stored (record { moment = moment; revision = revision; step = step } ∷ earlier))
    → AreRight charter (stored earlier)
right_before charter moment revision (Makes txn) earlier right = right.1
right_before charter moment revision (Joins server read sent granted) earlier right = right.1
right_before charter moment revision (Keeps server sent) earlier right = right
right_before charter moment revision (Leaves server others) earlier right = right.1
right_before charter moment revision (Tells server joined read acks told) earlier right = right.1
right_before charter moment revision (Hands shard server joined generation) earlier right = right

-- the shard's record is the same after more steps, or a later one
pub goes_on : {Q P : Type 0} (charter : Charter Q P) (shard : ℕ) (newer older : List (TimedStep Q P))
    → AreRight charter (stored (newer ++ older))
    → IsSince (stored_record shard (stored older)) (stored_record shard (stored (newer ++ older)))
goes_on {Q = Q} {P = P} charter shard newer older right =
    let more = stored_more newer older in
    let was = stored_record shard (stored older) in
    subst (λ (l : List (Transaction Q P)). IsSince was (stored_record shard l)) (sym more.1)
    (record_since charter shard more.0 (stored older) (subst (AreRight charter) more.1 right))
