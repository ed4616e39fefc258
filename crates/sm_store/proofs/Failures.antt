-- A server fails only while its key isn't there.
use Rattle.std.proofs.Common.{◌≡◌, ◌≢◌, ℕ, List, ◌∷◌, ◌++◌, ap, sym, subst, ◌∙◌, ⊎_elim}
use Rattle.std.specs.Prelude.{◌==◌}
use Rattle.std.proofs.lemmas.Bool.{cases_eq, cond-true, cond-false, eq-eqb, ne_eqb}
use Rattle.sm_place.specs.declared.server_state.ServerState.TheVariants.{Failed}
use Rattle.sm_store.specs.declared.server_run.ServerRun.{ServerRun}
use Rattle.sm_store.specs.Store.{Transaction, revision_of, server_key, stored_run, stored_state}
use Rattle.sm_store.specs.Deeds.{AreRight, Charter, Deed, Electing, Expiring, Changing, Restarting, Settling, Executing}
use Rattle.sm_store.specs.Deeds.{Resettling}
use Rattle.sm_store.specs.Deeds.{Basing, Naming, Clearing, Following, Checking, Foreign, IsRight, transaction_of}
use Rattle.sm_store.specs.lemmas.Heads.{right_past}

module _ {Q P : Type 0} (charter : Charter Q P) where
  -- if a step of a restart has made this server fail, the server's key wasn't there
  absent_step : (log : List (Transaction Q P)) (process at server : ℕ) (run : ServerRun) (elected placed : ℕ)
      → IsRight charter log (Restarting process at run elected placed) → stored_state server log ≢ Failed
      → stored_state server (transaction_of (Restarting process at run elected placed) ∷ log) ≡ Failed
      → revision_of (server_key server) log ≡ 0
  absent_step log process at server run elected placed right was now =
      ⊎_elim
      (λ (same : at ≡ server).
      subst (λ (n : ℕ). revision_of (server_key n) log ≡ 0) same
      (right.absent (ap (λ (r : ServerRun). r.state)
      (sym (cond-true (at == server) run (stored_run server log) (eq-eqb at server same))) ∙ now)))
      (λ (apart : at ≢ server).
      absurd (was (ap (λ (r : ServerRun). r.state)
      (sym (cond-false (at == server) run (stored_run server log) (ne_eqb at server apart))) ∙ now)))
      (cases_eq at server)

  absent_one : (log : List (Transaction Q P)) (deed : Deed Q P) (server : ℕ) → IsRight charter log deed
      → stored_state server log ≢ Failed → stored_state server (transaction_of deed ∷ log) ≡ Failed
      → revision_of (server_key server) log ≡ 0
  absent_one log (Electing process) server right was now = absurd (was now)
  absent_one log (Expiring keys) server right was now = absurd (was now)
  absent_one log (Changing process shard change next elected placed) server right was now = absurd (was now)
  absent_one log (Restarting process at run elected placed) server right was now =
      absent_step log process at server run elected placed right was now
  absent_one log (Settling settings) server right was now = absurd (was now)
  absent_one log (Resettling process settings elected placed) server right was now = absurd (was now)
  absent_one log (Executing shard at items head stood logged) server right was now = absurd (was now)
  absent_one log (Basing shard number place part) server right was now = absurd (was now)
  absent_one log (Naming shard head number parts logged) server right was now = absurd (was now)
  absent_one log (Clearing keys) server right was now = absurd (was now)
  absent_one log (Following at revision acks told) server right was now = absurd (was now)
  absent_one log (Checking compares) server right was now = absurd (was now)
  absent_one log Foreign server right was now = absurd (was now)

  pub absent_when_failed : (later past : List (Transaction Q P)) (txn : Transaction Q P) (server : ℕ)
      → AreRight charter (later ++ txn ∷ past) → stored_state server past ≢ Failed
      → stored_state server (txn ∷ past) ≡ Failed → revision_of (server_key server) past ≡ 0
  absent_when_failed later past txn server right was now =
      let one = (right_past charter 0 later (txn ∷ past) right).0 in
      absent_one past one.deed server one.right was
      (subst (λ (t : Transaction Q P). stored_state server (t ∷ past) ≡ Failed) one.is now)
