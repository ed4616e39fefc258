-- A server that is stopped names a process, and is up again only by a process that began later.
use Rattle.std.proofs.Common.{◌≡◌, ◌≢◌, ◌<◌, ◌≤◌, ℕ, Bool, true, List, [], ◌∷◌, ◌++◌, refl, sym, ap, subst, ◌∙◌, arith}
use Rattle.std.proofs.Common.{⊎_elim, inl, inr}
use Rattle.std.specs.Prelude.{nat_le, nat_lt, ◌==◌, ◌&&◌, ◌⊎◌, if◌then◌else◌}
use Rattle.std.proofs.lemmas.Bool.{and_parts, cases_eq, cond-true, cond-false, eq-eqb, leb-true, ltb-true, ne_eqb}
use Rattle.sm_place.specs.declared.server_state.ServerState.TheVariants.{Stopped, Up}
use Rattle.sm_place.specs.ServerState.{is_stopped, is_up}
use Rattle.sm_store.specs.declared.server_run.ServerRun.{ServerRun}
use Rattle.sm_store.specs.Store.{Transaction, stored_process, stored_run, stored_state}
use Rattle.sm_store.specs.Deeds.{AreRight, Charter, Deed, Electing, Expiring, Changing, Restarting, Settling, Executing}
use Rattle.sm_store.specs.Deeds.{Resettling}
use Rattle.sm_store.specs.Deeds.{Basing, Naming, Clearing, Following, Checking, Foreign, IsRight, is_next_run}
use Rattle.sm_store.specs.Deeds.{transaction_of}
use Rattle.sm_store.specs.lemmas.Heads.{right_past}

if_so : (b x : Bool) → b ≡ true → (if b then x else true) ≡ true → x ≡ true
if_so b x so is = sym (cond-true b x true so) ∙ is

is_both : (a b : Bool) → a ≡ true → b ≡ true → (a && b) ≡ true
is_both a b one other = rw one other

-- the facts by which a state may come after the one before
record IsNextRun (before next : ServerRun) : Type 0 where
  pub rises : before.process ≤ next.process
  pub back : before.state ≡ Stopped → next.state ≡ Up → before.process < next.process
  pub named : next.state ≡ Stopped → 0 < next.process

next_is : (before next : ServerRun) → is_next_run before next ≡ true → IsNextRun before next
next_is before next is =
    let back = is_stopped before.state && is_up next.state in
    let later = if back then nat_lt before.process next.process else true in
    let named = if is_stopped next.state then nat_lt 0 next.process else true in
    let first = and_parts (nat_le before.process next.process) (later && named) is in
    let rest = and_parts later named first.1 in
    record {
      rises = leb-true before.process next.process first.0;
      back = λ was now. ltb-true before.process next.process
          (if_so back (nat_lt before.process next.process)
          (is_both (is_stopped before.state) (is_up next.state) (ap is_stopped was) (ap is_up now)) rest.0);
      named = λ now. ltb-true 0 next.process
          (if_so (is_stopped next.state) (nat_lt 0 next.process) (ap is_stopped now) rest.1);
    }

module _ {Q P : Type 0} (charter : Charter Q P) (server : ℕ) where
  -- the deed doesn't change how the server runs, or changes it to this
  abbrev RunsOn : List (Transaction Q P) → Transaction Q P → Type 0
  RunsOn log txn =
      (stored_run server (txn ∷ log) ≡ stored_run server log)
      ⊎ IsNextRun (stored_run server log) (stored_run server (txn ∷ log))

  runs_on : (log : List (Transaction Q P)) (deed : Deed Q P) → IsRight charter log deed
      → RunsOn log (transaction_of deed)
  runs_on log (Electing process) right = inl refl
  runs_on log (Expiring keys) right = inl refl
  runs_on log (Changing process shard change next elected placed) right = inl refl
  runs_on log (Restarting process at run elected placed) right =
      ⊎_elim
      (λ (same : at ≡ server).
      let was : IsNextRun (stored_run server log) run =
      next_is (stored_run server log) run
      (subst (λ (n : ℕ). is_next_run (stored_run n log) run ≡ true) same right.next) in
      inr (subst (IsNextRun (stored_run server log))
      (sym (cond-true (at == server) run (stored_run server log) (eq-eqb at server same))) was))
      (λ (apart : at ≢ server).
      inl (cond-false (at == server) run (stored_run server log) (ne_eqb at server apart)))
      (cases_eq at server)
  runs_on log (Settling settings) right = inl refl
  runs_on log (Resettling process settings elected placed) right = inl refl
  runs_on log (Executing shard at items head stood logged) right = inl refl
  runs_on log (Basing shard number place part) right = inl refl
  runs_on log (Naming shard head number parts logged) right = inl refl
  runs_on log (Clearing keys) right = inl refl
  runs_on log (Following at seen acks told) right = inl refl
  runs_on log (Checking compares) right = inl refl
  runs_on log Foreign right = inl refl

  ran : (log : List (Transaction Q P)) (txn : Transaction Q P) → AreRight charter (txn ∷ log) → RunsOn log txn
  ran log txn right =
      subst (RunsOn log) (sym right.0.is) (runs_on log right.0.deed right.0.right)

  pub named : (log : List (Transaction Q P)) → AreRight charter log → stored_state server log ≡ Stopped
      → 0 < stored_process server log
  named [] right is = absurd cc
  named (txn ∷ earlier) right is =
      ⊎_elim
      (λ (same : stored_run server (txn ∷ earlier) ≡ stored_run server earlier).
      subst (λ (run : ServerRun). 0 < run.process) (sym same)
      (named earlier right.1 (sym (ap (λ (run : ServerRun). run.state) same) ∙ is)))
      (λ (next : IsNextRun (stored_run server earlier) (stored_run server (txn ∷ earlier))). next.named is)
      (ran earlier txn right)

  pub begins_anew : (later past : List (Transaction Q P)) (txn : Transaction Q P)
      → AreRight charter (later ++ txn ∷ past) → stored_state server past ≡ Stopped
      → stored_state server (txn ∷ past) ≡ Up → stored_process server past < stored_process server (txn ∷ past)
  begins_anew later past txn right was now =
      ⊎_elim
      (λ (same : stored_run server (txn ∷ past) ≡ stored_run server past).
      let up : stored_state server past ≡ Up = sym (ap (λ (run : ServerRun). run.state) same) ∙ now in absurd cc)
      (λ (next : IsNextRun (stored_run server past) (stored_run server (txn ∷ past))). next.back was now)
      (ran past txn (right_past charter 0 later (txn ∷ past) right))

  pub rises : (later past : List (Transaction Q P)) → AreRight charter (later ++ past)
      → stored_process server past ≤ stored_process server (later ++ past)
  rises [] past right = omega arith
  rises (txn ∷ later) past right =
      let below = rises later past right.1 in
      ⊎_elim
      (λ (same : stored_run server (txn ∷ later ++ past) ≡ stored_run server (later ++ past)).
      subst (λ (run : ServerRun). stored_process server past ≤ run.process) (sym same) below)
      (λ (next : IsNextRun (stored_run server (later ++ past)) (stored_run server (txn ∷ later ++ past))).
      let more = next.rises in omega arith)
      (ran (later ++ past) txn right)
