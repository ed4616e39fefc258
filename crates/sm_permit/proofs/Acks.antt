-- Acks: a server has acked nothing of a record by which it executes, and while a process's key lies there no other
-- process of its server acks.
use Rattle.std.proofs.Common.{◌≡◌, ℕ, ◌<◌, ◌≤◌, List, [], ◌∷◌, ◌++◌, refl, sym, ap}
use Rattle.std.proofs.Common.{subst, ◌∙◌, arith, ⊎_elim, inl, inr}
use Rattle.std.specs.Prelude.{◌==◌, ◌&&◌, Option, Some, max, if◌then◌else◌}
use Rattle.std.specs.List.{AllByRecursion}
use Rattle.std.proofs.lemmas.Bool.{and_from, cond-true, cond_both, eqb-true, eq-eqb, cases_lt}
use Rattle.std.proofs.lemmas.Option.{none-some, same_Some}
use Rattle.sm_ownership.specs.Rules.{executor}
use Rattle.sm_store.specs.Store.{Ack, Write, Leads, Stands, Enters, Commands, Settles, Heads, Executes, Bases, Follows}
use Rattle.sm_store.specs.Store.{Acks, Deletes, Elsewhere, IsRising, Transaction, acked, acked_among, acked_of}
use Rattle.sm_store.specs.Store.{last_revision, left_by, stored_record}
use Rattle.sm_store.specs.Deeds.{AreRight, Charter, Deed, Electing, Expiring, Changing, Restarting, Settling, Executing}
use Rattle.sm_store.specs.Deeds.{Resettling}
use Rattle.sm_store.specs.Deeds.{Basing, Naming, Clearing, Following, Checking, Foreign, IsRight, WasRight, done_at}
use Rattle.sm_store.specs.Waits.{MayLetGo}
use Rattle.sm_store.specs.lemmas.Acks.{acks_grow as log_acks_grow, among_rises}
use Rattle.sm_store.specs.lemmas.Records.{IsChange, record_step}
use Rattle.sm_permit.specs.Timelines.{Lease, TimelineStep, TimedStep, Makes, Joins, Keeps, Leaves, Tells, Hands}
use Rattle.sm_permit.specs.Timelines.{IsUnder}
use Rattle.sm_permit.specs.Timelines.{lease_of, stored}
use Rattle.sm_permit.specs.Waits.{IsInTime, KeepsWaits, MayStep, is_process, let_go_of, let_go_with}
use Rattle.sm_permit.proofs.Leases.{rose_before, stored_grows, stored_more, under_since}

-- if the leases of two processes are the lease of one key, the two are one process
pub same_process : (joined other : ℕ) (key : Option Lease) → IsUnder joined key → IsUnder other key → joined ≡ other
same_process joined other key under also =
    let lease = same_Some under.0 also.0 (sym under.1 ∙ also.1) in
    sym under.2 ∙ ap (λ (l : Lease). l.joined) lease ∙ also.2

-- acks go no further than the greatest of them
pub among_within : (shard : ℕ) (acks : List Ack) (before top : ℕ) → before ≤ top → acked_among shard acks 0 ≤ top
    → acked_among shard acks before ≤ top
among_within shard [] before top within most = within
among_within shard (ack ∷ acks) before top within most =
    let rest = among_within shard acks before top within in
    cond_both (ack.shard == shard) (max ack.generation (acked_among shard acks 0)) (acked_among shard acks 0)
    (λ k. k ≤ top → (if ack.shard == shard then max ack.generation (acked_among shard acks before)
    else acked_among shard acks before) ≤ top)
    (λ same most. rw same (let more = rest (omega arith) in omega arith))
    (λ apart most. rw apart (rest most))
    most

-- if acks lift one number to no more than a bound, they lift no lower number beyond it either
among_below : (shard : ℕ) (acks : List Ack) (one other from : ℕ) → acked_among shard acks one < from → other < from
    → acked_among shard acks other < from
among_below shard [] one other from below is = is
among_below shard (ack ∷ acks) one other from below is =
    cond_both (ack.shard == shard) (max ack.generation (acked_among shard acks one)) (acked_among shard acks one)
    (λ k. k < from → (if ack.shard == shard then max ack.generation (acked_among shard acks other)
    else acked_among shard acks other) < from)
    (λ same less. rw same (let more = among_below shard acks one other from (omega arith) is in omega arith))
    (λ apart less. rw apart (among_below shard acks one other from less is))
    below

module _ {Q P : Type 0} (shard server : ℕ) where
  pub acks_grow : (later timeline : List (TimedStep Q P))
      → acked_of shard server (stored timeline) ≤ acked_of shard server (stored (later ++ timeline))
  acks_grow later timeline =
      let more = stored_more later timeline in
      subst (λ (l : List (Transaction Q P)). acked_of shard server (stored timeline) ≤ acked_of shard server l)
      (sym more.1) (log_acks_grow shard server more.0 (stored timeline))

  pub let_go_rises : (joined before : ℕ) (step : TimelineStep Q P)
      → before ≤ let_go_with shard server joined before step
  let_go_rises joined before (Tells by its read acks told) =
      let more = among_rises shard acks before in
      cond_both (is_process server joined by its) (acked_among shard acks before) before (λ k. before ≤ k)
      (λ same. omega arith) (λ apart. omega arith)
  let_go_rises joined before (Hands at by its generation) =
      cond_both (at == shard && is_process server joined by its) (max generation before) before (λ k. before ≤ k)
      (λ same. omega arith) (λ apart. omega arith)
  let_go_rises joined before (Makes txn) = omega arith
  let_go_rises joined before (Joins at read sent granted) = omega arith
  let_go_rises joined before (Keeps at sent) = omega arith
  let_go_rises joined before (Leaves at others) = omega arith

module _ {Q P : Type 0} (charter : Charter Q P) (shard server : ℕ) where
  -- the server has acked no more than it may, also after acks that it may make
  among_lets : (log : List (Transaction Q P)) (acks : List Ack) (before : ℕ)
      → AllByRecursion (λ (ack : Ack). MayLetGo server ack.generation (stored_record ack.shard log)) acks
      → MayLetGo server before (stored_record shard log)
      → MayLetGo server (acked_among shard acks before) (stored_record shard log)
  among_lets log [] before lets was = was
  among_lets log (ack ∷ acks) before lets was =
      let held = stored_record shard log in
      let more = acked_among shard acks before in
      let rest = among_lets log acks before lets.1 was in
      cond_both (ack.shard == shard) (max ack.generation more) more (λ k. MayLetGo server k held)
      (λ same.
      let own = subst (λ (n : ℕ). MayLetGo server ack.generation (stored_record n log)) (eqb-true ack.shard shard same)
      lets.0 in
      ⊎_elim
      (λ (less : ack.generation < more).
      let is : more ≡ max ack.generation more = omega arith in subst (λ (n : ℕ). MayLetGo server n held) is rest)
      (λ (most : more ≤ ack.generation).
      let is : ack.generation ≡ max ack.generation more = omega arith in
      subst (λ (n : ℕ). MayLetGo server n held) is own)
      (cases_lt ack.generation more))
      (λ apart. rest)

  lets_deed : (log : List (Transaction Q P)) (revision : ℕ) (deed : Deed Q P) → IsRight charter log deed
      → MayLetGo server (acked_of shard server log) (stored_record shard log)
      → MayLetGo server (acked_of shard server (done_at revision deed ∷ log)) (stored_record shard log)
  lets_deed log revision (Following at seen acks told) right was =
      let before = acked_of shard server log in
      cond_both (at == server) (acked_among shard acks before) before
      (λ k. MayLetGo server k (stored_record shard log))
      (λ same. among_lets log acks before
      (subst (λ (n : ℕ). AllByRecursion (λ (ack : Ack). MayLetGo n ack.generation (stored_record ack.shard log)) acks)
      (eqb-true at server same) right.lets) was)
      (λ apart. was)
  lets_deed log revision (Electing process) right was = was
  lets_deed log revision (Expiring keys) right was = was
  lets_deed log revision (Changing process at change next elected placed) right was = was
  lets_deed log revision (Restarting process at run elected placed) right was = was
  lets_deed log revision (Settling settings) right was = was
  lets_deed log revision (Resettling process settings elected placed) right was = was
  lets_deed log revision (Executing at by items head stood logged) right was = was
  lets_deed log revision (Basing at number place part) right was = was
  lets_deed log revision (Naming at head number parts logged) right was = was
  lets_deed log revision (Clearing keys) right was = was
  lets_deed log revision (Checking compares) right was = was
  lets_deed log revision Foreign right was = was

  lets_changed : (acked : ℕ) (log : List (Transaction Q P)) (txn : Transaction Q P) → WasRight charter log txn
      → MayLetGo server acked (stored_record shard log) → MayLetGo server acked (stored_record shard (txn ∷ log))
  lets_changed acked log txn right was =
      ⊎_elim
      (λ (same : stored_record shard (txn ∷ log) ≡ stored_record shard log).
      subst (MayLetGo server acked) (sym same) was)
      (λ (changed : IsChange charter.waits shard log txn).
      subst (MayLetGo server acked) (sym changed.is)
      (inl (⊎_elim (λ (below : acked < (stored_record shard log).generation). omega arith)
      (λ same. let is = same.0 in omega arith) was)))
      (record_step charter shard log txn right)

  lets : (log : List (Transaction Q P)) → AreRight charter log
      → MayLetGo server (acked_of shard server log) (stored_record shard log)
  lets [] right = inr (refl, λ is. none-some server is)
  lets (txn ∷ log) right =
      let one = right.0 in
      lets_changed (acked_of shard server (txn ∷ log)) log txn one
      (subst (λ (t : Transaction Q P). MayLetGo server (acked_of shard server (t ∷ log)) (stored_record shard log))
      (sym one.is) (lets_deed log txn.revision one.deed one.right (lets log right.1)))

  -- the server has acked nothing of the record by which it executes
  pub executes_unacked : (log : List (Transaction Q P)) → AreRight charter log
      → executor (stored_record shard log) ≡ Some server
      → acked_of shard server log < (stored_record shard log).generation
  executes_unacked log right is =
      ⊎_elim
      (λ (below : acked_of shard server log < (stored_record shard log).generation). below)
      (λ same. absurd (same.1 is))
      (lets log right)

module _ {Q P : Type 0} (span shard server : ℕ) where
  -- a write that isn't a process telling something acks nothing
  unacked_writes : (earlier : List (TimedStep Q P)) (moment before : ℕ) (writes : List (Write Q P))
      → AllByRecursion (IsInTime span earlier moment) writes → left_by (acked shard server) before writes ≡ before
  unacked_writes earlier moment before [] may = refl
  unacked_writes earlier moment before (Acks by acks ∷ writes) may =
      let none : acked {Q = Q} {P = P} shard server before (Acks by acks) ≡ before =
      subst (λ (list : List Ack). acked {Q = Q} {P = P} shard server before (Acks by list) ≡ before) (sym may.0)
      (cond_both (by == server) before before (λ k. k ≡ before) (λ same. refl) (λ apart. refl)) in
      ap (λ (n : ℕ). left_by (acked shard server) n writes) none
      ∙ unacked_writes earlier moment before writes may.1
  unacked_writes earlier moment before (Leads process ∷ writes) may = unacked_writes earlier moment before writes may.1
  unacked_writes earlier moment before (Stands process at change next ∷ writes) may =
      unacked_writes earlier moment before writes may.1
  unacked_writes earlier moment before (Enters process at state ∷ writes) may =
      unacked_writes earlier moment before writes may.1
  unacked_writes earlier moment before (Commands process ∷ writes) may =
      unacked_writes earlier moment before writes may.1
  unacked_writes earlier moment before (Settles settings ∷ writes) may =
      unacked_writes earlier moment before writes may.1
  unacked_writes earlier moment before (Heads at head ∷ writes) may = unacked_writes earlier moment before writes may.1
  unacked_writes earlier moment before (Executes at number by items ∷ writes) may =
      unacked_writes earlier moment before writes may.1
  unacked_writes earlier moment before (Bases at number place part ∷ writes) may =
      unacked_writes earlier moment before writes may.1
  unacked_writes earlier moment before (Follows at read ∷ writes) may =
      unacked_writes earlier moment before writes may.1
  unacked_writes earlier moment before (Deletes keys ∷ writes) may =
      unacked_writes earlier moment before writes may.1
  unacked_writes earlier moment before (Elsewhere ∷ writes) may =
      unacked_writes earlier moment before writes may.1

  own_step : (joined from : ℕ) (earlier : List (TimedStep Q P)) (moment revision : ℕ) (step : TimelineStep Q P)
      → MayStep span earlier moment step → IsUnder joined (lease_of server earlier)
      → let_go_with shard server joined (let_go_of shard server joined earlier) step < from
      → acked_of shard server (stored earlier) < from
      → acked_of shard server (stored (record { moment = moment; revision = revision; step = step } ∷ earlier)) < from
  own_step joined from earlier moment revision (Tells by its read acks told) may under own was =
      let before = acked_of shard server (stored earlier) in
      let gone = let_go_of shard server joined earlier in
      cond_both (by == server) (acked_among shard acks before) before (λ k. k < from)
      (λ same.
      let mine = subst (λ (n : ℕ). IsUnder its (lease_of n earlier)) (eqb-true by server same) may in
      let so = same_process its joined (lease_of server earlier) mine under in
      let whole = and_from (by == server) (its == joined) same (eq-eqb its joined so) in
      let counted = subst (λ k. k < from)
      (cond-true (is_process server joined by its) (acked_among shard acks gone) gone whole) own in
      among_below shard acks gone before from counted was)
      (λ apart. was)
  own_step joined from earlier moment revision (Makes txn) may under own was =
      subst (λ k. k < from)
      (sym (unacked_writes earlier moment (acked_of shard server (stored earlier)) txn.writes may)) was
  own_step joined from earlier moment revision (Joins at read sent granted) may under own was =
      cond_both (at == server) (acked_of shard server (stored earlier)) (acked_of shard server (stored earlier))
      (λ k. k < from) (λ same. was) (λ apart. was)
  own_step joined from earlier moment revision (Keeps at sent) may under own was = was
  own_step joined from earlier moment revision (Leaves at others) may under own was = was
  own_step joined from earlier moment revision (Hands at by its generation) may under own was = was

  -- while a process's key lies there, its server acks only the records that the process itself lets go of
  pub own_only : (joined from : ℕ) (newer older : List (TimedStep Q P)) → IsRising (stored (newer ++ older))
      → KeepsWaits span (newer ++ older) → joined ≤ last_revision (stored older)
      → IsUnder joined (lease_of server (newer ++ older))
      → let_go_of shard server joined (newer ++ older) < from → acked_of shard server (stored older) < from
      → acked_of shard server (stored (newer ++ older)) < from
  own_only joined from [] older rising waited within under own was = was
  own_only joined from (one ∷ newer) older rising waited within under own was =
      let timeline = newer ++ older in
      let rose = rose_before timeline one.moment one.revision one.step rising in
      let grown = stored_grows newer older rose in
      let before = under_since server joined (one ∷ []) timeline rising (omega arith) under in
      let risen = let_go_rises shard server joined (let_go_of shard server joined timeline) one.step in
      own_step joined from timeline one.moment one.revision one.step waited.0 before own
      (own_only joined from newer older rose waited.2 within before (omega arith) was)
