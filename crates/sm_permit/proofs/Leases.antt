-- A lease that a server's clock says lasts is the one under which its key lies in the store.
use Rattle.std.proofs.Common.{◌≡◌, ℕ, ◌+◌, ◌<◌, ◌≤◌, ◌*◌, List, [], ◌∷◌, ◌++◌, refl, sym, ap}
use Rattle.std.proofs.Common.{subst, ◌∙◌, append_assoc, arith, ⊎_elim, inl, inr, true, false}
use Rattle.std.specs.Prelude.{◌==◌, Option, Some, None, IfSome}
use Rattle.std.specs.List.{AllByRecursion}
use Rattle.std.proofs.lemmas.Bool.{eqb-true, eq-eqb, cond-true, cond-false, cond_both, cases_Bool, cases_lt}
use Rattle.std.proofs.lemmas.Option.{none-some, same_Some}
use Rattle.std.proofs.lemmas.Nat.{mul-le}
use Rattle.sm_store.specs.declared.store_key.PassingKey.{PassingKey}
use Rattle.sm_store.specs.declared.store_key.PassingKey.TheVariants.{Leader, Server, Ack as AckKey, Batch, Part, Other}
use Rattle.sm_store.specs.Store.{Write, Leads, Stands, Enters, Commands, Settles, Heads, Executes, Bases, Follows, Acks}
use Rattle.sm_store.specs.Store.{Deletes, Elsewhere, IsRising, deletes_key, last_revision, left_by, revised}
use Rattle.sm_store.specs.Store.{Transaction, made_at, revision_of, same_passing, server_key}
use Rattle.sm_store.specs.Deeds.{Expiring, Following, done_at}
use Rattle.sm_store.specs.lemmas.Parts.{has_none}
use Rattle.sm_permit.specs.Timelines.{Lease, TimelineStep, TimedStep, Makes, Joins, Keeps, Leaves, Tells, Hands}
use Rattle.sm_permit.specs.Timelines.{IsUnder}
use Rattle.sm_permit.specs.Timelines.{gives_back_lease, kept_at, latest_moment, lease_after, lease_of, lease_with}
use Rattle.sm_permit.specs.Timelines.{stored, stored_with}
use Rattle.sm_permit.specs.Waits.{IsInTime, IsOverAt, KeepsWaits, MayBeDeleted, MayStep}
use Rattle.sm_permit.specs.Permits.{AreSafe, HasLease, IsGrant, IsTimely, Terms}

-- the key lies under this lease, which was kept at this moment or before
record Lives (lease : Lease) (moment : ℕ) (key : Option Lease) : Type 0 where
  pub now : Lease
  pub lies : key ≡ Some now
  pub same : now.joined ≡ lease.joined
  pub later : lease.kept ≤ now.kept
  pub past : now.kept ≤ moment

-- the key still lies under the lease at a later moment
passes : (lease : Lease) (before moment : ℕ) (key : Option Lease) → before ≤ moment → Lives lease before key
    → Lives lease moment key
passes lease before moment key le lives =
    let past = lives.past in
    record { now = lives.now; lies = lives.lies; same = lives.same; later = lives.later; past = omega arith }

-- the key lies under the same lease after a keep
keeps : (lease : Lease) (before moment : ℕ) (key : Option Lease) → before ≤ moment → Lives lease before key
    → Lives lease moment (kept_at moment key)
keeps lease before moment key le lives =
    let past = lives.past in
    let later = lives.later in
    record {
      now = record { joined = lives.now.joined; kept = moment };
      lies = ap (kept_at moment) lives.lies;
      same = lives.same;
      later = omega arith;
      past = omega arith;
    }

module _ {Q P : Type 0} (span server : ℕ) where
  -- the end of the key's lease comes after its length, so the key that is deleted is another one
  is_another : (lease : Lease) (earlier : List (TimedStep Q P)) (moment : ℕ) → moment < lease.kept + span
      → Lives lease moment (lease_of server earlier) → (key : PassingKey) → MayBeDeleted span earlier moment key
      → same_passing key (Server server) ≡ false
  is_another lease earlier moment early lives (Server at) may =
      ⊎_elim
      (λ (same : (at == server) ≡ true).
      let mine = subst (λ (n : ℕ). IfSome (lease_of n earlier) (IsOverAt span moment)) (eqb-true at server same) may in
      let over = subst (λ (k : Option Lease). IfSome k (IsOverAt span moment)) lives.lies mine in
      let later = lives.later in
      absurd (omega arith))
      (λ (apart : (at == server) ≡ false). apart)
      (cases_Bool (at == server))
  is_another lease earlier moment early lives Leader may = refl
  is_another lease earlier moment early lives (AckKey shard by) may = refl
  is_another lease earlier moment early lives (Batch shard number) may = refl
  is_another lease earlier moment early lives (Part shard number place) may = refl
  is_another lease earlier moment early lives Other may = refl

  -- so a key stays in the store after writes
  lives_writes : (lease : Lease) (earlier : List (TimedStep Q P)) (moment : ℕ) (writes : List (Write Q P))
      (key : Option Lease) → AllByRecursion (IsInTime span earlier moment) writes → moment < lease.kept + span
      → Lives lease moment (lease_of server earlier) → Lives lease moment key
      → Lives lease moment (left_by (lease_after server) key writes)
  lives_writes lease earlier moment [] key waited early had lives = lives
  lives_writes lease earlier moment (Deletes gone ∷ writes) key waited early had lives =
      let others = has_none (Server server) (MayBeDeleted span earlier moment)
      (is_another lease earlier moment early had) gone waited.0 in
      lives_writes lease earlier moment writes _ waited.1 early had
      (subst (Lives lease moment) (sym (cond-false (deletes_key gone (Server server)) None key others)) lives)
  lives_writes lease earlier moment (Leads process ∷ writes) key waited early had lives =
      lives_writes lease earlier moment writes key waited.1 early had lives
  lives_writes lease earlier moment (Stands process shard change next ∷ writes) key waited early had lives =
      lives_writes lease earlier moment writes key waited.1 early had lives
  lives_writes lease earlier moment (Enters process at state ∷ writes) key waited early had lives =
      lives_writes lease earlier moment writes key waited.1 early had lives
  lives_writes lease earlier moment (Commands process ∷ writes) key waited early had lives =
      lives_writes lease earlier moment writes key waited.1 early had lives
  lives_writes lease earlier moment (Settles settings ∷ writes) key waited early had lives =
      lives_writes lease earlier moment writes key waited.1 early had lives
  lives_writes lease earlier moment (Heads shard head ∷ writes) key waited early had lives =
      lives_writes lease earlier moment writes key waited.1 early had lives
  lives_writes lease earlier moment (Executes shard number at items ∷ writes) key waited early had lives =
      lives_writes lease earlier moment writes key waited.1 early had lives
  lives_writes lease earlier moment (Bases shard number place part ∷ writes) key waited early had lives =
      lives_writes lease earlier moment writes key waited.1 early had lives
  lives_writes lease earlier moment (Follows at read ∷ writes) key waited early had lives =
      lives_writes lease earlier moment writes key waited.1 early had lives
  lives_writes lease earlier moment (Acks at acks ∷ writes) key waited early had lives =
      lives_writes lease earlier moment writes key waited.1 early had lives
  lives_writes lease earlier moment (Elsewhere ∷ writes) key waited early had lives =
      lives_writes lease earlier moment writes key waited.1 early had lives

-- a key that lies under a lease was written at some revision
abbrev IsThere : Option Lease → ℕ → Type 0
IsThere key revision = (lease : Lease) → key ≡ Some lease → 0 < revision

module _ {Q P : Type 0} (server now : ℕ) where
  there_writes : (writes : List (Write Q P)) (key : Option Lease) (revision : ℕ) → 0 < now → IsThere key revision
      → IsThere (left_by (lease_after server) key writes)
      (left_by (revised (server_key server) now) revision writes)
  there_writes [] key revision some is = is
  there_writes (Deletes gone ∷ writes) key revision some is =
      there_writes writes _ _ some
      (deletes gone)
    where
      deletes : (gone : List PassingKey)
          → IsThere (lease_after {Q = Q} {P = P} server key (Deletes gone))
          (revised {Q = Q} {P = P} (server_key server) now revision (Deletes gone))
      deletes gone =
          cond_both (deletes_key gone (Server server)) None key
          (λ k. IsThere k (revised {Q = Q} {P = P} (server_key server) now revision (Deletes gone)))
          (λ same lease lies. absurd (none-some lease lies))
          (λ apart lease lies. rw apart (is lease lies))
  there_writes (Follows at read ∷ writes) key revision some is =
      there_writes writes key _ some
      (cond_both (at == server) now revision (IsThere key) (λ same lease lies. some) (λ apart. is))
  there_writes (Leads process ∷ writes) key revision some is = there_writes writes key revision some is
  there_writes (Stands process shard change next ∷ writes) key revision some is =
      there_writes writes key revision some is
  there_writes (Enters process at state ∷ writes) key revision some is = there_writes writes key revision some is
  there_writes (Commands process ∷ writes) key revision some is = there_writes writes key revision some is
  there_writes (Settles settings ∷ writes) key revision some is = there_writes writes key revision some is
  there_writes (Heads shard head ∷ writes) key revision some is = there_writes writes key revision some is
  there_writes (Executes shard number at items ∷ writes) key revision some is =
      there_writes writes key revision some is
  there_writes (Bases shard number place part ∷ writes) key revision some is =
      there_writes writes key revision some is
  there_writes (Acks at acks ∷ writes) key revision some is = there_writes writes key revision some is
  there_writes (Elsewhere ∷ writes) key revision some is = there_writes writes key revision some is

-- revisions rose before a step too, and the step doesn't lower the store's revision
pub rose_before : {Q P : Type 0} (earlier : List (TimedStep Q P)) (moment revision : ℕ) (step : TimelineStep Q P)
    → IsRising (stored (record { moment = moment; revision = revision; step = step } ∷ earlier))
    → IsRising (stored earlier)
rose_before earlier moment revision (Makes txn) rising = rising.1
rose_before earlier moment revision (Joins server read sent granted) rising = rising.1
rose_before earlier moment revision (Keeps server sent) rising = rising
rose_before earlier moment revision (Leaves server others) rising = rising.1
rose_before earlier moment revision (Tells server joined read acks told) rising = rising.1
rose_before earlier moment revision (Hands shard server joined generation) rising = rising

stored_step : {Q P : Type 0} (earlier : List (TimedStep Q P)) (moment revision : ℕ) (step : TimelineStep Q P)
    → IsRising (stored (record { moment = moment; revision = revision; step = step } ∷ earlier))
    → last_revision (stored earlier)
    ≤ last_revision (stored (record { moment = moment; revision = revision; step = step } ∷ earlier))
stored_step earlier moment revision (Makes txn) rising = let above = rising.0 in omega arith
stored_step earlier moment revision (Joins server read sent granted) rising = let above = rising.0 in omega arith
stored_step earlier moment revision (Keeps server sent) rising = omega arith
stored_step earlier moment revision (Leaves server others) rising = let above = rising.0 in omega arith
stored_step earlier moment revision (Tells server joined read acks told) rising =
    let above = rising.0 in omega arith
stored_step earlier moment revision (Hands shard server joined generation) rising = omega arith

stored_added : {Q P : Type 0} (revision : ℕ) (step : TimelineStep Q P) (log : List (Transaction Q P))
    → (more : List (Transaction Q P)) × (stored_with revision step log ≡ more ++ log)
stored_added revision (Makes txn) log = (made_at revision txn ∷ [], refl)
stored_added revision (Joins server read sent granted) log = (done_at revision (Following server read [] 0) ∷ [], refl)
stored_added revision (Keeps server sent) log = ([], refl)
stored_added {Q = Q} {P = P} revision (Leaves server others) log =
    (done_at revision (Expiring (Server server ∷ others)) ∷ [], refl)
stored_added revision (Tells server joined read acks told) log =
    (done_at revision (Following server read acks told) ∷ [], refl)
stored_added revision (Hands shard server joined generation) log = ([], refl)

-- the store's log after more steps is the one before, and more
pub stored_more : {Q P : Type 0} (later timeline : List (TimedStep Q P))
    → (more : List (Transaction Q P)) × (stored (later ++ timeline) ≡ more ++ stored timeline)
stored_more [] timeline = ([], refl)
stored_more {Q = Q} {P = P} (one ∷ later) timeline =
    let rest = stored_more later timeline in
    let added = stored_added one.revision one.step (stored (later ++ timeline)) in (
      added.0 ++ rest.0,
      added.1 ∙ ap (λ (log : List (Transaction Q P)). added.0 ++ log) rest.1
          ∙ sym (append_assoc added.0 rest.0 (stored timeline)),
    )

-- the store's revision rises
pub stored_grows : {Q P : Type 0} (later timeline : List (TimedStep Q P)) → IsRising (stored (later ++ timeline))
    → last_revision (stored timeline) ≤ last_revision (stored (later ++ timeline))
stored_grows [] timeline rising = omega arith
stored_grows (one ∷ later) timeline rising =
    let rose = rose_before (later ++ timeline) one.moment one.revision one.step rising in
    let more = stored_grows later timeline rose in
    let last = stored_step (later ++ timeline) one.moment one.revision one.step rising in
    omega arith

module _ {Q P : Type 0} (server : ℕ) where
  there_step : (earlier : List (TimedStep Q P)) (moment revision : ℕ) (step : TimelineStep Q P)
      → IsRising (stored (record { moment = moment; revision = revision; step = step } ∷ earlier))
      → IsThere (lease_of server earlier) (revision_of (server_key server) (stored earlier))
      → IsThere (lease_of server (record { moment = moment; revision = revision; step = step } ∷ earlier))
      (revision_of (server_key server)
      (stored (record { moment = moment; revision = revision; step = step } ∷ earlier)))
  there_step earlier moment revision (Makes txn) rising is =
      let above = rising.0 in
      there_writes server revision txn.writes (lease_of server earlier) _ (omega arith) is
  there_step earlier moment revision (Joins at read sent granted) rising is =
      let above = rising.0 in
      let old = revision_of (server_key server) (stored earlier) in
      cond_both (at == server) revision old
      (IsThere (lease_of server
      (record { moment = moment; revision = revision; step = Joins at read sent granted } ∷ earlier)))
      (λ same lease lies. omega arith)
      (λ apart lease lies.
      is lease (sym (cond-false (at == server) (Some (record { joined = revision; kept = granted }))
      (lease_of server earlier) apart) ∙ lies))
  there_step earlier moment revision (Keeps at sent) rising is =
      cond_both (at == server) (kept_at moment (lease_of server earlier)) (lease_of server earlier)
      (λ k. IsThere k (revision_of (server_key server) (stored earlier)))
      (λ same. kept_there (lease_of server earlier) is) (λ apart. is)
    where
      kept_there : (key : Option Lease) → IsThere key (revision_of (server_key server) (stored earlier))
          → IsThere (kept_at moment key) (revision_of (server_key server) (stored earlier))
      kept_there None is lease lies = absurd (none-some lease lies)
      kept_there (Some old) is lease lies = is old refl
  there_step earlier moment revision (Leaves at others) rising is =
      let above = rising.0 in
      there_writes {Q = Q} {P = P} server revision (Deletes (Server at ∷ others) ∷ [])
      (lease_of server earlier) _ (omega arith) is
  there_step earlier moment revision (Tells at joined read acks told) rising is =
      let above = rising.0 in
      there_writes {Q = Q} {P = P} server revision (Follows at read ∷ Acks at acks ∷ [])
      (lease_of server earlier) _ (omega arith) is
  there_step earlier moment revision (Hands shard at joined generation) rising is = is

  -- a server's key that lies under a lease is in the store
  pub there : (timeline : List (TimedStep Q P)) → IsRising (stored timeline)
      → IsThere (lease_of server timeline) (revision_of (server_key server) (stored timeline))
  there [] rising = λ lease lies. absurd (none-some lease lies)
  there (one ∷ earlier) rising =
      there_step earlier one.moment one.revision one.step rising
      (there earlier (rose_before earlier one.moment one.revision one.step rising))

-- the key was kept at that moment, and it lay there before
kept_when : (moment : ℕ) (key : Option Lease) (lease : Lease) → kept_at moment key ≡ Some lease
    → lease.kept ≡ moment
kept_when moment None lease is = absurd (none-some lease is)
kept_when moment (Some before) lease is =
    ap (λ (l : Lease). l.kept) (sym (same_Some (record { joined = before.joined; kept = moment }) lease is))

kept_under : (moment joined : ℕ) (key : Option Lease) → IsUnder joined (kept_at moment key) → IsUnder joined key
kept_under moment joined None under = absurd (none-some under.0 under.1)
kept_under moment joined (Some before) under = (
  before,
  refl,
  ap (λ (l : Lease). l.joined) (same_Some (record { joined = before.joined; kept = moment }) under.0 under.1)
      ∙ under.2,
)

under_none : (joined : ℕ) (key : Option Lease) → IsUnder joined None → IsUnder joined key
under_none joined key under = absurd (none-some under.0 under.1)

module _ {Q P : Type 0} (span server : ℕ) where
  lives_step : (lease : Lease) (earlier : List (TimedStep Q P)) (moment revision : ℕ) (step : TimelineStep Q P)
      → IsRising (stored earlier) → MayStep span earlier moment step → latest_moment earlier ≤ moment
      → moment < lease.kept + span
      → gives_back_lease server step ≡ false → Lives lease (latest_moment earlier) (lease_of server earlier)
      → Lives lease moment (lease_with server moment revision (lease_of server earlier) step)
  lives_step lease earlier moment revision (Makes txn) rising may le early stays lives =
      let still = passes lease (latest_moment earlier) moment (lease_of server earlier) le lives in
      lives_writes span server lease earlier moment txn.writes (lease_of server earlier) may early still still
  lives_step lease earlier moment revision (Joins at read sent granted) rising may le early stays lives =
      cond_both (at == server) (Some (record { joined = revision; kept = granted }))
      (lease_of server earlier) (Lives lease moment)
      (λ same.
      let gone = subst (λ (n : ℕ). revision_of (server_key n) (stored earlier) ≡ 0) (eqb-true at server same) may.0 in
      let is = there server earlier rising lives.now lives.lies in
      absurd (omega arith))
      (λ apart. passes lease (latest_moment earlier) moment (lease_of server earlier) le lives)
  lives_step lease earlier moment revision (Keeps at sent) rising may le early stays lives =
      cond_both (at == server) (kept_at moment (lease_of server earlier)) (lease_of server earlier)
      (Lives lease moment)
      (λ same. keeps lease (latest_moment earlier) moment (lease_of server earlier) le lives)
      (λ apart. passes lease (latest_moment earlier) moment (lease_of server earlier) le lives)
  lives_step lease earlier moment revision (Leaves at others) rising may le early stays lives =
      let still = passes lease (latest_moment earlier) moment (lease_of server earlier) le lives in
      let apart : (at == server) ≡ false = stays in
      let others_are = has_none (Server server) (MayBeDeleted span earlier moment)
      (is_another span server lease earlier moment early still) others may in
      subst (Lives lease moment)
      (sym (cond-false (deletes_key (Server at ∷ others) (Server server)) None (lease_of server earlier)
      (rw apart others_are))) still
  lives_step lease earlier moment revision (Tells at joined read acks told) rising may le early stays lives =
      passes lease (latest_moment earlier) moment (lease_of server earlier) le lives
  lives_step lease earlier moment revision (Hands shard at joined generation) rising may le early stays lives =
      passes lease (latest_moment earlier) moment (lease_of server earlier) le lives

  -- a lease that was kept lies there until its length has passed
  lives : (lease : Lease) (later timeline : List (TimedStep Q P)) → IsRising (stored (later ++ timeline))
      → KeepsWaits span (later ++ timeline)
      → latest_moment (later ++ timeline) < lease.kept + span
      → AllByRecursion (λ (one : TimedStep Q P). gives_back_lease server one.step ≡ false) later
      → Lives lease (latest_moment timeline) (lease_of server timeline)
      → Lives lease (latest_moment (later ++ timeline)) (lease_of server (later ++ timeline))
  lives lease [] timeline rising waited early stays was = was
  lives lease (one ∷ later) timeline rising waited early stays was =
      let le = waited.1 in
      let rose = rose_before (later ++ timeline) one.moment one.revision one.step rising in
      lives_step lease (later ++ timeline) one.moment one.revision one.step rose waited.0 waited.1 early stays.0
      (lives lease later timeline rose waited.2 (omega arith) stays.1 was)

  pub waited_before : (later timeline : List (TimedStep Q P)) → KeepsWaits span (later ++ timeline)
      → KeepsWaits span timeline
  waited_before [] timeline waited = waited
  waited_before (one ∷ later) timeline waited = waited_before later timeline waited.2

  moments_rise : (later timeline : List (TimedStep Q P)) → KeepsWaits span (later ++ timeline)
      → latest_moment timeline ≤ latest_moment (later ++ timeline)
  moments_rise [] timeline waited = omega arith
  moments_rise (one ∷ later) timeline waited =
      let le = waited.1 in let more = moments_rise later timeline waited.2 in omega arith

  -- a lease counts from no earlier than its process asked
  grant_counts : (earlier : List (TimedStep Q P)) (sent moment revision : ℕ) (step : TimelineStep Q P) (lease : Lease)
      → IsGrant server sent step
      → lease_with server moment revision (lease_of server earlier) step ≡ Some lease
      → MayStep span earlier moment step → (sent ≤ lease.kept) × (lease.kept ≤ moment)
  grant_counts earlier sent moment revision step lease (inl joins) lies may =
      let key = lease_of server earlier in
      let new : Lease = record { joined = revision; kept = joins.1 } in
      let is =
      subst (λ (s : TimelineStep Q P). lease_with server moment revision key s ≡ Some lease)
      joins.2 lies in
      let may_so = subst (MayStep span earlier moment) joins.2 may in
      let same : lease.kept ≡ joins.1 = ap (λ (l : Lease). l.kept) (sym (same_Some new lease
      (sym (cond-true (server == server) (Some new) key (eq-eqb server server refl)) ∙ is))) in
      let sent_by = may_so.1 in
      let put_by = may_so.2 in
      (omega arith, omega arith)
  grant_counts earlier sent moment revision step lease (inr keep) lies may =
      let key = lease_of server earlier in
      let is =
      subst (λ (s : TimelineStep Q P). lease_with server moment revision key s ≡ Some lease)
      keep lies in
      let same = kept_when moment key lease
      (sym (cond-true (server == server) (kept_at moment key) key (eq-eqb server server refl)) ∙ is) in
      let sent_by = subst (MayStep span earlier moment) keep may in
      (omega arith, omega arith)

  under_writes : (joined : ℕ) (writes : List (Write Q P)) (key : Option Lease)
      → IsUnder joined (left_by (lease_after server) key writes) → IsUnder joined key
  under_writes joined [] key under = under
  under_writes joined (Deletes gone ∷ writes) key under =
      cond_both (deletes_key gone (Server server)) None key (λ k. IsUnder joined k → IsUnder joined key)
      (λ same. under_none joined key) (λ apart was. was)
      (under_writes joined writes _ under)
  under_writes joined (Leads process ∷ writes) key under = under_writes joined writes key under
  under_writes joined (Stands process shard change next ∷ writes) key under = under_writes joined writes key under
  under_writes joined (Enters process at state ∷ writes) key under = under_writes joined writes key under
  under_writes joined (Commands process ∷ writes) key under = under_writes joined writes key under
  under_writes joined (Settles settings ∷ writes) key under = under_writes joined writes key under
  under_writes joined (Heads shard head ∷ writes) key under = under_writes joined writes key under
  under_writes joined (Executes shard number at items ∷ writes) key under = under_writes joined writes key under
  under_writes joined (Bases shard number place part ∷ writes) key under = under_writes joined writes key under
  under_writes joined (Follows at read ∷ writes) key under = under_writes joined writes key under
  under_writes joined (Acks at acks ∷ writes) key under = under_writes joined writes key under
  under_writes joined (Elsewhere ∷ writes) key under = under_writes joined writes key under

  under_step : (earlier : List (TimedStep Q P)) (moment revision joined : ℕ) (step : TimelineStep Q P)
      → IsRising (stored (record { moment = moment; revision = revision; step = step } ∷ earlier))
      → joined ≤ last_revision (stored earlier)
      → IsUnder joined (lease_with server moment revision (lease_of server earlier) step)
      → IsUnder joined (lease_of server earlier)
  under_step earlier moment revision joined (Makes txn) rising within =
      under_writes joined txn.writes (lease_of server earlier)
  under_step earlier moment revision joined (Joins at read sent granted) rising within =
      let key = lease_of server earlier in
      let new : Lease = record { joined = revision; kept = granted } in
      cond_both (at == server) (Some new) key (λ k. IsUnder joined k → IsUnder joined key)
      (λ same under. let is = ap (λ (l : Lease). l.joined) (same_Some new under.0 under.1) in
      let joins = under.2 in let above = rising.0 in absurd (omega arith))
      (λ apart under. under)
  under_step earlier moment revision joined (Keeps at sent) rising within =
      let key = lease_of server earlier in
      cond_both (at == server) (kept_at moment key) key (λ k. IsUnder joined k → IsUnder joined key)
      (λ same. kept_under moment joined key) (λ apart under. under)
  under_step earlier moment revision joined (Leaves at others) rising within =
      let key = lease_of server earlier in
      cond_both (deletes_key (Server at ∷ others) (Server server)) None key (λ k. IsUnder joined k → IsUnder joined key)
      (λ same. under_none joined key) (λ apart under. under)
  under_step earlier moment revision joined (Tells at its read acks told) rising within = λ under. under
  under_step earlier moment revision joined (Hands shard at its generation) rising within = λ under. under

-- a time that the clock allows has not passed
not_over : (terms : Terms) (clock : ℕ → ℕ) (sent now : ℕ) → AreSafe terms → IsTimely terms clock → sent ≤ now
    → clock now < clock sent + terms.allowed → now < sent + terms.length
not_over terms clock sent now safe timely le lasts =
    ⊎_elim
    (λ (below : now < sent + terms.length). below)
    (λ (over : sent + terms.length ≤ now).
    let passed = timely sent now le in
    let within = safe.within in
    let some = safe.some in
    let counted : (clock now + 1) * terms.moments ≤ (clock sent + terms.allowed) * terms.moments =
    mul-le (clock now + 1) terms.moments (clock sent + terms.allowed) terms.moments (omega arith) (omega arith) in
    let moments : (sent + terms.length) * terms.ticks ≤ now * terms.ticks =
    mul-le (sent + terms.length) terms.ticks now terms.ticks over (omega arith) in
    absurd (grind (arith, passed, within, some, counted, moments)))
    (cases_lt now (sent + terms.length))

-- a process with a lease that lasts by its clock has its key in the store under that lease
pub lasting : {Q P : Type 0} (terms : Terms) (clock : ℕ → ℕ) (timeline : List (TimedStep Q P))
    (now server sent : ℕ) (lease : Lease) → AreSafe terms → IsTimely terms clock → IsRising (stored timeline)
    → KeepsWaits terms.length timeline → latest_moment timeline ≤ now → HasLease timeline server sent lease
    → clock now < clock sent + terms.allowed → IsUnder lease.joined (lease_of server timeline)
lasting {Q = Q} {P = P} terms clock timeline now server sent lease safe timely rising waited latest has lasts =
    let span = terms.length in
    let past = has.grant ∷ has.before in
    let rose = subst (λ (l : List (TimedStep Q P)). IsRising (stored l)) has.is rising in
    let all = subst (KeepsWaits span) has.is waited in
    let grown = moments_rise span server has.since past all in
    let old = waited_before span server has.since past all in
    let counts = grant_counts span server has.before sent has.grant.moment has.grant.revision has.grant.step lease
    has.granted has.lies old.0 in
    let late = counts.1 in
    let asked = counts.0 in
    let within : latest_moment (has.since ++ past) ≤ now =
    subst (λ (l : List (TimedStep Q P)). latest_moment l ≤ now) has.is latest in
    let early = not_over terms clock sent now safe timely (omega arith) lasts in
    let alive = lives span server lease has.since past rose all (omega arith) has.stays
    (record { now = lease; lies = has.lies; same = refl; later = omega arith; past = omega arith }) in (
      alive.now,
      subst (λ (l : List (TimedStep Q P)). lease_of server l ≡ Some alive.now) (sym has.is) alive.lies,
      alive.same,
    )

module _ {Q P : Type 0} (server joined : ℕ) where
  -- a key that lies under a process's lease did so since the process joined
  pub under_since : (later timeline : List (TimedStep Q P)) → IsRising (stored (later ++ timeline))
      → joined ≤ last_revision (stored timeline) → IsUnder joined (lease_of server (later ++ timeline))
      → IsUnder joined (lease_of server timeline)
  under_since [] timeline rising within under = under
  under_since (one ∷ later) timeline rising within under =
      let rose = rose_before (later ++ timeline) one.moment one.revision one.step rising in
      let grown = stored_grows later timeline rose in
      under_since later timeline rose within
      (under_step 0 server (later ++ timeline) one.moment one.revision joined one.step rising (omega arith) under)
