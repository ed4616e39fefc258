-- Two permits for one shard at one moment belong to one process.
use Rattle.std.proofs.Common.{◌≡◌, ◌≢◌, ℕ, ◌<◌, ◌≤◌, true, List, [], ◌∷◌, ◌++◌, sym, ap}
use Rattle.std.proofs.Common.{subst, ◌∙◌, arith, ⊎_elim, inl, inr}
use Rattle.std.specs.Prelude.{◌==◌, ◌⊎◌, IsTrue, Some, not}
use Rattle.std.proofs.lemmas.Bool.{and_parts, eqb-true, false≢true}
use Rattle.std.proofs.lemmas.Option.{none-some, same_Some}
use Rattle.sm_ranges.specs.declared.stand.Stand.{Stand}
use Rattle.sm_ranges.specs.declared.stand.Stand.TheVariants.{Vacant, Serving, Prepared, Forwarding, Taken, Paused}
use Rattle.sm_ownership.specs.declared.mode.Mode.{Mode}
use Rattle.sm_ownership.specs.Rules.{accepts_at, executor_of, is_early}
use Rattle.sm_place.specs.declared.server_state.ServerState.TheVariants.{Failed}
use Rattle.sm_store.specs.Store.{acked_of, last_revision, stored_record, stored_state}
use Rattle.sm_store.specs.Deeds.{AreRight, Charter}
use Rattle.sm_store.specs.lemmas.Views.{rising_of_right}
use Rattle.sm_permit.specs.Timelines.{TimedStep, IsUnder, lease_of, stored}
use Rattle.sm_permit.specs.Waits.{KeepsWaits, let_go_of}
use Rattle.sm_permit.specs.Permits.{AreSafe, ByAck, ByBytes, ByFailure, HasPermit, IsFreed, IsTimely, MayHaveBody}
use Rattle.sm_permit.specs.Permits.{OnePermit, Terms}
use Rattle.sm_permit.proofs.Acks.{acks_grow, executes_unacked, own_only, same_process}
use Rattle.sm_permit.proofs.Leases.{lasting, stored_grows, under_since, waited_before}
use Rattle.sm_permit.proofs.Records.{right_before}
use Rattle.sm_permit.proofs.Stays.{IsNamed, StillNamed, stays}

-- a server that executes by a stand is its executor, and is named by it
accepted : (stand : Stand) (server : ℕ) (mode : Mode) → accepts_at stand server mode ≡ true
    → executor_of stand ≡ Some server
accepted (Forwarding owner next) server mode is =
    ap Some (eqb-true next server (and_parts (next == server) (not (is_early (Forwarding owner next) mode)) is).0)
accepted (Serving owner) server mode is = ap Some (eqb-true owner server (and_parts (owner == server) true is).0)
accepted (Prepared owner next) server mode is = ap Some (eqb-true owner server (and_parts (owner == server) true is).0)
accepted (Taken owner previous) server mode is = ap Some (eqb-true owner server (and_parts (owner == server) true is).0)
accepted Vacant server mode is = absurd (false≢true is)
accepted (Paused owner) server mode is = absurd (false≢true is)

named : (stand : Stand) (server : ℕ) → executor_of stand ≡ Some server → IsNamed stand server
named (Forwarding owner next) server is = inr (same_Some next server is)
named (Serving owner) server is = same_Some owner server is
named (Prepared owner next) server is = same_Some owner server is
named (Taken owner previous) server is = same_Some owner server is
named Vacant server is = absurd (none-some server is)
named (Paused owner) server is = absurd (none-some server is)

not_freed : {Q P : Type 0} (shard joined from : ℕ) (timeline older : List (TimedStep Q P)) (server : ℕ)
    → IsUnder joined (lease_of server older) → acked_of shard server (stored timeline) < from
    → stored_state server (stored older) ≢ Failed → from ≤ (stored_record shard (stored older)).generation
    → let_go_of shard server joined timeline < from → IsFreed shard timeline older server → ⊥
not_freed shard joined from timeline older server under acked stands since holds (ByAck freed) = omega arith
not_freed shard joined from timeline older server under acked stands since holds (ByBytes by lies freed) =
    let same = same_process by joined (lease_of server older) lies under in
    let gone = subst (λ (n : ℕ). (stored_record shard (stored older)).generation ≤ let_go_of shard server n timeline)
    same freed in
    omega arith
not_freed shard joined from timeline older server under acked stands since holds (ByFailure failed) = stands failed

-- a server that a stand names and a server that executes by it are the same, unless the first is an owner that forwards
-- and has let go
only_one : {Q P : Type 0} (shard : ℕ) (timeline older : List (TimedStep Q P)) (stand : Stand) (one other : ℕ)
    → IsNamed stand one → executor_of stand ≡ Some other → MayHaveBody shard timeline older stand
    → (IsFreed shard timeline older one → ⊥) → one ≡ other
only_one shard timeline older (Forwarding owner next) one other (inl is) executes body holds =
    absurd (holds (subst (IsFreed shard timeline older) is body))
only_one shard timeline older (Forwarding owner next) one other (inr is) executes body holds =
    sym is ∙ same_Some next other executes
only_one shard timeline older (Serving owner) one other is executes body holds =
    sym is ∙ same_Some owner other executes
only_one shard timeline older (Prepared owner next) one other is executes body holds =
    sym is ∙ same_Some owner other executes
only_one shard timeline older (Taken owner previous) one other is executes body holds =
    sym is ∙ same_Some owner other executes
only_one shard timeline older Vacant one other is executes body holds = absurd is
only_one shard timeline older (Paused owner) one other is executes body holds = absurd (none-some other executes)

abbrev rest_of : {A : Type 0} → List A → List A
rest_of [] = []
rest_of (x ∷ xs) = xs

-- if a list has two pasts, one is the past of the other
pasts : {A : Type 0} (newer older later earlier : List A) → newer ++ older ≡ later ++ earlier
    → ((more : List A) × (earlier ≡ more ++ older)) ⊎ ((more : List A) × (older ≡ more ++ earlier))
pasts [] older later earlier same = inr (later, same)
pasts (x ∷ newer) older [] earlier same = inl (x ∷ newer, sym same)
pasts (x ∷ newer) older (y ∷ later) earlier same = pasts newer older later earlier (ap rest_of same)

right_past : {Q P : Type 0} (charter : Charter Q P) (later timeline : List (TimedStep Q P))
    → AreRight charter (stored (later ++ timeline)) → AreRight charter (stored timeline)
right_past charter [] timeline right = right
right_past charter (one ∷ later) timeline right =
    right_past charter later timeline (right_before charter one.moment one.revision one.step (later ++ timeline) right)

module _ {Q P : Type 0} (charter : Charter Q P) (waits : IsTrue charter.waits) (terms : Terms) (safe : AreSafe terms)
    (timeline : List (TimedStep Q P))
    (right : AreRight charter (stored timeline)) (waited : KeepsWaits terms.length timeline) (now shard : ℕ) where
  pub under_now : (clock : ℕ → ℕ) (server : ℕ) (mode : Mode) → IsTimely terms clock
      → (permit : HasPermit terms clock timeline now shard server mode)
      → IsUnder permit.lease.joined (lease_of server timeline)
  under_now clock server mode timely permit =
      lasting terms clock timeline now server permit.sent permit.lease safe timely
      (rising_of_right charter (stored timeline) right) waited permit.latest permit.has permit.lasts

  -- the server has let go of no record since the one that it read
  unacked : (clock : ℕ → ℕ) (server : ℕ) (mode : Mode) → IsTimely terms clock
      → (permit : HasPermit terms clock timeline now shard server mode)
      → acked_of shard server (stored timeline) < (stored_record shard (stored permit.older)).generation
  unacked clock server mode timely permit =
      let span = terms.length in
      let joined = permit.lease.joined in
      let older = permit.older in
      let from = (stored_record shard (stored older)).generation in
      let executes = accepted (stored_record shard (stored older)).stand server mode permit.accepts_it in
      let all = subst (λ (l : List (TimedStep Q P)). AreRight charter (stored l)) permit.read right in
      let kept = subst (KeepsWaits span) permit.read waited in
      let begins = executes_unacked charter shard server (stored older)
      (right_past charter permit.newer older all) executes in
      let under = subst (λ (l : List (TimedStep Q P)). IsUnder joined (lease_of server l)) permit.read
      (under_now clock server mode timely permit) in
      let holds = subst (λ (l : List (TimedStep Q P)). let_go_of shard server joined l < from) permit.read
      permit.holds in
      subst (λ (l : List (TimedStep Q P)). acked_of shard server (stored l) < from) (sym permit.read)
      (own_only span shard server joined from permit.newer older
      (rising_of_right charter (stored (permit.newer ++ older)) all) kept permit.under under holds begins)

  -- the process that read an older record is the process that read this one
  read_before : (clock counter : ℕ → ℕ) (one other : ℕ) (first second : Mode) → IsTimely terms clock
      → (permit : HasPermit terms clock timeline now shard one first)
      → (another : HasPermit terms counter timeline now shard other second)
      → (more : List (TimedStep Q P)) → another.older ≡ more ++ permit.older → one ≡ other
  read_before clock counter one other first second timely permit another more later =
      let span = terms.length in
      let joined = permit.lease.joined in
      let older = permit.older in
      let last = another.older in
      let from = (stored_record shard (stored older)).generation in
      let under = under_now clock one first timely permit in
      let acked = unacked clock one first timely permit in
      let within = permit.under in
      let all = subst (λ (l : List (TimedStep Q P)). AreRight charter (stored l)) another.read right in
      let past = subst (λ (l : List (TimedStep Q P)). AreRight charter (stored l)) later
      (right_past charter another.newer last all) in
      let grown = stored_grows more older (rising_of_right charter (stored (more ++ older)) past) in
      let kept = subst (KeepsWaits span) another.read waited in
      let under_last : IsUnder joined (lease_of one last) =
      under_since one joined another.newer last (rising_of_right charter (stored (another.newer ++ last)) all)
      (subst (λ (l : List (TimedStep Q P)). joined ≤ last_revision (stored l)) (sym later) (omega arith))
      (subst (λ (l : List (TimedStep Q P)). IsUnder joined (lease_of one l)) another.read under) in
      let acked_last : acked_of shard one (stored last) < from =
      let more_acks = acks_grow shard one another.newer last in
      let now_acked = subst (λ (l : List (TimedStep Q P)). acked_of shard one (stored l) < from) another.read acked in
      omega arith in
      let executes = accepted (stored_record shard (stored older)).stand one first permit.accepts_it in
      let still = subst (StillNamed charter waits span shard one joined from) (sym later)
      (stays charter waits span shard one joined from more older past
      (subst (KeepsWaits span) later (waited_before span one another.newer last kept))
      within
      (subst (λ (l : List (TimedStep Q P)). IsUnder joined (lease_of one l)) later under_last)
      (subst (λ (l : List (TimedStep Q P)). acked_of shard one (stored l) < from) later acked_last)
      (record {
        stands = permit.stands;
        named = named (stored_record shard (stored older)).stand one executes;
        since = omega arith;
      })) in
      let since = still.since in
      let holds = permit.holds in
      only_one shard timeline last (stored_record shard (stored last)).stand one other still.named
      (accepted (stored_record shard (stored last)).stand other second another.accepts_it) another.body
      (not_freed shard joined from timeline last one under_last acked still.stands since holds)

-- at each moment at most one process may execute for a shard
pub one_permit : {Q P : Type 0} (charter : Charter Q P) (terms : Terms) (timeline : List (TimedStep Q P))
    → IsTrue charter.waits → AreSafe terms → AreRight charter (stored timeline) → KeepsWaits terms.length timeline
    → OnePermit terms timeline
one_permit {Q = Q} {P = P} charter terms timeline waits safe right waited now shard one other first second clock counter
    timely timely_too permit another =
    let same : one ≡ other =
    ⊎_elim
    (λ (later : (more : List (TimedStep Q P)) × (another.older ≡ more ++ permit.older)).
    read_before charter waits terms safe timeline right waited now shard clock counter one other first second timely
    permit another later.0 later.1)
    (λ (before : (more : List (TimedStep Q P)) × (permit.older ≡ more ++ another.older)).
    sym (read_before charter waits terms safe timeline right waited now shard counter clock other one second first
    timely_too another permit before.0 before.1))
    (pasts permit.newer permit.older another.newer another.older (sym permit.read ∙ another.read)) in
    let under = under_now charter waits terms safe timeline right waited now shard clock one first timely permit in
    let also =
    under_now charter waits terms safe timeline right waited now shard counter other second timely_too another in (
      same,
      same_process permit.lease.joined another.lease.joined (lease_of other timeline)
          (subst (λ (n : ℕ). IsUnder permit.lease.joined (lease_of n timeline)) same under) also,
    )
