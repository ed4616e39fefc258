-- A decision by true knowledge is a permit, or an ack that is allowed; and a process's knowledge stays true.
use Rattle.std.proofs.Common.{◌≡◌, ◌≢◌, ℕ, ◌<◌, ◌≤◌, Bool, true, false, List, [], ◌∷◌, ◌++◌, refl, sym, ap}
use Rattle.std.proofs.Common.{subst, ◌∙◌, arith, ⊎_elim, inl, inr, append-nil}
use Rattle.std.specs.Prelude.{◌==◌, ◌&&◌, ◌||◌, ◌⊎◌, IfSome, IsTrue, Option, Some, None, max, nat_le, nat_lt, not}
use Rattle.std.proofs.lemmas.Bool.{and_parts, cond_both, eqb-true, eq-eqb, false≢true, leb-true, ltb-true, not-true}
use Rattle.std.proofs.lemmas.Bool.{or_cases, true≢false}
use Rattle.std.proofs.lemmas.Option.{none-some, same_Some}
use Rattle.sm_ranges.specs.Stand.{owner_of}
use Rattle.sm_ranges.specs.declared.stand.Stand.{Stand}
use Rattle.sm_ranges.specs.declared.stand.Stand.TheVariants.{Vacant, Serving, Prepared, Forwarding, Taken, Paused}
use Rattle.sm_ownership.specs.declared.mode.Mode.{Mode}
use Rattle.sm_ownership.specs.declared.record.Record.{Record}
use Rattle.sm_ownership.specs.Rules.{accepts, executor, is_server}
use Rattle.sm_place.specs.ServerState.{is_failed}
use Rattle.sm_place.specs.declared.server_state.ServerState.{ServerState}
use Rattle.sm_place.specs.declared.server_state.ServerState.TheVariants.{Up, Asked, Approved, Stopped, Failed}
use Rattle.sm_store.specs.Store.{Ack, acked_among, acked_of, stored_record, stored_state}
use Rattle.sm_store.specs.Deeds.{AreRight, Charter}
use Rattle.sm_permit.specs.declared.hand_over.HandOver.{HandOver}
use Rattle.sm_permit.specs.declared.shard_reading.ShardReading.{ShardReading}
use Rattle.sm_permit.specs.declared.shard_view.ShardView.{ShardView}
use Rattle.sm_permit.specs.Timelines.{Lease, TimelineStep, TimedStep, Makes, Joins, Keeps, Leaves, Tells, Hands}
use Rattle.sm_permit.specs.Timelines.{IsUnder}
use Rattle.sm_permit.specs.Timelines.{gives_back_lease, latest_moment, lease_of, stored}
use Rattle.sm_store.specs.Waits.{MayLetGo}
use Rattle.sm_permit.specs.Waits.{KeepsWaits, is_process, let_go_of, let_go_with}
use Rattle.sm_permit.specs.Permits.{AreSafe, ByAck, ByBytes, ByFailure, HasLease, HasPermit, IsFreed, MayHaveBody}
use Rattle.sm_permit.specs.Permits.{Terms}
use Rattle.sm_permit.specs.Views.{AreOne, IsLettingGo, IsOfOthers, IsOwnerRead, IsReadingOf, StaysKnown, Knows}
use Rattle.sm_permit.specs.Views.{WasGranted}
use Rattle.sm_permit.specs.Views.{ack_frees, hand_over_frees, has_body, is_forwarder, joined_at, may_ack, may_execute}
use Rattle.sm_permit.specs.Views.{new_view, view_acked, view_handed, view_kept, view_let_go, view_read}
use Rattle.sm_permit.proofs.Acks.{acks_grow, among_within, let_go_rises}
use Rattle.sm_permit.proofs.Permits.{one_permit}
use Rattle.sm_permit.proofs.Records.{goes_on}

failed_is : (state : ServerState) → is_failed state ≡ true → state ≡ Failed
failed_is Failed is = refl
failed_is Up is = absurd (false≢true is)
failed_is Asked is = absurd (false≢true is)
failed_is Approved is = absurd (false≢true is)
failed_is Stopped is = absurd (false≢true is)

failed_not : (state : ServerState) (failed : Bool) → failed ≡ is_failed state → failed ≡ false → state ≢ Failed
failed_not state failed is unfailed so = true≢false (sym (is ∙ ap is_failed so) ∙ unfailed)

body_there : {Q P : Type 0} (shard : ℕ) (timeline older : List (TimedStep Q P)) (stand : Stand) (freed : Bool)
    → has_body stand freed ≡ true → (freed ≡ true → MayHaveBody shard timeline older stand)
    → MayHaveBody shard timeline older stand
body_there shard timeline older (Forwarding owner next) freed is gives = gives is
body_there shard timeline older Vacant freed is gives = tt
body_there shard timeline older (Serving owner) freed is gives = tt
body_there shard timeline older (Prepared owner next) freed is gives = tt
body_there shard timeline older (Taken owner previous) freed is gives = tt
body_there shard timeline older (Paused owner) freed is gives = tt

module _ {Q P : Type 0} (terms : Terms) (clock : ℕ → ℕ) (timeline : List (TimedStep Q P)) (now shard : ℕ)
    (view : ShardView) where
  pub permits : (mode : Mode) → Knows terms clock timeline now shard view
      → may_execute view mode (clock now) ≡ true → HasPermit terms clock timeline now shard view.server mode
  permits mode knows is =
      let reading = view.reading in
      let lasts = and_parts (nat_lt (clock now) view.until) _ is in
      let under = and_parts (nat_le view.joined reading.revision) _ lasts.1 in
      let stands = and_parts (not reading.failed) _ under.1 in
      let holds = and_parts (nat_lt view.let_go reading.state.generation) _ stands.1 in
      let rest = and_parts (has_body reading.state.stand view.freed) (accepts reading.state view.server mode) holds.1 in
      let until = knows.until_is in
      let joined = knows.joined_is in
      let time_below = ltb-true (clock now) view.until lasts.0 in
      let joined_below = leb-true view.joined reading.revision under.0 in
      let let_go_below = ltb-true view.let_go reading.state.generation holds.0 in
      let reached = knows.reads.reached in
      let same = knows.reads.state_is in
      let let_go : let_go_of shard view.server knows.lease.joined timeline ≤ view.let_go =
      subst (λ (n : ℕ). let_go_of shard view.server n timeline ≤ view.let_go) joined knows.let_go_is in
      record {
        latest = knows.latest;
        sent = knows.sent;
        lease = knows.lease;
        has = knows.has;
        lasts = omega arith;
        newer = knows.newer;
        older = knows.older;
        read = knows.was_read;
        under = omega arith;
        stands = failed_not (stored_state view.server (stored knows.older)) reading.failed knows.reads.failed_is
            (not-true reading.failed stands.0);
        accepts_it = subst (λ (r : Record). accepts r view.server mode ≡ true) same rest.1;
        body = body_there shard timeline knows.older (stored_record shard (stored knows.older)).stand view.freed
            (subst (λ (r : Record). has_body r.stand view.freed ≡ true) same rest.0)
            (λ freed. subst (λ (r : Record). MayHaveBody shard timeline knows.older r.stand) same (knows.freed freed));
        holds = subst (λ (r : Record). let_go_of shard view.server knows.lease.joined timeline < r.generation) same
            (omega arith);
      }

pub are_one : {Q P : Type 0} (charter : Charter Q P) (terms : Terms) (timeline : List (TimedStep Q P))
    → IsTrue charter.waits → AreSafe terms → AreRight charter (stored timeline) → KeepsWaits terms.length timeline
    → AreOne terms timeline
unfolding permits
are_one charter terms timeline waits safe right waited now shard first second clock counter view another timely
    timely_too knows knows_too is is_too =
    let permit = permits terms clock timeline now shard view first knows is in
    let also = permits terms counter timeline now shard another second knows_too is_too in
    let both = one_permit charter terms timeline waits safe right waited now shard view.server another.server first
    second clock counter timely timely_too permit also in
    (both.0, knows.joined_is ∙ both.1 ∙ sym knows_too.joined_is)

named_server : (found : Option ℕ) (server : ℕ) → found ≡ Some server → is_server found server ≡ true
named_server None server is = absurd (none-some server is)
named_server (Some at) server is = eq-eqb at server (same_Some at server is)

pub acks : {Q P : Type 0} (charter : Charter Q P) (terms : Terms) (clock : ℕ → ℕ) (timeline : List (TimedStep Q P))
    (now shard : ℕ) (view : ShardView) → AreRight charter (stored timeline)
    → Knows terms clock timeline now shard view → may_ack view ≡ true
    → MayLetGo view.server view.reading.state.generation (stored_record shard (stored timeline))
acks {Q = Q} {P = P} charter terms clock timeline now shard view right knows is =
    let held = view.reading.state in
    let was = stored_record shard (stored knows.older) in
    let same : held ≡ was = knows.reads.state_is in
    let on = goes_on charter shard knows.newer knows.older
    (subst (λ (l : List (TimedStep Q P)). AreRight charter (stored l)) knows.was_read right) in
    let other : executor held ≢ Some view.server =
    λ named. true≢false (sym (named_server (executor held) view.server named)
    ∙ not-true (is_server (executor held) view.server) is) in
    subst (λ (l : List (TimedStep Q P)). MayLetGo view.server held.generation (stored_record shard (stored l)))
    (sym knows.was_read)
    (⊎_elim
    (λ (still : stored_record shard (stored (knows.newer ++ knows.older)) ≡ was).
    subst (λ (r : Record). (held.generation < r.generation)
    ⊎ ((held.generation ≡ r.generation) × (executor r ≢ Some view.server))) (same ∙ sym still) (inr (refl, other)))
    (λ (later : was.generation < (stored_record shard (stored (knows.newer ++ knows.older))).generation).
    inl (subst (λ (r : Record). r.generation < (stored_record shard (stored (knows.newer ++ knows.older))).generation)
    (sym same) later))
    on)

-- a step by which another process lets go, or none, doesn't change how far this one has let go
not_own : {Q P : Type 0} (shard server joined before : ℕ) (step : TimelineStep Q P)
    → ((read : ℕ) (acks : List Ack) (told : ℕ) → step ≡ Tells server joined read acks told
    → acked_among shard acks 0 ≡ 0)
    → ((generation : ℕ) → step ≢ Hands shard server joined generation)
    → let_go_with shard server joined before step ≤ before
not_own {Q = Q} {P = P} shard server joined before (Tells by its read acks told) tells hands =
    cond_both (is_process server joined by its) (acked_among shard acks before) before (λ k. k ≤ before)
    (λ same.
    let parts = and_parts (by == server) (its == joined) same in
    let none = tells read acks told
    (ap (λ (n : ℕ). Tells n its read acks told) (eqb-true by server parts.0)
    ∙ ap (λ (n : ℕ). Tells server n read acks told) (eqb-true its joined parts.1)) in
    among_within shard acks before before (omega arith) (omega arith))
    (λ apart. omega arith)
not_own {Q = Q} {P = P} shard server joined before (Hands at by its generation) tells hands =
    cond_both (at == shard && is_process server joined by its) (max generation before) before (λ k. k ≤ before)
    (λ same.
    let parts = and_parts (at == shard) (is_process server joined by its) same in
    let own = and_parts (by == server) (its == joined) parts.1 in
    absurd (hands generation
    (ap (λ (n : ℕ). Hands n by its generation) (eqb-true at shard parts.0)
    ∙ ap (λ (n : ℕ). Hands shard n its generation) (eqb-true by server own.0)
    ∙ ap (λ (n : ℕ). Hands shard server n generation) (eqb-true its joined own.1))))
    (λ apart. omega arith)
not_own shard server joined before (Makes txn) tells hands = omega arith
not_own shard server joined before (Joins at read sent granted) tells hands = omega arith
not_own shard server joined before (Keeps at sent) tells hands = omega arith
not_own shard server joined before (Leaves at others) tells hands = omega arith

-- if a process lets go of its record in a step, it lets go of no later one
lets_within : {Q P : Type 0} (shard before top : ℕ) (view : ShardView) (step : TimelineStep Q P) → before ≤ top
    → view.reading.state.generation ≤ top → IsLettingGo shard view step
    → let_go_with shard view.server view.joined before step ≤ top
lets_within {Q = Q} {P = P} shard before top view step within most (inl (read, acks, told, is, least)) =
    subst (λ (s : TimelineStep Q P). let_go_with shard view.server view.joined before s ≤ top) (sym is)
    (cond_both (is_process view.server view.joined view.server view.joined) (acked_among shard acks before) before
    (λ k. k ≤ top) (λ same. among_within shard acks before top within (omega arith)) (λ apart. within))
lets_within {Q = Q} {P = P} shard before top view step within most (inr is) =
    let generation = view.reading.state.generation in
    subst (λ (s : TimelineStep Q P). let_go_with shard view.server view.joined before s ≤ top) (sym is)
    (cond_both (shard == shard && is_process view.server view.joined view.server view.joined) (max generation before)
    before (λ k. k ≤ top) (λ same. omega arith) (λ apart. within))

lets_stay : {Q P : Type 0} (shard : ℕ) (view : ShardView) (step : TimelineStep Q P) → IsLettingGo shard view step
    → gives_back_lease view.server step ≡ false
lets_stay shard view step (inl (read, acks, told, is, least)) = ap (gives_back_lease view.server) is
lets_stay shard view step (inr is) = ap (gives_back_lease view.server) is

-- a process that hands over, or acks, frees the shard if it is the process of the record's owner
freed_by_ack : {Q P : Type 0} (shard : ℕ) (timeline older : List (TimedStep Q P)) (stand : Stand)
    (server generation : ℕ) → is_forwarder stand server ≡ true
    → (stored_record shard (stored older)).generation ≤ generation
    → generation ≤ acked_of shard server (stored timeline)
    → MayHaveBody shard timeline older stand
freed_by_ack {Q = Q} {P = P} shard timeline older (Forwarding owner next) server generation forwards within acked =
    let same = eqb-true owner server forwards in
    subst (λ (n : ℕ). IsFreed shard timeline older n) (sym same) (ByAck (omega arith))
freed_by_ack shard timeline older Vacant server generation forwards within acked = tt
freed_by_ack shard timeline older (Serving owner) server generation forwards within acked = tt
freed_by_ack shard timeline older (Prepared owner next) server generation forwards within acked = tt
freed_by_ack shard timeline older (Taken owner previous) server generation forwards within acked = tt
freed_by_ack shard timeline older (Paused owner) server generation forwards within acked = tt

under_joined : (key : Option Lease) (joined : ℕ) → joined ≡ joined_at key → 0 < joined → IsUnder joined key
under_joined None joined is some = absurd (omega arith)
under_joined (Some lease) joined is some = (lease, refl, sym is)

freed_by_hand : {Q P : Type 0} (shard : ℕ) (timeline older : List (TimedStep Q P)) (reading : ShardReading)
    (stand : Stand) (hand : HandOver) → is_forwarder stand hand.server ≡ true
    → (stored_record shard (stored older)).generation ≤ hand.generation → 0 < hand.joined
    → hand.joined ≡ reading.owner_joined → IfSome (owner_of stand) (IsOwnerRead older reading)
    → hand.generation ≤ let_go_of shard hand.server hand.joined timeline → MayHaveBody shard timeline older stand
freed_by_hand {Q = Q} {P = P} shard timeline older reading (Forwarding owner next) hand forwards within some joined read
    gone =
    let same = eqb-true owner hand.server forwards in
    let under = under_joined (lease_of owner older) hand.joined (joined ∙ read.joined_is) some in
    let let_go = subst (λ (n : ℕ). hand.generation ≤ let_go_of shard n hand.joined timeline) (sym same) gone in
    ByBytes hand.joined under (omega arith)
freed_by_hand shard timeline older reading Vacant hand forwards within some joined read gone = tt
freed_by_hand shard timeline older reading (Serving owner) hand forwards within some joined read gone = tt
freed_by_hand shard timeline older reading (Prepared owner next) hand forwards within some joined read gone = tt
freed_by_hand shard timeline older reading (Taken owner previous) hand forwards within some joined read gone = tt
freed_by_hand shard timeline older reading (Paused owner) hand forwards within some joined read gone = tt

freed_by_failure : {Q P : Type 0} (shard : ℕ) (timeline older : List (TimedStep Q P)) (reading : ShardReading)
    (stand : Stand) → IfSome (owner_of stand) (IsOwnerRead older reading) → reading.owner_failed ≡ true
    → MayHaveBody shard timeline older stand
freed_by_failure shard timeline older reading (Forwarding owner next) read is =
    ByFailure (failed_is (stored_state owner (stored older)) (sym read.failed_is ∙ is))
freed_by_failure shard timeline older reading Vacant read is = tt
freed_by_failure shard timeline older reading (Serving owner) read is = tt
freed_by_failure shard timeline older reading (Prepared owner next) read is = tt
freed_by_failure shard timeline older reading (Taken owner previous) read is = tt
freed_by_failure shard timeline older reading (Paused owner) read is = tt

module _ {Q P : Type 0} (shard : ℕ) (one : TimedStep Q P) (timeline : List (TimedStep Q P)) where
  lease_grows : (server sent : ℕ) (lease : Lease) → gives_back_lease server one.step ≡ false
      → HasLease timeline server sent lease → HasLease (one ∷ timeline) server sent lease
  lease_grows server sent lease stays has =
      record {
        since = one ∷ has.since;
        grant = has.grant;
        before = has.before;
        is = ap (λ (l : List (TimedStep Q P)). one ∷ l) has.is;
        granted = has.granted;
        lies = has.lies;
        stays = (stays, has.stays);
      }

  freed_grows : (older : List (TimedStep Q P)) (owner : ℕ) → IsFreed shard timeline older owner
      → IsFreed shard (one ∷ timeline) older owner
  freed_grows older owner (ByAck acked) =
      let more = acks_grow shard owner (one ∷ []) timeline in ByAck (omega arith)
  freed_grows older owner (ByBytes joined under gone) =
      let more = let_go_rises shard owner joined (let_go_of shard owner joined timeline) one.step in
      ByBytes joined under (omega arith)
  freed_grows older owner (ByFailure failed) = ByFailure failed

  body_grows : (older : List (TimedStep Q P)) (stand : Stand) → MayHaveBody shard timeline older stand
      → MayHaveBody shard (one ∷ timeline) older stand
  body_grows older (Forwarding owner next) body = freed_grows older owner body
  body_grows older Vacant body = tt
  body_grows older (Serving owner) body = tt
  body_grows older (Prepared owner next) body = tt
  body_grows older (Taken owner previous) body = tt
  body_grows older (Paused owner) body = tt

module _ {Q P : Type 0} (terms : Terms) (clock : ℕ → ℕ) (timeline : List (TimedStep Q P)) (now shard : ℕ)
    (view : ShardView) (knows : Knows terms clock timeline now shard view) where
  -- the knowledge of a process after one more step by which it lets go of no more than it says, and doesn't leave
  step_known : (one : TimedStep Q P) (later let_go : ℕ) → one.moment ≤ later
      → gives_back_lease view.server one.step ≡ false
      → let_go_with shard view.server view.joined (let_go_of shard view.server view.joined timeline) one.step ≤ let_go
      → Knows terms clock (one ∷ timeline) later shard (record view { let_go = let_go })
  step_known one later let_go le stays gone =
      record {
        latest = le;
        sent = knows.sent;
        lease = knows.lease;
        has = lease_grows shard one timeline view.server knows.sent knows.lease stays knows.has;
        joined_is = knows.joined_is;
        until_is = knows.until_is;
        newer = one ∷ knows.newer;
        older = knows.older;
        was_read = ap (λ (l : List (TimedStep Q P)). one ∷ l) knows.was_read;
        reads = knows.reads;
        freed = λ is. body_grows shard one timeline knows.older view.reading.state.stand (knows.freed is);
        let_go_is = gone;
      }

  -- the knowledge of a process once it is freed
  now_freed : (freed : Bool)
      → (freed ≡ true → MayHaveBody shard timeline knows.older view.reading.state.stand)
      → Knows terms clock timeline now shard (record view { freed = freed })
  now_freed freed gives =
      record {
        latest = knows.latest;
        sent = knows.sent;
        lease = knows.lease;
        has = knows.has;
        joined_is = knows.joined_is;
        until_is = knows.until_is;
        newer = knows.newer;
        older = knows.older;
        was_read = knows.was_read;
        reads = knows.reads;
        freed = gives;
        let_go_is = knows.let_go_is;
      }

  read_older : (generation : ℕ) → view.reading.state.generation ≤ generation
      → (stored_record shard (stored knows.older)).generation ≤ generation
  read_older generation within =
      subst (λ (r : Record). r.generation ≤ generation) knows.reads.state_is within

  kept : (until : ℕ) → WasGranted terms clock timeline view.server view.joined until
      → Knows terms clock timeline now shard (view_kept view until)
  kept until granted =
      record {
        latest = knows.latest;
        sent = granted.sent;
        lease = granted.lease;
        has = granted.has;
        joined_is = granted.joined_is;
        until_is = granted.until_is;
        newer = knows.newer;
        older = knows.older;
        was_read = knows.was_read;
        reads = knows.reads;
        freed = knows.freed;
        let_go_is = knows.let_go_is;
      }

  read : (newer older : List (TimedStep Q P)) (reading : ShardReading) → timeline ≡ newer ++ older
      → IsReadingOf older shard view.server reading → Knows terms clock timeline now shard (view_read view reading)
  read newer older reading is reads =
      record {
        latest = knows.latest;
        sent = knows.sent;
        lease = knows.lease;
        has = knows.has;
        joined_is = knows.joined_is;
        until_is = knows.until_is;
        newer = newer;
        older = older;
        was_read = is;
        reads = reads;
        freed = freed_by_failure shard timeline older reading reading.state.stand reads.owner_is;
        let_go_is = knows.let_go_is;
      }

  acked : (server generation : ℕ) → generation ≤ acked_of shard server (stored timeline)
      → Knows terms clock timeline now shard (view_acked view server generation)
  acked server generation has =
      now_freed (view.freed || ack_frees view.reading server generation)
      (λ either. ⊎_elim (λ (before : view.freed ≡ true). knows.freed before)
      (λ (by_it : ack_frees view.reading server generation ≡ true).
      let parts = and_parts (is_forwarder view.reading.state.stand server)
      (nat_le view.reading.state.generation generation) by_it in
      freed_by_ack shard timeline knows.older view.reading.state.stand server generation parts.0
      (read_older generation (leb-true view.reading.state.generation generation parts.1)) has)
      (or_cases view.freed (ack_frees view.reading server generation) either))

  handed : (hand : HandOver) → hand.generation ≤ let_go_of shard hand.server hand.joined timeline
      → Knows terms clock timeline now shard (view_handed view hand)
  handed hand gone =
      now_freed (view.freed || hand_over_frees view.reading hand)
      (λ either. ⊎_elim (λ (before : view.freed ≡ true). knows.freed before)
      (λ (by_it : hand_over_frees view.reading hand ≡ true).
      let both = and_parts (ack_frees view.reading hand.server hand.generation)
      (nat_lt 0 hand.joined && hand.joined == view.reading.owner_joined) by_it in
      let parts = and_parts (is_forwarder view.reading.state.stand hand.server)
      (nat_le view.reading.state.generation hand.generation) both.0 in
      let named = and_parts (nat_lt 0 hand.joined) (hand.joined == view.reading.owner_joined) both.1 in
      freed_by_hand shard timeline knows.older view.reading view.reading.state.stand hand parts.0
      (read_older hand.generation (leb-true view.reading.state.generation hand.generation parts.1))
      (ltb-true 0 hand.joined named.0) (eqb-true hand.joined view.reading.owner_joined named.1)
      knows.reads.owner_is gone)
      (or_cases view.freed (hand_over_frees view.reading hand) either))

  let_go : (one : TimedStep Q P) (later : ℕ) → IsLettingGo shard view one.step → one.moment ≤ later
      → Knows terms clock (one ∷ timeline) later shard (view_let_go view)
  let_go one later lets le =
      let before = let_go_of shard view.server view.joined timeline in
      let top = max view.let_go view.reading.state.generation in
      let was = knows.let_go_is in
      step_known one later top le (lets_stay shard view one.step lets)
      (lets_within shard before top view one.step (omega arith) (omega arith) lets)

  others : (one : TimedStep Q P) (later : ℕ) → IsOfOthers shard view one.step → one.moment ≤ later
      → Knows terms clock (one ∷ timeline) later shard view
  others one later of le =
      let before = let_go_of shard view.server view.joined timeline in
      let same = not_own shard view.server view.joined before one.step of.acks of.hands in
      let was = knows.let_go_is in
      step_known one later view.let_go le of.stays (omega arith)

  pub told : StaysKnown terms clock timeline now shard view
  told =
      record {
        kept = kept;
        read = read;
        acked = acked;
        handed = handed;
        let_go = let_go;
        others = others;
      }

pub new : {Q P : Type 0} (terms : Terms) (clock : ℕ → ℕ) (timeline : List (TimedStep Q P))
    (now shard server joined until : ℕ) → latest_moment timeline ≤ now
    → WasGranted terms clock timeline server joined until → let_go_of shard server joined timeline ≡ 0
    → Knows terms clock timeline now shard (new_view server joined until)
new terms clock timeline now shard server joined until latest granted none =
    record {
      latest = latest;
      sent = granted.sent;
      lease = granted.lease;
      has = granted.has;
      joined_is = granted.joined_is;
      until_is = granted.until_is;
      newer = timeline;
      older = [];
      was_read = sym (append-nil timeline);
      reads = record { reached = omega arith; state_is = refl; failed_is = refl; owner_is = tt };
      freed = λ is. absurd (false≢true is);
      let_go_is = omega arith;
    }
