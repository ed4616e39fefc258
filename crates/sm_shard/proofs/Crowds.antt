-- Which clients are kept, and that a request is refused for its client only if there are too many.
use Rattle.std.proofs.Common.{◌≡◌, ℕ, ◌+◌, ◌<◌, ◌≤◌, true, false, [], ◌∷◌, length, refl, sym, ap, subst, arith}
use Rattle.std.specs.Prelude.{Bool, Option, Some, None, ◌==◌, filter, if◌then◌else◌, is_none, nat_le, nat_lt, not, ◌&&◌}
use Rattle.std.specs.BTreeMap.{get}
use Rattle.std.specs.List.{slice_get}
use Rattle.std.specs.Option.{option_map, option_or}
use Rattle.std.specs.Ordering.{is_le, nat_cmp}
use Rattle.std.proofs.lemmas.Bool.Decides.{nat_tests}
use Rattle.std.proofs.lemmas.List.Filters.{length-filter_both}
use Rattle.std.proofs.lemmas.Option.{slice_get_cases, slice_get_within}
use Rattle.sm_envelope.specs.declared.envelope.TheConstants.{MOST_HOPS}
use Rattle.sm_ownership.specs.Rules.{accepts, forward_to}
use Rattle.sm_store.specs.declared.item.Item.{Item}
use Rattle.sm_store.specs.Clients.{floor_of}
use Rattle.sm_shard.specs.Bases.{Lasts, kept_from}
use Rattle.sm_shard.specs.Decisions.{by_last, by_waiting, client_number, decided_by_floor, decided_by_forward}
use Rattle.sm_shard.specs.Decisions.{decided_by_last, decided_by_number, decided_by_room, decided_or, decision_of}
use Rattle.sm_shard.specs.Decisions.{is_crowded}
use Rattle.sm_shard.specs.declared.replica.LastRequest.{LastRequest}
use Rattle.sm_shard.specs.declared.shard_limits.ShardLimits.{ShardLimits}
use Rattle.sm_shard.specs.declared.shard_state.Decision.{Decision}
use Rattle.sm_shard.specs.declared.shard_state.Decision.TheVariants.{Busy, Forgotten, Forwards, Passed, Refused}
use Rattle.sm_shard.specs.declared.shard_state.Decision.TheVariants.{Replied, TooFar, TooLarge, TooManyClients, Waits}
use Rattle.sm_shard.specs.declared.shard_state.ShardState.{ShardState}

pub twice : (b : Bool) → b ≡ not (not b)
twice true = refl
twice false = refl

module _ {R : Type 0} where
  all_kept : (lasts : Lasts R) → filter (λ last. is_le (nat_cmp 0 last.0)) lasts ≡ lasts
  all_kept [] = refl
  all_kept (last ∷ lasts) =
      let first : is_le (nat_cmp 0 last.0) ≡ true = grind (arith, nat_tests) in
      rw first (ap (λ (rest : Lasts R). last ∷ rest) (all_kept lasts))

  kept_by : (b : Bool) (floor : ℕ) (lasts : Lasts R) → (floor == 0) ≡ b
      → kept_from floor lasts ≡ filter (λ last. is_le (nat_cmp floor last.0)) lasts
  kept_by true floor lasts is =
      let none : floor ≡ 0 = grind (arith, nat_tests) in
      rw is (rw none (sym (all_kept lasts)))
  kept_by false floor lasts is = rw is refl

  -- those below a number, and those that are kept from it on, are all
  kept_and_below : (floor : ℕ) (lasts : Lasts R) (below : ℕ × LastRequest R → Bool)
      → ((last : ℕ × LastRequest R) → is_le (nat_cmp floor last.0) ≡ not (below last))
      → length (filter below lasts) + length (kept_from floor lasts) ≡ length lasts
  kept_and_below floor lasts below apart =
      rw (kept_by (floor == 0) floor lasts refl)
      (length-filter_both below (λ (e : ℕ × LastRequest R). is_le (nat_cmp floor e.0)) apart lasts)

  pub kept_within : (floor : ℕ) (lasts : Lasts R) → length (kept_from floor lasts) ≤ length lasts
  kept_within floor lasts =
      let all = kept_and_below floor lasts (λ last. not (is_le (nat_cmp floor last.0)))
      (λ last. twice (is_le (nat_cmp floor last.0))) in
      omega (arith, all)

  -- if so many are below a number that this place among them is taken, fewer than that are kept from it on
  pub kept_by_place : {X : Type 0} (shows : X → ℕ × LastRequest R) (r : Option X) (found lasts : Lasts R)
      (floor most count : ℕ) (below : ℕ × LastRequest R → Bool)
      → ((last : ℕ × LastRequest R) → is_le (nat_cmp floor last.0) ≡ not (below last))
      → found ≡ filter below lasts → option_map shows r ≡ slice_get found most → most + count ≡ length lasts
      → is_none r ≡ nat_le count (length (kept_from floor lasts))
  kept_by_place shows None found lasts floor most count below apart is at sum =
      let all : length found + length (kept_from floor lasts) ≡ length lasts =
      rw is (kept_and_below floor lasts below apart) in
      let none : length found ≤ most = grind (arith, at, slice_get_cases found most) in
      let enough : count ≤ length (kept_from floor lasts) = omega arith in
      grind (arith, nat_tests, enough)
  kept_by_place shows (Some x) found lasts floor most count below apart is at sum =
      let all : length found + length (kept_from floor lasts) ≡ length lasts =
      rw is (kept_and_below floor lasts below apart) in
      let some : most < length found = slice_get_within found most (shows x) (sym at) in
      let few : length (kept_from floor lasts) < count = omega arith in
      grind (arith, nat_tests, few)

module _ (R : Type 0) (P : Type 0) where
  -- this holds if the decision is that too many clients are kept
  abbrev IfCrowded : Decision R → Type 0
  IfCrowded TooManyClients = P
  IfCrowded _ = Unit {0}

  abbrev IfSomeCrowded : Option (Decision R) → Type 0
  IfSomeCrowded None = Unit {0}
  IfSomeCrowded (Some decision) = IfCrowded decision

  if_or : (o : Option (Decision R)) (d : Decision R) → IfSomeCrowded o → IfCrowded d → IfCrowded (decided_or o d)
  if_or None d some other = other
  if_or (Some decision) d some other = some

  some_or : (o p : Option (Decision R)) → IfSomeCrowded o → IfSomeCrowded p → IfSomeCrowded (option_or o p)
  some_or None p some other = other
  some_or (Some decision) p some other = some

  if_accepts : (b : Bool) (c d : Decision R) → IfCrowded c → IfCrowded d → IfCrowded (if b then c else d)
  if_accepts true c d first second = first
  if_accepts false c d first second = second

  below_so : (b : Bool) → IfSomeCrowded (if b then Some Refused else None)
  below_so true = tt
  below_so false = tt

  had_so : (last : LastRequest R) (same before : Bool)
      → IfSomeCrowded (if same then Some (Replied last.reply) else if before then Some Passed else None)
  had_so last true before = tt
  had_so last false true = tt
  had_so last false false = tt

  by_last_so : (number : ℕ) (last : Option (LastRequest R)) → IfSomeCrowded (decided_by_last number last)
  by_last_so number None = below_so (number == 0)
  by_last_so number (Some last) = had_so last (number == last.number) (nat_lt number last.number)

  by_made_so : (b : Bool) (o : Option (Decision R)) → IfSomeCrowded o → IfSomeCrowded (if b then Some Forgotten else o)
  by_made_so true o other = tt
  by_made_so false o other = other

  same_so : (b : Bool) → IfSomeCrowded (if b then Some Waits else Some Refused)
  same_so true = tt
  same_so false = tt

  by_number_so : (number : ℕ) (other : Option ℕ) → IfSomeCrowded (decided_by_number number other)
  by_number_so number None = tt
  by_number_so number (Some other) = same_so (other == number)

  far_so : (b : Bool) (to hops : ℕ) → IfCrowded (if b then Forwards to (hops + 1) else TooFar)
  far_so true to hops = tt
  far_so false to hops = tt

  by_forward_so : (hops : ℕ) (to : Option ℕ) → IfCrowded (decided_by_forward hops to)
  by_forward_so hops None = tt
  by_forward_so hops (Some to) = far_so (nat_lt hops MOST_HOPS) to hops

  room_so : (large busy crowded : Bool) → (crowded ≡ true → P)
      → IfCrowded (if large then TooLarge else if busy then Busy else if crowded then TooManyClients else Waits)
  room_so true busy crowded so = tt
  room_so false true crowded so = tt
  room_so false false true so = so refl
  room_so false false false so = tt

  only_so : (decision : Decision R) → IfCrowded decision → decision ≡ TooManyClients → P
  only_so decision holds is = subst IfCrowded is holds

pub full_so : {R : Type 0} (b : Bool) (count : ℕ) (lasts : Lasts R) → (b && nat_le count (length lasts)) ≡ true
    → count ≤ length lasts
full_so true count lasts is = grind (arith, nat_tests)
full_so false count lasts is = grind (arith, nat_tests)

module _ {M Q R : Type 0} where
  -- a request is refused for its client only if as many as allowed are kept even without those that may be forgotten
  pub crowded_if_full : (limits : ShardLimits) (size : Q → ℕ) (ready : ShardState M Q R) (me : ℕ) (item : Item Q)
      → decision_of limits size ready me item ≡ TooManyClients
      → limits.clients ≤ length (kept_from item.forgets ready.replica.lasts.entries)
  crowded_if_full limits size ready me item =
      let kept = kept_from item.forgets ready.replica.lasts.entries in
      let P = limits.clients ≤ length kept in
      let last = get nat_cmp ready.replica.lasts item.client in
      let sent = decided_by_number {R = R} item.number (client_number item.client ready.sent.items) in
      let waits = decided_by_number {R = R} item.number (client_number item.client ready.waiting.items) in
      let below = decided_by_floor {R = R} item.client (floor_of ready.sent.items) in
      let under = decided_by_floor {R = R} item.client (floor_of ready.waiting.items) in
      let crowded = is_crowded limits ready.replica item in
      let room = decided_by_room {R = R} limits (size item.request) (length ready.waiting.items) crowded in
      let here = decided_or (by_waiting ready item) room in
      let there = decided_by_forward {R = R} item.hops (forward_to ready.state me) in
      let made_so = by_made_so R P (nat_lt item.client ready.replica.floor) (decided_by_last item.number last)
      (by_last_so R P item.number last) in
      let waiting_so = some_or R P sent (option_or waits (option_or below under))
      (by_number_so R P item.number (client_number item.client ready.sent.items))
      (some_or R P waits (option_or below under)
      (by_number_so R P item.number (client_number item.client ready.waiting.items))
      (some_or R P below under (below_so R P (nat_lt item.client (floor_of ready.sent.items)))
      (below_so R P (nat_lt item.client (floor_of ready.waiting.items))))) in
      let left_so = room_so R P (nat_lt limits.batch_bytes (size item.request))
      (nat_le limits.waiting (length ready.waiting.items)) crowded
      (full_so (is_none last) limits.clients kept) in
      only_so R P (decision_of limits size ready me item)
      (if_or R P (by_last ready item) (if accepts ready.state me item.mode then here else there) made_so
      (if_accepts R P (accepts ready.state me item.mode) here there
      (if_or R P (by_waiting ready item) room waiting_so left_so)
      (by_forward_so R P item.hops (forward_to ready.state me))))
