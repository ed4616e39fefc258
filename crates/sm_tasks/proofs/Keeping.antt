-- Steps of restarts keep the caps.
use Rattle.std.proofs.Common.{ℕ, ◌+◌, ◌<◌, ◌≤◌, ◌≡◌, Bool, true, false, cond, eqb, length, Ok, ap, sym, ◌∙◌, arith, inl}
use Rattle.std.proofs.Common.{inr, ◌&&◌}
use Rattle.std.specs.Prelude.{count_by, nat_lt, zip}
use Rattle.std.proofs.lemmas.Bool.{and_cases, and_from, and_parts, eq-eqb, ltb-false, or_left, or_right}
use Rattle.std.proofs.lemmas.Bool.Decides.{eqb_tells}
use Rattle.std.proofs.lemmas.List.Sums.{sum_by-set}
use Rattle.sm_rows.specs.declared.server_row.ServerRow.{ServerRow}
use Rattle.sm_ranges.specs.declared.stand.Stand.{Stand}
use Rattle.sm_place.specs.declared.server_state.ServerState.{ServerState}
use Rattle.sm_place.specs.declared.server_state.ServerState.TheVariants.{Up, Asked, Approved, Stopped, Failed}
use Rattle.sm_place.specs.declared.shard.Shard.{Shard}
use Rattle.sm_place.specs.Books.{BooksView, IsKnown, domain_of, place_of, row_by_id, shard_at, state_of, with_state}
use Rattle.sm_ranges.specs.Stand.{names, names_one, is_paused}
use Rattle.sm_place.specs.ServerState.{is_leaving, is_away, is_stopped}
use Rattle.sm_place.specs.lemmas.Changed.{state_of-set}
use Rattle.sm_place.specs.lemmas.Named.{names_one-found, names_one-named}
use Rattle.sm_tasks.specs.Approvals.{approvable, leaving_count, names_down, stoppable, would_be_down}
use Rattle.sm_tasks.specs.Caps.{MeetsCaps, RestartCaps, names_away}
use Rattle.sm_tasks.specs.Groups.{group_count, down_of, is_in_group}
use Rattle.sm_tasks.specs.Domains.{domain_count, domain_down, is_server_of}
use Rattle.sm_tasks.proofs.Restarts.{cond_within, false_within, count_by-within, count_by-within_but}
use Rattle.sm_tasks.proofs.Restarts.{IsApprovable-approvable, IsStoppable-stoppable, is_away-approved}
use Rattle.sm_tasks.proofs.Restarts.{is_leaving-away}
use Rattle.sm_tasks.proofs.Zipped.{domain_count-with_state, one_server-within}

-- if the new state passes a test only if the old one does, no more servers pass it
calm : (books : BooksView) (a : ℕ) (state : ServerState) → length books.states ≡ length books.servers
    → IsKnown books.servers a
    → (test : ServerState → Bool) → (test state ≡ true → test (state_of books a) ≡ true)
    → (b : ℕ) → test (state_of (with_state books a state) b) ≡ true → test (state_of books b) ≡ true
calm books a state len known test h b e =
    elim (state_of-set books a b state len known) [
      | inl p ↦ let t : test state ≡ true = sym (ap test p.1) ∙ e in ap (λ i. test (state_of books i)) p.0 ∙ h t
      | inr p ↦ sym (ap test p.1) ∙ e
    ]

-- if a test of servers passes only if another one does, it passes at no more servers of a stand
one_within : (p q : ℕ → Bool) (stand : Stand) → ((b : ℕ) → p b ≡ true → q b ≡ true) → names_one p stand ≡ true
    → names_one q stand ≡ true
one_within p q stand h e =
    let found = names_one-found p stand e in
    names_one-named q stand found.0 found.1.0 (h found.0 found.1.1)

of_within : (p q : Stand → Bool) (g : ℕ) (shard : Shard) → (p shard.stand ≡ true → q shard.stand ≡ true)
    → is_in_group p g shard ≡ true → is_in_group q g shard ≡ true
of_within p q g shard h e =
    let parts = and_parts (eqb shard.row.group g) (p shard.stand) e in
    and_from (eqb shard.row.group g) (q shard.stand) parts.0 (h parts.1)

-- a step keeps the caps if its state is away only if the old one is, and is stopped only if the shards are paused
pub MeetsCaps-calm : (allowed : RestartCaps) (books : BooksView) (a : ℕ) (state : ServerState)
    → length books.states ≡ length books.servers → IsKnown books.servers a
    → (is_away state ≡ true → is_away (state_of books a) ≡ true)
    → (is_stopped state ≡ true → (k : ℕ) → k < length books.shards → names (shard_at books.shards k).stand a ≡ true
    → is_paused (shard_at books.shards k).stand ≡ true)
    → MeetsCaps allowed books → MeetsCaps allowed (with_state books a state)
MeetsCaps-calm allowed books a state len known away stopped caps =
    let inside : place_of books.servers a < length books.states = rw len known in
    let within : (stand : Stand) → names_away (with_state books a state) stand ≡ true → names_away books stand ≡ true =
    λ stand. one_within (λ b. is_away (state_of (with_state books a state) b)) (λ b. is_away (state_of books b)) stand
    (calm books a state len known is_away away) in
    record {
      servers =
          let set = sum_by-set (λ s. cond (is_away s) 1 0) books.states (place_of books.servers a) state Up inside in
          let less : cond (is_away state) 1 0 ≤ cond (is_away (state_of books a)) 1 0 =
          cond_within (is_away state) (is_away (state_of books a)) 1 away in
          omega (arith, set, less, caps.servers);
      shards = λ k h cap. false_within _ _ (within (shard_at books.shards k).stand) (caps.shards k h cap);
      groups = λ g h.
          let fewer : group_count (names_away (with_state books a state)) books.shards g
          ≤ group_count (names_away books) books.shards g =
          count_by-within (is_in_group (names_away (with_state books a state)) g)
          (is_in_group (names_away books) g) books.shards
          (λ shard. of_within (names_away (with_state books a state)) (names_away books) g shard (within shard.stand))
          in
          omega (arith, fewer, caps.groups g h);
      stopped = λ k h e.
          let found = names_one-found (λ b. is_stopped (state_of (with_state books a state) b))
          (shard_at books.shards k).stand e in
          elim (state_of-set books a found.0 state len known) [
            | inl p ↦ stopped (sym (ap is_stopped p.1) ∙ found.1.1) k h
                (sym (ap (names (shard_at books.shards k).stand) p.0) ∙ found.1.0)
            | inr p ↦ caps.stopped k h
                (names_one-named (λ b. is_stopped (state_of books b)) (shard_at books.shards k).stand found.0 found.1.0
                (sym (ap is_stopped p.1) ∙ found.1.1))
          ];
      domains = λ d.
          let set = domain_count-with_state is_away books a state d len known in
          let less = one_server-within is_away d (row_by_id books.servers a) (state_of books a) state away in
          omega (arith, set, less, caps.domains d);
    }

-- a server whose restart is asked for, or that comes back or fails
pub MeetsCaps-ask : (allowed : RestartCaps) (books : BooksView) (a : ℕ) → length books.states ≡ length books.servers
    → IsKnown books.servers a
    → MeetsCaps allowed books → MeetsCaps allowed (with_state books a Asked)
MeetsCaps-ask allowed books a len known caps =
    MeetsCaps-calm allowed books a Asked len known (λ e. absurd (cc)) (λ e k h n. absurd (cc)) caps

pub MeetsCaps-back : (allowed : RestartCaps) (books : BooksView) (a : ℕ) → length books.states ≡ length books.servers
    → IsKnown books.servers a
    → MeetsCaps allowed books → MeetsCaps allowed (with_state books a Up)
MeetsCaps-back allowed books a len known caps =
    MeetsCaps-calm allowed books a Up len known (λ e. absurd (cc)) (λ e k h n. absurd (cc)) caps

pub MeetsCaps-fail : (allowed : RestartCaps) (books : BooksView) (a : ℕ) → length books.states ≡ length books.servers
    → IsKnown books.servers a
    → MeetsCaps allowed books → MeetsCaps allowed (with_state books a Failed)
MeetsCaps-fail allowed books a len known caps =
    MeetsCaps-calm allowed books a Failed len known (λ e. absurd (cc)) (λ e k h n. absurd (cc)) caps

-- a server that is stopped
pub MeetsCaps-stopped : (allowed : RestartCaps) (books : BooksView) (a : ℕ) → length books.states ≡ length books.servers
    → IsKnown books.servers a
    → stoppable books a ≡ Ok tt → MeetsCaps allowed books → MeetsCaps allowed (with_state books a Stopped)
MeetsCaps-stopped allowed books a len known e caps =
    let may = IsStoppable-stoppable books a e in
    MeetsCaps-calm allowed books a Stopped len known (λ _. is_away-approved (state_of books a) may.approved)
    (λ _. may.paused) caps

-- a server that is approved
pub MeetsCaps-approve : (allowed : RestartCaps) (books : BooksView) (a : ℕ) → length books.states ≡ length books.servers
    → IsKnown books.servers a
    → approvable allowed books a ≡ Ok tt → MeetsCaps allowed books → MeetsCaps allowed (with_state books a Approved)
MeetsCaps-approve allowed books a len known e caps =
    let may = IsApprovable-approvable allowed books a e in
    let new = with_state books a Approved in
    let inside : place_of books.servers a < length books.states = rw len known in
    let unnamed : (stand : Stand) → names stand a ≡ false → names_away new stand ≡ true
    → names_away books stand ≡ true = λ stand no t.
    let found = names_one-found (λ b. is_away (state_of new b)) stand t in
    elim (state_of-set books a found.0 Approved len known) [
      | inl p ↦ let named : names stand a ≡ true = sym (ap (names stand) p.0) ∙ found.1.0 in absurd (cc)
      | inr p ↦
          names_one-named (λ b. is_away (state_of books b)) stand found.0 found.1.0 (sym (ap is_away p.1) ∙ found.1.1)
    ] in
    let down : (stand : Stand) → names_away new stand ≡ true → names_down books a stand ≡ true = λ stand.
    one_within (λ b. is_away (state_of new b)) (would_be_down books a) stand
    (λ b t. elim (state_of-set books a b Approved len known) [
      | inl p ↦ or_left (eqb b a) (is_leaving (state_of books b)) (eq-eqb b a p.0)
      | inr p ↦ or_right (eqb b a) (is_leaving (state_of books b))
          (is_leaving-away (state_of books b) (sym (ap is_away p.1) ∙ t))
    ]) in
    record {
      servers =
          let one = sum_by-set (λ s. cond (is_away s) 1 0) books.states (place_of books.servers a) Approved Up inside in
          let less : count_by is_away books.states ≤ leaving_count books =
          count_by-within is_away is_leaving books.states is_leaving-away in
          omega (arith, one, less, may.few);
      shards = λ k h cap. false_within _ _ (unnamed (shard_at books.shards k).stand (may.uncapped k h cap))
          (caps.shards k h cap);
      groups = λ g h.
          elim (and_cases (nat_lt 0 (group_count (λ stand. names stand a) books.shards g))
          (nat_lt (down_of books g) (group_count (names_down books a) books.shards g)) (may.groups g h)) [
            | inl p ↦
                let none : group_count (λ stand. names stand a) books.shards g ≤ 0 =
                ltb-false 0 (group_count (λ stand. names stand a) books.shards g) p in
                let fewer :
                group_count (names_away new) books.shards g ≤ group_count (names_away books) books.shards g =
                count_by-within_but (is_in_group (names_away new) g) (is_in_group (names_away books) g)
                (is_in_group (λ stand. names stand a) g) books.shards none
                (λ shard no t. of_within (names_away new) (names_away books) g shard
                (unnamed shard.stand
                (not_named (eqb shard.row.group g) (names shard.stand a)
                (and_parts (eqb shard.row.group g) (names_away new shard.stand) t).0 no)) t) in
                omega (arith, fewer, caps.groups g h)
            | inr p ↦
                let few : group_count (names_down books a) books.shards g ≤ down_of books g =
                ltb-false (down_of books g) (group_count (names_down books a) books.shards g) p in
                let fewer :
                group_count (names_away new) books.shards g ≤ group_count (names_down books a) books.shards g =
                count_by-within (is_in_group (names_away new) g) (is_in_group (names_down books a) g) books.shards
                (λ shard. of_within (names_away new) (names_down books a) g shard (down shard.stand)) in
                omega (arith, fewer, few)
          ];
      stopped = λ k h t. caps.stopped k h
          (one_within (λ b. is_stopped (state_of new b)) (λ b. is_stopped (state_of books b))
          (shard_at books.shards k).stand
          (calm books a Approved len known is_stopped (λ s. absurd (cc))) t);
      domains = λ d.
          let set = domain_count-with_state is_away books a Approved d len known in
          elim (eqb_tells (domain_of books.servers a) d) [
            | inl p ↦
                let one : cond (is_server_of is_away d (row_by_id books.servers a, Approved)) 1 0 ≤ 1 =
                cond_most (is_server_of is_away d (row_by_id books.servers a, Approved)) in
                let less : domain_count is_away books d ≤ domain_count is_leaving books d =
                count_by-within (is_server_of is_away d) (is_server_of is_leaving d) (zip books.servers books.states)
                (λ server. away_leaves d server) in
                let room : domain_count is_leaving books d + 1 ≤ domain_down books d = rw (← p.1) may.domain in
                omega (arith, set, one, less, room)
            | inr p ↦
                let none : ◌≡◌ {A = ℕ} (cond (is_server_of is_away d (row_by_id books.servers a, Approved)) 1 0) 0 =
                ap (λ u. cond (u && true) 1 0) p.0 in
                omega (arith, set, none, caps.domains d)
          ];
    }
  where
    cond_most : (u : Bool) → cond u 1 0 ≤ 1
    cond_most true = omega arith
    cond_most false = omega arith

    away_leaves : (d : ℕ) (server : ServerRow × ServerState) → is_server_of is_away d server ≡ true
        → is_server_of is_leaving d server ≡ true
    away_leaves d server e =
        let parts = and_parts (eqb server.0.domain d) (is_away server.1) e in
        and_from (eqb server.0.domain d) (is_leaving server.1) parts.0 (is_leaving-away server.1 parts.1)

    not_named : (u v : Bool) → u ≡ true → (u && v) ≡ false → v ≡ false
    not_named true v h e = e
    not_named false v h e = absurd (cc)
