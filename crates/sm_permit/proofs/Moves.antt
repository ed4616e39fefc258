-- The run in which a permit goes from one server to another keeps all that the law asks.
use Rattle.std.proofs.Common.{rules, false, ℕ, ◌≡◌, ◌<◌, Some, List, [], ◌∷◌, refl, ap, arith, inl, inr}
use Rattle.std.proofs.lemmas.Bool.{true≢false}
use Rattle.std.proofs.lemmas.Option.{same_Some}
use Rattle.sm_ranges.specs.declared.stand.Stand.{Stand}
use Rattle.sm_ranges.specs.declared.stand.Stand.TheVariants.{Serving, Prepared, Forwarding, Taken}
use Rattle.sm_ownership.specs.declared.change.Change.{Change}
use Rattle.sm_ownership.specs.declared.change.Change.TheVariants.{Assign, PrepareAddShard, PrepareDropShard, AddShard}
use Rattle.sm_ownership.specs.declared.mode.Mode.TheVariants.{Direct, Forwarded}
use Rattle.sm_place.specs.ServerState.{is_up}
use Rattle.sm_store.specs.Store.{Transaction, last_revision, leader_of, placement_of, revision_of, server_key}
use Rattle.sm_store.specs.Store.{stored_record}
use Rattle.sm_store.specs.Waits.{HasWaited}
use Rattle.sm_store.specs.Settings.{in_force}
use Rattle.sm_store.specs.Deeds.{AreRight, Changing, Deed, Electing, Following, IsChanged, Settling, WasRight}
use Rattle.sm_store.specs.Deeds.{done_at, transaction_of}
use Rattle.sm_permit.specs.Timelines.{Makes, Joins, Tells, Hands, stored}
use Rattle.sm_permit.specs.Waits.{KeepsWaits}
use Rattle.sm_permit.specs.Permits.{ByBytes, HasPermit}
use Rattle.sm_permit.specs.Runs.{added, any_charter, any_settings, assigned, changes, exact, forwarding, handed_over}
use Rattle.sm_permit.specs.Runs.{some_terms}

module _ (Q P : Type 0) where
  -- the deed that `changes` makes
  abbrev changing : Change → Stand → ℕ → ℕ → Deed Q P
  changing change stand generation read =
      Changing 9 0 change (record { stand = stand; admitted = false; generation = generation }) 2 read

  change_right : (log : List (Transaction Q P)) (revision : ℕ) (change : Change) (stand : Stand) (generation read : ℕ)
      → last_revision log < revision → leader_of log ≡ 9
      → in_force (any_charter {Q = Q} {P = P}).settings log ≡ Some any_settings
      → IsChanged 9 (stored_record 0 log) change (record { stand = stand; admitted = false; generation = generation })
      → HasWaited log (placement_of log) 0 change
      → WasRight any_charter log (done_at revision (changing change stand generation read))
  change_right log revision change stand generation read above leads settings changed waited =
      record {
        above = above;
        deed = changing change stand generation read;
        is = refl;
        right = record {
          within = omega arith;
          leads = leads;
          settings = any_settings;
          settings_are = settings;
          allowed = refl;
          changed = changed;
          waited = λ waits. waited;
        };
      }

  join_right : (log : List (Transaction Q P)) (revision server read : ℕ) → last_revision log < revision
      → revision_of (server_key server) log ≡ 0
      → WasRight any_charter log (done_at revision (Following server read [] 0))
  join_right log revision server read above absent =
      record {
        above = above;
        deed = Following server read [] 0;
        is = refl;
        right = record { compared = absent; lets = tt };
      }

  right_assigned : AreRight any_charter (stored (assigned {Q = Q} {P = P}))
  right_assigned = (
    change_right _ 4 (Assign 1) (Serving 1) 1 0 (omega arith) refl refl (record { fits = refl; is = refl }) tt,
    (
      join_right _ 3 1 0 (omega arith) refl,
      (
        record { above = omega arith; deed = Electing 9; is = refl; right = tt },
        (record { above = omega arith; deed = Settling []; is = refl; right = refl }, tt),
      ),
    ),
  )

  right_forwarding : AreRight any_charter (stored (forwarding {Q = Q} {P = P}))
  right_forwarding = (
    change_right _ 7 PrepareDropShard (Forwarding 1 2) 3 6 (omega arith) refl refl (record { fits = refl; is = refl })
        tt,
    (
      change_right _ 6 (PrepareAddShard 2) (Prepared 1 2) 2 4 (omega arith) refl refl
          (record { fits = refl; is = refl }) tt,
      (join_right _ 5 2 0 (omega arith) refl, right_assigned),
    ),
  )

  pub right_added : AreRight any_charter (stored (added {Q = Q} {P = P}))
  right_added = (
    change_right _ 9 AddShard (Taken 2 1) 4 7 (omega arith) refl refl (record { fits = refl; is = refl })
        (inl (omega arith)),
    (
      record {
        above = omega arith;
        deed = Following 1 7 (record { shard = 0; generation = 3 } ∷ []) 3;
        is = refl;
        right = record {
          compared = refl;
          lets = (inr (refl, λ is. let same = same_Some 2 1 is in omega arith), tt);
        };
      },
      right_forwarding,
    ),
  )

  waited_assigned : KeepsWaits 100 (assigned {Q = Q} {P = P})
  waited_assigned = (
    (tt, (tt, tt)),
    omega arith,
    ((refl, omega arith, omega arith), omega arith, ((tt, tt), omega arith, ((tt, tt), omega arith, tt))),
  )

  waited_forwarding : KeepsWaits 100 (forwarding {Q = Q} {P = P})
  waited_forwarding = (
    (tt, (tt, tt)),
    omega arith,
    (
      (tt, (tt, tt)),
      omega arith,
      ((refl, omega arith, omega arith), omega arith, waited_assigned),
    ),
  )

  pub waited_added : KeepsWaits 100 (added {Q = Q} {P = P})
  waited_added = (
    (tt, (tt, tt)),
    omega arith,
    (
      (record { joined = 3; kept = 1 }, refl, refl),
      omega arith,
      (tt, omega arith, waited_forwarding),
    ),
  )

  pub before : HasPermit some_terms exact (forwarding {Q = Q} {P = P}) 6 0 1 Direct
  before = record {
    latest = omega arith;
    sent = 1;
    lease = record { joined = 3; kept = 1 };
    has = record {
      since = changes 6 7 PrepareDropShard (Forwarding 1 2) 3 6
          ∷ changes 5 6 (PrepareAddShard 2) (Prepared 1 2) 2 4
          ∷ record { moment = 4; revision = 5; step = Joins 2 0 4 4 }
          ∷ changes 3 4 (Assign 1) (Serving 1) 1 0
          ∷ [];
      grant = record { moment = 2; revision = 3; step = Joins 1 0 1 1 };
      before = record { moment = 1; revision = 2; step = Makes (transaction_of (Electing 9)) }
          ∷ record { moment = 1; revision = 1; step = Makes (transaction_of (Settling [])) }
          ∷ [];
      is = refl;
      granted = inl (0, 1, refl);
      lies = refl;
      stays = search rules;
    };
    lasts = omega arith;
    newer = changes 6 7 PrepareDropShard (Forwarding 1 2) 3 6
        ∷ changes 5 6 (PrepareAddShard 2) (Prepared 1 2) 2 4
        ∷ record { moment = 4; revision = 5; step = Joins 2 0 4 4 }
        ∷ [];
    older = assigned;
    read = refl;
    under = omega arith;
    stands = λ is. true≢false (ap is_up is);
    accepts_it = refl;
    body = tt;
    holds = omega arith;
  }

  pub after : HasPermit some_terms exact (handed_over {Q = Q} {P = P}) 7 0 2 (Forwarded 1)
  after = record {
    latest = omega arith;
    sent = 4;
    lease = record { joined = 5; kept = 4 };
    has = record {
      since = record { moment = 7; revision = 0; step = Hands 0 1 3 3 }
          ∷ changes 6 7 PrepareDropShard (Forwarding 1 2) 3 6
          ∷ changes 5 6 (PrepareAddShard 2) (Prepared 1 2) 2 4
          ∷ [];
      grant = record { moment = 4; revision = 5; step = Joins 2 0 4 4 };
      before = assigned;
      is = refl;
      granted = inl (0, 4, refl);
      lies = refl;
      stays = search rules;
    };
    lasts = omega arith;
    newer = record { moment = 7; revision = 0; step = Hands 0 1 3 3 } ∷ [];
    older = forwarding;
    read = refl;
    under = omega arith;
    stands = λ is. true≢false (ap is_up is);
    accepts_it = refl;
    body = ByBytes 3 (record { joined = 3; kept = 1 }, refl, refl) (omega arith);
    holds = omega arith;
  }

  pub at_last : HasPermit some_terms exact (added {Q = Q} {P = P}) 9 0 2 Direct
  at_last = record {
    latest = omega arith;
    sent = 4;
    lease = record { joined = 5; kept = 4 };
    has = record {
      since = changes 9 9 AddShard (Taken 2 1) 4 7
          ∷ record { moment = 8; revision = 8; step = Tells 1 3 7 (record { shard = 0; generation = 3 } ∷ []) 3 }
          ∷ record { moment = 7; revision = 0; step = Hands 0 1 3 3 }
          ∷ changes 6 7 PrepareDropShard (Forwarding 1 2) 3 6
          ∷ changes 5 6 (PrepareAddShard 2) (Prepared 1 2) 2 4
          ∷ [];
      grant = record { moment = 4; revision = 5; step = Joins 2 0 4 4 };
      before = assigned;
      is = refl;
      granted = inl (0, 4, refl);
      lies = refl;
      stays = search rules;
    };
    lasts = omega arith;
    newer = [];
    older = added;
    read = refl;
    under = omega arith;
    stands = λ is. true≢false (ap is_up is);
    accepts_it = refl;
    body = tt;
    holds = omega arith;
  }
