-- A run in which a permit goes from one server to another, so that the law of permits speaks of something.
use Rattle.std.specs.Prelude.{ℕ, IsTrue, true, false, Some, List, [], ◌∷◌}
use Rattle.sm_ranges.specs.declared.stand.Stand.{Stand}
use Rattle.sm_ranges.specs.declared.stand.Stand.TheVariants.{Serving, Prepared, Forwarding, Taken}
use Rattle.sm_ownership.specs.declared.change.Change.{Change}
use Rattle.sm_ownership.specs.declared.change.Change.TheVariants.{Assign, PrepareAddShard, PrepareDropShard, AddShard}
use Rattle.sm_ownership.specs.declared.mode.Mode.TheVariants.{Direct, Forwarded}
use Rattle.sm_store.specs.Deeds.{AreRight, Charter, Changing, Electing, Settling, transaction_of}
use Rattle.sm_store.specs.Settings.{ControlSettings}
use Rattle.sm_permit.specs.Timelines.{TimedStep, Makes, Joins, Tells, Hands, stored}
use Rattle.sm_permit.specs.Waits.{KeepsWaits}
use Rattle.sm_permit.specs.Permits.{AreSafe, HasPermit, IsTimely, Terms}

-- leases of 100 moments, by which servers go for 90 ticks, and clocks that lose a tenth
abbrev pub some_terms : Terms
some_terms = record { length = 100; allowed = 90; moments = 11; ticks = 10 }

-- a clock that counts each moment
abbrev pub exact : ℕ → ℕ
exact moment = moment

-- settings by which the control below allows everything
abbrev pub any_settings : ControlSettings
any_settings = record {
  rows = record { servers = []; groups = []; shards = []; domains = [] };
  caps = record { ops = 0 };
  ceiling = 9;
}

-- a control of one shard that may do all that the rule allows, if every server that it must wait for has let go
abbrev pub any_charter : {Q P : Type 0} → Charter Q P
any_charter = record {
  count = 1;
  ceiling = 9;
  settings = λ written. Some any_settings;
  allows_change = λ settings read shard change. true;
  allows_state = λ settings read server state. true;
  waits = true;
  parts = λ items. [];
}

-- process 9, which was elected at revision 2, makes a change of shard 0 to a stand and a generation at a moment and a
-- revision. It read the records at an earlier revision
abbrev pub changes : {Q P : Type 0} → ℕ → ℕ → Change → Stand → ℕ → ℕ → TimedStep Q P
changes moment revision change stand generation read =
    record {
      moment = moment;
      revision = revision;
      step = Makes (transaction_of
          (Changing 9 0 change (record { stand = stand; admitted = false; generation = generation }) 2 read));
    }

-- settings are written at revision 1, server 1 joins at revision 3, and is assigned the shard
abbrev pub assigned : {Q P : Type 0} → List (TimedStep Q P)
assigned =
    changes 3 4 (Assign 1) (Serving 1) 1 0
    ∷ record { moment = 2; revision = 3; step = Joins 1 0 1 1 }
    ∷ record { moment = 1; revision = 2; step = Makes (transaction_of (Electing 9)) }
    ∷ record { moment = 1; revision = 1; step = Makes (transaction_of (Settling [])) }
    ∷ []

-- server 2 joins at revision 5, and server 1 is to forward to it
abbrev pub forwarding : {Q P : Type 0} → List (TimedStep Q P)
forwarding =
    changes 6 7 PrepareDropShard (Forwarding 1 2) 3 6
    ∷ changes 5 6 (PrepareAddShard 2) (Prepared 1 2) 2 4
    ∷ record { moment = 4; revision = 5; step = Joins 2 0 4 4 }
    ∷ assigned

-- server 1 hands over to server 2; this writes nothing to the store
abbrev pub handed_over : {Q P : Type 0} → List (TimedStep Q P)
handed_over = record { moment = 7; revision = 0; step = Hands 0 1 3 3 } ∷ forwarding

-- server 1 acks, and server 2 is the owner
abbrev pub added : {Q P : Type 0} → List (TimedStep Q P)
added =
    changes 9 9 AddShard (Taken 2 1) 4 7
    ∷ record { moment = 8; revision = 8; step = Tells 1 3 7 (record { shard = 0; generation = 3 } ∷ []) 3 }
    ∷ handed_over

-- the run keeps all that the law asks. Before it hands over, server 1 may still execute, by the record by which it was
-- assigned the shard; from then on server 2 may, and first only the requests that server 1 forwards
pub record IsMoved (Q P : Type 0) : Type 0 where
  pub waits : IsTrue (any_charter {Q = Q} {P = P}).waits
  pub safe : AreSafe some_terms
  pub timely : IsTimely some_terms exact
  pub right : AreRight any_charter (stored (added {Q = Q} {P = P}))
  pub waited : KeepsWaits some_terms.length (added {Q = Q} {P = P})
  pub before : HasPermit some_terms exact (forwarding {Q = Q} {P = P}) 6 0 1 Direct
  pub after : HasPermit some_terms exact (handed_over {Q = Q} {P = P}) 7 0 2 (Forwarded 1)
  pub at_last : HasPermit some_terms exact (added {Q = Q} {P = P}) 9 0 2 Direct
