-- A shard's record goes on to name a server whose key lies there, if the server lets go of nothing.
use Rattle.std.proofs.Common.{◌≡◌, ◌≢◌, ℕ, ◌<◌, ◌≤◌, List, [], ◌∷◌, ◌++◌, sym}
use Rattle.std.proofs.Common.{subst, arith, ⊎_elim, inl, inr}
use Rattle.std.specs.Prelude.{◌==◌, ◌⊎◌, IsTrue, Option, Some, None, IfSome, unwrap_or}
use Rattle.std.proofs.lemmas.Bool.{cond_both}
use Rattle.std.proofs.lemmas.Option.{none-some}
use Rattle.sm_ranges.specs.declared.stand.Stand.{Stand}
use Rattle.sm_ranges.specs.declared.stand.Stand.TheVariants.{Vacant, Serving, Prepared, Forwarding, Taken, Paused}
use Rattle.sm_ownership.specs.declared.change.Change.{Change}
use Rattle.sm_ownership.specs.declared.change.Change.TheVariants.{PrepareAddShard, PrepareDropShard, AddShard}
use Rattle.sm_ownership.specs.declared.change.Change.TheVariants.{DropShard, Cancel, Pause, Resume, Reassign}
use Rattle.sm_ownership.specs.declared.record.Record.{Record}
use Rattle.sm_ownership.specs.Rules.{stand_after}
use Rattle.sm_place.specs.declared.server_state.ServerState.{ServerState}
use Rattle.sm_place.specs.declared.server_state.ServerState.TheVariants.{Failed}
use Rattle.sm_store.specs.Store.{IsRising, Transaction, acked_of, last_revision, made_at, placement_of, stored_record}
use Rattle.sm_store.specs.Store.{stored_state}
use Rattle.sm_store.specs.Deeds.{AreRight, Charter}
use Rattle.sm_store.specs.Deeds.{WasRight}
use Rattle.sm_store.specs.lemmas.Views.{rising_of_right}
use Rattle.sm_permit.specs.Timelines.{TimelineStep, TimedStep, Makes, Joins, Keeps, Leaves, Tells, Hands, IsUnder}
use Rattle.sm_permit.specs.Timelines.{lease_of}
use Rattle.sm_permit.specs.Timelines.{stored}
use Rattle.sm_store.specs.Waits.{HasLetGo, gives_up}
use Rattle.sm_store.specs.lemmas.Records.{IsChange, record_step}
use Rattle.sm_permit.specs.Waits.{KeepsWaits, MayStep}
use Rattle.sm_permit.proofs.Leases.{rose_before, stored_grows, there, under_since}
use Rattle.sm_permit.proofs.Acks.{acks_grow}
use Rattle.sm_permit.proofs.Records.{right_before, state_step}

-- the server executes by a stand, or it executed by the one before and lets go by this one
abbrev pub IsNamed : Stand → ℕ → Type 0
IsNamed Vacant server = ⊥
IsNamed (Serving owner) server = owner ≡ server
IsNamed (Prepared owner next) server = owner ≡ server
IsNamed (Forwarding owner next) server = (owner ≡ server) ⊎ (next ≡ server)
IsNamed (Taken owner previous) server = owner ≡ server
IsNamed (Paused owner) server = owner ≡ server

-- a change that waits until a server lets go still names the server that doesn't let go
named_stays : (stand : Stand) (change : Change) (after : Stand) (server : ℕ) (LetGo : ℕ → Type 0)
    → stand_after stand change ≡ Some after → IfSome (gives_up stand change) LetGo → (LetGo server → ⊥)
    → IsNamed stand server → IsNamed (unwrap_or (stand_after stand change) stand) server
named_stays Vacant change after server LetGo legal waited holds is = absurd is
named_stays (Serving owner) (PrepareAddShard next) after server LetGo legal waited holds is =
    cond_both (next == owner) None (Some (Prepared owner next))
    (λ (k : Option Stand). IsNamed (unwrap_or k (Serving owner)) server) (λ same. is) (λ apart. is)
named_stays (Serving owner) Pause after server LetGo legal waited holds is = is
named_stays (Prepared owner next) PrepareDropShard after server LetGo legal waited holds is = inl is
named_stays (Prepared owner next) Cancel after server LetGo legal waited holds is = is
named_stays (Forwarding owner next) AddShard after server LetGo legal waited holds (inl is) =
    absurd (holds (subst LetGo is waited))
named_stays (Forwarding owner next) AddShard after server LetGo legal waited holds (inr is) = is
named_stays (Forwarding owner next) Cancel after server LetGo legal waited holds (inl is) = is
named_stays (Forwarding owner next) Cancel after server LetGo legal waited holds (inr is) =
    absurd (holds (subst LetGo is waited))
named_stays (Taken owner previous) DropShard after server LetGo legal waited holds is = is
named_stays (Paused owner) Resume after server LetGo legal waited holds is = is
named_stays (Paused owner) (Reassign next) after server LetGo legal waited holds is =
    absurd (holds (subst LetGo is waited))
named_stays stand change after server LetGo legal waited holds is = absurd (none-some after legal)

-- the server hasn't failed, and the shard's record, of this generation or a later one, still names it
pub record Remains (server from : ℕ) (state : ServerState) (held : Record) : Type 0 where
  pub stands : state ≢ Failed
  pub named : IsNamed held.stand server
  pub since : from ≤ held.generation

module _ {Q P : Type 0} (charter : Charter Q P) (waits : IsTrue charter.waits) (span shard server joined from : ℕ) where
  abbrev pub StillNamed : List (TimedStep Q P) → Type 0
  StillNamed timeline =
      Remains server from (stored_state server (stored timeline)) (stored_record shard (stored timeline))

  -- the server didn't let go
  not_let_go : (earlier : List (TimedStep Q P)) → acked_of shard server (stored earlier) < from → StillNamed earlier
      → HasLetGo (stored earlier) (placement_of (stored earlier)) shard server → ⊥
  not_let_go earlier holds was (inl acked) = let since = was.since in omega arith
  not_let_go earlier holds was (inr failed) = was.stands failed

  made : (earlier : List (TimedStep Q P)) (txn : Transaction Q P)
      → IsRising (stored earlier) → WasRight charter (stored earlier) txn
      → IsUnder joined (lease_of server earlier) → acked_of shard server (stored earlier) < from → StillNamed earlier
      → Remains server from (stored_state server (txn ∷ stored earlier)) (stored_record shard (txn ∷ stored earlier))
  made earlier txn rising right under holds was =
      let log = stored earlier in
      let held = stored_record shard log in
      let stands = state_step charter server log txn right (there server earlier rising under.0 under.1) was.stands in
      ⊎_elim
      (λ (same : stored_record shard (txn ∷ log) ≡ held).
      record {
        stands = stands;
        named = subst (λ (r : Record). IsNamed r.stand server) (sym same) was.named;
        since = subst (λ (r : Record). from ≤ r.generation) (sym same) was.since;
      })
      (λ (changed : IsChange charter.waits shard log txn).
      let since = was.since in
      record {
        stands = stands;
        named = subst (λ (r : Record). IsNamed r.stand server) (sym changed.is)
            (named_stays held.stand changed.change changed.after server (HasLetGo log (placement_of log) shard)
            changed.leads (changed.waited waits) (not_let_go earlier holds was) was.named);
        since = subst (λ (r : Record). from ≤ r.generation) (sym changed.is) (omega arith);
      })
      (record_step charter shard log txn right)

  step_stays : (earlier : List (TimedStep Q P)) (moment revision : ℕ) (step : TimelineStep Q P)
      → AreRight charter (stored (record { moment = moment; revision = revision; step = step } ∷ earlier))
      → MayStep span earlier moment step → IsUnder joined (lease_of server earlier)
      → acked_of shard server (stored earlier) < from → StillNamed earlier
      → StillNamed (record { moment = moment; revision = revision; step = step } ∷ earlier)
  step_stays earlier moment revision (Makes txn) right may under holds was =
      made earlier (made_at revision txn) (rising_of_right charter (stored earlier) right.1) right.0 under
      holds was
  step_stays earlier moment revision (Joins at read sent granted) right may under holds was = was
  step_stays earlier moment revision (Keeps at sent) right may under holds was = was
  step_stays earlier moment revision (Leaves at others) right may under holds was = was
  step_stays earlier moment revision (Tells by its read acks told) right may under holds was = was
  step_stays earlier moment revision (Hands at by its generation) right may under holds was = was

  -- the record still names the server after more steps
  pub stays : (newer older : List (TimedStep Q P)) → AreRight charter (stored (newer ++ older))
      → KeepsWaits span (newer ++ older) → joined ≤ last_revision (stored older)
      → IsUnder joined (lease_of server (newer ++ older)) → acked_of shard server (stored (newer ++ older)) < from
      → StillNamed older → StillNamed (newer ++ older)
  stays [] older right waited within under holds was = was
  stays (one ∷ newer) older right waited within under holds was =
      let timeline = newer ++ older in
      let rising = rising_of_right charter (stored (one ∷ timeline)) right in
      let rose = rose_before timeline one.moment one.revision one.step rising in
      let grown = stored_grows newer older rose in
      let before = under_since server joined (one ∷ []) timeline rising (omega arith) under in
      let risen = acks_grow shard server (one ∷ []) timeline in
      step_stays timeline one.moment one.revision one.step right waited.0 before (omega arith)
      (stays newer older (right_before charter one.moment one.revision one.step timeline right) waited.2 within before
      (omega arith) was)
