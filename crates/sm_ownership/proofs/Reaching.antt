-- Who answers for a shard at each stand of a legal history.
use Rattle.std.proofs.Common.{◌≡◌, ◌≢◌, ℕ, Bool, true, false, not, ◌&&◌, List, [], ◌∷◌, refl, sym, ap, subst, ⊎_elim}
use Rattle.std.proofs.Common.{inl, inr}
use Rattle.std.specs.Prelude.{Some, None, ◌==◌, reverse, unwrap_or, if◌then◌else◌}
use Rattle.std.proofs.lemmas.Bool.{and_from, cases_eq, eq-eqb, ne_eqb}
use Rattle.sm_ranges.specs.declared.stand.Stand.{Stand}
use Rattle.sm_ranges.specs.declared.stand.Stand.TheVariants.{Vacant, Serving, Prepared, Forwarding, Taken, Paused}
use Rattle.sm_ownership.specs.declared.change.Change.{Change}
use Rattle.sm_ownership.specs.declared.change.Change.TheVariants.{Assign, PrepareAddShard, PrepareDropShard, AddShard}
use Rattle.sm_ownership.specs.declared.change.Change.TheVariants.{DropShard, Cancel, Pause, Resume, Reassign}
use Rattle.sm_ownership.specs.declared.entry.Entry.{Entry}
use Rattle.sm_ownership.specs.declared.entry.Kind.{Kind}
use Rattle.sm_ownership.specs.declared.entry.Kind.TheVariants.{Change as Changed, Admit, Done}
use Rattle.sm_ownership.specs.declared.record.Record.{Record}
use Rattle.sm_ownership.specs.lemmas.Growth.{record_at-empty, record_at-latest, record_at-latest_other}
use Rattle.sm_ownership.specs.History.{IsLegal, IsLegalLatest, after_kind, record_at, table_of, table_of_latest}
use Rattle.sm_ownership.specs.Reach.{IsApart, ForwardsTo, IsReached, IsServed, AcceptsForwarded}
use Rattle.sm_ownership.specs.Rules.{stand_after}

unless_owner : (owner next : ℕ) (same : Bool) → (next == owner) ≡ same
    → IsApart (unwrap_or (if same then None else Some (Prepared owner next)) (Serving owner))
unless_owner owner next true is = tt
unless_owner owner next false is = λ equal. let other : owner ≡ next = cc in let same = eq-eqb next owner (sym other) in
    absurd cc

serving_either : (owner next : ℕ) (same : Bool)
    → IsApart (unwrap_or (if same then None else Some (Serving next)) (Paused owner))
serving_either owner next true = tt
serving_either owner next false = tt

-- a change leads to a stand of two servers only if they differ
apart_after : (stand : Stand) (change : Change) → IsApart stand → IsApart (unwrap_or (stand_after stand change) stand)
apart_after Vacant (Assign server) apart = tt
apart_after (Serving owner) (PrepareAddShard next) apart = unless_owner owner next (next == owner) refl
apart_after (Serving owner) Pause apart = tt
apart_after (Prepared owner next) PrepareDropShard apart = apart
apart_after (Prepared owner next) Cancel apart = tt
apart_after (Forwarding owner next) AddShard apart = λ same. apart (sym same)
apart_after (Forwarding owner next) Cancel apart = tt
apart_after (Taken owner previous) DropShard apart = tt
apart_after (Paused owner) Resume apart = tt
apart_after (Paused owner) (Reassign next) apart = serving_either owner next (next == owner)
apart_after _ _ apart = apart

apart_kind : {Q : Type 0} (state : Record) (kind : Kind Q) → IsApart state.stand → IsApart (after_kind state kind).stand
apart_kind state (Changed change) apart = apart_after state.stand change apart
apart_kind state (Admit server mode) apart = apart
apart_kind state (Done ending) apart = apart

module _ {Q : Type 0} (count ceiling : ℕ) where
  apart_latest : (earlier : List (Entry Q)) (shard : ℕ) → IsLegalLatest count ceiling earlier
      → IsApart (record_at (table_of_latest count ceiling earlier) shard).stand
  apart_latest [] shard legal = subst (λ (state : Record). IsApart state.stand) (sym (record_at-empty count shard)) tt
  apart_latest (entry ∷ earlier) shard legal =
      ⊎_elim
      (λ (same : shard ≡ entry.shard).
      let now = apart_kind (record_at (table_of_latest count ceiling earlier) entry.shard) entry.kind
      (apart_latest earlier entry.shard legal.1) in
      let here : IsApart (record_at (table_of_latest count ceiling (entry ∷ earlier)) entry.shard).stand = subst
      (λ (state : Record). IsApart state.stand) (sym (record_at-latest count ceiling entry earlier legal.0)) now in
      subst (λ k. IsApart (record_at (table_of_latest count ceiling (entry ∷ earlier)) k).stand) (sym same) here)
      (λ (apart : shard ≢ entry.shard). subst (λ (state : Record). IsApart state.stand) (sym (record_at-latest_other
      count ceiling entry earlier shard apart legal.0)) (apart_latest earlier shard legal.1))
      (cases_eq shard entry.shard)

  -- the owner and the next or previous server differ
  pub two_servers : (history : List (Entry Q)) (shard : ℕ) → IsLegal count ceiling history
      → IsApart (record_at (table_of count ceiling history) shard).stand
  two_servers history shard legal = apart_latest (reverse history) shard legal

one_of_some : {X : Type 0} (Holds : X → Type 0) (x y : X) → Some x ≡ Some y → Holds x → Holds y
one_of_some Holds x y same holds = let is : x ≡ y = cc in subst Holds is holds

itself : (server : ℕ) → (server == server) ≡ true
itself server = eq-eqb server server refl

-- a request that reaches an executor at which nothing comes early
executing : (executor server : ℕ) → executor ≡ server → ((executor == server) && true) ≡ true
executing executor server same = and_from (executor == server) true (eq-eqb executor server same) refl

-- the owner forwards to the next server
forwarding : (owner next : ℕ) → owner ≢ next → ForwardsTo (Forwarding owner next) owner next
forwarding owner next apart = record {
  forwards = rw (itself owner) refl;
  executes = refl;
  takes = and_from (next == next) (not (not (owner == owner))) (itself next) (rw (itself owner) refl);
  keeps = rw (ne_eqb owner next apart) refl;
  takes_when_added = λ added is. one_of_some (λ stand. AcceptsForwarded stand owner next) (Taken next owner) added is
      (executing next next refl);
  takes_when_dropped = λ dropped is. absurd cc;
  takes_after_both = λ added dropped is later. one_of_some (λ stand. stand_after stand DropShard ≡ Some dropped
      → AcceptsForwarded dropped owner next) (Taken next owner) added is
      (λ dropped_is. one_of_some (λ stand. AcceptsForwarded stand owner next) (Serving next) dropped dropped_is
      (executing next next refl)) later;
}

-- the previous owner forwards to the owner
taken : (owner previous : ℕ) → owner ≢ previous → ForwardsTo (Taken owner previous) previous owner
taken owner previous apart = record {
  forwards = rw (itself previous) refl;
  executes = refl;
  takes = executing owner owner refl;
  keeps = rw (ne_eqb previous owner (λ same. apart (sym same))) refl;
  takes_when_added = λ added is. absurd cc;
  takes_when_dropped = λ dropped is. one_of_some (λ stand. AcceptsForwarded stand previous owner)
      (Serving owner) dropped is (executing owner owner refl);
  takes_after_both = λ added dropped is later. absurd cc;
}

-- if a request reaches the owner or the previous owner, it is executed or forwarded
pub served : (stand : Stand) (server : ℕ) → IsApart stand → IsReached stand server → IsServed stand server
served Vacant server apart reached = absurd reached
served (Serving owner) server apart reached = inl (executing owner server reached)
served (Prepared owner next) server apart reached = inl (executing owner server reached)
served (Forwarding owner next) server apart reached = subst (λ s. IsServed (Forwarding owner next) s) reached
    (inr (next, forwarding owner next (λ same. apart (ap Some same))))
served (Taken owner previous) server apart reached =
    ⊎_elim
    (λ (is : owner ≡ server). inl (executing owner server is))
    (λ (is : previous ≡ server). subst (λ s. IsServed (Taken owner previous) s) is
    (inr (owner, taken owner previous (λ same. apart (ap Some same)))))
    reached
served (Paused owner) server apart reached = absurd reached
