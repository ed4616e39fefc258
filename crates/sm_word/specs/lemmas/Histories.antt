-- If a history is legal and its servers are known, its records are well formed.
use Rattle.std.proofs.Common.{◌≡◌, ◌≢◌, ℕ, ◌<◌, ◌+◌, ◌^◌, Bool, true, false, not, List, [], ◌∷◌, refl, sym, ap, subst}
use Rattle.std.proofs.Common.{◌∙◌, arith, ⊎_elim}
use Rattle.std.specs.Prelude.{Some, None, is_some, unwrap_or, ◌==◌, nat_lt, nat_le, if◌then◌else◌}
use Rattle.std.proofs.lemmas.Bool.{true≢false, and_parts, eq-eqb, not-true}
use Rattle.std.proofs.lemmas.Bool.Decides.{nat_tests}
use Rattle.std.proofs.lemmas.List.Elements.{All-head, All-tail}
use Rattle.sm_ranges.specs.ServerId.{IsServer}
use Rattle.sm_ranges.specs.Stand.{is_vacant}
use Rattle.sm_ranges.specs.declared.stand.Stand.{Stand}
use Rattle.sm_ranges.specs.declared.stand.Stand.TheVariants.{Vacant, Serving, Prepared, Forwarding, Taken, Paused}
use Rattle.sm_ownership.specs.declared.change.Change.{Change}
use Rattle.sm_ownership.specs.declared.change.Change.TheVariants.{Assign, PrepareAddShard, PrepareDropShard, AddShard}
use Rattle.sm_ownership.specs.declared.change.Change.TheVariants.{DropShard, Cancel, Pause, Resume, Reassign}
use Rattle.sm_ownership.specs.declared.entry.Entry.{Entry}
use Rattle.sm_ownership.specs.declared.entry.Kind.{Kind}
use Rattle.sm_ownership.specs.declared.entry.Kind.TheVariants.{Change as Changed, Admit, Done}
use Rattle.sm_ownership.specs.declared.mode.Mode.{Mode}
use Rattle.sm_ownership.specs.declared.record.Record.{Record}
use Rattle.sm_ownership.specs.lemmas.Ceilings.{within_latest}
use Rattle.sm_ownership.specs.lemmas.Growth.{record_at-empty}
use Rattle.sm_ownership.specs.History.{record_at, after_admit, after_change, after_done, after_kind, acts_as, kind_fits}
use Rattle.sm_ownership.specs.History.{table_of_latest, IsLegalLatest}
use Rattle.sm_ownership.specs.lemmas.Lasting.{next_record}
use Rattle.sm_ownership.specs.Rules.{accepts_at, executor_of, is_server, stand_after}
use Rattle.sm_word.specs.Known.{NewlyNamesServer, KnownKind, AreKnown}
use Rattle.sm_word.specs.Word.{NamesServers, FitsStand, IsWellFormed}

-- well formed, except for the greatest generation
abbrev IsShaped : Record → Type 0
IsShaped state = NamesServers state.stand × FitsStand state.stand state.admitted state.generation

abbrev IsShapedAt : Stand → Bool → ℕ → Type 0
IsShapedAt stand admitted generation = NamesServers stand × FitsStand stand admitted generation

after_entry : (generation : ℕ) → false ≡ (generation + 1 == 0)
after_entry generation = grind (arith, nat_tests)

-- a stand that isn't vacant fits an idle record that has had an entry
idle : (stand : Stand) (generation : ℕ) → is_vacant stand ≡ false → FitsStand stand false (generation + 1)
idle stand generation named = ((λ none. refl), named ∙ after_entry generation)

prepared_unless : (owner next generation : ℕ) (same : Bool) → (next == owner) ≡ same → IsServer owner → IsServer next
    → is_some (if same then None else Some (Prepared owner next)) ≡ true
    → IsShapedAt (unwrap_or (if same then None else Some (Prepared owner next)) (Serving owner)) false (generation + 1)
prepared_unless owner next generation true is first second leads = absurd (true≢false (sym leads))
prepared_unless owner next generation false is first second leads = (
  (
    (first, second),
    λ equal. let other : owner ≡ next = cc in let same = eq-eqb next owner (sym
        other) in absurd (true≢false (sym same ∙ is)),
  ),
  idle (Prepared owner next) generation refl,
)

serving_unless : (owner next generation : ℕ) (same : Bool) → IsServer next
    → is_some (if same then None else Some (Serving next)) ≡ true
    → IsShapedAt (unwrap_or (if same then None else Some (Serving next)) (Paused owner)) false (generation + 1)
serving_unless owner next generation true second leads = absurd (true≢false (sym leads))
serving_unless owner next generation false second leads = (((second, tt), tt), idle (Serving next) generation refl)

shaped_change : (stand : Stand) (change : Change) (generation : ℕ) → NamesServers stand → NewlyNamesServer change
    → is_some (stand_after stand change) ≡ true
    → IsShapedAt (unwrap_or (stand_after stand change) stand) false (generation + 1)
shaped_change Vacant (Assign server) generation named known leads =
    (((known, tt), tt), idle (Serving server) generation refl)
shaped_change (Serving owner) (PrepareAddShard next) generation named known leads =
    prepared_unless owner next generation (next == owner) refl named.0.0 known leads
shaped_change (Serving owner) Pause generation named known leads = (named, idle (Paused owner) generation refl)
shaped_change (Prepared owner next) PrepareDropShard generation named known leads =
    (named, idle (Forwarding owner next) generation refl)
shaped_change (Prepared owner next) Cancel generation named known leads =
    (((named.0.0, tt), tt), idle (Serving owner) generation refl)
shaped_change (Forwarding owner next) AddShard generation named known leads =
    (((named.0.1, named.0.0), λ same. named.1 (sym same)), idle (Taken next owner) generation refl)
shaped_change (Forwarding owner next) Cancel generation named known leads =
    (((named.0.0, tt), tt), idle (Serving owner) generation refl)
shaped_change (Taken owner previous) DropShard generation named known leads =
    (((named.0.0, tt), tt), idle (Serving owner) generation refl)
shaped_change (Paused owner) Resume generation named known leads = (named, idle (Serving owner) generation refl)
shaped_change (Paused owner) (Reassign next) generation named known leads =
    serving_unless owner next generation (next == owner) known leads
shaped_change _ _ generation named known leads = absurd (true≢false (sym leads))

executed : (stand : Stand) → executor_of stand ≢ None → is_vacant stand ≡ false
executed Vacant some = absurd (some refl)
executed stand some = refl

shaped_admit : (stand : Stand) (server : ℕ) (mode : Mode) (generation : ℕ) → NamesServers stand
    → accepts_at stand server mode ≡ true
    → IsShapedAt stand true (generation + 1)
shaped_admit stand server mode generation named accepted =
    let by = (and_parts (is_server (executor_of stand) server) _ accepted).0 in
    let some : executor_of stand ≢ None =
    λ none. true≢false (sym by ∙ ap (λ executor. is_server executor server) none) in
    (named, ((λ none. absurd (some none)), executed stand some ∙ after_entry generation))

shaped_done : (stand : Stand) (admitted : Bool) (generation : ℕ) → admitted ≡ true
    → IsShapedAt stand admitted generation
    → IsShapedAt stand false (generation + 1)
shaped_done stand admitted generation busy shaped =
    (shaped.0, idle stand generation (executed stand (λ none. true≢false (sym busy ∙ shaped.1.0 none))))

shaped_kind : {Q : Type 0} (ceiling : ℕ) (earlier : List (Entry Q)) (state : Record) (actor shard : ℕ) (kind : Kind Q)
    → kind_fits ceiling earlier state actor shard kind ≡ true → KnownKind kind → IsShaped state
    → IsShaped (after_kind state kind)
shaped_kind ceiling earlier state actor shard (Changed change) fit known shaped =
    let free = and_parts (not state.admitted) _ (and_parts (actor == 0) _ fit).1 in
    let leads = (and_parts (nat_lt state.generation ceiling) _ free.1).1 in
    let idle = not-true state.admitted free.0 in
    subst (λ admitted. IsShapedAt (unwrap_or (stand_after state.stand change) state.stand) admitted
    (state.generation + 1)) (sym idle) (shaped_change state.stand change state.generation shaped.0 known leads)
shaped_kind ceiling earlier state actor shard (Admit server mode) fit known shaped =
    let alone = and_parts (acts_as earlier actor server) _ (and_parts (not (actor == 0)) _ fit).1 in
    let free = and_parts (not state.admitted) _ alone.1 in
    let accepted = (and_parts (nat_le (state.generation + 2) ceiling) _ free.1).1 in
    shaped_admit state.stand server mode state.generation shaped.0 accepted
shaped_kind ceiling earlier state actor shard (Done ending) fit known shaped =
    shaped_done state.stand state.admitted state.generation (and_parts state.admitted _ fit).0 shaped

module _ {Q : Type 0} (count ceiling : ℕ) where
  shaped_latest : (earlier : List (Entry Q)) (shard : ℕ) → IsLegalLatest count ceiling earlier → AreKnown earlier
      → IsShaped (record_at (table_of_latest count ceiling earlier) shard)
  shaped_latest [] shard legal known =
      subst IsShaped (sym (record_at-empty count shard)) (((tt, tt), tt), ((λ none. refl), refl))
  shaped_latest (entry ∷ earlier) shard legal known =
      let Is : Entry Q → Type 0 = λ one. KnownKind one.kind in
      let before = record_at (table_of_latest count ceiling earlier) shard in
      let after = record_at (table_of_latest count ceiling (entry ∷ earlier)) shard in
      let shaped = shaped_latest earlier shard legal.1 (All-tail Is entry earlier known) in
      ⊎_elim
      (λ (other : (shard ≢ entry.shard) × (after ≡ before)). subst IsShaped (sym other.1) shaped)
      (λ (here : (shard ≡ entry.shard) × (after ≡ after_kind before entry.kind)).
      let fit = subst (λ k. kind_fits ceiling earlier (record_at (table_of_latest count ceiling earlier) k) entry.actor
      entry.shard entry.kind ≡ true) (sym here.0) (and_parts _ _ legal.0).1 in
      subst IsShaped (sym here.1) (shaped_kind ceiling earlier before entry.actor entry.shard entry.kind fit
      (All-head Is entry earlier known) shaped))
      (next_record count ceiling entry earlier shard legal.0)

  -- if a history is legal and its servers are known, every record of its table has a word
  pub well_formed : (earlier : List (Entry Q)) (shard : ℕ) → ceiling < 2 ^ 36 → IsLegalLatest count ceiling earlier
      → AreKnown earlier → IsWellFormed (record_at (table_of_latest count ceiling earlier) shard)
  well_formed earlier shard low legal known =
      let shaped = shaped_latest earlier shard legal known in
      let reached = (within_latest count ceiling earlier shard legal).0 in
      record { servers = shaped.0; parts = shaped.1; generation = omega arith }

-- the record after a change, an admission, or the end of one
pub formed_change : (state : Record) (change : Change) → IsWellFormed state → NewlyNamesServer change
    → state.admitted ≡ false → is_some (stand_after state.stand change) ≡ true → state.generation + 1 < 2 ^ 36
    → IsWellFormed (after_change state change)
formed_change state change formed known idle leads low =
    let shaped = subst (λ admitted. IsShapedAt (unwrap_or (stand_after state.stand change) state.stand) admitted
    (state.generation + 1)) (sym idle)
    (shaped_change state.stand change state.generation formed.servers known leads) in
    record { servers = shaped.0; parts = shaped.1; generation = omega arith }

pub formed_admit : (state : Record) (server : ℕ) (mode : Mode) → IsWellFormed state
    → accepts_at state.stand server mode ≡ true → state.generation + 1 < 2 ^ 36 → IsWellFormed (after_admit state)
formed_admit state server mode formed accepted low =
    let shaped = shaped_admit state.stand server mode state.generation formed.servers accepted in
    record { servers = shaped.0; parts = shaped.1; generation = omega arith }

pub formed_done : (state : Record) → IsWellFormed state → state.admitted ≡ true → state.generation + 1 < 2 ^ 36
    → IsWellFormed (after_done state)
formed_done state formed busy low =
    let shaped = shaped_done state.stand state.admitted state.generation busy (formed.servers, formed.parts) in
    record { servers = shaped.0; parts = shaped.1; generation = omega arith }
