-- The history that a store stands for is legal.
use Rattle.std.proofs.Common.{◌≡◌, ◌≢◌, ℕ, ◌+◌, ◌<◌, ◌≤◌, Bool, true, false, List, [], ◌∷◌, length, refl, sym, ap}
use Rattle.std.proofs.Common.{subst, ◌∙◌, arith, ⊎_elim}
use Rattle.std.specs.Prelude.{is_some, unwrap_or, not, nat_lt, nat_le, ◌==◌, ◌&&◌, ◌||◌}
use Rattle.std.specs.List.{AllByRecursion}
use Rattle.std.proofs.lemmas.Bool.{cases_eq, and_parts, and_from, or_right, not_from_false, lt-ltb, le-leb, eq-eqb}
use Rattle.std.proofs.lemmas.Bool.{ne_eqb, cond_both, cond-true, cond-false}
use Rattle.std.proofs.lemmas.List.{length-set, length-replicate}
use Rattle.sm_ranges.specs.declared.stand.Stand.{Stand}
use Rattle.sm_ownership.specs.declared.change.Change.{Change}
use Rattle.sm_ownership.specs.declared.entry.Ending.TheVariants.{Request}
use Rattle.sm_ownership.specs.declared.entry.Entry.{Entry}
use Rattle.sm_ownership.specs.declared.entry.Kind.TheVariants.{Change as Changed, Admit, Done}
use Rattle.sm_ownership.specs.declared.record.Record.{Record}
use Rattle.sm_ownership.specs.History.{vacant, record_at, after_kind, after_admit, acts_as, latest_of, is_admission_of}
use Rattle.sm_ownership.specs.History.{change_fits, admit_fits, done_fits, fits, table_of_latest, IsLegalLatest}
use Rattle.sm_ownership.specs.lemmas.Growth.{record_at-empty, record_at-latest, record_at-latest_other}
use Rattle.sm_ownership.specs.Rules.{stand_after, accepts, accepts_at}
use Rattle.sm_store.specs.declared.item.Item.{Item}
use Rattle.sm_store.specs.Deeds.{AreRight, Charter, Deed, Electing, Expiring, Changing, Executing, Basing, Naming}
use Rattle.sm_store.specs.Deeds.{Clearing, Following, Restarting, Settling, Checking, Foreign, IsRight, transaction_of}
use Rattle.sm_store.specs.Deeds.{Resettling}
use Rattle.sm_store.specs.Histories.{history_of, with_requests, with_write}
use Rattle.sm_store.specs.Store.{Transaction, left_by, stored_record}

one_or_other : (b : Bool) → (not b || b) ≡ true
one_or_other true = refl
one_or_other false = refl

module _ {Q P : Type 0} (charter : Charter Q P) (ceiling : ℕ) where
  abbrev pub count : ℕ
  count = charter.count

  abbrev pub table : List (Entry Q) → List Record
  table earlier = table_of_latest count ceiling earlier

  length_table : (earlier : List (Entry Q)) → length (table earlier) ≡ count
  length_table [] = length-replicate count vacant
  length_table (entry ∷ earlier) =
      let before = length_table earlier in
      cond_both (fits ceiling earlier (table earlier) entry) _ _ (λ t. length t ≡ count)
      (λ _. length-set (table earlier) entry.shard (after_kind (record_at (table earlier) entry.shard) entry.kind)
      ∙ before) (λ _. before)

  -- the records after one more entry
  each : (entry : Entry Q) (earlier : List (Entry Q)) (P : ℕ → Record → Type 0)
      → fits ceiling earlier (table earlier) entry ≡ true → P entry.shard
      (after_kind (record_at (table earlier) entry.shard) entry.kind)
      → ((k : ℕ) → k ≢ entry.shard → P k (record_at (table earlier) k)) → (k : ℕ)
      → P k (record_at (table (entry ∷ earlier)) k)
  each entry earlier P fit own others k =
      ⊎_elim
      (λ (same : k ≡ entry.shard).
      subst (λ (n : ℕ). P n (record_at (table (entry ∷ earlier)) n)) (sym same)
      (subst (P entry.shard) (sym (record_at-latest count ceiling entry earlier fit)) own))
      (λ (apart : k ≢ entry.shard). subst (P k) (sym (record_at-latest_other count ceiling entry earlier k apart fit))
      (others k apart))
      (cases_eq k entry.shard)

  -- the history is legal, and each shard is idle and has this stand
  pub record Agrees (history : List (Entry Q)) (stands : ℕ → Stand) : Type 0 where
    pub legal : IsLegalLatest count ceiling history
    pub idle : (k : ℕ) → (record_at (table history) k).admitted ≡ false
    pub stand : (k : ℕ) → k < count → (record_at (table history) k).stand ≡ stands k
    pub few : (k : ℕ) → (record_at (table history) k).generation ≤ length history
    pub same : (actor : ℕ) → acts_as history actor actor ≡ true

  there : (earlier : List (Entry Q)) (shard : ℕ) → shard < count → nat_lt shard (length (table earlier)) ≡ true
  there earlier shard within = let len = length_table earlier in lt-ltb shard (length (table earlier)) (omega arith)

  change_step : (earlier : List (Entry Q)) (old new : ℕ → Stand) (shard : ℕ) (change : Change) → shard < count
      → length earlier < ceiling → is_some (stand_after (old shard) change) ≡ true → new shard
      ≡ unwrap_or (stand_after (old shard) change) (old shard) → ((k : ℕ) → k ≢ shard → new k ≡ old k)
      → Agrees earlier old → Agrees (record { actor = 0; shard = shard; kind = Changed change } ∷ earlier) new
  change_step earlier old new shard change within room leads own others agrees =
      let entry : Entry Q = record { actor = 0; shard = shard; kind = Changed change } in
      let state = record_at (table earlier) shard in
      let is = agrees.stand shard within in
      let few = agrees.few shard in
      let fit : fits ceiling earlier (table earlier) entry ≡ true =
      and_from (nat_lt shard (length (table earlier))) (change_fits ceiling state 0 change)
      (there earlier shard within)
      (and_from (not state.admitted) (nat_lt state.generation ceiling && is_some (stand_after state.stand change))
      (not_from_false state.admitted (agrees.idle shard))
      (and_from (nat_lt state.generation ceiling) (is_some (stand_after state.stand change))
      (lt-ltb state.generation ceiling (omega arith)) (subst (λ (s : Stand). is_some (stand_after s change) ≡ true)
      (sym is) leads))) in
      record {
        legal = (fit, agrees.legal);
        idle = each entry earlier (λ k r. r.admitted ≡ false) fit (agrees.idle shard) (λ k apart. agrees.idle k);
        stand = each entry earlier (λ k r. k < count → r.stand ≡ new k) fit
            (λ _. ap (λ (s : Stand). unwrap_or (stand_after s change) s) is ∙ sym own)
            (λ k apart below. agrees.stand k below ∙ sym (others k apart));
        few = each entry earlier (λ k r. r.generation ≤ length (entry ∷ earlier)) fit (omega arith)
            (λ k apart. let f = agrees.few k in omega arith);
        same = λ actor. and_from (not (0 == actor) || true) (acts_as earlier actor actor)
            (or_right (not (0 == actor)) true refl) (agrees.same actor);
      }

  request_step : (earlier : List (Entry Q)) (stands : ℕ → Stand) (shard server : ℕ) (item : Item Q) → shard < count
      → server ≢ 0 → length earlier + 2 ≤ ceiling → accepts_at (stands shard) server item.mode ≡ true
      → Agrees earlier stands → Agrees (record {
        actor = server;
        shard = shard;
        kind =
            Done (Request item.request);
      } ∷ record {
        actor = server;
        shard = shard;
        kind =
            Admit server item.mode;
      } ∷ earlier) stands
  request_step earlier stands shard server item within named room accepted agrees =
      let admit : Entry Q = record { actor = server; shard = shard; kind = Admit server item.mode } in
      let done : Entry Q = record { actor = server; shard = shard; kind = Done (Request item.request) } in
      let state = record_at (table earlier) shard in
      let is = agrees.stand shard within in
      let few = agrees.few shard in
      let itself : (shard == shard) ≡ true = eq-eqb shard shard refl in
      let first : fits ceiling earlier (table earlier) admit ≡ true =
      and_from (nat_lt shard (length (table earlier))) (admit_fits ceiling earlier state server server item.mode)
      (there earlier shard within)
      (and_from (not (server == 0)) _ (not_from_false (server == 0) (ne_eqb server 0 named))
      (and_from (acts_as earlier server server) _ (agrees.same server)
      (and_from (not state.admitted) _ (not_from_false state.admitted (agrees.idle shard))
      (and_from (nat_le (state.generation + 2) ceiling) (accepts state server item.mode)
      (le-leb (state.generation + 2) ceiling (omega arith)) (subst
      (λ (s : Stand). accepts_at s server item.mode ≡ true) (sym is) accepted))))) in
      let mid : record_at (table (admit ∷ earlier)) shard ≡ after_admit state =
      record_at-latest count ceiling admit earlier first in
      let latest : is_admission_of server (latest_of (admit ∷ earlier) shard) ≡ true =
      rw itself (and_from (server == server) true (eq-eqb server server refl) refl) in
      let second : fits ceiling (admit ∷ earlier) (table (admit ∷ earlier)) done ≡ true =
      and_from (nat_lt shard (length (table (admit ∷ earlier)))) (done_fits (admit ∷ earlier)
      (record_at (table (admit ∷ earlier)) shard) server shard) (there (admit ∷ earlier) shard within)
      (and_from (record_at (table (admit ∷ earlier)) shard).admitted
      (is_admission_of server (latest_of (admit ∷ earlier) shard)) (ap (λ (r : Record). r.admitted) mid) latest) in
      let other : (k : ℕ) → k ≢ shard → record_at (table (admit ∷ earlier)) k ≡ record_at (table earlier) k =
      λ k apart. record_at-latest_other count ceiling admit earlier k apart first in
      record {
        legal = (second, (first, agrees.legal));
        idle = each done (admit ∷ earlier) (λ k r. r.admitted ≡ false) second refl
            (λ k apart. ap (λ (r : Record). r.admitted) (other k apart) ∙ agrees.idle k);
        stand = each done (admit ∷ earlier) (λ k r. k < count → r.stand ≡ stands k) second
            (λ _. ap (λ (r : Record). r.stand) mid ∙ is)
            (λ k apart below. ap (λ (r : Record). r.stand) (other k apart) ∙ agrees.stand k below);
        few = each done (admit ∷ earlier) (λ k r. r.generation ≤ length (done ∷ admit ∷ earlier)) second
            (let g = ap (λ (r : Record). r.generation) mid in omega arith)
            (λ k apart. let f = agrees.few k in let o = ap (λ (r : Record). r.generation) (other k apart) in
            omega arith);
        same = λ actor. and_from (not (server == actor) || true) _ (or_right (not (server == actor)) true refl)
            (and_from (not (server == actor) || (server == actor)) (acts_as earlier actor actor)
            (one_or_other (server == actor)) (agrees.same actor));
      }

  longer : (shard server : ℕ) (items : List (Item Q)) (earlier : List (Entry Q))
      → length earlier ≤ length (with_requests shard server earlier items)
  longer shard server [] earlier = omega arith
  longer shard server (item ∷ items) earlier = let rest = longer shard server items
      (record { actor = server; shard = shard; kind = Done (Request item.request) } ∷ record {
        actor = server;
        shard =
            shard;
        kind = Admit server item.mode;
      } ∷ earlier) in omega arith

  requests_step : (stands : ℕ → Stand) (shard server : ℕ) (items : List (Item Q)) (earlier : List (Entry Q))
      → shard < count → server ≢ 0 → length (with_requests shard server earlier items) ≤ ceiling
      → AllByRecursion (λ item. accepts_at (stands shard) server item.mode ≡ true) items → Agrees earlier stands
      → Agrees (with_requests shard server earlier items) stands
  requests_step stands shard server [] earlier within named room accepted agrees = agrees
  requests_step stands shard server (item ∷ items) earlier within named room accepted agrees =
      let more : List (Entry Q) = record {
        actor = server;
        shard = shard;
        kind =
            Done (Request item.request);
      } ∷ record {
        actor = server;
        shard = shard;
        kind =
            Admit server item.mode;
      } ∷ earlier in
      let long = longer shard server items more in
      requests_step stands shard server items more within named room accepted.1
      (request_step earlier stands shard server item within named (omega arith) accepted.0 agrees)

  -- the history after a deed
  abbrev pub with_deed : Deed Q P → List (Entry Q) → List (Entry Q)
  with_deed deed earlier = left_by with_write earlier (transaction_of deed).writes

  deed_step : (log : List (Transaction Q P)) (deed : Deed Q P) (earlier : List (Entry Q)) → IsRight charter log deed
      → length (with_deed deed earlier) ≤ ceiling → Agrees earlier (λ k. (stored_record k log).stand)
      → Agrees (with_deed deed earlier) (λ k. (stored_record k (transaction_of deed ∷ log)).stand)
  deed_step log (Electing process) earlier right room agrees = agrees
  deed_step log (Expiring keys) earlier right room agrees = agrees
  deed_step log (Changing process shard change next elected placed) earlier right room agrees =
      let state = stored_record shard log in
      let parts = and_parts (not state.admitted) (nat_lt state.generation charter.ceiling && is_some
      (stand_after state.stand change)) right.changed.fits in
      let leads = (and_parts (nat_lt state.generation charter.ceiling)
      (is_some (stand_after state.stand change)) parts.1).1 in
      let itself : (shard == shard) ≡ true = eq-eqb shard shard refl in
      let deed : Deed Q P = Changing process shard change next elected placed in
      change_step earlier (λ k. (stored_record k log).stand) (λ k. (stored_record k (transaction_of deed ∷ log)).stand)
      shard change right.within (omega arith) leads
      (ap (λ (r : Record). r.stand) (cond-true (shard == shard) next state itself)
      ∙ ap (λ (r : Record). r.stand) right.changed.is)
      (λ k apart. ap (λ (r : Record). r.stand) (cond-false (shard == k) next (stored_record k log)
      (ne_eqb shard k (λ same. apart (sym same)))))
      agrees
  deed_step log (Executing shard server items head stood logged) earlier right room agrees =
      requests_step (λ k. (stored_record k log).stand) shard server items earlier right.within right.named room
      right.accepted.accepted agrees
  deed_step log (Basing shard number place part) earlier right room agrees = agrees
  deed_step log (Naming shard head number parts logged) earlier right room agrees = agrees
  deed_step log (Clearing keys) earlier right room agrees = agrees
  deed_step log (Restarting process server run elected placed) earlier right room agrees = agrees
  deed_step log (Settling settings) earlier right room agrees = agrees
  deed_step log (Resettling process settings elected placed) earlier right room agrees = agrees
  deed_step log (Following server revision acks told) earlier right room agrees = agrees
  deed_step log (Checking compares) earlier right room agrees = agrees
  deed_step log Foreign earlier right room agrees = agrees

  no_shorter : (deed : Deed Q P) (earlier : List (Entry Q)) → length earlier ≤ length (with_deed deed earlier)
  no_shorter (Electing process) earlier = omega arith
  no_shorter (Expiring keys) earlier = omega arith
  no_shorter (Changing process shard change next elected placed) earlier = omega arith
  no_shorter (Executing shard server items head stood logged) earlier = longer shard server items earlier
  no_shorter (Basing shard number place part) earlier = omega arith
  no_shorter (Naming shard head number parts logged) earlier = omega arith
  no_shorter (Clearing keys) earlier = omega arith
  no_shorter (Restarting process server run elected placed) earlier = omega arith
  no_shorter (Settling settings) earlier = omega arith
  no_shorter (Resettling process settings elected placed) earlier = omega arith
  no_shorter (Following server revision acks told) earlier = omega arith
  no_shorter (Checking compares) earlier = omega arith
  no_shorter Foreign earlier = omega arith

  pub agrees : (log : List (Transaction Q P)) → AreRight charter log → length (history_of log) ≤ ceiling
      → Agrees (history_of log) (λ k. (stored_record k log).stand)
  agrees [] right room = record {
    legal = tt;
    idle = λ k. ap (λ (r : Record). r.admitted) (record_at-empty count k);
    stand = λ k below. ap (λ (r : Record). r.stand) (record_at-empty count k);
    few = λ k. let g = ap (λ (r : Record). r.generation) (record_at-empty count k) in omega arith;
    same = λ actor. refl;
  }
  agrees (txn ∷ earlier) right room =
      let deed = right.0.deed in
      let is : left_by with_write (history_of earlier) txn.writes ≡ with_deed deed (history_of earlier) =
      ap (λ (t : Transaction Q P). left_by with_write (history_of earlier) t.writes) right.0.is in
      let all : length (with_deed deed (history_of earlier)) ≤ ceiling =
      subst (λ (h : List (Entry Q)). length h ≤ ceiling) is room in
      let shorter = no_shorter deed (history_of earlier) in
      subst (λ (t : Transaction Q P). Agrees (left_by with_write (history_of earlier) t.writes)
      (λ k. (stored_record k (t ∷ earlier)).stand)) (sym right.0.is)
      (deed_step earlier deed (history_of earlier) right.0.right all (agrees earlier right.1 (omega arith)))
