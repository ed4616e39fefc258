-- Books and the store agree: each shard has the stand in its record, and each server is in its state.
use Rattle.std.proofs.Common.{◌≡◌, ◌≢◌, ℕ, ◌<◌, false, List, ◌∷◌, length, map, get_or, set}
use Rattle.std.proofs.Common.{refl, sym, ap, subst, ◌∙◌, inl, inr, ⊎_elim, arith, eqb}
use Rattle.std.specs.Prelude.{◌==◌, unwrap_or, if◌then◌else◌}
use Rattle.std.specs.List.{range_with_len}
use Rattle.std.specs.List.Sorted.{IsStrictlyIncreasing}
use Rattle.std.proofs.lemmas.Bool.{cases_eq, eq-eqb, ne_eqb, eqb-false, cond-true, cond-false}
use Rattle.std.proofs.lemmas.Bool.Decides.{eqb_tells}
use Rattle.std.proofs.lemmas.List.{get_or-map, get_or-set_other, get_or-set_same, length-map}
use Rattle.std.proofs.lemmas.List.FromFn.{fill_by_all, get_or-map-range_with_len, length-map-range_with_len}
use Rattle.std.proofs.lemmas.List.Kept.{AllPairs-from_increasing}
use Rattle.std.proofs.lemmas.List.Sums.{position_or_len_is}
use Rattle.std.proofs.Math.Seq.{map-set_same}
use Rattle.sm_ranges.specs.declared.stand.Stand.{Stand}
use Rattle.sm_ownership.specs.declared.change.Change.{Change as AnyChange}
use Rattle.sm_ownership.specs.declared.record.Record.{Record}
use Rattle.sm_ownership.specs.History.{after_change}
use Rattle.sm_ownership.specs.Rules.{stand_after}
use Rattle.sm_rows.specs.declared.server_row.ServerRow.{ServerRow}
use Rattle.sm_rows.specs.declared.shard_row.ShardRow.{ShardRow}
use Rattle.sm_place.specs.declared.server_state.ServerState.{ServerState}
use Rattle.sm_place.specs.declared.server_state.ServerState.TheVariants.{Up}
use Rattle.sm_place.specs.declared.shard.Shard.{Shard}
use Rattle.sm_place.specs.Books.{BooksView, IsKnown, moved, no_server, no_shard, place_of, shard_at}
use Rattle.sm_place.specs.Books.{with_stand, with_state}
use Rattle.sm_place.specs.Sound.{AreSound}
use Rattle.sm_place.specs.lemmas.Changed.{id-at_place, length-with_stand, same_place, shard_at-other, shard_at-same}
use Rattle.sm_place.specs.lemmas.Changed.{state_of-set}
use Rattle.sm_desk.specs.declared.command.Command.{Command}
use Rattle.sm_desk.specs.declared.command.Command.TheVariants.{Change, Ask, Approve, Stopped, Back, Fail}
use Rattle.sm_desk.specs.Desk.{books_changed, books_commanded}
use Rattle.sm_store.specs.declared.server_run.ServerRun.{ServerRun}
use Rattle.sm_store.specs.Store.{Placement, Transaction, placement_of, stored_process, stored_record, stored_run}
use Rattle.sm_store.specs.Deeds.{Changing, Restarting, transaction_of}
use Rattle.sm_lead.specs.Commands.{unentered}
use Rattle.sm_store.specs.Settings.{SettingsRows, books_in}
use Rattle.sm_lead.specs.Placements.{Agrees, rows_of}

-- each of ascending numbers is below the later ones
rising : (servers : List ServerRow) → IsStrictlyIncreasing (map (λ row. row.id) servers) → (i j : ℕ) → i < j
    → j < length servers
    → (get_or servers i no_server).id < (get_or servers j no_server).id
rising servers rise i j h inside =
    let ids = map (λ row. row.id) servers in
    let before : get_or ids i 0 ≡ (get_or servers i no_server).id =
    get_or-map (λ row. row.id) servers i no_server 0 (omega arith) in
    let after : get_or ids j 0 ≡ (get_or servers j no_server).id =
    get_or-map (λ row. row.id) servers j no_server 0 inside in
    let within : j < length ids = simp length-map inside in
    omega (arith, before, after, AllPairs-from_increasing ids rise i j 0 h within)

-- the first row with a number is the one that has it
place_of-row : (servers : List ServerRow) (i : ℕ) → IsStrictlyIncreasing (map (λ row. row.id) servers)
    → i < length servers
    → place_of servers (get_or servers i no_server).id ≡ i
place_of-row servers i rise h =
    position_or_len_is (λ row. eqb row.id (get_or servers i no_server).id) servers i no_server (omega arith)
    (λ k below. other k below)
    (λ _. eq-eqb _ _ refl)
  where
    other : (k : ℕ) → k < i → eqb (get_or servers k no_server).id (get_or servers i no_server).id ≡ false
    other k below = elim (eqb_tells (get_or servers k no_server).id (get_or servers i no_server).id) [
      | inl p ↦ absurd (omega (arith, p.1, rising servers rise k i below h))
      | inr p ↦ p.0
    ]

shard_is : (shard : Shard) (row : ShardRow) (stand : Stand) → shard.row ≡ row → shard.stand ≡ stand
    → shard ≡ record { row = row; stand = stand }
shard_is shard row stand row_is stand_is =
    ap (λ (r : ShardRow). record { row = r; stand = shard.stand }) row_is
    ∙ ap (λ (s : Stand). record { row = row; stand = s }) stand_is

-- the shard of these rows and records
abbrev pub shard_in : List ShardRow → Placement → ℕ → Shard
shard_in rows placement k =
    record { row = get_or rows k no_shard.row; stand = (placement.records k).stand }

-- books that agree are the ones of their rows
pub same_books : (books : BooksView) (placement : Placement) → AreSound books → Agrees books placement
    → books ≡ books_in (rows_of books) placement
same_books books placement sound agrees =
    let rows = map (λ (shard : Shard). shard.row) books.shards in
    let many : length books.shards ≡ length rows = sym (length-map books.shards (λ (shard : Shard). shard.row)) in
    let shards : books.shards ≡ map (shard_in rows placement) (range_with_len 0 (length rows)) =
    fill_by_all (shard_in rows placement) books.shards (length rows) no_shard many
    (λ k below. shard_is (get_or books.shards k no_shard) (get_or rows k no_shard.row) (placement.records k).stand
    (sym (get_or-map (λ (shard : Shard). shard.row) books.shards k no_shard no_shard.row (omega arith)))
    (agrees.stands k (omega arith))) in
    let state : ℕ → ServerState = λ i. placement.states (get_or books.servers i no_server).id in
    let count = length books.servers in
    let states_len = sound.states in
    let old : books.states ≡ map state (range_with_len 0 count) =
    fill_by_all state books.states count Up states_len
    (λ i below.
    let place = place_of-row books.servers i sound.servers_rise below in
    let known : IsKnown books.servers (get_or books.servers i no_server).id = omega arith in
    ap (λ (j : ℕ). get_or books.states j Up) (sym place) ∙ agrees.states (get_or books.servers i no_server).id known) in
    let new : map (λ (row : ServerRow). placement.states row.id) books.servers ≡ map state (range_with_len 0 count) =
    fill_by_all state (map (λ (row : ServerRow). placement.states row.id) books.servers) count Up
    (length-map books.servers (λ (row : ServerRow). placement.states row.id))
    (λ i below. get_or-map (λ (row : ServerRow). placement.states row.id) books.servers i no_server Up below) in
    ap (λ (s : List Shard). record books { shards = s }) shards
    ∙ ap (λ (s : List ServerState). record (books_in (rows_of books) placement) { states = s }) (old ∙ sym new)

-- the books of rows agree
pub agrees_in : (rows : SettingsRows) (placement : Placement) → Agrees (books_in rows placement) placement
agrees_in rows placement = record {
  stands = λ k below.
      let inside : k < length rows.shards = subst (λ (n : ℕ). k < n)
      (length-map-range_with_len (shard_in rows.shards placement) 0 (length rows.shards)) below in
      ap (λ (shard : Shard). shard.stand)
      (get_or-map-range_with_len (shard_in rows.shards placement) 0 (length rows.shards) k k no_shard inside
      (omega arith));
  states = λ a known.
      get_or-map (λ (row : ServerRow). placement.states row.id) rows.servers
      (place_of rows.servers a) no_server Up known
      ∙ ap placement.states (id-at_place rows.servers a known);
}

shard_rows : (rows : List ShardRow) (placement : Placement)
    → map (λ (shard : Shard). shard.row) (map (shard_in rows placement) (range_with_len 0 (length rows))) ≡ rows
shard_rows rows placement =
    let count = length rows in
    let row : ℕ → ShardRow = λ k. get_or rows k no_shard.row in
    let made = map (shard_in rows placement) (range_with_len 0 count) in
    let long : length made ≡ count = length-map-range_with_len (shard_in rows placement) 0 count in
    fill_by_all row (map (λ (shard : Shard). shard.row) made) count no_shard.row
    (length-map made (λ (shard : Shard). shard.row) ∙ long)
    (λ k below. get_or-map (λ (shard : Shard). shard.row) made k no_shard no_shard.row (omega arith)
    ∙ ap (λ (shard : Shard). shard.row)
    (get_or-map-range_with_len (shard_in rows placement) 0 count k k no_shard below (omega arith)))
    ∙ sym (fill_by_all row rows count no_shard.row refl (λ k below. refl))

-- the rows of the books of rows are these
pub rows_in : (rows : SettingsRows) (placement : Placement) → rows_of (books_in rows placement) ≡ rows
rows_in rows placement =
    ap (λ (shards : List ShardRow). record rows { shards = shards }) (shard_rows rows.shards placement)

-- a command leaves the rows
pub rows_commanded : (books : BooksView) (command : Command)
    → rows_of (books_commanded books command) ≡ rows_of books
rows_commanded books (Change k change) =
    let stand = (shard_at books.shards k).stand in
    ap (λ (shards : List ShardRow). record (rows_of books) { shards = shards })
    (map-set_same (λ (shard : Shard). shard.row) books.shards k
    (moved (shard_at books.shards k) (unwrap_or (stand_after stand change) stand)) no_shard refl)
rows_commanded books (Ask a) = refl
rows_commanded books (Approve a) = refl
rows_commanded books (Stopped a) = refl
rows_commanded books (Back a) = refl
rows_commanded books (Fail a) = refl

module _ {Q P : Type 0} where
  -- the store after a change, and after a step of a restart
  abbrev pub changed_log : ℕ → ℕ → AnyChange → Record → ℕ → ℕ → List (Transaction Q P) → List (Transaction Q P)
  changed_log process k change next elected placed past =
      transaction_of (Changing process k change next elected placed) ∷ past

  abbrev pub entered_log : ℕ → ℕ → ServerRun → ℕ → ℕ → List (Transaction Q P) → List (Transaction Q P)
  entered_log process a run elected placed past = transaction_of (Restarting process a run elected placed) ∷ past

  pub agrees_changed : (books : BooksView) (past : List (Transaction Q P)) (process k : ℕ) (change : AnyChange)
      (next : Record) (elected placed : ℕ) → k < length books.shards
      → next ≡ after_change (stored_record k past) change → Agrees books (placement_of past)
      → Agrees (books_changed books k change) (placement_of (changed_log process k change next elected placed past))
  agrees_changed books past process k change next elected placed within is agrees =
      let stand = (shard_at books.shards k).stand in
      let new = unwrap_or (stand_after stand change) stand in
      record {
        stands = λ j below.
            ⊎_elim
            (λ (same : j ≡ k).
            subst (λ (i : ℕ). (shard_at (with_stand books.shards k new) i).stand
            ≡ (if k == i then next else stored_record i past).stand) (sym same)
            (ap (λ (shard : Shard). shard.stand) (shard_at-same books.shards k new within)
            ∙ ap (λ (s : Stand). unwrap_or (stand_after s change) s) (agrees.stands k within)
            ∙ ap (λ (r : Record). r.stand) (sym is)
            ∙ ap (λ (r : Record). r.stand) (sym (cond-true (k == k) next (stored_record k past) (eq-eqb k k refl)))))
            (λ (apart : j ≢ k).
            let long = length-with_stand books.shards k new in
            ap (λ (shard : Shard). shard.stand) (shard_at-other books.shards k j new apart)
            ∙ agrees.stands j (omega arith)
            ∙ ap (λ (r : Record). r.stand) (sym (cond-false (k == j) next (stored_record j past)
            (ne_eqb k j (λ same. apart (sym same))))))
            (cases_eq j k);
        states = λ a known. agrees.states a known;
      }

  pub agrees_entered : (books : BooksView) (past : List (Transaction Q P)) (process a : ℕ) (run : ServerRun)
      (elected placed : ℕ) → length books.states ≡ length books.servers → IsKnown books.servers a
      → Agrees books (placement_of past)
      → Agrees (with_state books a run.state) (placement_of (entered_log process a run elected placed past))
  agrees_entered books past process a run elected placed long within agrees = record {
    stands = λ j below. agrees.stands j below;
    states = λ b known.
        elim (state_of-set books a b run.state long within) [
          | inl p ↦ p.1 ∙ ap (λ (r : ServerRun). r.state)
              (sym (cond-true (a == b) run (stored_run b past) (eq-eqb a b (sym p.0))))
          | inr p ↦
              p.1 ∙ agrees.states b known
              ∙ ap (λ (r : ServerRun). r.state) (sym (cond-false (a == b) run (stored_run b past)
              (ne_eqb a b (λ same. eqb-false b a p.0 (sym same)))))
        ];
  }

  -- the readings of the processes that the states of servers name, once the state of server a was written
  pub processes_entered : (runs : List ServerRun) (servers : List ServerRow) (past : List (Transaction Q P))
      (process a : ℕ) (run : ServerRun) (elected placed : ℕ) → length runs ≡ length servers → IsKnown servers a
      → (b : ℕ) → (get_or runs (place_of servers b) unentered).process ≡ stored_process b past
      → (get_or (set runs (place_of servers a) run) (place_of servers b) unentered).process
      ≡ stored_process b (entered_log process a run elected placed past)
  processes_entered runs servers past process a run elected placed long within b was =
      let inside : place_of servers a < length runs = rw long within in
      ⊎_elim
      (λ (same : b ≡ a).
      ap (λ (i : ℕ). (get_or (set runs (place_of servers a) run) (place_of servers i) unentered).process) same
      ∙ ap (λ (r : ServerRun). r.process) (get_or-set_same runs (place_of servers a) run unentered inside)
      ∙ ap (λ (r : ServerRun). r.process)
      (sym (cond-true (a == b) run (stored_run b past) (eq-eqb a b (sym same)))))
      (λ (apart : b ≢ a).
      ap (λ (r : ServerRun). r.process)
      (get_or-set_other runs (place_of servers a) (place_of servers b) run unentered
      (λ same. apart (same_place servers a b within same)))
      ∙ was
      ∙ ap (λ (r : ServerRun). r.process)
      (sym (cond-false (a == b) run (stored_run b past) (ne_eqb a b (λ same. apart (sym same))))))
      (cases_eq b a)
