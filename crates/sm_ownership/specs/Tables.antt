-- The ownership table: its refusals, and the table after a change, an admission, and the end of an admission.
use Rattle.std.specs.Prelude.{ℕ, true, Option, Some, None, ◌≡◌, ◌<◌, ◌≤◌, nat_lt, not, if◌then◌else◌, List, length}
use Rattle.std.specs.Prelude.{slice_set}
use Rattle.std.specs.Option.{option_or}
use Rattle.sm_ownership.specs.declared.change.Change.{Change}
use Rattle.sm_ownership.specs.declared.change_fault.ChangeFault.{ChangeFault}
use Rattle.sm_ownership.specs.declared.change_fault.ChangeFault.TheVariants.{UnknownShard, Spent, Busy}
use Rattle.sm_ownership.specs.declared.record.Record.{Record}
use Rattle.sm_ownership.specs.declared.entry.Entry.{Entry}
use Rattle.sm_ownership.specs.History.{record_at, table_of, after_change, after_admit, after_done}
use Rattle.sm_ownership.specs.Rules.{phase_fault}

-- the records of the shards, and the greatest generation
pub record TableView : Type 0 where
  pub records : List Record
  pub ceiling : ℕ

-- the table of a history
abbrev pub table_view : {Q : Type 0} → ℕ → ℕ → List (Entry Q) → TableView
table_view count ceiling history = record { records = table_of count ceiling history; ceiling = ceiling }

-- no generation passes the ceiling, and the end of an admission has room below it
pub record IsBelowCeiling (ceiling : ℕ) (state : Record) : Type 0 where
  pub reached : state.generation ≤ ceiling
  pub room : state.admitted ≡ true → state.generation < ceiling

-- the fault of a record that refuses a change although its stand allows it
abbrev pub record_fault : ℕ → Record → Option ChangeFault
record_fault ceiling state =
    if not (nat_lt state.generation ceiling) then Some (Spent state)
    else if state.admitted then Some (Busy state)
    else None

-- the first reason why a record doesn't allow a change
abbrev pub change_fault : ℕ → Record → Change → Option ChangeFault
change_fault ceiling state change = option_or (phase_fault state.stand change) (record_fault ceiling state)

-- the first reason why the table refuses a change of a shard
abbrev pub apply_fault : TableView → ℕ → Change → Option ChangeFault
apply_fault table shard change =
    if not (nat_lt shard (length table.records)) then Some UnknownShard
    else change_fault table.ceiling (record_at table.records shard) change

-- the table with another record of a shard
abbrev pub with_record : TableView → ℕ → Record → TableView
with_record table shard state = record table { records = slice_set table.records shard state }

-- the table after a change that it doesn't refuse
abbrev pub table_changed : TableView → ℕ → Change → TableView
table_changed table shard change = with_record table shard (after_change (record_at table.records shard) change)

-- the table after an admission that it doesn't refuse
abbrev pub table_admitted : TableView → ℕ → TableView
table_admitted table shard = with_record table shard (after_admit (record_at table.records shard))

-- the table after the end of an admission
abbrev pub table_done : TableView → ℕ → TableView
table_done table shard = with_record table shard (after_done (record_at table.records shard))
