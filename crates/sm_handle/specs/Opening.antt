-- Boards that handles open.
use Rattle.std.specs.Prelude.{ℕ, ◌≡◌, ◌≢◌, List, length, map, replicate, Option, Some, Ok, Err}
use Rattle.sm_foreign.specs.Chiefs.{IsControlBy, first_desk, foreign_of}
use Rattle.sm_foreign.specs.Refusals.{OpensNothingBy}
use Rattle.sm_foreign.specs.declared.foreign.Foreign.{Foreign}
use Rattle.sm_settings.specs.SettingsLine.{SettingsValues, settings_of}
use Rattle.sm_settings.specs.declared.settings_fault.SettingsFault.TheVariants.{NoMemory}
use Rattle.sm_handle_state.specs.declared.handle_state.HandleState.{HandleState}
use Rattle.sm_handle_state.specs.declared.handle_state.HandleState.TheVariants.{Chief, Layout, TextChief}
use Rattle.sm_handle.specs.declared.settings_open_fault.SettingsOpenFault.{SettingsOpenFault}
use Rattle.sm_handle.specs.declared.settings_open_fault.SettingsOpenFault.TheVariants.{Open, Settings}

-- the limits that a board keeps for bodies of these numbers, which are the numbers
abbrev pub foreign_limits : List ℕ → List ℕ
foreign_limits numbers = map (λ (body : Foreign). body.number) (foreign_of numbers)

-- the handle keeps the control of a new board with a body for each number, of so many servers, under this cap of
-- restarts and this ceiling, whose tokens begin after this number
abbrev pub IsOpened : Option HandleState → List ℕ → ℕ → ℕ → ℕ → ℕ → Type 0
IsOpened (Some (Chief chief)) numbers servers ops ceiling after =
    let board = chief.held.value.chair.board in
    (board.limits.count ≡ length numbers) × (board.limits.ceiling ≡ ceiling)
    × (board.limits.bodies ≡ foreign_limits numbers)
    × (chief.held.value.desk ≡ first_desk servers (length numbers) ops) × (chief.fence.after ≡ after)
IsOpened state numbers servers ops ceiling after = ⊥

-- the handle keeps the control of a new board of so many empty bodies that keep so many requests each, of so many
-- servers, under this cap of restarts and this ceiling
abbrev pub IsServiceOpened : Option HandleState → ℕ → ℕ → ℕ → ℕ → ℕ → Type 0
IsServiceOpened (Some (TextChief chief)) count kept servers ops ceiling =
    (chief.value.chair.board.limits.count ≡ count) × (chief.value.chair.board.limits.ceiling ≡ ceiling)
    × (chief.value.chair.board.limits.bodies ≡ replicate count kept)
    × (chief.value.desk ≡ first_desk servers count ops)
IsServiceOpened state count kept servers ops ceiling = ⊥

-- the handle keeps the control of a new board of empty bodies of the sample service, as the settings say
abbrev pub KeepsService : Option HandleState → SettingsValues → Type 0
KeepsService (Some (TextChief chief)) settings =
    IsControlBy chief.value (replicate (length settings.shards) settings.kept) settings
KeepsService state settings = ⊥

-- the handle keeps the control of a new board with a body for each number, as the settings say, whose tokens begin
-- after this number
abbrev pub KeepsBoard : Option HandleState → SettingsValues → List ℕ → ℕ → Type 0
KeepsBoard (Some (Chief chief)) settings numbers after =
    IsControlBy chief.held.value (foreign_limits numbers) settings × (chief.fence.after ≡ after)
KeepsBoard state settings numbers after = ⊥

-- the handle keeps the layout with these bounds
abbrev pub KeepsLayout : Option HandleState → List (List ℕ) → Type 0
KeepsLayout (Some (Layout kept)) bounds = kept ≡ bounds
KeepsLayout state bounds = ⊥

-- the line has settings of so many shards, and the handles keep the control of a board of the sample service, and the
-- layout, by these settings
abbrev pub OpensService : List ℕ → Option HandleState → Option HandleState → ℕ → Type 0
OpensService line control layout count =
    (settings : SettingsValues) × (settings_of line ≡ Ok settings) × KeepsService control settings
    × KeepsLayout layout settings.bounds × (count ≡ length settings.shards)

-- the same of a board with a body for each number, whose tokens begin after this one
abbrev pub OpensBoard : List ℕ → List ℕ → ℕ → Option HandleState → Option HandleState → Type 0
OpensBoard line numbers after control layout =
    (settings : SettingsValues) × (settings_of line ≡ Ok settings) × KeepsBoard control settings numbers after
    × KeepsLayout layout settings.bounds

-- why the line opens no board with so many bodies: its first fault, or it has another number of shards, or memory was
-- refused
abbrev pub OpensNoBoard : List ℕ → ℕ → SettingsOpenFault → Type 0
OpensNoBoard line count (Settings fault) = fault ≢ NoMemory → settings_of line ≡ Err fault
OpensNoBoard line count (Open fault) =
    (settings : SettingsValues) × (settings_of line ≡ Ok settings) × OpensNothingBy count settings fault

-- the same of a board with a body for each of its shards
abbrev pub OpensNoService : List ℕ → SettingsOpenFault → Type 0
OpensNoService line (Settings fault) = fault ≢ NoMemory → settings_of line ≡ Err fault
OpensNoService line (Open fault) =
    (settings : SettingsValues) × (settings_of line ≡ Ok settings)
    × OpensNothingBy (length settings.shards) settings fault
