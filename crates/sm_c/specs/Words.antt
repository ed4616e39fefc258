-- The statements about calls on words.
use Rattle.std.specs.Prelude.{ℕ, Bool, ◌≡◌, ◌<◌, ◌≤◌, ◌⊎◌, ◌+◌, ◌*◌, ◌^◌, Some, None, true, false}
use Rattle.sm_ranges.specs.declared.limits.TheConstants.{MAX_SERVER}
use Rattle.sm_ranges.specs.Stand.{owner_number, other_number}
use Rattle.sm_ownership.specs.declared.admit_fault.AdmitFault.{AdmitFault}
use Rattle.sm_ownership.specs.declared.change.Change.{Change}
use Rattle.sm_ownership.specs.declared.change.Change.TheVariants.{Assign, PrepareAddShard, PrepareDropShard, AddShard}
use Rattle.sm_ownership.specs.declared.change.Change.TheVariants.{DropShard, Cancel, Pause, Resume, Reassign}
use Rattle.sm_ownership.specs.declared.change_fault.ChangeFault.{ChangeFault}
use Rattle.sm_ownership.specs.declared.mode.Mode.{Mode}
use Rattle.sm_ownership.specs.declared.mode.Mode.TheVariants.{Direct, Forwarded}
use Rattle.sm_ownership.specs.declared.record.Record.{Record}
use Rattle.sm_ownership.specs.declared.record.TheConstants.{MAX_GENERATION}
use Rattle.sm_ownership.specs.History.{after_admit, after_change, after_done}
use Rattle.sm_ownership.specs.Rules.{accepts, admit_fault}
use Rattle.sm_ownership.specs.Tables.{change_fault}
use Rattle.sm_word.specs.Word.{IsWellFormed, bit_of, phase_of, word_of}
use Rattle.sm_c.specs.Codes.{admit_fault_code, change_fault_code}
use Rattle.sm_c.specs.declared.record_parts.RecordParts.{RecordParts}

-- a change has this kind, and names this server if it names one
abbrev pub IsOfKind : ℕ → ℕ → Change → Type 0
IsOfKind kind server (Assign named) = (kind ≡ 1) × (server ≡ named)
IsOfKind kind server (PrepareAddShard named) = (kind ≡ 2) × (server ≡ named)
IsOfKind kind server PrepareDropShard = kind ≡ 3
IsOfKind kind server AddShard = kind ≡ 4
IsOfKind kind server DropShard = kind ≡ 5
IsOfKind kind server Cancel = kind ≡ 6
IsOfKind kind server Pause = kind ≡ 7
IsOfKind kind server Resume = kind ≡ 8
IsOfKind kind server (Reassign named) = (kind ≡ 9) × (server ≡ named)

-- the number is no server's
abbrev pub IsNoServer : ℕ → Type 0
IsNoServer number = (number ≡ 0) ⊎ (MAX_SERVER < number)

-- no change has this kind, or it names a server and the number isn't a server's
abbrev pub IsNoChange : ℕ → ℕ → Type 0
IsNoChange kind server = (kind ≡ 0) ⊎ (9 < kind) ⊎ (((kind ≤ 2) ⊎ (kind ≡ 9)) × IsNoServer server)

-- a request came from this server, or directly if it is 0
abbrev pub CameFrom : ℕ → Mode → Type 0
CameFrom from Direct = from ≡ 0
CameFrom from (Forwarded server) = from ≡ server

-- no record has this word
abbrev pub IsNoWord : ℕ → Type 0
IsNoWord word = (state : Record) → IsWellFormed state → word_of state ≡ word → ⊥

-- the word of the record after this change, which no fault forbids
abbrev pub ChangesBy : ℕ → ℕ → Change → ℕ → Type 0
ChangesBy word ceiling change next =
    (state : Record) × IsWellFormed state × (word_of state ≡ word)
    × (change_fault ceiling state change ≡ None) × (next ≡ word_of (after_change state change))
    × IsWellFormed (after_change state change)

-- the same of the change of this kind and server
abbrev pub ChangesWord : ℕ → ℕ → ℕ → ℕ → ℕ → Type 0
ChangesWord word kind server ceiling next =
    (change : Change) × IsOfKind kind server change × ChangesBy word ceiling change next

-- as the code says, the ceiling is above the greatest generation, or no record has the word
abbrev pub HasNoStep : ℕ → ℕ → ℕ → Type 0
HasNoStep word ceiling code = ((code ≡ 5) × (MAX_GENERATION < ceiling)) ⊎ ((code ≡ 4) × IsNoWord word)

-- the same, or its record forbids the change by the fault of the code
abbrev pub ForbidsBy : ℕ → ℕ → Change → ℕ → Type 0
ForbidsBy word ceiling change code =
    HasNoStep word ceiling code
    ⊎ ((state : Record) × (fault : ChangeFault) × IsWellFormed state × (word_of state ≡ word)
    × (change_fault ceiling state change ≡ Some fault) × (code ≡ change_fault_code fault))

-- there is no such change; or the same of the change of this kind and server
abbrev pub ForbidsChange : ℕ → ℕ → ℕ → ℕ → ℕ → Type 0
ForbidsChange word kind server ceiling code =
    ((code ≡ 2) × IsNoChange kind server)
    ⊎ ((change : Change) × IsOfKind kind server change × ForbidsBy word ceiling change code)

-- the word of the record after an admission, which no fault forbids and which can end
abbrev pub AdmitsBy : ℕ → ℕ → ℕ → Mode → ℕ → Type 0
AdmitsBy word ceiling server mode next =
    (state : Record) × IsWellFormed state × (word_of state ≡ word)
    × (admit_fault ceiling state server mode ≡ None) × (next ≡ word_of (after_admit state))
    × IsWellFormed (after_admit state) × IsWellFormed (after_done (after_admit state))

abbrev pub AdmitsWord : ℕ → ℕ → ℕ → ℕ → ℕ → Type 0
AdmitsWord word server from ceiling next = (mode : Mode) × CameFrom from mode × AdmitsBy word ceiling server mode next

-- there is no word to step from, or its record doesn't admit the server for a request that came so, by the fault of the
-- code
abbrev pub RefusesBy : ℕ → ℕ → ℕ → Mode → ℕ → Type 0
RefusesBy word ceiling server mode code =
    HasNoStep word ceiling code
    ⊎ ((state : Record) × (fault : AdmitFault) × IsWellFormed state × (word_of state ≡ word)
    × (admit_fault ceiling state server mode ≡ Some fault) × (code ≡ admit_fault_code fault))

-- a number isn't a server's, or the same for a request that came from this server, or directly if it is 0
abbrev pub RefusesWord : ℕ → ℕ → ℕ → ℕ → ℕ → Type 0
RefusesWord word server from ceiling code =
    ((code ≡ 2) × (IsNoServer server ⊎ (MAX_SERVER < from)))
    ⊎ ((mode : Mode) × CameFrom from mode × RefusesBy word ceiling server mode code)

-- the word of the record after the end of its admission
abbrev pub EndsWord : ℕ → ℕ → Type 0
EndsWord word next =
    (state : Record) × IsWellFormed state × (word_of state ≡ word)
    × (state.admitted ≡ true) × (next ≡ word_of (after_done state)) × IsWellFormed (after_done state)

-- the record of this word has no admission, or the greatest generation, so that none can end
abbrev pub HasNoEnd : ℕ → Type 0
HasNoEnd word =
    (state : Record) × IsWellFormed state × (word_of state ≡ word)
    × ((state.admitted ≡ false) ⊎ (state.generation ≡ MAX_GENERATION))

-- the parts are those of this record
abbrev pub ArePartsOf : RecordParts → Record → Type 0
ArePartsOf parts state =
    (parts.phase ≡ phase_of state.stand) × (parts.admitted ≡ state.admitted) × (parts.owner ≡ owner_number state.stand)
    × (parts.other ≡ other_number state.stand) × (parts.generation ≡ state.generation)

-- each part has room in a word
abbrev pub FitWord : RecordParts → Type 0
FitWord parts =
    (parts.phase ≤ 5) × (parts.owner < 4096) × (parts.other < 4096) × (parts.generation ≤ MAX_GENERATION)

-- the word of these parts
abbrev pub parts_word : RecordParts → ℕ
parts_word parts =
    parts.phase * 2 ^ 61 + bit_of parts.admitted * 2 ^ 60 + parts.owner * 2 ^ 48 + parts.other * 2 ^ 36
    + parts.generation

-- no record has these parts
abbrev pub HasNoRecord : RecordParts → Type 0
HasNoRecord parts = (state : Record) → IsWellFormed state → ArePartsOf parts state → ⊥

-- the word of the record that has these parts
abbrev pub PacksParts : RecordParts → ℕ → Type 0
PacksParts parts word = (state : Record) × IsWellFormed state × (word_of state ≡ word) × ArePartsOf parts state

-- whether the record with this word has the server execute a request that came like this
abbrev pub AcceptsWord : ℕ → ℕ → ℕ → Bool → Type 0
AcceptsWord word server from answer =
    (state : Record) × (mode : Mode) × IsWellFormed state × (word_of state ≡ word) × CameFrom from mode
    × (accepts state server mode ≡ answer)
