-- The statements about calls on handles.
use Rattle.std.specs.Prelude.{ℕ, ◌≡◌, ◌<◌, ◌⊎◌, Option, Ok, Err}
use Rattle.sm_ranges.specs.declared.limits.TheConstants.{MAX_SERVER, MAX_SHARD}
use Rattle.sm_ownership.specs.declared.change.Change.{Change}
use Rattle.sm_ownership.specs.declared.mode.Mode.{Mode}
use Rattle.sm_ownership.specs.declared.record.Record.{Record}
use Rattle.sm_desk.specs.declared.command.Command.{Command}
use Rattle.sm_desk.specs.declared.command.Command.TheVariants.{Change as ChangeOf, Ask, Approve, Stopped, Back, Fail}
use Rattle.sm_handle.specs.Acts.{AdmitsHandle, CommandsHandle, LooksHandle, RefusesHandle}
use Rattle.sm_handle.specs.Plans.{IsMove, IsPlanOf}
use Rattle.sm_word.specs.Word.{server_of}
use Rattle.sm_handle.specs.ActFault.{ActFault}
use Rattle.sm_handle.specs.HandleState.{HandleState}
use Rattle.sm_c.specs.Codes.{act_fault_code, pass_code}
use Rattle.sm_c.specs.Reading.{TellsAdmission, TellsRecord, act_read}
use Rattle.sm_c.specs.Words.{ArePartsOf, CameFrom, IsNoChange, IsNoServer, IsOfKind}
use Rattle.sm_c.specs.declared.record_parts.RecordParts.{RecordParts}

-- a step of a server's restart has this kind
abbrev pub IsStep : ℕ → ℕ → Command → Type 0
IsStep kind server (Ask named) = (kind ≡ 1) × (server ≡ named)
IsStep kind server (Approve named) = (kind ≡ 2) × (server ≡ named)
IsStep kind server (Stopped named) = (kind ≡ 3) × (server ≡ named)
IsStep kind server (Back named) = (kind ≡ 4) × (server ≡ named)
IsStep kind server (Fail named) = (kind ≡ 5) × (server ≡ named)
IsStep kind server (ChangeOf shard change) = ⊥

-- no step has this kind, or the number is no server's
abbrev pub IsNoStep : ℕ → ℕ → Type 0
IsNoStep kind server = IsNoServer server ⊎ (kind ≡ 0) ⊎ (5 < kind)

-- the pass is admitted to the shard for a request that came in this mode, and the number is that of the shard's body
abbrev pub AdmitsFrom : Option HandleState → Option HandleState → ℕ → ℕ → ℕ → Type 0
AdmitsFrom before after shard from number =
    (mode : Mode) × CameFrom from mode × AdmitsHandle before after shard mode number

-- no shard, or no server, has the number, as the code says
abbrev pub NamesNothing : ℕ → ℕ → ℕ → Type 0
NamesNothing shard from code = ((code ≡ 10) × (MAX_SHARD < shard)) ⊎ ((code ≡ 2) × (MAX_SERVER < from))

-- no shard or no server has the number, and nothing was done; or the pass has looked and isn't admitted, and the parts
-- are those of the record that was read; and the code says why
abbrev pub RefusesFrom :
    Option HandleState → Option HandleState → ℕ → ℕ → RecordParts → RecordParts → ℕ → Type 0
RefusesFrom before after shard from unread read code =
    ((after ≡ before) × (read ≡ unread) × NamesNothing shard from code)
    ⊎ ((mode : Mode) × (fault : ActFault) × CameFrom from mode × RefusesHandle before after shard mode fault
    × TellsRecord (act_read fault) unread read × (code ≡ pass_code fault))

-- the same, and the word is that of the record that was read
abbrev pub RefusesByWord : Option HandleState → Option HandleState → ℕ → ℕ → ℕ → ℕ → ℕ → Type 0
RefusesByWord before after shard from unread read code =
    ((after ≡ before) × (read ≡ unread) × NamesNothing shard from code)
    ⊎ ((mode : Mode) × (fault : ActFault) × CameFrom from mode × RefusesHandle before after shard mode fault
    × TellsAdmission fault unread read × (code ≡ pass_code fault))

-- the pass has seen more, in which these are the parts of the shard's record
abbrev pub LooksAt : Option HandleState → Option HandleState → ℕ → RecordParts → Type 0
LooksAt before after shard parts = (state : Record) × ArePartsOf parts state × LooksHandle before after shard state

-- the control made the change of this kind and server
abbrev pub ChangesBoard : Option HandleState → Option HandleState → ℕ → ℕ → ℕ → Type 0
ChangesBoard before after shard kind server =
    (change : Change) × IsOfKind kind server change × CommandsHandle before after (ChangeOf shard change) (Ok tt)

-- there is no such shard or change, and nothing was done; or the control refused a change of this kind and server, its
-- desk is as it was, and the parts are those of the record that was read; and the code says why
abbrev pub RefusesChange :
    Option HandleState → Option HandleState → ℕ → ℕ → ℕ → RecordParts → RecordParts → ℕ → Type 0
RefusesChange before after shard kind server unread read code =
    ((after ≡ before) × (read ≡ unread)
    × (((code ≡ 10) × (MAX_SHARD < shard)) ⊎ ((code ≡ 2) × IsNoChange kind server)))
    ⊎ ((change : Change) × (fault : ActFault) × IsOfKind kind server change
    × CommandsHandle before after (ChangeOf shard change) (Err fault) × TellsRecord (act_read fault) unread read
    × (code ≡ act_fault_code fault))

-- the control made the step of this kind of the server's restart
abbrev pub Restarts : Option HandleState → Option HandleState → ℕ → ℕ → Type 0
Restarts before after kind server =
    (step : Command) × IsStep kind server step × CommandsHandle before after step (Ok tt)

-- there is no such step, and nothing was done; or the control refused one of this kind; and the code says why
abbrev pub RefusesRestart : Option HandleState → Option HandleState → ℕ → ℕ → ℕ → Type 0
RefusesRestart before after kind server code =
    ((after ≡ before) × (code ≡ 2) × IsNoStep kind server)
    ⊎ ((step : Command) × (fault : ActFault) × IsStep kind server step × CommandsHandle before after step (Err fault)
    × (code ≡ act_fault_code fault))

-- the plan of the control for the shards that this server serves, or for 0 for the vacant ones
abbrev pub PlansFrom : Option HandleState → Option HandleState → ℕ → Type 0
PlansFrom chief plan from = IsPlanOf chief plan (server_of from)

-- the move at this place of the plan is that of the shard to the server
abbrev pub MovesTo : Option HandleState → ℕ → ℕ → ℕ → Type 0
MovesTo plan at shard server = IsMove plan at (record { shard = shard; to = server })
