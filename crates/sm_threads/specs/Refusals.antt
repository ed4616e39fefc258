-- The answers to calls that a cluster refused. A lack of memory has none, because it ends the run.
use Rattle.std.specs.Prelude.{Option, Some, None}
use Rattle.sm_cluster.specs.AdmitRefusal.{AdmitRefusal}
use Rattle.sm_cluster.specs.AdmitRefusal.TheVariants as admit
use Rattle.sm_cluster.specs.Refusal.TheVariants as server
use Rattle.sm_cluster.specs.CallFault.{CallFault}
use Rattle.sm_cluster.specs.CallFault.TheVariants as call
use Rattle.sm_cluster.specs.declared.hold_fault.HoldFault.{HoldFault}
use Rattle.sm_cluster.specs.declared.hold_fault.HoldFault.TheVariants as hold
use Rattle.sm_cluster.specs.declared.start_fault.StartFault.{StartFault}
use Rattle.sm_cluster.specs.declared.start_fault.StartFault.TheVariants as start
use Rattle.sm_ownership.specs.declared.route_fault.RouteFault.{RouteFault}
use Rattle.sm_ownership.specs.declared.route_fault.RouteFault.TheVariants as route
use Rattle.sm_lines.specs.declared.begin_fault.BeginFault.{BeginFault}
use Rattle.sm_lines.specs.declared.begin_fault.BeginFault.TheVariants as begin
use Rattle.sm_script.specs.declared.refused.Refused.{Refused}
use Rattle.sm_script.specs.declared.refused.Refused.TheVariants as refused
use Rattle.sm_settings.specs.declared.settings_fault.SettingsFault.TheVariants.{TooManyWorkers}

-- why no session could begin, if its cluster wasn't started
abbrev pub begin_fault : StartFault → BeginFault
begin_fault start.TooManyWorkers = begin.Settings TooManyWorkers
begin_fault start.NoMemory = begin.NoMemory
begin_fault start.NoThread = begin.NoThread

-- the refusal of an admission
abbrev pub admit_refused : AdmitRefusal → Refused
admit_refused (admit.Refused fault state) = refused.Admit fault
admit_refused (admit.Raced read found) = refused.Raced

-- the refusal of a hold, of its end, and of a checkpoint
abbrev pub hold_refused : HoldFault → Option Refused
hold_refused hold.UnknownShard = Some refused.UnknownShard
hold_refused hold.UnknownServer = Some refused.UnknownServer
hold_refused (hold.Admit refusal) = Some (admit_refused refusal)
hold_refused hold.NotHeld = Some refused.NotHeld
hold_refused hold.NoMemory = None

-- the refusal of a publication
abbrev pub publish_refused : RouteFault → Option Refused
publish_refused route.UnknownShard = Some refused.UnknownShard
publish_refused route.WrongPhase = Some refused.WrongPhase
publish_refused route.OldRoute = Some refused.OldRoute
publish_refused route.NoMemory = None

-- the refusal of a request
abbrev pub call_refused : CallFault → Option Refused
call_refused call.NoRoute = Some refused.NoRoute
call_refused call.Unreachable = Some refused.Unreachable
call_refused (call.Refused server.WrongShard) = Some refused.WrongShard
call_refused (call.Refused server.TooManyHops) = Some refused.TooManyHops
call_refused (call.Refused (server.Admit refusal)) = Some (admit_refused refusal)
call_refused (call.Refused server.KeptFull) = Some refused.KeptFull
call_refused call.Closed = Some refused.Closed
call_refused _ = None
