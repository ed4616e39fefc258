-- A session on a cluster as contracts see it, and its beginning.
use Rattle.std.specs.Prelude.{◌≡◌, ◌*◌, ◌<◌, ◌≤◌, ⊤, All, List, None, [], length, map, replicate}
use Rattle.sm_cluster.specs.Calls.{ClientValue}
use Rattle.sm_cluster.specs.Clusters.{ClusterValue, IsClientOf, KnowsAll}
use Rattle.sm_cluster.specs.Teams.{teams_of}
use Rattle.sm_cluster.specs.declared.TheConstants.{MAX_WORKERS}
use Rattle.sm_session.specs.Beginning.{settings_desk}
use Rattle.sm_lines.specs.declared.begin_fault.BeginFault.{BeginFault}
use Rattle.sm_lines.specs.declared.begin_fault.BeginFault.TheVariants as begin
use Rattle.sm_service.specs.declared.request.Request.{Request}
use Rattle.sm_settings.specs.SettingsLine.{SettingsValues}
use Rattle.sm_settings.specs.declared.settings_fault.SettingsFault.TheVariants.{TooManyWorkers}
use Rattle.sm_threads.specs.declared.cluster_backend.TheConstants.{LOADERS}

-- its cluster, the client that makes the script's requests, and the clients that make loads
pub record SessionValue : Type 0 where
  pub cluster : ClusterValue Request
  pub client : ClientValue Request
  pub loaders : List (ClientValue Request)

-- the client is the cluster's, whose board has a shard for each range, and has seen everything that the cluster tells
abbrev pub IsWhole : SessionValue → Type 0
IsWhole session =
    IsClientOf session.cluster session.client
    × (session.cluster.control.chair.board.limits.count ≡ length session.cluster.bounds)
    × KnowsAll session.cluster session.client

-- a client of the cluster that has read no route: of its board, with its bounds, and with a router of its map
abbrev pub IsNewClientOf : ClusterValue Request → ClientValue Request → Type 0
IsNewClientOf cluster client =
    IsClientOf cluster client × (client.router ≡ record { table = cluster.map.table; seen = [] })

-- the session that settings begin: its cluster has the desk, the ranges and the limits that they ask for, and as many
-- workers, which aren't too many; its clients are new, and nothing has happened in it
pub record IsBegun (settings : SettingsValues) (session : SessionValue) : Type 0 where
  pub desk : session.cluster.control.desk ≡ settings_desk settings
  pub seen : session.cluster.control.chair.seen ≡ []
  pub ceiling : session.cluster.control.chair.board.limits.ceiling ≡ settings.ceiling
  pub kept : session.cluster.control.chair.board.limits.bodies ≡ replicate (length settings.bounds) settings.kept
  pub bounds : session.cluster.bounds ≡ settings.bounds
  pub holds : session.cluster.holds ≡ replicate (length settings.bounds) None
  pub teams : session.cluster.teams ≡ teams_of settings.workers (map (λ row. row.id) settings.servers)
  pub map : session.cluster.map.map ≡ record { count = length settings.bounds; published = [] }
  pub workers : length settings.servers * settings.workers ≤ MAX_WORKERS
  pub shards : session.cluster.control.chair.board.limits.count ≡ length settings.bounds
  pub client : IsNewClientOf session.cluster session.client
  pub loaders : All (IsNewClientOf session.cluster) session.loaders
  pub enough : length session.loaders ≡ LOADERS

-- why no session is begun: too many workers, or want of memory or of a thread, which no clause can tell
abbrev pub MayRefuse : SettingsValues → BeginFault → Type 0
MayRefuse settings (begin.Settings fault) =
    (fault ≡ TooManyWorkers) × (MAX_WORKERS < length settings.servers * settings.workers)
MayRefuse settings begin.NoMemory = ⊤
MayRefuse settings begin.NoThread = ⊤
