-- Clusters as contracts see them, and the result of a cluster's stop.
use Rattle.std.specs.Prelude.{ℕ, ◌≡◌, ◌≤◌, ◌<◌, true, false, All, List, ◌++◌, Option, Some, None, slice_set}
use Rattle.sm_control.specs.Controls.{ControlValue}
use Rattle.sm_desk.specs.Desk.{is_known}
use Rattle.sm_ownership.specs.declared.entry.Ending.TheVariants.{Nothing}
use Rattle.sm_ownership.specs.declared.entry.Entry.{Entry}
use Rattle.sm_ownership.specs.declared.entry.Kind.TheVariants.{Done}
use Rattle.sm_ownership.specs.declared.record.Record.{Record}
use Rattle.sm_ownership.specs.History.{IsLegal, NoneBy}
use Rattle.sm_publish.specs.Publishing.{PublisherView}
use Rattle.sm_rule.specs.Closing.{AreLeft}
use Rattle.sm_rule.specs.Passes.{PassAdds, PassLooks, PassValue}
use Rattle.sm_rule.specs.Views.{Begins}
use Rattle.sm_cluster.specs.declared.hold_fault.HoldFault.{HoldFault}
use Rattle.sm_cluster.specs.declared.hold_fault.HoldFault.TheVariants as hold
use Rattle.sm_calls.specs.Calls.{ClientValue, client_seeing}
use Rattle.sm_cluster.specs.Holding.{AreEndedIn, IsHold, IsTurnedAway, hold_at}
use Rattle.sm_calls.specs.Passes.{IsNewPass}
use Rattle.sm_cluster.specs.Teams.{TeamValue}

-- a cluster: its control, the published map, the bounds of the shards, the pass that holds each shard, if any, the
-- history that it tells, which has the effects of its calls, and the teams of its servers
pub record ClusterValue (Q : Type 0) : Type 0 where
  pub control : ControlValue Q
  pub map : PublisherView
  pub bounds : List (List ℕ)
  pub holds : List (Option (PassValue Q))
  pub told : List (Entry Q)
  pub teams : List TeamValue

-- a cluster with a control that is now this
abbrev pub cluster_commanded : {Q : Type 0} → ClusterValue Q → ControlValue Q → ClusterValue Q
cluster_commanded cluster control = record cluster { control = control }

-- a cluster with a control and a map that are now these
abbrev pub cluster_publishing : {Q : Type 0} → ClusterValue Q → ControlValue Q → PublisherView → ClusterValue Q
cluster_publishing cluster control map = record cluster { control = control; map = map }

-- a cluster whose hold of a shard is now this
abbrev pub cluster_holding : {Q : Type 0} → ClusterValue Q → ℕ → Option (PassValue Q) → ClusterValue Q
cluster_holding cluster shard hold = record cluster { holds = slice_set cluster.holds shard hold }

-- a cluster that tells this history
abbrev pub cluster_telling : {Q : Type 0} → ClusterValue Q → List (Entry Q) → ClusterValue Q
cluster_telling cluster told = record cluster { told = told }

-- the same cluster, which may tell more
abbrev pub TellsMore : {Q : Type 0} → ClusterValue Q → ClusterValue Q → Type 0
TellsMore before after = Begins before.told after.told × (after ≡ cluster_telling before after.told)

-- the cluster has the shard and the server
abbrev pub KnowsBoth : {Q : Type 0} → ClusterValue Q → ℕ → ℕ → Type 0
KnowsBoth cluster shard server =
    (shard < cluster.control.chair.board.limits.count) × (is_known cluster.control.desk.books.servers server ≡ true)

-- the shard is held by a new pass of the server, which had seen everything that the cluster told; the cluster tells of
-- its admission, and nothing else has changed
abbrev pub HasHeld : {Q : Type 0} → ClusterValue Q → ℕ → ℕ → ClusterValue Q → Type 0
HasHeld {Q} before shard server after =
    KnowsBoth before shard server
    × (pass : PassValue Q) × IsHold before.control.chair.board before.told shard server pass
    × Begins pass.seen after.told
    × TellsMore (cluster_holding before shard (Some pass)) after

-- why a shard isn't held, the first fault that applies, and the cluster after it: a new pass that had seen everything
-- that the cluster told is refused by the record that it read, which the cluster then tells
abbrev pub HoldRefused : {Q : Type 0} → ClusterValue Q → ℕ → ℕ → HoldFault → ClusterValue Q → Type 0
HoldRefused before shard server hold.UnknownShard after =
    (before.control.chair.board.limits.count ≤ shard) × (after ≡ before)
HoldRefused before shard server hold.UnknownServer after =
    (shard < before.control.chair.board.limits.count) × (is_known before.control.desk.books.servers server ≡ false)
    × (after ≡ before)
HoldRefused {Q} before shard server (hold.Admit refusal) after =
    KnowsBoth before shard server
    × (pass : PassValue Q) × IsNewPass before.control.chair.board server before.told pass
    × IsTurnedAway pass shard refusal after.told
    × TellsMore before after
HoldRefused before shard server fault after = ⊥

-- the pass that held the shard has ended its admission without a request, which the cluster tells, and nothing else has
-- changed
abbrev pub HasFreed : {Q : Type 0} → ClusterValue Q → ℕ → ClusterValue Q → Type 0
HasFreed {Q} before shard after =
    (pass : PassValue Q) × (ended : PassValue Q) × (hold_at before.holds shard ≡ Some pass)
    × PassAdds pass shard (Done Nothing) ended × Begins ended.seen after.told
    × TellsMore (cluster_holding before shard None) after

-- why a shard isn't freed: the first fault that applies
abbrev pub FreeRefused : {Q : Type 0} → ClusterValue Q → ℕ → HoldFault → Type 0
FreeRefused cluster shard hold.UnknownShard = cluster.control.chair.board.limits.count ≤ shard
FreeRefused cluster shard hold.NotHeld =
    (shard < cluster.control.chair.board.limits.count) × (hold_at cluster.holds shard ≡ None)
FreeRefused cluster shard fault = ⊥

-- a client of the cluster: of its board, and with its bounds
abbrev pub IsClientOf : {Q : Type 0} → ClusterValue Q → ClientValue Q → Type 0
IsClientOf cluster client = (client.pass.board ≡ cluster.control.chair.board) × (client.bounds ≡ cluster.bounds)

-- the client has seen everything that the cluster tells
abbrev pub KnowsAll : {Q : Type 0} → ClusterValue Q → ClientValue Q → Type 0
KnowsAll cluster client = Begins cluster.told client.pass.seen

-- the cluster has told the client, which has then seen everything that the cluster tells, and everything that its
-- control has seen
abbrev pub HasTold : {Q : Type 0} → ClusterValue Q → ClientValue Q → ClientValue Q → Type 0
HasTold cluster before after =
    PassLooks before.pass after.pass × KnowsAll cluster after
    × Begins cluster.control.chair.seen after.pass.seen × (after ≡ client_seeing before after.pass)

-- the rows are those of all shards after one legal history, to which only passes have added since the chair last
-- looked, which extends everything that each returned client had seen, in which each hold was ended, and which extends
-- everything that the cluster told
abbrev pub WasStopped : {S Q : Type 0} → (S → ℕ → List Q → Type 0) → (S → ℕ) → ClusterValue Q → List (ClientValue Q)
    → List (Record × Option S) → Type 0
WasStopped {S} {Q} keeps limit cluster clients rows =
    let chair = cluster.control.chair in
    (later : List (Entry Q))
    × IsLegal chair.board.limits.count chair.board.limits.ceiling (chair.seen ++ later)
    × NoneBy 0 later
    × All (λ client. Begins client.pass.seen (chair.seen ++ later)) clients
    × AreLeft keeps limit chair.board.limits (chair.seen ++ later) rows
    × AreEndedIn (chair.seen ++ later) cluster.holds
    × Begins cluster.told (chair.seen ++ later)
