-- The effect of a checkpoint of a cluster's shard.
use Rattle.std.specs.Prelude.{ℕ, ◌≡◌, ◌<◌, ◌≤◌, true, false, [], Result, Ok, Err}
use Rattle.sm_desk.specs.Desk.{is_known}
use Rattle.sm_ownership.specs.History.{kept}
use Rattle.sm_rule.specs.declared.permit.Front.{Front}
use Rattle.sm_rule.specs.Passes.{PassValue, record_of}
use Rattle.sm_rule.specs.Views.{Begins}
use Rattle.sm_server.specs.Basing.{CheckpointRefused, HasMadeCheckpoint}
use Rattle.sm_server.specs.declared.checkpoint_fault.CheckpointFault.{CheckpointFault}
use Rattle.sm_server.specs.declared.checkpoint_fault.CheckpointFault.TheVariants as checkpoint
use Rattle.sm_cluster.specs.declared.hold_fault.HoldFault.{HoldFault}
use Rattle.sm_cluster.specs.declared.hold_fault.HoldFault.TheVariants as hold
use Rattle.sm_cluster.specs.Clusters.{ClusterValue, TellsMore}
use Rattle.sm_calls.specs.Passes.{IsNewPass}

-- why a shard makes no checkpoint, as the cluster says it
abbrev pub hold_fault_of : CheckpointFault → HoldFault
hold_fault_of (checkpoint.Admit refusal) = hold.Admit refusal
hold_fault_of checkpoint.NoMemory = hold.NoMemory

-- the effect and the answer of the pass that makes a checkpoint, by its values before and after
abbrev pub BasesOrRefuses : {Q : Type 0} → PassValue Q → ℕ → PassValue Q → Result Front HoldFault → Type 0
BasesOrRefuses before shard after (Ok front) =
    HasMadeCheckpoint before shard after × (kept after.seen shard ≡ [])
    × (front ≡ record { shard = shard; generation = (record_of after shard).generation })
BasesOrRefuses before shard after (Err fault) =
    (refusal : CheckpointFault) × (fault ≡ hold_fault_of refusal) × CheckpointRefused before shard after refusal

-- a new pass of the server, which had seen everything that the cluster told, made the checkpoint or was refused; the
-- cluster then tells everything that it has seen
pub record IsBasedBy {Q : Type 0} (cluster : ClusterValue Q) (shard server : ℕ)
    (result : Result Front HoldFault) (later : ClusterValue Q) : Type 0 where
  pub before : PassValue Q
  pub after : PassValue Q
  pub new : IsNewPass cluster.control.chair.board server cluster.told before
  pub made : BasesOrRefuses before shard after result
  pub told : Begins after.seen later.told
  pub others : TellsMore cluster later

-- the effect and the answer of a checkpoint: the first reason that applies, or the result if shard and server exist
abbrev pub HasBased : {Q : Type 0} → ClusterValue Q → ℕ → ℕ → Result Front HoldFault → ClusterValue Q → Type 0
HasBased before shard server result after =
    (before.control.chair.board.limits.count ≤ shard → (result ≡ Err hold.UnknownShard) × (after ≡ before))
    × (shard < before.control.chair.board.limits.count
    → is_known before.control.desk.books.servers server ≡ false
    → (result ≡ Err hold.UnknownServer) × (after ≡ before))
    × (shard < before.control.chair.board.limits.count
    → is_known before.control.desk.books.servers server ≡ true
    → IsBasedBy before shard server result after)
