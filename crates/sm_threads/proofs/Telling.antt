-- Sessions whose client is told after a call of the cluster.
use Rattle.std.proofs.Common.{◌≡◌, ℕ, List, All, Result, Ok, Err, IfErr, length, ap, subst, sym, ◌∙◌}
use Rattle.std.specs.Prelude.{OnErr, OnOk}
use Rattle.sm_cluster.specs.Calls.{ClientValue}
use Rattle.sm_cluster.specs.Clusters.{ClusterValue, HasFreed, HasHeld, HasTold, HoldRefused, IsClientOf, TellsMore}
use Rattle.sm_cluster.specs.Since.{IsClientSince}
use Rattle.sm_cluster.specs.lemmas.Since.{client_since, knows_since, since_looks}
use Rattle.sm_cluster.specs.declared.hold_fault.HoldFault.{HoldFault}
use Rattle.sm_cluster.specs.declared.hold_fault.HoldFault.TheVariants.{UnknownShard, UnknownServer, Admit, NotHeld}
use Rattle.sm_cluster.specs.declared.hold_fault.HoldFault.TheVariants.{NoMemory}
use Rattle.sm_service.specs.declared.request.Request.{Request}
use Rattle.sm_threads.specs.Sessions.{IsWhole}
use Rattle.sm_threads.proofs.Answering.{session_with}
use Rattle.sm_threads.proofs.Clients.{stay_clients, stays_client}

-- the board and the bounds stay
abbrev pub Keeps : ClusterValue Request → ClusterValue Request → Type 0
Keeps before after = (after.control.chair.board ≡ before.control.chair.board) × (after.bounds ≡ before.bounds)

pub same_keeps : (before after : ClusterValue Request) → after ≡ before → Keeps before after
same_keeps before after same =
    (ap (λ (c : ClusterValue Request). c.control.chair.board) same, ap (λ (c : ClusterValue Request). c.bounds) same)

pub more_keeps : (before after : ClusterValue Request) → TellsMore before after → Keeps before after
more_keeps before after more = (
  ap (λ (c : ClusterValue Request). c.control.chair.board) more.1,
  ap (λ (c : ClusterValue Request). c.bounds) more.1,
)

refused_keeps : (before after : ClusterValue Request) (shard server : ℕ) (fault : HoldFault)
    → HoldRefused before shard server fault after → Keeps before after
refused_keeps before after shard server UnknownShard why = same_keeps before after why.1
refused_keeps before after shard server UnknownServer why = same_keeps before after why.2
refused_keeps before after shard server (Admit refusal) why = more_keeps before after why.4
refused_keeps before after shard server NotHeld never = absurd never
refused_keeps before after shard server NoMemory never = absurd never

pub held_keeps : (before after : ClusterValue Request) (shard server : ℕ) (made : Result (Unit {0}) HoldFault)
    → OnOk made (HasHeld before shard server after) → IfErr made (λ fault. HoldRefused before shard server fault after)
    → Keeps before after
held_keeps before after shard server (Ok done) held refused = (
  ap (λ (c : ClusterValue Request). c.control.chair.board) held.4.1,
  ap (λ (c : ClusterValue Request). c.bounds) held.4.1,
)
held_keeps before after shard server (Err fault) held refused = refused_keeps before after shard server fault refused

pub freed_keeps : (before after : ClusterValue Request) (shard : ℕ) (made : Result (Unit {0}) HoldFault)
    → OnOk made (HasFreed before shard after) → OnErr made (after ≡ before) → Keeps before after
freed_keeps before after shard (Ok done) freed same = (
  ap (λ (c : ClusterValue Request). c.control.chair.board) freed.5.1,
  ap (λ (c : ClusterValue Request). c.bounds) freed.5.1,
)
freed_keeps before after shard (Err fault) freed same = same_keeps before after same

-- the facts about each session
abbrev pub IsKept : ClusterValue Request → List (ClientValue Request) → ClientValue Request → Type 0
IsKept cluster loaders client =
    IsWhole (session_with cluster loaders client) × All (IsClientOf cluster) loaders × (length loaders ≡ 17)

-- a cluster made a call, which kept board and bounds, and then told the client
module _ (before middle after : ClusterValue Request) (client told : ClientValue Request)
    (loaders : List (ClientValue Request)) (same : after ≡ middle) (is : HasTold middle client told) where
  pub told_whole : Keeps before middle → IsKept before loaders client → IsKept after loaders told
  told_whole keeps whole =
      let since = since_looks client told is.0 is.3 in
      let own = client_since before client told since whole.0.0 in
      subst (λ (c : ClusterValue Request). IsKept c loaders told) (sym same) (
        (
          stays_client before middle told keeps.0 keeps.1 own,
          (λ i. (keeps.0 i).limits.count) ∙ (whole.0.1 ∙ sym (ap length keeps.1)),
          is.1,
        ),
        stay_clients before middle loaders keeps.0 keeps.1 whole.1,
        whole.2,
      )

-- the client has seen no less
pub whole_since : (cluster : ClusterValue Request) (client after : ClientValue Request)
    (loaders : List (ClientValue Request)) → IsClientSince client after → IsKept cluster loaders client
    → IsKept cluster loaders after
whole_since cluster client after loaders since whole = (
  (client_since cluster client after since whole.0.0, whole.0.1, knows_since cluster client after since whole.0.2),
  whole.1,
  whole.2,
)
