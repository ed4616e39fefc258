-- The effect of a command.
use Rattle.std.specs.Prelude.{Result}
use Rattle.sm_control.specs.Controls.{Commanded}
use Rattle.sm_desk.specs.Desk.{desk_fault}
use Rattle.sm_desk.specs.declared.command.Command.{Command}
use Rattle.sm_desk.specs.declared.command.CommandFault.{CommandFault}
use Rattle.sm_cluster.specs.Clusters.{ClusterValue, TellsMore, cluster_commanded}

-- the command was made or refused as the cluster's control says; nothing else has changed, except that the cluster
-- tells more
abbrev pub HasCommanded : {Q : Type 0} → ClusterValue Q → Command → Result (Unit {0}) CommandFault → ClusterValue Q
    → Type 0
HasCommanded before command result after =
    Commanded (desk_fault before.control.desk command) before.control after.control command result
    × TellsMore (cluster_commanded before after.control) after
