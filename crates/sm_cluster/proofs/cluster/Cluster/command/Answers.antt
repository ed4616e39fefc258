use Rattle.std.proofs.Common.{◌≡◌, Result, ap, rules, subst, sym}
use Rattle.sm_control.specs.Controls.{Commanded, ControlValue}
use Rattle.sm_desk.specs.Desk.{desk_fault}
use Rattle.sm_desk.specs.declared.command.CommandFault.{CommandFault}
use Rattle.sm_rule.specs.Views.{Begins}
use Rattle.sm_rule.specs.lemmas.Passing.{looks_begins}
use Rattle.sm_cluster.specs.Clusters.{ClusterValue, cluster_commanded, cluster_telling}
use Rattle.sm_cluster.proofs.cluster.Cluster.command.Goals.{in-Err, in-Ok}
use Rattle.sm_cluster.proofs.cluster.Cluster.command.Goals as goal

pub returns-clause-commanded : goal.returns-clause-commanded
returns-clause-commanded g c =
    let is = c.self.view_is in
    let inside = c.self.inside in
    let control = c.report.new.control in
    let teller = c.report.new.teller in
    let same : c.match-made.result ≡ c.command-made.result =
    elim c.match-made.branch [ in-Ok w ↦ search rules | in-Err w ↦ search rules ] in
    let made = subst (λ (k : ControlValue g.row.S-Request.Denot). Commanded (desk_fault inside.control.desk
    c.args.command) inside.control k c.args.command c.command-made.result) (sym c.report.ensures.unchanged)
    c.command-made.ensures.answer in
    let answer = subst (λ (result : Result (Unit {0}) CommandFault). Commanded (desk_fault inside.control.desk
    c.args.command) inside.control control c.args.command result) (sym same) made in (
      subst (λ (cluster : ClusterValue g.row.S-Request.Denot). Commanded (desk_fault cluster.control.desk
          c.args.command) cluster.control control c.args.command c.match-made.result) is answer,
      (
        subst (λ (cluster : ClusterValue g.row.S-Request.Denot). Begins cluster.told teller.seen) is
            (looks_begins inside.teller teller c.report.ensures.looks),
        ap (λ (cluster : ClusterValue g.row.S-Request.Denot). cluster_telling (cluster_commanded cluster control)
            teller.seen) is,
      ),
    )
