use Rattle.std.proofs.Common.{subst}
use Rattle.sm_rule.specs.lemmas.Passing.{begins_begins}
use Rattle.sm_cluster.specs.Clusters.{ClusterValue, HasTold}
use Rattle.sm_cluster.proofs.Telling.{begins_met}
use Rattle.sm_cluster.proofs.cluster.Cluster.tell.Goals as goal

pub returns-clause-told : goal.returns-clause-told
returns-clause-told g c =
    let teller = c.self.inside.teller.seen in
    let chair = c.self.inside.control.chair.seen in
    let note = c.note-note.result in
    let later = c.hear.new.self.pass.seen in
    let noted = c.note-note.ensures.seen in
    let heard = c.hear.ensures in
    subst (λ (cluster : ClusterValue g.row.S-Request.Denot). HasTold cluster c.args.client.now c.hear.new.self)
    c.self.view_is (
      heard.0,
      begins_met teller note later noted heard.1,
      begins_met chair note later (begins_begins chair teller note.seen c.self.invariant.2.2 noted) heard.1,
      heard.2,
    )
