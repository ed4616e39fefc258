use Rattle.std.proofs.Common.{◌≡◌, rules, subst}
use Rattle.sm_rule.specs.Views.{Begins}
use Rattle.sm_cluster.specs.Clusters.{ClusterValue}
use Rattle.sm_calls.specs.lemmas.Passes.{new_told}
use Rattle.sm_cluster.proofs.cluster.Cluster.pass_of.Goals as goal

pub returns-clause-new : goal.returns-clause-new
returns-clause-new g c =
    let note = c.note-note.result in
    let board : c.deref-2.result.now.board ≡ c.args.self.now.control.chair.board = search rules in
    new_told c.deref-2.result.now.board c.args.self.now.control.chair.board c.args.a note.seen c.args.self.now.told
    c.pass_told.result board
    (subst (λ (cluster : ClusterValue g.row.S-Request.Denot). Begins cluster.told note.seen) c.self.view_is
    c.note-note.ensures.seen) c.pass_told.ensures
