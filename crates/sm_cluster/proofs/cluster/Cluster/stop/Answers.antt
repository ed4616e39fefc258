use Rattle.std.proofs.Common.{◌≡◌, ◌∙◌, List, ap, rules, subst}
use Rattle.std.specs.Prelude.{Option}
use Rattle.sm_rule.specs.Bodies.{Keeps}
use Rattle.sm_rule.specs.Changes.{ChairValue}
use Rattle.sm_rule.specs.Closing.{WasClosed}
use Rattle.sm_rule.specs.Passes.{PassValue}
use Rattle.sm_rule.specs.Views.{Begins}
use Rattle.sm_cluster.specs.Clusters.{ClusterValue, WasStopped}
use Rattle.sm_cluster.specs.Holding.{AreEndedIn}
use Rattle.sm_cluster.proofs.Stopping.{closed_stopped, ok_then}
use Rattle.sm_cluster.proofs.cluster.Cluster.stop.Goals as goal

pub told-closer-requires-clause-clients : goal.told-closer-requires-clause-clients
told-closer-requires-clause-clients g c κs within =
    let board : c.args.self.control.chair.board ≡ c.deref-2.result.now.board = search rules in
    λ k d less. (c.requires.clients k d less).0 ∙ board

pub returns : goal.returns
returns g c =
    let keeps = Keeps g.S.Service.initial g.S.Service.next g.S.Service.base g.S.Service.before g.S.Service.requests in
    let limit = g.S.Service.limit in
    let closer = c.end.new.closer in
    let chair : c.self.inside.control.chair ≡ c.args.self.control.chair =
    ap (λ (cluster : ClusterValue g.row.S-Request.Denot). cluster.control.chair) c.self.view_is in
    let holds : c.self.inside.holds ≡ c.args.self.holds =
    ap (λ (cluster : ClusterValue g.row.S-Request.Denot). cluster.holds) c.self.view_is in
    let ended = subst (λ (all : List (Option (PassValue g.row.S-Request.Denot))). AreEndedIn closer.seen all) holds
    c.end.ensures.ended in
    let first = subst (λ (cluster : ClusterValue g.row.S-Request.Denot). Begins cluster.told c.told-closer.result.seen)
    c.self.view_is c.told-closer.ensures.told in
    record {
      stopped =
          ok_then c.closed.result (λ rows. WasClosed keeps limit c.self.inside.control.chair closer rows.items)
          (λ rows. WasStopped keeps limit c.args.self c.args.clients.items rows.items) c.closed.ensures
          (λ rows was.
          closed_stopped keeps limit c.args.self c.told-closer.result closer c.args.clients.items rows.items
          (subst (λ (one : ChairValue g.row.S-Request.Denot). WasClosed keeps limit one closer rows.items) chair was)
          c.told-closer.ensures.seen c.end.ensures.seen ended first);
    }
