use Rattle.std.proofs.Common.{◌≡◌, ◌∙◌, Err, None, Ok, ap, refl, subst, sym}
use Rattle.std.specs.Arc.{arc_value}
use Rattle.std.proofs.lemmas.Result.{err_from_is_err_and}
use Rattle.sm_control.specs.Routes.{Routed, route_fault}
use Rattle.sm_publish.specs.Publishing.{publish_fault, with_route}
use Rattle.sm_cluster.specs.Clusters.{ClusterValue, TellsMore, cluster_publishing, cluster_telling}
use Rattle.sm_rule.specs.Views.{Begins}
use Rattle.sm_rule.specs.lemmas.Passing.{looks_begins}
use Rattle.sm_control.specs.Controls.{ControlValue}
use Rattle.sm_cluster.specs.Publications.{IsMapFault}
use Rattle.sm_cluster.proofs.Publishing.{map_fault, map_taken, published, unpublished}
use Rattle.sm_cluster.proofs.cluster.Cluster.publish.Goals as goal

pub returns-in_err-publish-clause-published : goal.returns-in_err-publish-clause-published
returns-in_err-publish-clause-published g c =
    let fault = err_from_is_err_and c.from_residual-in_err-publish.result c.from_residual-in_err-publish.ensures.1 in
    let refused = c.in_err-publish.field-0.0 in
    let route = c.in_ok-shard.field-0 in
    let is = c.self.view_is in
    let said = c.in_err-publish.ensures in
    let inside = c.self.inside in
    let after : ClusterValue g.row.S-Request.Denot =
    record {
      control = c.report.new.control;
      map = c.publish.new.self;
      bounds = (arc_value inside.ground).layout;
      holds = inside.holds;
      told = c.report.new.teller.seen;
      teams = inside.crew;
    } in
    let answer :
    Routed (route_fault inside.control.desk.books c.args.k) inside.control after.control c.args.k (Ok route) =
    subst (λ (control : ControlValue g.row.S-Request.Denot). Routed (route_fault inside.control.desk.books c.args.k)
    inside.control control c.args.k (Ok route)) (sym c.report.ensures.unchanged)
    c.in_ok-shard.ensures.answer in
    let routed : Routed (route_fault c.args.self.now.control.desk.books c.args.k) c.args.self.now.control after.control
    c.args.k (Ok route) =
    subst (λ (cluster : ClusterValue g.row.S-Request.Denot). Routed (route_fault cluster.control.desk.books c.args.k)
    cluster.control after.control c.args.k (Ok route)) is answer in
    let why : IsMapFault (publish_fault c.args.self.now.map.map route) refused =
    subst
    (λ (cluster : ClusterValue g.row.S-Request.Denot). IsMapFault (publish_fault cluster.map.map route) refused) is
    (map_fault (publish_fault inside.publisher.map route) (Err refused) refused refl said.fault said.no_fault) in
    let map : after.map ≡ c.args.self.now.map =
    said.unchanged ∙ ap (λ (cluster : ClusterValue g.row.S-Request.Denot). cluster.map) is in
    let frame : TellsMore (cluster_publishing c.args.self.now after.control after.map) after = (
      subst (λ (cluster : ClusterValue g.row.S-Request.Denot). Begins cluster.told after.told) is
          (looks_begins inside.teller c.report.new.teller c.report.ensures.looks),
      ap (λ (cluster : ClusterValue g.row.S-Request.Denot). cluster_telling
          (cluster_publishing cluster after.control after.map) after.told) is,
    ) in
    rw (fault.1, fault.2) (unpublished (route_fault c.args.self.now.control.desk.books c.args.k) c.args.self.now after
    c.args.k route refused routed why map frame)

pub returns-clause-published : goal.returns-clause-published
returns-clause-published g c =
    let route = c.in_ok-shard.field-0 in
    let is = c.self.view_is in
    let said = c.in_ok-publish.ensures in
    let inside = c.self.inside in
    let after : ClusterValue g.row.S-Request.Denot =
    record {
      control = c.report.new.control;
      map = c.publish.new.self;
      bounds = (arc_value inside.ground).layout;
      holds = inside.holds;
      told = c.report.new.teller.seen;
      teams = inside.crew;
    } in
    let answer :
    Routed (route_fault inside.control.desk.books c.args.k) inside.control after.control c.args.k (Ok route) =
    subst (λ (control : ControlValue g.row.S-Request.Denot). Routed (route_fault inside.control.desk.books c.args.k)
    inside.control control c.args.k (Ok route)) (sym c.report.ensures.unchanged)
    c.in_ok-shard.ensures.answer in
    let routed : Routed (route_fault c.args.self.now.control.desk.books c.args.k) c.args.self.now.control after.control
    c.args.k (Ok route) =
    subst (λ (cluster : ClusterValue g.row.S-Request.Denot). Routed (route_fault cluster.control.desk.books c.args.k)
    cluster.control after.control c.args.k (Ok route)) is answer in
    let none : publish_fault c.args.self.now.map.map route ≡ None =
    subst (λ (cluster : ClusterValue g.row.S-Request.Denot). publish_fault cluster.map.map route ≡ None) is
    (map_taken (publish_fault inside.publisher.map route)
    (Ok c.in_ok-publish.field-0) c.in_ok-publish.field-0 refl said.fault) in
    let map : after.map.map ≡ with_route c.args.self.now.map.map route =
    subst (λ (cluster : ClusterValue g.row.S-Request.Denot). after.map.map ≡ with_route cluster.map.map route) is
    said.published in
    let frame : TellsMore (cluster_publishing c.args.self.now after.control after.map) after = (
      subst (λ (cluster : ClusterValue g.row.S-Request.Denot). Begins cluster.told after.told) is
          (looks_begins inside.teller c.report.new.teller c.report.ensures.looks),
      ap (λ (cluster : ClusterValue g.row.S-Request.Denot). cluster_telling
          (cluster_publishing cluster after.control after.map) after.told) is,
    ) in
    published (route_fault c.args.self.now.control.desk.books c.args.k) c.args.self.now after c.args.k route routed none
    map frame
