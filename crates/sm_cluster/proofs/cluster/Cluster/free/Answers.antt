use Rattle.std.proofs.Common.{◌≡◌, ◌∙◌, List, None, Some, ap, rules, slice_set, subst, sym}
use Rattle.std.specs.Arc.{arc_value}
use Rattle.std.specs.Prelude.{Option}
use Rattle.sm_rule.specs.Boards.{BoardValue}
use Rattle.sm_rule.specs.Passes.{PassValue}
use Rattle.sm_rule.specs.Views.{Begins}
use Rattle.sm_rule.specs.lemmas.Passing.{looks_begins, met_begins}
use Rattle.sm_cluster.specs.Clusters.{ClusterValue, cluster_telling}
use Rattle.sm_cluster.specs.Holding.{AreHoldsOn, hold_at}
use Rattle.sm_cluster.proofs.Holding.{ends_here}
use Rattle.sm_cluster.proofs.Telling.{teller_stays}
use Rattle.sm_cluster.proofs.cluster.Cluster.free.Goals as goal

pub take-requires-clause-theirs : goal.take-requires-clause-theirs
take-requires-clause-theirs g c κs within =
    let board : (arc_value c.self.inside.ground).board ≡ c.deref-2.result.now.board = search rules in
    subst (λ (one : BoardValue). AreHoldsOn one c.self.inside.holds) board c.self.invariant.1

pub invariant_of-self : goal.invariant_of-self
invariant_of-self g c =
    let board : (arc_value c.self.inside.ground).board ≡ c.deref-2.result.now.board = search rules in (
      c.self.invariant.0,
      subst (λ (one : BoardValue). AreHoldsOn one c.take.new.self) (sym board) c.take.ensures.theirs,
      teller_stays (arc_value c.self.inside.ground).board c.self.inside.control.chair.seen c.self.inside.teller
          c.meet.new.pass c.self.invariant.2 c.meet.ensures.looks,
    )

pub returns-in-Some-clause-freed : goal.returns-in-Some-clause-freed
returns-in-Some-clause-freed g c =
    let holds : c.self.inside.holds ≡ c.args.self.now.holds =
    ap (λ (cluster : ClusterValue g.row.S-Request.Denot). cluster.holds) c.self.view_is in
    let hold = c.in-Some.hold in
    let found : hold_at c.self.inside.holds c.args.k ≡ Some hold = sym c.in-Some.ensures.taken in
    let note = c.end-note.result in
    let told = c.meet.new.pass.seen in (
      hold,
      note,
      subst (λ (all : List (Option (PassValue g.row.S-Request.Denot))). hold_at all c.args.k ≡ Some hold) holds found,
      ends_here hold note c.args.k (c.self.invariant.1.each c.args.k hold found).1 c.end-note.ensures,
      met_begins note.number note.seen told c.meet.ensures.met,
      (
        subst (λ (cluster : ClusterValue g.row.S-Request.Denot). Begins cluster.told told) c.self.view_is
            (looks_begins c.self.inside.teller c.meet.new.pass c.meet.ensures.looks),
        ap (λ (cluster : ClusterValue g.row.S-Request.Denot). cluster_telling
            (record cluster { holds = c.take.new.self }) told) c.self.view_is
            ∙ ap (λ (all : List (Option (PassValue g.row.S-Request.Denot))). cluster_telling
            (record c.args.self.now { holds = all }) told)
            (c.take.ensures.left
            ∙ ap (λ (all : List (Option (PassValue g.row.S-Request.Denot))). slice_set all c.args.k None) holds),
      ),
    )
