use Rattle.std.proofs.Common.{◌≡◌, rules, subst, sym}
use Rattle.std.specs.Arc.{arc_value}
use Rattle.sm_ownership.specs.declared.mode.Mode.TheVariants.{Direct}
use Rattle.sm_rule.specs.Boards.{BoardValue}
use Rattle.sm_cluster.specs.Holding.{AreHoldsOn}
use Rattle.sm_cluster.proofs.Holding.{admitted_holds}
use Rattle.sm_cluster.proofs.Telling.{teller_stays}
use Rattle.sm_cluster.proofs.cluster.Cluster.hold.Goals as goal

pub put-requires-clause-theirs : goal.put-requires-clause-theirs
put-requires-clause-theirs g c κs within =
    let board : (arc_value c.self-2.inside.ground).board ≡ c.deref-in-Ok.result.now.board = search rules in
    subst (λ (one : BoardValue). AreHoldsOn one c.self-2.inside.holds) board c.self-2.invariant.1

pub put-requires-clause-holds : goal.put-requires-clause-holds
put-requires-clause-holds g c κs within =
    admitted_holds c.pass_of-pass.result c.in-Ok.hold c.args.k Direct c.in-Ok.ensures.held.0

pub invariant_of-self : goal.invariant_of-self
invariant_of-self g c =
    let board : (arc_value c.self-2.inside.ground).board ≡ c.deref-in-Ok.result.now.board = search rules in (
      c.self-2.invariant.0,
      subst (λ (one : BoardValue). AreHoldsOn one c.put.new.self) (sym board) c.put.ensures.theirs,
      teller_stays (arc_value c.self-2.inside.ground).board c.self-2.inside.control.chair.seen c.self-2.inside.teller
          c.begin.new.teller c.self-2.invariant.2 c.begin.ensures.looks,
    )
