use Rattle.std.proofs.Common.{subst, sym}
use Rattle.sm_ownership.specs.declared.entry.Ending.TheVariants.{Nothing}
use Rattle.sm_ownership.specs.declared.entry.Kind.TheVariants.{Done}
use Rattle.sm_rule.specs.Passes.{PassAdds, PassValue}
use Rattle.sm_cluster.specs.Holding.{HasEnded}
use Rattle.sm_cluster.proofs.hold.Hold.end.Goals as goal

pub returns : goal.returns
returns g c =
    let pass = c.self.inside.pass in
    let permit = c.self.inside.permit in
    let added = c.finish.ensures.done Nothing c.self.invariant.2 in
    subst (λ (one : PassValue g.row.S-Request.Denot). HasEnded one c.into_note.result) c.self.view_is (
      permit.shard,
      (permit.state, c.self.invariant.0.1),
      subst (λ (after : PassValue g.row.S-Request.Denot). PassAdds pass permit.shard (Done Nothing) after)
          (sym c.into_note.ensures) added,
    )
