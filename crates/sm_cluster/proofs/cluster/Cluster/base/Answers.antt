use Rattle.std.proofs.Common.{◌∙◌, Err, refl, subst}
use Rattle.std.specs.Arc.{arc_value}
use Rattle.std.proofs.lemmas.Result.{err_from_is_err_and}
use Rattle.sm_rule.specs.Passes.{PassValue}
use Rattle.sm_rule.specs.Views.{Begins}
use Rattle.sm_rule.specs.lemmas.Passing.{looks_begins, met_begins}
use Rattle.sm_cluster.specs.Basing.{IsBasedBy, hold_fault_of}
use Rattle.sm_cluster.specs.Clusters.{ClusterValue}
use Rattle.sm_cluster.proofs.Telling.{tells_more}
use Rattle.sm_cluster.proofs.cluster.Cluster.base.Goals as goal

pub returns-in_err-made : goal.returns-in_err-made
returns-in_err-made g c =
    let fault = err_from_is_err_and c.from_residual.result c.from_residual.ensures.1 in
    let inside = c.self.inside in
    let told = c.meet.new.pass.seen in
    let later : ClusterValue g.row.S-Request.Denot = record {
      control = inside.control;
      map = inside.publisher;
      bounds = (arc_value inside.ground).layout;
      holds = inside.holds;
      told = told;
      teams = inside.crew;
    } in
    let based : IsBasedBy c.args.self.now c.args.k c.args.a (Err (hold_fault_of c.in_err-made.field-0.0)) later =
    record {
      before = c.pass_of-pass.result;
      after = c.checkpoint-made.new.pass;
      new = c.pass_of-pass.ensures.new;
      made = (c.in_err-made.field-0.0, refl, c.in_err-made.ensures.refused);
      told =
          subst (λ (pass : PassValue g.row.S-Request.Denot). Begins pass.seen told) c.into_note.ensures
          (met_begins c.into_note.result.number c.into_note.result.seen told c.meet.ensures.met);
      others = tells_more _ c.args.self.now told (c.self.view_is ∙ c.pass_of-pass.ensures.unchanged)
          (looks_begins inside.teller c.meet.new.pass c.meet.ensures.looks);
    } in
    rw (fault.1, fault.2) based

pub returns : goal.returns
returns g c =
    let is = c.in_ok-made.ensures in
    let told = c.meet.new.pass.seen in
    record {
      before = c.pass_of-pass.result;
      after = c.checkpoint-made.new.pass;
      new = c.pass_of-pass.ensures.new;
      made = (is.made, is.kept, λ i. record { shard = is.shard i; generation = is.generation i });
      told =
          subst (λ (pass : PassValue g.row.S-Request.Denot). Begins pass.seen told) c.into_note.ensures
          (met_begins c.into_note.result.number c.into_note.result.seen told c.meet.ensures.met);
      others = tells_more _ c.args.self.now told (c.self.view_is ∙ c.pass_of-pass.ensures.unchanged)
          (looks_begins c.self.inside.teller c.meet.new.pass c.meet.ensures.looks);
    }
