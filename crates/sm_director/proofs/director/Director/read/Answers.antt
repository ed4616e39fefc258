use Rattle.std.specs.Global.{Vec}
use Rattle.std.proofs.Common.{refl, subst, ap, ◌∙◌}
use Rattle.sm_desk.specs.Desk.{DeskView}
use Rattle.sm_lead.specs.declared.record_read.RecordRead.{RecordRead}
use Rattle.sm_lead.specs.Controls.{IsLoaded}
use Rattle.sm_store.specs.declared.server_run.ServerRun.{ServerRun}
use Rattle.sm_director.proofs.director.Director.read.Goals as goal

pub returns-in-Ok-clause-made : goal.returns-in-Ok-clause-made
returns-in-Ok-clause-made c =
    let old = c.args.self.now in (
      record {
        settings = refl;
        caps = refl;
        lead = refl;
        waits = refl;
        followers = refl;
        acks = refl;
        records = ap (λ (v : Vec RecordRead). v.items) c.replace-records.ensures.after ∙ c.new.ensures.items;
        runs = ap (λ (v : Vec ServerRun). v.items) c.replace-runs.ensures.after ∙ c.new-2.ensures.items;
      },
      c.in-Ok.control,
      refl,
      subst (λ (desk : DeskView). IsLoaded desk old.lead old.settings.ceiling old.waits old.records.items
          old.runs.items c.args.placed c.in-Ok.control) c.in_ok-desk.ensures
          (subst (λ (v : Vec RecordRead). IsLoaded c.in_ok-desk.desk old.lead old.settings.ceiling old.waits
          v.items old.runs.items c.args.placed c.in-Ok.control) c.replace-records.ensures.value
          (subst (λ (v : Vec ServerRun). IsLoaded c.in_ok-desk.desk old.lead old.settings.ceiling old.waits
          c.replace-records.result.items v.items c.args.placed c.in-Ok.control) c.replace-runs.ensures.value
          c.in-Ok.ensures)),
    )
