use Rattle.std.proofs.Common.{◌∙◌}
use Rattle.serde_json.specs.View.{view}
use Rattle.sm_settings.specs.SettingsLine.{values_of}
use Rattle.sm_settings.proofs.Rules.{servers_judged, domains_kept_verdict, domains_broken_verdict}
use Rattle.sm_settings.proofs.settings.add_domains.Goals as goal

pub domains_from-requires : goal.domains_from-requires
domains_from-requires c =
    c.deref.ensures.value ∙ servers_judged (view c.args.value.now) (values_of c.args.settings) c.requires

pub returns-in-None-clause-err : goal.returns-in-None-clause-err
returns-in-None-clause-err c = λ other.
    domains_broken_verdict (view c.args.value.now) (values_of c.args.settings) c.requires
    (rw c.in-None.is at c.in_ok-domains.ensures)

pub returns-clause-ok : goal.returns-clause-ok
returns-clause-ok c =
    domains_kept_verdict (view c.args.value.now) (values_of c.args.settings) c.in-Some.domains.items c.requires
    (rw c.in-Some.is at c.in_ok-domains.ensures)
