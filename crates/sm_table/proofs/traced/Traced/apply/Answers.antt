use Rattle.std.proofs.Common.{ap, ◌∙◌}
use Rattle.std.specs.Prelude.{fold}
use Rattle.sm_table.proofs.Tracing.{present}
use Rattle.sm_table.proofs.traced.Traced.apply.Goals as goal

pub returns-clause-reply : goal.returns-clause-reply
returns-clause-reply g c =
    let state = present g.S.Service.initial g.S.Service.next (g.S.Service.base c.self.inside.body)
    (g.S.Service.before c.self.inside.body)
    (g.S.Service.requests c.self.inside.body) c.self.inside.all.items c.self.invariant.0 c.self.invariant.1 in
    ◌∙◌ {b = g.S.Service.answer (fold g.S.Service.next (g.S.Service.base c.self.inside.body)
    (g.S.Service.requests c.self.inside.body)) c.args.request} c.in_ok-reply.ensures.reply
    (ap (λ now. g.S.Service.answer now c.args.request)
    (state ∙ ap (λ run. fold g.S.Service.next g.S.Service.initial run.past.all) c.self.view_is))
