use Rattle.std.proofs.Common.{◌∙◌, ap}
use Rattle.std.specs.Prelude.{fold}
use Rattle.sm_ownership.specs.declared.entry.Ending.TheVariants.{Nothing, Request as Requested}
use Rattle.sm_rule.specs.Views.{all_held, first_held}
use Rattle.sm_rule.specs.lemmas.Resting.{ends_applied, lent_rests, rests_same, state_after}
use Rattle.sm_rule.proofs.board.Board.execute.Goals as goal

-- the body rested on its requests at the admission, and now also on the new request, or still only on those
pub finish-front-requires-clause-body : goal.finish-front-requires-clause-body
finish-front-requires-clause-body g c = λ _ _. (
  Requested c.args.request,
  ends_applied g.S.Service.initial g.S.Service.next g.S.Service.base g.S.Service.before g.S.Service.requests
      c.args.pass.now.held c.args.permit.body c.body.result.now c.apply.new.self c.args.request c.body.ensures.value
      c.requires.body c.in-Ok.ensures.kept c.apply.ensures.base c.apply.ensures.before,
)

pub returns-in-Ok-clause-applied : goal.returns-in-Ok-clause-applied
returns-in-Ok-clause-applied g c =
    c.finish-front.ensures.done (Requested c.args.request)
    (ends_applied g.S.Service.initial g.S.Service.next g.S.Service.base g.S.Service.before g.S.Service.requests
    c.args.pass.now.held c.args.permit.body c.body.result.now c.apply.new.self c.args.request c.body.ensures.value
    c.requires.body c.in-Ok.ensures.kept c.apply.ensures.base c.apply.ensures.before)

pub returns-in-Ok-clause-all : goal.returns-in-Ok-clause-all
returns-in-Ok-clause-all g c =
    c.finish-front.ensures.all (Requested c.args.request)
    (ends_applied g.S.Service.initial g.S.Service.next g.S.Service.base g.S.Service.before g.S.Service.requests
    c.args.pass.now.held c.args.permit.body c.body.result.now c.apply.new.self c.args.request c.body.ensures.value
    c.requires.body c.in-Ok.ensures.kept c.apply.ensures.base c.apply.ensures.before)

pub returns-in-Ok-clause-reply : goal.returns-in-Ok-clause-reply
returns-in-Ok-clause-reply g c =
    let before =
    lent_rests g.S.Service.initial g.S.Service.next g.S.Service.base g.S.Service.before g.S.Service.requests
    c.args.pass.now.held c.args.permit.body c.body.result.now c.body.ensures.value c.requires.body in
    ◌∙◌ {b = g.S.Service.answer (fold g.S.Service.next (g.S.Service.base c.body.result.now)
    (g.S.Service.requests c.body.result.now)) c.args.request} c.in-Ok.ensures.reply
    (ap (λ state. g.S.Service.answer state c.args.request)
    (state_after g.S.Service.initial g.S.Service.next g.S.Service.base g.S.Service.before g.S.Service.requests
    c.body.result.now (first_held c.args.pass.now.held) (all_held c.args.pass.now.held) before))

pub returns-in-Err-clause-refused : goal.returns-in-Err-clause-refused
returns-in-Err-clause-refused g c =
    let before =
    lent_rests g.S.Service.initial g.S.Service.next g.S.Service.base g.S.Service.before g.S.Service.requests
    c.args.pass.now.held c.args.permit.body c.body.result.now c.body.ensures.value c.requires.body in
    c.finish-front-in-Err.ensures.done Nothing
    (rests_same g.S.Service.initial g.S.Service.next g.S.Service.base g.S.Service.before g.S.Service.requests
    c.body.result.now c.apply.new.self (first_held c.args.pass.now.held)
    (all_held c.args.pass.now.held) before c.in-Err.ensures.unchanged c.apply.ensures.base c.apply.ensures.before)
