use Rattle.std.proofs.Common.{◌∙◌}
use Rattle.sm_ownership.specs.declared.entry.Ending.TheVariants.{Nothing}
use Rattle.sm_ownership.specs.History.{checkpoint_ending}
use Rattle.sm_rule.specs.Views.{all_held, first_held, list_held}
use Rattle.sm_rule.specs.lemmas.Resting.{all_based, ends_based, lent_rests, rests_same}
use Rattle.sm_rule.proofs.board.Board.checkpoint.Goals as goal

-- the body is the checkpoint of its kept requests, or is as it was
pub finish-front-requires-clause-body : goal.finish-front-requires-clause-body
finish-front-requires-clause-body g c = λ _ _. (
  checkpoint_ending (list_held c.args.pass.now.held),
  ends_based g.S.Service.initial g.S.Service.next g.S.Service.base g.S.Service.before g.S.Service.requests
      c.args.pass.now.held c.args.permit.body c.body.result.now c.checkpoint.new.self c.body.ensures.value
      c.requires.body c.in-Ok.ensures.base c.in-Ok.ensures.before c.in-Ok.ensures.kept,
)

pub returns-in-Ok-clause-made : goal.returns-in-Ok-clause-made
returns-in-Ok-clause-made g c =
    c.finish-front.ensures.done (checkpoint_ending (list_held c.args.pass.now.held))
    (ends_based g.S.Service.initial g.S.Service.next g.S.Service.base g.S.Service.before g.S.Service.requests
    c.args.pass.now.held c.args.permit.body c.body.result.now c.checkpoint.new.self c.body.ensures.value
    c.requires.body c.in-Ok.ensures.base c.in-Ok.ensures.before c.in-Ok.ensures.kept)

pub returns-in-Ok-clause-all : goal.returns-in-Ok-clause-all
returns-in-Ok-clause-all g c =
    c.finish-front.ensures.all (checkpoint_ending (list_held c.args.pass.now.held))
    (ends_based g.S.Service.initial g.S.Service.next g.S.Service.base g.S.Service.before g.S.Service.requests
    c.args.pass.now.held c.args.permit.body c.body.result.now c.checkpoint.new.self c.body.ensures.value
    c.requires.body c.in-Ok.ensures.base c.in-Ok.ensures.before c.in-Ok.ensures.kept)
    ∙ all_based (all_held c.args.pass.now.held) (list_held c.args.pass.now.held)

pub returns-in-Err-clause-refused : goal.returns-in-Err-clause-refused
returns-in-Err-clause-refused g c =
    let before =
    lent_rests g.S.Service.initial g.S.Service.next g.S.Service.base g.S.Service.before g.S.Service.requests
    c.args.pass.now.held c.args.permit.body c.body.result.now c.body.ensures.value c.requires.body in
    c.finish-front-in-Err.ensures.done Nothing
    (rests_same g.S.Service.initial g.S.Service.next g.S.Service.base g.S.Service.before g.S.Service.requests
    c.body.result.now c.checkpoint.new.self (first_held c.args.pass.now.held) (all_held c.args.pass.now.held) before
    c.in-Err.ensures.kept_stays c.in-Err.ensures.base_stays c.in-Err.ensures.before_stays)

pub returns-in-Err-clause-all : goal.returns-in-Err-clause-all
returns-in-Err-clause-all g c =
    let before =
    lent_rests g.S.Service.initial g.S.Service.next g.S.Service.base g.S.Service.before g.S.Service.requests
    c.args.pass.now.held c.args.permit.body c.body.result.now c.body.ensures.value c.requires.body in
    c.finish-front-in-Err.ensures.all Nothing
    (rests_same g.S.Service.initial g.S.Service.next g.S.Service.base g.S.Service.before g.S.Service.requests
    c.body.result.now c.checkpoint.new.self (first_held c.args.pass.now.held) (all_held c.args.pass.now.held) before
    c.in-Err.ensures.kept_stays c.in-Err.ensures.base_stays c.in-Err.ensures.before_stays)
