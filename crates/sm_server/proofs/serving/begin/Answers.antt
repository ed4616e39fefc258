use Rattle.sm_body.specs.Service.{meaning_of}
use Rattle.sm_server.proofs.Helpers.{begun}
use Rattle.sm_server.proofs.Outcomes.{went_back, went_in}
use Rattle.sm_server.proofs.serving.begin.Goals as goal

pub run-requires-clause-begun : goal.run-requires-clause-begun
run-requires-clause-begun g c = λ _ _.
    begun c.args.pass.now c.parts-request.result.1 c.helper_of-helper.result c.admit.new.pass c.parts-request.result.2
    c.shard.result c.args.server c.mode.result c.helper_of-helper.ensures.helper c.requires.server c.shard.ensures
    c.mode.ensures c.in-Ok.ensures.admitted

pub returns-in-Ok-clause-served : goal.returns-in-Ok-clause-served
returns-in-Ok-clause-served g c =
    went_in (meaning_of g.S.Service.initial g.S.Service.next g.S.Service.answer g.S.Service.key_of)
    c.args.pass.now c.helper_of-helper.result c.parts-request.result.1 c.args.envelope c.parts-request.result.2
    c.parts-request.result.0 c.shard.result c.args.server c.mode.result c.args.board.now
    c.requires.server c.requires.board c.requires.note c.parts-request.ensures.shell
    c.parts-request.ensures.request c.parts-request.ensures.note c.helper_of-helper.ensures.helper c.shard.ensures
    c.mode.ensures c.admit.new.pass c.run.result c.in-Ok.ensures.admitted c.run.ensures

pub returns-in-Err-clause-served : goal.returns-in-Err-clause-served
returns-in-Err-clause-served g c =
    went_back (meaning_of g.S.Service.initial g.S.Service.next g.S.Service.answer g.S.Service.key_of)
    c.args.pass.now c.helper_of-helper.result c.parts-request.result.1 c.args.envelope c.parts-request.result.2
    c.parts-request.result.0 c.shard.result c.args.server c.mode.result c.args.board.now
    c.requires.server c.requires.board c.requires.note c.parts-request.ensures.shell
    c.parts-request.ensures.request c.parts-request.ensures.note c.helper_of-helper.ensures.helper c.shard.ensures
    c.mode.ensures c.admit.new.pass c.into_note.result c.in-Err.refusal c.whole-back.result
    c.turned_away.result c.in-Err.ensures.refused.0 c.in-Err.ensures.refused.1 c.into_note.ensures
    c.whole-back.ensures c.turned_away.ensures
