use Rattle.sm_body.specs.Service.{meaning_of}
use Rattle.sm_rule.specs.Views.{all_held, first_held}
use Rattle.sm_server.proofs.Helpers.{answered, limit_settled, place_of, refused}
use Rattle.sm_server.proofs.running.run.Goals as goal

pub invariant_of-result : goal.invariant_of-result
invariant_of-result g c =
    let place = place_of g.S.Service.before g.S.Service.requests c.args.permit.body c.body.result.now
    (first_held c.args.helper.held) c.settle-place.result (all_held c.args.helper.held) c.body.ensures.value
    c.requires.body.0 c.requires.body.1 c.requires.body.2 c.settle-place.ensures.count in
    let ran = answered (meaning_of g.S.Service.initial g.S.Service.next g.S.Service.answer g.S.Service.key_of)
    c.args.helper c.execute-applied.new.pass c.into_note-note.result c.args.shell c.args.request c.args.server
    c.args.permit.shard c.number.result c.settle-place.result c.execute-applied.result.0 c.in-Ok.reply c.in-Ok.is
    c.into_note-note.ensures c.requires.shard c.number.ensures c.requires.begun c.execute-applied.ensures.applied
    c.execute-applied.ensures.all c.execute-applied.ensures.reply place in
    (c.args.shell.shard, c.args.shell.mode, c.args.request, ran.executed)

pub returns-in-Ok : goal.returns-in-Ok
returns-in-Ok g c =
    let place = place_of g.S.Service.before g.S.Service.requests c.args.permit.body c.body.result.now
    (first_held c.args.helper.held) c.settle-place.result (all_held c.args.helper.held) c.body.ensures.value
    c.requires.body.0 c.requires.body.1 c.requires.body.2 c.settle-place.ensures.count in
    answered (meaning_of g.S.Service.initial g.S.Service.next g.S.Service.answer g.S.Service.key_of) c.args.helper
    c.execute-applied.new.pass c.into_note-note.result c.args.shell c.args.request c.args.server c.args.permit.shard
    c.number.result c.settle-place.result c.execute-applied.result.0 c.in-Ok.reply c.in-Ok.is
    c.into_note-note.ensures c.requires.shard c.number.ensures c.requires.begun c.execute-applied.ensures.applied
    c.execute-applied.ensures.all c.execute-applied.ensures.reply place

pub returns-in-Err : goal.returns-in-Err
returns-in-Err g c =
    let limit = limit_settled g.S.Service.limit c.args.helper c.args.board.now c.args.permit.body c.body.result.now
    c.settle-place.new.body c.args.permit.shard c.settle-place.ensures.limit c.body.ensures.value c.requires.limit
    c.requires.board in
    refused c.args.helper c.execute-applied.new.pass c.into_note-note.result c.args.shell c.args.request
    c.in-Err.request c.args.server c.args.permit.shard (g.S.Service.limit c.settle-place.new.body)
    (g.S.Service.requests c.settle-place.new.body) c.in-Err.fault c.refusal_of.result c.whole.result
    c.execute-applied.result.0 c.in-Err.is c.into_note-note.ensures c.requires.shard c.requires.begun
    c.execute-applied.ensures.refused c.execute-applied.ensures.unchanged c.execute-applied.ensures.handed_back
    c.execute-applied.ensures.full c.execute-applied.ensures.no_memory limit c.refusal_of.ensures c.whole.ensures
