use Rattle.sm_body.specs.Service.{meaning_of}
use Rattle.sm_server.specs.Serving.{is_here}
use Rattle.sm_server.proofs.Outcomes.{is_told}
use Rattle.sm_server.proofs.serving.serve.Goals as goal

pub returns-clause-served : goal.returns-clause-served
returns-clause-served g c =
    let service = meaning_of g.S.Service.initial g.S.Service.next g.S.Service.answer g.S.Service.key_of in
    let here = is_here service c.args.layout.now c.args.board.now.limits.count c.args.envelope in
    is_told service c.has_shard.result here c.args.pass.now c.args.envelope c.begin.result
    c.has_shard.ensures c.if-not-has_shard.false c.begin.ensures.served
