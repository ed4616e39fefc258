use Rattle.sm_body.specs.Service.{meaning_of}
use Rattle.sm_calls.proofs.Travelling.{told}
use Rattle.sm_calls.proofs.message.serve_anew.Goals as goal

pub returns : goal.returns
returns g c = λ asked bounds reached.
    told (meaning_of g.S.Service.initial g.S.Service.next g.S.Service.answer g.S.Service.key_of)
    (record { bounds = c.args.ground.now.layout; server = c.args.server; sent = c.args.envelope }) asked
    c.args.ground.now.board c.pass_for-pass.result.0 c.pass_for-pass.result.1 c.requires
    c.pass_for-pass.ensures.pass c.pass_for-pass.ensures.envelope bounds reached c.serve.result c.serve.ensures.served
