use Rattle.std.proofs.Common.{◌≡◌, rules}
use Rattle.sm_body.specs.Service.{meaning_of}
use Rattle.sm_rule.specs.lemmas.Passing.{met_begins}
use Rattle.sm_calls.specs.lemmas.Calling.{called_gives}
use Rattle.sm_load.proofs.loading.learn.Goals as goal

pub returns-in-Ok-clause-learned : goal.returns-in-Ok-clause-learned
returns-in-Ok-clause-learned g c =
    let answer = c.in-Ok.answer in
    let same : answer.reply ≡ c.learn.result.reply = search rules in (
      answer,
      record {
        number = c.args.number;
        gives = called_gives
            (meaning_of g.S.Service.initial g.S.Service.next g.S.Service.answer g.S.Service.key_of) c.args.number
            c.args.request answer c.args.client.now c.call.new.self c.in-Ok.ensures.called;
        learned = met_begins answer.note.number answer.note.seen c.learn.new.self.pass.seen c.learn.ensures.heard.1;
      },
      same,
    )
