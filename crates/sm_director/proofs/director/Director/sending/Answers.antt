use Rattle.std.proofs.Common.{◌≡◌, subst}
use Rattle.sm_lead.specs.declared.command_sending.CommandSending.{CommandSending}
use Rattle.sm_lead.specs.Sendings.{sending_of}
use Rattle.sm_director.specs.Calls.{SpellsCommand}
use Rattle.sm_director.proofs.director.Director.sending.Goals as goal

pub returns-in_ok-spell-in-Sent-clause-spelled : goal.returns-in_ok-spell-in-Sent-clause-spelled
returns-in_ok-spell-in-Sent-clause-spelled c =
    let sent = c.in-Sent.sent in
    let it = c.sending.ensures in
    let same : c.sending.result ≡ sending_of sent.control sent.write =
    λ i. record {
      process = it.process i;
      elected = it.elected i;
      placed = it.placed i;
      absent = it.absent i;
      write = it.write i;
    } in (
      sent,
      c.in-Sent.is,
      subst (λ (sending : CommandSending). SpellsCommand sending c.spell.new.numbers c.spell.new.into) same
          c.in_ok-spell-in-Sent.ensures.spelled,
    )
