use Rattle.std.proofs.Common.{refl, sym}
use Rattle.sm_director.proofs.director.Director.on_made.Goals as goal

pub returns-in-Sent-clause-made : goal.returns-in-Sent-clause-made
returns-in-Sent-clause-made c =
    (c.in-Sent.sent, c.made.result, sym c.in-Sent.ensures.value, c.made.ensures, refl)
