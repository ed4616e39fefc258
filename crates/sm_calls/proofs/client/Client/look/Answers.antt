use Rattle.std.proofs.Common.{ap, subst}
use Rattle.sm_rule.specs.Passes.{PassLooks}
use Rattle.sm_calls.specs.Calls.{ClientValue, client_seeing}
use Rattle.sm_calls.proofs.client.Client.look.Goals as goal

pub returns : goal.returns
returns g c = (
  subst
      (λ (client : ClientValue g.row.S-Request.Denot). PassLooks client.pass c.look.new.pass) c.self.view_is
      c.look.ensures.seen,
  c.look.ensures.state,
  ap (λ (client : ClientValue g.row.S-Request.Denot). client_seeing client c.look.new.pass) c.self.view_is,
)
