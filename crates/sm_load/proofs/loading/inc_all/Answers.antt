use Rattle.std.proofs.Common.{subst}
use Rattle.sm_body.specs.Service.{meaning_of}
use Rattle.sm_calls.specs.Calls.{ClientValue}
use Rattle.sm_load.specs.Loads.{HasAdded}
use Rattle.sm_load.proofs.Adding.{weaker}
use Rattle.sm_load.proofs.loading.inc_all.Goals as goal

pub returns : goal.returns
returns g c =
    let added = HasAdded (meaning_of g.S.Service.initial g.S.Service.next g.S.Service.answer g.S.Service.key_of)
    (g.C.Counting.tells c.args.counting.now) (g.C.Counting.adds c.args.counting.now) c.args.each in
    weaker _ added
    (λ b n m a did. subst (λ (pair : ClientValue g.row.S-Request.Denot
    × ClientValue g.row.S-Request.Denot). added pair.0 n m pair.1) (λ i. (did.argument_is i, did.left i)) did.call)
    c.args.clients.now c.count_all.result.acked c.count_all.result.refused c.count_all.new.items c.count_all.ensures
