use Rattle.std.proofs.Common.{refl}
use Rattle.sm_body.specs.Service.{meaning_of}
use Rattle.sm_calls.specs.lemmas.Since.{since_same}
use Rattle.sm_load.proofs.Acking.{one_more}
use Rattle.sm_load.proofs.loading.inc_each.Goals as goal

pub loop-number-init : goal.loop-number-init
loop-number-init g c = (refl, since_same c.args.client.now)

pub loop-number-preserved : goal.loop-number-preserved
loop-number-preserved g c =
    one_more (meaning_of g.S.Service.initial g.S.Service.next g.S.Service.answer g.S.Service.key_of)
    (g.C.Counting.tells c.args.counting.now) (g.C.Counting.adds c.args.counting.now)
    c.args.client.now c.loop-number.client c.inc-is_acked.new.client c.loop-number.counts.acked
    c.loop-number.counts.refused c.loop-number.number c.with-counts.result.acked c.with-counts.result.refused
    c.inc-is_acked.result
    c.inc-is_acked.ensures c.with-counts.ensures c.loop-number.invariant.0 c.loop-number.invariant.1
