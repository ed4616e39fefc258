use Rattle.std.proofs.Common.{sym, ◌∙◌, arith}
use Rattle.sm_model.proofs.Arrivals.{arrives_last, arrives_now, on_its_way}
use Rattle.sm_model.proofs.calls.arrive.Goals as goal

pub loop-hop-preserved : goal.loop-hop-preserved
loop-hop-preserved c =
    on_its_way _ _ _ _ _ c.loop-hop.invariant c.loop-hop-test.true c.make-reached.ensures.steps
    (sym c.is_forwarded.ensures ∙ c.if-not-is_forwarded.false)

pub returns-then-not-is_forwarded : goal.returns-then-not-is_forwarded
returns-then-not-is_forwarded c = arrives_now _ _ _ _ _ c.loop-hop.invariant c.make-reached.ensures.steps
    (sym c.is_forwarded.ensures ∙ c.if-not-is_forwarded.true)

pub returns : goal.returns
returns c = arrives_last _ _ _ _ _ c.loop-hop.invariant
    (omega (arith, c.loop-hop.auto, c.loop-hop-test.false)) c.make.ensures.steps
