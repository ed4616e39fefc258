use Rattle.std.proofs.Common.{sym, ◌∙◌}
use Rattle.sm_model.proofs.Requests.{ends_finished, ends_unbegun, ends_unsent}
use Rattle.sm_model.proofs.calls.run_request_at.Goals as goal

pub returns-then-not-is_sent : goal.returns-then-not-is_sent
returns-then-not-is_sent c =
    ends_unsent _ _ _ _ _ c.send-sent.ensures.stands (sym c.is_sent.ensures ∙ c.if-not-is_sent.true)

pub returns-then-not-is_begun : goal.returns-then-not-is_begun
returns-then-not-is_begun c =
    ends_unbegun _ _ _ _ _ _ _ c.send-sent.ensures.stands (sym c.is_sent.ensures
    ∙ c.if-not-is_sent.false) c.arrive-reached.ensures (sym c.is_begun.ensures ∙ c.if-not-is_begun.true)

pub returns : goal.returns
returns c =
    ends_finished _ _ _ _ _ _ _ _ _ _ c.send-sent.ensures.stands (sym c.is_sent.ensures
    ∙ c.if-not-is_sent.false) c.arrive-reached.ensures (sym c.is_begun.ensures ∙ c.if-not-is_begun.false)
    c.step.ensures.stands c.requires.shard
