use Rattle.std.proofs.Common.{◌<◌, ◌≤◌, length, sym, ◌∙◌, arith}
use Rattle.sm_ownership.specs.History.{record_at}
use Rattle.sm_body.specs.Service.{meaning_of}
use Rattle.sm_table.proofs.Checkpoints.{based_by, idle_admits, no_base_there, not_based, on_err, on_ok}
use Rattle.sm_table.proofs.Fitting.{IsTogether-based}
use Rattle.sm_table.proofs.world.World.checkpoint.Goals as goal

pub invariant_of-self-2 : goal.invariant_of-self-2
invariant_of-self-2 g c =
    let within : c.args.k < length c.self.inside.table.records = omega arith in
    let pasts = on_ok c.checkpoint.result (sym c.is_err.ensures.value ∙ c.if-is_err.false) c.checkpoint.ensures.pasts in
    IsTogether-based c.self.invariant c.args.k c.admit.new.self c.done.new.self c.checkpoint.new.self within
    (idle_admits c.self.inside.table.ceiling (record_at c.self.inside.table.records c.args.k) c.args.server
    c.in-Ok.ensures.fault) c.in-Ok.ensures.admitted c.done.ensures.done pasts

pub returns-clause-stands : goal.returns-clause-stands
returns-clause-stands g c = λ w stands.
    let within : c.args.k < length c.self.inside.table.records = omega arith in
    let pasts = on_ok c.checkpoint.result (sym c.is_err.ensures.value ∙ c.if-is_err.false) c.checkpoint.ensures.pasts in
    based_by (meaning_of g.S.Service.initial g.S.Service.next g.S.Service.answer g.S.Service.key_of) c.args.self.now
    c.self.view_is w stands c.args.k within c.args.server c.admit.new.self c.done.new.self c.checkpoint.new.self
    (sym c.if-not-is_known.ensures) c.in-Ok.ensures.fault c.in-Ok.ensures.admitted c.done.ensures.done pasts
    c.checkpoint.ensures.limits

pub returns-then-index-count-clause-stands : goal.returns-then-index-count-clause-stands
returns-then-index-count-clause-stands g c = λ w stands.
    let past : length c.self.inside.table.records ≤ c.args.k = omega arith in
    no_base_there (meaning_of g.S.Service.initial g.S.Service.next g.S.Service.answer g.S.Service.key_of)
    c.args.self.now c.self.view_is w stands c.args.k c.args.server past

pub returns-then-is_err-clause-stands : goal.returns-then-is_err-clause-stands
returns-then-is_err-clause-stands g c = λ w stands.
    let within : c.args.k < length c.self.inside.table.records = omega arith in
    let pasts =
    on_err c.checkpoint.result (sym c.is_err.ensures.value ∙ c.if-is_err.true) c.checkpoint.ensures.unchanged in
    not_based (meaning_of g.S.Service.initial g.S.Service.next g.S.Service.answer g.S.Service.key_of) c.args.self.now
    c.self.view_is w stands c.args.k within c.args.server c.checkpoint.new.self pasts c.checkpoint.ensures.limits
