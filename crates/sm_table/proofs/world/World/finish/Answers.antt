use Rattle.std.proofs.Common.{◌<◌, sym, subst, ◌∙◌}
use Rattle.sm_body.specs.Service.{meaning_of}
use Rattle.sm_table.proofs.Endings.{hand-from_work, not_begun, replied, full, unserved}
use Rattle.sm_table.specs.lemmas.Entries.{hand_within}
use Rattle.sm_table.proofs.Parts.{bounds_shown}
use Rattle.sm_table.proofs.Fitting.{IsTogether-done, IsTogether-replied}
use Rattle.sm_table.proofs.world.World.finish.Goals as goal

pub invariant_of-self : goal.invariant_of-self
invariant_of-self g c =
    let stays = rw c.in_default.is at c.take_work.ensures.hands in
    rw stays c.self.invariant

pub returns-in_default-clause-stands : goal.returns-in_default-clause-stands
returns-in_default-clause-stands g c = λ w stands.
    let stays = rw c.in_default.is at c.take_work.ensures.hands in
    not_begun (meaning_of g.S.Service.initial g.S.Service.next g.S.Service.answer g.S.Service.key_of) c.args.self.now
    c.self.view_is w stands c.args.k c.take_work.new.self (sym c.in_default.is ∙ c.take_work.ensures.work) stays

pub returns-in_default-clause-bounds : goal.returns-in_default-clause-bounds
returns-in_default-clause-bounds g c = bounds_shown c.args.self.now c.self.view_is

pub done-requires-clause-known : goal.done-requires-clause-known
done-requires-clause-known g c =
    let held = hand-from_work _ _ c.in-Some.ensures.work in
    subst (λ count. c.args.k < count) (sym c.self.invariant.table) (hand_within _ c.args.k _ held)

pub done-requires-clause-admitted : goal.done-requires-clause-admitted
done-requires-clause-admitted g c = c.self.invariant.admitted c.args.k _ (hand-from_work _ _ c.in-Some.ensures.work)

pub invariant_of-self-in-Ok : goal.invariant_of-self-in-Ok
invariant_of-self-in-Ok g c =
    let held = hand-from_work _ _ c.in-Some.ensures.work in
    IsTogether-replied c.self.invariant c.args.k _ _ c.done.new.self c.apply.new.self c.take_work.new.self held
    c.done.ensures.done c.in-Some.ensures.hands c.in-Ok.ensures.pasts

pub returns-in-Ok-clause-stands : goal.returns-in-Ok-clause-stands
returns-in-Ok-clause-stands g c = λ w stands.
    let held = hand-from_work _ _ c.in-Some.ensures.work in
    replied (meaning_of g.S.Service.initial g.S.Service.next g.S.Service.answer g.S.Service.key_of) c.args.self.now
    c.self.view_is w stands c.args.k _ _ held c.done.new.self c.apply.new.self c.take_work.new.self
    c.done.ensures.done c.in-Ok.ensures.limits c.in-Some.ensures.hands c.in-Ok.reply c.applied-place.result
    c.in-Ok.ensures.pasts c.applied-place.ensures c.in-Ok.ensures.reply c.in-Ok.ensures.room

pub invariant_of-self-in-Err-default-KeptFull : goal.invariant_of-self-in-Err-default-KeptFull
invariant_of-self-in-Err-default-KeptFull g c =
    let held = hand-from_work _ _ c.in-Some.ensures.work in
    IsTogether-done c.self.invariant c.args.k c.done.new.self c.apply.new.self c.take_work.new.self (hand_within _
    c.args.k _ held) c.done.ensures.done c.in-Some.ensures.hands c.in-Err-default-KeptFull.ensures.unchanged

pub returns-in-Err-default-KeptFull-clause-stands : goal.returns-in-Err-default-KeptFull-clause-stands
returns-in-Err-default-KeptFull-clause-stands g c = λ w stands.
    let held = hand-from_work _ _ c.in-Some.ensures.work in
    full (meaning_of g.S.Service.initial g.S.Service.next g.S.Service.answer g.S.Service.key_of) c.args.self.now
    c.self.view_is w stands c.args.k _ _ held c.done.new.self c.apply.new.self c.take_work.new.self
    c.done.ensures.done c.in-Err-default-KeptFull.ensures.limits c.in-Some.ensures.hands
    c.in-Err-default-KeptFull.ensures.unchanged
    (c.in-Err-default-KeptFull.ensures.full c.in-Err-default-KeptFull.field-0-1-is)

pub invariant_of-self-2 : goal.invariant_of-self-2
invariant_of-self-2 g c =
    let held = hand-from_work _ _ c.in-Some.ensures.work in
    IsTogether-done c.self.invariant c.args.k c.done.new.self c.apply.new.self c.take_work.new.self (hand_within _
    c.args.k _ held) c.done.ensures.done c.in-Some.ensures.hands c.in-Err-default-NoMemory.ensures.unchanged

pub returns-clause-stands : goal.returns-clause-stands
returns-clause-stands g c = λ w stands.
    let held = hand-from_work _ _ c.in-Some.ensures.work in
    unserved (meaning_of g.S.Service.initial g.S.Service.next g.S.Service.answer g.S.Service.key_of) c.args.self.now
    c.self.view_is w stands c.args.k _ _ held c.done.new.self c.apply.new.self c.take_work.new.self
    c.done.ensures.done c.in-Err-default-NoMemory.ensures.limits c.in-Some.ensures.hands
    c.in-Err-default-NoMemory.ensures.unchanged
    (c.in-Err-default-NoMemory.ensures.no_memory c.in-Err-default-NoMemory.field-0-1-is)

pub returns-in-Ok-clause-bounds : goal.returns-in-Ok-clause-bounds
returns-in-Ok-clause-bounds g c = bounds_shown c.args.self.now c.self.view_is

pub returns-in-Err-default-KeptFull-clause-bounds : goal.returns-in-Err-default-KeptFull-clause-bounds
returns-in-Err-default-KeptFull-clause-bounds g c = bounds_shown c.args.self.now c.self.view_is

pub returns-clause-bounds : goal.returns-clause-bounds
returns-clause-bounds g c = bounds_shown c.args.self.now c.self.view_is
