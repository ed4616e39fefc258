use Rattle.std.proofs.Common.{◌≡◌, ◌<◌, ◌≤◌, ap, refl, subst, sym, length, arith}
use Rattle.std.specs.Prelude.{slice_get, Some}
use Rattle.std.proofs.lemmas.Option.{slice_get_read}
use Rattle.sm_body.specs.Service.{meaning_of}
use Rattle.sm_table.specs.declared.step.Step.TheVariants.{Deliver}
use Rattle.sm_table.specs.World.{may_go}
use Rattle.sm_table.proofs.Deliveries.{bounds_begun, not_there, forwarded_on, refused, began}
use Rattle.sm_table.proofs.Parts.{bounds_shown}
use Rattle.sm_table.proofs.Fitting.{IsTogether-hop, IsTogether-remove, flight_there}
use Rattle.sm_table.proofs.world.World.deliver.Goals as goal

pub returns-then-place-len-clause-stands : goal.returns-then-place-len-clause-stands
returns-then-place-len-clause-stands g c = λ w stands.
    let past : length c.self.inside.in_flight.items ≤ c.args.place = omega (arith, c.self.inside.in_flight.ok.0) in
    not_there (meaning_of g.S.Service.initial g.S.Service.next g.S.Service.answer g.S.Service.key_of) c.args.self.now
    c.self.view_is w stands c.args.place past

pub record-state-requires : goal.record-state-requires
record-state-requires g c =
    let place_there : c.args.place < length c.self.inside.in_flight.items =
    omega (arith, c.self.inside.in_flight.ok.0) in
    let there = flight_there c.self.invariant c.args.place c.remove-to.result place_there c.remove-to.ensures.value in
    subst (λ shard. shard < length c.self.inside.table.records) (sym c.shard-k.ensures) there

pub returns-then-place-len-clause-bounds : goal.returns-then-place-len-clause-bounds
returns-then-place-len-clause-bounds g c = refl

pub returns-then-is_some-clause-marks : goal.returns-then-is_some-clause-marks
returns-then-is_some-clause-marks g c =
    ap (may_go {Q = g.row.S-Request.Denot} (Deliver c.args.place)) c.send_on.ensures.plain

pub returns-then-is_some-clause-bounds : goal.returns-then-is_some-clause-bounds
returns-then-is_some-clause-bounds g c = bounds_shown c.args.self.now c.self.view_is

pub invariant_of-self : goal.invariant_of-self
invariant_of-self g c =
    let place_there : c.args.place < length c.self.inside.in_flight.items =
    omega (arith, c.self.inside.in_flight.ok.0) in
    let there = flight_there c.self.invariant c.args.place c.remove-to.result place_there c.remove-to.ensures.value in
    IsTogether-hop c.self.invariant c.args.place c.remove-to.result.envelope c.record-state.result c.remove-to.result.to
    c.remove-to.new.self.items c.send_on.new.in_flight.items c.send_on.result c.remove-to.ensures.items there
    c.send_on.ensures.hop

pub returns-then-is_some-clause-stands : goal.returns-then-is_some-clause-stands
returns-then-is_some-clause-stands g c = λ w stands.
    let place_there : c.args.place < length c.self.inside.in_flight.items =
    omega (arith, c.self.inside.in_flight.ok.0) in
    let there : slice_get c.self.inside.in_flight.items c.args.place ≡ Some c.remove-to.result =
    slice_get_read c.self.inside.in_flight.items (length c.self.inside.in_flight.items) c.args.place
    c.remove-to.result refl place_there c.remove-to.ensures.value in
    forwarded_on (meaning_of g.S.Service.initial g.S.Service.next g.S.Service.answer g.S.Service.key_of) c.args.self.now
    c.self.view_is w stands c.args.place c.remove-to.result there c.remove-to.new.self.items
    c.remove-to.ensures.items c.shard-k.result c.shard-k.ensures c.record-state.result c.record-state.ensures
    (rw c.forward_to.ensures at (sym c.if-is_some.ensures)) c.send_on.result c.send_on.new.in_flight.items
    c.send_on.ensures.hop

pub invariant_of-self-else-is_some : goal.invariant_of-self-else-is_some
invariant_of-self-else-is_some g c =
    IsTogether-remove c.self.invariant c.args.place c.remove-to.new.self.items c.remove-to.ensures.items

pub returns-in-Err-clause-stands : goal.returns-in-Err-clause-stands
returns-in-Err-clause-stands g c = λ w stands.
    let place_there : c.args.place < length c.self.inside.in_flight.items =
    omega (arith, c.self.inside.in_flight.ok.0) in
    let there : slice_get c.self.inside.in_flight.items c.args.place ≡ Some c.remove-to.result =
    slice_get_read c.self.inside.in_flight.items (length c.self.inside.in_flight.items) c.args.place
    c.remove-to.result refl place_there c.remove-to.ensures.value in
    refused (meaning_of g.S.Service.initial g.S.Service.next g.S.Service.answer g.S.Service.key_of) c.args.self.now
    c.self.view_is w stands c.args.place c.remove-to.result there c.remove-to.new.self.items
    c.remove-to.ensures.items c.shard-k.result c.shard-k.ensures c.record-state.result c.record-state.ensures
    (rw c.forward_to.ensures at (sym c.if-is_some.ensures)) c.mode-mode.result c.mode-mode.ensures c.in-Err.fault
    c.admit.new.self c.in-Err.ensures.fault c.in-Err.ensures.unchanged

pub returns-clause-stands : goal.returns-clause-stands
returns-clause-stands g c = λ w stands.
    let place_there : c.args.place < length c.self.inside.in_flight.items =
    omega (arith, c.self.inside.in_flight.ok.0) in
    let there : slice_get c.self.inside.in_flight.items c.args.place ≡ Some c.remove-to.result =
    slice_get_read c.self.inside.in_flight.items (length c.self.inside.in_flight.items) c.args.place
    c.remove-to.result refl place_there c.remove-to.ensures.value in
    began (meaning_of g.S.Service.initial g.S.Service.next g.S.Service.answer g.S.Service.key_of) c.args.self.now
    c.self.view_is w stands c.args.place c.remove-to.result there c.remove-to.new.self.items
    c.remove-to.ensures.items c.shard-k.result c.shard-k.ensures c.record-state.result c.record-state.ensures
    (rw c.forward_to.ensures at (sym c.if-is_some.ensures)) c.mode-mode.result c.mode-mode.ensures
    c.number-number.result c.parts-request.result.0 c.admit.new.self c.in_default.ensures.fault
    c.number-number.ensures c.parts-request.ensures.request c.in_default.ensures.admitted

pub returns-clause-bounds : goal.returns-clause-bounds
returns-clause-bounds g c = bounds_begun c.args.self.now c.self.view_is c.remove-to.new.self.items c.shard-k.result
    c.remove-to.result.to c.number-number.result c.parts-request.result.0 c.admit.new.self c.in_default.ensures.admitted
