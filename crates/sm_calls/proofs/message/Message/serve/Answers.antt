use Rattle.std.proofs.Common.{◌≡◌, ◌∙◌, rules, sym}
use Rattle.std.specs.Arc.{arc_value}
use Rattle.sm_calls.proofs.message.Message.serve.Goals as goal

pub send-requires-after_bounds : goal.send-requires-after_bounds
send-requires-after_bounds g c κs within =
    let is = c.self.invariant in
    let bounds : (arc_value c.self.inside.ground).layout ≡ c.deref.result.now.layout = search rules in
    rw is.2 (c.in-Answered.ensures is.1 (is.3 ∙ bounds) is.4)

pub send-requires-else-is_overtaken-after_bounds : goal.send-requires-else-is_overtaken-after_bounds
send-requires-else-is_overtaken-after_bounds g c κs within =
    let is = c.self.invariant in
    let bounds : (arc_value c.self.inside.ground).layout ≡ c.deref.result.now.layout = search rules in
    let told = c.in-Refused.ensures is.1 (is.3 ∙ bounds) is.4 in
    rw is.2 (told.0.way, told.1)

pub invariant_of-message : goal.invariant_of-message
invariant_of-message g c =
    let is = c.self.invariant in
    let bounds : (arc_value c.self.inside.ground).layout ≡ c.deref.result.now.layout = search rules in
    let reached = (c.in-Refused.ensures is.1 (is.3 ∙ bounds) is.4).0 in
    (reached.way.board ∙ (sym is.4.way.board ∙ is.0), is.1, is.2, is.3, reached)

pub invariant_of-message-in-Forward : goal.invariant_of-message-in-Forward
invariant_of-message-in-Forward g c =
    let is = c.self.invariant in
    let bounds : (arc_value c.self.inside.ground).layout ≡ c.deref.result.now.layout = search rules in
    let reached = c.in-Forward.ensures is.1 (is.3 ∙ bounds) is.4 in
    (reached.way.board ∙ (sym is.4.way.board ∙ is.0), is.1, is.2, is.3, reached)
