use Rattle.std.proofs.Common.{◌<◌, ◌≤◌, ap, length, refl, subst, sym, arith}
use Rattle.sm_body.specs.Service.{meaning_of}
use Rattle.sm_desk.specs.Desk.{is_known}
use Rattle.sm_table.specs.Standing.{WorldView}
use Rattle.sm_table.proofs.Holding.{held_by, not_a_shard}
use Rattle.sm_table.proofs.world.World.hold.Goals as goal

pub returns-clause-stands : goal.returns-clause-stands
returns-clause-stands g c = λ w stands.
    let inside : c.args.k < length c.self.inside.table.records = omega arith in
    let within = subst (λ (v : WorldView g.row.S-Request.Denot). c.args.k < length v.records) c.self.view_is inside in
    let knows = ap (λ (v : WorldView g.row.S-Request.Denot). is_known v.desk.books.servers c.args.server)
    (sym c.self.view_is) in
    held_by (meaning_of g.S.Service.initial g.S.Service.next g.S.Service.answer g.S.Service.key_of) c.args.self.now refl
    w stands c.args.k within c.args.server c.admit.new.self
    (rw (sym c.if-not-knows.ensures) at knows) c.in_default.ensures.fault c.in_default.ensures.admitted

pub returns-then-index-count-clause-stands : goal.returns-then-index-count-clause-stands
returns-then-index-count-clause-stands g c = λ w stands.
    let past : length c.self.inside.table.records ≤ c.args.k = omega arith in
    not_a_shard (meaning_of g.S.Service.initial g.S.Service.next g.S.Service.answer g.S.Service.key_of) c.args.self.now
    c.self.view_is w stands c.args.k c.args.server past
