use Rattle.sm_body.specs.Service.{meaning_of}
use Rattle.sm_calls.specs.Since.{IsClientSince}
use Rattle.sm_calls.specs.lemmas.Since.{since_since}
use Rattle.sm_load.specs.Loads.{HasAdded}
use Rattle.sm_load.proofs.Acking.{counts_since}
use Rattle.sm_load.proofs.Adding.{as_many, at_each, sums_up}
use Rattle.sm_load.proofs.loading.load_by.Goals as goal

pub returns-clause-total : goal.returns-clause-total
returns-clause-total g c =
    sums_up (HasAdded (meaning_of g.S.Service.initial g.S.Service.next g.S.Service.answer g.S.Service.key_of)
    (g.C.Counting.tells c.args.counting.now) (g.C.Counting.adds c.args.counting.now) c.args.each) c.args.each
    (λ b m r a did. did.all) c.args.others.now c.inc_all-counts.result.acked c.inc_all-counts.result.refused
    c.inc_all-counts.new.clients c.inc_all-counts.ensures

pub returns-clause-told : goal.returns-clause-told
returns-clause-told g c = (
  c.count-before.new.client,
  c.count-before.ensures.since,
  c.count-after.ensures.since,
  c.count-before.ensures.told,
  c.count-after.ensures.told,
)

pub returns-clause-first : goal.returns-clause-first
returns-clause-first g c = since_since c.args.first.now c.count-before.new.client c.count-after.new.client
    c.count-before.ensures.since c.count-after.ensures.since

pub returns-clause-others : goal.returns-clause-others
returns-clause-others g c =
    let service = meaning_of g.S.Service.initial g.S.Service.next g.S.Service.answer g.S.Service.key_of in
    let tells = g.C.Counting.tells c.args.counting.now in
    let adds = g.C.Counting.adds c.args.counting.now in
    let added = HasAdded service tells adds c.args.each in (
      as_many added c.args.others.now c.inc_all-counts.result.acked c.inc_all-counts.result.refused
          c.inc_all-counts.new.clients c.inc_all-counts.ensures,
      at_each added IsClientSince (λ b m r a did. counts_since service tells adds b a m did.learned) c.args.others.now
          c.inc_all-counts.result.acked c.inc_all-counts.result.refused c.inc_all-counts.new.clients
          c.inc_all-counts.ensures,
    )
