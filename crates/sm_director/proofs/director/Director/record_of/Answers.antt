use Rattle.std.proofs.Common.{◌≡◌, ◌≤◌, arith, inl, length, subst, List}
use Rattle.sm_lead.specs.declared.record_read.RecordRead.{RecordRead}
use Rattle.sm_lead.specs.Commands.{read_at}
use Rattle.sm_director.proofs.director.Director.record_of.Goals as goal

pub returns-clause-told : goal.returns-clause-told
returns-clause-told c = (
  c.in_ok-control.control.now,
  c.in_ok-control.ensures.stands,
  subst (λ (reads : List RecordRead). c.read_at.result ≡ read_at reads c.args.k) c.deref.ensures.value
      c.read_at.ensures,
)

pub returns-then-index-len-clause-refused : goal.returns-then-index-len-clause-refused
returns-then-index-len-clause-refused c =
    let counted = c.len.ensures in
    let numbered = c.index.ensures.value in
    let least = c.if-index-len.true in
    let beyond : length c.in_ok-control.control.now.records.items ≤ c.args.k =
    grind (arith, counted, numbered, least) in
    inl (c.unknown_shard.ensures, (c.in_ok-control.control.now, c.in_ok-control.ensures.stands, beyond))
