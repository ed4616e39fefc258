use Rattle.std.proofs.Common.{◌≡◌, ◌≤◌, arith, inl, length, subst, List}
use Rattle.sm_lead.specs.declared.ack_read.AckRead.{AckRead}
use Rattle.sm_lead.specs.declared.follower.Follower.{Follower}
use Rattle.sm_lead.specs.NextSteps.{shard_step}
use Rattle.sm_director.proofs.director.Director.next_of_shard.Goals as goal

pub returns-clause-told : goal.returns-clause-told
returns-clause-told c = (
  c.in_ok-control.control.now,
  c.in_ok-control.ensures.stands,
  (
    subst (λ (acks : List AckRead). c.next_of_shard.result
        ≡ shard_step c.in_ok-control.control.now c.args.self.now.followers.items acks c.args.k) c.deref-2.ensures.value
        (subst (λ (fs : List Follower). c.next_of_shard.result
        ≡ shard_step c.in_ok-control.control.now fs c.deref-2.result.now c.args.k)
        c.deref.ensures.value c.next_of_shard.ensures.exact),
    c.next_of_shard.ensures.allowed,
  ),
)

pub returns-then-index-len-clause-refused : goal.returns-then-index-len-clause-refused
returns-then-index-len-clause-refused c =
    let counted = c.len.ensures in
    let numbered = c.index.ensures.value in
    let least = c.if-index-len.true in
    let beyond : length c.in_ok-control.control.now.records.items ≤ c.args.k =
    grind (arith, counted, numbered, least) in
    inl (c.unknown_shard.ensures, (c.in_ok-control.control.now, c.in_ok-control.ensures.stands, beyond))
