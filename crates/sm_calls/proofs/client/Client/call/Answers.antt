use Rattle.std.proofs.Common.{ℕ, rules, subst}
use Rattle.sm_calls.specs.Calls.{HasReadRoute}
use Rattle.sm_calls.specs.lemmas.Since.{since_read, since_since}
use Rattle.sm_calls.proofs.client.Client.call.Goals as goal

pub returns-in_default-clause-called : goal.returns-in_default-clause-called
returns-in_default-clause-called g c =
    let read = c.shard_route.new.self in (
      c.shard_route.result,
      read,
      subst (λ (shard : ℕ). HasReadRoute c.args.self.now shard c.shard_route.result read) c.shard_of-k.ensures.value
          c.shard_route.ensures,
      search rules,
    )

pub returns-in_default-clause-since : goal.returns-in_default-clause-since
returns-in_default-clause-since g c =
    since_read c.args.self.now c.shard_route.new.self c.shard_route.ensures.2 c.shard_route.ensures.0

pub returns-clause-called : goal.returns-clause-called
returns-clause-called g c =
    let read = c.shard_route.new.self in (
      c.shard_route.result,
      read,
      subst (λ (shard : ℕ). HasReadRoute c.args.self.now shard c.shard_route.result read) c.shard_of-k.ensures.value
          c.shard_route.ensures,
      search rules,
    )

pub returns-clause-since : goal.returns-clause-since
returns-clause-since g c =
    since_since c.args.self.now c.shard_route.new.self c.call_shard_at.new.self
    (since_read c.args.self.now c.shard_route.new.self c.shard_route.ensures.2 c.shard_route.ensures.0)
    c.call_shard_at.ensures.since
