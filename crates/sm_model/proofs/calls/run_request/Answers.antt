use Rattle.sm_model.proofs.Requests.{ends_at_owner, ends_vacant}
use Rattle.sm_model.proofs.calls.run_request.Goals as goal

pub returns-in-None : goal.returns-in-None
returns-in-None c =
    ends_vacant _ c.args.request _ _ _ c.shard_of-shard.ensures.value c.record.ensures c.owner.ensures c.in-None.is

pub returns-in-Some : goal.returns-in-Some
returns-in-Some c = ends_at_owner _ _ c.args.request _ _ _ _ _ c.shard_of-shard.ensures.value c.record.ensures
    c.owner.ensures c.in-Some.is c.run_request_at.ensures
