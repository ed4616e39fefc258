use Rattle.sm_model.proofs.Requests.{ends_checkpoint}
use Rattle.sm_model.proofs.calls.make_checkpoint.Goals as goal

pub returns : goal.returns
returns c = ends_checkpoint _ _ c.args.shard c.args.server _ c.step.ensures.stands
