use Rattle.sm_model.proofs.Planning.{gives_by_route, gives_no_route}
use Rattle.sm_model.proofs.world_backend.WorldBackendBackend.request_by_route.Goals as goal

pub returns-in-Some-clause-answers : goal.returns-in-Some-clause-answers
returns-in-Some-clause-answers c =
    gives_by_route _ _ _ c.self.view_is c.args.request _ _ c.in-Some.route c.ask_at.result
    c.shard_of-shard.ensures.within
    c.shard_of-shard.ensures.value c.route.ensures c.in-Some.is
    c.ask_at.ensures

pub returns-in-None-clause-answers : goal.returns-in-None-clause-answers
returns-in-None-clause-answers c = gives_no_route _ _ c.self.view_is c.args.request _ _ c.shard_of-shard.ensures.within
    c.shard_of-shard.ensures.value c.route.ensures c.in-None.is
