use Rattle.sm_settings.specs.SettingsLine.{values_of}
use Rattle.sm_threads.proofs.Beginnings.{few_workers, is_begun, made_is_not_refused}
use Rattle.sm_threads.proofs.Clients.{new_clients}
use Rattle.sm_threads.proofs.cluster_backend.ClusterBackend.start.Goals as goal

pub start-requires-clause-vacant : goal.start-requires-clause-vacant
start-requires-clause-vacant g c κs within = c.in_ok-desk.ensures.all_vacant

pub backend_of-requires-clause-fresh : goal.backend_of-requires-clause-fresh
backend_of-requires-clause-fresh g c = let e = c.in-Ok.ensures in
    new_clients c.in-Ok.cluster c.in-Ok.clients.items 18 e.routers e.theirs

pub returns-in-Ok-clause-begun : goal.returns-in-Ok-clause-begun
returns-in-Ok-clause-begun g c =
    let e = c.in-Ok.ensures in
    is_begun
    (values_of c.args.settings) c.backend_of.result c.in-Ok.cluster c.in_ok-desk.desk c.in_ok-bodies.bodies.items
    c.count-count.result c.count-count.ensures.value c.in_ok-desk.ensures.desk c.in_ok-bodies.ensures
    c.backend_of.ensures.cluster e.desk e.seen e.ceiling e.limits e.bounds e.holds e.map e.count
    c.backend_of.ensures.client c.backend_of.ensures.loaders c.backend_of.ensures.enough
    (few_workers (values_of c.args.settings) c.in_ok-desk.desk _ c.in_ok-desk.ensures.desk c.from-workers.ensures
    (λ much. made_is_not_refused _ _ (e.too_many much)))
    _ c.from-workers.ensures e.teams
