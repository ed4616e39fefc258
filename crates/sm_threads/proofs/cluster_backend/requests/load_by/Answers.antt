use Rattle.std.proofs.Common.{ℕ, pos, subst}
use Rattle.sm_load.specs.Loads.{HaveLoaded}
use Rattle.sm_session.specs.Service.{counter_text}
use Rattle.sm_service.specs.declared.request.Request.TheVariants.{Get, Inc}
use Rattle.sm_threads.specs.Loads.{count_replied}
use Rattle.sm_threads.proofs.Clients.{load_of_front}
use Rattle.sm_threads.proofs.cluster_backend.requests.load_by.Goals as goal

pub returns-clause-loaded : goal.returns-clause-loaded
returns-clause-loaded g c =
    let parts = c.split_at_mut-used.result in
    let did = subst (λ (each : ℕ). HaveLoaded counter_text count_replied (Get c.args.key) (Inc c.args.key (pos 1)) each
    parts.0.now c.load.result c.load.new.clients) c.from.ensures c.load.ensures.loaded in
    load_of_front c.args.key c.args.count c.args.each c.args.clients.now parts.0.now parts.1.now c.load.new.clients
    c.load.result
    c.split_at_mut-used.ensures.value c.split_at_mut-used.ensures.front_len c.load.ensures.clients did
