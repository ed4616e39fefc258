use Rattle.std.proofs.Common.{IfOk, refl, subst}
use Rattle.sm_cluster.specs.Calls.{Called}
use Rattle.sm_cluster.specs.lemmas.Since.{since_since}
use Rattle.sm_session.specs.Service.{counter_text}
use Rattle.sm_threads.specs.Calls.{WasRouted}
use Rattle.sm_threads.specs.Sessions.{SessionValue}
use Rattle.sm_threads.proofs.Answering.{answered_call, session_with}
use Rattle.sm_threads.proofs.Telling.{whole_since}
use Rattle.sm_threads.proofs.cluster_backend.calls.ClusterBackendBackend.request_by_route.Goals as goal

pub invariant_of-self : goal.invariant_of-self
invariant_of-self g c =
    whole_since c.self.inside.cluster c.self.inside.client c.learned.new.client c.self.inside.loaders.items
    (since_since c.self.inside.client c.call-given.new.self c.learned.new.client c.call-given.ensures.since
    c.learned.ensures.since) c.self.invariant

pub returns-clause-answers : goal.returns-clause-answers
returns-clause-answers g c =
    let client = c.self.inside.client in
    let before = session_with c.self.inside.cluster c.self.inside.loaders.items client in
    let after = session_with c.self.inside.cluster c.self.inside.loaders.items c.learned.new.client in
    subst (λ (s : SessionValue). IfOk c.learned.result (λ answer. WasRouted s c.args.request answer after))
    c.self.view_is
    (answered_call before after c.call-given.result c.call-given.new.self c.learned.result c.learned.ensures.answered
    refl (Called counter_text client 0 c.args.request) c.call-given.ensures.called)
