use Rattle.std.proofs.Common.{◌≡◌, IfOk, refl, rules, subst, true}
use Rattle.sm_cluster.specs.lemmas.Since.{since_since}
use Rattle.sm_desk.specs.Desk.{is_known}
use Rattle.sm_threads.specs.Calls.{AnsweredAt}
use Rattle.sm_threads.specs.Sessions.{SessionValue}
use Rattle.sm_threads.proofs.Answering.{answered_at, session_with}
use Rattle.sm_threads.proofs.Telling.{whole_since}
use Rattle.sm_threads.proofs.cluster_backend.ClusterBackend.ask_at.Goals as goal

pub invariant_of-self : goal.invariant_of-self
invariant_of-self g c =
    whole_since c.self.inside.cluster c.self.inside.client c.learned.new.client c.self.inside.loaders.items
    (since_since c.self.inside.client c.call_shard_at-given.new.self c.learned.new.client
    c.call_shard_at-given.ensures.since c.learned.ensures.since) c.self.invariant

pub returns : goal.returns
returns g c =
    let client = c.self.inside.client in
    let known : is_known c.self.inside.cluster.control.desk.books.servers c.args.server ≡ true = search rules in
    let before = session_with c.self.inside.cluster c.self.inside.loaders.items client in
    let after = session_with c.self.inside.cluster c.self.inside.loaders.items c.learned.new.client in
    subst (λ (s : SessionValue). IfOk c.learned.result (λ answer. AnsweredAt s c.args.server c.args.request answer
    after)) c.self.view_is
    (answered_at before after c.call_shard_at-given.result c.call_shard_at-given.new.self c.learned.result
    c.learned.ensures.answered refl c.args.server c.args.request known c.call_shard_at-given.ensures.called)
