use Rattle.std.proofs.Common.{◌≡◌, IfOk, Some, refl, subst, sym}
use Rattle.std.proofs.lemmas.Result.{IfOk-weaker}
use Rattle.sm_cluster.specs.Clusters.{ClusterValue}
use Rattle.sm_script.specs.declared.line_answer.LineAnswer.{LineAnswer}
use Rattle.sm_service.specs.declared.request.Request.{Request}
use Rattle.sm_threads.specs.Calls.{WasFreed, may_answer}
use Rattle.sm_threads.specs.Refusals.{hold_refused}
use Rattle.sm_threads.specs.Sessions.{SessionValue}
use Rattle.sm_threads.proofs.Answering.{session_with}
use Rattle.sm_threads.proofs.Telling.{freed_keeps, told_whole}
use Rattle.sm_threads.proofs.cluster_backend.calls.ClusterBackendBackend.free.Goals as goal

pub invariant_of-self : goal.invariant_of-self
invariant_of-self g c =
    let before = c.self.inside.cluster in
    let middle = c.free-made.new.self in
    let made = c.free-made.ensures in
    told_whole before middle c.tell.new.self c.self.inside.client c.tell.new.client c.self.inside.loaders.items
    c.tell.ensures.unchanged c.tell.ensures.told
    (freed_keeps before middle c.args.shard c.free-made.result made.freed made.unchanged) c.self.invariant

pub returns-clause-answers : goal.returns-clause-answers
returns-clause-answers g c =
    let before = c.self.inside.cluster in
    let middle = c.free-made.new.self in
    let client = c.self.inside.client in
    let loaders = c.self.inside.loaders.items in
    let made = c.free-made.ensures in
    let told = c.tell.ensures in
    let Says : LineAnswer → Type 0 = λ answer. may_answer hold_refused c.free-made.result ≡ Some answer in
    let after = session_with c.tell.new.self loaders c.tell.new.client in
    let Was : SessionValue → LineAnswer → Type 0 = λ s answer. WasFreed s c.args.shard answer after in
    let was : (answer : LineAnswer) → Says answer → Was (session_with before loaders client) answer = λ answer says.
    subst (λ (cluster : ClusterValue Request). WasFreed (session_with before loaders client) c.args.shard
    answer (session_with cluster loaders c.tell.new.client)) (sym told.unchanged) (
      c.free-made.result,
      made.freed,
      made.refused,
      made.unchanged,
      says,
      (told.told, refl),
    ) in
    subst (λ (s : SessionValue). IfOk c.hold_answer.result (Was s)) c.self.view_is
    (IfOk-weaker c.hold_answer.result Says
    (Was (session_with before loaders client)) was c.hold_answer.ensures.ok)
