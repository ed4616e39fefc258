use Rattle.std.proofs.Common.{◌≡◌, IfOk, Some, refl, subst, sym}
use Rattle.std.proofs.lemmas.Result.{IfOk-weaker}
use Rattle.sm_cluster.specs.Clusters.{ClusterValue}
use Rattle.sm_script.specs.declared.line_answer.LineAnswer.{LineAnswer}
use Rattle.sm_service.specs.declared.request.Request.{Request}
use Rattle.sm_threads.specs.Calls.{WasBased, may_answer}
use Rattle.sm_threads.specs.Refusals.{hold_refused}
use Rattle.sm_threads.specs.Sessions.{SessionValue}
use Rattle.sm_threads.proofs.Answering.{session_with}
use Rattle.sm_threads.proofs.Telling.{more_keeps, told_whole}
use Rattle.sm_threads.proofs.cluster_backend.calls.ClusterBackendBackend.checkpoint.Goals as goal

pub invariant_of-self : goal.invariant_of-self
invariant_of-self g c =
    let before = c.self.inside.cluster in
    let middle = c.checkpoint-made.new.self in
    let made = c.checkpoint-made.ensures in
    told_whole before middle c.tell.new.self c.self.inside.client c.tell.new.client c.self.inside.loaders.items
    c.tell.ensures.unchanged c.tell.ensures.told (more_keeps before middle made.unchanged) c.self.invariant

pub returns-clause-answers : goal.returns-clause-answers
returns-clause-answers g c =
    let before = c.self.inside.cluster in
    let middle = c.checkpoint-made.new.self in
    let client = c.self.inside.client in
    let loaders = c.self.inside.loaders.items in
    let made = c.checkpoint-made.ensures in
    let told = c.tell.ensures in
    let Says : LineAnswer → Type 0 = λ answer. may_answer hold_refused c.checkpoint-made.result ≡ Some answer in
    let after = session_with c.tell.new.self loaders c.tell.new.client in
    let Was : SessionValue → LineAnswer → Type 0 = λ s answer. WasBased s c.args.shard c.args.server answer after in
    let was : (answer : LineAnswer) → Says answer → Was (session_with before loaders client) answer = λ answer says.
    subst (λ (cluster : ClusterValue Request). WasBased (session_with before loaders client) c.args.shard c.args.server
    answer (session_with cluster loaders c.tell.new.client)) (sym told.unchanged) (
      c.checkpoint-made.result,
      made.based,
      says,
      (told.told, refl),
    ) in
    subst (λ (s : SessionValue). IfOk c.hold_answer.result (Was s)) c.self.view_is
    (IfOk-weaker c.hold_answer.result Says
    (Was (session_with before loaders client)) was c.hold_answer.ensures.ok)
