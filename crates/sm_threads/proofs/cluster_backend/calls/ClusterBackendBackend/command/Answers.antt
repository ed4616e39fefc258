use Rattle.std.proofs.Common.{ap, refl, subst, sym}
use Rattle.sm_cluster.specs.Clusters.{ClusterValue}
use Rattle.sm_service.specs.declared.request.Request.{Request}
use Rattle.sm_threads.specs.Calls.{WasCommanded}
use Rattle.sm_threads.specs.Sessions.{SessionValue}
use Rattle.sm_threads.proofs.Answering.{session_with}
use Rattle.sm_threads.proofs.Telling.{told_whole}
use Rattle.sm_threads.proofs.cluster_backend.calls.ClusterBackendBackend.command.Goals as goal

pub invariant_of-self : goal.invariant_of-self
invariant_of-self g c =
    let made = c.command-made.ensures in
    told_whole c.self.inside.cluster c.command-made.new.self c.tell.new.self c.self.inside.client c.tell.new.client
    c.self.inside.loaders.items c.tell.ensures.unchanged c.tell.ensures.told
    (made.board, ap (λ (cluster : ClusterValue Request). cluster.bounds) made.commanded.1.1) c.self.invariant

pub returns-clause-answers : goal.returns-clause-answers
returns-clause-answers g c =
    let before = c.self.inside.cluster in
    let loaders = c.self.inside.loaders.items in
    let client = c.self.inside.client in
    let told = c.tell.ensures in
    let was : WasCommanded (session_with before loaders client) c.args.command
    c.command_answer.result (session_with c.command-made.new.self loaders c.tell.new.client) = (
      c.command-made.result,
      c.command-made.ensures.commanded,
      c.command_answer.ensures,
      (told.told, refl),
    ) in
    subst (λ (s : SessionValue). WasCommanded s c.args.command c.command_answer.result
    (session_with c.tell.new.self loaders c.tell.new.client)) c.self.view_is
    (subst (λ (cluster : ClusterValue Request). WasCommanded (session_with before loaders client)
    c.args.command c.command_answer.result (session_with cluster loaders c.tell.new.client)) (sym told.unchanged) was)
