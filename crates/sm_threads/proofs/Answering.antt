-- The answers to the client's calls in a session.
use Rattle.std.proofs.Common.{◌≡◌, ℕ, Bool, true, List, Option, Some, None, Result, Ok, Err, IfOk, sym, ap, subst}
use Rattle.std.proofs.lemmas.Result.{IfOk-weaker}
use Rattle.std.specs.declared.alloc.AllocError.{AllocError}
use Rattle.sm_cluster.specs.Calls.{CallResult, CalledAt, ClientValue}
use Rattle.sm_cluster.specs.Clusters.{ClusterValue}
use Rattle.sm_cluster.specs.Publications.{Published}
use Rattle.sm_desk.specs.Desk.{is_known}
use Rattle.sm_ownership.specs.declared.route.Route.{Route}
use Rattle.sm_ownership.specs.declared.route_fault.RouteFault.{RouteFault}
use Rattle.sm_script.specs.declared.line_answer.LineAnswer.{LineAnswer}
use Rattle.sm_service.specs.declared.reply.Reply.{Reply}
use Rattle.sm_service.specs.declared.request.Request.{Request}
use Rattle.sm_session.specs.Service.{counter_text}
use Rattle.sm_threads.specs.Calls.{AnsweredAt, AnsweredCall, AnsweredResult, AnsweredWhere, with_client}
use Rattle.sm_threads.specs.Sessions.{SessionValue}

abbrev pub session_with : ClusterValue Request → List (ClientValue Request) → ClientValue Request → SessionValue
session_with cluster loaders client = record { cluster = cluster; client = client; loaders = loaders }

pub published_keeps : (fault : Option RouteFault) (before after : ClusterValue Request) (shard : ℕ)
    (result : Result Route RouteFault) → Published fault before after shard result
    → (after.control.chair.board ≡ before.control.chair.board) × (after.bounds ≡ before.bounds)
published_keeps (Some fault) before after shard result p =
    (ap (λ (c : ClusterValue Request). c.control.chair.board) p.1, ap (λ (c : ClusterValue Request). c.bounds) p.1)
published_keeps None before after shard (Ok route) p = (p.0.0.1, ap (λ (c : ClusterValue Request). c.bounds) p.0.2.1)
published_keeps None before after shard (Err fault) p =
    (p.1.0.1, ap (λ (c : ClusterValue Request). c.bounds) p.1.2.1)

module _ (before after : SessionValue) (given : CallResult Request Reply) (asked : ClientValue Request)
    (result : Result LineAnswer AllocError)
    (told : IfOk result (λ answer. AnsweredResult asked given answer after.client))
    (rest : after ≡ with_client before after.client) where
  -- the result of the client's call is answered
  pub answered_call : (called : CallResult Request Reply → ClientValue Request → Type 0) → called given asked
      → IfOk result (λ answer. AnsweredCall called before answer after)
  answered_call called gave =
      IfOk-weaker result (λ answer. AnsweredResult asked given answer after.client)
      (λ answer. AnsweredCall called before answer after)
      (λ (answer : LineAnswer) was. (given, asked, gave, was, rest)) told

  -- that of a call at a server that exists
  pub answered_at : (server : ℕ) (request : Request) → is_known before.cluster.control.desk.books.servers server ≡ true
      → CalledAt counter_text before.client server 0 request given asked
      → IfOk result (λ answer. AnsweredAt before server request answer after)
  answered_at server request known gave =
      subst (λ (b : Bool). IfOk result (λ answer. AnsweredWhere b before server request answer after)) (sym known)
      (answered_call (CalledAt counter_text before.client server 0 request) gave)
