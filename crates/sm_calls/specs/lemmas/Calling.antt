-- The facts about a call, by whatever route it went.
use Rattle.std.proofs.Common.{ℕ, Option, Some, None, Ok, subst}
use Rattle.sm_body.specs.Service.{Meaning}
use Rattle.sm_ownership.specs.declared.route.Route.{Route}
use Rattle.sm_server.specs.Answers.{AnswerValue}
use Rattle.sm_calls.specs.Calls.{Called, CalledBy, ClientValue, Gives}

module _ {Q R : Type 0} (service : Meaning Q R) (number : ℕ) (request : Q) (answer : AnswerValue Q R) where
  given_by : (before after : ClientValue Q) (route : Option Route)
      → CalledBy service before number request route (Ok answer) after → Gives service before number request answer
  given_by before after None called = absurd cc
  given_by before after (Some route) called = called.0.0

  -- an answer is one for the client as it was before it read a route
  pub called_gives : (before after : ClientValue Q) → Called service before number request (Ok answer) after
      → Gives service before number request answer
  called_gives before after called =
      subst (λ (client : ClientValue Q). Gives service client number request answer) called.2.2
      (given_by called.1 after called.0 called.3)
