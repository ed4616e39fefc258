use Rattle.std.proofs.Common.{ap}
use Rattle.sm_table.specs.declared.step.Step.TheVariants.{Control, Hold, Free, Look, Publish, RouteOf}
use Rattle.sm_model.specs.Calls.{called}
use Rattle.sm_model.proofs.Requests.{ends_step}
use Rattle.sm_model.proofs.calls.carry_out.Goals as goal

pub returns-in-Control : goal.returns-in-Control
returns-in-Control c =
    ends_step _ _ _ (Control c.in-Control.command) _ (λ w. ap (called w) c.in-Control.is) c.make.ensures.steps

pub returns-in-Hold : goal.returns-in-Hold
returns-in-Hold c = ends_step _ _ _ (Hold c.in-Hold.shard c.in-Hold.server) _
    (λ w. ap (called w) c.in-Hold.is) c.make-in-Hold.ensures.steps

pub returns-in-Free : goal.returns-in-Free
returns-in-Free c =
    ends_step _ _ _ (Free c.in-Free.shard) _ (λ w. ap (called w) c.in-Free.is) c.make-in-Free.ensures.steps

pub returns-in-Look : goal.returns-in-Look
returns-in-Look c =
    ends_step _ _ _ (Look c.in-Look.shard) _ (λ w. ap (called w) c.in-Look.is) c.make-in-Look.ensures.steps

pub returns-in-Publish : goal.returns-in-Publish
returns-in-Publish c =
    ends_step _ _ _ (Publish c.in-Publish.shard) _ (λ w. ap (called w) c.in-Publish.is) c.make-in-Publish.ensures.steps

pub returns-in-Route : goal.returns-in-Route
returns-in-Route c =
    ends_step _ _ _ (RouteOf c.in-Route.key) _ (λ w. ap (called w) c.in-Route.is) c.make-in-Route.ensures.steps
