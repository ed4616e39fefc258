-- A step of a server's restart, in the parts and in the world that they stand for.
use Rattle.std.proofs.Common.{◌≡◌, ℕ, true, List, refl, sym, ap, subst, ◌∙◌}
use Rattle.std.specs.Prelude.{Option, Some, None, Ok, Err}
use Rattle.sm_desk.specs.declared.command.Command.{Command}
use Rattle.sm_desk.specs.declared.command.Command.TheVariants.{Change, Ask, Approve, Stopped, Back, Fail}
use Rattle.sm_desk.specs.declared.command.CommandFault.{CommandFault}
use Rattle.sm_desk.specs.Desk.{DeskView, commanded, desk_fault, is_restart, stands_of}
use Rattle.sm_ownership.specs.declared.route.Route.{Route}
use Rattle.sm_ownership.specs.Tables.{TableView}
use Rattle.sm_body.specs.Service.{Meaning}
use Rattle.sm_table.specs.Bodies.{BodiesView}
use Rattle.sm_table.specs.declared.hands.InHand.{InHand}
use Rattle.sm_table.specs.declared.step.Step.TheVariants.{Control}
use Rattle.sm_table.specs.declared.world.Flight.{Flight}
use Rattle.sm_table.specs.declared.world_answer.WorldAnswer.TheVariants.{Made}
use Rattle.sm_table.specs.declared.world_fault.WorldFault.TheVariants.{Command as CommandRefused}
use Rattle.sm_table.specs.Standing.{WorldView, view_of, StandsFor, Follows}
use Rattle.sm_table.specs.World.{WorldState, Plain, outcome, table_fault, with_change}
use Rattle.sm_table.proofs.Parts.{parts-from_StandsFor, Follows-unchanged, Follows-changed}

-- a step of a restart concerns only the desk: it has no fault of the table, and changes no stand
spares_table : {Q : Type 0} (w : WorldState Q) (command : Command) → is_restart command ≡ true
    → (table_fault w command ≡ None) × (with_change w command ≡ w)
spares_table w (Change shard change) is = absurd cc
spares_table w (Ask server) is = (refl, refl)
spares_table w (Approve server) is = (refl, refl)
spares_table w (Stopped server) is = (refl, refl)
spares_table w (Back server) is = (refl, refl)
spares_table w (Fail server) is = (refl, refl)

-- a step of a restart doesn't change the stands
pub spares_stands : (desk : DeskView) (command : Command) → is_restart command ≡ true
    → stands_of (commanded desk command) ≡ stands_of desk
spares_stands desk (Change shard change) is = absurd cc
spares_stands desk (Ask server) is = refl
spares_stands desk (Approve server) is = refl
spares_stands desk (Stopped server) is = refl
spares_stands desk (Back server) is = refl
spares_stands desk (Fail server) is = refl

module _ {Q R : Type 0} (service : Meaning Q R) {bounds : List (List ℕ)} {desk_was : DeskView} {table_was : TableView}
    {bodies_was : BodiesView Q} {routes_was : List (Option Route)} {flights_was : List (Flight Q)}
    {hands_was : List (Option (InHand Q))} (now : WorldView Q)
    (same : view_of bounds desk_was table_was bodies_was routes_was flights_was hands_was ≡ now) (w : WorldState Q)
    (given : StandsFor now w) (command : Command) where
  abbrev v : WorldView Q
  v = view_of bounds desk_was table_was bodies_was routes_was flights_was hands_was

  stands : StandsFor v w
  stands = subst (λ u. StandsFor u w) (sym same) given

  -- the desk refuses the step
  pub restart_refused : (fault : CommandFault) → Some fault ≡ desk_fault v.desk command
      → Follows {R = R} now (Err (CommandRefused fault)) (outcome service w Plain (Control command))
  restart_refused fault is =
      let refused : desk_fault w.desk command ≡ Some fault =
      ap (λ desk. desk_fault desk command) (sym stands.desk) ∙ sym is in
      Follows-unchanged service w Plain (Control command) now now (Err (CommandRefused fault)) given
      (rw refused refl) refl

  -- the step is made
  pub restarted : is_restart command ≡ true → (desk : DeskView) → None ≡ desk_fault v.desk command
      → desk ≡ commanded v.desk command
      → Follows {R = R} (record v { desk = desk }) (Ok Made) (outcome service w Plain (Control command))
  restarted is desk none noted =
      let through : desk_fault w.desk command ≡ None =
      ap (λ one. desk_fault one command) (sym stands.desk) ∙ sym none in
      Follows-changed service w Plain (Control command) (record v { desk = desk }) (Ok Made)
      (record w { desk = commanded w.desk command }) v.pasts stands.sound
      (rw (through, (spares_table w command is).0, (spares_table w command is).1) refl)
      (λ _. ap (λ one. record v { desk = one }) (noted ∙ ap (λ one. commanded one command) stands.desk)
      ∙ ap (λ (u : WorldView Q). record u { desk = commanded w.desk command }) (parts-from_StandsFor v w stands))
      (λ _. record { bodies = stands.bodies; each = stands.pasts })
