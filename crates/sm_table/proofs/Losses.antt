-- An envelope in flight that is lost, in the parts and in the world that they stand for.
use Rattle.std.proofs.Common.{◌≡◌, ℕ, ◌<◌, true, List, length, refl, sym, ap, subst, ◌∙◌}
use Rattle.std.specs.Prelude.{Ok, nat_lt, remove, Option}
use Rattle.std.proofs.lemmas.Bool.{lt-ltb}
use Rattle.sm_ownership.specs.declared.route.Route.{Route}
use Rattle.sm_table.specs.declared.world.Flight.{Flight}
use Rattle.sm_table.specs.declared.step.Step.TheVariants.{Lose}
use Rattle.sm_table.specs.declared.world_answer.WorldAnswer.TheVariants.{Made}
use Rattle.sm_body.specs.Service.{Meaning}
use Rattle.sm_table.specs.World.{WorldState, Plain, without_flight, outcome}
use Rattle.sm_table.specs.Standing.{WorldView, view_of, StandsFor, Follows}
use Rattle.sm_desk.specs.Desk.{DeskView}
use Rattle.sm_ownership.specs.Tables.{TableView}
use Rattle.sm_table.specs.Bodies.{BodiesView}
use Rattle.sm_table.specs.declared.hands.InHand.{InHand}
use Rattle.sm_table.proofs.Parts.{parts-from_StandsFor, Follows-changed}

module _ {Q R : Type 0} (service : Meaning Q R) {bounds : List (List ℕ)} {desk_was : DeskView} {table_was : TableView}
    {bodies_was : BodiesView Q} {routes_was : List (Option Route)} {flights_was : List (Flight Q)}
    {hands_was : List (Option (InHand Q))} (now : WorldView Q)
    (same : view_of bounds desk_was table_was bodies_was routes_was flights_was hands_was ≡ now) (w : WorldState Q)
    (given : StandsFor now w) (place : ℕ) (there : place < length flights_was) where
  abbrev v : WorldView Q
  v = view_of bounds desk_was table_was bodies_was routes_was flights_was hands_was

  stands : StandsFor v w
  stands = subst (λ u. StandsFor u w) (sym same) given

  pub lost : (in_flight : List (Flight Q)) → in_flight ≡ remove v.in_flight place
      → Follows (record v { in_flight = in_flight }) (Ok Made) (outcome service w Plain (Lose place))
  lost in_flight gone =
      let within : nat_lt place (length w.in_flight) ≡ true =
      lt-ltb _ _ (subst (λ flights. place < length flights) stands.in_flight there) in
      Follows-changed service w Plain (Lose place) (record v { in_flight = in_flight }) (Ok Made)
      (without_flight w place) v.pasts stands.sound (rw within refl)
      (λ _. ap (λ flights. record v { in_flight = flights }) gone
      ∙ ap (λ (u : WorldView Q). record u { in_flight = remove u.in_flight place }) (parts-from_StandsFor v w stands))
      (λ _. record { bodies = stands.bodies; each = stands.pasts })
