-- A request that a client sends, in the parts and in the world that they stand for.
use Rattle.std.proofs.Common.{◌≡◌, ℕ, true, List, [], ◌∷◌, ◌++◌, refl, sym, ap, subst, ◌∙◌}
use Rattle.std.specs.Prelude.{Ok, Err, Option}
use Rattle.sm_ranges.specs.Ranges.{shard_of}
use Rattle.sm_ownership.specs.declared.route.Route.{Route}
use Rattle.sm_table.specs.declared.world.Flight.{Flight}
use Rattle.sm_table.specs.declared.step.Step.TheVariants.{Send}
use Rattle.sm_table.specs.declared.world_answer.WorldAnswer.TheVariants.{Sent}
use Rattle.sm_table.specs.declared.world_fault.WorldFault.TheVariants.{NoMemory}
use Rattle.sm_desk.specs.Desk.{DeskView, is_known, is_reached}
use Rattle.sm_body.specs.Service.{Meaning}
use Rattle.sm_envelope.specs.Envelope.{EnvelopeView}
use Rattle.sm_table.specs.World.{WorldState, Plain, Unmade, flight_to, is_there, outcome}
use Rattle.sm_table.specs.Standing.{WorldView, view_of, StandsFor, Follows}
use Rattle.sm_ownership.specs.Tables.{TableView}
use Rattle.sm_table.specs.Bodies.{BodiesView}
use Rattle.sm_table.specs.declared.hands.InHand.{InHand}
use Rattle.sm_table.proofs.Fitting.{direct}
use Rattle.sm_table.proofs.Parts.{parts-from_StandsFor, Follows-unchanged, Follows-changed}

module _ {Q R : Type 0} (service : Meaning Q R) {bounds : List (List ℕ)} {desk_was : DeskView} {table_was : TableView}
    {bodies_was : BodiesView Q} {routes_was : List (Option Route)} {flights_was : List (Flight Q)}
    {hands_was : List (Option (InHand Q))} (now : WorldView Q)
    (same : view_of bounds desk_was table_was bodies_was routes_was flights_was hands_was ≡ now) (w : WorldState Q)
    (given : StandsFor now w) (to number : ℕ) (request : Q) where
  abbrev v : WorldView Q
  v = view_of bounds desk_was table_was bodies_was routes_was flights_was hands_was

  stands : StandsFor v w
  stands = subst (λ u. StandsFor u w) (sym same) given

  -- memory for the request was refused
  pub not_sent : (in_flight : List (Flight Q)) → in_flight ≡ v.in_flight
      → Follows (record v { in_flight = in_flight }) (Err NoMemory) (outcome service w Unmade (Send to number request))
  not_sent in_flight is = Follows-unchanged service w Unmade (Send to number request) (record v {
    in_flight = in_flight;
  }) v (Err NoMemory) stands refl (ap (λ flights. record v { in_flight = flights }) is)

  -- the request is in flight
  pub sent : (shard : ℕ) (envelope : EnvelopeView Q (Unit {0})) (in_flight : List (Flight Q))
      → is_known v.desk.books.servers to ≡ true → is_reached v.desk to ≡ true
      → shard ≡ shard_of now.bounds (service.key_of request) → envelope ≡ direct number shard request
      → in_flight ≡ v.in_flight ++ flight_to to envelope ∷ []
      → Follows (record v { in_flight = in_flight }) (Ok Sent) (outcome service w Plain (Send to number request))
  sent shard envelope in_flight known reached by_key envelope_is is =
      let knows : is_there w to ≡ true =
      ap (λ (desk : DeskView). is_known desk.books.servers to) (sym stands.desk) ∙ known in
      let reaches : is_reached w.desk to ≡ true =
      ap (λ (desk : DeskView). is_reached desk to) (sym stands.desk) ∙ reached in
      let of_world : shard ≡ shard_of w.frame.bounds (service.key_of request) =
      by_key ∙ ap (λ bounds. shard_of bounds (service.key_of request)) given.bounds in
      let last : EnvelopeView Q (Unit {0}) = direct number (shard_of w.frame.bounds (service.key_of request)) request in
      let last_is : envelope ≡ last = envelope_is ∙ ap (λ k. direct number k request) of_world in
      Follows-changed service w Plain (Send to number request) (record v { in_flight = in_flight }) (Ok Sent) (record
      w { in_flight = w.in_flight ++ flight_to to last ∷ [] }) v.pasts stands.sound (rw knows (rw reaches refl))
      (λ _. ap (λ all. record v { in_flight = all }) is
      ∙ ap (λ one. record v { in_flight = v.in_flight ++ flight_to to one ∷ [] }) last_is
      ∙ ap (λ (u : WorldView Q). record u { in_flight = u.in_flight ++ flight_to to last ∷ [] })
      (parts-from_StandsFor v w stands))
      (λ _. record { bodies = stands.bodies; each = stands.pasts })
