-- How the parts of a `World` show the world that they stand for.
use Rattle.std.proofs.Common.{◌≡◌, ℕ, ◌<◌, List, length, refl, sym, ap, subst, ◌∙◌}
use Rattle.std.specs.Prelude.{Option, Result}
use Rattle.sm_ownership.specs.declared.record.Record.{Record}
use Rattle.sm_ownership.specs.declared.route.Route.{Route}
use Rattle.sm_table.specs.declared.world.Flight.{Flight}
use Rattle.sm_table.specs.declared.hands.InHand.{InHand}
use Rattle.sm_table.specs.declared.step.Step.{Step}
use Rattle.sm_table.specs.declared.world_answer.WorldAnswer.{WorldAnswer}
use Rattle.sm_table.specs.declared.world_fault.WorldFault.{WorldFault}
use Rattle.sm_desk.specs.Desk.{DeskView}
use Rattle.sm_ownership.specs.Tables.{TableView}
use Rattle.sm_table.specs.Bodies.{BodiesView, Past, past_at, past_of}
use Rattle.sm_body.specs.Service.{Meaning}
use Rattle.sm_table.specs.World.{WorldState, Mark, StepOutcome, count_of, last_routes, outcome}
use Rattle.sm_table.specs.Standing.{IsSound, WorldView, view_of, StandsFor, Follows, world_table}
use Rattle.sm_table.specs.lemmas.Soundness.{sound_next}

-- the parts of a world whose bodies have these pasts
abbrev pub parts_of : {Q : Type 0} → WorldState Q → List (Past Q) → WorldView Q
parts_of w pasts = record {
  bounds = w.frame.bounds;
  desk = w.desk;
  records = world_table w;
  ceiling = w.frame.ceiling;
  pasts = pasts;
  limits = w.frame.limits;
  routes = last_routes w;
  in_flight = w.in_flight;
  in_hand = w.in_hand;
}

-- the pasts are the pasts of the world's shards
pub record Keeps {Q : Type 0} (w : WorldState Q) (pasts : List (Past Q)) : Type 0 where
  pub bodies : length pasts ≡ count_of w
  pub each : (shard : ℕ) → shard < count_of w → past_at pasts shard ≡ past_of w.history shard

-- the bounds that the parts show
pub bounds_shown : {Q : Type 0} {bounds : List (List ℕ)} {desk : DeskView} {table : TableView} {bodies : BodiesView Q}
    {routes : List (Option Route)} {in_flight : List (Flight Q)} {in_hand : List (Option (InHand Q))}
    (now : WorldView Q) → view_of bounds desk table bodies routes in_flight in_hand ≡ now → bounds ≡ now.bounds
bounds_shown {Q = Q} now same = ap (λ (v : WorldView Q). v.bounds) same

-- a shard that is there is one of the layout
pub within_inside : {Q : Type 0} {bounds : List (List ℕ)} {desk : DeskView} {table : TableView} {bodies : BodiesView Q}
    {routes : List (Option Route)} {in_flight : List (Flight Q)} {in_hand : List (Option (InHand Q))}
    (now : WorldView Q) → view_of bounds desk table bodies routes in_flight in_hand ≡ now → (shard : ℕ)
    → shard < length now.bounds → shard < length bounds
within_inside {Q = Q} now same shard within = subst (λ (v : WorldView Q). shard < length v.bounds) (sym same) within

-- the parts of a sound world stand for it
pub StandsFor-parts_of : {Q : Type 0} (w : WorldState Q) (pasts : List (Past Q)) → Keeps w pasts → IsSound w
    → StandsFor (parts_of w pasts) w
StandsFor-parts_of w pasts keeps sound =
    record {
      bounds = refl;
      desk = refl;
      records = refl;
      ceiling = refl;
      bodies = keeps.bodies;
      pasts = keeps.each;
      limits = refl;
      routes = refl;
      in_flight = refl;
      in_hand = refl;
      sound = sound;
    }

same_view : {Q : Type 0} (v : WorldView Q) (bounds : List (List ℕ)) (desk : DeskView) (records : List Record)
    (ceiling : ℕ) (limits : List ℕ) (routes : List (Option Route)) (in_flight : List (Flight Q))
    (in_hand : List (Option (InHand Q))) → v.bounds ≡ bounds → v.desk ≡ desk → v.records ≡ records → v.ceiling ≡ ceiling
    → v.limits ≡ limits → v.routes ≡ routes → v.in_flight ≡ in_flight → v.in_hand ≡ in_hand
    → v ≡ record {
      bounds = bounds;
      desk = desk;
      records = records;
      ceiling = ceiling;
      pasts = v.pasts;
      limits = limits;
      routes = routes;
      in_flight = in_flight;
      in_hand = in_hand;
    }
same_view v bounds desk records ceiling limits routes in_flight in_hand a b c d e r f g =
    ap (λ x. record v { bounds = x }) a
    ∙ ap (λ x. record v { bounds = bounds; desk = x }) b
    ∙ ap (λ x. record v { bounds = bounds; desk = desk; records = x }) c
    ∙ ap (λ x. record v { bounds = bounds; desk = desk; records = records; ceiling = x }) d
    ∙ ap (λ x. record v { bounds = bounds; desk = desk; records = records; ceiling = ceiling; limits = x }) e
    ∙ ap (λ x. record v {
      bounds = bounds;
      desk = desk;
      records = records;
      ceiling = ceiling;
      limits = limits;
      routes = x;
    }) r
    ∙ ap (λ x. record v {
      bounds = bounds;
      desk = desk;
      records = records;
      ceiling = ceiling;
      limits = limits;
      routes = routes;
      in_flight = x;
    }) f
    ∙ ap (λ x. record v {
      bounds = bounds;
      desk = desk;
      records = records;
      ceiling = ceiling;
      limits = limits;
      routes = routes;
      in_flight = in_flight;
      in_hand = x;
    }) g

-- the parts that stand for a world are its parts
pub parts-from_StandsFor : {Q : Type 0} (v : WorldView Q) (w : WorldState Q) → StandsFor v w → v ≡ parts_of w v.pasts
parts-from_StandsFor v w stands = same_view v w.frame.bounds w.desk (world_table w) w.frame.ceiling w.frame.limits
    (last_routes w) w.in_flight w.in_hand stands.bounds stands.desk stands.records stands.ceiling stands.limits
    stands.routes stands.in_flight stands.in_hand

-- a step that doesn't change the world doesn't change the parts
pub Follows-unchanged : {Q R : Type 0} (service : Meaning Q R) (w : WorldState Q) (mark : Mark) (step : Step Q)
    (view now : WorldView Q) (answer : Result (WorldAnswer R) WorldFault) → StandsFor now w
    → outcome service w mark step ≡ (answer, w) → view ≡ now → Follows view answer (outcome service w mark step)
Follows-unchanged service w mark step view now answer stands out same = record {
  answered = sym (ap (λ o. o.0) out);
  stands = subst (λ o. StandsFor view o.1) (sym out) (subst (λ u. StandsFor u w) (sym same) stands);
}

-- a step that leads to another world leads to the world's parts, if they are its parts whenever that world is sound
pub Follows-changed : {Q R : Type 0} (service : Meaning Q R) (w : WorldState Q) (mark : Mark) (step : Step Q)
    (view : WorldView Q) (answer : Result (WorldAnswer R) WorldFault) (after : WorldState Q) (pasts : List (Past Q))
    → IsSound w → outcome service w mark step ≡ (answer, after) → (IsSound after → view ≡ parts_of after pasts)
    → (IsSound after → Keeps after pasts) → Follows view answer (outcome service w mark step)
Follows-changed {Q = Q} {R = R} service w mark step view answer after pasts sound out same keeps =
    let sound_after : IsSound after =
    subst (λ (o : StepOutcome Q R). IsSound o.1) out (sound_next service w mark step sound) in
    record {
      answered = sym (ap (λ o. o.0) out);
      stands = subst (λ o. StandsFor view o.1) (sym out) (subst (λ u. StandsFor u after) (sym (same sound_after))
          (StandsFor-parts_of after pasts (keeps sound_after) sound_after));
    }
