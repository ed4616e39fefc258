-- The publications of a world, in the parts and in the world that they stand for.
use Rattle.std.proofs.Common.{◌≡◌, ℕ, Bool, zero, suc, ◌+◌, ◌<◌, true, false, List, [], ◌∷◌, ◌++◌, length, get_or, set}
use Rattle.std.proofs.Common.{refl, sym, ap, subst, ◌∙◌, arith, ⊎_elim}
use Rattle.std.specs.Prelude.{Option, Some, None, Ok, Err, find, map, nat_lt, replicate, slice_index_or, slice_set}
use Rattle.std.specs.Prelude.{if◌then◌else◌, ◌==◌}
use Rattle.std.specs.List.{range_with_len}
use Rattle.std.specs.Option.{option_map}
use Rattle.std.proofs.lemmas.Bool.{cases_eq, eq-eqb, lt-ltb, ne_eqb}
use Rattle.std.proofs.lemmas.List.{ext_get_or, get_or-set_same, get_or-set_other, length-set, reverse-append}
use Rattle.std.proofs.lemmas.List.FromFn.{get_or-map-range_with_len, length-map-range_with_len}
use Rattle.sm_body.specs.Service.{Meaning}
use Rattle.sm_desk.specs.Desk.{DeskView}
use Rattle.sm_ranges.specs.Ranges.{shard_of}
use Rattle.sm_ranges.specs.lemmas.Layouts.{shard_of-within}
use Rattle.sm_ranges.specs.Stand.{owner_of}
use Rattle.sm_ownership.specs.declared.record.Record.{Record}
use Rattle.sm_ownership.specs.declared.route.Route.{Route}
use Rattle.sm_ownership.specs.lemmas.Growth.{length-table_of}
use Rattle.sm_ownership.specs.History.{record_at}
use Rattle.sm_ownership.specs.Routes.{is_old, record_route, routes_of}
use Rattle.sm_ownership.specs.Tables.{TableView}
use Rattle.sm_table.specs.declared.hands.InHand.{InHand}
use Rattle.sm_table.specs.declared.step.Step.TheVariants.{Publish, RouteOf}
use Rattle.sm_table.specs.declared.world.Flight.{Flight}
use Rattle.sm_table.specs.declared.world_answer.WorldAnswer.TheVariants.{Made, Way}
use Rattle.sm_table.specs.declared.world_fault.WorldFault.TheVariants.{OldRoute, WrongPhase}
use Rattle.sm_table.specs.Bodies.{BodiesView}
use Rattle.sm_table.specs.Standing.{Follows, IsSound, StandsFor, WorldView, view_of}
use Rattle.sm_table.specs.World.{StepOutcome, Plain, WorldState, count_of, last_routes, outcome}
use Rattle.sm_table.specs.World.{world_record}
use Rattle.sm_table.proofs.Parts.{Follows-unchanged}
use Rattle.sm_table.specs.lemmas.Soundness.{sound_next}
use Rattle.sm_table.specs.lemmas.Steps.{published}

-- the last routes of this many shards
abbrev pub row_of : List Route → ℕ → List (Option Route)
row_of publications count = map (routes_of publications) (range_with_len 0 count)

-- a new route becomes the last route of its shard, and of no other shard
routes_of-push : (publications : List Route) (route : Route) (shard : ℕ) → routes_of (publications ++ route ∷ []) shard
    ≡ (if route.shard == shard then Some route else routes_of publications shard)
routes_of-push publications route shard =
    ap (find (λ (one : Route). one.shard == shard)) (reverse-append publications (route ∷ []))

row_at : (publications : List Route) (count shard : ℕ) → shard < count
    → get_or (row_of publications count) shard None ≡ routes_of publications shard
row_at publications count shard within =
    get_or-map-range_with_len (routes_of publications) 0 count shard shard None within (omega arith)

row_of-push : (publications : List Route) (count : ℕ) (route : Route) → route.shard < count
    → set (row_of publications count) route.shard (Some route) ≡ row_of (publications ++ route ∷ []) count
row_of-push publications count route within = ext_get_or None (set row route.shard (Some route)) (row_of longer count)
    (length-set row route.shard (Some route) ∙ long ∙ sym (length-map-range_with_len (routes_of longer) 0 count)) each
  where
    longer : List Route
    longer = publications ++ route ∷ []

    row : List (Option Route)
    row = row_of publications count

    long : length row ≡ count
    long = length-map-range_with_len (routes_of publications) 0 count

    each : (shard : ℕ) → shard < length (set row route.shard (Some route))
        → get_or (set row route.shard (Some route)) shard None ≡ get_or (row_of longer count) shard None
    each shard inside =
        let there : shard < count = omega (arith, length-set row route.shard (Some route), long) in
        let read = row_at longer count shard there ∙ routes_of-push publications route shard in
        ⊎_elim
        (λ (at : shard ≡ route.shard).
        ap (λ i. get_or (set row route.shard (Some route)) i None) at
        ∙ get_or-set_same row route.shard (Some route) None (omega (arith, long))
        ∙ sym (read ∙ rw (eq-eqb route.shard shard (sym at)) refl))
        (λ (apart : shard ≡ route.shard → ⊥).
        get_or-set_other row route.shard shard (Some route) None apart
        ∙ row_at publications count shard there
        ∙ sym (read ∙ rw (ne_eqb route.shard shard (λ same. apart (sym same))) refl))
        (cases_eq shard route.shard)

-- if nothing was published, no shard has a route
pub row_of-none : (start count : ℕ) → map (routes_of []) (range_with_len start count) ≡ replicate count None
row_of-none start zero = refl
row_of-none start (suc count) = ap (λ rest. None ∷ rest) (row_of-none (start + 1) count)

-- a shard's record makes a route of that shard
owner_route : (shard generation : ℕ) (owner : Option ℕ) (route : Route)
    → option_map (λ server. record { shard = shard; server = server; generation = generation }) owner ≡ Some route
    → route.shard ≡ shard
owner_route shard generation None route is = absurd cc
owner_route shard generation (Some server) route is = cc

shard_of_route : (shard : ℕ) (state : Record) (route : Route) → record_route shard state ≡ Some route
    → route.shard ≡ shard
shard_of_route shard state route is = owner_route shard state.generation (owner_of state.stand) route is

-- the route by a record that was read
pub made_route : (shard : ℕ) (state read : Record) (made : Option Route) (route : Route) → state ≡ read
    → made ≡ record_route shard state → made ≡ Some route → record_route shard read ≡ Some route
made_route shard state read made route is makes some = ap (record_route shard) (sym is) ∙ (sym makes ∙ some)

module _ {Q R : Type 0} (service : Meaning Q R) {bounds : List (List ℕ)} {desk_was : DeskView} {table_was : TableView}
    {bodies_was : BodiesView Q} {routes_was : List (Option Route)} {flights_was : List (Flight Q)}
    {hands_was : List (Option (InHand Q))} (now : WorldView Q)
    (same : view_of bounds desk_was table_was bodies_was routes_was flights_was hands_was ≡ now) (w : WorldState Q)
    (given : StandsFor now w) where
  abbrev v : WorldView Q
  v = view_of bounds desk_was table_was bodies_was routes_was flights_was hands_was

  stands : StandsFor v w
  stands = subst (λ u. StandsFor u w) (sym same) given

  module _ (shard : ℕ) (within : shard < length table_was.records) where
    there : shard < count_of w
    there = omega (arith, ap length stands.records, length-table_of (count_of w) w.frame.ceiling w.history)

    goes : (route : Option Route) → record_route shard (record_at table_was.records shard) ≡ route
        → outcome service w Plain (Publish shard) ≡ published w route
    goes route is =
        let inside : nat_lt shard (count_of w) ≡ true = lt-ltb _ _ there in
        let made : record_route shard (world_record w shard) ≡ route =
        ap (λ records. record_route shard (record_at records shard)) (sym stands.records) ∙ is in
        rw inside (ap (published w) made)

    last_is : (last : Option Route) → last ≡ slice_index_or now.routes shard None
        → routes_of w.publications shard ≡ last
    last_is last read = sym (read ∙ ap (λ routes. slice_index_or routes shard None) given.routes
        ∙ row_at w.publications (count_of w) shard there)

    -- the shard has no owner
    pub no_route : record_route shard (record_at table_was.records shard) ≡ None
        → Follows {R = R} now (Err WrongPhase) (outcome service w Plain (Publish shard))
    no_route none =
        Follows-unchanged service w Plain (Publish shard) now now (Err WrongPhase) given (goes None none) refl

    module _ (route : Route) (is : record_route shard (record_at table_was.records shard) ≡ Some route)
        (last : Option Route) (read : last ≡ slice_index_or now.routes shard None) where
      of_shard : route.shard ≡ shard
      of_shard = shard_of_route shard (record_at table_was.records shard) route is

      last_of : routes_of w.publications route.shard ≡ last
      last_of = ap (routes_of w.publications) of_shard ∙ last_is last read

      -- its route isn't newer than the last one
      pub old_route : (old : Bool) → old ≡ is_old last route → old ≡ true
          → Follows {R = R} now (Err OldRoute) (outcome service w Plain (Publish shard))
      old_route old tells is_true = Follows-unchanged service w Plain (Publish shard) now now (Err OldRoute) given
          (goes (Some route) is ∙ rw (ap (λ one. is_old one route) last_of ∙ (sym tells ∙ is_true)) refl) refl

      -- its route is published
      pub new_route : (old : Bool) → old ≡ is_old last route → old ≡ false → (routes : List (Option Route))
          → routes ≡ slice_set routes_was shard (Some route)
          → Follows {R = R} (record v { routes = routes }) (Ok Made) (outcome service w Plain (Publish shard))
      new_route old tells newer routes put =
          let out : outcome service w Plain (Publish shard) ≡ (
            Ok Made,
            record w { publications = w.publications ++ route ∷ [] },
          ) =
          goes (Some route) is ∙ rw (ap (λ one. is_old one route) last_of ∙ (sym tells ∙ newer)) refl in
          let sound = subst (λ (o : StepOutcome Q R). IsSound o.1) out
          (sound_next service w Plain (Publish shard) stands.sound) in
          let shown : routes ≡ row_of (w.publications ++ route ∷ []) (count_of w) =
          put
          ∙ ap (λ row. slice_set row shard (Some route)) stands.routes
          ∙ ap (λ at. slice_set (last_routes w) at (Some route)) (sym of_shard)
          ∙ row_of-push w.publications (count_of w) route (subst (λ at. at < count_of w) (sym of_shard) there) in
          record {
            answered = sym (ap (λ (o : StepOutcome Q R). o.0) out);
            stands = subst (λ (o : StepOutcome Q R). StandsFor (record v { routes = routes }) o.1) (sym out) (record {
              bounds = stands.bounds;
              desk = stands.desk;
              records = stands.records;
              ceiling = stands.ceiling;
              bodies = stands.bodies;
              pasts = stands.pasts;
              limits = stands.limits;
              routes = shown;
              in_flight = stands.in_flight;
              in_hand = stands.in_hand;
              sound = sound;
            });
          }

  -- the route of a key's shard
  pub route_read : (key : List ℕ) (shard : ℕ) (route : Option Route) → shard ≡ shard_of bounds key
      → route ≡ slice_index_or now.routes shard None
      → Follows {R = R} now (Ok (Way route)) (outcome service w Plain (RouteOf key))
  route_read key shard route at read =
      let is : route ≡ routes_of w.publications (shard_of w.frame.bounds key) =
      read
      ∙ ap (λ routes. slice_index_or routes shard None) given.routes
      ∙ ap (λ i. slice_index_or (last_routes w) i None)
      (at ∙ ap (λ (all : List (List ℕ)). shard_of all key) stands.bounds)
      ∙ row_at w.publications (count_of w) (shard_of w.frame.bounds key)
      (shard_of-within w.frame.bounds key stands.sound.frame.layout) in
      Follows-unchanged service w Plain (RouteOf key) now now (Ok (Way route)) given
      (ap (λ one. (Ok (Way one), w)) (sym is)) refl
