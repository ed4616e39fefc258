-- Calls that may make no step, and the answers to all others.
use Rattle.std.proofs.Common.{◌≡◌, ◌<◌, ℕ, true, List, Option, Some, None, is_some, length, refl, ap}
use Rattle.std.proofs.Common.{slice_index_or, subst, sym, ◌∙◌, arith, IfOk, Ok, Err, Result}
use Rattle.std.proofs.lemmas.List.FromFn.{get_or-map-range_with_len}
use Rattle.std.specs.Option.{option_or}
use Rattle.std.specs.declared.alloc.AllocError.{AllocError}
use Rattle.sm_ownership.specs.declared.route.Route.{Route}
use Rattle.sm_ownership.specs.Routes.{routes_of}
use Rattle.sm_ranges.specs.Ranges.{shard_of}
use Rattle.sm_script.specs.declared.line_answer.LineAnswer.{LineAnswer}
use Rattle.sm_script.specs.declared.line_answer.LineAnswer.TheVariants.{Refused as IsRefused}
use Rattle.sm_script.specs.declared.call.Call.{Call}
use Rattle.sm_script.specs.declared.call.Call.TheVariants as call
use Rattle.sm_script.specs.declared.refused.Refused.TheVariants as refused
use Rattle.sm_service.specs.declared.request.Request.{Request}
use Rattle.sm_service.specs.Service.{key_of_request}
use Rattle.sm_table.specs.Standing.{StandsFor, WorldView}
use Rattle.sm_table.specs.World.{WorldState, count_of}
use Rattle.sm_model.specs.Calls.{answer_of, answer_without_steps, answered, called, ends_in_step}
use Rattle.sm_model.specs.Calls.{route_for, shard_for}
use Rattle.sm_model.proofs.Ways.{requested_by, unless_route}
use Rattle.sm_model.specs.Sessions.{GivesAnswer, IsAt}

-- a call that ends in a step has the answer to that step
pub answered-steps : (w : WorldState Request) (asked : Call) → ends_in_step asked ≡ true
    → answered w asked ≡ answer_of (called w asked).0
answered-steps w (call.Control command) steps = refl
answered-steps w (call.Hold shard server) steps = refl
answered-steps w (call.Free shard) steps = refl
answered-steps w (call.Checkpoint shard server) steps = refl
answered-steps w (call.Publish shard) steps = refl
answered-steps w (call.Route key) steps = refl
answered-steps w (call.Look shard) steps = refl
answered-steps w call.Place steps = absurd cc
answered-steps w (call.Drain server) steps = absurd cc
answered-steps w (call.Request request) steps = refl
answered-steps w (call.RequestAt server request) steps = refl
answered-steps w (call.RequestByRoute request) steps = absurd cc
answered-steps w (call.Load key clients each) steps = absurd cc

some_or : {X : Type 0} (first second : Option X) → is_some second ≡ true → is_some (option_or first second) ≡ true
some_or None second some = some
some_or (Some x) second some = refl

-- if its last step has an answer, a call has one
pub answered-some : (w : WorldState Request) (asked : Call) → is_some (answer_of (called w asked).0) ≡ true
    → is_some (answered w asked) ≡ true
answered-some w asked some = some_or (answer_without_steps w asked) (answer_of (called w asked).0) some

-- ---- the published route of a request's shard

route_is : (view : WorldView Request) (w : WorldState Request) (request : Request) (shard : ℕ) (route : Option Route)
    → StandsFor view w → shard < length view.bounds → shard ≡ shard_of view.bounds (key_of_request request)
    → route ≡ slice_index_or view.routes shard None
    → route_for w request ≡ route
route_is view w request shard route stands within is read =
    let there : shard < count_of w = subst (λ (bounds : List (List ℕ)). shard < length bounds) stands.bounds within in
    let shard_is : shard ≡ shard_for w request =
    is ∙ ap (λ bounds. shard_of bounds (key_of_request request)) stands.bounds in
    sym (
    read
    ∙ ap (λ (routes : List (Option Route)). slice_index_or routes shard None) stands.routes
    ∙ get_or-map-range_with_len (routes_of w.publications) 0 (count_of w) shard shard None there (omega arith)
    ∙ ap (routes_of w.publications) shard_is
    )

-- the result of a client's request by a route
abbrev GivesBy : WorldState Request → Request → LineAnswer → WorldView Request → Option Route → Type 0
GivesBy w request answer after route =
    let went = requested_by w request (shard_for w request) route in
    (option_or (unless_route route) (answer_of went.0) ≡ Some answer) × IsAt after went.1

-- there is no route
pub gives_no_route : (read before : WorldView Request) → read ≡ before
    → (request : Request) (shard : ℕ) (route : Option Route)
    → shard < length read.bounds → shard ≡ shard_of read.bounds (key_of_request request)
    → route ≡ slice_index_or read.routes shard None → route ≡ None
    → GivesAnswer before (call.RequestByRoute request) (IsRefused refused.NoRoute) before
gives_no_route read before same request shard route within is found none = λ w at.
    let stands : StandsFor read w = subst (λ view. StandsFor view w) (sym same) at.world in
    subst (GivesBy w request (IsRefused refused.NoRoute) before)
    (sym (route_is read w request shard route stands within is found ∙ none)) (refl, at)

-- there is a route: the request goes to its server
pub gives_by_route : (read before after : WorldView Request) → read ≡ before
    → (request : Request) (shard : ℕ) (found : Option Route) (route : Route) (result : Result LineAnswer AllocError)
    → shard < length read.bounds → shard ≡ shard_of read.bounds (key_of_request request)
    → found ≡ slice_index_or read.routes shard None → found ≡ Some route
    → IfOk result (λ answer. GivesAnswer before (call.RequestAt route.server request) answer after)
    → IfOk result (λ answer. GivesAnswer before (call.RequestByRoute request) answer after)
gives_by_route read before after same request shard found route (Ok answer) within is there some gives = λ w at.
    let stands : StandsFor read w = subst (λ view. StandsFor view w) (sym same) at.world in
    subst (GivesBy w request answer after) (sym (route_is read w request shard found stands within is there ∙ some))
    (gives w at)
gives_by_route read before after same request shard found route (Err fault) within is there some gives = tt
