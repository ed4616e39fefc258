-- An envelope that reaches its server, in the parts and in the world that they stand for.
use Rattle.std.proofs.Common.{◌≡◌, ◌≤◌, ℕ, true, false, List, length, refl, sym, ap, subst, ◌∙◌}
use Rattle.std.specs.Prelude.{Option, Some, None, Result, Ok, Err, is_some, remove, slice_get}
use Rattle.std.proofs.lemmas.Option.{slice_get_past}
use Rattle.sm_ownership.specs.declared.admit_fault.AdmitFault.{AdmitFault}
use Rattle.sm_ownership.specs.declared.mode.Mode.{Mode}
use Rattle.sm_ownership.specs.declared.record.Record.{Record}
use Rattle.sm_ownership.specs.History.{record_at}
use Rattle.sm_ownership.specs.Rules.{admit_fault, forward_to}
use Rattle.sm_ownership.specs.declared.route.Route.{Route}
use Rattle.sm_table.specs.declared.world.Flight.{Flight}
use Rattle.sm_table.specs.declared.hands.InHand.{InHand}
use Rattle.sm_envelope.specs.declared.refusal.Refusal.TheVariants.{Admit as NotAdmitted}
use Rattle.sm_table.specs.declared.step.Step.TheVariants.{Deliver}
use Rattle.sm_table.specs.declared.world_answer.WorldAnswer.{WorldAnswer}
use Rattle.sm_table.specs.declared.world_answer.WorldAnswer.TheVariants.{Began, Refused}
use Rattle.sm_table.specs.declared.world_fault.WorldFault.TheVariants.{NoEnvelope}
use Rattle.sm_envelope.specs.Envelope.{EnvelopeView, forwarded, sent_on}
use Rattle.sm_body.specs.Service.{Meaning}
use Rattle.sm_table.specs.World.{WorldState, Plain, world_record, hand_of, reached, after_hop, without_flight, mark_of}
use Rattle.sm_table.specs.World.{outcome}
use Rattle.sm_table.specs.Standing.{WorldView, view_of, StandsFor, Follows, with_admission}
use Rattle.sm_table.proofs.Admissions.{entered, entered_parts, entered_keeps}
use Rattle.sm_desk.specs.Desk.{DeskView, is_reached}
use Rattle.std.proofs.lemmas.Bool.{cond_both}
use Rattle.sm_ownership.specs.Tables.{TableView}
use Rattle.sm_table.specs.Bodies.{BodiesView}
use Rattle.sm_table.proofs.Parts.{parts_of, parts-from_StandsFor, Follows-unchanged, Follows-changed}

none_of : {X : Type 0} (option : Option X) → is_some option ≡ false → option ≡ None
none_of None is = refl
none_of (Some x) is = absurd cc

-- the work in hand of a server that has begun this request
abbrev begun : {Q : Type 0} → ℕ → ℕ → Q → InHand Q
begun server number request = record { server = server; work = Some (record { number = number; request = request }) }

-- the bounds stay when a server has begun a request
pub bounds_begun : {Q : Type 0} {bounds : List (List ℕ)} {desk_was : DeskView} {table_was : TableView}
    {bodies_was : BodiesView Q} {routes_was : List (Option Route)} {flights_was : List (Flight Q)}
    {hands_was : List (Option (InHand Q))} (now : WorldView Q)
    → view_of bounds desk_was table_was bodies_was routes_was flights_was hands_was ≡ now
    → (in_flight : List (Flight Q)) (shard server number : ℕ) (request : Q) (after : WorldView Q)
    → after ≡ with_admission (view_of bounds desk_was table_was bodies_was routes_was in_flight hands_was) shard
    (begun server number request) → after.bounds ≡ now.bounds
bounds_begun {Q = Q} now same in_flight shard server number request after admitted =
    ap (λ (v : WorldView Q). v.bounds) admitted ∙ ap (λ (v : WorldView Q). v.bounds) same

module _ {Q R : Type 0} (service : Meaning Q R) {bounds : List (List ℕ)} {desk_was : DeskView} {table_was : TableView}
    {bodies_was : BodiesView Q} {routes_was : List (Option Route)} {flights_was : List (Flight Q)}
    {hands_was : List (Option (InHand Q))} (now : WorldView Q)
    (same : view_of bounds desk_was table_was bodies_was routes_was flights_was hands_was ≡ now) (w : WorldState Q)
    (given : StandsFor now w) where
  -- there is no envelope at the place
  pub not_there : (place : ℕ) → length flights_was ≤ place
      → Follows {R = R} now (Err NoEnvelope) (outcome service w Plain (Deliver place))
  not_there place past =
      let stands : StandsFor (view_of bounds desk_was table_was bodies_was routes_was flights_was hands_was) w =
      subst (λ u. StandsFor u w) (sym same) given in
      let none : slice_get w.in_flight place ≡ None = slice_get_past w.in_flight place
      (subst (λ (flights : List (Flight Q)). length flights ≤ place) stands.in_flight past) in
      Follows-unchanged service w Plain (Deliver place) now now (Err NoEnvelope) given (rw none refl) refl

-- a hop is a plain step
plain_hop : {Q : Type 0} (R : Type 0) (desk : DeskView) (in_flight : List (Flight Q))
    (sent : Result (ℕ × EnvelopeView Q (Unit {0})) (EnvelopeView Q (Unit {0})))
    → mark_of (Ok (after_hop {R = R} desk in_flight sent).0) ≡ Plain
plain_hop {Q = Q} R desk in_flight (Ok hop) = cond_both (is_reached desk hop.0) _ _
    (λ (one : WorldAnswer R × List (Flight Q)). mark_of (Ok one.0) ≡ Plain) (λ _. refl) (λ _. refl)
plain_hop R desk in_flight (Err envelope) = refl

module _ {Q R : Type 0} (service : Meaning Q R) {bounds : List (List ℕ)} {desk_was : DeskView} {table_was : TableView}
    {bodies_was : BodiesView Q} {routes_was : List (Option Route)} {flights_was : List (Flight Q)}
    {hands_was : List (Option (InHand Q))} (now : WorldView Q)
    (same : view_of bounds desk_was table_was bodies_was routes_was flights_was hands_was ≡ now) (w : WorldState Q)
    (given : StandsFor now w) (place : ℕ) (flight : Flight Q) (there : slice_get flights_was place ≡ Some flight)
    (in_flight : List (Flight Q)) (gone : in_flight ≡ remove flights_was place) (shard : ℕ)
    (shard_is : shard ≡ flight.envelope.shard) (state : Record)
    (state_is : state ≡ record_at table_was.records shard) where
  abbrev v : WorldView Q
  v = view_of bounds desk_was table_was bodies_was routes_was flights_was hands_was

  stands : StandsFor v w
  stands = subst (λ u. StandsFor u w) (sym same) given

  found : slice_get w.in_flight place ≡ Some flight
  found = ap (λ flights. slice_get flights place) (sym stands.in_flight) ∙ there

  state_of_world : world_record w flight.envelope.shard ≡ state
  state_of_world = ap (λ k. world_record w k) (sym shard_is)
      ∙ ap (λ records. record_at records shard) (sym stands.records) ∙ sym state_is

  -- the parts without the envelope are the parts of the world without it
  abbrev taken : WorldView Q
  taken = record v { in_flight = in_flight }

  taken_parts : taken ≡ parts_of (without_flight w place) v.pasts
  taken_parts =
      ap (λ flights. record v { in_flight = flights }) gone
      ∙ ap (λ (u : WorldView Q). record u { in_flight = remove u.in_flight place }) (parts-from_StandsFor v w stands)

  abbrev FollowsHop : WorldAnswer R × List (Flight Q) → Type 0
  FollowsHop hop =
      Follows (record v { in_flight = hop.1 }) (Ok hop.0) (outcome service w (mark_of (Ok hop.0)) (Deliver place))

  follows_hop : (to : ℕ) → forward_to state flight.to ≡ Some to
      → FollowsHop (after_hop v.desk in_flight (sent_on flight.envelope flight.to (Some to)))
  follows_hop to forwards =
      let sent : Result (ℕ × EnvelopeView Q (Unit {0})) (EnvelopeView Q (Unit {0})) =
      sent_on flight.envelope flight.to (Some to) in
      let left : in_flight ≡ remove w.in_flight place = gone ∙ ap (λ flights. remove flights place) stands.in_flight in
      let onward : forward_to (world_record w flight.envelope.shard) flight.to ≡ Some to =
      ap (λ (s : Record). forward_to s flight.to) state_of_world ∙ forwards in
      let hop : WorldAnswer R × List (Flight Q) = after_hop w.desk (remove w.in_flight place) sent in
      subst (λ flights. FollowsHop (after_hop v.desk flights sent)) (sym left)
      (subst (λ desk. FollowsHop (after_hop desk (remove w.in_flight place) sent)) (sym stands.desk)
      (subst (λ mark. Follows (record v { in_flight = hop.1 }) (Ok hop.0) (outcome service w mark (Deliver place)))
      (sym (plain_hop R w.desk (remove w.in_flight place) sent))
      (Follows-changed service w Plain (Deliver place) (record v { in_flight = hop.1 }) (Ok hop.0)
      (record w { in_flight = hop.1 }) v.pasts stands.sound (rw found (rw onward refl))
      (λ _. ap (λ (u : WorldView Q). record u { in_flight = hop.1 }) (parts-from_StandsFor v w stands))
      (λ _. record { bodies = stands.bodies; each = stands.pasts }))))

  -- the server forwards the request, or refuses it if no hop is left or the next server isn't reached
  pub forwarded_on : is_some (forward_to state flight.to) ≡ true → (answer : WorldAnswer R) (flights : List (Flight Q))
      → (answer, flights) ≡ after_hop v.desk in_flight (forwarded flight.envelope state flight.to)
      → FollowsHop (answer, flights)
  forwarded_on some answer flights is = subst FollowsHop (sym is) (by (forward_to state flight.to) refl some)
    where
      by : (to : Option ℕ) → forward_to state flight.to ≡ to → is_some to ≡ true
          → FollowsHop (after_hop v.desk in_flight (sent_on flight.envelope flight.to to))
      by None forwards onward = absurd cc
      by (Some to) forwards onward = follows_hop to forwards

  module _ (ends : is_some (forward_to state flight.to) ≡ false) (mode : Mode)
      (mode_is : mode ≡ flight.envelope.mode) where
    reached_so : (fault : Option AdmitFault) → fault ≡ admit_fault v.ceiling (record_at v.records shard) flight.to mode
        → outcome service w Plain (Deliver place) ≡ reached (without_flight w place) flight.to flight.envelope fault
    reached_so fault is =
        let nowhere : forward_to (world_record w flight.envelope.shard) flight.to ≡ None =
        ap (λ (s : Record). forward_to s flight.to) state_of_world ∙ none_of _ ends in
        let by_record :
        admit_fault w.frame.ceiling (world_record w flight.envelope.shard) flight.to flight.envelope.mode ≡ fault =
        ap (λ ceiling. admit_fault ceiling (world_record w flight.envelope.shard) flight.to flight.envelope.mode)
        (sym stands.ceiling)
        ∙ ap (λ (s : Record). admit_fault v.ceiling s flight.to flight.envelope.mode) (state_of_world ∙ state_is)
        ∙ ap (λ m. admit_fault v.ceiling (record_at v.records shard) flight.to m) (sym mode_is)
        ∙ sym is in
        rw found (rw nowhere (rw by_record refl))

    -- the server refuses the request
    pub refused : (fault : AdmitFault) (after : WorldView Q) → Some fault ≡ admit_fault v.ceiling
        (record_at v.records shard) flight.to mode → after ≡ record v { in_flight = in_flight } → Follows after
        (Ok (Refused (NotAdmitted fault))) (outcome service w Plain (Deliver place))
    refused fault after is unchanged =
        Follows-changed service w Plain (Deliver place) after (Ok (Refused (NotAdmitted fault)))
        (without_flight w place) v.pasts stands.sound (reached_so (Some fault) is)
        (λ _. unchanged ∙ taken_parts)
        (λ _. record { bodies = stands.bodies; each = stands.pasts })

    -- the server is admitted
    pub began : (number : ℕ) (request : Q) (after : WorldView Q) → None ≡ admit_fault v.ceiling
        (record_at v.records shard) flight.to mode → number ≡ flight.envelope.number → request ≡ flight.envelope.request
        → after ≡ with_admission (record v { in_flight = in_flight }) shard (begun flight.to number request)
        → Follows after (Ok (Began flight.to)) (outcome service w Plain (Deliver place))
    began number request after is number_is request_is admitted =
        let left = without_flight w place in
        let work = hand_of flight.to flight.envelope in
        let hand_is : begun flight.to number request ≡ work = ap (λ n. begun flight.to n request) number_is
        ∙ ap (λ q. begun flight.to flight.envelope.number q) request_is in
        Follows-changed service w Plain (Deliver place) after (Ok (Began flight.to)) (entered left flight.to
        flight.envelope.shard flight.envelope.mode work v.pasts) v.pasts stands.sound (reached_so None is)
        (λ sound. admitted
        ∙ ap (λ h. with_admission taken shard h) hand_is
        ∙ ap (λ k. with_admission taken k work) shard_is
        ∙ ap (λ u. with_admission u flight.envelope.shard work) taken_parts
        ∙ entered_parts left flight.to flight.envelope.shard flight.envelope.mode work v.pasts sound)
        (λ _. entered_keeps left flight.to flight.envelope.shard flight.envelope.mode work v.pasts
        (record { bodies = stands.bodies; each = stands.pasts }))
