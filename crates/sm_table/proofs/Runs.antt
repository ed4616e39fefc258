-- Each reply is the reply of one run of all requests of the shard.
use Rattle.std.proofs.Common.{◌≡◌, ℕ, List, [], ◌∷◌, ◌++◌, length, refl, ap, ◌∙◌, append_assoc}
use Rattle.std.specs.Prelude.{Option, Some, None, Result, Ok, Err, nat_lt, slice_get, slice_index_or, take}
use Rattle.std.specs.Option.{option_map}
use Rattle.std.proofs.lemmas.Bool.{cond_both}
use Rattle.std.proofs.lemmas.List.{take_at}
use Rattle.sm_ownership.specs.declared.admit_fault.AdmitFault.{AdmitFault}
use Rattle.sm_desk.specs.declared.command.Command.{Command}
use Rattle.sm_desk.specs.declared.command.CommandFault.{CommandFault}
use Rattle.sm_ownership.specs.declared.entry.Ending.TheVariants.{Request}
use Rattle.sm_ownership.specs.declared.entry.Entry.{Entry}
use Rattle.sm_ownership.specs.declared.entry.Kind.TheVariants.{Done}
use Rattle.sm_ownership.specs.declared.route.Route.{Route}
use Rattle.sm_table.specs.declared.world.Flight.{Flight}
use Rattle.sm_table.specs.declared.hands.InHand.{InHand}
use Rattle.sm_table.specs.declared.hands.Work.{Work}
use Rattle.sm_table.specs.declared.step.Step.{Step}
use Rattle.sm_table.specs.declared.step.Step.TheVariants.{Control, Look, Send, Deliver, Finish, Lose, Hold, Free}
use Rattle.sm_table.specs.declared.step.Step.TheVariants.{Checkpoint, Publish, RouteOf}
use Rattle.sm_table.specs.declared.world_answer.WorldAnswer.{WorldAnswer}
use Rattle.sm_table.specs.declared.world_answer.WorldAnswer.TheVariants.{Replied}
use Rattle.sm_ownership.specs.Routes.{is_old, routes_of}
use Rattle.sm_ownership.specs.Rules.{forward_to}
use Rattle.sm_desk.specs.Desk.{DeskView, is_reached}
use Rattle.sm_envelope.specs.Envelope.{EnvelopeView}
use Rattle.sm_ownership.specs.History.{all_of, kept, said}
use Rattle.sm_body.specs.Service.{Meaning}
use Rattle.sm_table.specs.World.{Frame, WorldState, Mark, Plain, Unmade, Unserved, StepOutcome, count_of, world_record}
use Rattle.sm_table.specs.World.{is_there, reached, after_hop, arrived, without_flight}
use Rattle.sm_table.specs.World.{with_room, after_admission}
use Rattle.sm_table.specs.World.{empty_world, answer, next, outcome, world_after, world_of}
use Rattle.sm_table.proofs.Extensions.{extends_after}
use Rattle.sm_ownership.specs.lemmas.Requests.{all_of-append, all_of-push_some}
use Rattle.sm_table.specs.lemmas.Steps.{controlled, delivered, freed, hopped, let_go, made_unless, published, served}
use Rattle.sm_table.specs.lemmas.Steps.{worked}

slice_get-middle : {X : Type 0} (xs : List X) (x : X) (ys : List X) → slice_get (xs ++ x ∷ ys) (length xs) ≡ Some x
slice_get-middle [] x ys = refl
slice_get-middle (first ∷ xs) x ys = slice_get-middle xs x ys

said_middle : {Q R : Type 0} (reply_of : List Q → Q → R) (all before : List Q) (request : Q) (after : List Q)
    → all ≡ before ++ request ∷ after → option_map (λ (q : Q). reply_of (take (length before) all) q)
    (slice_get all (length before)) ≡ Some (reply_of before request)
said_middle reply_of all before request after is =
    rw is (rw (slice_get-middle before request after, take_at before (request ∷ after) (length before) refl) refl)

-- a step that replied executed a request after all earlier requests of the shard, and that request is in the history
record HasRun {Q R : Type 0} (service : Meaning Q R) (w : WorldState Q) (outcome : StepOutcome Q R) (shard : ℕ)
    (reply : R) (place : ℕ) : Type 0 where
  server : ℕ
  request : Q
  at_end : place ≡ length (all_of w.history shard)
  executed : reply ≡ service.reply_of (all_of w.history shard) request
  written :
      outcome.1.history ≡ w.history ++ record { actor = server; shard = shard; kind = Done (Request request) } ∷ []

module _ {Q R : Type 0} (service : Meaning Q R) (w : WorldState Q) (number server : ℕ) (reply : R) (place : ℕ) where
  abbrev RunsAt : ℕ → StepOutcome Q R → Type 0
  RunsAt shard outcome = outcome.0 ≡ Ok (Replied number server reply place) → HasRun service w outcome shard reply place

  runs_with_room : (mark : Mark) (shard by : ℕ) (work : Work Q) → RunsAt shard (with_room service w mark shard by work)
  runs_with_room Unserved shard by work answered = absurd cc
  runs_with_room Plain shard by work answered =
      record { server = by; request = work.request; at_end = cc; executed = cc; written = refl }
  runs_with_room Unmade shard by work answered =
      record { server = by; request = work.request; at_end = cc; executed = cc; written = refl }

  runs_worked : (mark : Mark) (shard by : ℕ) (work : Option (Work Q))
      → RunsAt shard (worked service w mark shard by work)
  runs_worked mark shard by None answered = absurd cc
  runs_worked mark shard by (Some work) answered =
      cond_both (nat_lt (length (kept w.history shard)) (slice_index_or w.frame.limits shard 0)) _ _ (RunsAt shard)
      (λ _. runs_with_room mark shard by work)
      (λ _ refused. absurd cc)
      answered

  runs_served : (mark : Mark) (shard : ℕ) (hand : Option (InHand Q)) → RunsAt shard (served service w mark shard hand)
  runs_served mark shard None answered = absurd cc
  runs_served mark shard (Some hand) answered = runs_worked mark shard hand.server hand.work answered

  abbrev NeverReplied : StepOutcome Q R → Type 0
  NeverReplied outcome = outcome.0 ≡ Ok (Replied number server reply place) → ⊥

  never_controlled : (command : Command) (fault : Option CommandFault) → NeverReplied (controlled w command fault)
  never_controlled command None answered = cc
  never_controlled command (Some fault) answered = cc

  never_reached : (before : WorldState Q) (to : ℕ) (envelope : EnvelopeView Q (Unit {0})) (fault : Option AdmitFault)
      → NeverReplied (reached before to envelope fault)
  never_reached before to envelope None answered = cc
  never_reached before to envelope (Some fault) answered = cc

  never_hopped : (before : WorldState Q) (desk : DeskView) (in_flight : List (Flight Q))
      (sent : Result (ℕ × EnvelopeView Q (Unit {0})) (EnvelopeView Q (Unit {0})))
      → NeverReplied (hopped before (after_hop desk in_flight sent))
  never_hopped before desk in_flight (Ok hop) = cond_both (is_reached desk hop.0) _ _
      (λ (one : WorldAnswer R × List (Flight Q)). NeverReplied (hopped before one)) (λ _ at. cc) (λ _ at. cc)
  never_hopped before desk in_flight (Err envelope) = λ answered. cc

  never_arrived : (before : WorldState Q) (at : ℕ) (envelope : EnvelopeView Q (Unit {0})) (to : Option ℕ)
      → NeverReplied (arrived before at envelope to)
  never_arrived before at envelope None answered = never_reached before at envelope _ answered
  never_arrived before at envelope (Some to) answered = never_hopped before before.desk before.in_flight _ answered

  never_delivered : (at : ℕ) (flight : Option (Flight Q)) → NeverReplied (delivered w at flight)
  never_delivered at None answered = cc
  never_delivered at (Some flight) answered = never_arrived (without_flight w at) flight.to flight.envelope
      (forward_to (world_record w flight.envelope.shard) flight.to) answered

  never_made : (made : WorldState Q) (fault : Option AdmitFault) → NeverReplied (made_unless fault w made)
  never_made made None answered = cc
  never_made made (Some fault) answered = cc

  never_admission : (shard by : ℕ) (made : WorldState Q) → NeverReplied (after_admission w shard by made)
  never_admission shard by made = cond_both (nat_lt shard (count_of w)) _ _ NeverReplied
      (λ _. cond_both (is_there w by) _ _ NeverReplied (λ _. never_made made _) (λ _ at. cc))
      (λ _ at. cc)

  never_let_go : (shard by : ℕ) (work : Option (Work Q)) → NeverReplied (let_go w shard by work)
  never_let_go shard by None answered = cc
  never_let_go shard by (Some work) answered = cc

  never_freed : (shard : ℕ) (hand : Option (InHand Q)) → NeverReplied (freed w shard hand)
  never_freed shard None answered = cc
  never_freed shard (Some hand) answered = never_let_go shard hand.server hand.work answered

  never_published : (route : Option Route) → NeverReplied (published w route)
  never_published None answered = cc
  never_published (Some route) answered = cond_both
      (is_old (routes_of w.publications route.shard) route) _ _ NeverReplied (λ _ at. cc) (λ _ at. cc) answered

  -- only `Finish` replies
  runs_step : (mark : Mark) (step : Step Q) → answer service w mark step ≡ Ok (Replied number server reply place)
      → (shard : ℕ) × (step ≡ Finish shard) × HasRun service w (outcome service w mark step) shard reply place
  runs_step Unmade step answered = absurd cc
  runs_step mark (Control command) answered = absurd (never_controlled command _ answered)
  runs_step mark (Look shard) answered =
      absurd (cond_both (nat_lt shard (count_of w)) _ _ NeverReplied (λ _ at. cc) (λ _ at. cc) answered)
  runs_step mark (Send to name request) answered = absurd (cond_both (is_there w to) _ _ NeverReplied
      (λ _. cond_both (is_reached w.desk to) _ _ NeverReplied (λ _ at. cc) (λ _ at. cc)) (λ _ at. cc) answered)
  runs_step mark (Deliver at) answered = absurd (never_delivered at _ answered)
  runs_step mark (Finish shard) answered = (shard, refl, runs_served mark shard _ answered)
  runs_step mark (Lose at) answered =
      absurd (cond_both (nat_lt at (length w.in_flight)) _ _ NeverReplied (λ _ lost. cc) (λ _ lost. cc) answered)
  runs_step mark (Hold shard by) answered = absurd (never_admission shard by _ answered)
  runs_step mark (Free shard) answered =
      absurd (cond_both (nat_lt shard (count_of w)) _ _ NeverReplied (λ _. never_freed shard _) (λ _ at. cc) answered)
  runs_step mark (Checkpoint shard by) answered = absurd (never_admission shard by _ answered)
  runs_step mark (Publish shard) answered =
      absurd (cond_both (nat_lt shard (count_of w)) _ _ NeverReplied (λ _. never_published _) (λ _ at. cc) answered)
  runs_step mark (RouteOf key) answered = absurd cc

world_after-append : {Q R : Type 0} (service : Meaning Q R) (w : WorldState Q) (steps later : List (Mark × Step Q))
    → world_after service w (steps ++ later) ≡ world_after service (world_after service w steps) later
world_after-append service w [] later = refl
world_after-append service w (step ∷ steps) later =
    world_after-append service (next service w step.0 step.1) steps later

-- further steps only add to the history
pub history_grows : {Q R : Type 0} (service : Meaning Q R) (frame : Frame) (steps later : List (Mark × Step Q))
    → (added : List (Entry Q))
    × ((world_of service frame (steps ++ later)).history ≡ (world_of service frame steps).history ++ added)
history_grows service frame steps later =
    let after = extends_after service (world_of service frame steps) later in
    (after.added, ap (λ w. w.history) (world_after-append service (empty_world frame) steps later) ∙ after.history)

-- further steps only add to the publications
pub publications_grow : {Q R : Type 0} (service : Meaning Q R) (frame : Frame) (steps later : List (Mark × Step Q))
    → (more : List Route)
    × ((world_of service frame (steps ++ later)).publications ≡ (world_of service frame steps).publications ++ more)
publications_grow service frame steps later =
    let after = extends_after service (world_of service frame steps) later in (
      after.more,
      ap (λ w. w.publications) (world_after-append service (empty_world frame) steps later) ∙ after.publications,
    )

module _ {Q R : Type 0} (service : Meaning Q R) (w : WorldState Q) (mark : Mark) (step : Step Q) (shard : ℕ) (reply : R)
    (place : ℕ) (run : HasRun service w (outcome service w mark step) shard reply place) where
  -- after any further steps, a run of all requests of the shard still says that reply
  said_after : (later : List (Mark × Step Q))
      → said service.reply_of (world_after service (next service w mark step) later).history shard place ≡ Some reply
  said_after later =
      let after = extends_after service (next service w mark step) later in
      let entry : Entry Q = record { actor = run.server; shard = shard; kind = Done (Request run.request) } in
      let longer : (world_after service (next service w mark step) later).history ≡ (w.history ++ entry ∷ [])
      ++ after.added = after.history ∙ ap (λ l. l ++ after.added) run.written in
      let all : all_of (world_after service (next service w mark step) later).history shard ≡ all_of w.history shard
      ++ run.request ∷ all_of after.added shard =
      ap (λ l. all_of l shard) longer ∙ (all_of-append (w.history ++ entry ∷ []) after.added shard
      ∙ (ap (λ l. l ++ all_of after.added shard) (all_of-push_some w.history entry run.request refl)
      ∙ append_assoc (all_of w.history shard) (run.request ∷ []) (all_of after.added shard))) in
      rw (run.at_end, run.executed)
      (said_middle service.reply_of (all_of (world_after service (next service w mark step) later).history shard)
      (all_of w.history shard) run.request (all_of after.added shard) all)

-- how a reply follows from the run of its shard, from the world that the steps before it made
pub one_run : {Q R : Type 0} (service : Meaning Q R) (frame : Frame) (steps later : List (Mark × Step Q)) (mark : Mark)
    (step : Step Q) (number server : ℕ) (reply : R) (place : ℕ)
    → answer service (world_of service frame steps) mark step ≡ Ok (Replied number server reply place)
    → (shard : ℕ) × (step ≡ Finish shard) × (place ≡ length (all_of (world_of service frame steps).history shard))
    × (said service.reply_of (world_of service frame (steps ++ (mark, step) ∷ later)).history shard place ≡ Some reply)
one_run service frame steps later mark step number server reply place answered =
    let found = runs_step service (world_of service frame steps) number server reply place mark step answered in
    let joined = world_after-append service (empty_world frame) steps ((mark, step) ∷ later) in (
      found.0,
      found.1,
      found.2.at_end,
      ap (λ v. said service.reply_of v.history found.0
          place) joined ∙ said_after service (world_of service frame steps) mark step found.0 reply place found.2 later,
    )
