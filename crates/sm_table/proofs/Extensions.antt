-- Steps keep a world's frame, and add to its history and to its publications.
use Rattle.std.proofs.Common.{◌≡◌, ℕ, List, [], ◌∷◌, ◌++◌, length, refl, sym, ap, append_assoc, ◌∙◌}
use Rattle.std.specs.Prelude.{Option, Some, None, nat_lt, remove, slice_index_or}
use Rattle.std.proofs.lemmas.Bool.{cond_both}
use Rattle.std.proofs.lemmas.List.{append-nil}
use Rattle.sm_ownership.specs.declared.admit_fault.AdmitFault.{AdmitFault}
use Rattle.sm_desk.specs.declared.command.Command.{Command}
use Rattle.sm_desk.specs.declared.command.Command.TheVariants.{Change as ChangeOf, Ask, Approve, Stopped, Back, Fail}
use Rattle.sm_desk.specs.declared.command.CommandFault.{CommandFault}
use Rattle.sm_ownership.specs.declared.entry.Entry.{Entry}
use Rattle.sm_ownership.specs.declared.route.Route.{Route}
use Rattle.sm_table.specs.declared.world.Flight.{Flight}
use Rattle.sm_table.specs.declared.hands.InHand.{InHand}
use Rattle.sm_table.specs.declared.hands.Work.{Work}
use Rattle.sm_table.specs.declared.step.Step.{Step}
use Rattle.sm_table.specs.declared.step.Step.TheVariants.{Control, Look, Send, Deliver, Finish, Lose, Hold, Free}
use Rattle.sm_table.specs.declared.step.Step.TheVariants.{Checkpoint, Publish, RouteOf}
use Rattle.sm_desk.specs.Desk.{DeskView, commanded, is_reached}
use Rattle.sm_envelope.specs.Envelope.{EnvelopeView}
use Rattle.sm_ownership.specs.History.{kept}
use Rattle.sm_ownership.specs.Routes.{is_old, routes_of}
use Rattle.sm_body.specs.Service.{Meaning}
use Rattle.sm_table.specs.World.{WorldState, Mark, Plain, Unmade, Unserved, StepOutcome, count_of, is_there}
use Rattle.sm_table.specs.World.{reached, arrived, without_flight, with_room}
use Rattle.sm_table.specs.World.{after_admission, after_hold, after_checkpoint}
use Rattle.sm_table.specs.World.{next, world_after}
use Rattle.sm_table.specs.lemmas.Steps.{controlled, delivered, freed, let_go, made_unless, published, served, worked}

-- the later world has the frame of the earlier one, its history and then these entries, and its publications and then
-- these routes
pub record GrowsInto {Q : Type 0} (w later : WorldState Q) : Type 0 where
  pub frame : later.frame ≡ w.frame
  pub added : List (Entry Q)
  pub history : later.history ≡ w.history ++ added
  pub more : List Route
  pub publications : later.publications ≡ w.publications ++ more

extends_itself : {Q : Type 0} (w : WorldState Q) → GrowsInto w w
extends_itself w = record {
  frame = refl;
  added = [];
  history = sym (append-nil w.history);
  more = [];
  publications = sym (append-nil w.publications);
}

extends_further : {Q : Type 0} (w middle later : WorldState Q) → GrowsInto w middle → GrowsInto middle later
    → GrowsInto w later
extends_further w middle later first second = record {
  frame = second.frame ∙ first.frame;
  added = first.added ++ second.added;
  history =
      second.history ∙ (ap (λ l. l ++ second.added) first.history ∙ append_assoc w.history first.added second.added);
  more = first.more ++ second.more;
  publications = second.publications
      ∙ (ap (λ l. l ++ second.more) first.publications ∙ append_assoc w.publications first.more second.more);
}

module _ {Q : Type 0} (R : Type 0) (w : WorldState Q) where
  abbrev LeavesExtended : StepOutcome Q R → Type 0
  LeavesExtended outcome = GrowsInto w outcome.1

  -- the desk knows more
  extends_desk : (desk : DeskView) → GrowsInto w (record w { desk = desk })
  extends_desk desk = record {
    frame = refl;
    added = [];
    history = sym (append-nil w.history);
    more = [];
    publications = sym (append-nil w.publications);
  }

  extends_controlled : (command : Command) (fault : Option CommandFault) → LeavesExtended (controlled w command fault)
  extends_controlled (ChangeOf shard change) None =
      record { frame = refl; added = _; history = refl; more = []; publications = sym (append-nil w.publications) }
  extends_controlled (Ask server) None = extends_desk (commanded w.desk (Ask server))
  extends_controlled (Approve server) None = extends_desk (commanded w.desk (Approve server))
  extends_controlled (Stopped server) None = extends_desk (commanded w.desk (Stopped server))
  extends_controlled (Back server) None = extends_desk (commanded w.desk (Back server))
  extends_controlled (Fail server) None = extends_desk (commanded w.desk (Fail server))
  extends_controlled command (Some fault) = extends_itself w

  -- other envelopes are in flight
  extends_flights : (in_flight : List (Flight Q)) → GrowsInto w (record w { in_flight = in_flight })
  extends_flights in_flight = record {
    frame = refl;
    added = [];
    history = sym (append-nil w.history);
    more = [];
    publications = sym (append-nil w.publications);
  }

  extends_reached : (place to : ℕ) (envelope : EnvelopeView Q (Unit {0})) (fault : Option AdmitFault)
      → LeavesExtended (reached (without_flight w place) to envelope fault)
  extends_reached place to envelope None =
      record { frame = refl; added = _; history = refl; more = []; publications = sym (append-nil w.publications) }
  extends_reached place to envelope (Some fault) = extends_flights (remove w.in_flight place)

  extends_arrived : (place at : ℕ) (envelope : EnvelopeView Q (Unit {0})) (to : Option ℕ)
      → LeavesExtended (arrived (without_flight w place) at envelope to)
  extends_arrived place at envelope None = extends_reached place at envelope _
  extends_arrived place at envelope (Some to) = extends_flights _

  extends_delivered : (place : ℕ) (flight : Option (Flight Q)) → LeavesExtended (delivered w place flight)
  extends_delivered place None = extends_itself w
  extends_delivered place (Some flight) = extends_arrived place flight.to flight.envelope _

  extends_with_room : (service : Meaning Q R) (mark : Mark) (shard server : ℕ) (work : Work Q)
      → LeavesExtended (with_room service w mark shard server work)
  extends_with_room service Unserved shard server work =
      record { frame = refl; added = _; history = refl; more = []; publications = sym (append-nil w.publications) }
  extends_with_room service Plain shard server work =
      record { frame = refl; added = _; history = refl; more = []; publications = sym (append-nil w.publications) }
  extends_with_room service Unmade shard server work =
      record { frame = refl; added = _; history = refl; more = []; publications = sym (append-nil w.publications) }

  extends_worked : (service : Meaning Q R) (mark : Mark) (shard server : ℕ) (work : Option (Work Q))
      → LeavesExtended (worked service w mark shard server work)
  extends_worked service mark shard server None = extends_itself w
  extends_worked service mark shard server (Some work) =
      cond_both (nat_lt (length (kept w.history shard)) (slice_index_or w.frame.limits shard 0)) _ _ LeavesExtended
      (λ _. extends_with_room service mark shard server work)
      (λ _. record {
        frame = refl;
        added = _;
        history = refl;
        more = [];
        publications = sym (append-nil w.publications);
      })

  extends_served : (service : Meaning Q R) (mark : Mark) (shard : ℕ) (hand : Option (InHand Q))
      → LeavesExtended (served service w mark shard hand)
  extends_served service mark shard None = extends_itself w
  extends_served service mark shard (Some hand) = extends_worked service mark shard hand.server hand.work

  extends_made : (made : WorldState Q) (fault : Option AdmitFault) → GrowsInto w made
      → LeavesExtended (made_unless fault w made)
  extends_made made None grows = grows
  extends_made made (Some fault) grows = extends_itself w

  extends_admission : (shard server : ℕ) (made : WorldState Q) → GrowsInto w made
      → LeavesExtended (after_admission w shard server made)
  extends_admission shard server made grows = cond_both (nat_lt shard (count_of w)) _ _ LeavesExtended
      (λ _. cond_both (is_there w server) _ _ LeavesExtended (λ _. extends_made made _ grows) (λ _. extends_itself w))
      (λ _. extends_itself w)

  extends_hold : (shard server : ℕ) → LeavesExtended (after_hold w shard server)
  extends_hold shard server = extends_admission shard server _
      (record { frame = refl; added = _; history = refl; more = []; publications = sym (append-nil w.publications) })

  extends_checkpoint : (shard server : ℕ) → LeavesExtended (after_checkpoint w shard server)
  extends_checkpoint shard server = extends_admission shard server _
      (record {
        frame = refl;
        added = _;
        history = append_assoc w.history _ _;
        more = [];
        publications = sym (append-nil w.publications);
      })

  extends_let_go : (shard server : ℕ) (work : Option (Work Q)) → LeavesExtended (let_go w shard server work)
  extends_let_go shard server None =
      record { frame = refl; added = _; history = refl; more = []; publications = sym (append-nil w.publications) }
  extends_let_go shard server (Some work) = extends_itself w

  extends_freed : (shard : ℕ) (hand : Option (InHand Q)) → LeavesExtended (freed w shard hand)
  extends_freed shard None = extends_itself w
  extends_freed shard (Some hand) = extends_let_go shard hand.server hand.work

  extends_published : (route : Option Route) → LeavesExtended (published w route)
  extends_published None = extends_itself w
  extends_published (Some route) = cond_both (is_old (routes_of w.publications route.shard) route) _ _ LeavesExtended
      (λ _. extends_itself w)
      (λ _. record {
        frame = refl;
        added = [];
        history = sym (append-nil w.history);
        more = route ∷ [];
        publications = refl;
      })

pub extends_next : {Q R : Type 0} (service : Meaning Q R) (w : WorldState Q) (mark : Mark) (step : Step Q)
    → GrowsInto w (next service w mark step)
extends_next service w Unmade step = extends_itself w
extends_next {R = R} service w mark (Control command) = extends_controlled R w command _
extends_next {R = R} service w mark (Look shard) =
    cond_both (nat_lt shard (count_of w)) _ _ (LeavesExtended R w) (λ _. extends_itself w) (λ _. extends_itself w)
extends_next {R = R} service w mark (Send to number request) = cond_both (is_there w to) _ _ (LeavesExtended R w)
    (λ _. cond_both (is_reached w.desk to) _ _ (LeavesExtended R w) (λ _. extends_flights R w _)
    (λ _. extends_itself w))
    (λ _. extends_itself w)
extends_next {R = R} service w mark (Deliver place) = extends_delivered R w place _
extends_next {R = R} service w mark (Finish shard) = extends_served R w service mark shard _
extends_next {R = R} service w mark (Lose place) = cond_both (nat_lt place (length w.in_flight)) _ _
    (LeavesExtended R w) (λ _. extends_flights R w _) (λ _. extends_itself w)
extends_next {R = R} service w mark (Hold shard server) = extends_hold R w shard server
extends_next {R = R} service w mark (Free shard) = cond_both (nat_lt shard (count_of w)) _ _ (LeavesExtended R w)
    (λ _. extends_freed R w shard _) (λ _. extends_itself w)
extends_next {R = R} service w mark (Checkpoint shard server) = extends_checkpoint R w shard server
extends_next {R = R} service w mark (Publish shard) = cond_both (nat_lt shard (count_of w)) _ _ (LeavesExtended R w)
    (λ _. extends_published R w _) (λ _. extends_itself w)
extends_next service w mark (RouteOf key) = extends_itself w

pub extends_after : {Q R : Type 0} (service : Meaning Q R) (w : WorldState Q) (steps : List (Mark × Step Q))
    → GrowsInto w (world_after service w steps)
extends_after service w [] = extends_itself w
extends_after service w (step ∷ steps) =
    extends_further w (next service w step.0 step.1) (world_after service w (step ∷ steps))
    (extends_next service w step.0 step.1) (extends_after service (next service w step.0 step.1) steps)
