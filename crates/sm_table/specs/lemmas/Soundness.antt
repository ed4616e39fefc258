-- Each world that steps lead to is sound.
use Rattle.std.proofs.Common.{◌≡◌, ℕ, zero, suc, ◌<◌, true, List, [], ◌∷◌, length, refl, sym, ap, subst, ◌∙◌}
use Rattle.std.specs.Prelude.{Option, Some, None, Result, All, map, replicate, remove, slice_get, slice_index_or}
use Rattle.std.specs.Prelude.{nat_lt}
use Rattle.std.specs.Option.{option_or}
use Rattle.std.proofs.lemmas.Bool.{cond_both, ltb-true}
use Rattle.std.proofs.lemmas.List.{get_or-replicate, length-replicate}
use Rattle.std.proofs.lemmas.List.Elements.{All-nil, All-append, All-get_or, All-push, All-take, All-drop}
use Rattle.std.proofs.lemmas.Option.{slice_get_within, get_or_from_slice_get}
use Rattle.sm_ranges.specs.lemmas.Layouts.{shard_of-within}
use Rattle.sm_ranges.specs.Ranges.{IsLayout, shard_of}
use Rattle.sm_ranges.specs.ServerId.{IsServer}
use Rattle.sm_ranges.specs.Stand.{AllNamed}
use Rattle.sm_ownership.specs.declared.admit_fault.AdmitFault.{AdmitFault}
use Rattle.sm_desk.specs.declared.command.CommandFault.{CommandFault}
use Rattle.sm_desk.specs.declared.command.Command.{Command}
use Rattle.sm_desk.specs.declared.command.Command.TheVariants.{Change as ChangeOf, Ask, Approve, Stopped, Back, Fail}
use Rattle.sm_table.specs.declared.world.Flight.{Flight}
use Rattle.sm_table.specs.declared.hands.InHand.{InHand}
use Rattle.sm_table.specs.declared.hands.Work.{Work}
use Rattle.sm_ownership.specs.declared.entry.Ending.TheVariants.{Nothing, Request}
use Rattle.sm_ownership.specs.declared.mode.Mode.TheVariants.{Direct}
use Rattle.sm_ownership.specs.declared.record.Record.{Record}
use Rattle.sm_table.specs.declared.world_answer.WorldAnswer.{WorldAnswer}
use Rattle.sm_ownership.specs.declared.route.Route.{Route}
use Rattle.sm_table.specs.declared.step.Step.{Step}
use Rattle.sm_table.specs.declared.step.Step.TheVariants.{Control, Look, Send, Deliver, Finish, Lose, Hold, Free}
use Rattle.sm_table.specs.declared.step.Step.TheVariants.{Checkpoint, Publish, RouteOf}
use Rattle.sm_ownership.specs.Routes.{is_old, routes_of}
use Rattle.sm_ownership.specs.Rules.{admit_fault, forward_to}
use Rattle.sm_desk.specs.Desk.{DeskView, commanded, desk_fault, is_reached, stands_of}
use Rattle.sm_place.specs.Books.{no_server, place_of}
use Rattle.sm_place.specs.lemmas.Changed.{id-at_place}
use Rattle.sm_rows.specs.declared.server_row.ServerRow.{ServerRow}
use Rattle.sm_envelope.specs.Envelope.{EnvelopeView, one_hop_more, sent_on}
use Rattle.sm_envelope.specs.declared.envelope.TheConstants.{MOST_HOPS}
use Rattle.sm_ownership.specs.History.{checkpoint_ending, vacant, record_at, kept}
use Rattle.sm_body.specs.Service.{Meaning}
use Rattle.sm_table.specs.World.{Frame, WorldState, Mark, Plain, Unmade, Unserved, StepOutcome, count_of, world_record}
use Rattle.sm_table.specs.World.{is_there, table_fault, with_change, after_send, flight_to}
use Rattle.sm_table.specs.World.{reached, after_hop, arrived, without_flight, with_room}
use Rattle.sm_table.specs.World.{after_admission, after_hold, after_checkpoint}
use Rattle.sm_table.specs.World.{after_free, empty_world, next}
use Rattle.sm_table.specs.World.{world_after, world_of}
use Rattle.sm_table.specs.Standing.{IsFrame, IsFlight, IsLedTo, IsThere, AgreesWithHand, IsSound, desk_after}
use Rattle.sm_ownership.specs.lemmas.Growth.{record_at-empty}
use Rattle.sm_table.specs.lemmas.Names.{known_forward}
use Rattle.sm_table.specs.lemmas.Entries.{led_on, sound_change, sound_admit, sound_admit_done, sound_done}
use Rattle.sm_table.specs.lemmas.Steps.{after_look, after_lose, controlled, delivered, freed, hopped, let_go}
use Rattle.sm_table.specs.lemmas.Steps.{made_unless, published, served, worked}

pub map-replicate : {A B : Type 0} (f : A → B) (count : ℕ) (x : A) → map f (replicate count x) ≡ replicate count (f x)
map-replicate f zero x = refl
map-replicate f (suc count) x = ap (λ rest. f x ∷ rest) (map-replicate f count x)

-- the empty world is sound
pub sound_empty : {Q : Type 0} (frame : Frame) → IsFrame frame → IsSound {Q = Q} (empty_world frame)
sound_empty {Q = Q} frame is = record {
  frame = is;
  desk = record { commands = []; leads = refl; through = tt };
  stands = is.vacant ∙ sym (map-replicate (λ (state : Record). state.stand) (length frame.bounds) vacant);
  legal = tt;
  own_server = refl;
  named = λ shard within. subst (λ (state : Record). AllNamed (IsThere frame.start.books.servers) state.stand)
      (sym (record_at-empty (length frame.bounds) shard)) (tt, tt);
  flights = All-nil (IsFlight (length frame.bounds) frame.start.books.servers);
  hands = length-replicate (length frame.bounds) None;
  held = λ shard within. held shard within;
}
  where
    held : (shard : ℕ) → shard < length frame.bounds
        → AgreesWithHand {Q = Q} [] (record_at (replicate (length frame.bounds) vacant) shard).admitted shard
        (slice_index_or (replicate (length frame.bounds) None) shard None)
    held shard within =
        let nothing : Option (InHand Q) = None in
        let free : slice_index_or (replicate (length frame.bounds) nothing) shard nothing ≡ nothing =
        get_or-replicate (length frame.bounds) shard nothing nothing within in
        rw free (ap (λ state. state.admitted) (record_at-empty (length frame.bounds) shard))

-- no command changes the rows of the servers
servers_commanded : (desk : DeskView) (command : Command) → (commanded desk command).books.servers ≡ desk.books.servers
servers_commanded desk (ChangeOf shard change) = refl
servers_commanded desk (Ask server) = refl
servers_commanded desk (Approve server) = refl
servers_commanded desk (Stopped server) = refl
servers_commanded desk (Back server) = refl
servers_commanded desk (Fail server) = refl

servers_after : (start : DeskView) (commands : List Command)
    → (desk_after start commands).books.servers ≡ start.books.servers
servers_after start [] = refl
servers_after start (command ∷ earlier) =
    servers_commanded (desk_after start earlier) command ∙ servers_after start earlier

-- a known number is a server
known_server : {Q : Type 0} (w : WorldState Q) (server : ℕ) → IsSound w → is_there w server ≡ true → IsServer server
known_server w server sound known =
    let servers = w.desk.books.servers in
    let same : w.frame.start.books.servers ≡ servers = sym (servers_after w.frame.start sound.desk.commands)
    ∙ ap (λ (desk : DeskView). desk.books.servers) sound.desk.leads in
    let numbers = subst (λ rows. All (λ (row : ServerRow). IsServer row.id) rows) same sound.frame.books.numbers in
    let place : place_of servers server < length servers = ltb-true _ _ known in
    subst IsServer (id-at_place servers server place)
    (All-get_or (λ (row : ServerRow). IsServer row.id) servers (place_of servers server) no_server place numbers)

-- a key's shard is there
pub shard_within : (bounds : List (List ℕ)) (key : List ℕ) → IsLayout bounds → shard_of bounds key < length bounds
shard_within = shard_of-within

neither : {X : Type 0} (first second : Option X) → option_or first second ≡ None → (first ≡ None) × (second ≡ None)
neither None second none = (refl, none)
neither (Some x) second none = absurd cc

-- a world stays sound with other envelopes in flight, for shards that are there and to servers that are there
sound_flights : {Q : Type 0} (w : WorldState Q) (in_flight : List (Flight Q)) → IsSound w
    → All (IsFlight (count_of w) w.desk.books.servers) in_flight → IsSound (record w { in_flight = in_flight })
sound_flights w in_flight sound flights = record {
  frame = sound.frame;
  desk = sound.desk;
  stands = sound.stands;
  legal = sound.legal;
  own_server = sound.own_server;
  named = sound.named;
  flights = flights;
  hands = sound.hands;
  held = sound.held;
}

-- a world stays sound with another desk, of the same stands and servers
sound_desk : {Q : Type 0} (w : WorldState Q) (desk : DeskView) → IsSound w → IsLedTo w.frame.start desk
    → stands_of desk ≡ stands_of w.desk → desk.books.servers ≡ w.desk.books.servers → IsSound (record w { desk = desk })
sound_desk w desk sound led stands servers = record {
  frame = sound.frame;
  desk = led;
  stands = stands ∙ sound.stands;
  legal = sound.legal;
  own_server = sound.own_server;
  named = λ shard within. subst (λ rows. AllNamed (IsThere rows) (world_record w shard).stand) (sym servers)
      (sound.named shard within);
  flights = subst (λ rows. All (IsFlight (count_of w) rows) w.in_flight) (sym servers) sound.flights;
  hands = sound.hands;
  held = sound.held;
}

-- a world stays sound with other publications
sound_publications : {Q : Type 0} (w : WorldState Q) (publications : List Route) → IsSound w
    → IsSound (record w { publications = publications })
sound_publications w publications sound = record {
  frame = sound.frame;
  desk = sound.desk;
  stands = sound.stands;
  legal = sound.legal;
  own_server = sound.own_server;
  named = sound.named;
  flights = sound.flights;
  hands = sound.hands;
  held = sound.held;
}

-- a world without one of its envelopes in flight
sound_taken : {Q : Type 0} (w : WorldState Q) (place : ℕ) → IsSound w → IsSound (without_flight w place)
sound_taken {Q = Q} w place sound = sound_flights w (remove w.in_flight place) sound
    (All-append IsGoing _ _ (All-take IsGoing place w.in_flight sound.flights)
    (All-drop IsGoing (suc place) w.in_flight sound.flights))
  where
    IsGoing : Flight Q → Type 0
    IsGoing = IsFlight (count_of w) w.desk.books.servers

-- the world after each step
module _ {Q : Type 0} (R : Type 0) (w : WorldState Q) (sound : IsSound w) where
  abbrev LeavesSound : StepOutcome Q R → Type 0
  LeavesSound outcome = IsSound outcome.1

  abbrev IsGoing : Flight Q → Type 0
  IsGoing = IsFlight (count_of w) w.desk.books.servers

  sound_made : (command : Command) → desk_fault w.desk command ≡ None → table_fault w command ≡ None
      → IsSound (record (with_change w command) { desk = commanded w.desk command })
  sound_made (ChangeOf shard change) desk table = sound_change w sound shard change desk table
  sound_made (Ask server) desk table = sound_desk w (commanded w.desk (Ask server)) sound
      (led_on w.frame.start w.desk (Ask server) sound.desk desk) refl refl
  sound_made (Approve server) desk table = sound_desk w (commanded w.desk (Approve server)) sound
      (led_on w.frame.start w.desk (Approve server) sound.desk desk) refl refl
  sound_made (Stopped server) desk table = sound_desk w (commanded w.desk (Stopped server)) sound
      (led_on w.frame.start w.desk (Stopped server) sound.desk desk) refl refl
  sound_made (Back server) desk table = sound_desk w (commanded w.desk (Back server)) sound
      (led_on w.frame.start w.desk (Back server) sound.desk desk) refl refl
  sound_made (Fail server) desk table = sound_desk w (commanded w.desk (Fail server)) sound
      (led_on w.frame.start w.desk (Fail server) sound.desk desk) refl refl

  sound_controlled : (command : Command) (fault : Option CommandFault)
      → option_or (desk_fault w.desk command) (table_fault w command) ≡ fault → LeavesSound (controlled w command fault)
  sound_controlled command (Some fault) is = sound
  sound_controlled command None is = let none = neither _ _ is in sound_made command none.0 none.1

  sound_look : (shard : ℕ) → LeavesSound (after_look w shard)
  sound_look shard = cond_both (nat_lt shard (count_of w)) _ _ LeavesSound (λ _. sound) (λ _. sound)

  sound_send : (service : Meaning Q R) (to number : ℕ) (request : Q)
      → LeavesSound (after_send service w to number request)
  sound_send service to number request = cond_both (is_there w to) _ _ LeavesSound
      (λ known. cond_both (is_reached w.desk to) _ _ LeavesSound
      (λ _. sound_flights w _ sound (All-push IsGoing w.in_flight _ sound.flights
      (record { shard = shard_within w.frame.bounds (service.key_of request) sound.frame.layout; server = known })))
      (λ _. sound))
      (λ _. sound)

  sound_reached : (to : ℕ) (envelope : EnvelopeView Q (Unit {0})) (fault : Option AdmitFault) → envelope.shard
      < count_of w → IsServer to → admit_fault w.frame.ceiling (world_record w envelope.shard) to envelope.mode ≡ fault
      → LeavesSound (reached w to envelope fault)
  sound_reached to envelope (Some fault) within is none = sound
  sound_reached to envelope None within is none =
      sound_admit w sound to envelope.shard envelope.mode _ within is refl none

  -- an envelope is forwarded to a server that is known
  sound_hopped : (from to : ℕ) (envelope : EnvelopeView Q (Unit {0})) → envelope.shard < count_of w
      → is_there w to ≡ true → LeavesSound (hopped w (after_hop w.desk w.in_flight (sent_on envelope from (Some to))))
  sound_hopped from to envelope within known = cond_both (nat_lt envelope.hops MOST_HOPS) _ _
      (λ (sent : Result (ℕ × EnvelopeView Q (Unit {0})) (EnvelopeView Q (Unit {0}))). LeavesSound
      (hopped w (after_hop w.desk w.in_flight sent)))
      (λ _. cond_both (is_reached w.desk to) _ _ (λ (hop : WorldAnswer R × List (Flight Q)). LeavesSound (hopped w hop))
      (λ _. sound_flights w _ sound (All-push IsGoing w.in_flight
      (flight_to to (one_hop_more envelope from)) sound.flights (record { shard = within; server = known })))
      (λ _. sound))
      (λ _. sound)

  sound_arrived : (at : ℕ) (envelope : EnvelopeView Q (Unit {0})) (to : Option ℕ) → envelope.shard < count_of w
      → is_there w at ≡ true → forward_to (world_record w envelope.shard) at ≡ to
      → LeavesSound (arrived w at envelope to)
  sound_arrived at envelope None within known is =
      sound_reached at envelope _ within (known_server w at sound known) refl
  sound_arrived at envelope (Some to) within known is = sound_hopped at to envelope within (known_forward
      w.desk.books.servers (world_record w envelope.shard).stand at to (sound.named envelope.shard within) is)

  sound_with_room : (service : Meaning Q R) (mark : Mark) (shard : ℕ) (hand : InHand Q) (work : Work Q)
      → slice_index_or w.in_hand shard None ≡ Some hand → LeavesSound (with_room service w mark shard hand.server work)
  sound_with_room service Unserved shard hand work is = sound_done w sound shard hand Nothing is
  sound_with_room service Plain shard hand work is = sound_done w sound shard hand (Request work.request) is
  sound_with_room service Unmade shard hand work is = sound_done w sound shard hand (Request work.request) is

  sound_worked : (service : Meaning Q R) (mark : Mark) (shard : ℕ) (hand : InHand Q) (work : Option (Work Q))
      → slice_index_or w.in_hand shard None ≡ Some hand → LeavesSound (worked service w mark shard hand.server work)
  sound_worked service mark shard hand None is = sound
  sound_worked service mark shard hand (Some work) is =
      cond_both (nat_lt (length (kept w.history shard)) (slice_index_or w.frame.limits shard 0)) _ _ LeavesSound
      (λ _. sound_with_room service mark shard hand work is)
      (λ _. sound_done w sound shard hand Nothing is)

  sound_served : (service : Meaning Q R) (mark : Mark) (shard : ℕ) (hand : Option (InHand Q))
      → slice_index_or w.in_hand shard None ≡ hand → LeavesSound (served service w mark shard hand)
  sound_served service mark shard None is = sound
  sound_served service mark shard (Some hand) is = sound_worked service mark shard hand hand.work is

  sound_lose : (place : ℕ) → LeavesSound (after_lose w place)
  sound_lose place =
      cond_both (nat_lt place (length w.in_flight)) _ _ LeavesSound (λ _. sound_taken w place sound) (λ _. sound)

  sound_unless : (made : WorldState Q) (fault : Option AdmitFault) → (fault ≡ None → IsSound made)
      → LeavesSound (made_unless fault w made)
  sound_unless made (Some fault) is = sound
  sound_unless made None is = is refl

  sound_admission : (shard server : ℕ) (made : WorldState Q)
      → (shard < count_of w → IsServer server → admit_fault w.frame.ceiling (world_record w shard) server Direct ≡ None
      → IsSound made)
      → LeavesSound (after_admission w shard server made)
  sound_admission shard server made is = cond_both (nat_lt shard (count_of w)) _ _ LeavesSound
      (λ within. cond_both (is_there w server) _ _ LeavesSound
      (λ known. sound_unless made _ (is (ltb-true _ _ within) (known_server w server sound known)))
      (λ _. sound))
      (λ _. sound)

  sound_hold : (shard server : ℕ) → LeavesSound (after_hold w shard server)
  sound_hold shard server =
      sound_admission shard server _ (λ within is none. sound_admit w sound server shard Direct _ within is refl none)

  sound_checkpoint : (shard server : ℕ) → LeavesSound (after_checkpoint w shard server)
  sound_checkpoint shard server = sound_admission shard server _
      (λ within is none. sound_admit_done w sound server shard
      (checkpoint_ending (kept w.history shard)) within is none)

  sound_let_go : (shard : ℕ) (hand : InHand Q) (work : Option (Work Q))
      → slice_index_or w.in_hand shard None ≡ Some hand → LeavesSound (let_go w shard hand.server work)
  sound_let_go shard hand None is = sound_done w sound shard hand Nothing is
  sound_let_go shard hand (Some work) is = sound

  sound_freed : (shard : ℕ) (hand : Option (InHand Q)) → slice_index_or w.in_hand shard None ≡ hand
      → LeavesSound (freed w shard hand)
  sound_freed shard None is = sound
  sound_freed shard (Some hand) is = sound_let_go shard hand hand.work is

  sound_free : (shard : ℕ) → LeavesSound (after_free w shard)
  sound_free shard = cond_both (nat_lt shard (count_of w)) _ _ LeavesSound (λ _. sound_freed shard _ refl) (λ _. sound)

  sound_published : (route : Option Route) → LeavesSound (published w route)
  sound_published None = sound
  sound_published (Some route) = cond_both (is_old (routes_of w.publications route.shard) route) _ _ LeavesSound
      (λ _. sound) (λ _. sound_publications w _ sound)

sound_delivered : {Q : Type 0} (R : Type 0) (w : WorldState Q) (place : ℕ) (flight : Option (Flight Q)) → IsSound w
    → slice_get w.in_flight place ≡ flight → IsSound (delivered {R = R} w place flight).1
sound_delivered R w place None sound is = sound
sound_delivered R w place (Some flight) sound is =
    let there : slice_index_or w.in_flight place flight ≡ flight =
    get_or_from_slice_get w.in_flight place flight flight is in
    let known : IsFlight (count_of w) w.desk.books.servers flight = subst (IsFlight (count_of w) w.desk.books.servers)
    there (sound.flights place flight (slice_get_within w.in_flight place flight is)) in
    sound_arrived R (without_flight w place)
    (sound_taken w place sound) flight.to flight.envelope _ known.shard known.server refl

-- each step keeps a world sound
pub sound_next : {Q R : Type 0} (service : Meaning Q R) (w : WorldState Q) (mark : Mark) (step : Step Q) → IsSound w
    → IsSound (next service w mark step)
sound_next service w Unmade step sound = sound
sound_next {R = R} service w mark (Control command) sound = sound_controlled R w sound command _ refl
sound_next {R = R} service w mark (Look shard) sound = sound_look R w sound shard
sound_next {R = R} service w mark (Send to number request) sound = sound_send R w sound service to number request
sound_next {R = R} service w mark (Deliver place) sound = sound_delivered R w place _ sound refl
sound_next {R = R} service w mark (Finish shard) sound = sound_served R w sound service mark shard _ refl
sound_next {R = R} service w mark (Lose place) sound = sound_lose R w sound place
sound_next {R = R} service w mark (Hold shard server) sound = sound_hold R w sound shard server
sound_next {R = R} service w mark (Free shard) sound = sound_free R w sound shard
sound_next {R = R} service w mark (Checkpoint shard server) sound = sound_checkpoint R w sound shard server
sound_next {R = R} service w mark (Publish shard) sound =
    cond_both (nat_lt shard (count_of w)) _ _ (LeavesSound R w sound) (λ _. sound_published R w sound _) (λ _. sound)
sound_next service w mark (RouteOf key) sound = sound

sound_after : {Q R : Type 0} (service : Meaning Q R) (w : WorldState Q) (steps : List (Mark × Step Q)) → IsSound w
    → IsSound (world_after service w steps)
sound_after service w [] sound = sound
sound_after service w (step ∷ steps) sound =
    sound_after service (next service w step.0 step.1) steps (sound_next service w step.0 step.1 sound)

-- so every world that steps make is sound
pub sound_world : {Q R : Type 0} (service : Meaning Q R) (frame : Frame) (steps : List (Mark × Step Q)) → IsFrame frame
    → IsSound (world_of service frame steps)
sound_world service frame steps is = sound_after service (empty_world frame) steps (sound_empty frame is)
