-- How a control goes on from its readings: with each migration by its stand, with each restart by its state.
use Rattle.std.specs.Prelude.{ℕ, Bool, ◌≡◌, ◌&&◌, Option, Some, None, find, is_none, nat_le, not, List, [], ◌∷◌}
use Rattle.std.specs.Prelude.{if◌then◌else◌, ◌==◌}
use Rattle.std.specs.List.{list_all, list_any}
use Rattle.std.specs.Option.{option_map}
use Rattle.sm_ranges.specs.declared.stand.Stand.{Stand}
use Rattle.sm_ranges.specs.declared.stand.Stand.TheVariants.{Vacant, Serving, Prepared, Forwarding, Taken, Paused}
use Rattle.sm_ownership.specs.declared.change.Change.TheVariants.{PrepareAddShard, PrepareDropShard, AddShard}
use Rattle.sm_ownership.specs.declared.change.Change.TheVariants.{Assign, DropShard, Cancel, Pause, Reassign}
use Rattle.sm_place.specs.declared.plan.Move.{Move}
use Rattle.sm_place.specs.declared.server_state.ServerState.{ServerState}
use Rattle.sm_place.specs.declared.server_state.ServerState.TheVariants as states
use Rattle.sm_place.specs.Books.{BooksView, shard_at, state_of}
use Rattle.sm_place.specs.Plans.{assign_plan, drain_plan}
use Rattle.sm_place.specs.ServerState.{is_approved, is_failed, is_leaving, is_unreached}
use Rattle.sm_desk.specs.declared.command.Command.{Command}
use Rattle.sm_desk.specs.declared.command.Command.TheVariants.{Change, Approve, Stopped}
use Rattle.sm_desk.specs.Desk.{DeskView, desk_fault}
use Rattle.sm_lead.specs.declared.ack_read.AckRead.{AckRead}
use Rattle.sm_lead.specs.declared.follower.Follower.{Follower}
use Rattle.sm_lead.specs.declared.next_step.NextStep.{NextStep}
use Rattle.sm_lead.specs.declared.next_step.NextStep.TheVariants.{Takes, Waits, Nothing}
use Rattle.sm_lead.specs.declared.store_control.StoreControl.{StoreControl}
use Rattle.sm_lead.specs.Commands.{command_fault, read_at}
use Rattle.sm_lead.specs.Waits.{lets_go, may_stop}

-- each of them has read the store up to this revision
abbrev pub all_follow : List Follower → ℕ → Bool
all_follow followers revision = list_all (λ follower. nat_le revision follower.revision) followers

-- it is the command, or to wait if there is none
abbrev pub waits_for : Option Command → NextStep
waits_for None = Waits
waits_for (Some command) = Takes command

-- the desk lets a paused shard go to the server
unfoldable pub lets_reassign : DeskView → ℕ → ℕ → Bool
lets_reassign desk k server = is_none (desk_fault desk (Change k (Reassign server)))

-- the first server to which it does
abbrev pub heir_of : DeskView → ℕ → Option ℕ
heir_of desk k = option_map (λ row. row.id) (find (λ row. lets_reassign desk k row.id) desk.books.servers)

-- it goes there
abbrev pub reassignment : DeskView → ℕ → Option Command
reassignment desk k = option_map (λ server. Change k (Reassign server)) (heir_of desk k)

-- it takes the step once this holds, and waits until then
abbrev pub takes_once : Bool → Command → NextStep
takes_once ready command = if ready then Takes command else Waits

-- how it goes on with a shard of this stand, whose record all have read or not, and which servers have acked or not: a
-- migration takes its next step once its next owner is prepared, and then once its owner has acked; it is given up if
-- its next owner is leaving before that, or has failed; a shard of a failed server is paused, and then reassigned
abbrev pub step_of_stand : DeskView → Bool → (ℕ → Bool) → ℕ → Stand → NextStep
step_of_stand desk followed acked k Vacant = Nothing
step_of_stand desk followed acked k (Serving owner) =
    if is_failed (state_of desk.books owner) then Takes (Change k Pause) else Nothing
step_of_stand desk followed acked k (Prepared owner next) =
    if is_leaving (state_of desk.books next) then Takes (Change k Cancel)
    else takes_once (acked next) (Change k PrepareDropShard)
step_of_stand desk followed acked k (Forwarding owner next) =
    if is_failed (state_of desk.books next) then Takes (Change k Cancel)
    else takes_once (acked owner) (Change k AddShard)
step_of_stand desk followed acked k (Taken owner previous) = takes_once followed (Change k DropShard)
step_of_stand desk followed acked k (Paused owner) =
    if is_failed (state_of desk.books owner) then waits_for (reassignment desk k) else Nothing

-- how it goes on with a server in this state: a restart that was asked for is approved, and an approved server stops,
-- once it may
abbrev pub step_of_state : Bool → ServerState → ℕ → NextStep
step_of_state may states.Asked server = Takes (Approve server)
step_of_state may states.Approved server = takes_once may (Stopped server)
step_of_state may _ server = Nothing

-- if none of a server's shards can move, the first remaining shard pauses, if the server's restart was approved
abbrev pub step_of_left : Bool → List ℕ → NextStep
step_of_left approved [] = Nothing
step_of_left approved (k ∷ left) = if approved then Takes (Change k Pause) else Nothing

-- the first move begins, or a shard that is left pauses
abbrev pub step_of_moves : Bool → List Move → List ℕ → NextStep
step_of_moves approved [] left = step_of_left approved left
step_of_moves approved (move ∷ moves) left = Takes (Change move.shard (PrepareAddShard move.to))

-- how it goes on with the drain of a server
abbrev pub step_of_drain : BooksView → ℕ → NextStep
step_of_drain books server =
    let plan = drain_plan books server in step_of_moves (is_approved (state_of books server)) plan.moves plan.left

-- the first move of a plan is made
abbrev pub step_of_assignment : List Move → NextStep
step_of_assignment [] = Nothing
step_of_assignment (move ∷ moves) = Takes (Change move.shard (Assign move.to))

-- how it goes on with the vacant shards
abbrev pub step_of_vacant : BooksView → NextStep
step_of_vacant books = step_of_assignment (assign_plan books).moves

-- it waits if the command is refused
abbrev pub unless_refused : StoreControl → NextStep → NextStep
unless_refused control (Takes command) = if is_none (command_fault control command) then Takes command else Waits
unless_refused control step = step

-- the next step of a shard
abbrev pub shard_step : StoreControl → List Follower → List AckRead → ℕ → NextStep
shard_step control followers acks k =
    unless_refused control
    (step_of_stand control.desk (all_follow followers (read_at control.records.items k).stood)
    (lets_go control acks k) k
    (shard_at control.desk.books.shards k).stand)

-- the next step of a server's restart
abbrev pub server_step : StoreControl → List AckRead → ℕ → NextStep
server_step control acks server = unless_refused control
    (step_of_state (may_stop control acks server) (state_of control.desk.books server) server)

-- the server is among the followers
abbrev pub is_following : List Follower → ℕ → Bool
is_following followers server = list_any (λ follower. follower.server == server) followers

-- the first server to which requests go and whose key isn't there
abbrev pub fallen : BooksView → List Follower → Option ℕ
fallen books followers =
    option_map (λ row. row.id)
    (find (λ row. not (is_unreached (state_of books row.id)) && not (is_following followers row.id)) books.servers)

-- the command is not refused
abbrev pub IsAllowed : StoreControl → NextStep → Type 0
IsAllowed control (Takes command) = command_fault control command ≡ None
IsAllowed control _ = Unit {0}
