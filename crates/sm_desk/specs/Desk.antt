-- The desk: everything that the control knows when it checks a command. The rules of stands, of room and of approvals
-- are those of the crates below. Here are the order in which they apply, and the desk after a command.
use Rattle.std.specs.Prelude.{ℕ, Bool, true, false, Option, Some, None, nat_lt, not, if◌then◌else◌, unwrap_or, List}
use Rattle.std.specs.Prelude.{Result, length, map}
use Rattle.std.specs.Option.{option_map, option_or}
use Rattle.std.specs.Result.{result_err}
use Rattle.sm_ranges.specs.declared.stand.Stand.{Stand}
use Rattle.sm_ranges.specs.declared.stand.Stand.TheVariants.{Paused}
use Rattle.sm_rows.specs.declared.server_row.ServerRow.{ServerRow}
use Rattle.sm_ownership.specs.declared.change.Change.{Change as AnyChange}
use Rattle.sm_ownership.specs.declared.change.Change.TheVariants.{Resume}
use Rattle.sm_ownership.specs.declared.change_fault.ChangeFault.TheVariants.{UnknownShard}
use Rattle.sm_ownership.specs.Rules.{stand_after, phase_fault, newly_named}
use Rattle.sm_place.specs.declared.place_fault.PlaceFault.TheVariants.{Leaving}
use Rattle.sm_place.specs.declared.server_state.ServerState.TheVariants.{Up as IsUp, Asked as IsAsked}
use Rattle.sm_place.specs.declared.server_state.ServerState.TheVariants.{Approved as IsApproved, Stopped as IsStopped}
use Rattle.sm_place.specs.declared.server_state.ServerState.TheVariants.{Failed as IsFailed}
use Rattle.sm_place.specs.Books.{BooksView, place_of, shard_at, state_of, with_stand, with_state}
use Rattle.sm_place.specs.Room.{fit}
use Rattle.sm_place.specs.ServerState.{is_leaving, is_unreached}
use Rattle.sm_tasks.specs.declared.restart_fault.RestartFault.{RestartFault}
use Rattle.sm_tasks.specs.Approvals.{approvable, askable, failable, returnable, stoppable}
use Rattle.sm_tasks.specs.Caps.{RestartCaps}
use Rattle.sm_desk.specs.declared.command.Command.{Command}
use Rattle.sm_desk.specs.declared.command.Command.TheVariants.{Change, Ask, Approve, Stopped, Back, Fail}
use Rattle.sm_desk.specs.declared.command.CommandFault.{CommandFault}
use Rattle.sm_desk.specs.declared.command.CommandFault.TheVariants.{UnknownServer, Change as ChangeRefused, Place}
use Rattle.sm_desk.specs.declared.command.CommandFault.TheVariants.{Restart as RestartRefused}

-- the books, and the caps that are numbers
pub record DeskView : Type 0 where
  pub books : BooksView
  pub caps : RestartCaps

-- there is a row for the server
abbrev pub is_known : List ServerRow → ℕ → Bool
is_known servers server = nat_lt (place_of servers server) (length servers)

-- a server is named, and it has no row
abbrev pub is_unknown : List ServerRow → Option ℕ → Bool
is_unknown servers None = false
is_unknown servers (Some server) = not (is_known servers server)

-- whether the command is a step of a server's restart, not a change of a shard
abbrev pub is_restart : Command → Bool
is_restart (Change shard change) = false
is_restart command = true

-- the stands of the shards
abbrev pub stands_of : DeskView → List Stand
stands_of desk = map (λ shard. shard.stand) desk.books.shards

-- whether requests reach the server
abbrev pub is_reached : DeskView → ℕ → Bool
is_reached desk server = not (is_unreached (state_of desk.books server))

-- why there is no room for the shard on the server that a change newly names
abbrev pub room_fault : BooksView → ℕ → Option ℕ → Option CommandFault
room_fault books shard None = None
room_fault books shard (Some server) = option_map Place (result_err (fit books shard server))

-- the owner that will execute again
abbrev pub resumed : Stand → AnyChange → Option ℕ
resumed (Paused owner) Resume = Some owner
resumed _ _ = None

-- why that owner may not execute again
abbrev pub resume_fault : BooksView → Option ℕ → Option CommandFault
resume_fault books None = None
resume_fault books (Some owner) = if is_leaving (state_of books owner) then Some (Place Leaving) else None

-- the first reason why the desk refuses a change of a shard
abbrev pub desk_change_fault : BooksView → ℕ → AnyChange → Option CommandFault
desk_change_fault books shard change =
    let stand = (shard_at books.shards shard).stand in
    if not (nat_lt shard (length books.shards)) then Some (ChangeRefused UnknownShard)
    else if is_unknown books.servers (newly_named change) then Some UnknownServer
    else option_or (option_map ChangeRefused (phase_fault stand change))
    (option_or (room_fault books shard (newly_named change)) (resume_fault books (resumed stand change)))

-- the fault of a step of the server's restart, if the server has a row
abbrev pub restart_fault : BooksView → ℕ → Result (Unit {0}) RestartFault → Option CommandFault
restart_fault books server step =
    if is_known books.servers server then option_map RestartRefused (result_err step) else Some UnknownServer

-- the first reason why the desk refuses a command
abbrev pub desk_fault : DeskView → Command → Option CommandFault
desk_fault desk (Change shard change) = desk_change_fault desk.books shard change
desk_fault desk (Ask server) = restart_fault desk.books server (askable desk.books server)
desk_fault desk (Approve server) = restart_fault desk.books server (approvable desk.caps desk.books server)
desk_fault desk (Stopped server) = restart_fault desk.books server (stoppable desk.books server)
desk_fault desk (Back server) = restart_fault desk.books server (returnable desk.books server)
desk_fault desk (Fail server) = restart_fault desk.books server (failable desk.books server)

-- the books after a change that isn't refused
abbrev pub books_changed : BooksView → ℕ → AnyChange → BooksView
books_changed books shard change =
    let stand = (shard_at books.shards shard).stand in
    record books { shards = with_stand books.shards shard (unwrap_or (stand_after stand change) stand) }

-- the books after a command that the desk doesn't refuse
abbrev pub books_commanded : BooksView → Command → BooksView
books_commanded books (Change shard change) = books_changed books shard change
books_commanded books (Ask server) = with_state books server IsAsked
books_commanded books (Approve server) = with_state books server IsApproved
books_commanded books (Stopped server) = with_state books server IsStopped
books_commanded books (Back server) = with_state books server IsUp
books_commanded books (Fail server) = with_state books server IsFailed

-- the desk after a command that it doesn't refuse
abbrev pub commanded : DeskView → Command → DeskView
commanded desk command = record { books = books_commanded desk.books command; caps = desk.caps }
