-- The bodies of a board that another program owns, and the books of new ones.
use Rattle.std.specs.Prelude.{ℕ, zero, suc, ◌≡◌, ◌++◌, ⊤, true, false, List, [], ◌∷◌, length, map, replicate}
use Rattle.std.specs.Prelude.{Option, Some, None}
use Rattle.sm_control.specs.Controls.{ControlValue}
use Rattle.sm_control.specs.declared.drain_fault.DrainFault.{DrainFault}
use Rattle.sm_control.specs.declared.drain_fault.DrainFault.TheVariants.{NoMemory, UnknownServer}
use Rattle.sm_desk.specs.Desk.{DeskView, is_known}
use Rattle.sm_place.specs.Books.{BooksView, new_books}
use Rattle.sm_place.specs.Plans.{assign_plan, drain_plan}
use Rattle.sm_place.specs.declared.plan.Plan.{Plan as PlanValue}
use Rattle.sm_rows.specs.Domains.{equal_domains}
use Rattle.sm_rows.specs.declared.limits.TheConstants.{MAX_DOMAIN_DOWN}
use Rattle.sm_rows.specs.declared.domain_row.DomainRow.{DomainRow}
use Rattle.sm_rows.specs.declared.group_row.GroupRow.{GroupRow}
use Rattle.sm_rows.specs.declared.server_row.ServerRow.{ServerRow}
use Rattle.sm_rows.specs.declared.shard_row.ShardRow.{ShardRow}
use Rattle.sm_settings.specs.SettingsLine.{SettingsValues}
use Rattle.sm_foreign.specs.declared.foreign.Foreign.{Foreign}
use Rattle.sm_foreign.specs.declared.pass_fault.PassFault.{PassFault}
use Rattle.sm_foreign.specs.declared.pass_fault.PassFault.TheVariants.{NoMemory as NoPass, UnknownServer as NoServer}

-- the bodies of these numbers
abbrev pub foreign_of : List ℕ → List Foreign
foreign_of numbers = map (λ number. record { number = number }) numbers

-- the desk of these rows, under this cap of restarts: all servers are up, and all shards vacant
abbrev pub desk_of_rows : List ServerRow → List GroupRow → List ShardRow → List DomainRow → ℕ → DeskView
desk_of_rows servers groups shards domains ops =
    record { books = new_books servers groups shards domains; caps = record { ops = ops } }

-- the rows of so many servers from 1 on, each in its own domain
abbrev pub first_servers : ℕ → List ServerRow
first_servers zero = []
first_servers (suc n) = first_servers n ++ (record { id = suc n; domain = n; capacity = 4096 } ∷ [])

-- the row of the one group, which limits nothing
abbrev pub one_group : List GroupRow
one_group = record { limit = 4096; down = 4096 } ∷ []

-- the rows of so many shards of load 1, in the one group
abbrev pub equal_shards : ℕ → List ShardRow
equal_shards count = replicate count (record { group = 0; load = 1; cap = 1 })

-- the rows of the domains of so many servers, which limit nothing
abbrev pub own_domains : ℕ → List DomainRow
own_domains servers = equal_domains MAX_DOMAIN_DOWN (first_servers servers)

-- the desk of these servers, and of so many shards, whose restarts only this cap limits
abbrev pub first_desk : ℕ → ℕ → ℕ → DeskView
first_desk servers count ops =
    desk_of_rows (first_servers servers) one_group (equal_shards count) (own_domains servers) ops

-- the control of a new board with bodies of these limits, with a row for each shard of the settings and their other
-- rows and limits
abbrev pub IsControlBy : {Q : Type 0} → ControlValue Q → List ℕ → SettingsValues → Type 0
IsControlBy control limits settings =
    (control.chair.board.limits.count ≡ length settings.shards)
    × (control.chair.board.limits.ceiling ≡ settings.ceiling) × (control.chair.board.limits.bodies ≡ limits)
    × (control.desk
    ≡ desk_of_rows settings.servers settings.groups settings.shards settings.domains settings.ops)

-- the plan of these books, for the shards of the server or, without one, for the vacant ones
abbrev pub planned_for : BooksView → Option ℕ → PlanValue
planned_for books (Some server) = drain_plan books server
planned_for books None = assign_plan books

-- the books have no such server
abbrev pub HasNoServer : BooksView → Option ℕ → Type 0
HasNoServer books (Some server) = is_known books.servers server ≡ false
HasNoServer books None = ⊥

-- the books have this server, if one is named
abbrev pub HasServer : BooksView → Option ℕ → Type 0
HasServer books (Some server) = is_known books.servers server ≡ true
HasServer books None = ⊤

-- why there is no pass of this server
abbrev pub HasNoPass : BooksView → Option ℕ → PassFault → Type 0
HasNoPass books server NoServer = HasNoServer books server
HasNoPass books server NoPass = ⊤

-- why there is no plan
abbrev pub PlansNothing : BooksView → Option ℕ → DrainFault → Type 0
PlansNothing books from UnknownServer = HasNoServer books from
PlansNothing books from NoMemory = ⊤
