-- When a step of a restart succeeds, or the first fault that applies, by counts over all servers and shards.
use Rattle.std.specs.Prelude.{ℕ, Bool, Option, Some, None, Result, Ok, Err, ◌+◌, ◌==◌, ◌&&◌, ◌||◌, not}
use Rattle.std.specs.Prelude.{nat_lt, if◌then◌else◌, length, count_by, position, List, codes}
use Rattle.std.specs.List.{range_with_len}
use Rattle.std.specs.Option.{option_map, option_or}
use Rattle.sm_ranges.specs.declared.stand.Stand.{Stand}
use Rattle.sm_place.specs.Books.{BooksView, domain_of, state_of}
use Rattle.sm_ranges.specs.Stand.{names, names_one, is_paused}
use Rattle.sm_place.specs.ServerState.{is_leaving, is_up, is_asked, is_approved, is_failed}
use Rattle.sm_tasks.specs.declared.restart_fault.RestartFault.{RestartFault}
use Rattle.sm_tasks.specs.declared.restart_fault.RestartFault.TheVariants.{NotUp, NotAsked, GlobalCap, ShardCap}
use Rattle.sm_tasks.specs.declared.restart_fault.RestartFault.TheVariants.{GroupCap, DomainCap, NotApproved}
use Rattle.sm_tasks.specs.declared.restart_fault.RestartFault.TheVariants.{StillServing, AlreadyUp, AlreadyFailed}
use Rattle.sm_tasks.specs.Caps.{RestartCaps}
use Rattle.sm_tasks.specs.Groups.{group_count, down_of}
use Rattle.sm_tasks.specs.Domains.{domain_count, domain_down}

-- success, unless there is a fault
abbrev pub ok_unless : {E : Type 0} → Option E → Result (Unit {0}) E
ok_unless None = Ok tt
ok_unless (Some fault) = Err fault

-- whether a restart of the server may be asked for
abbrev pub askable : BooksView → ℕ → Result (Unit {0}) RestartFault
askable books a = if is_up (state_of books a) then Ok tt else Err NotUp

-- how many servers are approved to restart, stopped or failed
abbrev pub leaving_count : BooksView → ℕ
leaving_count books = count_by is_leaving books.states

-- the lowest shard of cap 0 that names the server
abbrev pub capped_shard : BooksView → ℕ → Option ℕ
capped_shard books a = position (λ shard. (shard.row.cap == 0) && names shard.stand a) books.shards

-- whether server b would be down if a restarted: it is a, or is leaving
abbrev pub would_be_down : BooksView → ℕ → ℕ → Bool
would_be_down books a b = (b == a) || is_leaving (state_of books b)

-- whether the stand names a server that would be down if a restarted
abbrev pub names_down : BooksView → ℕ → Stand → Bool
names_down books a stand = names_one (would_be_down books a) stand

-- whether a shard of the group names the server, and more of the group's shards than its `down` would name a server
-- that is down
abbrev pub is_full : BooksView → ℕ → ℕ → Bool
is_full books a g =
    nat_lt 0 (group_count (λ stand. names stand a) books.shards g)
    && nat_lt (down_of books g) (group_count (names_down books a) books.shards g)

-- the lowest group that is full
abbrev pub full_group : BooksView → ℕ → Option ℕ
full_group books a = position (is_full books a) (range_with_len 0 (length books.groups))

-- the server's domain if, with the server, more of its servers would be leaving than its row allows
abbrev pub full_domain : BooksView → ℕ → Option ℕ
full_domain books a =
    let d = domain_of books.servers a in
    if nat_lt (domain_down books d) (domain_count is_leaving books d + 1) then Some d else None

-- whether the restart of the server is approved, if at most `ops` servers may be leaving
abbrev pub approvable : RestartCaps → BooksView → ℕ → Result (Unit {0}) RestartFault
approvable caps books a =
    if not (is_asked (state_of books a)) then Err NotAsked
    else (if nat_lt caps.ops (leaving_count books + 1) then Err GlobalCap
    else ok_unless (option_or (option_map ShardCap (capped_shard books a))
    (option_or (option_map GroupCap (full_group books a)) (option_map DomainCap (full_domain books a)))))

-- the lowest shard that names the server and is not paused
abbrev pub serving_shard : BooksView → ℕ → Option ℕ
serving_shard books a = position (λ shard. names shard.stand a && not (is_paused shard.stand)) books.shards

-- whether the server may be stopped
abbrev pub stoppable : BooksView → ℕ → Result (Unit {0}) RestartFault
stoppable books a =
    if not (is_approved (state_of books a)) then Err NotApproved
    else ok_unless (option_map StillServing (serving_shard books a))

-- whether the server may come back
abbrev pub returnable : BooksView → ℕ → Result (Unit {0}) RestartFault
returnable books a = if is_up (state_of books a) then Err AlreadyUp else Ok tt

-- whether the server may fail
abbrev pub failable : BooksView → ℕ → Result (Unit {0}) RestartFault
failable books a = if is_failed (state_of books a) then Err AlreadyFailed else Ok tt

-- the name of the refusal of a step
abbrev pub restart_fault_name : RestartFault → List ℕ
restart_fault_name NotUp = codes "NotUp"
restart_fault_name NotAsked = codes "NotAsked"
restart_fault_name GlobalCap = codes "GlobalCap"
restart_fault_name (ShardCap shard) = codes "ShardCap"
restart_fault_name (GroupCap group) = codes "GroupCap"
restart_fault_name (DomainCap domain) = codes "DomainCap"
restart_fault_name NotApproved = codes "NotApproved"
restart_fault_name (StillServing shard) = codes "StillServing"
restart_fault_name AlreadyUp = codes "AlreadyUp"
restart_fault_name AlreadyFailed = codes "AlreadyFailed"

-- the number of the shard, group or domain because of which it came
abbrev pub restart_fault_number : RestartFault → Option ℕ
restart_fault_number (ShardCap shard) = Some shard
restart_fault_number (GroupCap group) = Some group
restart_fault_number (DomainCap domain) = Some domain
restart_fault_number (StillServing shard) = Some shard
restart_fault_number fault = None
