-- The servers for which the control waits, as far as it has read acks.
use Rattle.std.specs.Prelude.{ℕ, zero, suc, Bool, true, false, not, Option, Some, None, ◌≤◌, ◌==◌, ◌&&◌, ◌||◌, List}
use Rattle.std.specs.Prelude.{find, length, unwrap_or}
use Rattle.std.specs.List.{AllByRecursion}
use Rattle.std.specs.Option.{option_map}
use Rattle.sm_ranges.specs.declared.stand.Stand.{Stand}
use Rattle.sm_ranges.specs.declared.stand.Stand.TheVariants.{Paused, Prepared}
use Rattle.sm_place.specs.Books.{state_of}
use Rattle.sm_place.specs.ServerState.{is_failed}
use Rattle.sm_desk.specs.declared.command.Command.{Command}
use Rattle.sm_desk.specs.declared.command.Command.TheVariants.{Change, Stopped}
use Rattle.sm_store.specs.Store.{Transaction, acked_of}
use Rattle.sm_store.specs.Waits.{gives_up, has_let_go}
use Rattle.sm_lead.specs.declared.ack_read.AckRead.{AckRead}
use Rattle.sm_lead.specs.declared.store_control.StoreControl.{StoreControl}
use Rattle.sm_lead.specs.Commands.{read_at}

-- the generation up to which the server has acked the shard, as far as was read, 0 if it hasn't
abbrev pub acked_in : List AckRead → ℕ → ℕ → ℕ
acked_in acks shard server =
    unwrap_or (option_map (λ ack. ack.generation) (find (λ ack. ack.shard == shard && ack.server == server) acks)) 0

-- a shard with this stand is paused, and the server owns it
abbrev pub is_paused_for : ℕ → Stand → Bool
is_paused_for server (Paused owner) = owner == server
is_paused_for server stand = false

-- the server has acked the shard's record, as far as was read, or has failed; a control that doesn't wait takes it so
abbrev pub lets_go : StoreControl → List AckRead → ℕ → ℕ → Bool
lets_go control acks shard server =
    not control.waits
    || has_let_go (read_at control.records.items shard).state (acked_in acks shard server)
    (is_failed (state_of control.desk.books server))

-- if a server is named, it has this property
abbrev pub holds_of_named : (ℕ → Bool) → Option ℕ → Bool
holds_of_named holds None = true
holds_of_named holds (Some server) = holds server

-- the server has let go of the shard, if that is paused for it
abbrev pub lets_paused_go : StoreControl → List AckRead → ℕ → ℕ → Bool
lets_paused_go control acks server shard =
    not (is_paused_for server (read_at control.records.items shard).state.stand) || lets_go control acks shard server

-- it has acked each of the first shards, so many, that is paused for it
abbrev pub let_paused_go : StoreControl → List AckRead → ℕ → ℕ → Bool
let_paused_go control acks server zero = true
let_paused_go control acks server (suc shard) =
    let_paused_go control acks server shard && lets_paused_go control acks server shard

-- the server has let go of all that is paused for it, or the control doesn't wait
abbrev pub may_stop : StoreControl → List AckRead → ℕ → Bool
may_stop control acks server = let_paused_go control acks server (length control.records.items)

-- the servers for which the command waits have acked, or the control doesn't wait
abbrev pub has_waited : StoreControl → List AckRead → Command → Bool
has_waited control acks (Change shard change) =
    holds_of_named (lets_go control acks shard) (gives_up (read_at control.records.items shard).state.stand change)
has_waited control acks (Stopped server) = may_stop control acks server
has_waited control acks command = true

-- the next owner of a shard that is prepared for it
abbrev pub prepared_of : Stand → Option ℕ
prepared_of (Prepared owner next) = Some next
prepared_of stand = None

-- the next owner of a prepared shard has acked the record, or the control doesn't wait
abbrev pub is_prepared : StoreControl → List AckRead → ℕ → Bool
is_prepared control acks shard =
    holds_of_named (lets_go control acks shard) (prepared_of (read_at control.records.items shard).state.stand)

-- each ack that was read was made
abbrev pub AreAcksMade : {Q P : Type 0} → List (Transaction Q P) → List AckRead → Type 0
AreAcksMade log acks = AllByRecursion (λ ack. ack.generation ≤ acked_of ack.shard ack.server log) acks
