-- The word of a record. From the highest bit: the phase in 3 bits, whether it is admitted in 1, the owner in 12, the
-- next or previous server in 12, and the generation in 36.
use Rattle.std.specs.Prelude.{ℕ, Bool, true, false, Option, Some, None, ◌==◌, if◌then◌else◌, ◌≡◌, ◌≤◌, ◌+◌, ◌*◌, ◌^◌}
use Rattle.sm_ranges.specs.ServerId.{IsServer}
use Rattle.sm_ranges.specs.Stand.{AllNamed, is_vacant, owner_number, other_number}
use Rattle.sm_ranges.specs.declared.stand.Stand.{Stand}
use Rattle.sm_ranges.specs.declared.stand.Stand.TheVariants.{Vacant, Serving, Prepared, Forwarding, Taken, Paused}
use Rattle.sm_ownership.specs.declared.record.TheConstants.{MAX_GENERATION}
use Rattle.sm_ownership.specs.declared.record.Record.{Record}
use Rattle.sm_ownership.specs.Reach.{IsApart}
use Rattle.sm_ownership.specs.Rules.{executor_of}

-- the number of a stand's phase in a word
abbrev pub phase_of : Stand → ℕ
phase_of Vacant = 0
phase_of (Serving owner) = 1
phase_of (Prepared owner next) = 2
phase_of (Forwarding owner next) = 3
phase_of (Taken owner previous) = 4
phase_of (Paused owner) = 5

-- the server with this number; 0 is no server
abbrev pub server_of : ℕ → Option ℕ
server_of number = if number == 0 then None else Some number

-- a truth value as a bit
abbrev pub bit_of : Bool → ℕ
bit_of true = 1
bit_of false = 0

-- the word of a record
abbrev pub word_of : Record → ℕ
word_of state =
    phase_of state.stand * 2 ^ 61 + bit_of state.admitted * 2 ^ 60 + owner_number state.stand * 2 ^ 48
    + other_number state.stand * 2 ^ 36 + state.generation

-- a stand names only servers; if it names two, they differ
abbrev pub NamesServers : Stand → Type 0
NamesServers stand = AllNamed IsServer stand × IsApart stand

-- a shard for which nobody executes is idle, and a shard has had no entry if and only if it is vacant
abbrev pub FitsStand : Stand → Bool → ℕ → Type 0
FitsStand stand admitted generation =
    (executor_of stand ≡ None → admitted ≡ false) × (is_vacant stand ≡ (generation == 0))

-- a record that has a word
pub record IsWellFormed (state : Record) : Type 0 where
  pub servers : NamesServers state.stand
  pub parts : FitsStand state.stand state.admitted state.generation
  pub generation : state.generation ≤ MAX_GENERATION
