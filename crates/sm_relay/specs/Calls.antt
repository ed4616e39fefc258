-- The effects of calls on the relay that a handle keeps.
use Rattle.std.specs.Prelude.{ℕ, ◌≡◌, ◌≤◌, ◌⊎◌, Option, Some, None, length, slice_get}
use Rattle.std.specs.Option.{option_map}
use Rattle.sm_shard.specs.declared.replica.ReadReply.{ReadReply}
use Rattle.sm_shard_bytes.specs.declared.byte_server.ByteServer.{ByteServer}
use Rattle.sm_shard_bytes.specs.declared.codes.TheConstants as codes
use Rattle.sm_shard_bytes.specs.declared.server_fault.ServerFault.{ServerFault}
use Rattle.sm_shard_bytes.specs.Calls.{Between}
use Rattle.sm_shard_bytes.specs.Refusals.{LeavesState, RefusesForFault}
use Rattle.sm_relay.specs.declared.place_answer.PlaceAnswer.{PlaceAnswer}
use Rattle.sm_relay.specs.declared.relay_server.RelayServer.{RelayServer}
use Rattle.sm_relay.specs.Relays.{RelayDone, RelayInput, RelayOutput}

-- a call on such an input was made
abbrev pub RelaysOn : Option RelayServer → (RelayServer → RelayInput → Type 0) → (RelayOutput → Type 0)
    → Option RelayServer → Type 0
RelaysOn old is_input is_output new =
    Between (λ before after. RelayDone before (is_input before) is_output after) old new

-- a call was refused, and this is the code; the handle keeps no server, as before, or its server was left so
abbrev pub RefusesRelay : (ServerFault → ByteServer ℕ ℕ → ByteServer ℕ ℕ → Type 0) → ℕ → Option RelayServer
    → Option RelayServer → Type 0
RefusesRelay leaves code old new =
    LeavesState (λ told before after. RefusesForFault leaves told before.server after.server) code old new

-- the answer is the one at this place of the answers to requests that were made
abbrev pub IsPlaceMade : ℕ → PlaceAnswer → RelayServer → Type 0
IsPlaceMade at answer relay =
    slice_get relay.server.made.items at
    ≡ Some (record { client = answer.client; number = answer.number; reply = answer.place })

-- the answer is that to the read
abbrev pub TellsPlace : ReadReply ℕ → PlaceAnswer → Type 0
TellsPlace read answer =
    (answer.client ≡ read.client) × (answer.number ≡ read.number)
    × (option_map (λ found. found.reply) read.answer ≡ Some answer.place)

-- it is that to the read at this place of the answers to reads
abbrev pub IsPlaceRead : ℕ → PlaceAnswer → RelayServer → Type 0
IsPlaceRead at answer relay =
    (read : ReadReply ℕ) × (slice_get relay.server.read.items at ≡ Some read) × TellsPlace read answer

-- no answer to a request that was made is at this place
abbrev pub LacksPlace : ℕ → ℕ → RelayServer → Type 0
LacksPlace at code relay = (code ≡ codes.NO_MORE) × (length relay.server.made.items ≤ at)

-- no answer to a read is at this place, or the read has none
abbrev pub LacksPlaceRead : ℕ → ℕ → RelayServer → Type 0
LacksPlaceRead at code relay =
    (code ≡ codes.NO_MORE)
    × ((length relay.server.read.items ≤ at)
    ⊎ ((read : ReadReply ℕ) × (slice_get relay.server.read.items at ≡ Some read) × (read.answer ≡ None)))
