-- The servers of a caller's own service, and how many requests they have made.
use Rattle.std.specs.Prelude.{ℕ, Option, Some, None}
use Rattle.std.specs.Global.{Vec}
use Rattle.sm_shard.specs.declared.shard_limits.ShardLimits.{ShardLimits}
use Rattle.sm_shard.specs.declared.shard_state.ShardState.{ShardState}
use Rattle.sm_shard_bytes.specs.Servers.{ByteInput, ByteOutput, DoneOn, IsNewServer, request_size}
use Rattle.sm_opaque.specs.Opaque.{opaque_service}
use Rattle.sm_relay.specs.declared.relay_server.RelayServer.{RelayServer}

-- an input of a server whose replies are places
abbrev pub RelayInput : Type 0
RelayInput = ByteInput ℕ

-- an output of it
abbrev pub RelayOutput : Type 0
RelayOutput = ByteOutput ℕ

-- a server that has just started, of this shard among so many
abbrev pub IsNewRelay : ℕ → ℕ → ℕ → ShardLimits → RelayServer → Type 0
IsNewRelay me shard count limits relay = IsNewServer opaque_service me shard count limits relay.server

-- on such an input it made a step of the protocol, with such a result
abbrev pub RelayDone : RelayServer → (RelayInput → Type 0) → (RelayOutput → Type 0) → RelayServer → Type 0
RelayDone old is_input is_output new = DoneOn opaque_service request_size old.server is_input is_output new.server

-- how many requests are made, by the shard as the server knows it: 0 before it has read
abbrev pub requests_made : Option (ShardState ℕ (Vec ℕ) ℕ) → ℕ
requests_made None = 0
requests_made (Some ready) = ready.replica.machine
