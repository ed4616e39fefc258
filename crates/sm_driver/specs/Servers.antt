-- The servers of the sample service, and the keys that they hold.
use Rattle.std.specs.Prelude.{ℕ, List, [], Option, Some, None, length, take}
use Rattle.std.specs.Global.{Vec}
use Rattle.sm_map.specs.KeyMap.{KeyPair, within}
use Rattle.sm_shard.specs.declared.shard_limits.ShardLimits.{ShardLimits}
use Rattle.sm_shard.specs.declared.shard_state.ShardState.{ShardState}
use Rattle.sm_shard_bytes.specs.Servers.{ByteInput, ByteOutput, DoneOn, IsNewServer, request_size}
use Rattle.sm_texts.specs.declared.text_reply.TextReply.{TextReply}
use Rattle.sm_texts.specs.Saves.{texts_service}
use Rattle.sm_driver.specs.declared.text_server.TextServer.{TextServer}

-- an input of a server of the sample service
abbrev pub TextInput : Type 0
TextInput = ByteInput TextReply

-- an output of it
abbrev pub TextOutput : Type 0
TextOutput = ByteOutput TextReply

-- a server that has just started, of this shard among so many
abbrev pub IsNewTexts : ℕ → ℕ → ℕ → ShardLimits → TextServer → Type 0
IsNewTexts me shard count limits texts = IsNewServer texts_service me shard count limits texts.server

-- on such an input it made a step of the protocol, with such a result
abbrev pub TextsDone : TextServer → (TextInput → Type 0) → (TextOutput → Type 0) → TextServer → Type 0
TextsDone old is_input is_output new = DoneOn texts_service request_size old.server is_input is_output new.server

-- the shard as the server knows it, after all requests that are made
abbrev pub TextState : Type 0
TextState = ShardState (List KeyPair) (Vec ℕ) TextReply

-- how many keys there are then: none before the server has read
abbrev pub keys_held : Option TextState → ℕ
keys_held None = 0
keys_held (Some ready) = length ready.replica.machine

-- the pairs that are there then, with keys from low on and below high, and the first so many of these
abbrev pub pairs_found : Option TextState → List ℕ → List ℕ → ℕ → List KeyPair
pairs_found None low high most = []
pairs_found (Some ready) low high most = take most (within ready.replica.machine low high)
