-- The effects of calls on the server that a handle keeps.
use Rattle.std.specs.Prelude.{ℕ, ◌≡◌, ◌<◌, ◌≤◌, ◌⊎◌, List, Option, Some, None, length, slice_get, take, IfSome, IsSome}
use Rattle.sm_map.specs.KeyMap.{KeyPair}
use Rattle.sm_shard.specs.declared.replica.MadeReply.{MadeReply}
use Rattle.sm_shard.specs.declared.replica.ReadReply.{ReadReply}
use Rattle.sm_shard_bytes.specs.declared.codes.TheConstants as codes
use Rattle.sm_shard_bytes.specs.declared.byte_server.ByteServer.{ByteServer}
use Rattle.sm_shard_bytes.specs.declared.server_fault.ServerFault.{ServerFault}
use Rattle.sm_shard_bytes.specs.Calls.{Between}
use Rattle.sm_shard_bytes.specs.Refusals.{LeavesState, RefusesForFault}
use Rattle.sm_texts.specs.declared.text_reply.TextReply.{TextReply}
use Rattle.sm_texts.specs.Keys.{spelled_keys}
use Rattle.sm_driver.specs.declared.text_answer.TextAnswer.{TextAnswer}
use Rattle.sm_driver.specs.declared.key_numbers.KeyNumbers.{KeyNumbers}
use Rattle.sm_driver.specs.declared.text_server.TextServer.{TextServer}
use Rattle.sm_driver.specs.Servers.{TextInput, TextOutput, TextsDone, pairs_found}

-- a call on such an input was made
abbrev pub MakesOn : Option TextServer → (TextServer → TextInput → Type 0) → (TextOutput → Type 0) → Option TextServer
    → Type 0
MakesOn old is_input is_output new =
    Between (λ before after. TextsDone before (is_input before) is_output after) old new

-- a call was refused, and this is the code; the handle keeps no server, as before, or its server was left so
abbrev pub RefusesTexts : (ServerFault → ByteServer (List KeyPair) TextReply → ByteServer (List KeyPair) TextReply
    → Type 0) → ℕ → Option TextServer → Option TextServer → Type 0
RefusesTexts leaves code old new =
    LeavesState (λ told before after. RefusesForFault leaves told before.server after.server) code old new

-- the answer is the one at this place
abbrev pub IsMadeAnswer : TextServer → ℕ → TextAnswer → Type 0
IsMadeAnswer texts at answer =
    (made : MadeReply TextReply) × (slice_get texts.server.made.items at ≡ Some made) × (answer.client ≡ made.client)
    × (answer.number ≡ made.number) × (answer.kind ≡ made.reply.kind) × (answer.value ≡ made.reply.number)

-- the answer has this reply, and this text
pub record HasReply (reply : TextReply) (text : List ℕ) (answer : TextAnswer) (written : List ℕ) : Type 0 where
  pub kind : answer.kind ≡ reply.kind
  pub value : answer.value ≡ reply.number
  pub length_is : answer.length ≡ length text
  pub bytes : take (length text) written ≡ text

-- the answer is that to the read, with its text
abbrev pub TellsRead : ReadReply TextReply → TextAnswer → List ℕ → Type 0
TellsRead read answer written =
    (answer.client ≡ read.client) × (answer.number ≡ read.number)
    × IfSome read.answer (λ found. HasReply found.reply found.text.items answer written) × IsSome read.answer

-- it is that to the read at this place
abbrev pub IsReadAnswer : ℕ → TextAnswer → List ℕ → TextServer → Type 0
IsReadAnswer at answer written texts =
    (read : ReadReply TextReply) × (slice_get texts.server.read.items at ≡ Some read) × TellsRead read answer written

-- no answer to a request that was made is at this place
abbrev pub LacksMade : ℕ → ℕ → TextServer → Type 0
LacksMade at code texts = (code ≡ codes.NO_MORE) × (length texts.server.made.items ≤ at)

-- the read has no answer, or its text has more bytes than this room
abbrev pub LacksText : List ℕ → ℕ → ReadReply TextReply → Type 0
LacksText room code read =
    ((code ≡ codes.NO_MORE) × (read.answer ≡ None))
    ⊎ ((code ≡ codes.TOO_SHORT) × IfSome read.answer (λ found. length room < length found.text.items))

-- no answer to a read is at this place, or this is why it isn't written
abbrev pub LacksRead : ℕ → List ℕ → ℕ → TextServer → Type 0
LacksRead at room code texts =
    ((code ≡ codes.NO_MORE) × (length texts.server.read.items ≤ at))
    ⊎ ((read : ReadReply TextReply) × (slice_get texts.server.read.items at ≡ Some read) × LacksText room code read)

-- the numbers and the bytes are those of the keys of these pairs
pub record WritesKeys (pairs : List KeyPair) (numbers : KeyNumbers) (written : List ℕ) : Type 0 where
  pub count : numbers.count ≡ length pairs
  pub length_is : numbers.length ≡ length (spelled_keys pairs)
  pub bytes : take numbers.length written ≡ spelled_keys pairs

-- they are those of the server's keys from low on and below high, at most so many
abbrev pub ScansKeys : List ℕ → List ℕ → ℕ → KeyNumbers → List ℕ → TextServer → Type 0
ScansKeys low high most numbers written texts =
    WritesKeys (pairs_found texts.server.core.ready low high most) numbers written

-- why no keys are written: memory was refused, or the keys have more bytes than this room
abbrev pub LacksRoom : List ℕ → List ℕ → ℕ → List ℕ → ℕ → TextServer → Type 0
LacksRoom low high most room code texts =
    (code ≡ codes.NO_MEMORY)
    ⊎ ((code ≡ codes.TOO_SHORT)
    × (length room < length (spelled_keys (pairs_found texts.server.core.ready low high most))))

-- the same, or the handle keeps no server
abbrev pub ScansNothing : List ℕ → List ℕ → ℕ → List ℕ → ℕ → Option TextServer → Type 0
ScansNothing low high most room code None = code ≡ codes.WRONG_HANDLE
ScansNothing low high most room code (Some texts) = LacksRoom low high most room code texts
