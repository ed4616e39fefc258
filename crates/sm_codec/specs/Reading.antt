-- Reading from left to right, with the first fault that is met.
use Rattle.std.specs.Prelude.{◌≡◌, ℕ, zero, suc, List, [], ◌∷◌, length, take, drop, Result, Ok, Err, Option, Some}
use Rattle.std.specs.Prelude.{None, nat_lt, ◌==◌}
use Rattle.std.specs.Prelude.{◌||◌}
use Rattle.std.specs.Prelude.{if◌then◌else◌}
use Rattle.std.specs.Int.{Width, w32, w64, byte_len, from_be_bytes}
use Rattle.sm_ownership.specs.declared.mode.Mode.{Mode}
use Rattle.sm_ownership.specs.declared.mode.Mode.TheVariants.{Direct, Forwarded}
use Rattle.sm_ranges.specs.declared.limits.TheConstants.{MAX_SERVER}
use Rattle.sm_store.specs.declared.head.Head.{Head}
use Rattle.sm_store.specs.declared.item.Item.{Item}
use Rattle.sm_codec.specs.declared.fault.Fault.{Fault}
use Rattle.sm_codec.specs.declared.fault.Fault.TheVariants.{Short, Version, Server, Trailing}
use Rattle.sm_codec.specs.declared.fault.Fault.TheVariants.{State}
use Rattle.sm_codec.specs.declared.fault.ReadError.{ReadError}
use Rattle.sm_codec.specs.declared.fault.ReadError.TheVariants as errors
use Rattle.sm_codec.specs.declared.stored_state.StoredState.{StoredState}
use Rattle.sm_codec.specs.Spelling.{Batch, PartText}
use Rattle.sm_place.specs.declared.server_state.ServerState.{ServerState}
use Rattle.sm_place.specs.declared.server_state.ServerState.TheVariants.{Up, Asked, Approved, Stopped, Failed}

infixl 10 ◌>>=◌
-- goes on by the value, or with the fault
abbrev pub ◌>>=◌ : {A B : Type 0} → Result A Fault → (A → Result B Fault) → Result B Fault
(Ok x) >>= f = f x
(Err e) >>= f = Err e

-- the fault is that of reading, unless memory was refused
abbrev pub IsFault : {Y : Type 0} → ReadError → Result Y Fault → Type 0
IsFault errors.Memory read = Unit {0}
IsFault (errors.Fault fault) read = read ≡ Err fault

-- a function's result, seen by view, is the result of reading, unless memory was refused
abbrev pub Decodes : {X Y : Type 0} → (X → Y) → Result X ReadError → Result Y Fault → Type 0
Decodes view (Ok x) read = read ≡ Ok (view x)
Decodes view (Err error) read = IsFault error read

-- a value, if no bytes are left
abbrev pub all_read : {A : Type 0} → A → List ℕ → Result A Fault
all_read value rest = if length rest == 0 then Ok value else Err Trailing

-- the bytes after the version
unfoldable pub version_in : List ℕ → Result (List ℕ) Fault
version_in [] = Err Short
version_in (byte ∷ rest) = if byte == 1 then Ok rest else Err Version

-- one byte, and those after it
abbrev pub byte_in : List ℕ → Result (ℕ × List ℕ) Fault
byte_in [] = Err Short
byte_in (byte ∷ rest) = Ok (byte, rest)

-- a number, and the bytes after it
abbrev pub number_in : Width → List ℕ → Result (ℕ × List ℕ) Fault
number_in w bytes =
    if nat_lt (length bytes) (byte_len w) then Err Short
    else Ok (from_be_bytes w (take (byte_len w) bytes), drop (byte_len w) bytes)

-- as many bytes as a number says, and those after them
unfoldable pub string_in : List ℕ → Result (List ℕ × List ℕ) Fault
string_in bytes = do
  n ← number_in w32 bytes
  if nat_lt (length n.1) n.0 then Err Short else Ok (take n.0 n.1, drop n.0 n.1)

-- the server of a number, which is 1 to 4,095
abbrev pub server_named : ℕ → Option ℕ
server_named number = if number == 0 || nat_lt MAX_SERVER number then None else Some number

-- how a request came, by its number: from a client for 0, or by way of this server
abbrev pub mode_named : ℕ → Option Mode
mode_named number =
    if number == 0 then Some Direct else if nat_lt MAX_SERVER number then None else Some (Forwarded number)

-- the meaning of a number, if it has one
abbrev pub named_in : {A : Type 0} → Option A → List ℕ → Result (A × List ℕ) Fault
named_in None rest = Err Server
named_in (Some value) rest = Ok (value, rest)

-- the server that a number names
unfoldable pub server_in : List ℕ → Result (ℕ × List ℕ) Fault
server_in bytes = do
  n ← number_in w32 bytes
  named_in (server_named n.0) n.1

-- how a request came
unfoldable pub mode_in : List ℕ → Result (Mode × List ℕ) Fault
mode_in bytes = do
  n ← number_in w32 bytes
  named_in (mode_named n.0) n.1

-- the head of a shard's log
unfoldable pub head_in : List ℕ → Result Head Fault
head_in bytes = do
  rest ← version_in bytes
  batches ← number_in w64 rest
  base ← number_in w64 batches.1
  parts ← number_in w64 base.1
  all_read (record { batches = batches.0; base = base.0; parts = parts.0 }) parts.1

-- two numbers
unfoldable pub pair_in : List ℕ → Result (ℕ × ℕ) Fault
pair_in bytes = do
  rest ← version_in bytes
  first ← number_in w64 rest
  second ← number_in w64 first.1
  all_read (first.0, second.0) second.1

-- the state of a server that has this number
abbrev pub state_named : ℕ → Option ServerState
state_named number =
    if number == 0 then Some Up
    else if number == 1 then Some Asked
    else if number == 2 then Some Approved
    else if number == 3 then Some Stopped
    else if number == 4 then Some Failed
    else None

-- the state with this number, if there is one, by this process, about that one
abbrev pub state_by : Option ServerState → ℕ → ℕ → Result StoredState Fault
state_by None process named = Err State
state_by (Some state) process named =
    Ok (record { run = record { state = state; process = named }; process = process })

-- three numbers
unfoldable pub triple_in : List ℕ → Result (ℕ × ℕ × ℕ) Fault
triple_in bytes = do
  first ← number_in w64 bytes
  second ← number_in w64 first.1
  third ← number_in w64 second.1
  all_read (first.0, second.0, third.0) third.1

-- a server's state that names no process of the server
unfoldable pub nameless_state_in : List ℕ → Result StoredState Fault
nameless_state_in bytes = do
  pair ← pair_in bytes
  state_by (state_named pair.0) pair.1 0

-- a server's state behind its version
unfoldable pub named_state_in : List ℕ → Result StoredState Fault
named_state_in bytes = do
  triple ← triple_in bytes
  state_by (state_named triple.0) triple.1 triple.2

-- a server's state
unfoldable pub state_in : List ℕ → Result StoredState Fault
state_in [] = Err Short
state_in (byte ∷ rest) = if byte == 2 then named_state_in rest else nameless_state_in (byte ∷ rest)

-- a request of a batch
unfoldable pub item_in : List ℕ → Result (Item (List ℕ) × List ℕ) Fault
item_in bytes = do
  client ← number_in w64 bytes
  number ← number_in w64 client.1
  mode ← mode_in number.1
  hops ← byte_in mode.1
  forgets ← number_in w64 hops.1
  request ← string_in forgets.1
  Ok (
    record {
      client = client.0;
      number = number.0;
      mode = mode.0;
      hops = hops.0;
      forgets = forgets.0;
      request = request.0;
    },
    request.1,
  )

-- so many requests, one after the other
unfoldable pub items_in : ℕ → List ℕ → Result (List (Item (List ℕ)) × List ℕ) Fault
items_in zero bytes = Ok ([], bytes)
items_in (suc n) bytes = do
  first ← item_in bytes
  others ← items_in n first.1
  Ok (first.0 ∷ others.0, others.1)

-- a batch of requests
unfoldable pub batch_in : List ℕ → Result Batch Fault
batch_in bytes = do
  rest ← version_in bytes
  server ← server_in rest
  count ← number_in w32 server.1
  items ← items_in count.0 count.1
  all_read (record { server = server.0; items = items.0 }) items.1

-- a part of a base
unfoldable pub part_in : List ℕ → Result PartText Fault
part_in bytes = do
  rest ← version_in bytes
  floor ← number_in w64 rest
  state ← string_in floor.1
  count ← number_in w32 state.1
  lasts ← items_in count.0 count.1
  all_read (record { floor = floor.0; state = state.0; lasts = lasts.0 }) lasts.1
