-- The values at the store's keys, as bytes: a byte for the version, which is 1, or 2 for a server's state, and then
-- each field; numbers are big-endian.
use Rattle.std.specs.Prelude.{ℕ, ◌≡◌, ◌⊎◌, ◌<◌, ◌^◌, List, ◌∷◌, ◌++◌, length, map}
use Rattle.std.specs.Global.{Vec}
use Rattle.std.specs.List.{flat_map, AllByRecursion}
use Rattle.std.specs.Int.{w32, w64, to_be_bytes}
use Rattle.sm_ownership.specs.declared.mode.Mode.{Mode}
use Rattle.sm_ownership.specs.declared.mode.Mode.TheVariants.{Direct, Forwarded}
use Rattle.sm_ranges.specs.ServerId.{IsServer}
use Rattle.sm_store.specs.declared.head.Head.{Head}
use Rattle.sm_store.specs.declared.item.Item.{Item}
use Rattle.sm_place.specs.declared.server_state.ServerState.{ServerState}
use Rattle.sm_place.specs.declared.server_state.ServerState.TheVariants.{Up, Asked, Approved, Stopped, Failed}
use Rattle.sm_word.specs.Word.{word_of}
use Rattle.sm_codec.specs.declared.stored_batch.StoredBatch.{StoredBatch}
use Rattle.sm_codec.specs.declared.stored_part.StoredPart.{StoredPart}
use Rattle.sm_codec.specs.declared.stored_record.StoredRecord.{StoredRecord}
use Rattle.sm_codec.specs.declared.stored_state.StoredState.{StoredState}

-- the head of a shard's log
abbrev pub head_bytes : Head → List ℕ
head_bytes head = 1 ∷ (to_be_bytes w64 head.batches ++ (to_be_bytes w64 head.base ++ to_be_bytes w64 head.parts))

-- each number of a head is one of 64 bits
pub record FitsHead (head : Head) : Type 0 where
  pub batches : head.batches < 2 ^ 64
  pub base : head.base < 2 ^ 64
  pub parts : head.parts < 2 ^ 64

-- two numbers
abbrev pub pair_bytes : ℕ → ℕ → List ℕ
pair_bytes first second = 1 ∷ (to_be_bytes w64 first ++ to_be_bytes w64 second)

-- a record, by its word
abbrev pub record_bytes : StoredRecord → List ℕ
record_bytes stored = pair_bytes (word_of stored.state) stored.process

-- a process: the leader, or the process that made the latest command
abbrev pub process_bytes : ℕ → List ℕ
process_bytes process = 1 ∷ to_be_bytes w64 process

-- the number of a server's state
abbrev pub state_number : ServerState → ℕ
state_number Up = 0
state_number Asked = 1
state_number Approved = 2
state_number Stopped = 3
state_number Failed = 4

-- three numbers
abbrev pub triple_bytes : ℕ → ℕ → ℕ → List ℕ
triple_bytes first second third = to_be_bytes w64 first ++ (to_be_bytes w64 second ++ to_be_bytes w64 third)

-- a server's state, by its number, with the process whose command led to it and the process that it names
abbrev pub state_bytes : StoredState → List ℕ
state_bytes stored = 2 ∷ triple_bytes (state_number stored.run.state) stored.process stored.run.process

-- the same in version 1, which names no process of the server
abbrev pub nameless_state_bytes : StoredState → List ℕ
nameless_state_bytes stored = pair_bytes (state_number stored.run.state) stored.process

-- the bytes spell the state, in one of the versions
abbrev pub SpellsState : List ℕ → StoredState → Type 0
SpellsState bytes stored =
    (bytes ≡ state_bytes stored) ⊎ ((bytes ≡ nameless_state_bytes stored) × (stored.run.process ≡ 0))

-- the number of bytes, and then the bytes
abbrev pub string_bytes : List ℕ → List ℕ
string_bytes bytes = to_be_bytes w32 (length bytes) ++ bytes

-- how a request came: the server that forwarded it, or 0
abbrev pub mode_number : Mode → ℕ
mode_number Direct = 0
mode_number (Forwarded from) = from

-- a request of a batch, whose bytes these are
abbrev pub item_bytes : Item (List ℕ) → List ℕ
item_bytes item =
    to_be_bytes w64 item.client
    ++ (to_be_bytes w64 item.number
    ++ (to_be_bytes w32 (mode_number item.mode)
    ++ (item.hops ∷ (to_be_bytes w64 item.forgets ++ string_bytes item.request))))

-- a batch without its place in memory: the server that executed it, and its requests
pub record Batch : Type 0 where
  pub server : ℕ
  pub items : List (Item (List ℕ))

-- a request without the place of its bytes
abbrev pub item_view : Item (Vec ℕ) → Item (List ℕ)
item_view item =
    record {
      client = item.client;
      number = item.number;
      mode = item.mode;
      hops = item.hops;
      forgets = item.forgets;
      request = item.request.items;
    }

-- such requests
abbrev pub item_views : List (Item (Vec ℕ)) → List (Item (List ℕ))
item_views items = map item_view items

-- such a batch
abbrev pub batch_view : StoredBatch → Batch
batch_view stored = record { server = stored.server; items = item_views stored.items.items }

-- a batch of requests
abbrev pub batch_bytes : Batch → List ℕ
batch_bytes batch =
    1 ∷ (to_be_bytes w32 batch.server ++ (to_be_bytes w32 (length batch.items) ++ flat_map item_bytes batch.items))

-- the server that a request came by is one
abbrev pub FitsMode : Mode → Type 0
FitsMode Direct = Unit {0}
FitsMode (Forwarded from) = IsServer from

-- a request that has bytes
pub record FitsItem (item : Item (List ℕ)) : Type 0 where
  pub client : item.client < 2 ^ 64
  pub number : item.number < 2 ^ 64
  pub mode : FitsMode item.mode
  pub forgets : item.forgets < 2 ^ 64
  pub request : length item.request < 2 ^ 32

-- a batch that has bytes
pub record FitsBatch (batch : Batch) : Type 0 where
  pub server : IsServer batch.server
  pub count : length batch.items < 2 ^ 32
  pub items : AllByRecursion FitsItem batch.items

-- a part of a base without its place in memory: the number below which clients are forgotten, bytes of the machine, and
-- last requests with their replies
pub record PartText : Type 0 where
  pub floor : ℕ
  pub state : List ℕ
  pub lasts : List (Item (List ℕ))

-- such a part
abbrev pub part_view : StoredPart → PartText
part_view stored =
    record { floor = stored.floor; state = stored.state.items; lasts = item_views stored.lasts.items }

-- a part of a base
abbrev pub part_bytes : PartText → List ℕ
part_bytes part =
    1 ∷ (to_be_bytes w64 part.floor
    ++ (string_bytes part.state ++ (to_be_bytes w32 (length part.lasts) ++ flat_map item_bytes part.lasts)))

-- a part that has bytes
pub record FitsPart (part : PartText) : Type 0 where
  pub floor : part.floor < 2 ^ 64
  pub state : length part.state < 2 ^ 32
  pub count : length part.lasts < 2 ^ 32
  pub lasts : AllByRecursion FitsItem part.lasts
