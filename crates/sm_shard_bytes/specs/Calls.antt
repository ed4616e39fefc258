-- The effects of calls on the state that a handle keeps, and the numbers and bytes that they write.
use Rattle.std.specs.Prelude.{ℕ, Bool, ◌≡◌, ◌==◌, ◌+◌, ◌++◌, ◌&&◌, ◌||◌, nat_le, List, Option, Some, None, length, take}
use Rattle.std.specs.Global.{Vec}
use Rattle.sm_ownership.specs.declared.mode.Mode.{Mode}
use Rattle.sm_ownership.specs.declared.mode.Mode.TheVariants.{Direct, Forwarded}
use Rattle.sm_ranges.specs.ServerId.{IsServer}
use Rattle.sm_shard.specs.declared.shard_state.Decision.{Decision}
use Rattle.sm_shard.specs.declared.shard_state.Decision.TheVariants.{Replied, Passed, Waits, Forwards, Refused}
use Rattle.sm_shard.specs.declared.shard_state.Decision.TheVariants.{TooLarge, Busy, TooFar, NotRead}
use Rattle.sm_shard.specs.declared.shard_state.Decision.TheVariants.{Forgotten, TooManyClients}
use Rattle.sm_shard.specs.declared.steps.ShardOutput.TheVariants.{Decided}
use Rattle.sm_store.specs.declared.item.Item.{Item}
use Rattle.sm_shard_bytes.specs.declared.codes.TheConstants as codes
use Rattle.sm_shard_bytes.specs.declared.byte_server.ByteServer.{ByteServer}
use Rattle.sm_shard_bytes.specs.declared.forward_numbers.ForwardNumbers.{ForwardNumbers}
use Rattle.sm_shard_bytes.specs.declared.part_numbers.PartNumbers.{PartNumbers}
use Rattle.sm_shard_bytes.specs.declared.sent_bytes.SentBytes.{SentBytes}
use Rattle.sm_shard_bytes.specs.declared.sent_numbers.SentNumbers.{SentNumbers}
use Rattle.sm_shard_bytes.specs.Servers.{ByteInput, ByteOutput, ByteService, IsComing, IsPartOf, SpellsSending}

-- both handles keep states, with this relation between them
abbrev pub Between : {S : Type 0} → (S → S → Type 0) → Option S → Option S → Type 0
Between holds (Some old) (Some new) = holds old new
Between holds old new = ⊥

-- the handle keeps a state with this property
abbrev pub KeepsState : {S : Type 0} → (S → Type 0) → Option S → Type 0
KeepsState holds (Some state) = holds state
KeepsState holds None = ⊥

-- how a request came: directly for 0, or from this server
abbrev pub ComesFrom : ℕ → Mode → Type 0
ComesFrom from Direct = from ≡ 0
ComesFrom from (Forwarded server) = (server ≡ from) × IsServer server

-- the request of the client with this number, forwarded so often, which lets clients be forgotten: these bytes
abbrev pub HasItemParts : ℕ → ℕ → ℕ → ℕ → ℕ → List ℕ → Item (Vec ℕ) → Type 0
HasItemParts client number from hops forgets bytes item =
    (item.client ≡ client) × (item.number ≡ number) × ComesFrom from item.mode × (item.hops ≡ hops)
    × (item.forgets ≡ forgets) × (item.request.items ≡ bytes)

-- it came, as one that only reads or as one that is made
abbrev pub IsRequestInput : {R : Type 0} → Bool → ℕ → ℕ → ℕ → ℕ → ℕ → List ℕ → ByteInput R → Type 0
IsRequestInput reads client number from hops forgets bytes input =
    (item : Item (Vec ℕ)) × HasItemParts client number from hops forgets bytes item × IsComing reads item input

-- a decision about a request is told by such a code
abbrev pub is_decided : ℕ → Bool
is_decided code = code == 0 || (nat_le 70 code && nat_le code 79)

-- the code tells the decision, with the reply, or the next server for the request
abbrev pub TellsDecision : {R : Type 0} → Decision R → ℕ → R → ForwardNumbers → Type 0
TellsDecision (Replied made) code reply forward = (code ≡ 0) × (reply ≡ made)
TellsDecision Passed code reply forward = code ≡ codes.PASSED
TellsDecision Forgotten code reply forward = code ≡ codes.FORGOTTEN
TellsDecision Waits code reply forward = code ≡ codes.WAITS
TellsDecision (Forwards server hops) code reply forward =
    (code ≡ codes.FORWARDS) × (forward.server ≡ server) × (forward.hops ≡ hops)
TellsDecision TooFar code reply forward = code ≡ codes.TOO_FAR
TellsDecision Refused code reply forward = code ≡ codes.REFUSED
TellsDecision NotRead code reply forward = code ≡ codes.NOT_READ
TellsDecision TooLarge code reply forward = code ≡ codes.REQUEST_TOO_LARGE
TellsDecision Busy code reply forward = code ≡ codes.CROWDED
TellsDecision TooManyClients code reply forward = code ≡ codes.TOO_MANY_CLIENTS

-- the result was such a decision
abbrev pub IsDecidedAs : {R : Type 0} → ℕ → R → ForwardNumbers → ByteOutput R → Type 0
IsDecidedAs {R = R} code reply forward output =
    (decision : Decision R) × (output ≡ Decided decision) × TellsDecision decision code reply forward

-- the numbers and the bytes are those of a transaction's compares and writes
pub record WritesSent (sent : SentBytes) (numbers : SentNumbers) (written : List ℕ) : Type 0 where
  pub stood : numbers.stood ≡ sent.stood
  pub logged : numbers.logged ≡ sent.logged
  pub number : numbers.number ≡ sent.number
  pub head_length : numbers.head_length ≡ length sent.head.items
  pub batch_length : numbers.batch_length ≡ length sent.batch.items
  pub bytes : take (numbers.head_length + numbers.batch_length) written ≡ sent.head.items ++ sent.batch.items

-- they are those of the server's transaction
abbrev pub WritesSending : {M R : Type 0} → ByteService M R → SentNumbers → List ℕ → ByteServer M R → Type 0
WritesSending service numbers written server =
    (sent : SentBytes) × SpellsSending service server sent × WritesSent sent numbers written

-- the numbers and the bytes are those of the part at this place
abbrev pub WritesPart : {M R : Type 0} → ByteService M R → (R → List ℕ) → ℕ → PartNumbers → List ℕ → ByteServer M R
    → Type 0
WritesPart service spelled place numbers written server =
    IsPartOf service spelled server place numbers (take numbers.length written)
