-- A server's replica of a shard's requests: the machine after them, and the last request and reply of each client.
use Rattle.std.specs.Prelude.{ℕ, Option, Some, None, ◌≡◌, List, [], ◌∷◌, if◌then◌else◌}
use Rattle.std.specs.Option.{option_map}
use Rattle.sm_store.specs.declared.item.Item.{Item}
use Rattle.sm_store.specs.Clients.{Automaton, AreNext, floor_of, state_after}
use Rattle.sm_shard.specs.Bases.{lasts_of}
use Rattle.sm_shard.specs.declared.replica.MadeReply.{MadeReply}
use Rattle.sm_shard.specs.declared.replica.ReadReply.{ReadReply}
use Rattle.sm_shard.specs.declared.store_machine.ReadAnswer.{ReadAnswer}
use Rattle.sm_shard.specs.declared.replica.Replica.{Replica}
use Rattle.sm_shard.specs.declared.replica.LastRequest.{LastRequest}

-- the number of a last request, or 0 if there is none
abbrev pub last_number : {R : Type 0} → Option (LastRequest R) → ℕ
last_number None = 0
last_number (Some last) = last.number

-- the replies of a machine to requests, one after the other
abbrev pub replies_of : {M Q R : Type 0} → Automaton M Q R → M → List (Item Q) → List (MadeReply R)
replies_of service state [] = []
replies_of service state (item ∷ items) =
    record { client = item.client; number = item.number; reply = service.reply state item.request }
    ∷ replies_of service (service.after state item.request) items

-- the replica of these requests, each of which came next
pub record IsReplica {M Q R : Type 0} (service : Automaton M Q R) (items : List (Item Q))
    (replica : Replica M R) : Type 0 where
  pub machine : replica.machine ≡ state_after service service.start items
  pub lasts : replica.lasts.entries ≡ lasts_of service items
  pub floor : replica.floor ≡ floor_of items
  pub next : AreNext [] items

-- the outcome of a read: its client, its number, and the reply and the text, if there is an answer
pub record ToldRead (R : Type 0) : Type 0 where
  pub client : ℕ
  pub number : ℕ
  pub answer : Option (R × List ℕ)

-- the reply and the text of an answer
abbrev pub answer_parts : {R : Type 0} → ReadAnswer R → R × List ℕ
answer_parts answer = (answer.reply, answer.text.items)

-- the outcome in this answer to a question
abbrev pub told_read : {R : Type 0} → ReadReply R → ToldRead R
told_read read =
    record { client = read.client; number = read.number; answer = option_map answer_parts read.answer }

-- the machine's reply and its text if the request only reads, and nothing otherwise
abbrev pub read_answer : {M Q R : Type 0} → Automaton M Q R → M → Q → Option (R × List ℕ)
read_answer service machine request =
    if service.reads request then Some (service.reply machine request, service.text machine request) else None

-- the answer to a question
abbrev pub read_of : {M Q R : Type 0} → Automaton M Q R → M → Item Q → ToldRead R
read_of service machine item =
    record { client = item.client; number = item.number; answer = read_answer service machine item.request }
