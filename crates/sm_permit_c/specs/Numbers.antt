-- The numbers of C that encode a process's knowledge of a shard, and the effects of calls on them.
use Rattle.std.specs.Prelude.{ℕ, ◌≡◌, ◌<◌, ◌⊎◌, ◌≢◌}
use Rattle.sm_ranges.specs.ServerId.{IsServer}
use Rattle.sm_ranges.specs.declared.limits.TheConstants.{MAX_SERVER}
use Rattle.sm_ownership.specs.declared.mode.Mode.{Mode}
use Rattle.sm_ownership.specs.declared.mode.Mode.TheVariants.{Direct, Forwarded}
use Rattle.sm_ownership.specs.declared.record.Record.{Record}
use Rattle.sm_word.specs.Word.{IsWellFormed, word_of}
use Rattle.sm_permit.specs.declared.hand_over.HandOver.{HandOver}
use Rattle.sm_permit.specs.declared.shard_reading.ShardReading.{ShardReading}
use Rattle.sm_permit.specs.declared.shard_view.ShardView.{ShardView}
use Rattle.sm_permit_c.specs.declared.hand_over_numbers.HandOverNumbers.{HandOverNumbers}
use Rattle.sm_permit_c.specs.declared.reading_numbers.ReadingNumbers.{ReadingNumbers}
use Rattle.sm_permit_c.specs.declared.view_numbers.ViewNumbers.{ViewNumbers}

-- the numbers of a reading
abbrev pub reading_numbers : ShardReading → ReadingNumbers
reading_numbers reading =
    record {
      revision = reading.revision;
      word = word_of reading.state;
      owner_joined = reading.owner_joined;
      failed = reading.failed;
      owner_failed = reading.owner_failed;
    }

-- those of a process's knowledge
abbrev pub view_numbers : ShardView → ViewNumbers
view_numbers view =
    record {
      joined = view.joined;
      until = view.until;
      let_go = view.let_go;
      reading = reading_numbers view.reading;
      server = view.server;
      freed = view.freed;
    }

-- those of handed-over bytes
abbrev pub hand_over_numbers : HandOver → HandOverNumbers
hand_over_numbers hand = record { joined = hand.joined; generation = hand.generation; server = hand.server }

-- the number is no server's
abbrev pub IsBadServer : ℕ → Type 0
IsBadServer number = (number ≡ 0) ⊎ (MAX_SERVER < number)

-- no record has this word
abbrev pub IsBadWord : ℕ → Type 0
IsBadWord word = (state : Record) → IsWellFormed state → word_of state ≢ word

-- a request came from this server, or directly if it is 0
abbrev pub ComesBy : ℕ → Mode → Type 0
ComesBy from Direct = from ≡ 0
ComesBy from (Forwarded server) = from ≡ server

-- these numbers are those of the reading, whose record has a word
abbrev pub AreOfReading : ReadingNumbers → ShardReading → Type 0
AreOfReading numbers reading = IsWellFormed reading.state × (numbers ≡ reading_numbers reading)

-- these numbers are those of the view of a server, whose record has a word
abbrev pub AreOfView : ViewNumbers → ShardView → Type 0
AreOfView numbers view =
    IsServer view.server × IsWellFormed view.reading.state × (numbers ≡ view_numbers view)

-- these numbers are no view's: by the code, the server or the word is invalid
abbrev pub AreOfNone : ViewNumbers → ℕ → Type 0
AreOfNone numbers code =
    ((code ≡ 2) × IsBadServer numbers.server) ⊎ ((code ≡ 4) × IsBadWord numbers.reading.word)

-- the numbers become those of the view that the function returns for the view that they were
abbrev pub Becomes : ViewNumbers → (ShardView → ShardView) → ViewNumbers → Type 0
Becomes before change after =
    (view : ShardView) × AreOfView before view × AreOfView after (change view)
