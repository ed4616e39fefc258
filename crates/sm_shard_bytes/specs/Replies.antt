-- The bytes of a base's parts: each client's last request as an item, with the reply's bytes as its bytes.
use Rattle.std.specs.Prelude.{ℕ, List, map}
use Rattle.std.specs.Int.{w64, to_be_bytes}
use Rattle.sm_ownership.specs.declared.mode.Mode.TheVariants.{Direct}
use Rattle.sm_store.specs.declared.item.Item.{Item}
use Rattle.sm_codec.specs.Spelling.{PartText}
use Rattle.sm_shard.specs.Bases.{Part}
use Rattle.sm_shard.specs.declared.replica.LastRequest.{LastRequest}

-- a place of a log, as a reply
abbrev pub place_bytes : ℕ → List ℕ
place_bytes place = to_be_bytes w64 place

-- a client's last request, by the bytes of replies
abbrev pub last_item : {R : Type 0} → (R → List ℕ) → ℕ × LastRequest R → Item (List ℕ)
last_item spelled last = record {
  client = last.0;
  number = last.1.number;
  mode = Direct;
  hops = 0;
  forgets = 0;
  request = spelled last.1.reply;
}

-- a part of a base, as it is spelled
abbrev pub part_text : {R : Type 0} → (R → List ℕ) → Part R → PartText
part_text spelled part =
    record { floor = part.floor; state = part.state; lasts = map (last_item spelled) part.lasts }
