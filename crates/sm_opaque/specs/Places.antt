-- The places of a shard's requests: the first is at 0, and each of the others one further.
use Rattle.std.specs.Prelude.{ℕ, suc, false, ◌≡◌, if◌then◌else◌, List, [], ◌∷◌, Option, Some, None}
use Rattle.std.specs.Option.{option_map}
use Rattle.std.specs.Global.{Vec}
use Rattle.sm_store.specs.declared.item.Item.{Item}
use Rattle.sm_store.specs.Clients.{is_from}
use Rattle.sm_shard.specs.declared.replica.MadeReply.{MadeReply}
use Rattle.sm_opaque.specs.Opaque.{only_reads}

-- the request doesn't only read
abbrev pub IsCounted : Item (Vec ℕ) → Type 0
IsCounted item = only_reads item.request.items ≡ false

-- each request by its client and its number, with its place; the first of them has this place
abbrev pub placed_from : ℕ → List (Item (Vec ℕ)) → List (MadeReply ℕ)
placed_from place [] = []
placed_from place (item ∷ items) =
    record { client = item.client; number = item.number; reply = place } ∷ placed_from (suc place) items

-- the place of the client's request of this number among these, if it is there
abbrev pub place_among : ℕ → ℕ → List (Item (Vec ℕ)) → Option ℕ
place_among client number [] = None
place_among client number (item ∷ items) =
    if is_from client number item then Some 0 else option_map suc (place_among client number items)
