-- A shard's base: the machine after the first requests, as bytes, and the last request of each client, in parts.
use Rattle.std.specs.Prelude.{ℕ, zero, suc, ◌+◌, ◌/◌, ◌==◌, if◌then◌else◌, max, take, drop, List, [], ◌∷◌, filter}
use Rattle.std.specs.Prelude.{length}
use Rattle.std.specs.BTreeMap.{insert_entry}
use Rattle.std.specs.Ordering.{is_le, nat_cmp}
use Rattle.sm_store.specs.declared.item.Item.{Item}
use Rattle.sm_store.specs.Clients.{Automaton, floor_of, state_after}
use Rattle.sm_shard.specs.declared.base_part.TheConstants.{PART_BYTES, PART_CLIENTS}
use Rattle.sm_shard.specs.declared.replica.LastRequest.{LastRequest}

-- the last request of each client, by client
abbrev pub Lasts : Type 0 → Type 0
Lasts R = List (ℕ × LastRequest R)

-- a part of a base: bytes of the machine, last requests, and the number below which clients are forgotten
pub record Part (R : Type 0) : Type 0 where
  pub state : List ℕ
  pub lasts : Lasts R
  pub floor : ℕ

-- the last requests of the clients from this number on
abbrev pub kept_from : {R : Type 0} → ℕ → Lasts R → Lasts R
kept_from floor lasts = if floor == 0 then lasts else filter (λ last. is_le (nat_cmp floor last.0)) lasts

-- the last requests after one more request, which may let clients be forgotten
abbrev pub noted : {Q R : Type 0} → Item Q → R → Lasts R → Lasts R
noted item reply lasts =
    kept_from item.forgets (insert_entry nat_cmp lasts item.client (record { number = item.number; reply = reply }))

-- the last requests after these, from a state on
abbrev pub lasts_after : {M Q R : Type 0} → Automaton M Q R → M → Lasts R → List (Item Q) → Lasts R
lasts_after service state lasts [] = lasts
lasts_after service state lasts (item ∷ items) =
    lasts_after service (service.after state item.request) (noted item (service.reply state item.request) lasts) items

-- the last requests among these
abbrev pub lasts_of : {M Q R : Type 0} → Automaton M Q R → List (Item Q) → Lasts R
lasts_of service items = lasts_after service service.start [] items

-- bytes and last requests in so many parts, each with the number below which clients are forgotten
abbrev pub cut : {R : Type 0} → ℕ → ℕ → List ℕ → Lasts R → List (Part R)
cut floor zero state lasts = []
cut floor (suc more) state lasts =
    record { state = take PART_BYTES state; lasts = take PART_CLIENTS lasts; floor = floor }
    ∷ cut floor more (drop PART_BYTES state) (drop PART_CLIENTS lasts)

-- how many parts hold them
abbrev pub part_count : {R : Type 0} → List ℕ → Lasts R → ℕ
part_count state lasts = max (length state / PART_BYTES) (length lasts / PART_CLIENTS) + 1

-- the parts that hold them
abbrev pub parts_holding : {R : Type 0} → ℕ → List ℕ → Lasts R → List (Part R)
parts_holding floor state lasts = cut floor (part_count state lasts) state lasts

-- the base that replaces these requests
abbrev pub base_of : {M Q R : Type 0} → Automaton M Q R → List (Item Q) → List (Part R)
base_of service items =
    parts_holding (floor_of items) (service.spelled (state_after service service.start items)) (lasts_of service items)

-- the number below which clients are forgotten, by the parts of a base
abbrev pub floor_in : {R : Type 0} → List (Part R) → ℕ
floor_in [] = 0
floor_in (part ∷ parts) = part.floor

-- entries put into a map, one after the other
abbrev pub put_in : {R : Type 0} → Lasts R → Lasts R → Lasts R
put_in entries [] = entries
put_in entries (last ∷ lasts) = put_in (insert_entry nat_cmp entries last.0 last.1) lasts
