-- The count of requests stays a number of 64 bits, and the replies are places.
use Rattle.std.proofs.Common.{◌≡◌, ◌∙◌, ℕ, suc, Bool, true, false, ◌<◌, ◌≤◌, ◌+◌, ◌^◌, List, [], ◌∷◌, length}
use Rattle.std.proofs.Common.{Option, Some, None, if◌then◌else◌, arith, ap, refl}
use Rattle.std.specs.Global.{Vec}
use Rattle.std.specs.List.{AllByRecursion}
use Rattle.std.specs.Option.{option_map}
use Rattle.sm_store.specs.declared.item.Item.{Item}
use Rattle.sm_store.specs.Clients.{is_from, reply_in, state_after}
use Rattle.sm_shard.specs.declared.replica.MadeReply.{MadeReply}
use Rattle.sm_shard.specs.Replicas.{replies_of}
use Rattle.sm_opaque.specs.Opaque.{count_after, only_reads, opaque_service}
use Rattle.sm_opaque.specs.Places.{IsCounted, place_among, placed_from}

counted : (count : ℕ) (reads : Bool) → count < 2 ^ 64 → count_after count reads < 2 ^ 64
counted count true low = low
counted count false low = omega arith

pub bounded : (items : List (Item (Vec ℕ))) (count : ℕ) → count < 2 ^ 64
    → state_after opaque_service count items < 2 ^ 64
bounded [] count low = low
bounded (item ∷ items) count low =
    bounded items (count_after count (only_reads item.request.items))
    (counted count (only_reads item.request.items) low)

next : (count : ℕ) → count + 1 < 2 ^ 64 → count_after count false ≡ suc count
next count low = omega arith

after : (item : Item (Vec ℕ)) (count : ℕ) → IsCounted item → count + 1 < 2 ^ 64
    → count_after count (only_reads item.request.items) ≡ suc count
after item count is low = ap (count_after count) is ∙ next count low

pub placed : (items : List (Item (Vec ℕ))) (count : ℕ) → AllByRecursion IsCounted items
    → count + length items ≤ 2 ^ 64 → replies_of opaque_service count items ≡ placed_from count items
placed [] count all few = refl
placed (item ∷ []) count all few = refl
placed (item ∷ other ∷ items) count all few =
    ap (λ (made : List (MadeReply ℕ)).
    record { client = item.client; number = item.number; reply = count } ∷ made)
    (ap (λ (n : ℕ). replies_of opaque_service n (other ∷ items)) (after item count all.0 (omega arith))
    ∙ placed (other ∷ items) (suc count) all.1 (omega arith))

further : (count : ℕ) (place : Option ℕ)
    → option_map (λ k. suc count + k) place ≡ option_map (λ k. count + k) (option_map suc place)
further count None = refl
further count (Some k) = ap Some (omega arith)

found : (is : Bool) (count : ℕ) (reply place : Option ℕ) → reply ≡ option_map (λ k. suc count + k) place
    → (if is then Some count else reply)
    ≡ option_map (λ k. count + k) (if is then Some 0 else option_map suc place)
found true count reply place known = ap Some (omega arith)
found false count reply place known = known ∙ further count place

replied : (items : List (Item (Vec ℕ))) (count client number : ℕ) → AllByRecursion IsCounted items
    → count + length items ≤ 2 ^ 64
    → reply_in opaque_service count items client number ≡ option_map (λ k. count + k) (place_among client number items)
replied [] count client number all few = refl
replied (item ∷ []) count client number all few = found (is_from client number item) count None None refl
replied (item ∷ other ∷ items) count client number all few =
    found (is_from client number item) count
    (reply_in opaque_service (count_after count (only_reads item.request.items)) (other ∷ items) client number)
    (place_among client number (other ∷ items))
    (ap (λ (n : ℕ). reply_in opaque_service n (other ∷ items) client number) (after item count all.0 (omega arith))
    ∙ replied (other ∷ items) (suc count) client number all.1 (omega arith))

from_the_start : (place : Option ℕ) → option_map (λ k. 0 + k) place ≡ place
from_the_start None = refl
from_the_start (Some k) = ap Some (omega arith)

pub known : (items : List (Item (Vec ℕ))) (client number : ℕ) → AllByRecursion IsCounted items
    → length items ≤ 2 ^ 64 → reply_in opaque_service 0 items client number ≡ place_among client number items
known items client number all few =
    replied items 0 client number all (omega arith) ∙ from_the_start (place_among client number items)
