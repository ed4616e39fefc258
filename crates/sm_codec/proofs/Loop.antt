-- Reading requests one after the other, as a loop does.
use Rattle.std.proofs.Common.{◌≡◌, ℕ, suc, ◌-◌, ◌+◌, ◌≤◌, ◌<◌, List, [], ◌∷◌, ◌++◌, Result, Ok, Err, refl, sym, ap}
use Rattle.std.proofs.Common.{◌∙◌, append_assoc, arith}
use Rattle.std.proofs.lemmas.List.{append-nil}
use Rattle.sm_codec.specs.declared.fault.Fault.{Fault}
use Rattle.sm_codec.specs.declared.fault.ReadError.{ReadError}
use Rattle.sm_codec.specs.declared.fault.ReadError.TheVariants as errors
use Rattle.sm_store.specs.declared.item.Item.{Item}
use Rattle.sm_codec.specs.Reading.{◌>>=◌, IsFault, item_in, items_in}

-- the elements that were read before, and those that are still read
abbrev pub with_front : List (Item (List ℕ)) → Result (List (Item (List ℕ)) × List ℕ) Fault → Result (List (Item
    (List ℕ)) × List ℕ) Fault
with_front front read = read >>= λ x. Ok (front ++ x.0, x.1)

regroup : (front : List (Item (List ℕ))) (n : Item (List ℕ)) (read : Result (List (Item (List ℕ)) × List ℕ) Fault) →
    with_front front (read >>= λ x. Ok (n ∷ x.0, x.1)) ≡ with_front (front ++ n ∷ []) read
regroup front n (Ok x) = ap (λ (ns : List (Item (List ℕ))). Ok (ns, x.1)) (simp append_assoc)
regroup front n (Err f) = refl

pub goes_on : (front : List (Item (List ℕ))) (count i : ℕ) (bytes : List ℕ) (n : Item (List ℕ)) (after : List ℕ)
    (total : Result (List (Item (List ℕ)) × List ℕ) Fault) → i < count → item_in bytes ≡ Ok (n, after)
    → with_front front (items_in (count - i) bytes) ≡ total → with_front (front ++ n ∷ []) (items_in (count - (i +
    1)) after) ≡ total
unfolding items_in
goes_on front count i bytes n after total lt h so_far =
    let k : count - i ≡ suc (count - (i + 1)) = omega arith in
    let one : with_front front (items_in (count - i) bytes) ≡ with_front (front ++ n ∷ []) (items_in (count - (i +
    1)) after) = rw (k, h) (regroup front n (items_in (count - (i + 1)) after)) in
    sym one ∙ so_far

pub ends : (e : ReadError) (front : List (Item (List ℕ))) (count i : ℕ) (bytes : List ℕ) (total : Result (List (Item
    (List ℕ)) × List ℕ) Fault) → i < count → IsFault e (item_in bytes)
    → with_front front (items_in (count - i) bytes) ≡ total → IsFault e total
unfolding items_in
ends errors.Memory front count i bytes total lt h so_far = tt
ends (errors.Fault f) front count i bytes total lt h so_far =
    let k : count - i ≡ suc (count - (i + 1)) = omega arith in
    let one : with_front front (items_in (count - i) bytes) ≡ Err f = rw (k, h) refl in
    sym so_far ∙ one

pub is_done : (front : List (Item (List ℕ))) (count i : ℕ) (bytes : List ℕ) (total : Result (List (Item (List ℕ)) ×
    List ℕ) Fault) → count ≤ i → with_front front (items_in (count - i) bytes) ≡ total → total ≡ Ok (front, bytes)
unfolding items_in
is_done front count i bytes total le so_far =
    let k : count - i ≡ 0 = omega arith in
    let one : with_front front (items_in (count - i) bytes) ≡ Ok (front, bytes) = rw k (ap (λ (ns : List (Item (List
    ℕ))). Ok (ns, bytes)) (append-nil front)) in
    sym so_far ∙ one
