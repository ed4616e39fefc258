-- How a plan goes on from shard to shard.
use Rattle.std.proofs.Common.{ℕ, ◌+◌, ◌<◌, ◌≡◌, ◌++◌, true, false, cond, List, [], ◌∷◌, length, get_or, drop}
use Rattle.std.proofs.Common.{Option, Some, None}
use Rattle.std.proofs.Common.{suc, refl, ap, sym, ◌∙◌, arith, drop-cons, add-one, All, append_assoc, Bool}
use Rattle.std.specs.Prelude.{filter, map}
use Rattle.std.specs.List.{range_with_len}
use Rattle.std.proofs.lemmas.List.{append-nil}
use Rattle.std.proofs.lemmas.List.Elements.{All-filter, All-from_get_or}
use Rattle.std.proofs.lemmas.List.FromFn.{filter_of_map_range_with_len_more, length-range_with_len}
use Rattle.std.proofs.lemmas.List.FromFn.{get_or-range_with_len}
use Rattle.sm_ranges.specs.declared.stand.Stand.TheVariants.{Serving}
use Rattle.sm_place.specs.declared.shard.Shard.{Shard}
use Rattle.sm_place.specs.Plans.{stands_to_move}
use Rattle.sm_place.specs.Books.{BooksView, shard_at}
use Rattle.sm_place.specs.Plans.{PlanView, books_after, first_fit, joined, no_plan, plan, turn}
use Rattle.sm_place.specs.Plans.{shards_to_move}
use Rattle.sm_place.specs.lemmas.Changed.{length-with_stand}

-- plans can be joined in any grouping, and an empty plan adds nothing
pub joined-assoc : (p q r : PlanView) → joined (joined p q) r ≡ joined p (joined q r)
joined-assoc p q r = simp append_assoc

pub joined-no_plan : (p : PlanView) → joined p no_plan ≡ p
joined-no_plan p = simp append-nil

-- a plan goes on with the next shard
pub plan-next : (p : PlanView) (books : BooksView) (shards servers : List ℕ) (i k : ℕ) (all : PlanView)
    → i < length shards → k ≡ get_or shards i k
    → joined p (plan books (drop i shards) servers) ≡ all
    → joined (joined p (turn k (first_fit books k servers)))
    (plan (books_after books k (first_fit books k servers)) (drop (i + 1) shards) servers) ≡ all
plan-next p books shards servers i k all h e inv =
    let d : drop i shards ≡ k ∷ drop (suc i) shards = rw (← e) at (drop-cons shards i k h) in
    let step : joined p (plan books (drop i shards) servers) ≡ joined p (plan books (k ∷ drop (suc i) shards) servers) =
    ap (λ ks. joined p (plan books ks servers)) d in
    let to = first_fit books k servers in
    rw add-one
    (joined-assoc p (turn k to) (plan (books_after books k to) (drop (suc i) shards) servers) ∙ sym step ∙ inv)

-- a move changes no server, and leaves as many shards
pub servers-books_after : (books : BooksView) (k : ℕ) (to : Option ℕ) → (books_after books k to).servers ≡ books.servers
servers-books_after books k None = refl
servers-books_after books k (Some a) = refl

pub count-books_after : (books : BooksView) (k : ℕ) (to : Option ℕ)
    → length (books_after books k to).shards ≡ length books.shards
count-books_after books k None = refl
count-books_after books k (Some a) = length-with_stand books.shards k (Serving a)

-- the shards of a plan have rows
pub inside_shards : (from : Option ℕ) (shards : List Shard) → All (λ k. k < length shards) (shards_to_move from shards)
inside_shards from shards =
    let n = length shards in
    All-filter (λ k. stands_to_move from (shard_at shards k).stand) (λ k. k < n) (range_with_len 0 n)
    (All-from_get_or (λ k. k < n) (range_with_len 0 n) 0 (λ i h.
    let inside : i < n = rw (← length-range_with_len 0 n) h in
    let at : get_or (range_with_len 0 n) i 0 ≡ 0 + i = get_or-range_with_len 0 n i 0 inside in omega arith))

-- the numbers below n + 1 that pass
filter-below_more : (p : ℕ → Bool) (n : ℕ)
    → filter p (range_with_len 0 (n + 1)) ≡ filter p (range_with_len 0 n) ++ cond (p n) (n ∷ []) []
filter-below_more p n =
    sym (ap (filter p) (same_map (range_with_len 0 (n + 1))))
    ∙ filter_of_map_range_with_len_more p (λ k. k) 0 n n (omega arith)
    ∙ ap (λ xs. filter p xs ++ cond (p n) (n ∷ []) []) (same_map (range_with_len 0 n))
  where
    same_map : (xs : List ℕ) → map (λ k. k) xs ≡ xs
    same_map [] = refl
    same_map (x ∷ xs) = ap (λ ys. x ∷ ys) (same_map xs)

pub filter-below_yes : (p : ℕ → Bool) (n : ℕ) (xs : List ℕ) → xs ≡ filter p (range_with_len 0 n) → p n ≡ true
    → xs ++ n ∷ [] ≡ filter p (range_with_len 0 (n + 1))
filter-below_yes p n xs e here =
    ap (λ ys. ys ++ n ∷ []) e
    ∙ sym (filter-below_more p n ∙ ap (λ (b : Bool). filter p (range_with_len 0 n) ++ cond b (n ∷ []) []) here)

pub filter-below_no : (p : ℕ → Bool) (n : ℕ) (xs : List ℕ) → xs ≡ filter p (range_with_len 0 n) → p n ≡ false
    → xs ≡ filter p (range_with_len 0 (n + 1))
filter-below_no p n xs e here =
    e ∙ sym (filter-below_more p n ∙ ap (λ (b : Bool). filter p (range_with_len 0 n) ++ cond b (n ∷ []) []) here
    ∙ append-nil (filter p (range_with_len 0 n)))
