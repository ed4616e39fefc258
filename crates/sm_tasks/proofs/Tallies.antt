-- Counts of the shards of each group, shard by shard.
use Rattle.std.proofs.Common.{ℕ, ◌<◌, ◌≤◌, ◌≡◌, Bool, true, false, List, length, get_or, take}
use Rattle.std.proofs.Common.{refl, ap, ◌∙◌, arith}
use Rattle.std.proofs.Common.{Some, None, zero-add}
use Rattle.std.specs.Prelude.{replicate, position}
use Rattle.std.specs.List.{position_or_len, range_with_len}
use Rattle.std.proofs.lemmas.Bool.{and_right, lt-ltb, le-ltb}
use Rattle.std.proofs.lemmas.List.{length-replicate, get_or-replicate}
use Rattle.std.proofs.lemmas.List.FromFn.{length-range_with_len, get_or-range_with_len}
use Rattle.std.proofs.lemmas.List.Sums.{position_or_len_is}
use Rattle.sm_ranges.specs.declared.stand.Stand.{Stand}
use Rattle.sm_rows.specs.declared.limits.TheConstants.{MAX_GROUPS}
use Rattle.sm_place.specs.declared.shard.Shard.{Shard}
use Rattle.sm_place.specs.Books.{BooksView}
use Rattle.sm_ranges.specs.Stand.{names}
use Rattle.sm_tasks.specs.Approvals.{is_full, names_down}
use Rattle.sm_tasks.specs.Groups.{group_count, down_of}

-- the counts of the first shards
pub record CountsTo (test : Stand → Bool) (shards : List Shard) (i : ℕ) (counts : List ℕ) : Type 0 where
  pub len : length counts ≡ MAX_GROUPS
  pub at : (g : ℕ) → g < MAX_GROUPS → get_or counts g 0 ≡ group_count test (take i shards) g

pub CountsTo-none : (test : Stand → Bool) (shards : List Shard) (n : ℕ) → n ≡ MAX_GROUPS
    → CountsTo test shards 0 (replicate n 0)
CountsTo-none test shards n e = record {
  len = length-replicate n 0 ∙ e;
  at = λ g hg. get_or-replicate n g 0 0 (omega arith);
}

-- the first number that passes
pub position-first : (p : ℕ → Bool) (n i : ℕ) → i < n → ((k : ℕ) → k < i → p k ≡ false) → p i ≡ true
    → position p (range_with_len 0 n) ≡ Some i
position-first p n i h before here =
    let len = length-range_with_len 0 n in
    let at : (k : ℕ) → k < n → get_or (range_with_len 0 n) k 0 ≡ k =
    λ k hk. get_or-range_with_len 0 n k 0 hk ∙ zero-add k in
    let is : position_or_len p (range_with_len 0 n) ≡ i =
    position_or_len_is p (range_with_len 0 n) i 0 (omega arith) (λ k hk. ap p (at k (omega arith)) ∙ before k hk)
    (λ _. ap p (at i h) ∙ here) in
    rw (is, len, lt-ltb i n h) refl

-- no number passes
pub position-none : (p : ℕ → Bool) (n : ℕ) → ((k : ℕ) → k < n → p k ≡ false) → position p (range_with_len 0 n) ≡ None
position-none p n all =
    let len = length-range_with_len 0 n in
    let at : (k : ℕ) → k < n → get_or (range_with_len 0 n) k 0 ≡ k =
    λ k hk. get_or-range_with_len 0 n k 0 hk ∙ zero-add k in
    let is : position_or_len p (range_with_len 0 n) ≡ n =
    position_or_len_is p (range_with_len 0 n) n 0 (omega arith) (λ k hk. ap p (at k hk) ∙ all k hk)
    (λ low. absurd (omega arith)) in
    rw (is, len, le-ltb n n (omega arith)) refl

-- which groups are full
pub is_full-yes : (books : BooksView) (a g : ℕ) → 0 < group_count (λ stand. names stand a) books.shards g
    → down_of books g < group_count (names_down books a) books.shards g → is_full books a g ≡ true
is_full-yes books a g named down = rw (lt-ltb _ _ named, lt-ltb _ _ down) refl

pub is_full-unnamed : (books : BooksView) (a g : ℕ) → group_count (λ stand. names stand a) books.shards g ≤ 0
    → is_full books a g ≡ false
is_full-unnamed books a g named = rw (le-ltb _ _ named) refl

pub is_full-few : (books : BooksView) (a g : ℕ) → group_count (names_down books a) books.shards g ≤ down_of books g
    → is_full books a g ≡ false
is_full-few books a g down = and_right _ _ (le-ltb _ _ down)
