-- The facts about a step of a restart that is made, and how counts compare.
use Rattle.std.proofs.Common.{ℕ, ◌+◌, ◌<◌, ◌≤◌, ◌≡◌, Bool, true, false, cond, eqb, List, [], ◌∷◌, length}
use Rattle.std.proofs.Common.{get_or, Option, Some, None, Result, Ok, Err, refl, ap, sym, ◌∙◌, arith}
use Rattle.std.proofs.Common.{◌&&◌, zero-add}
use Rattle.std.specs.Prelude.{not, nat_lt, position, count_by}
use Rattle.std.specs.List.{position_or_len, range_with_len}
use Rattle.std.specs.Option.{option_map, option_or}
use Rattle.std.proofs.lemmas.Bool.{eq-eqb, ltb-false, or_left, or_right}
use Rattle.std.proofs.lemmas.Bool.Decides.{nat_tests}
use Rattle.std.proofs.lemmas.List.FromFn.{length-range_with_len, get_or-range_with_len}
use Rattle.std.proofs.lemmas.List.Sums.{fails_before_first, sum_by-cons, sum_by-le-sum_by}
use Rattle.sm_place.specs.declared.server_state.ServerState.{ServerState}
use Rattle.sm_place.specs.Books.{BooksView, domain_of, no_shard, shard_at, state_of}
use Rattle.sm_ranges.specs.Stand.{names, is_paused}
use Rattle.sm_place.specs.ServerState.{is_approved, is_asked, is_away, is_failed, is_leaving, is_stopped}
use Rattle.sm_tasks.specs.declared.restart_fault.RestartFault.{RestartFault}
use Rattle.sm_tasks.specs.declared.restart_fault.RestartFault.TheVariants.{NotAsked, GlobalCap, ShardCap, GroupCap}
use Rattle.sm_tasks.specs.declared.restart_fault.RestartFault.TheVariants.{DomainCap, NotApproved, StillServing}
use Rattle.sm_tasks.specs.Approvals.{approvable, capped_shard, full_group, is_full, leaving_count}
use Rattle.sm_tasks.specs.Approvals.{ok_unless, serving_shard, stoppable}
use Rattle.sm_tasks.specs.Domains.{domain_count, domain_down}
use Rattle.sm_tasks.specs.Caps.{RestartCaps}

no_place : (n len : ℕ) → cond (nat_lt n len) (Some n) None ≡ None → len ≤ n
no_place n len h = grind (arith, nat_tests)

-- if no place is the first whose element passes, every element fails
pub fails_everywhere : {X : Type 0} (p : X → Bool) (xs : List X) (k : ℕ) (d : X) → position p xs ≡ None
    → k < length xs → p (get_or xs k d) ≡ false
fails_everywhere p xs k d h lt =
    let past : length xs ≤ position_or_len p xs = no_place (position_or_len p xs) (length xs) h in
    fails_before_first p xs k d (omega arith)

pub false_within : (p q : Bool) → (p ≡ true → q ≡ true) → q ≡ false → p ≡ false
false_within false q h e = refl
false_within true q h e = let t = h refl in absurd (cc)

-- if a number counts only if another number counts too, it adds no more than that one
pub cond_within : (p q : Bool) (n : ℕ) → (p ≡ true → q ≡ true) → cond p n 0 ≤ cond q n 0
cond_within false q n h = omega arith
cond_within true true n h = omega arith
cond_within true false n h = let e = h refl in absurd (cc)

-- if a test passes only if another one does, it passes no more often; this holds also if it does so only at elements
-- that a third test refuses, and that test refuses all
pub count_by-within : {X : Type 0} (p q : X → Bool) (xs : List X) → ((x : X) → p x ≡ true → q x ≡ true)
    → count_by p xs ≤ count_by q xs
count_by-within p q xs h =
    sum_by-le-sum_by (λ x. cond (p x) 1 0) (λ x. cond (q x) 1 0) xs (λ x. cond_within (p x) (q x) 1 (h x))

pub count_by-within_but : {X : Type 0} (p q r : X → Bool) (xs : List X) → count_by r xs ≤ 0
    → ((x : X) → r x ≡ false → p x ≡ true → q x ≡ true) → count_by p xs ≤ count_by q xs
count_by-within_but p q r [] none h = omega arith
count_by-within_but p q r (x ∷ xs) none h =
    let all = sum_by-cons (λ y. cond (r y) 1 0) x xs in
    let first : r x ≡ false = no_one (r x) (count_by r xs) (omega arith) in
    let rest : count_by r xs ≤ 0 = omega arith in
    omega (
      arith,
      sum_by-cons (λ y. cond (p y) 1 0) x xs,
      sum_by-cons (λ y. cond (q y) 1 0) x xs,
      cond_within (p x) (q x) 1 (h x first),
      count_by-within_but p q r xs rest h,
    )
  where
    no_one : (u : Bool) (n : ℕ) → cond u 1 0 + n ≤ 0 → u ≡ false
    no_one false n e = refl
    no_one true n e = absurd (omega arith)

-- the facts behind an approval
pub record IsApprovable (allowed : RestartCaps) (books : BooksView) (a : ℕ) : Type 0 where
  pub asked : is_asked (state_of books a) ≡ true
  pub few : leaving_count books + 1 ≤ allowed.ops
  pub uncapped : (k : ℕ) → k < length books.shards → (shard_at books.shards k).row.cap ≡ 0
      → names (shard_at books.shards k).stand a ≡ false
  pub groups : (g : ℕ) → g < length books.groups → is_full books a g ≡ false
  pub domain :
      domain_count is_leaving books (domain_of books.servers a) + 1 ≤ domain_down books (domain_of books.servers a)

pub IsApprovable-approvable : (allowed : RestartCaps) (books : BooksView) (a : ℕ) → approvable allowed books a ≡ Ok tt
    → IsApprovable allowed books a
IsApprovable-approvable allowed books a e =
    let d = domain_of books.servers a in
    let t = five (is_asked (state_of books a)) (nat_lt allowed.ops (leaving_count books + 1)) (capped_shard books a)
    (full_group books a)
    (nat_lt (domain_down books d) (domain_count is_leaving books d + 1)) d e in
    record {
      asked = t.0;
      few = ltb-false allowed.ops (leaving_count books + 1) t.1.0;
      uncapped = λ k h cap. unnamed (eqb (shard_at books.shards k).row.cap 0) (names (shard_at books.shards k).stand a)
          (eq-eqb _ _ cap)
          (fails_everywhere (λ shard. eqb shard.row.cap 0 && names shard.stand a) books.shards k no_shard t.1.1.0 h);
      groups = λ g h.
          let inside : g < length (range_with_len 0 (length books.groups)) =
          rw (length-range_with_len 0 (length books.groups)) h in
          let at : get_or (range_with_len 0 (length books.groups)) g 0 ≡ g =
          get_or-range_with_len 0 (length books.groups) g 0 h ∙ zero-add g in
          sym (ap (is_full books a) at)
          ∙ fails_everywhere (is_full books a) (range_with_len 0 (length books.groups)) g 0 t.1.1.1.0 inside;
      domain = ltb-false (domain_down books d) (domain_count is_leaving books d + 1) t.1.1.1.1;
    }
  where
    five : (p q : Bool) (x y : Option ℕ) (r : Bool) (d : ℕ)
        → ◌≡◌ {A = Result (Unit {0}) RestartFault}
        (cond (not p) (Err NotAsked) (cond q (Err GlobalCap)
        (ok_unless (option_or (option_map ShardCap x)
        (option_or (option_map GroupCap y) (option_map DomainCap (cond r (Some d) None)))))))
        (Ok tt)
        → (p ≡ true) × ((q ≡ false) × ((x ≡ None) × ((y ≡ None) × (r ≡ false))))
    five false q x y r d e = absurd (cc)
    five true true x y r d e = absurd (cc)
    five true false (Some k) y r d e = absurd (cc)
    five true false None (Some g) r d e = absurd (cc)
    five true false None None true d e = absurd (cc)
    five true false None None false d e = (refl, (refl, (refl, (refl, refl))))

    unnamed : (u v : Bool) → u ≡ true → (u && v) ≡ false → v ≡ false
    unnamed true v h e = e
    unnamed false v h e = absurd (cc)

-- the facts behind a stop
pub record IsStoppable (books : BooksView) (a : ℕ) : Type 0 where
  pub approved : is_approved (state_of books a) ≡ true
  pub paused : (k : ℕ) → k < length books.shards → names (shard_at books.shards k).stand a ≡ true
      → is_paused (shard_at books.shards k).stand ≡ true

pub IsStoppable-stoppable : (books : BooksView) (a : ℕ) → stoppable books a ≡ Ok tt → IsStoppable books a
IsStoppable-stoppable books a e =
    let t = two (is_approved (state_of books a)) (serving_shard books a) e in
    record {
      approved = t.0;
      paused =
          λ k h named. held (names (shard_at books.shards k).stand a) (is_paused (shard_at books.shards k).stand) named
          (fails_everywhere
          (λ shard. names shard.stand a && not (is_paused shard.stand)) books.shards k no_shard t.1 h);
    }
  where
    two : (p : Bool) (x : Option ℕ)
        → ◌≡◌ {A = Result (Unit {0}) RestartFault}
        (cond (not p) (Err NotApproved) (ok_unless (option_map StillServing x)))
        (Ok tt) → (p ≡ true) × (x ≡ None)
    two false x e = absurd (cc)
    two true (Some k) e = absurd (cc)
    two true None e = (refl, refl)

    held : (u v : Bool) → u ≡ true → (u && not v) ≡ false → v ≡ true
    held false v h e = absurd (cc)
    held true true h e = refl
    held true false h e = absurd (cc)

-- if a server is away, it is leaving
pub is_leaving-away : (state : ServerState) → is_away state ≡ true → is_leaving state ≡ true
is_leaving-away state away = or_left (is_away state) (is_failed state) away

pub is_away-approved : (state : ServerState) → is_approved state ≡ true → is_away state ≡ true
is_away-approved state approved = or_left (is_approved state) (is_stopped state) approved

pub is_away-stopped : (state : ServerState) → is_stopped state ≡ true → is_away state ≡ true
is_away-stopped state stopped = or_right (is_approved state) (is_stopped state) stopped
