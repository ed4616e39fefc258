-- Which stands leave room.
use Rattle.std.proofs.Common.{ℕ, ◌+◌, ◌<◌, ◌≤◌, ◌≡◌, Bool, true, false, cond, eqb, length, Result, Ok, Err}
use Rattle.std.proofs.Common.{refl, ap, sym, ◌∙◌, arith, inl, inr, ◌⊎◌, ◌&&◌}
use Rattle.std.specs.Prelude.{slice_index_or, nat_lt, remove}
use Rattle.std.proofs.lemmas.Bool.{and_from, and_parts, eqb-true}
use Rattle.std.proofs.lemmas.Bool.Decides.{eqb_tells}
use Rattle.sm_ranges.specs.declared.stand.Stand.{Stand}
use Rattle.sm_ranges.specs.declared.stand.Stand.TheVariants.{Prepared, Serving}
use Rattle.sm_place.specs.declared.shard.Shard.{Shard}
use Rattle.sm_place.specs.declared.place_fault.PlaceFault.{PlaceFault}
use Rattle.sm_place.specs.declared.place_fault.PlaceFault.TheVariants.{Leaving, NoCapacity, DomainLimit}
use Rattle.sm_place.specs.Books.{BooksView, moved, no_group, row_by_id, domain_of, shard_at, state_of, with_stand}
use Rattle.sm_place.specs.Room.{HasRoom, load_by, load_on, count_in, is_in, names_domain, fit}
use Rattle.sm_ranges.specs.Stand.{AllNamed, names, owner_of}
use Rattle.sm_place.specs.ServerState.{is_leaving}
use Rattle.sm_place.specs.lemmas.Named.{names_one-found, names_one-named, AllNamed-at, names-owner}
use Rattle.sm_place.proofs.Sharing.{load_on-remove, load_on-with_stand}
use Rattle.sm_place.proofs.Counting.{count_in-remove, count_in-with_stand}
use Rattle.sm_place.proofs.Leaving.{IsFit-fit, cond-le}

-- if a shard fits a server, the server isn't leaving
pub stays-fit : (books : BooksView) (k a : ℕ) → fit books k a ≡ Ok tt → is_leaving (state_of books a) ≡ false
stays-fit books k a e =
    first (is_leaving (state_of books a))
    (nat_lt (row_by_id books.servers a).capacity
    (load_on (remove books.shards k) a + (shard_at books.shards k).row.load))
    (nat_lt (slice_index_or books.groups (shard_at books.shards k).row.group no_group).limit
    (count_in books.servers (remove books.shards k) (shard_at books.shards k).row.group (domain_of books.servers a)
    + 1)) e
  where
    first : (p q r : Bool)
        → ◌≡◌ {A = Result (Unit {0}) PlaceFault}
        (cond p (Err Leaving) (cond q (Err NoCapacity) (cond r (Err DomainLimit) (Ok tt)))) (Ok tt)
        → p ≡ false
    first false q r e = refl
    first true q r e = absurd (cc)

-- if a number counts only if another number counts too, it adds no more than that one
cond_within : (p q : Bool) (n : ℕ) → (p ≡ true → q ≡ true) → cond p n 0 ≤ cond q n 0
cond_within false q n h = omega arith
cond_within true true n h = omega arith
cond_within true false n h = let e = h refl in absurd (cc)

-- if the new stand names the server only if the old one does, the shard takes no more of it than before
load_by-within : (shard : Shard) (stand : Stand) (b : ℕ) → (names stand b ≡ true → names shard.stand b ≡ true)
    → load_by b (moved shard stand) ≤ load_by b shard
load_by-within shard stand b h = cond_within (names stand b) (names shard.stand b) shard.row.load h

-- if the new stand names no servers in the domain that the old one didn't name, the shard is in no more domains
is_in-within : (books : BooksView) (shard : Shard) (stand : Stand) (g d : ℕ)
    → ((b : ℕ) → names stand b ≡ true → eqb (domain_of books.servers b) d ≡ true → names shard.stand b ≡ true)
    → cond (is_in books.servers g d (moved shard stand)) 1 0 ≤ cond (is_in books.servers g d shard) 1 0
is_in-within books shard stand g d h =
    cond_within (is_in books.servers g d (moved shard stand)) (is_in books.servers g d shard) 1
    (λ e.
    let here : (b : ℕ) × ((names stand b ≡ true) × (eqb (domain_of books.servers b) d ≡ true)) =
    names_one-found (λ b. eqb (domain_of books.servers b) d) stand
    (and_parts (eqb shard.row.group g) (names_domain books.servers stand d) e).1 in
    and_from (eqb shard.row.group g) (names_domain books.servers shard.stand d)
    (and_parts (eqb shard.row.group g) (names_domain books.servers stand d) e).0
    (names_one-named (λ b. eqb (domain_of books.servers b) d) shard.stand here.0 (h here.0 here.1.0 here.1.1) here.1.1))

-- if a stand names no more servers, it leaves room
pub HasRoom-fewer : (books : BooksView) (k : ℕ) (stand : Stand) → k < length books.shards
    → HasRoom books.servers books.groups books.shards
    → AllNamed (λ b. names (shard_at books.shards k).stand b ≡ true) stand
    → HasRoom books.servers books.groups (with_stand books.shards k stand)
HasRoom-fewer books k stand inside room named =
    let s = shard_at books.shards k in
    let all : (b : ℕ) → names stand b ≡ true → names s.stand b ≡ true =
    AllNamed-at (λ b. names s.stand b ≡ true) stand named in
    record {
      capacity = λ b known.
          let own : load_by b (moved s stand) ≤ load_by b s = load_by-within s stand b (all b) in
          omega (arith, own, room.capacity b known, load_on-with_stand books.shards k b stand inside);
      limit = λ g d h.
          let own : cond (is_in books.servers g d (moved s stand)) 1 0 ≤ cond (is_in books.servers g d s) 1 0 =
          is_in-within books s stand g d (λ b n _. all b n) in
          omega (arith, own, room.limit g d h, count_in-with_stand books.servers books.shards k g d stand inside);
    }

-- if a stand names no more servers than one that fits, it leaves room
pub HasRoom-named : (books : BooksView) (k a : ℕ) (stand : Stand) → k < length books.shards
    → HasRoom books.servers books.groups books.shards
    → fit books k a ≡ Ok tt
    → AllNamed (λ b. (b ≡ a) ⊎ (names (shard_at books.shards k).stand b ≡ true)) stand
    → HasRoom books.servers books.groups (with_stand books.shards k stand)
HasRoom-named books k a stand inside room e named =
    let fits = IsFit-fit books k a e in
    let s = shard_at books.shards k in
    let all : (b : ℕ) → names stand b ≡ true → (b ≡ a) ⊎ (names s.stand b ≡ true) =
    AllNamed-at (λ b. (b ≡ a) ⊎ (names s.stand b ≡ true)) stand named in
    record {
      capacity = λ b known. elim (eqb_tells b a) [
        | inl p ↦
            let own : load_by a (moved s stand) ≤ s.row.load = cond-le (names stand a) s.row.load in
            let goal : load_on (with_stand books.shards k stand) a ≤ (row_by_id books.servers a).capacity =
            omega (
              arith,
              own,
              fits.load,
              load_on-with_stand books.shards k a stand inside,
              load_on-remove books.shards k a inside,
            ) in
            rw p.1 goal
        | inr p ↦
            let own : load_by b (moved s stand) ≤ load_by b s = load_by-within s stand b (λ n. other b p.1 (all b n)) in
            omega (arith, own, room.capacity b known, load_on-with_stand books.shards k b stand inside)
      ];
      limit = λ g d h. elim (eqb_tells s.row.group g) [
        | inl p ↦ elim (eqb_tells (domain_of books.servers a) d) [
          | inl q ↦
              let g' = s.row.group in
              let d' = domain_of books.servers a in
              let own : cond (is_in books.servers g' d' (moved s stand)) 1 0 ≤ 1 =
              cond-le (is_in books.servers g' d' (moved s stand)) 1 in
              let goal : count_in books.servers (with_stand books.shards k stand) g' d'
              ≤ (slice_index_or books.groups g' no_group).limit =
              omega (
                arith,
                own,
                fits.count,
                count_in-with_stand books.servers books.shards k g' d' stand inside,
                count_in-remove books.servers books.shards k g' d' inside,
              ) in
              rw (← p.1, ← q.1) goal
          | inr q ↦
              let own : cond (is_in books.servers g d (moved s stand)) 1 0 ≤ cond (is_in books.servers g d s) 1 0 =
              is_in-within books s stand g d
              (λ b n t. other b
              (λ same. q.1 (ap (domain_of books.servers) (sym same) ∙ eqb-true (domain_of books.servers b) d t))
              (all b n)) in
              omega (arith, own, room.limit g d h, count_in-with_stand books.servers books.shards k g d stand inside)
        ]
        | inr p ↦
            let gone : ◌≡◌ {A = ℕ} (cond (is_in books.servers g d (moved s stand)) 1 0) 0 =
            ap (λ v. cond (v && names_domain books.servers stand d) 1 0) p.0 in
            omega (arith, gone, room.limit g d h, count_in-with_stand books.servers books.shards k g d stand inside)
      ];
    }
  where
    other : (b : ℕ) → (b ≡ a → ⊥) → (b ≡ a) ⊎ (names (shard_at books.shards k).stand b ≡ true)
        → names (shard_at books.shards k).stand b ≡ true
    other b apart (inl same) = absurd (apart same)
    other b apart (inr n) = n

-- the stand that serves the shard leaves room too
pub HasRoom-serving : (books : BooksView) (k a : ℕ) → k < length books.shards
    → HasRoom books.servers books.groups books.shards → fit books k a ≡ Ok tt
    → HasRoom books.servers books.groups (with_stand books.shards k (Serving a))
HasRoom-serving books k a inside room e = HasRoom-named books k a (Serving a) inside room e (inl refl, tt)

-- the stand that prepares a server beside the owner leaves room too
pub HasRoom-prepared : (books : BooksView) (k a owner : ℕ) → k < length books.shards
    → HasRoom books.servers books.groups books.shards → fit books k a ≡ Ok tt
    → (shard_at books.shards k).stand ≡ Serving owner
    → HasRoom books.servers books.groups (with_stand books.shards k (Prepared owner a))
HasRoom-prepared books k a owner inside room e old =
    HasRoom-named books k a (Prepared owner a) inside room e
    (inr (names-owner (shard_at books.shards k).stand owner (ap owner_of old)), inl refl)
