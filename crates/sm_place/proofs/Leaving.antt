-- The servers of rows, and the room on a server that a shard fits.
use Rattle.std.proofs.Common.{ℕ, ◌+◌, ◌<◌, ◌≤◌, ◌≡◌, Bool, true, false, cond, eqb, ltb, List, length, get_or}
use Rattle.std.proofs.Common.{Result, Ok, Err, refl, sym, ◌∙◌, arith, inl, inr}
use Rattle.std.specs.Prelude.{slice_index_or, remove}
use Rattle.std.proofs.lemmas.Bool.{eq-eqb, ltb-false}
use Rattle.std.proofs.lemmas.List.Sums.{fails_before_first}
use Rattle.sm_rows.specs.declared.server_row.ServerRow.{ServerRow}
use Rattle.sm_place.specs.declared.place_fault.PlaceFault.{PlaceFault}
use Rattle.sm_place.specs.declared.place_fault.PlaceFault.TheVariants.{Leaving, NoCapacity, DomainLimit}
use Rattle.sm_place.specs.Books.{BooksView, no_server, no_group, IsKnown, place_of, row_by_id, domain_of, shard_at}
use Rattle.sm_place.specs.Books.{state_of}
use Rattle.sm_place.specs.Room.{load_on, count_in, fit}
use Rattle.sm_place.specs.ServerState.{is_leaving}
use Rattle.sm_place.proofs.Placing.{split}

-- the server of a row is known
pub known_at : (servers : List ServerRow) (i : ℕ) → i < length servers → IsKnown servers (get_or servers i no_server).id
known_at servers i h =
    let a = (get_or servers i no_server).id in
    elim (split i (place_of servers a)) [
      | inl p ↦ let fails : eqb a a ≡ false = fails_before_first (λ row. eqb row.id a) servers i no_server p in
          let passes : eqb a a ≡ true = eq-eqb a a refl in
          let f : false ≡ true = sym fails ∙ passes in absurd (cc)
      | inr p ↦ omega arith
    ]

-- the tests of fit, if it answers Ok
pub record IsFit (books : BooksView) (k a : ℕ) : Type 0 where
  pub load :
      load_on (remove books.shards k) a + (shard_at books.shards k).row.load ≤ (row_by_id books.servers a).capacity
  pub count :
      count_in books.servers (remove books.shards k) (shard_at books.shards k).row.group (domain_of books.servers a) + 1
      ≤ (slice_index_or books.groups (shard_at books.shards k).row.group no_group).limit

pub IsFit-fit : (books : BooksView) (k a : ℕ) → fit books k a ≡ Ok tt → IsFit books k a
IsFit-fit books k a e =
    let t = three (is_leaving (state_of books a))
    (ltb (row_by_id books.servers a).capacity (load_on (remove books.shards k) a + (shard_at books.shards k).row.load))
    (ltb (slice_index_or books.groups (shard_at books.shards k).row.group no_group).limit
    (count_in books.servers (remove books.shards k) (shard_at books.shards k).row.group (domain_of books.servers a)
    + 1)) e in
    record { load = ltb-false _ _ t.0; count = ltb-false _ _ t.1 }
  where
    three : (p q r : Bool)
        → ◌≡◌ {A = Result (Unit {0}) PlaceFault}
        (cond p (Err Leaving) (cond q (Err NoCapacity) (cond r (Err DomainLimit) (Ok tt))))
        (Ok tt) → (q ≡ false) × (r ≡ false)
    three true q r e = absurd (cc)
    three false true r e = absurd (cc)
    three false false true e = absurd (cc)
    three false false false e = (refl, refl)

pub cond-le : (p : Bool) (n : ℕ) → cond p n 0 ≤ n
cond-le true n = omega arith
cond-le false n = omega arith
