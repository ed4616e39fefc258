-- The books stay tallied when a stand changes.
use Rattle.std.proofs.Common.{ℕ, ◌<◌, ◌≡◌, List, [], ◌∷◌, ◌++◌, length, take, refl, ap, sym, ◌∙◌, arith, inl, inr}
use Rattle.std.proofs.Common.{subst}
use Rattle.std.proofs.lemmas.Bool.Decides.{eqb_tells}
use Rattle.sm_ranges.specs.declared.stand.Stand.{Stand}
use Rattle.sm_rows.specs.declared.server_row.ServerRow.{ServerRow}
use Rattle.sm_rows.specs.declared.group_row.GroupRow.{GroupRow}
use Rattle.sm_place.specs.declared.shard.Shard.{Shard}
use Rattle.sm_place.specs.declared.server_state.ServerState.{ServerState}
use Rattle.sm_place.specs.Counters.{HasRows, HasLoads, HasCounts, IsTallied}
use Rattle.sm_place.specs.Ranks.{Ranking}
use Rattle.sm_ranges.specs.Stand.{AllNamed}
use Rattle.sm_place.specs.Books.{moved, IsKnown, shard_at, with_stand}
use Rattle.sm_place.specs.Room.{HasRoom}
use Rattle.sm_place.specs.lemmas.Changed.{length-with_stand, shard_at-other, shard_at-same}

-- a vector whose slice was written has the written elements
pub take-all : (xs ys : List ℕ) (n : ℕ) → n ≡ length xs → take n (xs ++ ys) ≡ xs
take-all [] ys n e = rw e refl
take-all (x ∷ xs) ys n e = rw e (ap (λ v. x ∷ v) (take-all xs ys (length xs) refl))

pub HasRows-with_stand :
    (servers : List ServerRow) (groups : List GroupRow) (shards : List Shard) (k : ℕ) (stand : Stand)
    → k < length shards → AllNamed (IsKnown servers) stand → HasRows servers groups shards
    → HasRows servers groups (with_stand shards k stand)
HasRows-with_stand servers groups shards k stand inside known rows = record {
  count = rw (length-with_stand shards k stand) rows.count;
  group = λ j h. elim (eqb_tells j k) [
    | inl p ↦ let e : shard_at (with_stand shards k stand) j ≡ moved (shard_at shards k) stand =
        ap (shard_at (with_stand shards k stand)) p.1 ∙ shard_at-same shards k stand inside in
        rw e (rows.group k inside)
    | inr p ↦ let e = shard_at-other shards k j stand p.1 in let h' : j < length shards =
        omega (arith, length-with_stand shards k stand) in rw e (rows.group j h')
  ];
  known = λ j h. elim (eqb_tells j k) [
    | inl p ↦ let e : shard_at (with_stand shards k stand) j ≡ moved (shard_at shards k) stand =
        ap (shard_at (with_stand shards k stand)) p.1
        ∙ shard_at-same shards k stand inside in subst (λ (s : Shard). AllNamed (IsKnown servers) s.stand) (sym e) known
    | inr p ↦ let e = shard_at-other shards k j stand p.1 in let h' : j < length shards =
        omega (arith, length-with_stand shards k stand) in
        subst (λ (s : Shard). AllNamed (IsKnown servers) s.stand) (sym e) (rows.known j h')
  ];
}

pub IsTallied-with_stand :
    (servers : List ServerRow) (groups : List GroupRow) (shards : List Shard) (states : List ServerState)
    (loads counts loads' counts' : List ℕ) (r : Ranking) (k : ℕ) (stand : Stand)
    → k < length shards → AllNamed (IsKnown servers) stand → HasRoom servers groups (with_stand shards k stand)
    → IsTallied servers groups shards states loads counts r
    → HasLoads servers (with_stand shards k stand) loads'
    → HasCounts servers (with_stand shards k stand) counts' r
    → length counts' ≡ length counts
    → IsTallied servers groups (with_stand shards k stand) states loads' counts' r
IsTallied-with_stand servers groups shards states loads counts loads' counts' r k stand inside known room tallied
    has_loads has_counts e =
    record {
      has_ranges = tallied.has_ranges;
      has_rows = HasRows-with_stand servers groups shards k stand inside known tallied.has_rows;
      has_room = room;
      has_loads = has_loads;
      counts_len = e ∙ tallied.counts_len;
      has_counts = has_counts;
    }
