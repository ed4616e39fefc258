-- The parts of a base are the ones of its requests, and stay while no newer base is named.
use Rattle.std.proofs.Common.{◌≡◌, ℕ, ◌<◌, ◌≤◌, Bool, true, false, List, [], ◌∷◌, ◌++◌, Option, Some, None, refl, sym}
use Rattle.std.proofs.Common.{ap, subst, ◌∙◌, arith, ⊎_elim, inl, inr}
use Rattle.std.specs.Prelude.{IsTrue, ◌==◌, ◌&&◌, ◌⊎◌, slice_get, unwrap_or, if◌then◌else◌}
use Rattle.std.specs.List.{AllByRecursion}
use Rattle.std.proofs.lemmas.Bool.{true≢false, and_parts, eqb-true, cases_Bool, cond-true, cond-false}
use Rattle.std.proofs.lemmas.Option.{none-some}
use Rattle.sm_store.specs.declared.item.Item.{Item}
use Rattle.sm_store.specs.declared.store_key.PassingKey.{PassingKey}
use Rattle.sm_store.specs.declared.store_key.PassingKey.TheVariants.{Leader, Server, Ack, Batch, Part, Other}
use Rattle.sm_store.specs.Store.{Transaction, head_of, made_until, part_at, deletes_key, same_passing, Deletes, unmade}
use Rattle.sm_store.specs.Deeds.{Charter, Deed, Electing, Expiring, Changing, Executing, Basing, Naming, Clearing}
use Rattle.sm_store.specs.Deeds.{Following, Restarting, Settling, Checking, Foreign, transaction_of, is_leased}
use Rattle.sm_store.specs.Deeds.{Resettling}
use Rattle.sm_store.specs.Deeds.{IsBehind, IsRight, AreRight}
use Rattle.sm_store.specs.lemmas.Heads.{risen_by, until_there}

pub some_or : {A : Type 0} (b : Bool) (x y : A) (o : Option A) → (if b then Some x else o) ≡ Some y
    → ((b ≡ true) × (x ≡ y)) ⊎ (o ≡ Some y)
some_or {A = A} true x y o is = inl (refl, ap (λ (q : Option A). unwrap_or q x) is)
some_or false x y o is = inr is

pub none_or : {A : Type 0} (b : Bool) (y : A) (o : Option A) → (if b then None else o) ≡ Some y → o ≡ Some y
none_or true y o is = absurd (none-some _ is)
none_or false y o is = is

-- a key isn't one of these, if each of these is of another kind
pub has_none : (key : PassingKey) (IsSuch : PassingKey → Type 0)
    → ((one : PassingKey) → IsSuch one → same_passing one key ≡ false) → (keys : List PassingKey)
    → AllByRecursion IsSuch keys → deletes_key keys key ≡ false
has_none key IsSuch apart [] all = refl
has_none key IsSuch apart (one ∷ keys) all = rw (apart one all.0) (has_none key IsSuch apart keys all.1)

module _ {Q P : Type 0} (charter : Charter Q P) (shard number place : ℕ) where
  -- the part belongs to the base of batches that are there
  pub record IsPartOf (log : List (Transaction Q P)) (part : P) : Type 0 where
    pub within : number ≤ (head_of shard log).batches
    pub is : slice_get (charter.parts (made_until shard number log)) place ≡ Some part

  -- a part that is there after a deed was there before it, or the deed writes it
  written : (log : List (Transaction Q P)) (deed : Deed Q P) (part : P) → IsRight charter log deed
      → part_at shard number place (transaction_of deed ∷ log) ≡ Some part
      → (part_at shard number place log ≡ Some part) ⊎ IsPartOf log part
  written log (Electing process) part right is = inl is
  written log (Expiring keys) part right is = inl (none_or (deletes_key keys (Part shard number place)) part _ is)
  written log (Changing process at change next elected placed) part right is = inl is
  written log (Executing at server items head stood logged) part right is = inl is
  written log (Basing at n i one) part right is =
      ⊎_elim
      (λ (here : ((at == shard && (n == number && i == place)) ≡ true) × (one ≡ part)).
      let two = and_parts (at == shard) (n == number && i == place) here.0 in
      let three = and_parts (n == number) (i == place) two.1 in
      let a = eqb-true at shard two.0 in
      let b = eqb-true n number three.0 in
      let c = eqb-true i place three.1 in
      inr (record {
        within = subst (λ (k : ℕ). number ≤ (head_of k log).batches) a
            (subst (λ (k : ℕ). k ≤ (head_of at log).batches) b right.within);
        is = subst (λ (k : ℕ). slice_get (charter.parts (made_until k number log)) place ≡ Some part) a
            (subst (λ (k : ℕ). slice_get (charter.parts (made_until at k log)) place ≡ Some part) b
            (subst (λ (k : ℕ). slice_get (charter.parts (made_until at n log)) k ≡ Some part) c
            (right.is ∙ ap Some here.1)));
      }))
      (λ (before : part_at shard number place log ≡ Some part). inl before)
      (some_or (at == shard && (n == number && i == place)) one part (part_at shard number place log) is)
  written log (Naming at head n parts logged) part right is = inl is
  written log (Clearing keys) part right is = inl (none_or (deletes_key keys (Part shard number place)) part _ is)
  written log (Restarting process server run elected placed) part right is = inl is
  written log (Settling settings) part right is = inl is
  written log (Resettling process settings elected placed) part right is = inl is
  written log (Following server revision acks told) part right is = inl is
  written log (Checking compares) part right is = inl is
  written log Foreign part right is = inl is

  part_grows : (txn : Transaction Q P) (earlier : List (Transaction Q P)) (part : P) → AreRight charter (txn ∷ earlier)
      → IsPartOf earlier part → IsPartOf (txn ∷ earlier) part
  part_grows txn earlier part right was =
      let within = was.within in
      let more = risen_by charter shard txn earlier right in let b = more.batches in
      record {
        within = omega arith;
        is = ap (λ (items : List (Item Q)). slice_get (charter.parts items) place)
            (until_there charter shard number txn earlier was.within) ∙ was.is;
      }

  -- each part that is there belongs to the base
  pub part_is : (log : List (Transaction Q P)) (part : P) → AreRight charter log
      → part_at shard number place log ≡ Some part → IsPartOf log part
  part_is [] part right is = absurd (none-some _ is)
  part_is (txn ∷ earlier) part right is =
      part_grows txn earlier part right
      (⊎_elim
      (λ (before : part_at shard number place earlier ≡ Some part). part_is earlier part right.1 before)
      (λ (now : IsPartOf earlier part). now)
      (written earlier right.0.deed part right.0.right
      (subst (λ (t : Transaction Q P). part_at shard number place (t ∷ earlier) ≡ Some part) right.0.is is)))

  abbrev pub HasPart : List (Transaction Q P) → Type 0
  HasPart log = (part : P) × (part_at shard number place log ≡ Some part)

  kept : (log : List (Transaction Q P)) (keys : List PassingKey) → deletes_key keys (Part shard number place) ≡ false
      → HasPart log → HasPart (unmade [] (Deletes keys ∷ []) ∷ log)
  kept log keys apart has = (
    has.0,
    cond-false (deletes_key keys (Part shard number place)) None (part_at shard number place log) apart
        ∙ has.1,
  )

  leased_apart : (key : PassingKey) → is_leased key ≡ true → same_passing key (Part shard number place) ≡ false
  leased_apart Leader leased = refl
  leased_apart (Server server) leased = refl
  leased_apart (Ack at by) leased = refl
  leased_apart (Batch at n) leased = refl
  leased_apart (Part at n i) leased = absurd (true≢false (sym leased))
  leased_apart Other leased = refl

  behind_apart : (log : List (Transaction Q P)) (key : PassingKey) → IsBehind charter log key
      → (head_of shard log).base ≤ number → same_passing key (Part shard number place) ≡ false
  behind_apart log (Part at n i) behind newest =
      ⊎_elim
      (λ (yes : same_passing (Part at n i) (Part shard number place) ≡ true).
      let two = and_parts (at == shard) (n == number && i == place) yes in
      let three = and_parts (n == number) (i == place) two.1 in
      let a = eqb-true at shard two.0 in
      let b = eqb-true n number three.0 in
      let less : n < (head_of shard log).base = subst (λ (k : ℕ). n < (head_of k log).base) a behind in
      absurd (omega arith))
      (λ (no : same_passing (Part at n i) (Part shard number place) ≡ false). no)
      (cases_Bool (same_passing (Part at n i) (Part shard number place)))
  behind_apart log (Batch at n) behind newest = refl
  behind_apart log Leader behind newest = refl
  behind_apart log (Server server) behind newest = refl
  behind_apart log (Ack at by) behind newest = refl
  behind_apart log Other behind newest = refl

  stays_one : (log : List (Transaction Q P)) (deed : Deed Q P) → IsRight charter log deed
      → (head_of shard log).base ≤ number → HasPart log → HasPart (transaction_of deed ∷ log)
  stays_one log (Electing process) right newest has = has
  stays_one log (Expiring keys) right newest has =
      kept log keys (has_none (Part shard number place) (λ key. IsTrue (is_leased key)) leased_apart keys right) has
  stays_one log (Changing process at change next elected placed) right newest has = has
  stays_one log (Executing at server items head stood logged) right newest has = has
  stays_one log (Basing at n i one) right newest has =
      let here = at == shard && (n == number && i == place) in
      ⊎_elim
      (λ (yes : here ≡ true). (one, cond-true here (Some one) (part_at shard number place log) yes))
      (λ (no : here ≡ false). (has.0, cond-false here (Some one) (part_at shard number place log) no ∙ has.1))
      (cases_Bool here)
  stays_one log (Naming at head n parts logged) right newest has = has
  stays_one log (Clearing keys) right newest has =
      kept log keys (has_none (Part shard number place) (IsBehind charter log)
      (λ key behind. behind_apart log key behind newest) keys right) has
  stays_one log (Restarting process server run elected placed) right newest has = has
  stays_one log (Settling settings) right newest has = has
  stays_one log (Resettling process settings elected placed) right newest has = has
  stays_one log (Following server revision acks told) right newest has = has
  stays_one log (Checking compares) right newest has = has
  stays_one log Foreign right newest has = has

  pub part_stays_one : (txn : Transaction Q P) (earlier : List (Transaction Q P)) → AreRight charter (txn ∷ earlier)
      → (head_of shard earlier).base ≤ number → HasPart earlier → HasPart (txn ∷ earlier)
  part_stays_one txn earlier right newest has =
      subst (λ (t : Transaction Q P). HasPart (t ∷ earlier)) (sym right.0.is)
      (stays_one earlier right.0.deed right.0.right newest has)

  -- a part that was there is still there, while no newer base is named
  pub part_stays : (later past : List (Transaction Q P)) → AreRight charter (later ++ past)
      → (head_of shard (later ++ past)).base ≤ number → HasPart past → HasPart (later ++ past)
  part_stays [] past right newest has = has
  part_stays (txn ∷ later) past right newest has =
      let more = risen_by charter shard txn (later ++ past) right in let b = more.base in
      part_stays_one txn (later ++ past) right (omega arith) (part_stays later past right.1 (omega arith) has)
