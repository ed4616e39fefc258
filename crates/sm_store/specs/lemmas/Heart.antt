-- If a compare holds, the value that was read is still the store's value.
use Rattle.std.proofs.Common.{◌≡◌, ℕ, ◌<◌, ◌≤◌, Bool, true, false, List, [], ◌∷◌, ◌++◌, refl, sym, ap}
use Rattle.std.proofs.Common.{subst, ◌∙◌, arith, ⊎_elim, inl, inr}
use Rattle.std.specs.Prelude.{◌==◌, ◌||◌, ◌⊎◌, if◌then◌else◌}
use Rattle.std.specs.List.{AllByRecursion, list_any}
use Rattle.std.proofs.lemmas.Bool.{true≢false, and_parts, eqb-true, or_cases, cond-true, cond-false, cases_Bool}
use Rattle.sm_store.specs.declared.compare.Compare.{Compare}
use Rattle.sm_store.specs.declared.store_key.PassingKey.{PassingKey}
use Rattle.sm_store.specs.declared.store_key.StoreKey.{StoreKey}
use Rattle.sm_store.specs.declared.store_key.StoreKey.TheVariants.{Lasting, Passing}
use Rattle.sm_store.specs.Store.{Transaction, Write, Leads, Stands, Heads, Executes, Bases, Enters, Commands, Settles}
use Rattle.sm_store.specs.Store.{Follows, Acks, Deletes, Elsewhere}
use Rattle.sm_store.specs.Store.{all_hold, same_store_key, is_write_of, is_deletion, left_by, revised, revision_of}
use Rattle.sm_store.specs.Store.{IsRising, last_revision, touches}
use Rattle.sm_store.specs.Deeds.{WasFound, at}

-- the key is never deleted
abbrev pub is_lasting : StoreKey → Bool
is_lasting (Lasting key) = true
is_lasting (Passing key) = false

tail_of : {A : Type 0} → List A → List A
tail_of [] = []
tail_of (x ∷ xs) = xs

or_neither : (a b : Bool) → (a || b) ≡ false → (a ≡ false) × (b ≡ false)
or_neither true b none = absurd (true≢false none)
or_neither false b none = (refl, none)

-- a compare of this revision says something of the key: the key is never deleted, or is there
abbrev pub IsTelling : StoreKey → ℕ → Type 0
IsTelling key revision = (is_lasting key ≡ true) ⊎ (0 < revision)

-- a write of the key gives it this revision, or deletes it, if it may be deleted
abbrev pub IsRevised : StoreKey → ℕ → ℕ → Type 0
IsRevised key now left = (left ≡ now) ⊎ ((left ≡ 0) × (is_lasting key ≡ false))

-- a key that is deleted is one that may be deleted
pub deleted_apart : (keys : List PassingKey) (key : StoreKey)
    → list_any (λ one. same_store_key (Passing one) key) keys ≡ true → is_lasting key ≡ false
deleted_apart [] key same = absurd (true≢false (sym same))
deleted_apart (one ∷ keys) (Lasting key) same = deleted_apart keys (Lasting key) same
deleted_apart (one ∷ keys) (Passing key) same = refl

module _ {Q P : Type 0} where
  -- no write of another key changes the view
  abbrev pub IsViewOf : {A : Type 0} → (List (Transaction Q P) → A) → StoreKey → Type 0
  IsViewOf view key =
      (txn : Transaction Q P) (earlier : List (Transaction Q P)) → touches key txn.writes ≡ false
      → view (txn ∷ earlier) ≡ view earlier

  -- no write of another key by such a transaction changes the view
  abbrev pub IsViewAmong : {A : Type 0} → (Transaction Q P → Type 0) → (List (Transaction Q P) → A) → StoreKey → Type 0
  IsViewAmong IsSuch view key =
      (txn : Transaction Q P) (earlier : List (Transaction Q P)) → IsSuch txn → touches key txn.writes ≡ false
      → view (txn ∷ earlier) ≡ view earlier

  pub apart_writes : (key : StoreKey) (write : Write Q P) (writes : List (Write Q P)) → touches key (write ∷ writes)
      ≡ false
      → (is_write_of key write ≡ false) × (touches key writes ≡ false)
  apart_writes key write writes apart = or_neither (is_write_of key write) (touches key writes) apart

  revised_one : (key : StoreKey) (now before : ℕ) (write : Write Q P) → is_write_of key write ≡ true
      → IsRevised key now (revised key now before write)
  revised_one key now before (Leads process) same = inl (cond-true _ now before same)
  revised_one key now before (Stands process shard change next) same = inl (cond-true _ now before same)
  revised_one key now before (Heads shard head) same = inl (cond-true _ now before same)
  revised_one key now before (Executes shard number server items) same = inl (cond-true _ now before same)
  revised_one key now before (Bases shard number place part) same = inl (cond-true _ now before same)
  revised_one key now before (Enters process name run) same = inl (cond-true _ now before same)
  revised_one key now before (Commands process) same = inl (cond-true _ now before same)
  revised_one key now before (Settles settings) same = inl (cond-true _ now before same)
  revised_one key now before (Follows server revision) same = inl (cond-true _ now before same)
  revised_one key now before (Acks server acks) same = inl (cond-true _ now before same)
  revised_one key now before (Deletes keys) same =
      let deleted = list_any (λ (one : PassingKey). same_store_key (Passing one) key) keys in
      inr (cond-true deleted 0 before same, deleted_apart keys key same)
  revised_one key now before Elsewhere same = inl (cond-true _ now before same)

  revised_alone : (key : StoreKey) (now before : ℕ) (writes : List (Write Q P)) → touches key writes ≡ false
      → left_by (revised key now) before writes ≡ before
  revised_alone key now before [] apart = refl
  revised_alone key now before (write ∷ writes) apart =
      let parts = apart_writes key write writes apart in
      revised_alone key now (revised key now before write) writes parts.1
      ∙ cond-false (is_write_of key write) (if is_deletion write then 0 else now) before parts.0

  revised_by : (key : StoreKey) (now before : ℕ) (writes : List (Write Q P)) → touches key writes ≡ true
      → IsRevised key now (left_by (revised key now) before writes)
  revised_by key now before [] touched = absurd (true≢false (sym touched))
  revised_by key now before (write ∷ writes) touched =
      ⊎_elim
      (λ (yes : touches key writes ≡ true). revised_by key now (revised key now before write) writes yes)
      (λ (no : touches key writes ≡ false).
      let here : is_write_of key write ≡ true = ⊎_elim
      (λ (same : is_write_of key write ≡ true). same)
      (λ (rest : touches key writes ≡ true). absurd (true≢false (sym rest ∙ no)))
      (or_cases (is_write_of key write) (touches key writes) touched) in
      subst (IsRevised key now) (sym (revised_alone key now (revised key now before write) writes no))
      (revised_one key now before write here))
      (cases_Bool (touches key writes))

  revision_within : (key : StoreKey) (log : List (Transaction Q P)) → IsRising log
      → revision_of key log ≤ last_revision log
  revision_within key [] rising = omega arith
  revision_within key (txn ∷ earlier) rising =
      let before = revision_within key earlier rising.1 in
      let above = rising.0 in
      ⊎_elim
      (λ (yes : touches key txn.writes ≡ true).
      ⊎_elim
      (λ (now : revision_of key (txn ∷ earlier) ≡ txn.revision). omega arith)
      (λ (gone : (revision_of key (txn ∷ earlier) ≡ 0) × (is_lasting key ≡ false)). let zero = gone.0 in omega arith)
      (revised_by key txn.revision (revision_of key earlier) txn.writes yes))
      (λ (no : touches key txn.writes ≡ false).
      let same = revised_alone key txn.revision (revision_of key earlier) txn.writes no in omega arith)
      (cases_Bool (touches key txn.writes))

  -- revisions rose until any moment, and from then on
  rising_past : (later past : List (Transaction Q P)) → IsRising (later ++ past) → IsRising past
  rising_past [] past rising = rising
  rising_past (txn ∷ later) past rising = rising_past later past rising.1

  rises : (later past : List (Transaction Q P)) → IsRising (later ++ past)
      → last_revision past ≤ last_revision (later ++ past)
  rises [] past rising = omega arith
  rises (txn ∷ later) past rising =
      let before = rises later past rising.1 in let above = rising.0 in omega arith

  -- a key whose revision is the same at two moments was not written between them
  pub unwritten_among : {A : Type 0} (IsSuch : Transaction Q P → Type 0) (view : List (Transaction Q P) → A)
      (key : StoreKey) → IsViewAmong IsSuch view key → (later past : List (Transaction Q P))
      → IsRising (later ++ past) → AllByRecursion IsSuch later → IsTelling key (revision_of key past)
      → revision_of key (later ++ past) ≡ revision_of key past → view (later ++ past) ≡ view past
  unwritten_among IsSuch view key local [] past rising all telling same = refl
  unwritten_among IsSuch view key local (txn ∷ later) past rising all telling same =
      ⊎_elim
      (λ (yes : touches key txn.writes ≡ true).
      ⊎_elim
      (λ (now : revision_of key (txn ∷ later ++ past) ≡ txn.revision).
      let within = revision_within key past (rising_past later past rising.1) in
      let more = rises later past rising.1 in
      let above = rising.0 in
      absurd (omega arith))
      (λ (gone : (revision_of key (txn ∷ later ++ past) ≡ 0) × (is_lasting key ≡ false)).
      ⊎_elim
      (λ (lasts : is_lasting key ≡ true). absurd (true≢false (sym lasts ∙ gone.1)))
      (λ (there : 0 < revision_of key past). let zero = gone.0 in absurd (omega arith))
      telling)
      (revised_by key txn.revision (revision_of key (later ++ past)) txn.writes yes))
      (λ (no : touches key txn.writes ≡ false).
      let alone = revised_alone key txn.revision (revision_of key (later ++ past)) txn.writes no in
      local txn (later ++ past) all.0 no
      ∙ unwritten_among IsSuch view key local later past rising.1 all.1 telling (sym alone ∙ same))
      (cases_Bool (touches key txn.writes))

  such : (log : List (Transaction Q P)) → AllByRecursion (λ (txn : Transaction Q P). Unit {0}) log
  such [] = tt
  such (txn ∷ log) = (tt, such log)

  pub unwritten : {A : Type 0} (view : List (Transaction Q P) → A) (key : StoreKey) → IsViewOf view key
      → (later past : List (Transaction Q P)) → IsRising (later ++ past) → IsTelling key (revision_of key past)
      → revision_of key (later ++ past) ≡ revision_of key past → view (later ++ past) ≡ view past
  unwritten view key local later past rising telling same =
      unwritten_among (λ (txn : Transaction Q P). Unit {0}) view key (λ txn earlier any apart. local txn earlier apart)
      later past rising (such later) telling same

  all_front : (IsSuch : Transaction Q P → Type 0) (later past : List (Transaction Q P))
      → AllByRecursion IsSuch (later ++ past) → AllByRecursion IsSuch later
  all_front IsSuch [] past all = tt
  all_front IsSuch (txn ∷ later) past all = (all.0, all_front IsSuch later past all.1)

  -- a value that was read is still there, if all transactions are of this kind, and if its key's revision is the one
  -- that was read
  pub stands_among : {A : Type 0} (IsSuch : Transaction Q P → Type 0) (view : List (Transaction Q P) → A)
      (key : StoreKey) → IsViewAmong IsSuch view key → (log : List (Transaction Q P)) (value : A) (revision : ℕ)
      → IsRising log → AllByRecursion IsSuch log → IsTelling key revision → WasFound view key log value revision
      → revision_of key log ≡ revision → view log ≡ value
  stands_among IsSuch view key local log value revision rising all telling found now =
      let same : revision_of key (found.later ++ found.past) ≡ revision_of key found.past =
      ap (revision_of key) (sym found.is) ∙ now ∙ sym found.at in
      ap view found.is
      ∙ unwritten_among IsSuch view key local found.later found.past (subst IsRising found.is rising)
      (all_front IsSuch found.later found.past (subst (AllByRecursion IsSuch) found.is all))
      (subst (IsTelling key) (sym found.at) telling) same
      ∙ found.was

  -- a value that was read is still there if its key's revision is the one that was read
  pub stands : {A : Type 0} (view : List (Transaction Q P) → A) (key : StoreKey) → IsViewOf view key
      → (log : List (Transaction Q P)) (value : A) (revision : ℕ) → IsRising log → IsTelling key revision
      → WasFound view key log value revision → revision_of key log ≡ revision → view log ≡ value
  stands view key local log value revision rising telling found now =
      let same : revision_of key (found.later ++ found.past) ≡ revision_of key found.past =
      ap (revision_of key) (sym found.is) ∙ now ∙ sym found.at in
      ap view found.is
      ∙ unwritten view key local found.later found.past (subst IsRising found.is rising)
      (subst (IsTelling key) (sym found.at) telling) same
      ∙ found.was

  -- of two ends of one list, one is an end of the other
  pub ends : (xs ys a b : List (Transaction Q P)) → xs ++ a ≡ ys ++ b
      → ((more : List (Transaction Q P)) × (a ≡ more ++ b)) ⊎ ((more : List (Transaction Q P)) × (b ≡ more ++ a))
  unfolding tail_of
  ends [] ys a b same = inl (ys, same)
  ends (x ∷ xs) [] a b same = inr (x ∷ xs, sym same)
  ends (x ∷ xs) (y ∷ ys) a b same = ends xs ys a b (ap tail_of same)

  all_back : (IsSuch : Transaction Q P → Type 0) (later past : List (Transaction Q P))
      → AllByRecursion IsSuch (later ++ past) → AllByRecursion IsSuch past
  all_back IsSuch [] past all = all
  all_back IsSuch (txn ∷ later) past all = all_back IsSuch later past all.1

  -- a value that was read was there at each moment at which its key's revision was the one that was read
  pub stood_among :
      {A : Type 0} (IsSuch : Transaction Q P → Type 0) (view : List (Transaction Q P) → A) (key : StoreKey)
      → IsViewAmong IsSuch view key → (log : List (Transaction Q P)) (value : A) (revision : ℕ)
      → IsRising log → AllByRecursion IsSuch log → IsTelling key revision
      → WasFound view key log value revision → (later past : List (Transaction Q P)) → log ≡ later ++ past
      → revision_of key past ≡ revision → view past ≡ value
  stood_among IsSuch view key local log value revision rising all telling found later past is at =
      ⊎_elim
      (λ (longer : (more : List (Transaction Q P)) × (found.past ≡ more ++ past)).
      let same : revision_of key (longer.0 ++ past) ≡ revision_of key past =
      ap (revision_of key) (sym longer.1) ∙ found.at ∙ sym at in
      let such_more : AllByRecursion IsSuch longer.0 =
      all_front IsSuch longer.0 past (subst (AllByRecursion IsSuch) longer.1
      (all_back IsSuch found.later found.past (subst (AllByRecursion IsSuch) found.is all))) in
      let rose : IsRising (longer.0 ++ past) =
      subst IsRising longer.1 (rising_past found.later found.past (subst IsRising found.is rising)) in
      sym (unwritten_among IsSuch view key local longer.0 past rose such_more
      (subst (IsTelling key) (sym at) telling) same)
      ∙ ap view (sym longer.1) ∙ found.was)
      (λ (shorter : (more : List (Transaction Q P)) × (past ≡ more ++ found.past)).
      let same : revision_of key (shorter.0 ++ found.past) ≡ revision_of key found.past =
      ap (revision_of key) (sym shorter.1) ∙ at ∙ sym found.at in
      let such_more : AllByRecursion IsSuch shorter.0 =
      all_front IsSuch shorter.0 found.past (subst (AllByRecursion IsSuch) shorter.1
      (all_back IsSuch later past (subst (AllByRecursion IsSuch) is all))) in
      let rose : IsRising (shorter.0 ++ found.past) =
      subst IsRising shorter.1 (rising_past later past (subst IsRising is rising)) in
      ap view shorter.1
      ∙ unwritten_among IsSuch view key local shorter.0 found.past rose such_more
      (subst (IsTelling key) (sym found.at) telling) same
      ∙ found.was)
      (ends found.later later found.past past (sym found.is ∙ is))

  pub stood_then : {A : Type 0} (view : List (Transaction Q P) → A) (key : StoreKey) → IsViewOf view key
      → (log : List (Transaction Q P)) (value : A) (revision : ℕ) → IsRising log → IsTelling key revision
      → WasFound view key log value revision → (later past : List (Transaction Q P)) → log ≡ later ++ past
      → revision_of key past ≡ revision → view past ≡ value
  stood_then view key local log value revision rising telling found later past is at =
      stood_among (λ (txn : Transaction Q P). Unit {0}) view key (λ txn earlier any apart. local txn earlier apart)
      log value revision rising (such log) telling found later past is at

  -- one compare of a transaction held, or both
  pub first_held : (log : List (Transaction Q P)) (a : StoreKey) (m : ℕ) (rest : List Compare)
      → all_hold log (at a m ∷ rest) ≡ true → (revision_of a log ≡ m) × (all_hold log rest ≡ true)
  first_held log a m rest held =
      let parts = and_parts (revision_of a log == m) (all_hold log rest) held in
      (eqb-true (revision_of a log) m parts.0, parts.1)
