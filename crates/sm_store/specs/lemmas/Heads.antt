-- The head of a log only rises, and the requests of its first batches never change.
use Rattle.std.proofs.Common.{◌≡◌, ℕ, ◌+◌, ◌≤◌, Bool, true, false, List, [], ◌∷◌, ◌++◌, refl, sym, ap, subst, ◌∙◌}
use Rattle.std.proofs.Common.{arith, ⊎_elim, inl, inr, append-nil}
use Rattle.std.specs.Prelude.{nat_lt, ◌==◌, ◌⊎◌, if◌then◌else◌}
use Rattle.std.proofs.lemmas.Bool.{eqb-true, cases_Bool, cond_both, cond-true, cond-false, lt-ltb, le-ltb}
use Rattle.sm_store.specs.declared.head.Head.{Head}
use Rattle.sm_store.specs.declared.item.Item.{Item}
use Rattle.sm_store.specs.Store.{Transaction, Write, head_key, head_of, made, made_by, made_until, executed_by, touches}
use Rattle.sm_store.specs.Deeds.{Charter, Deed, Electing, Expiring, Changing, Executing, Basing, Naming, Clearing}
use Rattle.sm_store.specs.Deeds.{Following, Restarting, Settling, Checking, Foreign, transaction_of, HasRequests}
use Rattle.sm_store.specs.Deeds.{Resettling}
use Rattle.sm_store.specs.Deeds.{IsRight, AreRight, ShardLog}

-- there are at least as many batches, and the base isn't older
pub record IsRisen (old new : Head) : Type 0 where
  pub batches : old.batches ≤ new.batches
  pub base : old.base ≤ new.base

risen_same : (head : Head) → IsRisen head head
risen_same head = record { batches = omega arith; base = omega arith }

-- a head after a step that adds one batch, or none
abbrev pub GoesOn : {Q : Type 0} → Head → Head → List (Item Q) → Type 0
GoesOn old new items = (items ≡ []) ⊎ (new.batches ≡ old.batches + 1)

no_items : {A : Type 0} (b : Bool) (items : List A) → items ≡ [] → (if b then items else []) ≡ []
no_items true items none = none
no_items false items none = refl

module _ {Q P : Type 0} (charter : Charter Q P) (shard : ℕ) where
  abbrev before : List (Transaction Q P) → Head
  before log = head_of shard log

  abbrev since : List (Transaction Q P) → Deed Q P → Head
  since log deed = head_of shard (transaction_of deed ∷ log)

  risen_one : (log : List (Transaction Q P)) (deed : Deed Q P) → IsRight charter log deed
      → IsRisen (before log) (since log deed)
  risen_one log (Electing process) right = risen_same (before log)
  risen_one log (Expiring keys) right = risen_same (before log)
  risen_one log (Changing process at change next elected placed) right = risen_same (before log)
  risen_one log (Executing at server items head stood logged) right =
      cond_both (at == shard) (record { batches = head.batches + 1; base = head.base; parts = head.parts }) (before log)
      (IsRisen (before log))
      (λ same. let k = eqb-true at shard same in
      let is : head_of shard log ≡ head = subst (λ (n : ℕ). head_of n log ≡ head) k right.head_is in
      subst (λ (h : Head). IsRisen h (record { batches = head.batches + 1; base = head.base; parts = head.parts }))
      (sym is)
      (record { batches = omega arith; base = omega arith }))
      (λ apart. risen_same (before log))
  risen_one log (Basing at number place part) right = risen_same (before log)
  risen_one log (Naming at head number parts logged) right =
      cond_both (at == shard) (record { batches = head.batches; base = number; parts = parts }) (before log)
      (IsRisen (before log))
      (λ same. let k = eqb-true at shard same in
      let is : head_of shard log ≡ head = subst (λ (n : ℕ). head_of n log ≡ head) k right.head_is in
      let newer = right.newer in
      subst (λ (h : Head). IsRisen h (record { batches = head.batches; base = number; parts = parts })) (sym is)
      (record { batches = omega arith; base = omega arith }))
      (λ apart. risen_same (before log))
  risen_one log (Clearing keys) right = risen_same (before log)
  risen_one log (Restarting process server run elected placed) right = risen_same (before log)
  risen_one log (Settling settings) right = risen_same (before log)
  risen_one log (Resettling process settings elected placed) right = risen_same (before log)
  risen_one log (Following server revision acks told) right = risen_same (before log)
  risen_one log (Checking compares) right = risen_same (before log)
  risen_one log Foreign right = risen_same (before log)

  pub risen_by : (txn : Transaction Q P) (earlier : List (Transaction Q P)) → AreRight charter (txn ∷ earlier)
      → IsRisen (head_of shard earlier) (head_of shard (txn ∷ earlier))
  risen_by txn earlier right =
      subst (λ (t : Transaction Q P). IsRisen (head_of shard earlier) (head_of shard (t ∷ earlier))) (sym right.0.is)
      (risen_one earlier right.0.deed right.0.right)

  pub right_past : (later past : List (Transaction Q P)) → AreRight charter (later ++ past) → AreRight charter past
  right_past [] past right = right
  right_past (txn ∷ later) past right = right_past later past right.1

  pub risen : (later past : List (Transaction Q P)) → AreRight charter (later ++ past)
      → IsRisen (head_of shard past) (head_of shard (later ++ past))
  risen [] past right = risen_same (head_of shard past)
  risen (txn ∷ later) past right =
      let first = risen later past right.1 in
      let last = risen_by txn (later ++ past) right in
      let a = first.batches in let b = last.batches in let c = first.base in let d = last.base in
      record { batches = omega arith; base = omega arith }

  no_made : (writes : List (Write Q P)) → executed_by shard writes ≡ [] → made_by shard writes ≡ []
  no_made writes none = no_items (touches (head_key shard) writes) (executed_by shard writes) none

  goes_one : (log : List (Transaction Q P)) (deed : Deed Q P) → IsRight charter log deed
      → GoesOn (before log) (since log deed) (made_by shard (transaction_of deed).writes)
  goes_one log (Electing process) right = inl (no_made (transaction_of {Q = Q} {P = P} (Electing process)).writes refl)
  goes_one log (Expiring keys) right = inl (no_made (transaction_of {Q = Q} {P = P} (Expiring keys)).writes refl)
  goes_one log (Changing process at change next elected placed) right =
      inl (no_made (transaction_of {Q = Q} {P = P} (Changing process at change next elected placed)).writes refl)
  goes_one log (Executing at server items head stood logged) right =
      ⊎_elim
      (λ (same : (at == shard) ≡ true).
      let k = eqb-true at shard same in
      let is : head_of shard log ≡ head = subst (λ (n : ℕ). head_of n log ≡ head) k right.head_is in
      inr (ap (λ (h : Head). h.batches) (cond-true (at == shard) (record {
        batches = head.batches + 1;
        base =
            head.base;
        parts = head.parts;
      }) (before log) same)
      ∙ ap (λ (h : Head). h.batches + 1) (sym is)))
      (λ (apart : (at == shard) ≡ false). inl (rw apart refl))
      (cases_Bool (at == shard))
  goes_one log (Basing at number place part) right = inl (no_made
      (transaction_of {Q = Q} {P = P} (Basing at number place part)).writes refl)
  goes_one log (Naming at head number parts logged) right = inl
      (no_made (transaction_of {Q = Q} {P = P} (Naming at head number parts logged)).writes refl)
  goes_one log (Clearing keys) right = inl (no_made (transaction_of {Q = Q} {P = P} (Clearing keys)).writes refl)
  goes_one log (Restarting process server run elected placed) right = inl (no_made
      (transaction_of {Q = Q} {P = P} (Restarting process server run elected placed)).writes refl)
  goes_one log (Settling settings) right = inl (no_made
      (transaction_of {Q = Q} {P = P} (Settling settings)).writes refl)
  goes_one log (Resettling process settings elected placed) right = inl (no_made
      (transaction_of {Q = Q} {P = P} (Resettling process settings elected placed)).writes refl)
  goes_one log (Following server revision acks told) right = inl (no_made
      (transaction_of {Q = Q} {P = P} (Following server revision acks told)).writes refl)
  goes_one log (Checking compares) right = inl (no_made (transaction_of {Q = Q} {P = P} (Checking compares)).writes
      refl)
  goes_one log Foreign right = inl (no_made (transaction_of {Q = Q} {P = P} Foreign).writes refl)

  pub goes_on : (txn : Transaction Q P) (earlier : List (Transaction Q P)) → AreRight charter (txn ∷ earlier)
      → GoesOn (head_of shard earlier) (head_of shard (txn ∷ earlier)) (made_by shard txn.writes)
  goes_on txn earlier right =
      subst (λ (t : Transaction Q P). GoesOn (head_of shard earlier) (head_of shard (t ∷ earlier))
      (made_by shard t.writes))
      (sym right.0.is) (goes_one earlier right.0.deed right.0.right)

  -- if no batch is added, the first batches are the same
  pub until_none : (number : ℕ) (txn : Transaction Q P) (earlier : List (Transaction Q P)) → made_by shard txn.writes
      ≡ []
      → made_until shard number (txn ∷ earlier) ≡ made_until shard number earlier
  until_none number txn earlier none =
      let same : made_until shard number earlier ++ made_by shard txn.writes ≡ made_until shard number earlier =
      ap (λ (items : List (Item Q)). made_until shard number earlier ++ items) none
      ∙ append-nil (made_until shard number earlier) in
      cond_both (nat_lt (head_of shard earlier).batches number) (made_until shard number earlier
      ++ made_by shard txn.writes)
      (made_until shard number earlier) (λ items. items ≡ made_until shard number earlier) (λ _. same) (λ _. refl)

  -- the batches that were there stay the first
  pub until_there : (number : ℕ) (txn : Transaction Q P) (earlier : List (Transaction Q P))
      → number ≤ (head_of shard earlier).batches
      → made_until shard number (txn ∷ earlier) ≡ made_until shard number earlier
  until_there number txn earlier there =
      cond-false (nat_lt (head_of shard earlier).batches number) (made_until shard number earlier
      ++ made_by shard txn.writes)
      (made_until shard number earlier) (le-ltb _ _ there)

  pub until_stays : (number : ℕ) (later past : List (Transaction Q P)) → AreRight charter (later ++ past)
      → number ≤ (head_of shard past).batches
      → made_until shard number (later ++ past) ≡ made_until shard number past
  until_stays number [] past right there = refl
  until_stays number (txn ∷ later) past right there =
      let more = risen later past right.1 in let b = more.batches in
      until_there number txn (later ++ past) (omega arith) ∙ until_stays number later past right.1 there

  -- as many batches as there are hold all requests
  pub until_all : (number : ℕ) (log : List (Transaction Q P)) → AreRight charter log
      → (head_of shard log).batches ≤ number
      → made_until shard number log ≡ made shard log
  until_all number [] right all = refl
  until_all number (txn ∷ earlier) right all =
      let more = risen_by txn earlier right in let b = more.batches in
      let rest : made_until shard number earlier ≡ made shard earlier =
      until_all number earlier right.1 (omega arith) in
      ⊎_elim
      (λ (none : made_by shard txn.writes ≡ []).
      until_none number txn earlier none ∙ rest
      ∙ sym (ap (λ (items : List (Item Q)). made shard earlier ++ items) none ∙ append-nil (made shard earlier)))
      (λ (one : (head_of shard (txn ∷ earlier)).batches ≡ (head_of shard earlier).batches + 1).
      cond-true (nat_lt (head_of shard earlier).batches number)
      (made_until shard number earlier ++ made_by shard txn.writes) (made_until shard number earlier)
      (lt-ltb (head_of shard earlier).batches number (omega arith))
      ∙ ap (λ (items : List (Item Q)). items ++ made_by shard txn.writes) rest)
      (goes_on txn earlier right)

  -- if the requests of the first batches were read, they are still the requests of those batches
  pub read_until : (number : ℕ) (items : List (Item Q)) (log : List (Transaction Q P)) → AreRight charter log
      → HasRequests log shard number items
      → (number ≤ (head_of shard log).batches) × (made_until shard number log ≡ items)
  read_until number items log right has =
      let found = has.log_was in
      let all : AreRight charter (found.later ++ found.past) = subst (AreRight charter) found.is right in
      let was : (head_of shard found.past).batches ≡ number = ap (λ (l : ShardLog Q). l.head.batches) found.was
      ∙ has.all in
      let more = risen found.later found.past all in let b = more.batches in
      let now : head_of shard log ≡ head_of shard (found.later ++ found.past) = ap (head_of shard) found.is in (
        subst (λ (h : Head). number ≤ h.batches) (sym now) (omega arith),
        ap (made_until shard number) found.is
            ∙ until_stays number found.later found.past all (omega arith)
            ∙ until_all number found.past (right_past found.later found.past all) (omega arith)
            ∙ ap (λ (l : ShardLog Q). l.items) found.was,
      )
