-- The values at a shard's keys are all requests that are made.
use Rattle.std.proofs.Common.{◌≡◌, ◌≢◌, ℕ, ◌+◌, ◌<◌, ◌≤◌, Bool, true, false, List, [], ◌∷◌, ◌++◌, Some, None, length}
use Rattle.std.proofs.Common.{refl, sym, ap, subst, ◌∙◌, arith, ⊎_elim, inl, inr, append-nil, zero, suc}
use Rattle.std.specs.Prelude.{IsTrue, ◌==◌, ◌&&◌, ◌⊎◌, nat_lt, slice_get}
use Rattle.std.proofs.lemmas.Bool.{true≢false, and_parts, and_from, eqb-true, eq-eqb, ne_eqb, cases_Bool, cases_eq}
use Rattle.std.proofs.lemmas.Bool.{cond_both, cond-true, cond-false, le-ltb}
use Rattle.sm_store.specs.declared.head.Head.{Head}
use Rattle.sm_store.specs.declared.item.Item.{Item}
use Rattle.sm_store.specs.declared.store_key.PassingKey.{PassingKey}
use Rattle.sm_store.specs.declared.store_key.PassingKey.TheVariants.{Leader, Server, Ack, Batch, Part, Other}
use Rattle.sm_store.specs.Store.{Transaction, batch_at, head_of, made, made_by, made_until, same_passing, Deletes}
use Rattle.sm_store.specs.Store.{deletes_key, last_revision, unmade}
use Rattle.sm_store.specs.Deeds.{Charter, Deed, Electing, Expiring, Changing, Executing, Basing, Naming, Clearing}
use Rattle.sm_store.specs.Deeds.{Following, Restarting, Settling, Checking, Foreign, transaction_of, is_leased}
use Rattle.sm_store.specs.Deeds.{Resettling}
use Rattle.sm_store.specs.Deeds.{IsBehind, IsRight, AreRight, done_at}
use Rattle.sm_store.specs.Whole.{AreThere, IsBased, IsBatchThere, IsLogWhole, base_parts}
use Rattle.sm_store.specs.lemmas.Heads.{until_all, until_there}
use Rattle.sm_store.specs.lemmas.Parts.{has_none, part_is, part_stays_one}

below_next : (a b : ℕ) → a < b + 1 → (a < b) ⊎ (a ≡ b)
below_next a b below =
    ⊎_elim
    (λ (same : a ≡ b). inr same)
    (λ (apart : a ≢ b). inl (omega arith))
    (cases_eq a b)

-- a list has something at each place below its length
got : {A : Type 0} (xs : List A) (place : ℕ) → place < length xs → (x : A) × (slice_get xs place ≡ Some x)
got [] place below = absurd (omega arith)
got (x ∷ xs) zero below = (x, refl)
got (x ∷ xs) (suc place) below = got xs place (omega arith)

leased_apart : (shard number : ℕ) (key : PassingKey) → is_leased key ≡ true → same_passing key (Batch shard number)
    ≡ false
leased_apart shard number Leader leased = refl
leased_apart shard number (Server server) leased = refl
leased_apart shard number (Ack at by) leased = refl
leased_apart shard number (Batch at n) leased = absurd (true≢false (sym leased))
leased_apart shard number (Part at n i) leased = refl
leased_apart shard number Other leased = refl

module _ {Q P : Type 0} (charter : Charter Q P) (shard : ℕ) where
  -- a base that isn't older than the head's stays whole
  based_grows : (txn : Transaction Q P) (log : List (Transaction Q P)) (head : Head) → AreRight charter (txn ∷ log)
      → head.base ≤ (head_of shard log).batches → (head_of shard log).base ≤ head.base
      → IsBased charter shard log head → IsBased charter shard (txn ∷ log) head
  based_grows txn log head right within newest was =
      let until : made_until shard head.base (txn ∷ log) ≡ made_until shard head.base log =
      until_there charter shard head.base txn log within in
      let same : base_parts charter shard head.base (txn ∷ log) ≡ base_parts charter shard head.base log =
      ap (λ (items : List (Item Q)). charter.parts items) until in
      record {
        within = was.within;
        all = λ some. was.all some ∙ sym (ap length same);
        there = λ some place below.
            let all = was.all some in
            let one = got (base_parts charter shard head.base log) place (omega arith) in
            let now = part_stays_one charter shard head.base place txn log right newest
            (one.0, was.there some place below ∙ one.1) in
            now.1 ∙ sym (part_is charter shard head.base place (txn ∷ log) now.0 right now.1).is;
      }

  -- a batch stays where it is
  there_grows : (txn : Transaction Q P) (log : List (Transaction Q P)) (number : ℕ)
      → number < (head_of shard log).batches
      → batch_at shard (number + 1) (txn ∷ log) ≡ batch_at shard (number + 1) log
      → IsBatchThere shard log number → IsBatchThere shard (txn ∷ log) number
  there_grows txn log number below same was = record {
    items = was.items;
    stands = same ∙ was.stands;
    next = until_there charter shard (number + 1) txn log (omega arith) ∙ was.next
        ∙ sym (ap (λ (items : List (Item Q)). items ++ was.items) (until_there charter shard number txn log
        (omega arith)));
  }

  behind_apart : (log : List (Transaction Q P)) (key : PassingKey) (number : ℕ) → IsBehind charter log key
      → (head_of shard log).base ≤ number → same_passing key (Batch shard (number + 1)) ≡ false
  behind_apart log (Batch at n) number behind newest =
      ⊎_elim
      (λ (yes : same_passing (Batch at n) (Batch shard (number + 1)) ≡ true).
      let two = and_parts (at == shard) (n == number + 1) yes in
      let a = eqb-true at shard two.0 in
      let b = eqb-true n (number + 1) two.1 in
      let less : n ≤ (head_of shard log).base = subst (λ (k : ℕ). n ≤ (head_of k log).base) a behind in
      absurd (omega arith))
      (λ (no : same_passing (Batch at n) (Batch shard (number + 1)) ≡ false). no)
      (cases_Bool (same_passing (Batch at n) (Batch shard (number + 1))))
  behind_apart log (Part at n i) number behind newest = refl
  behind_apart log Leader number behind newest = refl
  behind_apart log (Server server) number behind newest = refl
  behind_apart log (Ack at by) number behind newest = refl
  behind_apart log Other number behind newest = refl

  deleted_stay : (log : List (Transaction Q P)) (keys : List PassingKey) (number : ℕ)
      → deletes_key keys (Batch shard (number + 1)) ≡ false
      → batch_at shard (number + 1) (unmade [] (Deletes keys ∷ []) ∷ log) ≡ batch_at shard (number + 1) log
  deleted_stay log keys number apart =
      cond-false (deletes_key keys (Batch shard (number + 1))) None (batch_at shard (number + 1) log) apart

module _ {Q P : Type 0} (charter : Charter Q P) (shard revision : ℕ) where
  -- if the head doesn't change, its base doesn't either
  based_same : (log : List (Transaction Q P)) (deed : Deed Q P) → last_revision log < revision
      → IsRight charter log deed → AreRight charter log
      → IsBased charter shard log (head_of shard log) → IsBased charter shard (done_at revision deed ∷ log)
      (head_of shard log)
  based_same log deed above right rights was =
      based_grows charter shard (done_at revision deed) log (head_of shard log) (
        record { above = above; deed = deed; is = refl; right = right },
        rights,
      )
      was.within (omega arith) was

  based_one : (log : List (Transaction Q P)) (deed : Deed Q P) → last_revision log < revision
      → IsRight charter log deed → AreRight charter log
      → IsBased charter shard log (head_of shard log)
      → IsBased charter shard (done_at revision deed ∷ log) (head_of shard (done_at revision deed ∷ log))
  based_one log (Electing process) above right rights was = based_same log (Electing process) above right rights was
  based_one log (Expiring keys) above right rights was = based_same log (Expiring keys) above right rights was
  based_one log (Changing process at change next elected placed) above right rights was =
      based_same log (Changing process at change next elected placed) above right rights was
  based_one log (Executing at server items head stood logged) above right rights was =
      let deed : Deed Q P = Executing at server items head stood logged in
      let same = based_same log deed above right rights was in
      cond_both (at == shard) (record { batches = head.batches + 1; base = head.base; parts = head.parts })
      (head_of shard log)
      (IsBased charter shard (done_at revision deed ∷ log))
      (λ here. let k = eqb-true at shard here in
      let is : head_of shard log ≡ head = subst (λ (n : ℕ). head_of n log ≡ head) k right.head_is in
      let so : IsBased charter shard (done_at revision deed ∷ log) head =
      subst (IsBased charter shard (done_at revision deed ∷ log)) is same in
      let within = so.within in
      record { within = omega arith; all = so.all; there = so.there })
      (λ apart. same)
  based_one log (Basing at number place part) above right rights was =
      based_same log (Basing at number place part) above right rights was
  based_one log (Naming at head number parts logged) above right rights was =
      let deed : Deed Q P = Naming at head number parts logged in
      cond_both (at == shard) (record { batches = head.batches; base = number; parts = parts }) (head_of shard log)
      (IsBased charter shard (done_at revision deed ∷ log))
      (λ here. let k = eqb-true at shard here in
      let mine : IsRight charter log (Naming shard head number parts logged) =
      subst (λ (n : ℕ). IsRight charter log (Naming n head number parts logged)) k right in
      let is = mine.head_is in
      let newer = mine.newer in
      let within = mine.within in
      based_grows charter shard (done_at revision deed) log
      (record { batches = head.batches; base = number; parts = parts })
      (record { above = above; deed = deed; is = refl; right = right }, rights)
      (subst (λ (h : Head). number ≤ h.batches) (sym is) within)
      (subst (λ (h : Head). h.base ≤ number) (sym is) (omega arith))
      (record { within = mine.within; all = λ _. mine.all; there = λ _. mine.there }))
      (λ apart. based_same log deed above right rights was)
  based_one log (Clearing keys) above right rights was = based_same log (Clearing keys) above right rights was
  based_one log (Restarting process server run elected placed) above right rights was =
      based_same log (Restarting process server run elected placed) above right rights was
  based_one log (Settling settings) above right rights was =
      based_same log (Settling settings) above right rights was
  based_one log (Resettling process settings elected placed) above right rights was =
      based_same log (Resettling process settings elected placed) above right rights was
  based_one log (Following server revision acks told) above right rights was =
      based_same log (Following server revision acks told) above right rights was
  based_one log (Checking compares) above right rights was = based_same log (Checking compares) above right rights was
  based_one log Foreign above right rights was = based_same log Foreign above right rights was

  abbrev StayThere : List (Transaction Q P) → Deed Q P → Type 0
  StayThere log deed =
      (number : ℕ) → (head_of shard log).base ≤ number → number < (head_of shard log).batches
      → batch_at shard (number + 1) (done_at revision deed ∷ log) ≡ batch_at shard (number + 1) log

  there_same : (log : List (Transaction Q P)) (deed : Deed Q P) → StayThere log deed
      → AreThere shard log (head_of shard log)
      → AreThere shard (done_at revision deed ∷ log) (head_of shard log)
  there_same log deed stay was number newest below =
      there_grows charter shard (done_at revision deed) log number below (stay number newest below)
      (was number newest below)

  -- the batch that a server adds comes next
  executed_there : (log : List (Transaction Q P)) (server : ℕ) (items : List (Item Q)) (head : Head) (stood logged : ℕ)
      → last_revision log < revision → IsRight charter log (Executing shard server items head stood logged)
      → AreRight charter log
      → AreThere shard log (head_of shard log)
      → AreThere shard (done_at revision (Executing shard server items head stood logged) ∷ log)
      (record { batches = head.batches + 1; base = head.base; parts = head.parts })
  executed_there log server items head stood logged above right rights was number newest below =
      let deed : Deed Q P = Executing shard server items head stood logged in
      let next : Head = record { batches = head.batches + 1; base = head.base; parts = head.parts } in
      let is = right.head_is in
      let itself : (shard == shard) ≡ true = eq-eqb shard shard refl in
      let many : (head_of shard log).batches ≡ head.batches = ap (λ (h : Head). h.batches) is in
      let old : (head_of shard log).base ≡ head.base = ap (λ (h : Head). h.base) is in
      let now : head_of shard (done_at revision deed ∷ log) ≡ next =
      cond-true (shard == shard) next (head_of shard log) itself in
      let now_many : (head_of shard (done_at revision deed ∷ log)).batches ≡ head.batches + 1 =
      ap (λ (h : Head). h.batches) now in
      let all_right : AreRight charter (done_at revision deed ∷ log) =
      (record { above = above; deed = deed; is = refl; right = right }, rights) in
      let here : ℕ → Bool = λ n. shard == shard && head.batches + 1 == n + 1 in
      ⊎_elim
      (λ (earlier : number < head.batches).
      there_grows charter shard (done_at revision deed) log number (omega arith)
      (cond-false (here number) (Some items) (batch_at shard (number + 1) log)
      (rw itself (ne_eqb (head.batches + 1) (number + 1) (λ same. absurd (omega arith)))))
      (was number (omega arith) (omega arith)))
      (λ (last : number ≡ head.batches).
      let added : made_by shard (transaction_of deed).writes ≡ items = rw itself (append-nil items) in
      record {
        items = items;
        stands = cond-true (here number) (Some items) (batch_at shard (number + 1) log)
            (and_from (shard == shard) (head.batches + 1 == number + 1) itself
            (eq-eqb (head.batches + 1) (number + 1) (omega arith)));
        next = until_all charter shard (number + 1) (done_at revision deed ∷ log) all_right (omega arith)
            ∙ ap (λ (more : List (Item Q)). made shard log ++ more) added
            ∙ sym (ap (λ (first : List (Item Q)). first ++ items)
            (until_there charter shard number (done_at revision deed) log (omega arith)
            ∙ until_all charter shard number log rights (omega arith)));
      })
      (below_next number head.batches below)

  there_one : (log : List (Transaction Q P)) (deed : Deed Q P) → last_revision log < revision
      → IsRight charter log deed → AreRight charter log
      → AreThere shard log (head_of shard log)
      → AreThere shard (done_at revision deed ∷ log) (head_of shard (done_at revision deed ∷ log))
  there_one log (Electing process) above right rights was = there_same log (Electing process)
      (λ number newest below. refl) was
  there_one log (Expiring keys) above right rights was =
      there_same log (Expiring keys)
      (λ number newest below. deleted_stay charter shard log keys number
      (has_none (Batch shard (number + 1)) (λ key. IsTrue (is_leased key)) (leased_apart shard (number + 1)) keys
      right)) was
  there_one log (Changing process at change next elected placed) above right rights was =
      there_same log (Changing process at change next elected placed) (λ number newest below. refl) was
  there_one log (Executing at server items head stood logged) above right rights was =
      let deed : Deed Q P = Executing at server items head stood logged in
      let next : Head = record { batches = head.batches + 1; base = head.base; parts = head.parts } in
      cond_both (at == shard) next (head_of shard log) (AreThere shard (done_at revision deed ∷ log))
      (λ here. let k = eqb-true at shard here in
      subst (λ (n : ℕ). AreThere shard (done_at {Q = Q} {P = P} revision
      (Executing n server items head stood logged) ∷ log) next) (sym k)
      (executed_there log server items head stood logged above
      (subst (λ (n : ℕ). IsRight charter log (Executing n server items head stood logged)) k right) rights was))
      (λ apart. there_same log deed (λ number newest below. rw apart refl) was)
  there_one log (Basing at number place part) above right rights was =
      there_same log (Basing at number place part) (λ number newest below. refl) was
  there_one log (Naming at head number parts logged) above right rights was =
      let deed : Deed Q P = Naming at head number parts logged in
      let same = there_same log deed (λ number newest below. refl) was in
      cond_both (at == shard) (record { batches = head.batches; base = number; parts = parts }) (head_of shard log)
      (AreThere shard (done_at revision deed ∷ log))
      (λ here n newest below. let k = eqb-true at shard here in
      let is : head_of shard log ≡ head = subst (λ (m : ℕ). head_of m log ≡ head) k right.head_is in
      let newer = right.newer in
      let many : (head_of shard log).batches ≡ head.batches = ap (λ (h : Head). h.batches) is in
      let old : (head_of shard log).base ≡ head.base = ap (λ (h : Head). h.base) is in
      same n (omega arith) (omega arith))
      (λ apart. same)
  there_one log (Clearing keys) above right rights was =
      there_same log (Clearing keys)
      (λ number newest below. deleted_stay charter shard log keys number
      (has_none (Batch shard (number + 1)) (IsBehind charter log)
      (λ key behind. behind_apart charter shard log key number behind newest) keys right)) was
  there_one log (Restarting process server run elected placed) above right rights was =
      there_same log (Restarting process server run elected placed) (λ number newest below. refl) was
  there_one log (Settling settings) above right rights was =
      there_same log (Settling settings) (λ number newest below. refl) was
  there_one log (Resettling process settings elected placed) above right rights was =
      there_same log (Resettling process settings elected placed) (λ number newest below. refl) was
  there_one log (Following server revision acks told) above right rights was =
      there_same log (Following server revision acks told) (λ number newest below. refl) was
  there_one log (Checking compares) above right rights was = there_same log (Checking compares)
      (λ number newest below. refl) was
  there_one log Foreign above right rights was = there_same log Foreign (λ number newest below. refl) was

module _ {Q P : Type 0} (charter : Charter Q P) (shard : ℕ) where
  pub based : (log : List (Transaction Q P)) → AreRight charter log → IsBased charter shard log (head_of shard log)
  based [] right = record {
    within = omega arith;
    all = λ some. absurd (omega arith);
    there =
        λ some place below. absurd (omega arith);
  }
  based (txn ∷ log) right =
      subst (λ (t : Transaction Q P). IsBased charter shard (t ∷ log) (head_of shard (t ∷ log))) (sym right.0.is)
      (based_one charter shard txn.revision log right.0.deed right.0.above right.0.right right.1 (based log right.1))

  pub there : (log : List (Transaction Q P)) → AreRight charter log → AreThere shard log (head_of shard log)
  there [] right = λ number newest below. absurd (omega arith)
  there (txn ∷ log) right =
      subst (λ (t : Transaction Q P). AreThere shard (t ∷ log) (head_of shard (t ∷ log))) (sym right.0.is)
      (there_one charter shard txn.revision log right.0.deed right.0.above right.0.right right.1 (there log right.1))

  pub none : (log : List (Transaction Q P)) → made_until shard 0 log ≡ []
  none [] = refl
  none (txn ∷ log) =
      cond-false (nat_lt (head_of shard log).batches 0) (made_until shard 0 log ++ made_by shard txn.writes)
      (made_until shard 0 log) (le-ltb (head_of shard log).batches 0 (omega arith))
      ∙ none log

  pub whole : (log : List (Transaction Q P)) → AreRight charter log → IsLogWhole charter shard log
  whole log right = record {
    none = none log;
    based = based log right;
    batches = there log right;
    all = until_all charter shard (head_of shard log).batches log right (omega arith);
  }
