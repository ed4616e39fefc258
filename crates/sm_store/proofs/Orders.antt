-- Orders of operations: the answers of one thread, and the places of operations.
use Rattle.std.proofs.Common.{◌≡◌, ℕ, ◌<◌, ◌+◌, Bool, true, false, List, [], ◌∷◌, ◌++◌, length, refl, sym, ap, subst}
use Rattle.std.proofs.Common.{◌∙◌, arith}
use Rattle.std.proofs.Common.{⊎_elim, inl, inr, append_assoc, length-append}
use Rattle.std.specs.Prelude.{Option, Some, IsTrue, ◌==◌, ◌⊎◌, if◌then◌else◌}
use Rattle.std.specs.List.{AllByRecursion}
use Rattle.std.proofs.lemmas.Bool.{cond-true, cond-false, eqb-true}
use Rattle.sm_store.specs.declared.item.Item.{Item}
use Rattle.sm_store.specs.Clients.{Automaton, ReadsLeave, is_from, reply_in, state_after, times}
use Rattle.sm_store.specs.System.{IsAmong}
use Rattle.sm_store.specs.Linear.{Operation, Update, Query, IsThread, StandsBefore}
use Rattle.sm_store.specs.Linear.{of_shard, operation_shard, updates_of}

pub eqb-refl : (n : ℕ) → (n == n) ≡ true
eqb-refl n = grind arith

-- lists
module _ {A : Type 0} where
  pub all_append : (F : A → Type 0) (xs ys : List A) → AllByRecursion F xs → AllByRecursion F ys
      → AllByRecursion F (xs ++ ys)
  all_append F [] ys a b = b
  all_append F (x ∷ xs) ys a b = (a.0, all_append F xs ys a.1 b)

  pub all_back : (F : A → Type 0) (xs ys : List A) → AllByRecursion F (xs ++ ys) → AllByRecursion F ys
  all_back F [] ys a = a
  all_back F (x ∷ xs) ys a = all_back F xs ys a.1

  pub among_front : (one : A) (xs ys : List A) → IsAmong one xs → IsAmong one (xs ++ ys)
  among_front one [] ys among = absurd among
  among_front one (x ∷ xs) ys among =
      ⊎_elim (λ (is : x ≡ one). inl is) (λ (rest : IsAmong one xs). inr (among_front one xs ys rest)) among

  pub among_back : (one : A) (xs ys : List A) → IsAmong one ys → IsAmong one (xs ++ ys)
  among_back one [] ys among = among
  among_back one (x ∷ xs) ys among = inr (among_back one xs ys among)

  pub all_if : (F : A → Type 0) (b : Bool) (x : A) → (b ≡ true → F x) → AllByRecursion F (if b then x ∷ [] else [])
  all_if F true x one = (one refl, tt)
  all_if F false x one = tt

  pub among_if : (b : Bool) (x : A) → b ≡ true → IsAmong x (if b then x ∷ [] else [])
  among_if true x is = inl refl
  among_if false x is = absurd cc

  pub tails : (x y : A) (xs ys : List A) → x ∷ xs ≡ y ∷ ys → xs ≡ ys
  tails x y xs ys is = cc

  -- two ends of one list with the same length are the same
  pub same_end : (xs ys a b : List A) → xs ++ a ≡ ys ++ b → length a ≡ length b → a ≡ b
  same_end [] [] a b is long = is
  same_end [] (y ∷ ys) a b is long =
      let all : length a ≡ length (y ∷ ys ++ b) = ap length is in
      absurd (omega (arith, length-append ys b))
  same_end (x ∷ xs) [] a b is long =
      let all : length (x ∷ xs ++ a) ≡ length b = ap length is in
      absurd (omega (arith, length-append xs a))
  same_end (x ∷ xs) (y ∷ ys) a b is long = same_end xs ys a b (tails x y (xs ++ a) (ys ++ b) is) long

-- one element is before another
module _ {A : Type 0} where
  pub among_either : (one : A) (xs ys : List A) → IsAmong one (xs ++ ys) → IsAmong one xs ⊎ IsAmong one ys
  among_either one [] ys among = inr among
  among_either one (x ∷ xs) ys among =
      ⊎_elim
      (λ (is : x ≡ one). inl (inl is))
      (λ (rest : IsAmong one (xs ++ ys)).
      ⊎_elim (λ (l : IsAmong one xs). inl (inr l)) (λ (r : IsAmong one ys). inr r) (among_either one xs ys rest)) among

  split_at : (one : A) (xs : List A) → IsAmong one xs
      → (first : List A) × (rest : List A) × (xs ≡ first ++ one ∷ rest)
  split_at one [] among = absurd among
  split_at one (x ∷ xs) among =
      ⊎_elim
      (λ (is : x ≡ one). ([], xs, ap (λ (y : A). y ∷ xs) is))
      (λ (rest : IsAmong one xs).
      let found = split_at one xs rest in
      (x ∷ found.0, found.1, ap (λ (list : List A). x ∷ list) found.2)) among

  pub before_of : (one other : A) (order front back : List A) → order ≡ front ++ back → IsAmong one front
      → IsAmong other back → StandsBefore one other order
  before_of one other order front back is here there =
      let a = split_at one front here in
      let b = split_at other back there in
      record {
        first = a.0;
        between = a.1 ++ b.0;
        rest = b.1;
        is = is ∙ ap (λ (list : List A). list ++ back) a.2
            ∙ ap (λ (list : List A). (a.0 ++ one ∷ a.1) ++ list) b.2
            ∙ sym (append_assoc (a.0 ++ one ∷ a.1) b.0 (other ∷ b.1))
            ∙ ap (λ (list : List A). list ++ other ∷ b.1) (append_assoc a.0 (one ∷ a.1) b.0);
      }

-- the operations of one shard
module _ {Q R : Type 0} where
  if_append : (b : Bool) (one : Operation Q R) (xs ys zs : List (Operation Q R)) → xs ≡ ys ++ zs
      → (if b then one ∷ xs else xs) ≡ (if b then one ∷ ys else ys) ++ zs
  if_append true one xs ys zs is = ap (λ (list : List (Operation Q R)). one ∷ list) is
  if_append false one xs ys zs is = is

  pub of_append : (shard : ℕ) (xs ys : List (Operation Q R))
      → of_shard shard (xs ++ ys) ≡ of_shard shard xs ++ of_shard shard ys
  of_append shard [] ys = refl
  of_append shard (one ∷ xs) ys =
      if_append (operation_shard one == shard) one (of_shard shard (xs ++ ys)) (of_shard shard xs) (of_shard shard ys)
      (of_append shard xs ys)

  all_of_if : (F : Operation Q R → Type 0) (b : Bool) (one : Operation Q R) (xs : List (Operation Q R))
      → (b ≡ true → F one) → AllByRecursion F xs → AllByRecursion F (if b then one ∷ xs else xs)
  all_of_if F true one xs first rest = (first refl, rest)
  all_of_if F false one xs first rest = rest

  -- if a fact holds of all operations, it holds of a shard's operations
  pub all_of : (F : Operation Q R → Type 0) (shard : ℕ) (xs : List (Operation Q R)) → AllByRecursion F xs
      → AllByRecursion (λ one. (operation_shard one ≡ shard) × F one) (of_shard shard xs)
  all_of F shard [] all = tt
  all_of F shard (one ∷ xs) all =
      all_of_if (λ one. (operation_shard one ≡ shard) × F one) (operation_shard one == shard) one (of_shard shard xs)
      (λ yes. (eqb-true (operation_shard one) shard yes, all.0)) (all_of F shard xs all.1)

  all_rest : (F : Operation Q R → Type 0) (b : Bool) (one : Operation Q R) (xs : List (Operation Q R))
      → AllByRecursion F (if b then one ∷ xs else xs) → AllByRecursion F xs
  all_rest F true one xs all = all.1
  all_rest F false one xs all = all

  -- if a fact holds of each shard's operations, it holds of all
  pub all_shards : (F : Operation Q R → Type 0) (xs : List (Operation Q R))
      → ((shard : ℕ) → AllByRecursion F (of_shard shard xs)) → AllByRecursion F xs
  all_shards F [] all = tt
  all_shards F (one ∷ xs) all = (
    (subst (AllByRecursion F)
        (cond-true (operation_shard one == operation_shard one) (one ∷ of_shard (operation_shard one) xs)
        (of_shard (operation_shard one) xs)
        (eqb-refl (operation_shard one)))
        (all (operation_shard one))).0,
    all_shards F xs
        (λ shard. all_rest F (operation_shard one == shard) one (of_shard shard xs) (all shard)),
  )

  among_of_if : (b : Bool) (op one : Operation Q R) (xs ys : List (Operation Q R)) → (IsAmong op xs → IsAmong op ys)
      → IsAmong op (if b then one ∷ xs else xs) → IsAmong op (one ∷ ys)
  among_of_if true op one xs ys rest among =
      ⊎_elim (λ (is : one ≡ op). inl is) (λ (later : IsAmong op xs). inr (rest later)) among
  among_of_if false op one xs ys rest among = inr (rest among)

  pub among_of : (shard : ℕ) (op : Operation Q R) (xs : List (Operation Q R)) → IsAmong op (of_shard shard xs)
      → IsAmong op xs
  among_of shard op [] among = absurd among
  among_of shard op (one ∷ xs) among =
      among_of_if (operation_shard one == shard) op one (of_shard shard xs) xs (among_of shard op xs) among

  pub updates_append : (xs ys : List (Operation Q R)) → updates_of (xs ++ ys) ≡ updates_of xs ++ updates_of ys
  updates_append [] ys = refl
  updates_append (Update shard item reply ∷ xs) ys =
      ap (λ (rest : List (Item Q)). item ∷ rest) (updates_append xs ys)
  updates_append (Query shard client number request reply text told ∷ xs) ys = updates_append xs ys

-- the answers of one thread
module _ {S Q R : Type 0} (service : Automaton S Q R) where
  -- one thread, which starts from this state and runs the updates, gives each operation its reply
  abbrev pub AreAnswered : S → List (Operation Q R) → Type 0
  AreAnswered state [] = Unit {0}
  AreAnswered state (Update shard item reply ∷ rest) =
      (reply ≡ service.reply state item.request) × AreAnswered (service.after state item.request) rest
  AreAnswered state (Query shard client number request reply text told ∷ rest) =
      (IsTrue (service.reads request) × (reply ≡ service.reply state request)
      × (text ≡ service.text state request))
      × AreAnswered state rest

  -- requests of a shard that are made one after another
  abbrev pub makes : ℕ → S → List (Item Q) → List (Operation Q R)
  makes shard state [] = []
  makes shard state (item ∷ items) =
      Update shard item (service.reply state item.request) ∷ makes shard (service.after state item.request) items

  pub makes_answered : (shard : ℕ) (state : S) (items : List (Item Q))
      → AreAnswered state (makes shard state items)
  makes_answered shard state [] = tt
  makes_answered shard state (item ∷ items) = (refl, makes_answered shard (service.after state item.request) items)

  pub updates_makes : (shard : ℕ) (state : S) (items : List (Item Q)) → updates_of (makes shard state items) ≡ items
  updates_makes shard state [] = refl
  updates_makes shard state (item ∷ items) =
      ap (λ (rest : List (Item Q)). item ∷ rest) (updates_makes shard (service.after state item.request) items)

  pub makes_append : (shard : ℕ) (state : S) (xs ys : List (Item Q)) → makes shard state (xs ++ ys)
      ≡ makes shard state xs ++ makes shard (state_after service state xs) ys
  makes_append shard state [] ys = refl
  makes_append shard state (item ∷ xs) ys =
      ap (λ (rest : List (Operation Q R)). Update shard item (service.reply state item.request) ∷ rest)
      (makes_append shard (service.after state item.request) xs ys)

  -- the requests made are all operations of their shard, and of no other
  pub makes_own : (shard : ℕ) (state : S) (items : List (Item Q))
      → of_shard shard (makes shard state items) ≡ makes shard state items
  makes_own shard state [] = refl
  makes_own shard state (item ∷ items) =
      let one : Operation Q R = Update shard item (service.reply state item.request) in
      let rest = makes shard (service.after state item.request) items in
      cond-true (shard == shard) (one ∷ of_shard shard rest) (of_shard shard rest) (eqb-refl shard)
      ∙ ap (λ (list : List (Operation Q R)). one ∷ list) (makes_own shard (service.after state item.request) items)

  pub makes_other : (shard other : ℕ) (state : S) (items : List (Item Q)) → (shard == other) ≡ false
      → of_shard other (makes shard state items) ≡ []
  makes_other shard other state [] apart = refl
  makes_other shard other state (item ∷ items) apart =
      let one : Operation Q R = Update shard item (service.reply state item.request) in
      let rest = makes shard (service.after state item.request) items in
      cond-false (shard == other) (one ∷ of_shard other rest) (of_shard other rest) apart
      ∙ makes_other shard other (service.after state item.request) items apart

  pub answered_append : (state : S) (xs ys : List (Operation Q R)) → AreAnswered state xs
      → AreAnswered (state_after service state (updates_of xs)) ys → AreAnswered state (xs ++ ys)
  answered_append state [] ys a b = b
  answered_append state (Update shard item reply ∷ xs) ys a b =
      (a.0, answered_append (service.after state item.request) xs ys a.1 b)
  answered_append state (Query shard client number request reply text told ∷ xs) ys a b =
      (a.0, answered_append state xs ys a.1 b)

  pub after_append : (state : S) (xs ys : List (Item Q)) → state_after service state (xs ++ ys)
      ≡ state_after service (state_after service state xs) ys
  after_append state [] ys = refl
  after_append state (item ∷ xs) ys = after_append (service.after state item.request) xs ys

  -- a reply that is found among the requests has its place in the order
  abbrev pub Placed : List (Operation Q R) → ℕ → ℕ → R → Type 0
  Placed order client number reply =
      (shard : ℕ) × (item : Item Q) × IsTrue (is_from client number item) × IsAmong (Update shard item reply) order

  found_step : (b : Bool) (shard : ℕ) (item : Item Q) (state : S) (client number : ℕ) (reply given : R)
      (rest : Option R) (order : List (Operation Q R)) → is_from client number item ≡ b
      → given ≡ service.reply state item.request → (rest ≡ Some reply → Placed order client number reply)
      → (if b then Some (service.reply state item.request) else rest) ≡ Some reply
      → Placed (Update shard item given ∷ order) client number reply
  found_step true shard item state client number reply given rest order its is later found =
      let same : given ≡ reply = is ∙ cc in
      (shard, item, its, inl (ap (λ (r : R). Update shard item r) same))
  found_step false shard item state client number reply given rest order its is later found =
      let one = later found in (one.0, one.1, one.2, inr one.3)

  pub found_place : (state : S) (order : List (Operation Q R)) (client number : ℕ) (reply : R)
      → AreAnswered state order → reply_in service state (updates_of order) client number ≡ Some reply
      → Placed order client number reply
  found_place state [] client number reply answered found = absurd cc
  found_place state (Update shard item given ∷ order) client number reply answered found =
      found_step (is_from client number item) shard item state client number reply given
      (reply_in service (service.after state item.request) (updates_of order) client number) order refl answered.0
      (found_place (service.after state item.request) order client number reply answered.1) found
  found_place state (Query shard c n request given text told ∷ order) client number reply answered found =
      let one = found_place state order client number reply answered.1 found in (one.0, one.1, one.2, inr one.3)

  some_none : (b : Bool) (n : ℕ) (given : R) (rest : Option R) (reply : R) → (rest ≡ Some reply → 0 < n)
      → (if b then Some given else rest) ≡ Some reply → 0 < (if b then 1 else 0) + n
  some_none true n given rest reply later found = omega arith
  some_none false n given rest reply later found = let l = later found in omega arith

  -- a request with a reply is made
  pub found_made : (state : S) (items : List (Item Q)) (client number : ℕ) (reply : R)
      → reply_in service state items client number ≡ Some reply → 0 < times client number items
  found_made state [] client number reply found = absurd cc
  found_made state (item ∷ items) client number reply found =
      some_none (is_from client number item) (times client number items) (service.reply state item.request)
      (reply_in service (service.after state item.request) items client number) reply
      (found_made (service.after state item.request) items client number reply) found

  -- queries of one state
  abbrev pub IsReplyOf : (ℕ → S) → Operation Q R → Type 0
  IsReplyOf states (Update shard item reply) = ⊥
  IsReplyOf states (Query shard client number request reply text told) =
      IsTrue (service.reads request) × (reply ≡ service.reply (states shard) request)
      × (text ≡ service.text (states shard) request)

  pub queries_answered : (states : ℕ → S) (shard : ℕ) (order : List (Operation Q R))
      → AllByRecursion (λ one. (operation_shard one ≡ shard) × IsReplyOf states one) order
      → AreAnswered (states shard) order
  queries_answered states shard [] all = tt
  queries_answered states shard (Update at item reply ∷ order) all = absurd all.0.1
  queries_answered states shard (Query at client number request reply text told ∷ order) all = (
    subst (λ (k : ℕ). IsTrue (service.reads request) × (reply ≡ service.reply (states k) request)
        × (text ≡ service.text (states k) request)) all.0.0 all.0.1,
    queries_answered states shard order all.1,
  )

  -- if reads don't change a state, one thread runs all operations
  pub thread : ReadsLeave service → (state : S) (order : List (Operation Q R)) → AreAnswered state order
      → IsThread service state order
  thread leave state [] answered = tt
  thread leave state (Update shard item reply ∷ rest) answered =
      ((tt, answered.0), thread leave (service.after state item.request) rest answered.1)
  thread leave state (Query shard client number request reply text told ∷ rest) answered = (
    ((answered.0.0, answered.0.2), answered.0.1),
    subst (λ (s : S). IsThread service s rest) (sym (leave state request answered.0.0))
        (thread leave state rest answered.1),
  )
