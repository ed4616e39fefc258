-- A log is read from the values that were seen at its keys, at any moments: the base that a head names, and the batches
-- after it.
use Rattle.std.proofs.Common.{◌≡◌, ℕ, ◌+◌, ◌<◌, ◌≤◌, true, List, [], ◌∷◌, ◌++◌, length}
use Rattle.std.proofs.Common.{Some, refl, sym, ap, subst, ◌∙◌, arith, ⊎_elim, inl, inr, append-nil, append_assoc}
use Rattle.std.proofs.Common.{add-one}
use Rattle.std.specs.Prelude.{◌==◌, ◌&&◌, ◌⊎◌, slice_get}
use Rattle.std.proofs.lemmas.Bool.{and_parts, eqb-true, cond-true}
use Rattle.std.proofs.lemmas.Option.{none-some}
use Rattle.sm_store.specs.declared.head.Head.{Head}
use Rattle.sm_store.specs.declared.item.Item.{Item}
use Rattle.sm_store.specs.declared.store_key.PassingKey.TheVariants.{Batch}
use Rattle.sm_store.specs.Clients.{AreNext}
use Rattle.sm_store.specs.Store.{Transaction, batch_at, head_key, head_of, made, made_by, made_until, part_at}
use Rattle.sm_store.specs.Store.{deletes_key, last_revision}
use Rattle.sm_store.specs.Deeds.{Charter, Deed, Electing, Expiring, Changing, Executing, Basing, Naming, Clearing}
use Rattle.sm_store.specs.Deeds.{Following, Restarting, Settling, Checking, Foreign, transaction_of, IsRight, AreRight}
use Rattle.sm_store.specs.Deeds.{Resettling}
use Rattle.sm_store.specs.Deeds.{HasRequests, WasFound, done_at, shard_log}
use Rattle.sm_store.specs.Whole.{AreBatches, AreParts, WasSeen, all_items, base_parts}
use Rattle.sm_store.specs.lemmas.Growth.{made_next}
use Rattle.sm_store.specs.lemmas.Heads.{read_until, right_past, risen, until_all, until_stays, until_there}
use Rattle.sm_store.specs.lemmas.Parts.{none_or, part_is, some_or}
use Rattle.sm_store.specs.lemmas.Whole.{based, none}

-- the elements at each place of a list, from this place on
abbrev StandAt : {A : Type 0} → List A → ℕ → List A → Type 0
StandAt all place [] = Unit {0}
StandAt all place (x ∷ xs) = (slice_get all place ≡ Some x) × StandAt all (place + 1) xs

later_get : {A : Type 0} (y : A) (ys : List A) (place : ℕ) → slice_get (y ∷ ys) (place + 1) ≡ slice_get ys place
later_get y ys place = rw (add-one place) refl

stand_later : {A : Type 0} (y : A) (ys : List A) (place : ℕ) (xs : List A) → StandAt (y ∷ ys) (place + 1) xs
    → StandAt ys place xs
stand_later y ys place [] stand = tt
stand_later y ys place (x ∷ xs) stand = (
  sym (later_get y ys place) ∙ stand.0,
  stand_later y ys (place + 1) xs stand.1,
)

-- lists of one length with the same at each place are the same
same_list : {A : Type 0} (ys xs : List A) → StandAt ys 0 xs → length ys ≡ length xs → ys ≡ xs
same_list [] [] stand long = refl
same_list [] (x ∷ xs) stand long = absurd (omega arith)
same_list (y ∷ ys) [] stand long = absurd (omega arith)
same_list (y ∷ ys) (x ∷ xs) stand long =
    let rest : ys ≡ xs = same_list ys xs (stand_later y ys 0 xs stand.1) (omega arith) in
    let first : Some y ≡ Some x = stand.0 in
    cc

module _ {Q P : Type 0} (charter : Charter Q P) (shard : ℕ) where
  -- the batch after this many holds the requests that come next
  record IsNextBatch (log : List (Transaction Q P)) (number : ℕ) (items : List (Item Q)) : Type 0 where
    pub within : number + 1 ≤ (head_of shard log).batches
    pub next : made_until shard (number + 1) log ≡ made_until shard number log ++ items

  -- a batch that is there after a deed was there before it, or the deed writes it
  written : (log : List (Transaction Q P)) (revision : ℕ) (deed : Deed Q P) (number : ℕ) (items : List (Item Q))
      → last_revision log < revision → IsRight charter log deed → AreRight charter log
      → batch_at shard (number + 1) (done_at revision deed ∷ log) ≡ Some items
      → (batch_at shard (number + 1) log ≡ Some items) ⊎ IsNextBatch (done_at revision deed ∷ log) number items
  written log revision (Electing process) number items above right rights is = inl is
  written log revision (Expiring keys) number items above right rights is =
      inl (none_or (deletes_key keys (Batch shard (number + 1))) items _ is)
  written log revision (Changing process at change next stood elected) number items above right rights is = inl is
  written log revision (Executing at server added head stood logged) number items above right rights is =
      ⊎_elim
      (λ (here : ((at == shard && head.batches + 1 == number + 1) ≡ true) × (added ≡ items)).
      let two = and_parts (at == shard) (head.batches + 1 == number + 1) here.0 in
      let a = eqb-true at shard two.0 in
      let b = eqb-true (head.batches + 1) (number + 1) two.1 in
      let deed : Deed Q P = Executing at server added head stood logged in
      let was : head_of shard log ≡ head = subst (λ (n : ℕ). head_of n log ≡ head) a right.head_is in
      let many : (head_of shard log).batches ≡ head.batches = ap (λ (h : Head). h.batches) was in
      let now : (head_of shard (done_at revision deed ∷ log)).batches ≡ head.batches + 1 =
      ap (λ (h : Head). h.batches) (cond-true (at == shard)
      (record { batches = head.batches + 1; base = head.base; parts = head.parts }) (head_of shard log) two.0) in
      let by : made_by shard (transaction_of deed).writes ≡ items =
      rw two.0 (append-nil added) ∙ here.1 in
      let all_right : AreRight charter (done_at revision deed ∷ log) =
      (record { above = above; deed = deed; is = refl; right = right }, rights) in
      inr (record {
        within = omega arith;
        next = until_all charter shard (number + 1) (done_at revision deed ∷ log) all_right (omega arith)
            ∙ ap (λ (more : List (Item Q)). made shard log ++ more) by
            ∙ sym (ap (λ (first : List (Item Q)). first ++ items)
            (until_there charter shard number (done_at revision deed) log (omega arith)
            ∙ until_all charter shard number log rights (omega arith)));
      }))
      (λ (before : batch_at shard (number + 1) log ≡ Some items). inl before)
      (some_or (at == shard && head.batches + 1 == number + 1) added items (batch_at shard (number + 1) log) is)
  written log revision (Basing at n i one) number items above right rights is = inl is
  written log revision (Naming at head n parts logged) number items above right rights is = inl is
  written log revision (Clearing keys) number items above right rights is =
      inl (none_or (deletes_key keys (Batch shard (number + 1))) items _ is)
  written log revision (Following server seen acks told) number items above right rights is = inl is
  written log revision (Restarting process server run elected placed) number items above right rights is = inl is
  written log revision (Settling settings) number items above right rights is = inl is
  written log revision (Resettling process settings elected placed) number items above right rights is = inl is
  written log revision (Checking compares) number items above right rights is = inl is
  written log revision Foreign number items above right rights is = inl is

  next_later : (later past : List (Transaction Q P)) (number : ℕ) (items : List (Item Q))
      → AreRight charter (later ++ past) → IsNextBatch past number items → IsNextBatch (later ++ past) number items
  next_later later past number items right was =
      let within = was.within in
      let more = risen charter shard later past right in let b = more.batches in
      record {
        within = omega arith;
        next = until_stays charter shard (number + 1) later past right was.within ∙ was.next
            ∙ sym (ap (λ (first : List (Item Q)). first ++ items)
            (until_stays charter shard number later past right (omega arith)));
      }

  -- each batch that is there holds the requests that come next
  batch_is : (log : List (Transaction Q P)) (number : ℕ) (items : List (Item Q)) → AreRight charter log
      → batch_at shard (number + 1) log ≡ Some items → IsNextBatch log number items
  batch_is [] number items right is = absurd (none-some _ is)
  batch_is (txn ∷ earlier) number items right is =
      ⊎_elim
      (λ (before : batch_at shard (number + 1) earlier ≡ Some items).
      next_later (txn ∷ []) earlier number items right (batch_is earlier number items right.1 before))
      (λ (now : IsNextBatch (done_at txn.revision right.0.deed ∷ earlier) number items).
      subst (λ (t : Transaction Q P). IsNextBatch (t ∷ earlier) number items) (sym right.0.is) now)
      (written earlier txn.revision right.0.deed number items right.0.above right.0.right right.1
      (subst (λ (t : Transaction Q P). batch_at shard (number + 1) (t ∷ earlier) ≡ Some items) right.0.is is))

  batch_was : (log : List (Transaction Q P)) (number : ℕ) (items : List (Item Q)) → AreRight charter log
      → WasSeen (batch_at shard (number + 1)) log (Some items) → IsNextBatch log number items
  batch_was log number items right seen =
      let all : AreRight charter (seen.later ++ seen.past) = subst (AreRight charter) seen.is right in
      subst (λ (l : List (Transaction Q P)). IsNextBatch l number items) (sym seen.is)
      (next_later seen.later seen.past number items all
      (batch_is seen.past number items (right_past charter shard seen.later seen.past all) seen.was))

  -- batches one after the other
  batches_were : (log : List (Transaction Q P)) (number : ℕ) (batches : List (List (Item Q))) → AreRight charter log
      → AreBatches shard log number batches
      → made_until shard (number + length batches) log ≡ made_until shard number log ++ all_items batches
  batches_were log number [] right seen =
      ap (λ (n : ℕ). made_until shard n log) (omega arith) ∙ sym (append-nil (made_until shard number log))
  batches_were log number (items ∷ others) right seen =
      let first = batch_was log number items right seen.0 in
      let rest = batches_were log (number + 1) others right seen.1 in
      let count : number + length (items ∷ others) ≡ (number + 1) + length others = omega arith in
      ap (λ (n : ℕ). made_until shard n log) count ∙ rest
      ∙ ap (λ (list : List (Item Q)). list ++ all_items others) first.next
      ∙ append_assoc (made_until shard number log) items (all_items others)

  part_was : (log : List (Transaction Q P)) (number place : ℕ) (part : P) → AreRight charter log
      → WasSeen (part_at shard number place) log (Some part)
      → slice_get (charter.parts (made_until shard number log)) place ≡ Some part
  part_was log number place part right seen =
      let all : AreRight charter (seen.later ++ seen.past) = subst (AreRight charter) seen.is right in
      let was = part_is charter shard number place seen.past part
      (right_past charter shard seen.later seen.past all) seen.was in
      ap (λ (l : List (Transaction Q P)). slice_get (charter.parts (made_until shard number l)) place) seen.is
      ∙ ap (λ (items : List (Item Q)). slice_get (charter.parts items) place)
      (until_stays charter shard number seen.later seen.past all was.within)
      ∙ was.is

  parts_were : (log : List (Transaction Q P)) (number place : ℕ) (parts : List P) → AreRight charter log
      → AreParts shard log number place parts → StandAt (charter.parts (made_until shard number log)) place parts
  parts_were log number place [] right seen = tt
  parts_were log number place (part ∷ parts) right seen = (
    part_was log number place part right seen.0,
    parts_were log number (place + 1) parts right seen.1,
  )

  -- the values that were read are the log as it was with the head: the requests of the base, and the requests of the
  -- batches after it
  pub record IsReadWhole (log : List (Transaction Q P)) (head : Head) (logged : ℕ) (parts : List P)
      (batches : List (List (Item Q))) : Type 0 where
    pub first : List (Item Q)
    pub based : 0 < head.base → charter.parts first ≡ parts
    pub unbased : head.base ≡ 0 → first ≡ []
    pub found : WasFound (shard_log shard) (head_key shard) log
        (record { head = head; items = first ++ all_items batches }) logged
    pub next : AreNext [] (first ++ all_items batches)

  pub read_whole : (log : List (Transaction Q P)) (head : Head) (logged : ℕ) (parts : List P)
      (batches : List (List (Item Q))) → AreRight charter log
      → WasFound (head_of shard) (head_key shard) log head logged
      → (0 < head.base → length parts ≡ head.parts) → AreParts shard log head.base 0 parts
      → head.base + length batches ≡ head.batches → AreBatches shard log head.base batches
      → IsReadWhole log head logged parts batches
  read_whole log head logged parts batches right found parts_long parts_seen batches_long batches_seen =
      let past = found.past in
      let all : AreRight charter (found.later ++ past) = subst (AreRight charter) found.is right in
      let right_then = right_past charter shard found.later past all in
      let many : (head_of shard past).batches ≡ head.batches = ap (λ (h : Head). h.batches) found.was in
      let was = based charter shard past right_then in
      let within = was.within in
      let old : (head_of shard past).base ≡ head.base = ap (λ (h : Head). h.base) found.was in
      let first = made_until shard head.base log in
      let first_then : first ≡ made_until shard head.base past =
      ap (made_until shard head.base) found.is
      ∙ until_stays charter shard head.base found.later past all (omega arith) in
      let items : made shard past ≡ first ++ all_items batches =
      sym (until_all charter shard head.batches past right_then (omega arith))
      ∙ sym (until_stays charter shard head.batches found.later past all (omega arith))
      ∙ sym (ap (made_until shard head.batches) found.is)
      ∙ ap (λ (n : ℕ). made_until shard n log) (sym batches_long)
      ∙ batches_were log head.base batches right batches_seen in
      record {
        first = first;
        based = λ some.
            let long : head.parts ≡ length (charter.parts first) =
            ap (λ (h : Head). h.parts) (sym found.was)
            ∙ was.all (omega arith)
            ∙ ap (λ (n : ℕ). length (base_parts charter shard n past)) old
            ∙ ap (λ (list : List (Item Q)). length (charter.parts list)) (sym first_then) in
            let lasts = parts_long some in
            same_list (charter.parts first) parts (parts_were log head.base 0 parts right parts_seen) (omega arith);
        unbased = λ zero_is. ap (λ (n : ℕ). made_until shard n log) zero_is ∙ none charter shard log;
        found = record {
          later = found.later;
          past = past;
          is = found.is;
          at = found.at;
          was = ap (λ (h : Head). record { head = h; items = made shard past }) found.was
              ∙ ap (λ (list : List (Item Q)). record { head = head; items = list }) items;
        };
        next = subst (AreNext []) items (made_next charter shard past right_then);
      }

  -- from the requests of this many first batches and the batches after them follow the requests of a later head
  pub read_on : (log : List (Transaction Q P)) (number : ℕ) (before : List (Item Q)) (head : Head) (logged : ℕ)
      (batches : List (List (Item Q))) → AreRight charter log → HasRequests log shard number before
      → WasFound (head_of shard) (head_key shard) log head logged
      → number + length batches ≡ head.batches → AreBatches shard log number batches
      → WasFound (shard_log shard) (head_key shard) log
      (record { head = head; items = before ++ all_items batches }) logged
  read_on log number before head logged batches right has found long seen =
      let past = found.past in
      let all : AreRight charter (found.later ++ past) = subst (AreRight charter) found.is right in
      let right_then = right_past charter shard found.later past all in
      let many : (head_of shard past).batches ≡ head.batches = ap (λ (h : Head). h.batches) found.was in
      let was = read_until charter shard number before log right has in
      let items : made shard past ≡ before ++ all_items batches =
      sym (until_all charter shard head.batches past right_then (omega arith))
      ∙ sym (until_stays charter shard head.batches found.later past all (omega arith))
      ∙ sym (ap (made_until shard head.batches) found.is)
      ∙ ap (λ (n : ℕ). made_until shard n log) (sym long)
      ∙ batches_were log number batches right seen
      ∙ ap (λ (list : List (Item Q)). list ++ all_items batches) was.1 in
      record {
        later = found.later;
        past = past;
        is = found.is;
        at = found.at;
        was = ap (λ (h : Head). record { head = h; items = made shard past }) found.was
            ∙ ap (λ (list : List (Item Q)). record { head = head; items = list }) items;
      }
