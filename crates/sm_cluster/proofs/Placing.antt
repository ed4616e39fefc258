-- The places of answers' requests among all requests of their shards.
use Rattle.std.proofs.Common.{◌≡◌, ◌≢◌, ◌<◌, ◌≤◌, ℕ, ◌+◌, ◌⊎◌, inl, inr, List, [], ◌∷◌, ◌++◌, drop, length, take, refl}
use Rattle.std.proofs.Common.{sym, ap, ◌∙◌, subst, arith, append_assoc, eq-eqb, length-append, rules, take-append-drop}
use Rattle.std.specs.Prelude.{Option, Some, slice_get}
use Rattle.std.specs.Option.{option_map}
use Rattle.std.proofs.lemmas.Bool.{cases_lt}
use Rattle.std.proofs.lemmas.List.{append-nil, take-append-le, take_at}
use Rattle.std.proofs.lemmas.List.Elements.{All-head, All-tail}
use Rattle.std.proofs.lemmas.Option.{slice_get_within}
use Rattle.sm_body.specs.Service.{Meaning}
use Rattle.sm_ownership.specs.declared.entry.Ending.TheVariants.{Request}
use Rattle.sm_ownership.specs.declared.entry.Entry.{Entry}
use Rattle.sm_ownership.specs.declared.entry.Kind.TheVariants.{Done}
use Rattle.sm_ownership.specs.declared.mode.Mode.{Mode}
use Rattle.sm_ownership.specs.History.{NoneBy, all_of}
use Rattle.sm_ownership.specs.lemmas.Requests.{all_of-append}
use Rattle.sm_rule.specs.Views.{Begins, entry_of}
use Rattle.sm_rule.specs.lemmas.Passing.{begins_begins}
use Rattle.sm_server.specs.Answers.{AnswerValue, IsAnswer}

same_some : {X : Type 0} (x y : X) → Some x ≡ Some y → x ≡ y
same_some x y same = search rules

slice_get-middle : {X : Type 0} (before : List X) (x : X) (after : List X)
    → slice_get (before ++ x ∷ after) (length before) ≡ Some x
slice_get-middle [] x after = refl
slice_get-middle (one ∷ before) x after = slice_get-middle before x after

-- the statement about a request at its place
said_at : {Q R : Type 0} (reply_of : List Q → Q → R) (all : List Q) (place : ℕ) (request : Q) (reply : R)
    → slice_get all place ≡ Some request → option_map (λ (q : Q). reply_of (take place all) q) (slice_get all place)
    ≡ Some reply → reply ≡ reply_of (take place all) request
said_at {Q} reply_of all place request reply at said =
    same_some reply (reply_of (take place all) request)
    (sym said ∙ ap (λ (found : Option Q). option_map (λ (q : Q). reply_of (take place all) q) found) at)

own_request : {Q : Type 0} (number shard : ℕ) (request : Q)
    → all_of (entry_of number shard (Done (Request request)) ∷ []) shard ≡ request ∷ []
own_request number shard request = rw (eq-eqb shard shard refl) refl

all_begins : {Q : Type 0} (history later : List (Entry Q)) (shard : ℕ) (begins : Begins history later)
    → all_of later shard ≡ all_of history shard ++ all_of begins.0 shard
all_begins history later shard begins =
    ap (λ entries. all_of entries shard) begins.1 ∙ all_of-append history begins.0 shard

-- an answer
module _ {Q R : Type 0} (service : Meaning Q R) (shard : ℕ) (mode : Mode) (request : Q) (answer : AnswerValue Q R)
    (is : IsAnswer service shard mode request answer) where
  -- all requests of the shard up to the answer
  all_is : all_of answer.note.seen shard ≡ all_of is.last.0 shard ++ request ∷ []
  all_is =
      ap (λ history. all_of history shard) is.last.1
      ∙ (all_of-append is.last.0 (entry_of answer.note.number shard (Done (Request request)) ∷ []) shard
      ∙ ap (λ list. all_of is.last.0 shard ++ list) (own_request answer.note.number shard request))

  pub place_is : answer.place ≡ length (all_of is.last.0 shard)
  place_is =
      let count = is.place in
      let long = ap length all_is in
      omega (arith, count, long, length-append (all_of is.last.0 shard) (request ∷ []))

  stands_there : slice_get (all_of answer.note.seen shard) answer.place ≡ Some request
  stands_there =
      subst (λ (pair : List Q × ℕ). slice_get pair.0 pair.1 ≡ Some request) (λ i. (sym all_is i, sym place_is i))
      (slice_get-middle (all_of is.last.0 shard) request [])

  pub replies_there : answer.reply ≡ service.reply_of (take answer.place (all_of answer.note.seen shard)) request
  replies_there =
      said_at service.reply_of (all_of answer.note.seen shard) answer.place request answer.reply stands_there is.reply

  -- all requests before the answered one
  pub before_is : take answer.place (all_of answer.note.seen shard) ≡ all_of is.last.0 shard
  before_is =
      subst (λ (pair : List Q × ℕ). take pair.1 pair.0 ≡ all_of is.last.0 shard) (λ i. (sym all_is i, sym place_is i))
      (take_at (all_of is.last.0 shard) (request ∷ []) (length (all_of is.last.0 shard)) refl)

  -- in every history that extends the answer's, the request is at the answer's place, and the reply depends on those
  -- before it
  module _ (history : List (Entry Q)) (extends : Begins answer.note.seen history) where
    pub stands_in : slice_get (all_of history shard) answer.place ≡ Some request
    stands_in =
        subst (λ list. slice_get list answer.place ≡ Some request) (sym all_in)
        (subst (λ n. slice_get (all_of is.last.0 shard ++ request ∷ all_of extends.0 shard) n ≡ Some request)
        (sym place_is) (slice_get-middle (all_of is.last.0 shard) request (all_of extends.0 shard)))
      where
        all_in : all_of history shard ≡ all_of is.last.0 shard ++ request ∷ all_of extends.0 shard
        all_in =
            all_begins answer.note.seen history shard extends
            ∙ (ap (λ list. list ++ all_of extends.0 shard) all_is
            ∙ append_assoc (all_of is.last.0 shard) (request ∷ []) (all_of extends.0 shard))

    pub replies_in : answer.reply ≡ service.reply_of (take answer.place (all_of history shard)) request
    replies_in =
        let within : answer.place ≤ length (all_of answer.note.seen shard) = let count = is.place in
        omega (arith, count) in
        let same : take answer.place (all_of history shard) ≡ take answer.place (all_of answer.note.seen shard) =
        ap (take answer.place) (all_begins answer.note.seen history shard extends)
        ∙ take-append-le answer.place (all_of answer.note.seen shard) (all_of extends.0 shard) within in
        replies_there ∙ ap (λ list. service.reply_of list request) (sym same)

-- two answers at one place in one history
pub agree : {Q R : Type 0} (service : Meaning Q R) (shard : ℕ) (mode other_mode : Mode) (request other_request : Q)
    (answer other : AnswerValue Q R) (history : List (Entry Q)) → IsAnswer service shard mode request answer
    → IsAnswer service shard other_mode other_request other → Begins answer.note.seen history
    → Begins other.note.seen history → answer.place ≡ other.place
    → (request ≡ other_request) × (answer.reply ≡ other.reply)
agree service shard mode other_mode request other_request answer other history is other_is extends other_extends place =
    let all = all_of history shard in
    let same : request ≡ other_request =
    same_some request other_request
    (sym (stands_in service shard mode request answer is history extends)
    ∙ (ap (slice_get all) place
    ∙ stands_in service shard other_mode other_request other other_is history other_extends)) in (
      same,
      replies_in service shard mode request answer is history extends
          ∙ ((λ i. service.reply_of (take (place i) all) (same i))
          ∙ sym (replies_in service shard other_mode other_request other other_is history other_extends)),
    )

none_last : {Q : Type 0} (number : ℕ) (front : List (Entry Q)) (entry : Entry Q) → NoneBy number (front ++ entry ∷ [])
    → entry.actor ≢ number
none_last number [] entry none = All-head (λ one. one.actor ≢ number) entry [] none
none_last number (one ∷ front) entry none =
    none_last number front entry (All-tail (λ one. one.actor ≢ number) one (front ++ entry ∷ []) none)

-- a history that a longer one begins with, and that has no entry of the actor of the longer one's last entry, begins
-- the front of that
pub begins_front : {Q : Type 0} (number : ℕ) (seen front : List (Entry Q)) (entry : Entry Q) → entry.actor ≡ number
    → NoneBy number seen → Begins seen (front ++ entry ∷ []) → Begins seen front
begins_front number seen front entry own none begins = by_more begins.0 begins.1 (cases_lt (length front) (length seen))
  where
    count : (more : List (Entry _)) → front ++ entry ∷ [] ≡ seen ++ more → length front + 1 ≡ length seen + length more
    count more is =
        let same = ap length is in
        omega (arith, same, length-append front (entry ∷ []), length-append seen more)

    by_more : (more : List (Entry _)) → front ++ entry ∷ [] ≡ seen ++ more
        → (length front < length seen) ⊎ (length seen ≤ length front) → Begins seen front
    by_more more is (inr short) =
        let start : take (length seen) front ≡ seen =
        sym (take-append-le (length seen) front (entry ∷ []) short)
        ∙ (ap (take (length seen)) is ∙ take_at seen more (length seen) refl) in (
          drop (length seen) front,
          sym (take-append-drop (length seen) front) ∙ ap (λ list. list ++ drop (length seen) front) start,
        )
    by_more [] is (inl long) =
        absurd (none_last number front entry (subst (NoneBy number) (sym (is ∙ append-nil seen)) none) own)
    by_more (one ∷ more) is (inl long) = let n = count (one ∷ more) is in absurd (omega (arith, n))

-- an answer that extends the history of a caller who had learned another answer of the shard
pub in_order : {Q R : Type 0} (service : Meaning Q R) (shard : ℕ) (mode next_mode : Mode) (request next : Q)
    (learned answer : AnswerValue Q R) (seen : List (Entry Q)) → IsAnswer service shard mode request learned
    → IsAnswer service shard next_mode next answer → Begins learned.note.seen seen → Begins seen answer.note.seen
    → NoneBy answer.note.number seen → (learned.place < answer.place)
    × (slice_get (take answer.place (all_of answer.note.seen shard)) learned.place ≡ Some request)
    × (answer.reply ≡ service.reply_of (take answer.place (all_of answer.note.seen shard)) next)
in_order service shard mode next_mode request next learned answer seen learned_is is told extends none =
    let last = entry_of answer.note.number shard (Done (Request next)) in
    let front : Begins seen is.last.0 = begins_front answer.note.number seen is.last.0 last refl none
    (subst (λ history. Begins seen history) is.last.1 extends) in
    let there : slice_get (all_of is.last.0 shard) learned.place ≡ Some request =
    stands_in service shard mode request learned learned_is is.last.0
    (begins_begins learned.note.seen seen is.last.0 told front) in (
      subst (λ n. learned.place < n) (sym (place_is service shard next_mode next answer is))
          (slice_get_within (all_of is.last.0 shard) learned.place request there),
      subst (λ list. slice_get list learned.place ≡ Some request)
          (sym (before_is service shard next_mode next answer is)) there,
      replies_there service shard next_mode next answer is,
    )
