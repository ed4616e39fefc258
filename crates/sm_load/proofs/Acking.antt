-- The answers that clients learn, one call after another and one client beside another.
use Rattle.std.proofs.Common.{◌≡◌, ◌+◌, ℕ, zero, suc, Bool, true, false, add-one, arith, refl, sym, ◌∙◌, subst}
use Rattle.std.specs.Prelude.{ℤ, MatchBool, Option, Some, None}
use Rattle.std.specs.Option.{is_some}
use Rattle.sm_body.specs.Service.{Meaning}
use Rattle.sm_ranges.specs.Ranges.{shard_of}
use Rattle.sm_rule.specs.lemmas.Passing.{begins_begins}
use Rattle.sm_server.specs.Answers.{AnswerValue, IsAnswer}
use Rattle.sm_server.specs.lemmas.Beginnings.{none_begins}
use Rattle.sm_calls.specs.Calls.{ClientValue, Gives}
use Rattle.sm_calls.specs.Since.{IsClientSince}
use Rattle.sm_calls.specs.lemmas.Since.{since_since}
use Rattle.sm_load.specs.Loads.{HasLearned, HasLearnedCount, HasLearnedCounts, HasLearnedReply}

module _ {Q R : Type 0} (service : Meaning Q R) (request : Q) where
  -- an answer that was learned stays learned
  pub learned_later : (a b c : ClientValue Q) (answer : AnswerValue Q R) → IsClientSince b c
      → HasLearned service request a b answer → HasLearned service request a c answer
  learned_later a b c answer since was = record {
    number = was.number;
    gives = was.gives;
    learned = begins_begins answer.note.seen b.pass.seen c.pass.seen was.learned since.seen;
  }

  -- an answer for a client is one for its earlier state
  pub gives_before : (a b : ClientValue Q) (number : ℕ) (answer : AnswerValue Q R) → IsClientSince a b
      → Gives service b number request answer → Gives service a number request answer
  gives_before a b number answer since gives = record {
    number_is = gives.number_is;
    board = gives.board ∙ since.board;
    seen = begins_begins a.pass.seen b.pass.seen answer.note.seen since.seen gives.seen;
    unseen = none_begins answer.note.number a.pass.seen b.pass.seen since.seen gives.unseen;
    mode = gives.mode;
    executed = subst (λ bounds. IsAnswer service (shard_of bounds (service.key_of request)) gives.mode request answer)
        since.bounds gives.executed;
  }

  pub learned_before : (a b c : ClientValue Q) (answer : AnswerValue Q R) → IsClientSince a b
      → HasLearned service request b c answer → HasLearned service request a c answer
  learned_before a b c answer since was =
      record { number = was.number; gives = gives_before a b was.number answer since was.gives; learned = was.learned }

  pub reply_later : (a b c : ClientValue Q) (reply : R) → IsClientSince b c → HasLearnedReply service request a b reply
      → HasLearnedReply service request a c reply
  reply_later a b c reply since was = (was.0, learned_later a b c was.0 since was.1, was.2)

  pub reply_before : (a b c : ClientValue Q) (reply : R) → IsClientSince a b → HasLearnedReply service request b c reply
      → HasLearnedReply service request a c reply
  reply_before a b c reply since was = (was.0, learned_before a b c was.0 since was.1, was.2)

module _ {Q R : Type 0} (service : Meaning Q R) (count : R → Option ℤ) (request : Q) where
  -- an answer with a count, if the client has seen more since
  counted_later : (a b c : ClientValue Q) → IsClientSince b c → HasLearnedCount service count request a b
      → HasLearnedCount service count request a c
  counted_later a b c since was = record {
    reply = was.reply;
    told = was.told;
    learned = reply_later service request a b c was.reply since was.learned;
    tells = was.tells;
    since = since_since a b c was.since since;
  }

  pub counts_later : (a b c : ClientValue Q) (n : ℕ) → IsClientSince b c → HasLearnedCounts service count request a n b
      → HasLearnedCounts service count request a n c
  counts_later a b c zero since was = since_since a b c was since
  counts_later a b c (suc n) since was = (was.0, was.1, counted_later was.0 b c since was.2)

  -- a client that has learned counts has seen no less
  pub counts_since : (a b : ClientValue Q) (n : ℕ) → HasLearnedCounts service count request a n b → IsClientSince a b
  counts_since a b zero was = was
  counts_since a b (suc n) was = since_since a was.0 b (counts_since a was.0 n was.1) was.2.since

  -- one more addition, which was answered with a count or not
  pub one_more : (a b c : ClientValue Q) (acked refused number acked' refused' : ℕ) (is_acked : Bool)
      → MatchBool is_acked (HasLearnedCount service count request b c) (IsClientSince b c)
      → MatchBool is_acked ((acked' ≡ acked + 1) × (refused' ≡ refused)) ((acked' ≡ acked) × (refused' ≡ refused + 1))
      → acked + refused ≡ number → HasLearnedCounts service count request a acked b
      → (acked' + refused' ≡ number + 1) × HasLearnedCounts service count request a acked' c
  one_more a b c acked refused number acked' refused' true did now all was =
      let next : acked' ≡ suc acked = now.0 ∙ add-one acked in (
        omega (arith, now, all),
        subst (λ (n : ℕ). HasLearnedCounts service count request a n c) (sym next) (b, was, did),
      )
  one_more a b c acked refused number acked' refused' false did now all was = (
    omega (arith, now, all),
    subst (λ
        (n : ℕ). HasLearnedCounts service count request a n c) (sym now.0) (counts_later a b c acked did was),
  )

-- the consequence of a count that is told, and of none
pub told_or_not : (is_told : Bool) (count : Option ℤ) (A B : Type 0) → is_told ≡ is_some count
    → ((told : ℤ) → count ≡ Some told → A) → B → MatchBool is_told A B
told_or_not is_told (Some told) A B is some none = subst (λ (b : Bool). MatchBool b A B) (sym is) (some told refl)
told_or_not is_told None A B is some none = subst (λ (b : Bool). MatchBool b A B) (sym is) none
