-- The result of a load from its clients' calls.
use Rattle.std.specs.Prelude.{ℕ, zero, suc, ℤ, pos, ◌≡◌, ◌+◌, ◌<◌, IfSome, List, [], ◌∷◌, Option, Some, length}
use Rattle.std.specs.Prelude.{slice_index_or, unwrap_or}
use Rattle.sm_body.specs.Service.{Meaning}
use Rattle.sm_rule.specs.Views.{Begins}
use Rattle.sm_server.specs.Answers.{AnswerValue}
use Rattle.sm_calls.specs.Calls.{ClientValue, Gives}
use Rattle.sm_calls.specs.Since.{IsClientSince}
use Rattle.sm_load.specs.declared.loading.LoadReport.{LoadReport}

-- each of the clients is of the same board with the same bounds, and has seen no less
abbrev pub AreClientsSince : {Q : Type 0} → List (ClientValue Q) → List (ClientValue Q) → Type 0
AreClientsSince {Q} before after =
    (length after ≡ length before)
    × ((at : ℕ) (d : ClientValue Q) → at < length before
    → IsClientSince (slice_index_or before at d) (slice_index_or after at d))

-- an answer to the request for a client, which it has learned since
pub record HasLearned {Q R : Type 0} (service : Meaning Q R) (request : Q) (before after : ClientValue Q)
    (answer : AnswerValue Q R) : Type 0 where
  pub number : ℕ
  pub gives : Gives service before number request answer
  pub learned : Begins answer.note.seen after.pass.seen

-- the client has since learned an answer with this reply
abbrev pub HasLearnedReply : {Q R : Type 0} → Meaning Q R → Q → ClientValue Q → ClientValue Q → R → Type 0
HasLearnedReply {Q} {R} service request before after reply =
    (answer : AnswerValue Q R) × HasLearned service request before after answer × (answer.reply ≡ reply)

-- the count that the client learned, or 0 if the answer has none
abbrev pub WasTold : {Q R : Type 0} → Meaning Q R → (R → Option ℤ) → Q → ClientValue Q → ClientValue Q → ℤ → Type 0
WasTold {Q} {R} service count request before after told =
    (reply : R) × HasLearnedReply service request before after reply × (told ≡ unwrap_or (count reply) (pos 0))

-- the client was told the count twice, and had learned the first one when it asked for the second; if there is none, it
-- wasn't told
abbrev pub WasToldTwice : {Q R : Type 0} → Meaning Q R → (R → Option ℤ) → Q → ClientValue Q → Option ℤ → Option ℤ
    → ClientValue Q → Type 0
WasToldTwice {Q} service count request before first second after =
    (between : ClientValue Q) × IsClientSince before between × IsClientSince between after
    × IfSome first (WasTold service count request before between)
    × IfSome second (WasTold service count request between after)

-- the client has since learned an answer to the request with a count
pub record HasLearnedCount {Q R : Type 0} (service : Meaning Q R) (count : R → Option ℤ) (request : Q)
    (before after : ClientValue Q) : Type 0 where
  pub reply : R
  pub told : ℤ
  pub learned : HasLearnedReply service request before after reply
  pub tells : count reply ≡ Some told
  pub since : IsClientSince before after

-- it has learned so many of them, one after another: each is an answer for a client that had learned those before
abbrev pub HasLearnedCounts : {Q R : Type 0} → Meaning Q R → (R → Option ℤ) → Q → ClientValue Q → ℕ → ClientValue Q
    → Type 0
HasLearnedCounts service count request before zero after = IsClientSince before after
HasLearnedCounts {Q} service count request before (suc n) after =
    (between : ClientValue Q) × HasLearnedCounts service count request before n between
    × HasLearnedCount service count request between after

-- the client made so many additions; it has learned so many answers with counts, and the others were refused
pub record HasAdded {Q R : Type 0} (service : Meaning Q R) (count : R → Option ℤ) (request : Q) (each : ℕ)
    (before : ClientValue Q) (acked refused : ℕ) (after : ClientValue Q) : Type 0 where
  pub all : acked + refused ≡ each
  pub learned : HasLearnedCounts service count request before acked after

-- each item has changed in this way, and their counts add up to these two
abbrev pub AddUp : {C : Type 0} → (C → ℕ → ℕ → C → Type 0) → List C → ℕ → ℕ → List C → Type 0
AddUp changed [] acked refused [] = (acked ≡ 0) × (refused ≡ 0)
AddUp changed (before ∷ befores) acked refused (after ∷ afters) =
    (mine : ℕ) × (others : ℕ) × (mine_not : ℕ) × (others_not : ℕ) × (acked ≡ mine + others)
    × (refused ≡ mine_not + others_not)
    × changed before mine mine_not after × AddUp changed befores others others_not afters
AddUp changed before acked refused after = ⊥

-- each of the clients made so many additions, of which so many were answered in all, and so many refused
abbrev pub HaveAdded : {Q R : Type 0} → Meaning Q R → (R → Option ℤ) → Q → ℕ → List (ClientValue Q) → ℕ → ℕ
    → List (ClientValue Q) → Type 0
HaveAdded service count request each before acked refused after =
    AddUp (HasAdded service count request each) before acked refused after

-- the first of the clients was told the count twice, and the others made so many additions each; the report has the
-- counts, and how many additions were answered and refused
abbrev pub HaveLoaded : {Q R : Type 0} → Meaning Q R → (R → Option ℤ) → Q → Q → ℕ → List (ClientValue Q) → LoadReport
    → List (ClientValue Q) → Type 0
HaveLoaded service count asks adds each (first ∷ others) report (later ∷ others_later) =
    WasToldTwice service count asks first report.before report.after later
    × HaveAdded service count adds each others report.acked report.refused others_later
HaveLoaded service count asks adds each before report after = ⊥
