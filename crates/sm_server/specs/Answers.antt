-- Answers: the effect of executing a request on the history of its note.
use Rattle.std.specs.Prelude.{ℕ, ◌≡◌, ◌+◌, List, [], ◌∷◌, ◌++◌, Some, length}
use Rattle.sm_body.specs.Service.{Meaning}
use Rattle.sm_ownership.specs.declared.entry.Ending.{Ending}
use Rattle.sm_ownership.specs.declared.entry.Ending.TheVariants.{Request}
use Rattle.sm_ownership.specs.declared.entry.Entry.{Entry}
use Rattle.sm_ownership.specs.declared.entry.Kind.TheVariants.{Admit, Done}
use Rattle.sm_ownership.specs.declared.mode.Mode.{Mode}
use Rattle.sm_ownership.specs.History.{all_of, said}
use Rattle.sm_rule.specs.Passes.{PassValue, own}
use Rattle.sm_rule.specs.Views.{entry_of}

-- an answer: the number of its envelope, the server that executed the request, the reply, its place, and a note
pub record AnswerValue (Q R : Type 0) : Type 0 where
  pub number : ℕ
  pub server : ℕ
  pub reply : R
  pub place : ℕ
  pub note : PassValue Q

-- an admission of a server to a shard, for a request that came so, and its end
abbrev pub run_of : {Q : Type 0} → ℕ → ℕ → ℕ → Mode → Ending Q → List (Entry Q)
run_of number shard server mode ending =
    entry_of number shard (Admit server mode) ∷ entry_of number shard (Done ending) ∷ []

-- an answer to this request: its note has done exactly one admission of the shard and the end with the request, which
-- is the last entry that it has seen; place and reply are those of the last request of the shard in that history
pub record IsAnswer {Q R : Type 0} (service : Meaning Q R) (shard : ℕ) (mode : Mode) (request : Q)
    (answer : AnswerValue Q R) : Type 0 where
  pub server : answer.note.server ≡ Some answer.server
  pub ran :
      own answer.note.number answer.note.seen ≡ run_of answer.note.number shard answer.server mode (Request request)
  pub last : (before : List (Entry Q))
      × (answer.note.seen ≡ before ++ entry_of answer.note.number shard (Done (Request request)) ∷ [])
  pub place : answer.place + 1 ≡ length (all_of answer.note.seen shard)
  pub reply : said service.reply_of answer.note.seen shard answer.place ≡ Some answer.reply

-- an answer to some request
abbrev pub IsSomeAnswer : {Q R : Type 0} → Meaning Q R → AnswerValue Q R → Type 0
IsSomeAnswer {Q} service answer =
    (shard : ℕ) × (mode : Mode) × (request : Q) × IsAnswer service shard mode request answer
