-- The meaning of a closed board for the clients that came back.
use Rattle.std.proofs.Common.{◌≡◌, ℕ, false, List, ◌++◌, length, arith, subst}
use Rattle.std.specs.Prelude.{All, Option, Some, Result, Ok, Err, IfOk, slice_get}
use mathlib.Core.Option.{some}
use lib.ListN.{get_elem?}
use Rattle.std.proofs.lemmas.List.Elements.{All-weaker}
use Rattle.std.proofs.lemmas.Option.{get_or_from_slice_get, slice_get_within}
use Rattle.sm_body.specs.Service.{Meaning}
use Rattle.sm_ownership.specs.declared.entry.Entry.{Entry}
use Rattle.sm_ownership.specs.declared.mode.Mode.{Mode}
use Rattle.sm_ownership.specs.declared.record.Record.{Record}
use Rattle.sm_ownership.specs.History.{all_of, first_of}
use Rattle.sm_rule.specs.Closing.{WasClosed}
use Rattle.sm_rule.specs.Passes.{PassValue}
use Rattle.sm_rule.specs.Views.{Begins}
use Rattle.sm_rule.specs.lemmas.Passing.{begins_begins}
use Rattle.sm_server.specs.Answers.{AnswerValue, IsAnswer}
use Rattle.sm_calls.specs.Calls.{ClientValue}
use Rattle.sm_cluster.specs.Clusters.{ClusterValue, WasStopped}
use Rattle.sm_cluster.specs.Holding.{AreEndedIn}
use Rattle.sm_cluster.proofs.Placing.{stands_in}

pub ok_then : {T E : Type 0} (result : Result T E) (P : T → Type 0) (R : T → Type 0) → IfOk result P
    → ((value : T) → P value → R value) → IfOk result R
ok_then (Ok value) P R held then = then value held
ok_then (Err refused) P R held then = tt

pub all_of_nobody : {X : Type 0} (P : X → Type 0) (xs : List X) → length xs ≡ 0 → All P xs
all_of_nobody P xs none k d less = absurd (omega (arith, none, less))

-- a hold that has ended in a history has ended in each history that extends it
ended_later : {Q : Type 0} (holds : List (Option (PassValue Q))) (history later : List (Entry Q)) → Begins history later
    → AreEndedIn history holds → AreEndedIn later holds
ended_later holds history later begins ended shard pass is =
    let one = ended shard pass is in
    (one.0, one.1, begins_begins one.0.seen history later one.2 begins)

-- the history that the closing pass had seen extends everything that the cluster told, everything that each client had
-- seen, and the end of each hold
pub closed_stopped : {S Q : Type 0} (keeps : S → ℕ → List Q → Type 0) (limit : S → ℕ) (cluster : ClusterValue Q)
    (told closer : PassValue Q) (clients : List (ClientValue Q)) (rows : List (Record × Option S))
    → WasClosed keeps limit cluster.control.chair closer rows
    → All (λ client. Begins client.pass.seen told.seen) clients → Begins told.seen closer.seen
    → AreEndedIn closer.seen cluster.holds → Begins cluster.told told.seen → WasStopped keeps limit cluster clients rows
closed_stopped {S} {Q} keeps limit cluster told closer clients rows closed all more ended first =
    let history = cluster.control.chair.seen ++ closed.0 in (
      closed.0,
      closed.1,
      closed.2,
      All-weaker (λ (client : ClientValue Q). Begins client.pass.seen told.seen)
          (λ (client : ClientValue Q). Begins client.pass.seen history)
          (λ client seen. begins_begins client.pass.seen told.seen history seen
          (begins_begins told.seen closer.seen history more closed.3)) clients all,
      closed.4,
      ended_later cluster.holds closer.seen history closed.3 ended,
      begins_begins cluster.told told.seen history first (begins_begins told.seen closer.seen history more closed.3),
    )

-- an answer that a returned client had learned is among the requests on which the body of its shard rests
pub lasts : {S Q R : Type 0} (service : Meaning Q R) (keeps : S → ℕ → List Q → Type 0) (limit : S → ℕ)
    (cluster : ClusterValue Q) (clients : List (ClientValue Q)) (rows : List (Record × Option S))
    (client : ClientValue Q) (at shard : ℕ) (mode : Mode) (request : Q) (answer : AnswerValue Q R)
    (row : Record × Option S) → WasStopped keeps limit cluster clients rows → slice_get clients at ≡ Some client
    → IsAnswer service shard mode request answer → Begins answer.note.seen client.pass.seen
    → get_elem? rows shard ≡ some row → row.0.admitted ≡ false → (body : S) × (first : ℕ) × (all : List Q)
    × (row.1 ≡ Some body) × keeps body first all × (slice_get all answer.place ≡ Some request)
lasts {S} {Q} service keeps limit cluster clients rows client at shard mode request answer row stopped there is learned
    at_row idle =
    let history = cluster.control.chair.seen ++ stopped.0 in
    let told : Begins client.pass.seen history =
    subst (λ (one : ClientValue Q). Begins one.pass.seen history) (get_or_from_slice_get clients at client client there)
    (stopped.3 at client (slice_get_within clients at client there)) in
    let left = (stopped.4.1 shard row at_row).2 idle in (
      left.0,
      first_of history shard,
      all_of history shard,
      left.1,
      left.2,
      stands_in service shard mode request answer is history (begins_begins answer.note.seen client.pass.seen history
          learned told),
    )
