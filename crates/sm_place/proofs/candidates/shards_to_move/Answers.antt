use Rattle.std.proofs.Common.{◌≡◌, ◌∙◌, ◌++◌, ◌∷◌, [], ap, sym, ℕ}
use Rattle.sm_place.specs.Plans.{stands_to_move}
use Rattle.sm_place.specs.Books.{shard_at}
use Rattle.sm_place.specs.declared.shard.Shard.{Shard}
use Rattle.sm_place.proofs.Sharing.{shard_is}
use Rattle.sm_place.proofs.Planning.{filter-below_yes, filter-below_no}
use Rattle.sm_place.proofs.candidates.shards_to_move.Goals as goal
use Rattle.sm_place.proofs.candidates.shards_to_move.Goals.{then-stands_to_move+in_ok-push, else-stands_to_move}

pub loop-at-preserved : goal.loop-at-preserved
loop-at-preserved c =
    let i = c.loop-at.at in
    let moves = λ (k : ℕ). stands_to_move c.args.from.now (shard_at c.args.shards.now k).stand in
    let is = shard_is c.args.shards.now i c.index-shards-at.result c.loop-at-test.true c.index-shards-at.is in
    let here : c.stands_to_move.result ≡ moves i =
    c.stands_to_move.ensures ∙ ap (λ (s : Shard). stands_to_move c.args.from.now s.stand) is in
    elim c.if-stands_to_move.branch [
      | then-stands_to_move+in_ok-push w ↦
          let pushed : w.push.new.self.items ≡ c.loop-at.numbers.items ++ i ∷ [] =
          w.in_ok-push.ensures.items ∙ ap (λ k. c.loop-at.numbers.items ++ k ∷ []) w.shard_id.ensures in
          rw w.numbers-is (pushed ∙ filter-below_yes moves i c.loop-at.numbers.items c.loop-at.invariant
          (sym here ∙ w.if-stands_to_move.true))
      | else-stands_to_move w ↦ rw w.numbers-is (filter-below_no moves i c.loop-at.numbers.items c.loop-at.invariant
          (sym here ∙ w.if-stands_to_move.false))
    ]
