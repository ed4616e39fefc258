-- The stands of the books are those of the history that the chair has seen.
use Rattle.std.proofs.Common.{◌≡◌, ◌≢◌, ℕ, ◌<◌, List, [], ◌∷◌, ◌++◌, length, sym, ap, ◌∙◌, subst, arith, ⊎_elim}
use Rattle.std.specs.Prelude.{All, None, unwrap_or}
use Rattle.std.proofs.lemmas.Bool.{cases_eq, cases_lt}
use Rattle.std.proofs.lemmas.List.{append-nil, get_or-set_other, get_or-set_same, get_or_past, length-set}
use Rattle.std.proofs.lemmas.List.Elements.{All-get_or}
use Rattle.sm_ranges.specs.declared.stand.Stand.{Stand}
use Rattle.sm_ranges.specs.declared.stand.Stand.TheVariants.{Vacant}
use Rattle.sm_ownership.specs.declared.change.Change.{Change}
use Rattle.sm_ownership.specs.declared.entry.Entry.{Entry}
use Rattle.sm_ownership.specs.declared.entry.Kind.{Kind}
use Rattle.sm_ownership.specs.declared.entry.Kind.TheVariants.{Change as Changed}
use Rattle.sm_ownership.specs.declared.record.Record.{Record}
use Rattle.sm_ownership.specs.lemmas.Growth.{fits-push, legal_prefix, record_at-empty, record_at-push}
use Rattle.sm_ownership.specs.lemmas.Growth.{record_at-push_other}
use Rattle.sm_ownership.specs.lemmas.Lasting.{stand_stays}
use Rattle.sm_ownership.specs.History.{IsLegal, NoneBy}
use Rattle.sm_ownership.specs.Rules.{stand_after}
use Rattle.sm_place.specs.declared.shard.Shard.{Shard}
use Rattle.sm_place.specs.Books.{BooksView, moved, no_shard, shard_at, with_stand}
use Rattle.sm_rule.specs.Boards.{BoardValue}
use Rattle.sm_rule.specs.Changes.{ChairAdds, ChairLooks, ChairValue}
use Rattle.sm_rule.specs.Views.{entry_of, record_in}
use Rattle.sm_desk.specs.declared.command.Command.TheVariants.{Change as ChangeOf}
use Rattle.sm_desk.specs.lemmas.Changes.{let_through}
use Rattle.sm_desk.specs.Desk.{DeskView, books_changed, commanded, desk_change_fault}
use Rattle.sm_control.specs.Controls.{AreStandsIn, AreStandsSeen}

-- the stands of a chair that sees this history on the same board
module _ {Q : Type 0} (books : BooksView) (p r : ChairValue Q) (board : r.board ≡ p.board) where
  pub at_board : (history : List (Entry Q)) → r.seen ≡ history → AreStandsIn books p.board.limits history
      → AreStandsSeen books r
  at_board history is same = subst (λ (pair : BoardValue × List (Entry Q)). AreStandsIn books pair.0.limits pair.1)
      (λ i. (sym board i, sym is i)) same

module _ {Q : Type 0} (books : BooksView) (p : ChairValue Q) (same : AreStandsSeen books p) where
  -- passes change no stands
  pub stands_last : (others : List (Entry Q)) → IsLegal p.board.limits.count p.board.limits.ceiling (p.seen ++ others)
      → NoneBy 0 others → AreStandsIn books p.board.limits (p.seen ++ others)
  stands_last others legal none = (
    same.0,
    λ shard. same.1 shard ∙ sym (stand_stays p.board.limits.count p.board.limits.ceiling p.seen others shard
        legal none),
  )

  -- the chair has looked
  pub stands_looked : (r : ChairValue Q) → ChairLooks p r → AreStandsSeen books r
  stands_looked r looked =
      let grows = looked.0 in
      let more : r.seen ≡ p.seen ++ grows.0 = grows.1 ∙ append-nil (p.seen ++ grows.0) in
      let legal = subst (λ entries. IsLegal p.board.limits.count p.board.limits.ceiling entries) more grows.3 in
      at_board books p r looked.1 (p.seen ++ grows.0) more (stands_last grows.0 legal grows.2)

  -- the chair has made a change
  pub stands_added : (r : ChairValue Q) (shard : ℕ) (change : Change) → shard < length books.shards
      → ChairAdds p shard change r → AreStandsSeen (books_changed books shard change) r
  stands_added r shard change within added =
      let limits = p.board.limits in
      let grows = added.0 in
      let before = p.seen ++ grows.0 in
      let kind : Kind Q = Changed change in
      let entry : Entry Q = entry_of 0 shard kind in
      let legal : IsLegal limits.count limits.ceiling (before ++ entry ∷ []) =
      subst (λ entries. IsLegal limits.count limits.ceiling entries) grows.1 grows.3 in
      let kept = stands_last grows.0 (legal_prefix limits.count limits.ceiling before (entry ∷ []) legal) grows.2 in
      let fit = fits-push limits.count limits.ceiling before entry legal in
      let stand : Stand = (shard_at books.shards shard).stand in
      let next : Stand = unwrap_or (stand_after stand change) stand in
      let changed : Shard = moved (shard_at books.shards shard) next in
      let here : (record_in limits (before ++ entry ∷ []) shard).stand ≡ next =
      ap (λ (state : Record). state.stand) (record_at-push limits.count limits.ceiling before entry fit)
      ∙ ap (λ (one : Stand). unwrap_or (stand_after one change) one) (sym (kept.1 shard)) in
      let known : (one : ℕ) → (shard_at (with_stand books.shards shard next) one).stand
      ≡ (record_in limits (before ++ entry ∷ []) one).stand =
      λ one.
      ⊎_elim
      (λ (is : one ≡ shard).
      let mine : (shard_at (with_stand books.shards shard next) shard).stand ≡ next =
      ap (λ (row : Shard). row.stand) (get_or-set_same books.shards shard changed no_shard within) in
      subst (λ k. (shard_at (with_stand books.shards shard next) k).stand
      ≡ (record_in limits (before ++ entry ∷ []) k).stand) (sym is) (mine ∙ sym here))
      (λ (apart : one ≢ shard).
      ap (λ (row : Shard). row.stand) (get_or-set_other books.shards shard one changed no_shard apart)
      ∙ (kept.1 one ∙ sym (ap (λ (state : Record). state.stand)
      (record_at-push_other limits.count limits.ceiling before entry one apart fit))))
      (cases_eq one shard) in
      at_board (books_changed books shard change) p r added.1 (before ++ entry ∷ []) grows.1
      (length-set books.shards shard changed ∙ same.0, known)

-- a row of vacant ones is vacant
vacant_row : (shards : List Shard) (k : ℕ) → All (λ shard. shard.stand ≡ Vacant) shards
    → (shard_at shards k).stand ≡ Vacant
vacant_row shards k all =
    ⊎_elim
    (λ within. All-get_or (λ shard. shard.stand ≡ Vacant) shards k no_shard within all)
    (λ past. ap (λ (row : Shard). row.stand) (get_or_past shards k no_shard (omega arith)))
    (cases_lt k (length shards))

-- before anything was done
pub stands_empty : {Q : Type 0} (books : BooksView) (p : ChairValue Q) → p.seen ≡ [] → length books.shards
    ≡ p.board.limits.count → All (λ shard. shard.stand ≡ Vacant) books.shards → AreStandsSeen books p
stands_empty {Q} books p empty count vacant =
    let limits = p.board.limits in
    subst (λ (entries : List (Entry Q)). AreStandsIn books limits entries) (sym empty) (
      count,
      λ shard. vacant_row books.shards shard vacant ∙ sym (ap (λ (state : Record). state.stand)
          (record_at-empty limits.count shard)),
    )

-- the desk has a change that it let through and the chair has made
pub stands_committed : {Q : Type 0} (desk next : DeskView) (p r : ChairValue Q) (shard : ℕ) (change : Change)
    → AreStandsSeen desk.books p → None ≡ desk_change_fault desk.books shard change → ChairAdds p shard change r
    → next ≡ commanded desk (ChangeOf shard change) → AreStandsSeen next.books r
stands_committed {Q} desk next p r shard change same free added is =
    let through = let_through desk.books shard change (sym free) in
    let there : AreStandsSeen (books_changed desk.books shard change) r =
    stands_added desk.books p same r shard change through.within added in
    let books : next.books ≡ books_changed desk.books shard change = ap (λ (one : DeskView). one.books) is in
    subst (λ (one : BooksView). AreStandsSeen one r) (sym books) there
