use Rattle.std.proofs.Common.{◌≡◌, refl, subst, sym, ◌∙◌}
use Rattle.std.specs.Prelude.{All}
use Rattle.std.proofs.lemmas.List.Elements.{All-map}
use Rattle.sm_ranges.specs.declared.stand.Stand.TheVariants.{Vacant}
use Rattle.sm_place.specs.declared.shard.Shard.{Shard}
use Rattle.sm_place.specs.Books.{BooksView, vacant_shard}
use Rattle.sm_tasks.specs.Caps.{MeetsCaps}
use Rattle.std.proofs.lemmas.Result.{err_from_is_err_and}
use Rattle.sm_foreign.proofs.Faults.{told}
use Rattle.sm_foreign.proofs.chief.desk_over.Goals as goal

pub new-requires-3 : goal.new-requires-3
new-requires-3 c = subst (λ (books : BooksView). MeetsCaps c.new-2.result books) (sym c.in_ok-books.ensures.ok)
    (c.all_up_meets_caps.ensures.new c.new-2.result _ _ _ _)

pub returns-clause-vacant : goal.returns-clause-vacant
returns-clause-vacant c =
    subst (λ (books : BooksView). All (λ (shard : Shard). shard.stand ≡ Vacant) books.shards) (sym
    (c.new-3.ensures.books ∙ c.in_ok-books.ensures.ok))
    (All-map (λ (shard : Shard). shard.stand ≡ Vacant) vacant_shard _ (λ k d h. refl))

pub returns-in_err-books-clause-refused : goal.returns-in_err-books-clause-refused
returns-in_err-books-clause-refused c =
    let is = err_from_is_err_and c.from_residual.result c.from_residual.ensures.1 in
    rw (is.1, is.2) (told _ c.new.result c.in_err-books.field-0.0 c.in_err-books.was c.new.ensures.fault
    c.new.ensures.no_fault)
