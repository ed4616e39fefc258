use Rattle.std.proofs.Common.{◌≡◌, inl, refl, subst, sym}
use Rattle.sm_place.specs.Books.{BooksView, state_of}
use Rattle.sm_director.proofs.director.Director.run_of.Goals as goal

pub returns-clause-told : goal.returns-clause-told
returns-clause-told c =
    let state = subst (λ (books : BooksView). c.state.result ≡ state_of books c.args.server) c.books.ensures
    c.state.ensures in (
      c.in_ok-control.control.now,
      c.in_ok-control.ensures.stands,
      λ i. record { state = state i; process = c.process_of.ensures i },
    )

pub returns-then-not-knows-clause-refused : goal.returns-then-not-knows-clause-refused
returns-then-not-knows-clause-refused c =
    inl (refl, (c.in_ok-control.control.now, c.in_ok-control.ensures.stands, sym c.if-not-knows.ensures))
