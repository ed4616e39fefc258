use Rattle.std.proofs.Common.{sym, subst}
use Rattle.sm_place.specs.Books.{BooksView}
use Rattle.sm_tasks.specs.Caps.{MeetsCaps}
use Rattle.sm_director.proofs.director.Director.desk.Goals as goal

pub new-requires-2 : goal.new-requires-2
new-requires-2 c = subst (λ (books : BooksView). MeetsCaps c.args.self.now.caps books) (sym c.in-Ok.ensures.ok)
    (c.all_up_meets_caps.ensures.new c.args.self.now.caps _ _ _ _)
