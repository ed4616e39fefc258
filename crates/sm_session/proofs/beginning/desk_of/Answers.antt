use Rattle.std.proofs.Common.{◌≡◌, None, rules, sym, subst}
use Rattle.sm_place.specs.Books.{BooksView, first_books_fault}
use Rattle.sm_settings.specs.SettingsLine.{values_of}
use Rattle.sm_tasks.specs.Caps.{MeetsCaps}
use Rattle.sm_session.proofs.Beginnings.{all_vacant, memory_alone, no_books_fault, vacant_desk}
use Rattle.sm_session.proofs.beginning.desk_of.Goals as goal

pub want_of_memory-requires : goal.want_of_memory-requires
want_of_memory-requires c =
    let none :
    first_books_fault c.deref.result.now c.deref-2.result.now c.deref-3.result.now c.deref-4.result.now ≡ None =
    rw (c.deref.ensures.value, c.deref-2.ensures.value, c.deref-3.ensures.value, c.deref-4.ensures.value)
    (no_books_fault (values_of c.args.settings.now) c.requires) in
    memory_alone c.in-Err.fault
    (first_books_fault c.deref.result.now c.deref-2.result.now c.deref-3.result.now c.deref-4.result.now)
    c.new.result none c.new.ensures.no_fault c.in-Err.is

pub new-requires-3 : goal.new-requires-3
new-requires-3 c =
    subst (λ (books : BooksView). MeetsCaps c.new-2.result books) (sym c.in-Ok.ensures.ok)
    (c.all_up_meets_caps.ensures.new c.new-2.result
    c.deref.result.now c.deref-2.result.now c.deref-3.result.now c.deref-4.result.now)

pub returns-clause-vacant : goal.returns-clause-vacant
returns-clause-vacant c = vacant_desk (values_of c.args.settings.now) c.new-3.result c.requires (search rules)

pub returns-clause-all_vacant : goal.returns-clause-all_vacant
returns-clause-all_vacant c = all_vacant (values_of c.args.settings.now) c.new-3.result (search rules)
