use Rattle.std.proofs.Common.{◌≡◌, None}
use Rattle.sm_place.specs.Books.{first_books_fault}
use Rattle.sm_settings.specs.SettingsLine.{values_of}
use Rattle.sm_foreign.proofs.Faults.{memory_alone, no_books_fault}
use Rattle.sm_foreign.proofs.chief.Chief.by_settings.Goals as goal

pub returns-in-Err-desk_over-clause-refused : goal.returns-in-Err-desk_over-clause-refused
returns-in-Err-desk_over-clause-refused g c =
    let none :
    first_books_fault c.deref.result.now c.deref-2.result.now c.deref-3.result.now c.deref-4.result.now ≡ None =
    rw (c.deref.ensures.value, c.deref-2.ensures.value, c.deref-3.ensures.value, c.deref-4.ensures.value)
    (no_books_fault (values_of c.args.settings.now) c.requires.rules) in
    rw (memory_alone
    (first_books_fault c.deref.result.now c.deref-2.result.now c.deref-3.result.now c.deref-4.result.now)
    c.in-Err-desk_over.fault c.in-Err-desk_over.ensures.refused none) tt
