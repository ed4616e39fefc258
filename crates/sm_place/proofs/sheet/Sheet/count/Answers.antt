use Rattle.std.proofs.Common.{◌<◌, ◌∙◌, ap, sym, length, nat_eq}
use Rattle.std.specs.Prelude.{slice_index, unwrap_or}
use Rattle.std.specs.HashMap.{get}
use Rattle.sm_place.proofs.Sheets.{at-counts_of, length-counts_of}
use Rattle.sm_place.proofs.sheet.Sheet.count.Goals as goal

pub count_at-requires : goal.count_at-requires
count_at-requires c =
    let there : c.args.at < length c.args.self.now = c.requires in
    rw (length-counts_of c.self.inside.table.now (get nat_eq c.self.inside.changed)) at (rw (← c.self.view_is) at there)

pub returns-in-Some : goal.returns-in-Some
returns-in-Some c =
    let table = c.self.inside.table.now in
    let set = get nat_eq c.self.inside.changed in
    let there : c.args.at < length c.args.self.now = c.requires in
    let inside : c.args.at < length table = rw (length-counts_of table set) at (rw (← c.self.view_is) at there) in
    rw (← c.self.view_is)
    (sym (at-counts_of table set c.args.at inside ∙ ap (λ o. unwrap_or o (slice_index table c.args.at))
    (sym c.in-Some.ensures.value)))

pub returns-in-None : goal.returns-in-None
returns-in-None c =
    let table = c.self.inside.table.now in
    let set = get nat_eq c.self.inside.changed in
    let there : c.args.at < length c.args.self.now = c.requires in
    let inside : c.args.at < length table = rw (length-counts_of table set) at (rw (← c.self.view_is) at there) in
    c.count_at.ensures ∙ rw (← c.self.view_is)
    (sym (at-counts_of table set c.args.at inside ∙ ap (λ o. unwrap_or o (slice_index table c.args.at))
    (sym c.in-None.ensures.value)))
