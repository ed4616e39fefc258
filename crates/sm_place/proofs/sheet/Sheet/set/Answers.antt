use Rattle.std.proofs.Common.{◌<◌, length, nat_eq}
use Rattle.std.specs.HashMap.{get}
use Rattle.sm_place.specs.Sheets.{counts_of}
use Rattle.sm_place.proofs.Sheets.{counts_of-set}
use Rattle.sm_place.proofs.sheet.Sheet.set.Goals as goal

pub returns : goal.returns
returns c =
    let table = c.self.inside.table.now in
    let old = get nat_eq c.self.inside.changed in
    let there : c.args.at < length c.args.self.now = c.requires in
    let inside : c.args.at < length (counts_of table old) = rw (← c.self.view_is) at there in
    rw (← c.self.view_is)
    (counts_of-set table old (get nat_eq c.insert.new.self) c.args.at c.args.count inside
    (λ q. c.in_ok-insert.ensures.updates.0 q))
