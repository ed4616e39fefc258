use Rattle.std.proofs.Common.{ap, nat_eq}
use Rattle.std.specs.HashMap.{get}
use Rattle.std.specs.Map.{lookup}
use Rattle.sm_place.proofs.Sheets.{counts_of-none}
use Rattle.sm_place.proofs.sheet.Sheet.new.Goals as goal

pub returns : goal.returns
returns c =
    counts_of-none c.args.table.now (get nat_eq c.new.result)
    (λ q. ap (λ entries. lookup (nat_eq q) entries) c.new.ensures.empty)
