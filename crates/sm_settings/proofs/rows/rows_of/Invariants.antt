use Rattle.std.proofs.Common.{◌≡◌, true, map, take}
use Rattle.std.specs.List.{list_all}
use Rattle.serde_json.specs.View.{view}
use Rattle.sm_settings.proofs.rows.rows_of.Given as goal

abbrev pub invariant-loop-value : goal.invariant-loop-value
invariant-loop-value g l = (l.rows.items ≡ map g.T.Row.row_of (map view (take l.value-index l.values)))
    × (list_all (g.T.Row.is_row l.groups) l.rows.items ≡ true)
