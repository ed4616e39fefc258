use Rattle.serde_json.specs.View.{view}
use Rattle.sm_settings.proofs.Gathered.{refused_at}
use Rattle.sm_settings.proofs.rows.rows_of.Goals as goal

pub returns-in-None : goal.returns-in-None
returns-in-None g c = refused_at view g.T.Row.row_of
    (g.T.Row.is_row c.args.groups) _ _ _ c.loop-value-test.true c.value-item.is c.in-None.ensures
