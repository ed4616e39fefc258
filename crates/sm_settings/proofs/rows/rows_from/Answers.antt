use Rattle.std.proofs.Common.{◌≡◌, arith, rules, tests, map, Some, None, true, false}
use Rattle.std.specs.List.{list_all}
use Rattle.serde_json.specs.View.{view}
use Rattle.sm_settings.specs.Members.{when}
use Rattle.sm_settings.proofs.Gathered.{judged_rows, refused_rows}
use Rattle.sm_settings.proofs.rows.rows_from.Goals as goal

pub returns-in_default-clause-rows : goal.returns-in_default-clause-rows
returns-in_default-clause-rows g c =
    let rows = map g.T.Row.row_of (map view c.args.values.now) in
    let none : None ≡ when (list_all (g.T.Row.is_row c.args.groups) rows) rows = search (rules, tests) in
    refused_rows _ _ rows none (g.met.T.Row.refused c.args.bounds c.args.groups c.args.servers.now rows)

pub returns-then-keep_rule-clause-rows : goal.returns-then-keep_rule-clause-rows
returns-then-keep_rule-clause-rows g c =
    let rows = map g.T.Row.row_of (map view c.args.values.now) in
    let some : Some c.in-Some.rows.items ≡ when (list_all (g.T.Row.is_row c.args.groups) rows) rows =
    search (rules, tests) in
    judged_rows (g.T.Row.rule c.args.bounds c.args.groups c.args.servers.now) _ true _ rows some (search (rules, tests))

pub returns-else-keep_rule-clause-rows : goal.returns-else-keep_rule-clause-rows
returns-else-keep_rule-clause-rows g c =
    let rows = map g.T.Row.row_of (map view c.args.values.now) in
    let some : Some c.in-Some.rows.items ≡ when (list_all (g.T.Row.is_row c.args.groups) rows) rows =
    search (rules, tests) in
    judged_rows (g.T.Row.rule c.args.bounds c.args.groups c.args.servers.now) _ false _ rows some
    (search (rules, tests))

pub returns-then-keep_rule-clause-few : goal.returns-then-keep_rule-clause-few
returns-then-keep_rule-clause-few g c =
    let keeps : g.T.Row.rule c.args.bounds c.args.groups c.args.servers.now c.deref.result.now ≡ true =
    search (rules, tests) in
    let few = g.met.T.Row.few c.args.bounds c.args.groups c.args.servers.now c.deref.result.now keeps in
    let len = c.deref.ensures.len in
    omega (arith, few, len)
