use Rattle.std.proofs.Common.{◌≡◌, ◌∙◌, sym, ap, refl, map, length, arith}
use Rattle.std.specs.Prelude.{is_none}
use Rattle.std.proofs.lemmas.Result.{err_from_is_err_and}
use Rattle.sm_ranges.specs.LayoutFault.{first_layout_fault}
use Rattle.sm_settings.specs.Members.{string_of}
use Rattle.sm_settings.specs.SettingsRows.{server_row_of, group_row_of, shard_row_of, rule_of_servers, rule_of_groups}
use Rattle.sm_settings.specs.SettingsRows.{rule_of_shards}
use Rattle.sm_settings.proofs.Gathered.{given_by, broken_by, within_limits, beyond_limits}
use Rattle.sm_settings.proofs.settings.judge_base.Goals as goal

pub returns-then-not-has_version-clause-err : goal.returns-then-not-has_version-clause-err
returns-then-not-has_version-clause-err c =
    λ _. rw (sym c.if-not-has_version.ensures) refl

pub returns-then-not-has_shape-clause-err : goal.returns-then-not-has_shape-clause-err
returns-then-not-has_shape-clause-err c =
    λ _. rw (sym c.if-not-has_version.ensures, sym c.if-not-has_shape.ensures) refl

pub returns-in_default-clause-err : goal.returns-in_default-clause-err
returns-in_default-clause-err c =
    let broken = broken_by (map string_of) (λ bounds. is_none (first_layout_fault bounds)) _ _
    (rw c.in_default.is at c.in_ok-layout.ensures) c.items.ensures in
    λ _. rw (sym c.if-not-has_version.ensures, sym c.if-not-has_shape.ensures, broken) refl

pub returns-in_default-2-clause-err : goal.returns-in_default-2-clause-err
returns-in_default-2-clause-err c =
    let layout = given_by (map string_of) (λ bounds. is_none (first_layout_fault bounds)) c.in-Some.layout _ _
    (rw c.in-Some.is at c.in_ok-layout.ensures) c.items.ensures in
    let broken = broken_by (map server_row_of) rule_of_servers _ _
    (rw c.in_default-2.is at c.in_ok-servers.ensures.rows) c.items-2.ensures in
    λ _. rw (sym c.if-not-has_version.ensures, sym c.if-not-has_shape.ensures, layout.0, broken) refl

pub returns-in_default-3-clause-err : goal.returns-in_default-3-clause-err
returns-in_default-3-clause-err c =
    let layout = given_by (map string_of) (λ bounds. is_none (first_layout_fault bounds)) c.in-Some.layout _ _
    (rw c.in-Some.is at c.in_ok-layout.ensures) c.items.ensures in
    let servers = given_by (map server_row_of) rule_of_servers c.in-Some-2.servers.items _ _
    (rw c.in-Some-2.is at c.in_ok-servers.ensures.rows) c.items-2.ensures in
    let broken = broken_by (map group_row_of) rule_of_groups _ _
    (rw c.in_default-3.is at c.in_ok-groups.ensures.rows) c.items-3.ensures in
    λ _. rw (sym c.if-not-has_version.ensures, sym c.if-not-has_shape.ensures, layout.0, servers.0, broken) refl

pub returns-in_default-4-clause-err : goal.returns-in_default-4-clause-err
returns-in_default-4-clause-err c =
    let layout = given_by (map string_of) (λ bounds. is_none (first_layout_fault bounds)) c.in-Some.layout _ _
    (rw c.in-Some.is at c.in_ok-layout.ensures) c.items.ensures in
    let servers = given_by (map server_row_of) rule_of_servers c.in-Some-2.servers.items _ _
    (rw c.in-Some-2.is at c.in_ok-servers.ensures.rows) c.items-2.ensures in
    let groups = given_by (map group_row_of) rule_of_groups c.in-Some-3.groups.items _ _
    (rw c.in-Some-3.is at c.in_ok-groups.ensures.rows) c.items-3.ensures in
    let count = c.count-bounds.ensures.value ∙ ap length layout.1 in
    let held : c.len.result ≡ length c.in-Some-3.groups.items = omega (arith, c.len.ensures, c.in-Some-3.groups.ok.0) in
    let group_count = held ∙ ap length groups.1 in
    let broken = broken_by (map shard_row_of) (rule_of_shards c.count-bounds.result c.len.result) _ _
    (rw c.in_default-4.is at c.in_ok-shards.ensures.rows) c.items-rows.ensures in
    λ _. rw (
      sym c.if-not-has_version.ensures,
      sym c.if-not-has_shape.ensures,
      layout.0,
      servers.0,
      groups.0,
      ← count,
      ← group_count,
      broken,
    ) refl

pub returns-in_err-ops-clause-err : goal.returns-in_err-ops-clause-err
returns-in_err-ops-clause-err c =
    let layout = given_by (map string_of) (λ bounds. is_none (first_layout_fault bounds)) c.in-Some.layout _ _
    (rw c.in-Some.is at c.in_ok-layout.ensures) c.items.ensures in
    let servers = given_by (map server_row_of) rule_of_servers c.in-Some-2.servers.items _ _
    (rw c.in-Some-2.is at c.in_ok-servers.ensures.rows) c.items-2.ensures in
    let groups = given_by (map group_row_of) rule_of_groups c.in-Some-3.groups.items _ _
    (rw c.in-Some-3.is at c.in_ok-groups.ensures.rows) c.items-3.ensures in
    let count = c.count-bounds.ensures.value ∙ ap length layout.1 in
    let held : c.len.result ≡ length c.in-Some-3.groups.items = omega (arith, c.len.ensures, c.in-Some-3.groups.ok.0) in
    let group_count = held ∙ ap length groups.1 in
    let shards = given_by (map shard_row_of) (rule_of_shards c.count-bounds.result c.len.result)
    c.in-Some-4.shards.items _ _ (rw c.in-Some-4.is at c.in_ok-shards.ensures.rows) c.items-rows.ensures in
    let broken = beyond_limits _ _ _ _ c.in_err-ops.ensures.exact in
    let p = err_from_is_err_and c.from_residual-in_err-ops.result c.from_residual-in_err-ops.ensures.1 in
    rw (p.1, p.2) (λ _. rw (
      sym c.if-not-has_version.ensures,
      sym c.if-not-has_shape.ensures,
      layout.0,
      servers.0,
      groups.0,
      ← count,
      ← group_count,
      shards.0,
      broken.0,
      broken.1,
    ) refl)

pub returns-in_err-kept-clause-err : goal.returns-in_err-kept-clause-err
returns-in_err-kept-clause-err c =
    let layout = given_by (map string_of) (λ bounds. is_none (first_layout_fault bounds)) c.in-Some.layout _ _
    (rw c.in-Some.is at c.in_ok-layout.ensures) c.items.ensures in
    let servers = given_by (map server_row_of) rule_of_servers c.in-Some-2.servers.items _ _
    (rw c.in-Some-2.is at c.in_ok-servers.ensures.rows) c.items-2.ensures in
    let groups = given_by (map group_row_of) rule_of_groups c.in-Some-3.groups.items _ _
    (rw c.in-Some-3.is at c.in_ok-groups.ensures.rows) c.items-3.ensures in
    let count = c.count-bounds.ensures.value ∙ ap length layout.1 in
    let held : c.len.result ≡ length c.in-Some-3.groups.items = omega (arith, c.len.ensures, c.in-Some-3.groups.ok.0) in
    let group_count = held ∙ ap length groups.1 in
    let shards = given_by (map shard_row_of) (rule_of_shards c.count-bounds.result c.len.result)
    c.in-Some-4.shards.items _ _ (rw c.in-Some-4.is at c.in_ok-shards.ensures.rows) c.items-rows.ensures in
    let ops = within_limits _ _ _ _ c.in_ok-ops.ensures.exact in
    let broken = beyond_limits _ _ _ _ c.in_err-kept.ensures.exact in
    let p = err_from_is_err_and c.from_residual-in_err-kept.result c.from_residual-in_err-kept.ensures.1 in
    rw (p.1, p.2) (λ _. rw (
      sym c.if-not-has_version.ensures,
      sym c.if-not-has_shape.ensures,
      layout.0,
      servers.0,
      groups.0,
      ← count,
      ← group_count,
      shards.0,
      ops.0,
      broken.0,
      broken.1,
    ) refl)

pub returns-in_err-ceiling-clause-err : goal.returns-in_err-ceiling-clause-err
returns-in_err-ceiling-clause-err c =
    let layout = given_by (map string_of) (λ bounds. is_none (first_layout_fault bounds)) c.in-Some.layout _ _
    (rw c.in-Some.is at c.in_ok-layout.ensures) c.items.ensures in
    let servers = given_by (map server_row_of) rule_of_servers c.in-Some-2.servers.items _ _
    (rw c.in-Some-2.is at c.in_ok-servers.ensures.rows) c.items-2.ensures in
    let groups = given_by (map group_row_of) rule_of_groups c.in-Some-3.groups.items _ _
    (rw c.in-Some-3.is at c.in_ok-groups.ensures.rows) c.items-3.ensures in
    let count = c.count-bounds.ensures.value ∙ ap length layout.1 in
    let held : c.len.result ≡ length c.in-Some-3.groups.items = omega (arith, c.len.ensures, c.in-Some-3.groups.ok.0) in
    let group_count = held ∙ ap length groups.1 in
    let shards = given_by (map shard_row_of) (rule_of_shards c.count-bounds.result c.len.result)
    c.in-Some-4.shards.items _ _ (rw c.in-Some-4.is at c.in_ok-shards.ensures.rows) c.items-rows.ensures in
    let ops = within_limits _ _ _ _ c.in_ok-ops.ensures.exact in
    let kept = within_limits _ _ _ _ c.in_ok-kept.ensures.exact in
    let broken = beyond_limits _ _ _ _ c.in_err-ceiling.ensures.exact in
    let p = err_from_is_err_and c.from_residual-in_err-ceiling.result c.from_residual-in_err-ceiling.ensures.1 in
    rw (p.1, p.2) (λ _. rw (
      sym c.if-not-has_version.ensures,
      sym c.if-not-has_shape.ensures,
      layout.0,
      servers.0,
      groups.0,
      ← count,
      ← group_count,
      shards.0,
      ops.0,
      kept.0,
      broken.0,
      broken.1,
    ) refl)

pub returns-in_err-workers-clause-err : goal.returns-in_err-workers-clause-err
returns-in_err-workers-clause-err c =
    let layout = given_by (map string_of) (λ bounds. is_none (first_layout_fault bounds)) c.in-Some.layout _ _
    (rw c.in-Some.is at c.in_ok-layout.ensures) c.items.ensures in
    let servers = given_by (map server_row_of) rule_of_servers c.in-Some-2.servers.items _ _
    (rw c.in-Some-2.is at c.in_ok-servers.ensures.rows) c.items-2.ensures in
    let groups = given_by (map group_row_of) rule_of_groups c.in-Some-3.groups.items _ _
    (rw c.in-Some-3.is at c.in_ok-groups.ensures.rows) c.items-3.ensures in
    let count = c.count-bounds.ensures.value ∙ ap length layout.1 in
    let held : c.len.result ≡ length c.in-Some-3.groups.items = omega (arith, c.len.ensures, c.in-Some-3.groups.ok.0) in
    let group_count = held ∙ ap length groups.1 in
    let shards = given_by (map shard_row_of) (rule_of_shards c.count-bounds.result c.len.result)
    c.in-Some-4.shards.items _ _ (rw c.in-Some-4.is at c.in_ok-shards.ensures.rows) c.items-rows.ensures in
    let ops = within_limits _ _ _ _ c.in_ok-ops.ensures.exact in
    let kept = within_limits _ _ _ _ c.in_ok-kept.ensures.exact in
    let ceiling = within_limits _ _ _ _ c.in_ok-ceiling.ensures.exact in
    let broken = beyond_limits _ _ _ _ c.in_err-workers.ensures.exact in
    let p = err_from_is_err_and c.from_residual-in_err-workers.result c.from_residual-in_err-workers.ensures.1 in
    rw (p.1, p.2) (λ _. rw (
      sym c.if-not-has_version.ensures,
      sym c.if-not-has_shape.ensures,
      layout.0,
      servers.0,
      groups.0,
      ← count,
      ← group_count,
      shards.0,
      ops.0,
      kept.0,
      ceiling.0,
      broken.0,
      broken.1,
    ) refl)

pub returns-clause-ok : goal.returns-clause-ok
returns-clause-ok c =
    let layout = given_by (map string_of) (λ bounds. is_none (first_layout_fault bounds)) c.in-Some.layout _ _
    (rw c.in-Some.is at c.in_ok-layout.ensures) c.items.ensures in
    let servers = given_by (map server_row_of) rule_of_servers c.in-Some-2.servers.items _ _
    (rw c.in-Some-2.is at c.in_ok-servers.ensures.rows) c.items-2.ensures in
    let groups = given_by (map group_row_of) rule_of_groups c.in-Some-3.groups.items _ _
    (rw c.in-Some-3.is at c.in_ok-groups.ensures.rows) c.items-3.ensures in
    let count = c.count-bounds.ensures.value ∙ ap length layout.1 in
    let held : c.len.result ≡ length c.in-Some-3.groups.items = omega (arith, c.len.ensures, c.in-Some-3.groups.ok.0) in
    let group_count = held ∙ ap length groups.1 in
    let shards = given_by (map shard_row_of) (rule_of_shards c.count-bounds.result c.len.result)
    c.in-Some-4.shards.items _ _ (rw c.in-Some-4.is at c.in_ok-shards.ensures.rows) c.items-rows.ensures in
    let ops = within_limits _ _ _ _ c.in_ok-ops.ensures.exact in
    let kept = within_limits _ _ _ _ c.in_ok-kept.ensures.exact in
    let ceiling = within_limits _ _ _ _ c.in_ok-ceiling.ensures.exact in
    let workers = within_limits _ _ _ _ c.in_ok-workers.ensures.exact in
    rw (
      sym c.if-not-has_version.ensures,
      sym c.if-not-has_shape.ensures,
      layout.0,
      servers.0,
      groups.0,
      ← count,
      ← group_count,
      shards.0,
      ops.0,
      kept.0,
      ceiling.0,
      workers.0,
    )
    (rw (layout.1, servers.1, groups.1, shards.1, ops.1, kept.1, ceiling.1, workers.1, c.new.ensures.items) refl)
