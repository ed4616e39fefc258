use Rattle.std.proofs.Common.{Bool, not}
use Rattle.std.specs.Prelude.{◌&&◌}
use Rattle.std.proofs.lemmas.Result.{IfOk-weaker}
use Rattle.sm_ranges.specs.Keyed.{comes_before}
use Rattle.sm_map.specs.KeyMap.{KeyPair, key_of}
use Rattle.sm_map.specs.Val.{row_of}
use Rattle.sm_texts.proofs.Scanned.{all_rows}
use Rattle.sm_texts.proofs.saves.found.Goals as goal

pub returns : goal.returns
returns c =
    let is_within : KeyPair → Bool =
    λ pair. not (comes_before key_of c.args.low.now pair) && comes_before key_of c.args.high.now pair in
    IfOk-weaker c.scan.result _ _ (λ rows all long.
    all_rows is_within c.args.most row_of rows.items c.args.texts.now.pairs all long) c.scan.ensures
