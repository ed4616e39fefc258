use Rattle.std.proofs.Common.{◌≡◌, List, ap, map, subst, ◌∙◌, arith}
use Rattle.std.specs.Prelude.{IfOk}
use Rattle.sm_map.specs.KeyMap.{KeyPair}
use Rattle.sm_map.specs.Val.{row_of}
use Rattle.sm_texts.specs.Saves.{spelled_pairs}
use Rattle.sm_texts.proofs.saves.save.Goals as goal

pub returns : goal.returns
returns c =
    let all = c.in_ok-rows.ensures (omega (arith, c.len.ensures, c.len-2.ensures.value, c.if-len.false)) in
    subst (λ (ps : List KeyPair). IfOk c.rows_bytes.result (λ bytes. bytes.items ≡ spelled_pairs ps))
    (ap (map row_of) c.deref.ensures.value ∙ all) c.rows_bytes.ensures
