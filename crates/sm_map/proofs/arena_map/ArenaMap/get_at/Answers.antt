use Rattle.std.proofs.Common.{Some, ap, sym, ◌∙◌}
use Rattle.sm_map.specs.KeyMap.{KeyPair}
use Rattle.sm_map.specs.Val.{row_of}
use Rattle.sm_map.proofs.KeyMaps.{held_here, held_nowhere}
use Rattle.sm_map.proofs.Positions.{place_there, gap_there}
use Rattle.sm_map.proofs.arena_map.ArenaMap.get_at.Goals as goal

pub returns-in-Ok : goal.returns-in-Ok
returns-in-Ok c =
    let there = place_there _ c.args.position c.requires _ c.in-Ok.is in
    ap (λ (pair : KeyPair). Some pair.value) (c.pair_at.ensures (row_of c.pair_at.result))
    ∙ sym (held_here _ _ c.requires.rising _ there.1 (row_of c.pair_at.result))

pub returns-in-Err : goal.returns-in-Err
returns-in-Err c =
    let there = gap_there _ c.args.position c.requires _ c.in-Err.is in
    sym (held_nowhere _ _ c.requires.rising _ there.1)
