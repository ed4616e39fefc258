use Rattle.std.proofs.Common.{Some, [], ◌++◌}
use Rattle.sm_map.specs.KeyMap.{KeyPair, text_of}
use Rattle.sm_map.specs.KeyMap.{Text as HeldText}
use Rattle.sm_map.proofs.KeyMaps.{rewrite_holds, rewrite_dead, held_here, text_here, held_nowhere}
use Rattle.sm_map.proofs.Positions.{place_there, gap_there}
use Rattle.sm_map.proofs.arena_map.ArenaMap.append_at.Goals as goal

pub lengthen_at-requires-clause-text : goal.lengthen_at-requires-clause-text
lengthen_at-requires-clause-text c d =
    let there = place_there _ c.args.position c.requires.position _ c.in-Ok.is in
    let held = held_here _ _ c.requires.position.rising _ there.1 d in
    let text = text_here _ _ c.requires.position.rising _ there.1 d in
    cc

pub returns-clause-ok : goal.returns-clause-ok
returns-clause-ok c =
    let there = place_there _ c.args.position c.requires.position _ c.in-Ok.is in
    let any : KeyPair = record { key = c.args.position.key.now; value = HeldText [] } in
    rw (text_here _ _ c.requires.position.rising _ there.1 any)
    (rewrite_holds _ _ _ c.requires.position.rising _ _ there.1
    (λ (pair : KeyPair). HeldText (text_of (Some pair.value) ++ c.args.tail.now)) any c.lengthen_at.ensures.ok)

pub returns-clause-dead : goal.returns-clause-dead
returns-clause-dead c =
    let there = place_there _ c.args.position c.requires.position _ c.in-Ok.is in
    rewrite_dead _ _ _ c.requires.position.rising _ _ there.1 (λ (pair : KeyPair). HeldText (text_of (Some pair.value)
    ++ c.args.tail.now)) (record { key = c.args.position.key.now; value = HeldText [] }) c.lengthen_at.ensures.ok

-- the key holds a text, so it is there
pub unreachable-requires : goal.unreachable-requires
unreachable-requires c =
    let there = gap_there _ c.args.position c.requires.position _ c.in-Err.is in
    let none = held_nowhere _ _ c.requires.position.rising _ there.1 in
    cc
