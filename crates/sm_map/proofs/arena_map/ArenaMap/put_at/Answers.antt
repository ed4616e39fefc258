use Rattle.sm_map.specs.KeyMap.{KeyPair}
use Rattle.sm_map.specs.Val.{held_of}
use Rattle.sm_map.proofs.KeyMaps.{rewrite_holds, rewrite_dead, addition_holds, addition_dead}
use Rattle.sm_map.proofs.Positions.{place_there, gap_there}
use Rattle.sm_map.proofs.arena_map.ArenaMap.put_at.Goals as goal

-- the key was there
pub returns-in-Ok-clause-ok : goal.returns-in-Ok-clause-ok
returns-in-Ok-clause-ok c =
    let there = place_there _ c.args.position c.requires _ c.in-Ok.is in
    rewrite_holds _ _ _ c.requires.rising _ _ there.1 (λ (pair : KeyPair). held_of c.args.value)
    (record { key = c.args.position.key.now; value = held_of c.args.value }) c.write_at.ensures.ok

pub returns-in-Ok-clause-dead : goal.returns-in-Ok-clause-dead
returns-in-Ok-clause-dead c =
    let there = place_there _ c.args.position c.requires _ c.in-Ok.is in
    rewrite_dead _ _ _ c.requires.rising _ _ there.1 (λ (pair : KeyPair). held_of c.args.value)
    (record { key = c.args.position.key.now; value = held_of c.args.value }) c.write_at.ensures.ok

-- the key is new
pub returns-in-Err-clause-ok : goal.returns-in-Err-clause-ok
returns-in-Err-clause-ok c =
    let there = gap_there _ c.args.position c.requires _ c.in-Err.is in
    addition_holds _ _ _ c.requires.rising _ _ there.1 _ c.insert_at.ensures.ok

pub returns-in-Err-clause-dead : goal.returns-in-Err-clause-dead
returns-in-Err-clause-dead c =
    let there = gap_there _ c.args.position c.requires _ c.in-Err.is in
    addition_dead _ _ _ c.requires.rising _ _ there.1 _ c.insert_at.ensures.ok
