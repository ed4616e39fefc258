use Rattle.std.proofs.Common.{[], sym, ap, ◌∙◌, ◌+◌, ℕ, Option, is_some, arith}
use Rattle.sm_map.specs.KeyMap.{KeyValue, KeyPair}
use Rattle.sm_map.specs.KeyMap.{Text as HeldText}
use Rattle.sm_map.proofs.KeyMaps.{remove_here, size_here, held_here, without_here, size_nowhere, held_nowhere}
use Rattle.sm_map.proofs.arena_map.ArenaMap.remove.Goals as goal

-- the key was there
pub returns-in-Ok-clause-pairs : goal.returns-in-Ok-clause-pairs
returns-in-Ok-clause-pairs c =
    let any : KeyPair = record { key = c.args.key.now; value = HeldText [] } in
    (c.remove_at.ensures any).pairs ∙ remove_here _ _ c.find.ensures.rising _ c.in-Ok.ensures.found

pub returns-in-Ok-clause-dead : goal.returns-in-Ok-clause-dead
returns-in-Ok-clause-dead c =
    let any : KeyPair = record { key = c.args.key.now; value = HeldText [] } in
    (c.remove_at.ensures any).dead ∙ ap (λ (n : ℕ). c.args.self.now.dead + n)
    (sym (size_here _ _ c.find.ensures.rising _ c.in-Ok.ensures.found any))

pub returns-in-Ok-clause-held : goal.returns-in-Ok-clause-held
returns-in-Ok-clause-held c =
    let any : KeyPair = record { key = c.args.key.now; value = HeldText [] } in
    sym (ap (λ (held : Option KeyValue). is_some held)
    (held_here _ _ c.find.ensures.rising _ c.in-Ok.ensures.found any))

-- the key was not there
pub returns-in-Err-clause-pairs : goal.returns-in-Err-clause-pairs
returns-in-Err-clause-pairs c = without_here _ _ c.find.ensures.rising _ c.in-Err.ensures.absent

pub returns-in-Err-clause-dead : goal.returns-in-Err-clause-dead
returns-in-Err-clause-dead c = omega (arith, size_nowhere _ _ c.find.ensures.rising _ c.in-Err.ensures.absent)

pub returns-in-Err-clause-held : goal.returns-in-Err-clause-held
returns-in-Err-clause-held c = sym
    (ap (λ (held : Option KeyValue). is_some held) (held_nowhere _ _ c.find.ensures.rising _ c.in-Err.ensures.absent))
