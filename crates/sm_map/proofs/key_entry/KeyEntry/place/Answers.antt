use Rattle.sm_map.proofs.Entries.{pair_stored, count_stored}
use Rattle.sm_map.proofs.key_entry.KeyEntry.place.Goals as goal

pub returns-in_ok-key-in-Text-clause-stored : goal.returns-in_ok-key-in-Text-clause-stored
returns-in_ok-key-in-Text-clause-stored c = pair_stored _ _ _ _ _ _ c.in_ok-key-in-Text.ensures.placed

pub returns-in_ok-key-in-Count-clause-stored : goal.returns-in_ok-key-in-Count-clause-stored
returns-in_ok-key-in-Count-clause-stored c = count_stored _ _ _ c.in-Count.count _ c.in_ok-key-in-Count.ensures.placed
