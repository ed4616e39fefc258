use Rattle.sm_map.proofs.Entries.{key_placed, slot_readable, row_there}
use Rattle.sm_map.proofs.Blocks.{number_inside}
use Rattle.sm_map.proofs.arena_map.ArenaMap.pair_at.Goals as goal

pub get-requires : goal.get-requires
get-requires c = key_placed _ _ (number_inside c.self.inside.index.blocks c.args.place
    (rw (← c.self.view_is) at c.requires)) _ c.entry-entry.ensures _ c.self.invariant

pub read-requires : goal.read-requires
read-requires c = slot_readable _ _ (number_inside c.self.inside.index.blocks c.args.place
    (rw (← c.self.view_is) at c.requires)) _ c.entry-entry.ensures _ c.self.invariant

pub returns : goal.returns
returns c = rw (← c.self.view_is)
    (row_there _ _ (number_inside c.self.inside.index.blocks c.args.place (rw (← c.self.view_is) at c.requires)) _
    c.entry-entry.ensures _ (c.get.result, c.read.result) c.get.ensures c.read.ensures)
