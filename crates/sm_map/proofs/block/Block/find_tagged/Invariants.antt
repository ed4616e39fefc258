use Rattle.sm_map.proofs.block.Block.find_tagged.Given as goal

abbrev pub decreases-loop-places : goal.decreases-loop-places
decreases-loop-places l = l.places
