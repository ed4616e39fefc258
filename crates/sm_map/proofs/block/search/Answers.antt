use Rattle.std.proofs.Common.{arith}
use Rattle.sm_map.proofs.Entries.{read_less, read_equal, read_greater}
use Rattle.sm_map.proofs.block.search.Goals as goal

pub loop-low-preserved-in-Less : goal.loop-low-preserved-in-Less
loop-low-preserved-in-Less c = record {
  ordered = omega arith;
  within = c.loop-low.invariant.within;
  before = read_less _ _ _ c.requires.rising _ (omega arith) _ _ c.get.ensures c.in-Less.ensures;
  after = c.loop-low.invariant.after;
}

pub returns-in-Equal-clause-found : goal.returns-in-Equal-clause-found
returns-in-Equal-clause-found c =
    read_equal _ _ _ c.requires.rising _ (omega arith) _ _ c.get.ensures c.in-Equal.ensures

pub loop-low-preserved : goal.loop-low-preserved
loop-low-preserved c = record {
  ordered = omega arith;
  within = omega arith;
  before = c.loop-low.invariant.before;
  after = read_greater _ _ _ c.requires.rising _ (omega arith) _ _ c.get.ensures c.in-Greater.ensures;
}
