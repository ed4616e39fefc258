use Rattle.sm_place.proofs.Ranking.{IsRanked}
use Rattle.sm_place.proofs.ranks.Ranks.new.Given as goal

abbrev pub invariant-loop-row : goal.invariant-loop-row
invariant-loop-row l = IsRanked l.rows l.ranks l.row-index
