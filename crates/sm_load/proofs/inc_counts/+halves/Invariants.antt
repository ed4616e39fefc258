use Rattle.std.proofs.Common.{◌+◌, ◌-◌, ◌*◌, length}
use Rattle.sm_load.proofs.inc_counts.+halves.Given as goal

abbrev pub decreases-count_all : goal.decreases-count_all
decreases-count_all g l = 4 * length l.items.now

abbrev pub decreases-count_halves : goal.decreases-count_halves
decreases-count_halves g l = 4 * (length l.front.now + length l.back.now) - 1

abbrev pub decreases-count_halves-one : goal.decreases-count_halves-one
decreases-count_halves-one g l = 4 * length l.front.now + 1

abbrev pub decreases-count_halves-two : goal.decreases-count_halves-two
decreases-count_halves-two g l = 4 * length l.back.now + 1
