use Rattle.std.proofs.Common.{◌∙◌}
use Rattle.sm_place.proofs.Counting.{HasCounts-moved, lower_one, raise_one}
use Rattle.sm_place.proofs.tallies.redraw_count.Goals as goal

pub lower-requires-clause-fits : goal.lower-requires-clause-fits
lower-requires-clause-fits c =
    lower_one c.args.roster.now c.args.ranks.now c.args.shards.now c.args.at c.args.counts.now _ _ c.requires.shard
    c.requires.domains
    c.requires.cells c.requires.before c.requires.counts
    (rw c.shard_at-shard.ensures at c.cells_of-owner.ensures)

pub raise-requires-clause-fits : goal.raise-requires-clause-fits
raise-requires-clause-fits c =
    let is = c.shard_at-shard.ensures in
    raise_one c.args.roster.now c.args.ranks.now c.args.shards.now c.args.at c.args.stand.now c.args.counts.now
    _ _ _ _ _ _
    c.requires.shard c.requires.domains c.requires.cells c.requires.before c.requires.after c.requires.counts
    (rw is at c.cells_of-owner.ensures) (rw is at c.cells_of-owner-2.ensures) c.requires.fits
    c.in_ok-lower.ensures.counts

pub returns-clause-counts : goal.returns-clause-counts
returns-clause-counts c =
    let is = c.shard_at-shard.ensures in
    HasCounts-moved c.args.roster.now c.args.ranks.now c.args.shards.now c.args.at c.args.stand.now c.args.counts.now _
    _ _ _ _ _
    c.requires.shard c.requires.domains c.requires.before c.requires.after c.requires.counts
    (rw is at c.cells_of-owner.ensures) (rw is at c.cells_of-owner-2.ensures) c.in_ok-lower.ensures.length
    (c.in_ok-raise.ensures.length ∙ c.in_ok-lower.ensures.length) c.in_ok-lower.ensures.counts
    c.in_ok-raise.ensures.counts
