use Rattle.std.proofs.Common.{◌∙◌}
use Rattle.sm_place.specs.Books.{shard_at}
use Rattle.sm_place.proofs.Counting.{HasCounts-moved, lower_one, raise_one, AreInside-AreCells}
use Rattle.sm_place.proofs.tallies.move_count.Goals as goal

pub lower_each-requires-clause-fits : goal.lower_each-requires-clause-fits
lower_each-requires-clause-fits c =
    lower_one c.args.roster.now c.args.ranks.now c.args.shards.now c.args.at c.args.counts.now _ _ c.requires.shard
    c.requires.domains
    c.requires.cells c.requires.before c.requires.counts
    (rw c.shard_at-shard.ensures at c.cells_of-owner.ensures)

pub raise_each-requires : goal.raise_each-requires
raise_each-requires c =
    let is = c.shard_at-shard.ensures in
    let cells = rw is at c.cells_of-owner-2.ensures in
    let inside = AreInside-AreCells c.args.roster.now c.args.counts.now _ c.args.ranks.now
    (shard_at c.args.shards.now c.args.at).row.group
    c.args.stand.now _ _ cells c.requires.cells c.requires.domains c.requires.after c.lower_each.auto.counts in
    record {
      first = inside.0;
      second = inside.1;
      fits = raise_one c.args.roster.now c.args.ranks.now c.args.shards.now c.args.at c.args.stand.now c.args.counts.now
          _ _ _ _ _ _
          c.requires.shard c.requires.domains c.requires.cells c.requires.before c.requires.after c.requires.counts
          (rw is at c.cells_of-owner.ensures) cells c.requires.fits c.lower_each.ensures;
    }

pub returns : goal.returns
returns c =
    let is = c.shard_at-shard.ensures in
    HasCounts-moved c.args.roster.now c.args.ranks.now c.args.shards.now c.args.at c.args.stand.now c.args.counts.now _
    _ _ _ _ _
    c.requires.shard c.requires.domains c.requires.before c.requires.after c.requires.counts
    (rw is at c.cells_of-owner.ensures) (rw is at c.cells_of-owner-2.ensures) c.lower_each.auto.counts
    (c.raise_each.auto.counts ∙ c.lower_each.auto.counts) c.lower_each.ensures c.raise_each.ensures
