use Rattle.std.proofs.Common.{◌∙◌, ap}
use Rattle.sm_place.proofs.Sharing.{HasLoads-moved, raise_fits}
use Rattle.sm_place.proofs.tallies.move_load.Goals as goal

pub raise-requires-clause-fits : goal.raise-requires-clause-fits
raise-requires-clause-fits c =
    let is = c.shard_at-shard.ensures in
    raise_fits c.args.roster.now c.args.shards.now c.args.at c.args.stand.now c.args.loads.now _ _ _ _ _ _ _
    c.requires.shard
    c.requires.after c.requires.loads
    (rw is at c.places_of-owner.ensures) c.places_of-owner-2.ensures
    (ap (λ s. s.row.load) is) c.requires.fits c.lower.ensures

pub returns : goal.returns
returns c =
    let is = c.shard_at-shard.ensures in
    HasLoads-moved c.args.roster.now c.args.shards.now c.args.at c.args.stand.now c.args.loads.now _ _ _ _ _ _ _
    c.requires.shard c.requires.loads
    (rw is at c.places_of-owner.ensures) c.places_of-owner-2.ensures (ap (λ s. s.row.load) is) c.lower.auto.loads
    (c.raise.auto.loads ∙ c.lower.auto.loads) c.lower.ensures c.raise.ensures
