use Rattle.std.proofs.Common.{◌≡◌, ◌<◌, ◌∙◌, Ok, ap, sym, arith, length, drop}
use Rattle.sm_ranges.specs.Stand.{AllNamed}
use Rattle.sm_ranges.specs.declared.stand.Stand.TheVariants.{Serving}
use Rattle.sm_place.specs.Books.{BooksView, shard_at, IsKnown, with_stand}
use Rattle.sm_place.specs.Room.{HasRoom, fit}
use Rattle.sm_place.specs.Counters.{HasLoads, HasCounts}
use Rattle.sm_place.proofs.Keeping.{take-all, IsTallied-with_stand}
use Rattle.sm_place.proofs.draft.Draft.serve.Goals as goal

pub move_load-requires-clause-fits : goal.move_load-requires-clause-fits
move_load-requires-clause-fits c =
    let self = c.self.inside in
    let shards = self.shards.items in
    let books : BooksView = record {
      servers = self.roster.now;
      groups = self.groups.now;
      shards = shards;
      states = self.states.now;
      domains = self.domains.now;
    } in
    let fits : fit books c.args.k c.args.a ≡ Ok tt = rw (← c.self.view_is) at c.requires.fits in
    let inside : c.args.k < length shards = rw (← c.self.view_is) at c.requires.shard in
    let room : HasRoom self.roster.now self.groups.now (with_stand shards c.args.k (Serving c.args.a)) =
    c.fit_leaves_room.ensures.serving books c.args.k c.args.a inside c.self.invariant.has_room fits in
    rw (c.deref.ensures.value, c.index-at.ensures.value)
    (λ b known. omega (arith, room.capacity b known, c.self.invariant.has_ranges.capacities b known))

pub invariant_of-result : goal.invariant_of-result
invariant_of-result c =
    let self = c.self.inside in
    let shards = self.shards.items in
    let stand = Serving c.args.a in
    let moved = with_stand shards c.args.k stand in
    let books : BooksView = record {
      servers = self.roster.now;
      groups = self.groups.now;
      shards = shards;
      states = self.states.now;
      domains = self.domains.now;
    } in
    let fits : fit books c.args.k c.args.a ≡ Ok tt = rw (← c.self.view_is) at c.requires.fits in
    let inside : c.args.k < length shards = rw (← c.self.view_is) at c.requires.shard in
    let room : HasRoom self.roster.now self.groups.now moved =
    c.fit_leaves_room.ensures.serving books c.args.k c.args.a inside c.self.invariant.has_room fits in
    let one : IsKnown self.roster.now c.args.a = rw (← c.self.view_is) at c.requires.known in
    let known : AllNamed (IsKnown self.roster.now) stand = (one, tt) in
    let loads : HasLoads self.roster.now moved c.move_load.new.loads =
    rw (c.deref.ensures.value, c.index-at.ensures.value) at c.move_load.ensures in
    let counts : HasCounts self.roster.now moved c.redraw_count.new.counts self.ranks.now =
    rw (c.deref-2.ensures.value, c.index-at.ensures.value) at c.in_ok-redraw_count.ensures.counts in
    let is : c.shard_at.result.now ≡ shard_at shards c.args.k =
    rw (c.deref-3.ensures.value, c.index-at.ensures.value) at c.shard_at.ensures in
    let loads_len : length c.move_load.new.loads ≡ length self.loads.items =
    c.move_load.auto.loads ∙ ap length c.deref_mut.ensures.value in
    let kept_loads =
    take-all c.move_load.new.loads (drop (length c.move_load.new.loads) self.loads.items) self.loads.len
    (self.loads.ok.0 ∙ sym loads_len) in
    rw (kept_loads, c.index-at.ensures.value, is)
    (IsTallied-with_stand self.roster.now self.groups.now shards self.states.now self.loads.items self.counts
    c.move_load.new.loads c.redraw_count.new.counts self.ranks.now c.args.k stand inside known room c.self.invariant
    loads counts c.in_ok-redraw_count.ensures.length)
