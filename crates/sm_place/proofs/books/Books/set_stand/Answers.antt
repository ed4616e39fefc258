use Rattle.std.proofs.Common.{◌≡◌, ◌<◌, ◌∙◌, ap, sym, length, drop}
use Rattle.sm_ranges.specs.Stand.{AllNamed}
use Rattle.sm_place.specs.Books.{shard_at, IsKnown, with_stand}
use Rattle.sm_place.specs.Room.{HasRoom}
use Rattle.sm_place.specs.Counters.{HasLoads, HasCounts}
use Rattle.sm_place.proofs.Keeping.{take-all, IsTallied-with_stand}
use Rattle.sm_place.proofs.books.Books.set_stand.Goals as goal

pub invariant_of-self : goal.invariant_of-self
invariant_of-self c =
    let self = c.self.inside in
    let shards = c.self.inside.shards.items in
    let moved = with_stand shards c.args.k c.args.stand in
    let room : HasRoom self.roster self.groups.items moved = rw (← c.self.view_is) at c.requires.room in
    let known : AllNamed (IsKnown self.roster) c.args.stand = rw (← c.self.view_is) at c.requires.known in
    let inside : c.args.k < length shards = rw (← c.self.view_is) at c.requires.shard in
    let loads : HasLoads self.roster moved c.move_load.new.loads =
    rw (c.deref.ensures.value, c.index-at.ensures.value) at c.move_load.ensures in
    let counts : HasCounts self.roster moved c.move_count.new.counts self.ranks =
    rw (c.deref-2.ensures.value, c.index-at.ensures.value) at c.move_count.ensures in
    let is : c.shard_at.result.now ≡ shard_at shards c.args.k =
    rw (c.deref-3.ensures.value, c.index-at.ensures.value) at c.shard_at.ensures in
    let loads_len : length c.move_load.new.loads ≡ length self.loads.items =
    c.move_load.auto.loads ∙ ap length c.deref_mut.ensures.value in
    let counts_len : length c.move_count.new.counts ≡ length self.counts.items =
    c.move_count.auto.counts ∙ ap length c.deref_mut-2.ensures.value in
    let kept_loads =
    take-all c.move_load.new.loads (drop (length c.move_load.new.loads) self.loads.items) self.loads.len
    (self.loads.ok.0 ∙ sym loads_len) in
    let kept_counts =
    take-all c.move_count.new.counts (drop (length c.move_count.new.counts) self.counts.items) self.counts.len
    (self.counts.ok.0 ∙ sym counts_len) in
    rw (kept_loads, kept_counts, c.index-at.ensures.value, is)
    (IsTallied-with_stand self.roster self.groups.items shards self.states.items self.loads.items self.counts.items
    c.move_load.new.loads c.move_count.new.counts self.ranks c.args.k c.args.stand inside known room c.self.invariant
    loads counts counts_len)
