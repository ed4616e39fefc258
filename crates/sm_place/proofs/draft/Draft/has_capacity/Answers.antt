use Rattle.std.proofs.Common.{◌≡◌, ◌<◌, ◌∙◌, ◌||◌, ap, sym, length, Bool, false, not}
use Rattle.std.specs.Prelude.{slice_index}
use Rattle.std.proofs.lemmas.Bool.{le-leb, lt-leb}
use Rattle.std.proofs.lemmas.List.{get_or_default}
use Rattle.sm_ranges.specs.Stand.{names}
use Rattle.sm_ranges.specs.declared.stand.Stand.{Stand}
use Rattle.sm_place.specs.Books.{no_server, row_at, shard_at}
use Rattle.sm_place.proofs.Drafting.{capacity-at}
use Rattle.sm_place.proofs.draft.Draft.has_capacity.Goals as goal

pub returns-then-from : goal.returns-then-from
returns-then-from c =
    let self = c.self.inside in
    let servers = self.roster.now in
    let shards = self.shards.items in
    let place : c.args.at < length servers = rw (← c.self.view_is) at c.requires.place in
    let inside : c.args.k < length shards = rw (← c.self.view_is) at c.requires.shard in
    let row : c.index-rows-at.result ≡ row_at servers c.args.at =
    rw c.rows.ensures at c.index-rows-at.is ∙ get_or_default servers c.args.at _ no_server place in
    let shard : c.shard_at-shard.result.now ≡ shard_at shards c.args.k =
    rw (c.deref.ensures.value, c.index.ensures.value) at c.shard_at-shard.ensures in
    let counted : c.args.at < length self.loads.items = rw c.self.invariant.has_loads.len place in
    let load : c.from.result ≡ slice_index self.loads.items c.args.at =
    c.from.ensures ∙ c.index-2.ensures ∙ get_or_default self.loads.items c.args.at _ 0 counted in
    let is = capacity-at servers self.groups.now shards c.args.k c.args.at self.loads.items c.index-rows-at.result
    c.shard_at-shard.result.now c.from.result inside place c.self.invariant.has_ranges.servers_rise
    c.self.invariant.has_loads c.self.invariant.has_room row shard load in
    let n = names c.shard_at-shard.result.now.stand c.index-rows-at.result.id in
    let within = le-leb _ _ c.if-from.true in
    rw (← c.self.view_is) (within
    ∙ sym (ap (λ (b : Bool). b || n) (rw (c.from-2.ensures, c.from-3.ensures) at within)) ∙ is)

pub returns-then-not-is_vacant : goal.returns-then-not-is_vacant
returns-then-not-is_vacant c =
    let self = c.self.inside in
    let servers = self.roster.now in
    let shards = self.shards.items in
    let place : c.args.at < length servers = rw (← c.self.view_is) at c.requires.place in
    let inside : c.args.k < length shards = rw (← c.self.view_is) at c.requires.shard in
    let row : c.index-rows-at.result ≡ row_at servers c.args.at =
    rw c.rows.ensures at c.index-rows-at.is ∙ get_or_default servers c.args.at _ no_server place in
    let shard : c.shard_at-shard.result.now ≡ shard_at shards c.args.k =
    rw (c.deref.ensures.value, c.index.ensures.value) at c.shard_at-shard.ensures in
    let counted : c.args.at < length self.loads.items = rw c.self.invariant.has_loads.len place in
    let load : c.from.result ≡ slice_index self.loads.items c.args.at =
    c.from.ensures ∙ c.index-2.ensures ∙ get_or_default self.loads.items c.args.at _ 0 counted in
    let is = capacity-at servers self.groups.now shards c.args.k c.args.at self.loads.items c.index-rows-at.result
    c.shard_at-shard.result.now c.from.result inside place c.self.invariant.has_ranges.servers_rise
    c.self.invariant.has_loads c.self.invariant.has_room row shard load in
    let n = names c.shard_at-shard.result.now.stand c.index-rows-at.result.id in
    let above = lt-leb _ _ c.if-from.false in
    rw (← c.self.view_is) (c.names.ensures
    ∙ sym (ap (λ (b : Bool). b || n) (rw (c.from-2.ensures, c.from-3.ensures) at above)) ∙ is)

pub returns-else-not-is_vacant : goal.returns-else-not-is_vacant
returns-else-not-is_vacant c =
    let self = c.self.inside in
    let servers = self.roster.now in
    let shards = self.shards.items in
    let place : c.args.at < length servers = rw (← c.self.view_is) at c.requires.place in
    let inside : c.args.k < length shards = rw (← c.self.view_is) at c.requires.shard in
    let row : c.index-rows-at.result ≡ row_at servers c.args.at =
    rw c.rows.ensures at c.index-rows-at.is ∙ get_or_default servers c.args.at _ no_server place in
    let shard : c.shard_at-shard.result.now ≡ shard_at shards c.args.k =
    rw (c.deref.ensures.value, c.index.ensures.value) at c.shard_at-shard.ensures in
    let counted : c.args.at < length self.loads.items = rw c.self.invariant.has_loads.len place in
    let load : c.from.result ≡ slice_index self.loads.items c.args.at =
    c.from.ensures ∙ c.index-2.ensures ∙ get_or_default self.loads.items c.args.at _ 0 counted in
    let is = capacity-at servers self.groups.now shards c.args.k c.args.at self.loads.items c.index-rows-at.result
    c.shard_at-shard.result.now c.from.result inside place c.self.invariant.has_ranges.servers_rise
    c.self.invariant.has_loads c.self.invariant.has_room row shard load in
    let n = names c.shard_at-shard.result.now.stand c.index-rows-at.result.id in
    let vacant = rw (← c.self.view_is) at (c.requires.vacant c.if-not-is_vacant.false) in
    let unnamed : n ≡ false =
    ap (λ s. names s.stand c.index-rows-at.result.id) shard
    ∙ ap (λ (s : Stand). names s c.index-rows-at.result.id) vacant in
    let above = lt-leb _ _ c.if-from.false in
    rw (← c.self.view_is) (ap not c.if-not-is_vacant.false ∙ sym unnamed
    ∙ sym (ap (λ (b : Bool). b || n) (rw (c.from-2.ensures, c.from-3.ensures) at above)) ∙ is)
