use Rattle.std.proofs.Common.{ℕ, ◌≡◌, ◌<◌, ◌+◌, ◌*◌, ◌∙◌, ap, subst, sym, length, get_or, Bool, cond}
use Rattle.std.specs.Prelude.{nat_lt, remove, slice_index_or}
use Rattle.std.proofs.lemmas.List.{get_or_default}
use Rattle.std.proofs.Math.Dec.{leb}
use Rattle.sm_rows.specs.declared.server_row.ServerRow.{ServerRow}
use Rattle.sm_place.specs.declared.shard.Shard.{Shard}
use Rattle.sm_place.specs.Books.{no_group, no_server, row_at, shard_at}
use Rattle.sm_place.specs.Counters.{HasCells}
use Rattle.sm_place.specs.Ranks.{domain_cell, rank_of}
use Rattle.sm_place.specs.Room.{count_in, names_domain}
use Rattle.sm_place.proofs.Drafting.{HasCells-all, exceeds-at, ranked-at}
use Rattle.sm_place.proofs.draft.Draft.exceeds_limit.Goals as goal

pub count-count-requires : goal.count-count-requires
count-count-requires c =
    let self = c.self.inside in
    let servers = self.roster.now in
    let shards = self.shards.items in
    let place : c.args.at < length servers = rw (← c.self.view_is) at c.requires.place in
    let inside : c.args.k < length shards = rw (← c.self.view_is) at c.requires.shard in
    let row : c.index-rows-at.result ≡ row_at servers c.args.at =
    rw c.rows.ensures at c.index-rows-at.is ∙ get_or_default servers c.args.at _ no_server place in
    let shard : c.shard_at-shard.result.now ≡ shard_at shards c.args.k =
    rw (c.deref.ensures.value, c.index.ensures.value) at c.shard_at-shard.ensures in
    let group : c.from-group.result ≡ (shard_at shards c.args.k).row.group =
    c.from-group.ensures ∙ ap (λ (s : Shard). s.row.group) shard in
    let cells : HasCells self.counts (shard_at shards c.args.k).row.group self.ranks.now =
    HasCells-all self.counts (length self.groups.now) (shard_at shards c.args.k).row.group self.ranks.now
    c.self.invariant.counts_len (c.self.invariant.has_rows.group c.args.k inside) in
    let domain : (get_or c.rows.result.now c.args.at c.index-rows-at.result).domain
    ≡ (row_at servers c.args.at).domain =
    ap (λ (r : ServerRow). r.domain) (sym c.index-rows-at.is ∙ row) in
    let rank : c.from.result ≡ rank_of self.ranks.now (row_at servers c.args.at).domain =
    c.from.ensures ∙ c.rank.ensures ∙ ap (rank_of self.ranks.now) domain in
    let cell : c.from-group.result * c.width.result + c.from.result
    ≡ domain_cell self.ranks.now (shard_at shards c.args.k).row.group (row_at servers c.args.at).domain =
    ap (λ (n : ℕ). n * c.width.result + c.from.result) group
    ∙ ap (λ (n : ℕ). (shard_at shards c.args.k).row.group * n + c.from.result) c.width.ensures
    ∙ ap (λ (n : ℕ). (shard_at shards c.args.k).row.group * self.ranks.now.width + n) rank in
    subst (λ (n : ℕ). n < length self.counts) (sym cell) (cells.at (row_at servers c.args.at).domain
    (ranked-at servers self.ranks.now c.args.at place c.self.invariant.has_ranges.servers_rise
    c.self.invariant.has_ranges.domains))

pub returns-then-names_domain : goal.returns-then-names_domain
returns-then-names_domain c =
    let self = c.self.inside in
    let servers = self.roster.now in
    let shards = self.shards.items in
    let place : c.args.at < length servers = rw (← c.self.view_is) at c.requires.place in
    let inside : c.args.k < length shards = rw (← c.self.view_is) at c.requires.shard in
    let row : c.index-rows-at.result ≡ row_at servers c.args.at =
    rw c.rows.ensures at c.index-rows-at.is ∙ get_or_default servers c.args.at _ no_server place in
    let shard : c.shard_at-shard.result.now ≡ shard_at shards c.args.k =
    rw (c.deref.ensures.value, c.index.ensures.value) at c.shard_at-shard.ensures in
    let group : c.from-group.result ≡ (shard_at shards c.args.k).row.group =
    c.from-group.ensures ∙ ap (λ (s : Shard). s.row.group) shard in
    let cells : HasCells self.counts (shard_at shards c.args.k).row.group self.ranks.now =
    HasCells-all self.counts (length self.groups.now) (shard_at shards c.args.k).row.group self.ranks.now
    c.self.invariant.counts_len (c.self.invariant.has_rows.group c.args.k inside) in
    let domain : (get_or c.rows.result.now c.args.at c.index-rows-at.result).domain
    ≡ (row_at servers c.args.at).domain =
    ap (λ (r : ServerRow). r.domain) (sym c.index-rows-at.is ∙ row) in
    let rank : c.from.result ≡ rank_of self.ranks.now (row_at servers c.args.at).domain =
    c.from.ensures ∙ c.rank.ensures ∙ ap (rank_of self.ranks.now) domain in
    let cell : c.from-group.result * c.width.result + c.from.result
    ≡ domain_cell self.ranks.now (shard_at shards c.args.k).row.group (row_at servers c.args.at).domain =
    ap (λ (n : ℕ). n * c.width.result + c.from.result) group
    ∙ ap (λ (n : ℕ). (shard_at shards c.args.k).row.group * n + c.from.result) c.width.ensures
    ∙ ap (λ (n : ℕ). (shard_at shards c.args.k).row.group * self.ranks.now.width + n) rank in
    let named : c.names_domain.result
    ≡ names_domain servers (shard_at shards c.args.k).stand (row_at servers c.args.at).domain =
    c.names_domain.ensures
    ∙ ap (λ (s : Shard). names_domain servers s.stand
    (get_or c.rows.result.now c.args.at c.index-rows-at.result).domain) shard
    ∙ ap (names_domain servers (shard_at shards c.args.k).stand) domain in
    let is = exceeds-at servers self.ranks.now shards c.args.k c.args.at
    (slice_index_or self.groups.now c.from-group.result no_group).limit
    (c.from-group.result * c.width.result + c.from.result) c.count-count.result self.counts c.names_domain.result
    inside place c.self.invariant.has_ranges.servers_rise c.self.invariant.has_ranges.domains cells
    c.self.invariant.has_counts cell c.count-count.ensures named in
    let limit = (slice_index_or self.groups.now c.from-group.result no_group).limit in
    let chosen = ap (λ (v : Bool). cond v (nat_lt limit c.count-count.result) (leb limit c.count-count.result))
    c.if-names_domain.true in
    let more = count_in servers (remove shards c.args.k) (shard_at shards c.args.k).row.group
    (row_at servers c.args.at).domain + 1 in
    rw (← c.self.view_is) (sym chosen ∙ is
    ∙ ap (λ (g : ℕ). nat_lt (slice_index_or self.groups.now g no_group).limit more) group)

pub returns-else-names_domain : goal.returns-else-names_domain
returns-else-names_domain c =
    let self = c.self.inside in
    let servers = self.roster.now in
    let shards = self.shards.items in
    let place : c.args.at < length servers = rw (← c.self.view_is) at c.requires.place in
    let inside : c.args.k < length shards = rw (← c.self.view_is) at c.requires.shard in
    let row : c.index-rows-at.result ≡ row_at servers c.args.at =
    rw c.rows.ensures at c.index-rows-at.is ∙ get_or_default servers c.args.at _ no_server place in
    let shard : c.shard_at-shard.result.now ≡ shard_at shards c.args.k =
    rw (c.deref.ensures.value, c.index.ensures.value) at c.shard_at-shard.ensures in
    let group : c.from-group.result ≡ (shard_at shards c.args.k).row.group =
    c.from-group.ensures ∙ ap (λ (s : Shard). s.row.group) shard in
    let cells : HasCells self.counts (shard_at shards c.args.k).row.group self.ranks.now =
    HasCells-all self.counts (length self.groups.now) (shard_at shards c.args.k).row.group self.ranks.now
    c.self.invariant.counts_len (c.self.invariant.has_rows.group c.args.k inside) in
    let domain : (get_or c.rows.result.now c.args.at c.index-rows-at.result).domain
    ≡ (row_at servers c.args.at).domain =
    ap (λ (r : ServerRow). r.domain) (sym c.index-rows-at.is ∙ row) in
    let rank : c.from.result ≡ rank_of self.ranks.now (row_at servers c.args.at).domain =
    c.from.ensures ∙ c.rank.ensures ∙ ap (rank_of self.ranks.now) domain in
    let cell : c.from-group.result * c.width.result + c.from.result
    ≡ domain_cell self.ranks.now (shard_at shards c.args.k).row.group (row_at servers c.args.at).domain =
    ap (λ (n : ℕ). n * c.width.result + c.from.result) group
    ∙ ap (λ (n : ℕ). (shard_at shards c.args.k).row.group * n + c.from.result) c.width.ensures
    ∙ ap (λ (n : ℕ). (shard_at shards c.args.k).row.group * self.ranks.now.width + n) rank in
    let named : c.names_domain.result
    ≡ names_domain servers (shard_at shards c.args.k).stand (row_at servers c.args.at).domain =
    c.names_domain.ensures
    ∙ ap (λ (s : Shard). names_domain servers s.stand
    (get_or c.rows.result.now c.args.at c.index-rows-at.result).domain) shard
    ∙ ap (names_domain servers (shard_at shards c.args.k).stand) domain in
    let is = exceeds-at servers self.ranks.now shards c.args.k c.args.at
    (slice_index_or self.groups.now c.from-group.result no_group).limit
    (c.from-group.result * c.width.result + c.from.result) c.count-count.result self.counts c.names_domain.result
    inside place c.self.invariant.has_ranges.servers_rise c.self.invariant.has_ranges.domains cells
    c.self.invariant.has_counts cell c.count-count.ensures named in
    let limit = (slice_index_or self.groups.now c.from-group.result no_group).limit in
    let chosen = ap (λ (v : Bool). cond v (nat_lt limit c.count-count.result) (leb limit c.count-count.result))
    c.if-names_domain.false in
    let more = count_in servers (remove shards c.args.k) (shard_at shards c.args.k).row.group
    (row_at servers c.args.at).domain + 1 in
    rw (← c.self.view_is) (sym chosen ∙ is
    ∙ ap (λ (g : ℕ). nat_lt (slice_index_or self.groups.now g no_group).limit more) group)
