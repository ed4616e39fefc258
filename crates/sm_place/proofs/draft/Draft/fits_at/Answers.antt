use Rattle.std.proofs.Common.{◌<◌, ◌∙◌, ap, sym, length, not}
use Rattle.std.proofs.lemmas.List.{get_or_default}
use Rattle.sm_place.specs.declared.server_state.ServerState.TheVariants.{Up}
use Rattle.sm_place.specs.Books.{BooksView}
use Rattle.sm_place.specs.ServerState.{is_leaving}
use Rattle.sm_place.proofs.Drafting.{by_limit, fit-at, no_capacity, no_stay}
use Rattle.sm_place.proofs.draft.Draft.fits_at.Goals as goal

pub returns-then-is_leaving : goal.returns-then-is_leaving
returns-then-is_leaving c =
    let self = c.self.inside in
    let place : c.args.at < length self.roster.now = rw (← c.self.view_is) at c.requires.place in
    let books : BooksView = record {
      servers = self.roster.now;
      groups = self.groups.now;
      shards = self.shards.items;
      states = self.states.now;
      domains = self.domains.now;
    } in
    let is = fit-at books c.args.k c.args.at c.self.invariant.has_ranges.servers_rise place in
    let inside : c.args.at < length self.states.now = rw c.self.invariant.has_ranges.states_len place in
    let state = c.is_leaving.ensures ∙ ap is_leaving (get_or_default self.states.now c.args.at _ Up inside) in
    let yes = rw (← c.self.view_is) at (sym c.has_capacity.ensures ∙ c.if-has_capacity.true) in
    rw (← c.self.view_is) (no_stay _ _ _ _ is yes (sym state ∙ c.if-is_leaving.true))

pub returns-else-is_leaving : goal.returns-else-is_leaving
returns-else-is_leaving c =
    let self = c.self.inside in
    let place : c.args.at < length self.roster.now = rw (← c.self.view_is) at c.requires.place in
    let books : BooksView = record {
      servers = self.roster.now;
      groups = self.groups.now;
      shards = self.shards.items;
      states = self.states.now;
      domains = self.domains.now;
    } in
    let is = fit-at books c.args.k c.args.at c.self.invariant.has_ranges.servers_rise place in
    let inside : c.args.at < length self.states.now = rw c.self.invariant.has_ranges.states_len place in
    let state = c.is_leaving.ensures ∙ ap is_leaving (get_or_default self.states.now c.args.at _ Up inside) in
    let yes = rw (← c.self.view_is) at (sym c.has_capacity.ensures ∙ c.if-has_capacity.true) in
    let limit = rw (← c.self.view_is) at c.exceeds_limit.ensures in
    rw (← c.self.view_is) (ap not limit ∙ by_limit _ _ _ _ is yes (sym state ∙ c.if-is_leaving.false))

pub returns-else-has_capacity : goal.returns-else-has_capacity
returns-else-has_capacity c =
    let self = c.self.inside in
    let place : c.args.at < length self.roster.now = rw (← c.self.view_is) at c.requires.place in
    let books : BooksView = record {
      servers = self.roster.now;
      groups = self.groups.now;
      shards = self.shards.items;
      states = self.states.now;
      domains = self.domains.now;
    } in
    let is = fit-at books c.args.k c.args.at c.self.invariant.has_ranges.servers_rise place in
    let no = rw (← c.self.view_is) at (sym c.has_capacity.ensures ∙ c.if-has_capacity.false) in
    rw (← c.self.view_is) (no_capacity _ _ _ _ is no)
