use Rattle.std.proofs.Common.{◌≡◌, set, subst, sym, arith}
use Rattle.sm_map.specs.Index.{IndexValue}
use Rattle.sm_map.specs.Blocks.{entries_in, lengths_in, number_of, HasEntry}
use Rattle.sm_map.proofs.Blocks.{blocks_counted}
use Rattle.sm_map.proofs.Indexes.{has_in, set_entries, set_kept}
use Rattle.sm_map.proofs.index.Index.set.Goals as goal

pub invariant_of-self : goal.invariant_of-self
invariant_of-self c =
    let has = subst (λ (x : IndexValue). HasEntry (lengths_in x.blocks) c.args.place) (sym c.self.view_is) c.requires in
    let within = has_in c.self.inside.blocks.items c.self.inside.len c.self.invariant c.args.place
    c.index_mut.result.now c.set.new.self
    (omega (arith, has.0, blocks_counted c.self.inside.blocks.items)) c.index_mut.ensures.value has in
    set_kept c.self.inside.blocks.items c.self.inside.len c.self.invariant c.args.place c.index_mut.result.now
    c.set.new.self (omega (arith, has.0, blocks_counted c.self.inside.blocks.items)) c.index_mut.ensures.value
    c.args.entry within c.set.ensures

pub returns : goal.returns
returns c =
    let has = subst (λ (x : IndexValue). HasEntry (lengths_in x.blocks) c.args.place) (sym c.self.view_is) c.requires in
    let within = has_in c.self.inside.blocks.items c.self.inside.len c.self.invariant c.args.place
    c.index_mut.result.now c.set.new.self
    (omega (arith, has.0, blocks_counted c.self.inside.blocks.items)) c.index_mut.ensures.value has in
    subst (λ (x : IndexValue). entries_in (set c.self.inside.blocks.items c.args.place.block c.set.new.self)
    ≡ set (entries_in x.blocks) (number_of (lengths_in x.blocks) c.args.place) c.args.entry) c.self.view_is
    (set_entries c.self.inside.blocks.items c.self.inside.len c.self.invariant c.args.place c.index_mut.result.now
    c.set.new.self (omega (arith, has.0, blocks_counted c.self.inside.blocks.items)) c.index_mut.ensures.value
    c.args.entry within c.set.ensures)
