use Rattle.std.proofs.Common.{◌≡◌, get_or, subst, sym}
use Rattle.sm_map.specs.Index.{IndexValue}
use Rattle.sm_map.specs.Blocks.{entries_in, lengths_in, number_of, HasEntry}
use Rattle.sm_map.proofs.Blocks.{entry_read}
use Rattle.sm_map.proofs.index.Index.entry.Goals as goal

pub returns : goal.returns
returns c d =
    let has = subst (λ (x : IndexValue). HasEntry (lengths_in x.blocks) c.args.place) (sym c.self.view_is) c.requires in
    subst (λ (x : IndexValue). c.entry.result ≡ get_or (entries_in x.blocks)
    (number_of (lengths_in x.blocks) c.args.place) d) c.self.view_is (entry_read c.self.inside.blocks.items
    c.args.place c.index.result.now has c.index.ensures c.entry.result d (c.entry.ensures d))
