use Rattle.std.proofs.Common.{◌≡◌, ◌<◌, ◌≤◌, ◌+◌, length, get_or, subst, sym}
use Rattle.sm_map.specs.Index.{IndexValue}
use Rattle.sm_map.specs.Blocks.{entries_in, lengths_in, number_of}
use Rattle.sm_map.proofs.Blocks.{entries_read}
use Rattle.sm_map.proofs.index.Index.entries.Goals as goal

pub returns-clause-each : goal.returns-clause-each
returns-clause-each c k less d =
    let lt = subst (λ (x : IndexValue). c.args.place.block < length (lengths_in x.blocks))
    (sym c.self.view_is) c.requires.block in
    let le = subst (λ (x : IndexValue). c.args.high ≤ get_or (lengths_in x.blocks) c.args.place.block 0)
    (sym c.self.view_is) c.requires.order.1 in
    subst (λ (x : IndexValue). get_or c.entries.result.now k
    (get_or (entries_in x.blocks) (number_of (lengths_in x.blocks) c.args.place + k) d)
    ≡ get_or (entries_in x.blocks) (number_of (lengths_in x.blocks) c.args.place + k) d) c.self.view_is
    (entries_read c.self.inside.blocks.items c.args.place c.args.high c.index.result.now c.entries.result.now lt le
    c.index.ensures c.entries.ensures k less d)
