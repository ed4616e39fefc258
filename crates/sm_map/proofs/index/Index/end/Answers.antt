use Rattle.std.proofs.Common.{◌≡◌, ◌-◌, length, refl, subst, arith, inr}
use Rattle.sm_map.specs.Index.{IndexValue}
use Rattle.sm_map.specs.Blocks.{entries_in, lengths_in, number_of, IsEnd}
use Rattle.sm_map.proofs.Blocks.{end_number, past_number, blocks_counted}
use Rattle.sm_map.proofs.Indexes.{last_full}
use Rattle.sm_map.proofs.index.Index.end.Goals as goal

pub returns-then-offset-lt-MOST_ENTRIES-clause-end : goal.returns-then-offset-lt-MOST_ENTRIES-clause-end
returns-then-offset-lt-MOST_ENTRIES-clause-end c =
    subst (λ (x : IndexValue). number_of (lengths_in x.blocks) (record {
      block = c.len-count.result - 1;
      offset = c.len-offset.result;
    }) ≡ length (entries_in x.blocks)) c.self.view_is (end_number
    c.self.inside.blocks.items (c.len-count.result - 1) c.index.result.now (omega (
      arith,
      c.if-count-gt0.true,
      c.len-count.ensures,
      c.self.inside.blocks.ok.0,
    )) c.index.ensures c.len-offset.result c.len-offset.ensures)

pub returns-else-offset-lt-MOST_ENTRIES-clause-end : goal.returns-else-offset-lt-MOST_ENTRIES-clause-end
returns-else-offset-lt-MOST_ENTRIES-clause-end c =
    subst (λ (x : IndexValue). number_of (lengths_in x.blocks) (record { block = c.len-count.result; offset = 0 })
    ≡ length (entries_in x.blocks)) c.self.view_is (past_number c.self.inside.blocks.items (record {
      block = c.len-count.result;
      offset = 0;
    }) (omega (arith, c.len-count.ensures, c.self.inside.blocks.ok.0)) refl)

pub returns-else-offset-lt-MOST_ENTRIES-clause-last : goal.returns-else-offset-lt-MOST_ENTRIES-clause-last
returns-else-offset-lt-MOST_ENTRIES-clause-last c =
    let count : c.len-count.result ≡ length c.self.inside.blocks.items =
    omega (arith, c.len-count.ensures, c.self.inside.blocks.ok.0) in
    subst (λ (x : IndexValue). IsEnd (lengths_in x.blocks) (record { block = c.len-count.result; offset = 0 }))
    c.self.view_is (inr (
      omega (arith, count, blocks_counted c.self.inside.blocks.items),
      last_full c.self.inside.blocks.items c.self.inside.len c.self.invariant (c.len-count.result - 1)
          c.index.result.now (omega (arith, count, c.if-count-gt0.true)) c.index.ensures
          (omega (arith, c.if-offset-lt-MOST_ENTRIES.false, c.len-offset.ensures)),
    ))
