use Rattle.std.proofs.Common.{subst, sym, arith}
use Rattle.sm_map.specs.Index.{IndexValue}
use Rattle.sm_map.specs.Blocks.{lengths_in, HasEntry}
use Rattle.sm_map.proofs.Indexes.{small_offset}
use Rattle.sm_map.proofs.index.Index.after.Goals as goal

pub overflow_add-place : goal.overflow_add-place
overflow_add-place c = record {
  fits = omega (
    arith,
    small_offset c.self.inside.blocks.items c.self.inside.len c.self.invariant c.args.place (subst
        (λ (x : IndexValue). HasEntry (lengths_in x.blocks) c.args.place) (sym c.self.view_is) c.requires),
  );
}
