use Rattle.std.proofs.Common.{◌≡◌, sym, subst, [], ◌∷◌, ◌++◌, length, ap, ◌∙◌, arith, rules}
use Rattle.std.proofs.lemmas.List.{map-append, length-map}
use Rattle.sm_arena.specs.Memory.{bytes_in, IsJoined}
use Rattle.sm_arena.specs.Blocks.{written_in, chunks_in, EndsJoined}
use Rattle.sm_arena.specs.Chunks.{chunks_of}
use Rattle.sm_arena.proofs.Chunks.{joins, ends_joined}
use Rattle.sm_arena.proofs.Sizes.{block_fits, held_fits}
use Rattle.sm_arena.proofs.blocks.Blocks.join.Goals as goal

pub overflow_add-self : goal.overflow_add-self
overflow_add-self c = record {
  fits = omega (
    arith,
    c.args.self.now.tied.1,
    held_fits c.args.self.now,
    c.size.ensures,
    block_fits c.in-Ok-of.block,
  );
}

pub returns-in-Ok-of-clause-written : goal.returns-in-Ok-of-clause-written
returns-in-Ok-of-clause-written c =
    let bytes : written_in c.in-Ok-of.block ≡ c.args.piece.items = ap bytes_in c.in-Ok-of.ensures.memory in
    let long : c.used-length.result ≡ length c.args.piece.items = c.used-length.ensures ∙ ap length bytes in
    let items : c.push_reserved.new.self.items ≡ c.args.self.now.blocks.items ++ c.in-Ok-of.block ∷ [] = search rules in
    let count : c.in-Ok.place ≡ length c.args.self.now.blocks.items = search rules in
    let place : c.in-Ok.place ≡ length (chunks_of c.args.self.now) =
    omega (arith, count, length-map c.args.self.now.blocks.items written_in) in
    let grown : chunks_in c.push_reserved.new.self.items ≡ chunks_of c.args.self.now ++ c.args.piece.items ∷ [] =
    ap chunks_in items
    ∙ (map-append written_in c.args.self.now.blocks.items (c.in-Ok-of.block ∷ [])
    ∙ ap (λ l. chunks_of c.args.self.now ++ l ∷ []) bytes) in
    rw (place, long, grown) (joins (chunks_of c.args.self.now) c.args.piece.items)

pub returns-in-Ok-of-clause-ends : goal.returns-in-Ok-of-clause-ends
returns-in-Ok-of-clause-ends c =
    let items : c.push_reserved.new.self.items ≡ c.args.self.now.blocks.items ++ c.in-Ok-of.block ∷ [] = search rules in
    subst EndsJoined (sym items) (ends_joined c.args.self.now.blocks.items c.in-Ok-of.block
    (subst IsJoined (sym c.in-Ok-of.ensures.memory) tt))
