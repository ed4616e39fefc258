use Rattle.std.proofs.Common.{ap, subst, ◌∙◌, arith}
use Rattle.sm_codec.specs.Spelling.{part_view}
use Rattle.sm_codec.specs.Reading.{Decodes, part_in}
use Rattle.sm_codec.proofs.Parts.{part_again, part_found}
use Rattle.sm_codec.proofs.reading.read_part.Goals as goal

pub returns-clause-found : goal.returns-clause-found
returns-clause-found c =
    part_found c.args.bytes.now c.part_of.result (λ i. omega (arith, c.type_inv.bytes i)) c.part_of.ensures

pub returns-clause-only : goal.returns-clause-only
returns-clause-only c = λ part fits e.
    subst (λ f. Decodes (λ stored. part_view stored) c.part_of.result f) (ap part_in e ∙ part_again part fits)
    c.part_of.ensures
