use Rattle.std.proofs.Common.{ap, subst, ◌∙◌, arith}
use Rattle.sm_codec.specs.Reading.{Decodes, head_in}
use Rattle.sm_codec.proofs.Heads.{head_again, head_found}
use Rattle.sm_codec.proofs.reading.read_head.Goals as goal

pub returns-clause-found : goal.returns-clause-found
returns-clause-found c =
    head_found c.args.bytes.now c.head_of.result (λ i. omega (arith, c.type_inv.bytes i)) c.head_of.ensures

pub returns-clause-only : goal.returns-clause-only
returns-clause-only c = λ head fits e.
    subst (λ f. Decodes (λ found. found) c.head_of.result f) (ap head_in e ∙ head_again head fits) c.head_of.ensures
