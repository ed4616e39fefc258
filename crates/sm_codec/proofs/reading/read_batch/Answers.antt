use Rattle.std.proofs.Common.{ap, subst, ◌∙◌, arith}
use Rattle.sm_codec.specs.Spelling.{batch_view}
use Rattle.sm_codec.specs.Reading.{Decodes, batch_in}
use Rattle.sm_codec.proofs.Batches.{batch_again, batch_found}
use Rattle.sm_codec.proofs.reading.read_batch.Goals as goal

pub returns-clause-found : goal.returns-clause-found
returns-clause-found c =
    batch_found c.args.bytes.now c.batch_of.result (λ i. omega (arith, c.type_inv.bytes i)) c.batch_of.ensures

pub returns-clause-only : goal.returns-clause-only
returns-clause-only c = λ batch fits e.
    subst (λ f. Decodes (λ stored. batch_view stored) c.batch_of.result f) (ap batch_in e ∙ batch_again batch fits)
    c.batch_of.ensures
