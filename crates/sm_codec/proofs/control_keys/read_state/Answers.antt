use Rattle.std.proofs.Common.{ap, subst, ◌∙◌, arith}
use Rattle.sm_codec.specs.Reading.{Decodes, state_in}
use Rattle.sm_codec.proofs.Controls.{nameless_again, state_again, state_found}
use Rattle.sm_codec.proofs.control_keys.read_state.Goals as goal

pub returns-clause-found : goal.returns-clause-found
returns-clause-found c =
    state_found c.args.bytes.now c.stored_state_of.result
    (λ i. omega (arith, c.type_inv.bytes i)) c.stored_state_of.ensures

pub returns-clause-only : goal.returns-clause-only
returns-clause-only c = λ stored two three e.
    subst (λ f. Decodes (λ found. found) c.stored_state_of.result f)
    (ap state_in e ∙ state_again stored two three) c.stored_state_of.ensures

pub returns-clause-nameless : goal.returns-clause-nameless
returns-clause-nameless c = λ stored two none e.
    subst (λ f. Decodes (λ found. found) c.stored_state_of.result f)
    (ap state_in e ∙ nameless_again stored two none) c.stored_state_of.ensures
