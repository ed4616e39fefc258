use Rattle.std.proofs.Common.{List, [], Some, length, ap, sym, subst, ◌∙◌}
use Rattle.std.proofs.lemmas.Bool.{eqb-false, eqb-true}
use Rattle.sm_map.specs.KeyMap.{KeyPair}
use Rattle.sm_map.specs.Val.{held_of}
use Rattle.sm_store.specs.Clients.{state_after}
use Rattle.sm_texts.specs.Saves.{texts_service}
use Rattle.sm_texts.proofs.Loading.{Loading, load_done, load_none, load_step}
use Rattle.sm_texts.proofs.Reached.{nothing_held, reached}
use Rattle.sm_texts.proofs.saves.load.Goals as goal

pub returns-in_default : goal.returns-in_default
returns-in_default c = λ items is.
    let held = reached [] items nothing_held in
    let m = state_after texts_service [] items in
    absurd (load_none m c.loop-rest.map.pairs c.loop-rest.rest.now held (c.loop-rest.invariant m held is)
    (eqb-false (length c.loop-rest.rest.now) 0 (sym c.is_empty.ensures ∙ c.loop-rest-test.true))
    c.in_default.ensures.exact)

pub loop-rest-preserved : goal.loop-rest-preserved
loop-rest-preserved c = λ m held is.
    subst (λ (ps : List KeyPair). Loading m ps c.in-Some.after.now) (sym c.in_ok-put.ensures.ok)
    (load_step m c.loop-rest.map.pairs c.loop-rest.rest.now c.in-Some.after.now c.in-Some.key.now
    (held_of c.in-Some.value) held (c.loop-rest.invariant m held is)
    (eqb-false (length c.loop-rest.rest.now) 0 (sym c.is_empty.ensures ∙ c.loop-rest-test.true))
    c.in-Some.ensures.exact)

pub returns : goal.returns
returns c = λ items is.
    let held = reached [] items nothing_held in
    let m = state_after texts_service [] items in
    ap Some (load_done m c.loop-rest.map.pairs c.loop-rest.rest.now (c.loop-rest.invariant m held is)
    (eqb-true (length c.loop-rest.rest.now) 0 (sym c.is_empty.ensures ∙ c.loop-rest-test.false)))
