use Rattle.std.proofs.Common.{refl, sym, ap, subst, ◌∙◌, inr, arith}
use Rattle.sm_word.specs.Word.{IsWellFormed, word_of}
use Rattle.sm_c.proofs.Steps.{formed_next}
use Rattle.sm_c.proofs.words.changed_word.Goals as goal

pub pack-requires : goal.pack-requires
pack-requires c =
    subst IsWellFormed (sym (c.in-Ok.ensures.made))
    (formed_next c.args.ceiling c.in-Some.state c.args.change (c.in-Ok.ensures.fault)
    ((c.in-Some.ensures c.in-Some.state).0 refl).0 c.names_servers.ensures (omega arith))

pub returns-in-Ok-clause-next : goal.returns-in-Ok-clause-next
returns-in-Ok-clause-next c =
    let known = (c.in-Some.ensures c.in-Some.state).0 refl in (
      c.in-Some.state,
      known.0,
      known.1,
      sym c.in-Ok.ensures.fault,
      c.pack.ensures ∙ ap word_of c.in-Ok.ensures.made,
      formed_next c.args.ceiling c.in-Some.state c.args.change c.in-Ok.ensures.fault known.0 c.names_servers.ensures
          (omega arith),
    )

pub returns-in-Err-clause-refused : goal.returns-in-Err-clause-refused
returns-in-Err-clause-refused c =
    let known = (c.in-Some.ensures c.in-Some.state).0 refl in
    inr (c.in-Some.state, c.in-Err.fault, known.0, known.1, sym c.in-Err.ensures.fault, refl)
