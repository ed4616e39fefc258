use Rattle.std.proofs.Common.{refl, sym, ◌∙◌, arith}
use Rattle.sm_c.proofs.Steps.{formed_admitted, idle_admitted}
use Rattle.sm_c.proofs.words.admitted_word.Goals as goal

pub admit_word-requires : goal.admit_word-requires
admit_word-requires c =
    let known = (c.in-Some.ensures c.in-Some.state).0 refl in (
      c.in-Some.state,
      known.0,
      idle_admitted c.args.ceiling c.in-Some.state c.args.server c.args.mode
          (sym c.admit_fault.ensures ∙ c.in-None.is),
      known.1,
    )

pub returns-in-None-clause-next : goal.returns-in-None-clause-next
returns-in-None-clause-next c =
    let known = (c.in-Some.ensures c.in-Some.state).0 refl in
    let none = sym c.admit_fault.ensures ∙ c.in-None.is in
    let formed = formed_admitted c.args.ceiling c.in-Some.state c.args.server c.args.mode none known.0
    (omega arith) in (
      c.in-Some.state,
      known.0,
      known.1,
      none,
      c.admit_word.ensures c.in-Some.state
          (idle_admitted c.args.ceiling c.in-Some.state c.args.server c.args.mode none) known.1,
      formed.0,
      formed.1,
    )
