use Rattle.sm_ranges.specs.LayoutFault.{texts_of}
use Rattle.sm_ranges.specs.lemmas.Layouts.{no_fault-layout, layout-no_fault}
use Rattle.sm_ranges.proofs.layout.Layout.new.Goals as goal

pub invariant_of-result : goal.invariant_of-result
invariant_of-result c = rw (c.in_ok-copied.ensures) (no_fault-layout (texts_of c.args.bounds.now) (cc))

pub returns-clause-is_layout : goal.returns-clause-is_layout
returns-clause-is_layout c = no_fault-layout (texts_of c.args.bounds.now) (cc)

pub returns-in-Some-clause-accepts : goal.returns-in-Some-clause-accepts
returns-in-Some-clause-accepts c = λ layout.
    let none = layout-no_fault (texts_of c.args.bounds.now) layout in
    cc
