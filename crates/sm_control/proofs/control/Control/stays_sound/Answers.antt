use Rattle.std.proofs.Common.{[], sym, subst}
use Rattle.std.proofs.lemmas.List.{append-nil}
use Rattle.sm_ownership.specs.History.{IsLegal}
use Rattle.sm_control.proofs.Stopping.{admissions_led, executor_led, stands_led}
use Rattle.sm_control.proofs.control.Control.stays_sound.Goals as goal

pub returns-clause-stands : goal.returns-clause-stands
returns-clause-stands g c = λ history led.
    let now = c.args.self.now in
    stands_led now.desk.caps now.desk.books c.soundness.ensures.caps now.chair c.soundness.ensures.stands history led

pub returns-clause-executors : goal.returns-clause-executors
returns-clause-executors g c = λ history shard server led is.
    let now = c.args.self.now in
    executor_led now.desk.caps now.desk.books c.soundness.ensures.caps now.chair c.soundness.ensures.stands history led
    shard server is

pub returns-clause-admissions : goal.returns-clause-admissions
returns-clause-admissions g c = λ history shard led.
    let now = c.args.self.now in
    let limits = now.chair.board.limits in
    let legal = subst (λ entries. IsLegal limits.count limits.ceiling entries) (sym (append-nil history)) led.3 in
    admissions_led now.desk.caps now.desk.books c.soundness.ensures.caps now.chair c.soundness.ensures.stands history
    led
    shard
    (c.executor_admitted.ensures limits.count limits.ceiling history [] shard legal)
