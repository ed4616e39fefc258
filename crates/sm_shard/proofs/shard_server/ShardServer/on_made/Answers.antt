use Rattle.std.proofs.Common.{rules, ◌≡◌, ◌≢◌, ◌+◌, [], Some, map, sym, subst, ◌∙◌}
use Rattle.sm_shard.specs.declared.shard_state.ShardState.{ShardState}
use Rattle.sm_shard.specs.Replicas.{told_read}
use Rattle.sm_shard.specs.ShardServers.{AreAskedOf, AreRequestsAskedOf, HasRead, WereMade}
use Rattle.sm_shard.proofs.ShardServers.{asked_named, head_by_fields, knows_made, knows_settled, none_by_length}
use Rattle.sm_shard.proofs.ShardServers.{made_told, none_made, none_told, requests_named}
use Rattle.sm_shard.proofs.ShardServers.{reads_told, some_by_length, some_of, told_made}
use Rattle.sm_shard.proofs.shard_server.ShardServer.on_made.Goals as goal

pub returns-then-is_empty-clause-read : goal.returns-then-is_empty-clause-read
returns-then-is_empty-clause-read g c = λ system since known asked held.
    reads_told g.M.StoreMachine.service system since c.args.self.now.me
    c.args.self.now.shard c.args.self.now.ready c.in-Some.ready (sym c.take.ensures.value ∙ c.in-Some.is) known asked
    held c.deref.result.now c.deref.ensures.value (map told_read c.in_ok-read.read.items) c.in_ok-read.ensures

pub returns-clause-read : goal.returns-clause-read
returns-clause-read g c = λ system since known asked held.
    reads_told g.M.StoreMachine.service system since c.args.self.now.me
    c.args.self.now.shard c.args.self.now.ready c.in-Some.ready (sym c.take.ensures.value ∙ c.in-Some.is) known asked
    held c.deref.result.now c.deref.ensures.value (map told_read c.in_ok-read.read.items) c.in_ok-read.ensures

pub returns-clause-known : goal.returns-clause-known
returns-clause-known g c = λ log rising known made.
    let service = g.M.StoreMachine.service in
    let me = c.args.self.now.me in
    let shard = c.args.self.now.shard in
    let old = c.in-Some.ready in
    let is : c.args.self.now.ready ≡ Some old = sym c.take.ensures.value ∙ c.in-Some.is in
    let knows = some_of (λ (r : ShardState g.row.M.Denot g.row.Q.Denot g.row.R.Denot). HasRead service log me
    shard r) c.args.self.now.ready old is known in
    let were_made = some_of (λ (r : ShardState g.row.M.Denot g.row.Q.Denot g.row.R.Denot). WereMade log me shard
    c.args.revision r) c.args.self.now.ready old is made in
    let some : old.sent.items ≢ [] = some_by_length old.sent.items old.sent.len old.sent.ok.0
    (sym c.is_empty.ensures ∙ c.if-is_empty.false) in
    let done = c.in_ok-made.ensures in
    knows_made service log me shard c.args.revision old c.commit.new.ready rising knows some were_made
    done.state done.stood
    (head_by_fields c.commit.new.ready.head (old.head.batches + 1) old.head.base old.head.parts done.batches done.base
    done.parts) done.logged done.sent done.waiting (done.replica knows.before knows.is.replica).0 done.work

pub returns-clause-told : goal.returns-clause-told
returns-clause-told g c = λ system rising known made.
    let service = g.M.StoreMachine.service in
    let me = c.args.self.now.me in
    let shard = c.args.self.now.shard in
    let old = c.in-Some.ready in
    let is : c.args.self.now.ready ≡ Some old = sym c.take.ensures.value ∙ c.in-Some.is in
    let knows = some_of (λ (r : ShardState g.row.M.Denot g.row.Q.Denot g.row.R.Denot). HasRead service
    system.log me shard r) c.args.self.now.ready old is known in
    let were_made = some_of (λ (r : ShardState g.row.M.Denot g.row.Q.Denot g.row.R.Denot). WereMade system.log me shard
    c.args.revision r) c.args.self.now.ready old is made in
    let some : old.sent.items ≢ [] = some_by_length old.sent.items old.sent.len old.sent.ok.0
    (sym c.is_empty.ensures ∙ c.if-is_empty.false) in
    made_told service system me shard c.args.revision c.args.self.now.ready old is c.in_ok-made.made.items
    (told_made service system me shard c.args.revision old c.in_ok-made.made.items rising knows some were_made
    c.in_ok-made.ensures.answers)

pub returns-then-is_empty-clause-told : goal.returns-then-is_empty-clause-told
returns-then-is_empty-clause-told g c = λ system rising known made.
    let service = g.M.StoreMachine.service in
    let old = c.in-Some.ready in
    let none : old.sent.items ≡ [] = none_by_length old.sent.items old.sent.len old.sent.ok.0
    (sym c.is_empty.ensures ∙ c.if-is_empty.true) in
    made_told service system c.args.self.now.me c.args.self.now.shard c.args.revision c.args.self.now.ready old
    (sym c.take.ensures.value ∙ c.in-Some.is) _ (none_told service system c.args.self.now.shard old _ none)

pub returns-then-is_empty-clause-made : goal.returns-then-is_empty-clause-made
returns-then-is_empty-clause-made g c =
    let old = c.in-Some.ready in
    let none : old.sent.items ≡ [] = none_by_length old.sent.items old.sent.len old.sent.ok.0
    (sym c.is_empty.ensures ∙ c.if-is_empty.true) in
    none_made g.M.StoreMachine.service c.args.self.now.ready old (sym c.take.ensures.value ∙ c.in-Some.is) none _
    (search rules)

pub returns-then-is_empty-clause-known : goal.returns-then-is_empty-clause-known
returns-then-is_empty-clause-known g c = λ log rising known made.
    let service = g.M.StoreMachine.service in
    let me = c.args.self.now.me in
    let shard = c.args.self.now.shard in
    let old = c.in-Some.ready in
    let is : c.args.self.now.ready ≡ Some old = sym c.take.ensures.value ∙ c.in-Some.is in
    let knows = some_of (λ (r : ShardState g.row.M.Denot g.row.Q.Denot g.row.R.Denot). HasRead service log me
    shard r) c.args.self.now.ready old is known in
    let were_made = some_of (λ (r : ShardState g.row.M.Denot g.row.Q.Denot g.row.R.Denot). WereMade log me shard
    c.args.revision r) c.args.self.now.ready old is made in
    let none : old.sent.items ≡ [] = none_by_length old.sent.items old.sent.len old.sent.ok.0
    (sym c.is_empty.ensures ∙ c.if-is_empty.true) in
    subst (HasRead service log me shard) (sym c.name_base.ensures)
    (knows_settled service log me shard c.args.revision old _ rising knows none were_made)

pub returns-then-is_empty-clause-asked : goal.returns-then-is_empty-clause-asked
returns-then-is_empty-clause-asked g c = λ asked since was.
    let service = g.M.StoreMachine.service in
    let shard = c.args.self.now.shard in
    let old = c.in-Some.ready in
    let is : c.args.self.now.ready ≡ Some old = sym c.take.ensures.value ∙ c.in-Some.is in
    let are = some_of (λ (r : ShardState g.row.M.Denot g.row.Q.Denot g.row.R.Denot). AreAskedOf asked since shard r)
    c.args.self.now.ready old is was in
    subst (AreAskedOf asked since shard) (sym c.name_base.ensures)
    (asked_named service asked since shard c.args.revision old _ (search rules) are)

pub returns-then-is_empty-clause-asked_for : goal.returns-then-is_empty-clause-asked_for
returns-then-is_empty-clause-asked_for g c = λ asked was.
    let shard = c.args.self.now.shard in
    let old = c.in-Some.ready in
    let is : c.args.self.now.ready ≡ Some old = sym c.take.ensures.value ∙ c.in-Some.is in
    let are = some_of (λ (r : ShardState g.row.M.Denot g.row.Q.Denot g.row.R.Denot). AreRequestsAskedOf asked shard r)
    c.args.self.now.ready old is was in
    subst (AreRequestsAskedOf asked shard) (sym c.name_base.ensures)
    (requests_named g.M.StoreMachine.service asked shard c.args.revision old _ are)
