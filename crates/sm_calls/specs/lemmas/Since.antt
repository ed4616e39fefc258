-- A client whose calls were made has seen no less.
use Rattle.std.proofs.Common.{◌≡◌, List, [], ◌++◌, refl, sym, ap, ◌∙◌, subst, append_assoc}
use Rattle.std.proofs.lemmas.List.{append-nil}
use Rattle.sm_publish.specs.Seen.{Extends}
use Rattle.sm_rule.specs.Passes.{PassLooks, PassValue}
use Rattle.sm_rule.specs.Views.{Begins}
use Rattle.sm_rule.specs.lemmas.Passing.{begins_begins, looks_begins}
use Rattle.sm_calls.specs.Calls.{ClientValue, client_reading, client_seeing}
use Rattle.sm_calls.specs.Since.{IsClientSince}
use Rattle.sm_calls.specs.lemmas.Passes.{begins_same}

pub since_same : {Q : Type 0} (client : ClientValue Q) → IsClientSince client client
since_same client = record {
  board = refl;
  bounds = refl;
  seen = begins_same client.pass.seen;
  read = ([], sym (append-nil client.router.seen));
}

extends_extends : {X : Type 0} (one two three : List X) → (more : List X) × (two ≡ one ++ more)
    → (more : List X) × (three ≡ two ++ more) → (more : List X) × (three ≡ one ++ more)
extends_extends one two three first second =
    (first.0 ++ second.0, second.1 ∙ (ap (λ list. list ++ second.0) first.1 ∙ append_assoc one first.0 second.0))

pub since_since : {Q : Type 0} (a b c : ClientValue Q) → IsClientSince a b → IsClientSince b c → IsClientSince a c
since_since a b c first second = record {
  board = second.board ∙ first.board;
  bounds = second.bounds ∙ first.bounds;
  seen = begins_begins a.pass.seen b.pass.seen c.pass.seen first.seen second.seen;
  read = extends_extends a.router.seen b.router.seen c.router.seen first.read second.read;
}

-- a client whose pass has looked
pub since_looks : {Q : Type 0} (before after : ClientValue Q) → PassLooks before.pass after.pass
    → after ≡ client_seeing before after.pass → IsClientSince before after
since_looks {Q} before after looks is = record {
  board = ap (λ (pass : PassValue Q). pass.board) looks.1;
  bounds = ap (λ (client : ClientValue Q). client.bounds) is;
  seen = looks_begins before.pass after.pass looks;
  read = ([], ap (λ (client : ClientValue Q). client.router.seen) is ∙ sym (append-nil before.router.seen));
}

-- a client that has read routes
pub since_read : {Q : Type 0} (before after : ClientValue Q) → after ≡ client_reading before after.router
    → Extends after.router.seen before.router.seen → IsClientSince before after
since_read {Q} before after is read = record {
  board = ap (λ (client : ClientValue Q). client.pass.board) is;
  bounds = ap (λ (client : ClientValue Q). client.bounds) is;
  seen = subst (λ (client : ClientValue Q). Begins before.pass.seen client.pass.seen) (sym is)
      (begins_same before.pass.seen);
  read = read;
}
