-- The combined knowledge from several calls with one pass.
use Rattle.std.proofs.Common.{◌≡◌, ◌≢◌, ℕ, false, List, [], ◌∷◌, ◌++◌, refl, sym, ap, ◌∙◌, subst, append_assoc}
use Rattle.std.specs.Prelude.{Option, Some, None, ◌==◌}
use Rattle.std.proofs.lemmas.Bool.{ne_eqb}
use Rattle.std.proofs.lemmas.List.{append-nil}
use Rattle.std.proofs.lemmas.List.Elements.{All-append, All-head, All-tail, filter-append}
use Rattle.sm_ownership.specs.History.{NoneBy}
use Rattle.sm_ownership.specs.declared.entry.Entry.{Entry}
use Rattle.sm_ownership.specs.declared.entry.Kind.{Kind}
use Rattle.sm_ownership.specs.declared.mode.Mode.{Mode}
use Rattle.sm_rule.specs.declared.admit_refusal.AdmitRefusal.{AdmitRefusal}
use Rattle.sm_rule.specs.declared.admit_refusal.AdmitRefusal.TheVariants.{Refused, Raced}
use Rattle.sm_rule.specs.declared.limits.Limits.{Limits}
use Rattle.sm_rule.specs.Admissions.{PassAdmitted, Races, RefusedBy, fault_for}
use Rattle.sm_rule.specs.Boards.{BoardValue}
use Rattle.sm_rule.specs.Passes.{PassAdds, PassLooks, PassValue, own, pass_adding, pass_seeing}
use Rattle.sm_rule.specs.Views.{Begins, Grows, IsMet, entry_of}

-- a history that grows by entries of others, and then grows on
pub grows_grows : {Q : Type 0} (limits : Limits) (number : ℕ) (one two three added : List (Entry Q))
    → Grows limits number one two [] → Grows limits number two three added → Grows limits number one three added
grows_grows limits number one two three added first second = (
  first.0 ++ second.0,
  second.1 ∙ (ap (λ entries. (entries ++ second.0) ++ added) (first.1 ∙ append-nil (one ++ first.0))
      ∙ ap (λ entries. entries ++ added) (append_assoc one first.0 second.0)),
  All-append (λ entry. entry.actor ≢ number) first.0 second.0 first.2 second.2,
  second.3,
)

-- the same if the second has other limits and another number, which are equal to the first's
pub grows_on : {Q : Type 0} (limits same_limits : Limits) (number same_number : ℕ) (one two three : List (Entry Q))
    (added : ℕ → List (Entry Q)) → same_limits ≡ limits → same_number ≡ number → Grows limits number one two []
    → Grows same_limits same_number two three (added same_number) → Grows limits number one three (added number)
grows_on limits same_limits number same_number one two three added limits_are number_is first second =
    grows_grows limits number one two three (added number) first
    (subst (λ (pair : Limits × ℕ). Grows pair.0 pair.1 two three (added pair.1))
    (λ i. (limits_are i, number_is i)) second)

pub grows_begins : {Q : Type 0} (limits : Limits) (number : ℕ) (before after added : List (Entry Q))
    → Grows limits number before after added → Begins before after
grows_begins limits number before after added grows = (grows.0 ++ added, grows.1 ∙ append_assoc before grows.0 added)

pub begins_begins : {Q : Type 0} (one two three : List (Entry Q)) → Begins one two → Begins two three → Begins one three
begins_begins one two three first second =
    (first.0 ++ second.0, second.1 ∙ (ap (λ entries. entries ++ second.0) first.1 ∙ append_assoc one first.0 second.0))

-- the own entries of a history that follows others
pub own_append : {Q : Type 0} (number : ℕ) (one two : List (Entry Q))
    → own number (one ++ two) ≡ own number one ++ own number two
own_append number one two = filter-append (λ entry. entry.actor == number) one two

pub own_none : {Q : Type 0} (number : ℕ) (entries : List (Entry Q)) → NoneBy number entries → own number entries ≡ []
own_none number [] none = refl
own_none number (entry ∷ entries) none =
    let other : (entry.actor == number) ≡ false =
    ne_eqb entry.actor number (All-head (λ one. one.actor ≢ number) entry entries none) in
    rw other (own_none number entries (All-tail (λ one. one.actor ≢ number) entry entries none))

-- growth adds exactly the own entries that were added
pub own_grows : {Q : Type 0} (limits : Limits) (number : ℕ) (before after added : List (Entry Q))
    → Grows limits number before after added → own number after ≡ own number before ++ own number added
own_grows limits number before after added grows =
    ap (own number) grows.1
    ∙ (own_append number (before ++ grows.0) added
    ∙ ap (λ entries. entries ++ own number added) (own_append number before grows.0 ∙ (ap
    (λ entries. own number before ++ entries) (own_none number grows.0 grows.2) ∙ append-nil (own number before))))

-- the history that was met begins with the told one, and has no more entries of the note's number
pub met_begins : {Q : Type 0} (number : ℕ) (seen history : List (Entry Q)) → IsMet number seen history
    → Begins seen history
met_begins number seen history met = (met.0, met.1)

-- after a look, and after an own entry, the earlier view is a front of the present one
pub looks_begins : {Q : Type 0} (p q : PassValue Q) → PassLooks p q → Begins p.seen q.seen
looks_begins p q looks = grows_begins p.board.limits p.number p.seen q.seen [] looks.0

pub adds_begins : {Q : Type 0} (p q : PassValue Q) (shard : ℕ) (kind : Kind Q) → PassAdds p shard kind q
    → Begins p.seen q.seen
adds_begins p q shard kind adds =
    grows_begins p.board.limits p.number p.seen q.seen (entry_of p.number shard kind ∷ []) adds.0

module _ {Q : Type 0} (p q r : PassValue Q) (first : PassLooks p q) where
  board_stays : q.board ≡ p.board
  board_stays = ap (λ (pass : PassValue Q). pass.board) first.1

  number_stays : q.number ≡ p.number
  number_stays = ap (λ (pass : PassValue Q). pass.number) first.1

  server_stays : q.server ≡ p.server
  server_stays = ap (λ (pass : PassValue Q). pass.server) first.1

  grows_from : (added : ℕ → List (Entry Q)) → Grows q.board.limits q.number q.seen r.seen (added q.number)
      → Grows p.board.limits p.number p.seen r.seen (added p.number)
  grows_from added second =
      grows_on p.board.limits q.board.limits p.number q.number p.seen q.seen r.seen added
      (ap (λ (board : BoardValue). board.limits) board_stays) number_stays first.0 second

  -- a look, and then another
  pub looks_looks : PassLooks q r → PassLooks p r
  looks_looks second =
      (grows_from (λ _. []) second.0, second.1 ∙ ap (λ (pass : PassValue Q). pass_seeing pass r.seen) first.1)

  -- a look, and then an entry of one's own
  pub looks_adds : (shard : ℕ) (kind : Kind Q) → PassAdds q shard kind r → PassAdds p shard kind r
  looks_adds shard kind second = (
    grows_from (λ number. entry_of number shard kind ∷ []) second.0,
    second.1 ∙ ap (λ (pass : PassValue Q). pass_adding pass shard kind r.seen) first.1,
  )

  -- a look, and then an admission
  pub looks_admits : (shard : ℕ) (mode : Mode) → PassAdmitted q shard mode r → PassAdmitted p shard mode r
  looks_admits shard mode second = (second.0, sym server_stays ∙ second.1, looks_adds shard _ second.2)

  -- a look, and then a refusal
  pub looks_refused : (shard : ℕ) (mode : Mode) (refusal : AdmitRefusal) → RefusedBy q r shard mode refusal
      → RefusedBy p r shard mode refusal
  looks_refused shard mode (Refused fault state) second = (
    second.0,
    subst (λ (pair : BoardValue × Option ℕ). fault_for pair.0.limits.ceiling state pair.1 mode
        ≡ Some fault) (λ i. (board_stays i, server_stays i)) second.1,
  )
  looks_refused shard mode (Raced read found) second =
      let free = subst (λ (pair : BoardValue × Option ℕ). fault_for pair.0.limits.ceiling read pair.1 mode ≡ None)
      (λ i. (board_stays i, server_stays i)) second.0 in
      let race : Races p.board.limits q.seen r.seen shard read found =
      subst (λ (board : BoardValue). Races board.limits q.seen r.seen shard read found) board_stays second.1 in (
        free,
        (
          race.0,
          begins_begins p.seen q.seen race.0 (grows_begins p.board.limits p.number p.seen q.seen [] first.0) race.1,
          race.2,
          race.3,
          race.4,
          race.5,
        ),
      )
