-- Two passes that hold at one point of a history hold different shards.
use Rattle.std.proofs.Common.{◌≡◌, ◌≢◌, append_assoc, ℕ, true, List, [], ◌∷◌, ◌++◌, sym, ap, ◌∙◌, subst}
use Rattle.std.specs.Prelude.{Option, Some, None, reverse, ◌==◌}
use Rattle.std.proofs.lemmas.Bool.{and_parts, eqb-true, true≢false}
use Rattle.std.proofs.lemmas.List.{append-nil, append_cancel_left, reverse-append}
use Rattle.std.proofs.lemmas.List.Elements.{All-nil, All-cons, All-head, All-tail}
use Rattle.sm_ownership.specs.declared.entry.Entry.{Entry}
use Rattle.sm_ownership.specs.declared.record.Record.{Record}
use Rattle.sm_ownership.specs.History.{IsLegal, IsLegalLatest, NoneBy, is_admission_of, is_admit, latest_of}
use Rattle.sm_ownership.specs.lemmas.Growth.{legal_prefix}
use Rattle.sm_ownership.specs.lemmas.Lasting.{NoneBy-reverse, admission_excludes}
use Rattle.sm_rule.specs.declared.limits.Limits.{Limits}
use Rattle.sm_rule.specs.declared.view.HeldShard.{HeldShard}
use Rattle.sm_rule.specs.Admissions.{HoldsPermit, PermitValue}
use Rattle.sm_rule.specs.Boards.{BoardValue}
use Rattle.sm_rule.specs.Passes.{HoldsInSeen, PassLooks, PassValue}
use Rattle.sm_rule.specs.Rule.{IsHolding}
use Rattle.sm_rule.specs.Views.{Begins, Grows}
use Rattle.sm_rule.proofs.Keeping.{held_some, held_stays}

module _ {Q : Type 0} where
  none_front : (actor : ℕ) (one two : List (Entry Q)) → NoneBy actor (one ++ two) → NoneBy actor one
  none_front actor [] two none = All-nil (λ entry. entry.actor ≢ actor)
  none_front actor (entry ∷ one) two none =
      let Is : Entry Q → Type 0 = λ it. it.actor ≢ actor in
      All-cons Is entry one (All-head Is entry (one ++ two) none)
      (none_front actor one two (All-tail Is entry (one ++ two) none))

  one_actor : (latest : Option (Entry Q)) (actor other : ℕ) → is_admission_of actor latest ≡ true
      → is_admission_of other latest ≡ true → actor ≡ other
  one_actor None actor other first second = absurd (true≢false (sym first))
  one_actor (Some entry) actor other first second =
      sym (eqb-true entry.actor actor (and_parts (entry.actor == actor) (is_admit entry.kind) first).0)
      ∙ eqb-true entry.actor other (and_parts (entry.actor == other) (is_admit entry.kind) second).0

-- a hold stays while others add entries
module _ {Q : Type 0} (limits : Limits) (number : ℕ) (held : HeldShard Q) where
  -- the latest entry first
  holds_latest : (later history : List (Entry Q)) → IsLegalLatest limits.count limits.ceiling (later ++ history)
      → NoneBy number later → IsHolding limits number held history → IsHolding limits number held (later ++ history)
  holds_latest [] history legal none is = is
  holds_latest (entry ∷ later) history legal none is =
      let Is : Entry Q → Type 0 = λ it. it.actor ≢ number in
      let before = holds_latest later history legal.1 (All-tail Is entry later none) is in
      let busy = ap (λ (state : Record). state.admitted) before.state ∙ before.admitted in
      held_stays limits number held entry (later ++ history) legal
      (admission_excludes limits.count limits.ceiling entry (later ++ history) held.shard number legal.0
      (All-head Is entry later none) busy before.own) before

  holds_later : (seen others : List (Entry Q)) → IsLegal limits.count limits.ceiling (seen ++ others)
      → NoneBy number others → IsHolding limits number held (reverse seen)
      → IsHolding limits number held (reverse (seen ++ others))
  holds_later seen others legal none is =
      let turned = reverse-append seen others in
      subst (IsHolding limits number held) (sym turned)
      (holds_latest (reverse others) (reverse seen) (subst (IsLegalLatest limits.count limits.ceiling) turned legal)
      (NoneBy-reverse number others none) is)

-- a pass has seen all of one history first and all of another one last, and no entry of its own came between; a third
-- one lies between the two
module _ {Q : Type 0} (limits : Limits) (number : ℕ) (first there last : List (Entry Q))
    (grows : Grows limits number first last []) (one : Begins first there) (two : Begins there last) where
  others_are : grows.0 ≡ one.0 ++ two.0
  others_are =
      append_cancel_left first grows.0 (one.0 ++ two.0)
      (sym (grows.1 ∙ append-nil (first ++ grows.0))
      ∙ (two.1 ∙ (ap (λ entries. entries ++ two.0) one.1 ∙ append_assoc first one.0 two.0)))

  none_more : NoneBy number (one.0 ++ two.0)
  none_more = subst (NoneBy number) others_are grows.2

  legal_there : IsLegal limits.count limits.ceiling there
  legal_there = legal_prefix limits.count limits.ceiling there two.0
      (subst (IsLegal limits.count limits.ceiling) two.1 grows.3)

  holds_there : (held : HeldShard Q) → IsHolding limits number held (reverse first)
      → IsHolding limits number held (reverse there)
  holds_there held is =
      subst (λ entries. IsHolding limits number held (reverse entries)) (sym one.1)
      (holds_later limits number held first one.0 (subst (IsLegal limits.count limits.ceiling) one.1 legal_there)
      (none_front number one.0 two.0 none_more) is)

-- the latest entry of a shard has one actor
apart_at : {Q : Type 0} (limits : Limits) (mine theirs : ℕ) (held other : HeldShard Q) (history : List (Entry Q))
    → mine ≢ theirs → IsHolding limits mine held history → IsHolding limits theirs other history
    → held.shard ≢ other.shard
apart_at limits mine theirs held other history differ one two = λ same.
    differ (one_actor (latest_of history other.shard) mine theirs
    (subst (λ k. is_admission_of mine (latest_of history k) ≡ true) same one.own) two.own)

-- a pass has seen everything that the other one had, and the other one then everything that it has
module _ {S Q : Type 0} (board : BoardValue) (mine mine' theirs theirs' theirs'' : PassValue Q)
    (permit other : PermitValue S) (on : mine.board ≡ board) (also_on : theirs.board ≡ board)
    (held : HoldsPermit mine permit) (also_held : HoldsPermit theirs other) (looked : PassLooks theirs theirs')
    (stands : HoldsInSeen theirs') (then_looked : PassLooks mine mine') (told : Begins theirs'.seen mine'.seen)
    (also_stands : HoldsInSeen mine') (last_looked : PassLooks theirs' theirs'') where
  my : (one : HeldShard Q) × (mine.held ≡ Some one) × (one.shard ≡ permit.shard) × (one.state ≡ permit.state)
  my = held_some mine.held permit.shard permit.state held.1

  their : (one : HeldShard Q) × (theirs.held ≡ Some one) × (one.shard ≡ other.shard) × (one.state ≡ other.state)
  their = held_some theirs.held other.shard other.state also_held.1

  my_holding : IsHolding board.limits mine.number my.0 (reverse mine'.seen)
  my_holding =
      subst (λ (it : BoardValue × ℕ). IsHolding it.0.limits it.1 my.0 (reverse mine'.seen))
      (λ i. (
        (ap (λ (pass : PassValue Q). pass.board) then_looked.1 ∙ on) i,
        ap (λ (pass : PassValue Q). pass.number) then_looked.1 i,
      ))
      (also_stands my.0 (ap (λ (pass : PassValue Q). pass.held) then_looked.1 ∙ my.1))

  their_holding : IsHolding board.limits theirs.number their.0 (reverse theirs'.seen)
  their_holding =
      subst (λ (it : BoardValue × ℕ). IsHolding it.0.limits it.1 their.0 (reverse theirs'.seen))
      (λ i. (
        (ap (λ (pass : PassValue Q). pass.board) looked.1 ∙ also_on) i,
        ap (λ (pass : PassValue Q). pass.number) looked.1 i,
      ))
      (stands their.0 (ap (λ (pass : PassValue Q). pass.held) looked.1 ∙ their.1))

  grown : Grows board.limits theirs.number theirs'.seen theirs''.seen []
  grown =
      subst (λ (it : BoardValue × ℕ). Grows it.0.limits it.1 theirs'.seen theirs''.seen [])
      (λ i. (
        (ap (λ (pass : PassValue Q). pass.board) looked.1 ∙ also_on) i,
        ap (λ (pass : PassValue Q). pass.number) looked.1 i,
      ))
      last_looked.0

  pub permits_apart : Begins mine'.seen theirs''.seen → mine.number ≢ theirs.number → permit.shard ≢ other.shard
  permits_apart met differ = λ same.
      apart_at board.limits mine.number theirs.number my.0 their.0 (reverse mine'.seen) differ my_holding
      (holds_there board.limits theirs.number theirs'.seen mine'.seen theirs''.seen grown told met their.0
      their_holding)
      (my.2 ∙ (same ∙ sym their.2))
