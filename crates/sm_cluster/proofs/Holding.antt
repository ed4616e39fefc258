-- Places of holds.
use Rattle.std.proofs.Common.{◌≡◌, ◌<◌, ℕ, zero, suc, ◌⊎◌, inl, inr, List, [], ◌∷◌, ◌++◌, length, refl, sym, ap, ◌∙◌}
use Rattle.std.proofs.Common.{subst, arith, rules, ⊎_elim}
use Rattle.std.specs.Prelude.{IfSome, Option, Some, None, slice_index_or, slice_set}
use Rattle.std.proofs.lemmas.Bool.{cases_order}
use Rattle.std.proofs.lemmas.List.{get_or-set_other, get_or-set_same, length-set}
use Rattle.sm_ownership.specs.declared.entry.Ending.TheVariants.{Nothing}
use Rattle.sm_ownership.specs.declared.entry.Entry.{Entry}
use Rattle.sm_ownership.specs.declared.entry.Kind.TheVariants.{Done}
use Rattle.sm_ownership.specs.declared.record.Record.{Record}
use Rattle.sm_ownership.specs.declared.mode.Mode.{Mode}
use Rattle.sm_rule.specs.Admissions.{PassAdmitted, held_admission}
use Rattle.sm_rule.specs.Boards.{BoardValue}
use Rattle.sm_rule.specs.Passes.{PassAdds, PassValue}
use Rattle.sm_rule.specs.Views.{Begins, record_in}
use Rattle.sm_rule.specs.lemmas.Passing.{begins_begins}
use Rattle.sm_cluster.specs.Holding.{AreEndedIn, AreHoldsOn, HasEnded, HasEndedIn, HoldsShard, hold_at}

-- a property of each hold of a list
abbrev pub EachHold : {Q : Type 0} → (ℕ → PassValue Q → Type 0) → List (Option (PassValue Q)) → Type 0
EachHold {Q} P holds = (shard : ℕ) (pass : PassValue Q) → hold_at holds shard ≡ Some pass → P shard pass

none_some : {X : Type 0} (x : X) → None ≡ Some x → ⊥
none_some x is = absurd cc

-- the element at a place of a list, however the place is read
pub at_place : {X : Type 0} (xs : List X) (i : ℕ) (x d : X) → i < length xs → x ≡ slice_index_or xs i x
    → slice_index_or xs i d ≡ x
at_place [] i x d within is = absurd (omega (arith, within))
at_place (one ∷ xs) zero x d within is = sym is
at_place (one ∷ xs) (suc n) x d within is = at_place xs n x d (omega (arith, within)) is

-- one place is filled or emptied
pub holds_set : {Q : Type 0} (board : BoardValue) (holds : List (Option (PassValue Q))) (shard : ℕ)
    (slot : Option (PassValue Q)) → AreHoldsOn board holds → shard < board.limits.count
    → ((pass : PassValue Q) → slot ≡ Some pass → (pass.board ≡ board) × HoldsShard pass shard)
    → AreHoldsOn board (slice_set holds shard slot)
holds_set {Q} board holds shard slot are within is_hold =
    record {
      many = length-set holds shard slot ∙ are.many;
      each = λ at pass is. by_order at pass is (cases_order at shard);
    }
  where
    by_order : (at : ℕ) (pass : PassValue Q) → hold_at (slice_set holds shard slot) at ≡ Some pass
        → (at ≡ shard) ⊎ ((at < shard) ⊎ (shard < at)) → (pass.board ≡ board) × HoldsShard pass at
    by_order at pass is (inl same) =
        let long = are.many in
        let here : hold_at (slice_set holds shard slot) shard ≡ slot =
        get_or-set_same holds shard slot None (omega (arith, within, long)) in
        let put : slot ≡ Some pass =
        sym here ∙ subst (λ (n : ℕ). hold_at (slice_set holds shard slot) n ≡ Some pass) same is in
        subst (λ (n : ℕ). (pass.board ≡ board) × HoldsShard pass n) (sym same) (is_hold pass put)
    by_order at pass is (inr (inl less)) = are.each at pass
        (sym (get_or-set_other holds shard at slot None (λ same. absurd (omega (arith, less, same)))) ∙ is)
    by_order at pass is (inr (inr more)) = are.each at pass
        (sym (get_or-set_other holds shard at slot None (λ same. absurd (omega (arith, more, same)))) ∙ is)

same_some : {X : Type 0} (x y : X) → Some x ≡ Some y → x ≡ y
same_some x y same = search rules

pub holds_put : {Q : Type 0} (board : BoardValue) (holds : List (Option (PassValue Q))) (shard : ℕ) (hold : PassValue Q)
    → AreHoldsOn board holds → shard < board.limits.count → hold.board ≡ board → HoldsShard hold shard
    → AreHoldsOn board (slice_set holds shard (Some hold))
holds_put {Q} board holds shard hold are within theirs held =
    holds_set board holds shard (Some hold) are within
    (λ pass is. subst (λ (one : PassValue Q). (one.board ≡ board) × HoldsShard one shard) (same_some hold pass is)
    (theirs, held))

-- the element at a place is a hold of the shard
pub held_of : {Q : Type 0} (board : BoardValue) (holds : List (Option (PassValue Q))) (shard : ℕ)
    (slot : Option (PassValue Q)) → AreHoldsOn board holds → hold_at holds shard ≡ slot
    → IfSome slot (λ hold. (hold.board ≡ board) × HoldsShard hold shard)
held_of board holds shard None are is = tt
held_of board holds shard (Some pass) are is = are.each shard pass is

pub holds_taken : {Q : Type 0} (board : BoardValue) (holds : List (Option (PassValue Q))) (shard : ℕ)
    → AreHoldsOn board holds → shard < board.limits.count → AreHoldsOn board (slice_set holds shard None)
holds_taken board holds shard are within =
    holds_set board holds shard None are within (λ pass is. absurd (none_some pass is))

-- a pass that was admitted to a shard holds it
pub admitted_holds : {Q : Type 0} (before after : PassValue Q) (shard : ℕ) (mode : Mode)
    → PassAdmitted before shard mode after → HoldsShard after shard
admitted_holds {Q} before after shard mode admitted =
    (record_in before.board.limits after.seen shard, ap (λ (pass : PassValue Q). held_admission pass) admitted.2.1)

-- the hold at a place of a list with one more is one of the list, or the last
held_last : {Q : Type 0} (front : List (Option (PassValue Q))) (slot : Option (PassValue Q)) (shard : ℕ)
    (pass : PassValue Q) → hold_at (front ++ slot ∷ []) shard ≡ Some pass
    → (hold_at front shard ≡ Some pass) ⊎ ((shard ≡ length front) × (slot ≡ Some pass))
held_last [] slot zero pass is = inr (refl, is)
held_last [] slot (suc n) pass is = absurd (none_some pass is)
held_last (one ∷ front) slot zero pass is = inl is
held_last (one ∷ front) slot (suc n) pass is =
    ⊎_elim (λ found. inl found) (λ (last : (n ≡ length front) × (slot ≡ Some pass)). inr (ap suc last.0, last.1))
    (held_last front slot n pass is)

held_front : {Q : Type 0} (front : List (Option (PassValue Q))) (slot : Option (PassValue Q)) (shard : ℕ)
    (pass : PassValue Q) → hold_at front shard ≡ Some pass → hold_at (front ++ slot ∷ []) shard ≡ Some pass
held_front [] slot shard pass is = absurd (none_some pass is)
held_front (one ∷ front) slot zero pass is = is
held_front (one ∷ front) slot (suc n) pass is = held_front front slot n pass is

held_here : {Q : Type 0} (front : List (Option (PassValue Q))) (slot : Option (PassValue Q))
    → hold_at (front ++ slot ∷ []) (length front) ≡ slot
held_here [] slot = refl
held_here (one ∷ front) slot = held_here front slot

pub each_front : {Q : Type 0} (P : ℕ → PassValue Q → Type 0) (front : List (Option (PassValue Q)))
    (slot : Option (PassValue Q)) → EachHold P (front ++ slot ∷ []) → EachHold P front
each_front P front slot each shard pass is = each shard pass (held_front front slot shard pass is)

pub each_slot : {Q : Type 0} (P : ℕ → PassValue Q → Type 0) (front : List (Option (PassValue Q)))
    (slot : Option (PassValue Q)) → EachHold P (front ++ slot ∷ []) → IfSome slot (P (length front))
each_slot P front None each = tt
each_slot P front (Some pass) each = each (length front) pass (held_here front (Some pass))

pub each_more : {Q : Type 0} (P : ℕ → PassValue Q → Type 0) (front : List (Option (PassValue Q)))
    (slot : Option (PassValue Q)) → EachHold P front → ((pass : PassValue Q) → slot ≡ Some pass → P (length front) pass)
    → EachHold P (front ++ slot ∷ [])
each_more {Q} P front slot each last shard pass is =
    ⊎_elim (λ found. each shard pass found)
    (λ (here : (shard ≡ length front) × (slot ≡ Some pass)). subst (λ (n : ℕ). P n pass) (sym here.0)
    (last pass here.1))
    (held_last front slot shard pass is)

-- a hold that has ended in the seen history has ended in a history that extends it
pub ended_last : {Q : Type 0} (slot : Option (PassValue Q)) (seen history : List (Entry Q)) → IfSome slot
    (HasEndedIn seen) → Begins seen history → (pass : PassValue Q) → slot ≡ Some pass → HasEndedIn history pass
ended_last None seen history ended begins pass is = absurd (none_some pass is)
ended_last {Q} (Some one) seen history ended begins pass is =
    subst (λ (hold : PassValue Q). HasEndedIn history hold) (same_some one pass is) (
      ended.0,
      ended.1,
      begins_begins ended.0.seen seen history ended.2 begins,
    )

pub ended_nothing : {Q : Type 0} (history : List (Entry Q)) (holds : List (Option (PassValue Q))) → length holds ≡ 0
    → AreEndedIn history holds
ended_nothing history [] none shard pass is = absurd (none_some pass is)
ended_nothing history (slot ∷ holds) none shard pass is = absurd (omega (arith, none))

-- a pass that holds one shard holds no other
same_first : {X : Type 0} (one other : ℕ × X) → Some one ≡ Some other → one.0 ≡ other.0
same_first {X} one other same = ap (λ (pair : ℕ × X). pair.0) (same_some one other same)

-- the end of the admission to this shard
pub ends_here : {Q : Type 0} (pass ended : PassValue Q) (shard : ℕ) → HoldsShard pass shard → HasEnded pass ended
    → PassAdds pass shard (Done Nothing) ended
ends_here pass ended shard here done =
    let first : ℕ × Record = (done.0, done.1.0) in
    let second : ℕ × Record = (shard, here.0) in
    subst (λ (n : ℕ). PassAdds pass n (Done Nothing) ended) (same_first first second (sym done.1.1 ∙ here.1)) done.2
