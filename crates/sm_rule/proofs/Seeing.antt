-- The combined knowledge from the steps of one call, and their requirements.
use Rattle.std.proofs.Common.{◌≡◌, ◌≢◌, ℕ, ◌+◌, ◌<◌, ◌≤◌, ◌^◌, true, false, not, ◌&&◌, List, [], ◌∷◌, ◌++◌, refl, sym}
use Rattle.std.proofs.Common.{ap, ◌∙◌, subst, arith, ⊎_elim}
use Rattle.std.specs.Prelude.{IfSome, Option, Some, None, is_none, is_some, length, nat_le, slice_index_or, slice_set}
use Rattle.std.specs.Prelude.{unwrap_or, ◌==◌}
use Rattle.std.proofs.lemmas.Bool.{and_from, and_parts, cases_eq, eq-eqb, leb-true, lt-ltb, ne_eqb, not-true}
use Rattle.std.proofs.lemmas.List.{append-nil, get_or-set_other, get_or-set_same, length-set}
use Rattle.atomic_table.specs.Seated.{TableId}
use Rattle.atomic_table.specs.Table.{rest}
use Rattle.sm_ranges.specs.ServerId.{IsServer}
use Rattle.sm_ranges.specs.declared.stand.Stand.{Stand}
use Rattle.sm_ranges.specs.declared.stand.Stand.TheVariants.{Vacant, Serving, Prepared, Forwarding, Taken, Paused}
use Rattle.sm_ownership.specs.declared.admit_fault.AdmitFault.{AdmitFault}
use Rattle.sm_ownership.specs.declared.admit_fault.AdmitFault.TheVariants.{NotExecutor}
use Rattle.sm_ownership.specs.declared.change.Change.{Change}
use Rattle.sm_ownership.specs.declared.entry.Entry.{Entry}
use Rattle.sm_ownership.specs.declared.entry.Kind.{Kind}
use Rattle.sm_ownership.specs.declared.entry.Kind.TheVariants.{Change as Changed, Admit, Done}
use Rattle.sm_ownership.specs.declared.mode.Mode.{Mode}
use Rattle.sm_ownership.specs.declared.record.Record.{Record}
use Rattle.sm_ownership.specs.lemmas.Ceilings.{within_ceiling}
use Rattle.sm_ownership.specs.lemmas.Faults.{admit_fault-none, phase_fault-none}
use Rattle.sm_ownership.specs.lemmas.Growth.{fits-push, legal_prefix, record_at-push_other}
use Rattle.sm_ownership.specs.History.{IsLegal, after_admit, after_change, after_done, all_of, first_of, IsSameOrLater}
use Rattle.sm_ownership.specs.History.{NoneBy}
use Rattle.sm_ownership.specs.lemmas.Requests.{first_of-within}
use Rattle.sm_ownership.specs.lemmas.Lasting.{same_or_later, stand_stays}
use Rattle.sm_ownership.specs.Rules.{accepts, admit_fault, fault_at, phase_fault, stand_after}
use Rattle.sm_word.specs.lemmas.Histories.{formed_admit, formed_change, formed_done}
use Rattle.sm_word.specs.Known.{NewlyNamesServer}
use Rattle.sm_word.specs.Word.{IsWellFormed, word_of}
use Rattle.sm_rule.specs.declared.limits.Limits.{Limits}
use Rattle.sm_rule.specs.declared.view.View.{View}
use Rattle.sm_rule.specs.declared.admit_refusal.AdmitRefusal.TheVariants.{Raced as AdmitRaced}
use Rattle.sm_rule.specs.Admissions.{PassAdmitted, Races, RefusedBy, fault_for}
use Rattle.sm_rule.specs.Boards.{BoardValue, limit_at}
use Rattle.sm_rule.specs.declared.change_refusal.ChangeRefusal.TheVariants.{Raced}
use Rattle.sm_rule.specs.Changes.{ChairAdds, ChairLooks, ChairValue, IsChairView, NotMade, chair_value, record_at_chair}
use Rattle.sm_rule.specs.Passes.{IsHeldOf, IsPassView, PassAdds, PassLooks, PassValue, pass_value, slots_of}
use Rattle.sm_rule.specs.lemmas.Passing.{grows_on}
use Rattle.sm_rule.specs.Steps.{IsWordAt, MayAdd, TakesBody}
use Rattle.sm_rule.specs.Views.{Adds, Grows, Looks, adding, all_held, entry_of, first_held, held_after, record_in}
use Rattle.sm_rule.specs.Views.{seeing}
use Rattle.sm_rule.proofs.Keeping.{same_some}
use Rattle.sm_rule.proofs.Requests.{all_within}

abbrev board_with : TableId → Limits → BoardValue
board_with id limits = record { id = id; limits = limits }

-- the knowledge of a call about a board from its value
module _ (id : TableId) (limits : Limits) (value : BoardValue) (view : board_with id limits ≡ value) where
  pub same_table : (seat : TableId) → seat ≡ value.id → seat ≡ id
  same_table seat is = is ∙ sym (ap (λ (board : BoardValue). board.id) view)

  pub in_words : limits.count ≡ id.words → (shard at : ℕ) → shard < value.limits.count → at ≡ shard → at < id.words
  in_words words shard at within is = let same = ap (λ (board : BoardValue). board.limits.count) view in omega arith

  pub in_key : (key : Limits) → key ≡ limits → (shard : ℕ) → shard < value.limits.count → shard < key.count
  in_key key is shard within =
      subst (λ (its : Limits). shard < its.count) (sym (is ∙ ap (λ (board : BoardValue). board.limits) view)) within

-- the record of a word that a view has found
pub record_found : {Q : Type 0} (view : View Q) (shard word : ℕ) → IsWordAt word view shard
    → (state : Record) × IsWellFormed state × (word_of state ≡ word)
record_found view shard word is = (record_in view.limits view.seen shard, is.1, sym is.0)

module _ {Q : Type 0} (u v w : View Q) (first : Looks u v) where
  limits_stay : v.limits ≡ u.limits
  limits_stay = ap (λ (view : View Q). view.limits) first.1

  number_stays : v.number ≡ u.number
  number_stays = ap (λ (view : View Q). view.number) first.1

  grows_from : (added : ℕ → List (Entry Q)) → Grows v.limits v.number v.seen w.seen (added v.number)
      → Grows u.limits u.number u.seen w.seen (added u.number)
  grows_from added second =
      grows_on u.limits v.limits u.number v.number u.seen v.seen w.seen added limits_stay number_stays first.0 second

  -- a look, and then another
  pub looks_looks : Looks v w → Looks u w
  looks_looks second = (grows_from (λ _. []) second.0, second.1 ∙ ap (λ (view : View Q). seeing view w.seen) first.1)

  -- a look, and then an entry of one's own
  pub looks_adds : (shard : ℕ) (kind : Kind Q) → Adds v shard kind w → Adds u shard kind w
  looks_adds shard kind second = (
    grows_from (λ number. entry_of number shard kind ∷ []) second.0,
    second.1 ∙ ap (λ (view : View Q). adding view shard kind w.seen) first.1,
  )

  -- a look, and then a lost exchange, which found another record
  pub races : (shard : ℕ) (read found : Record) → Looks v w → read ≡ record_in v.limits v.seen shard
      → found ≡ record_in w.limits w.seen shard → found ≢ read → Races u.limits u.seen w.seen shard read found
  races shard read found second is later differs =
      let longer : w.seen ≡ v.seen ++ second.0.0 = second.0.1 ∙ append-nil (v.seen ++ second.0.0) in
      let at : read ≡ record_in u.limits v.seen shard =
      is ∙ ap (λ (its : Limits). record_in its v.seen shard) limits_stay in
      let limits : w.limits ≡ u.limits = ap (λ (view : View Q). view.limits) second.1 ∙ limits_stay in
      let there : found ≡ record_in u.limits w.seen shard =
      later ∙ ap (λ (its : Limits). record_in its w.seen shard) limits in
      let legal : IsLegal u.limits.count u.limits.ceiling (v.seen ++ second.0.0) =
      subst (λ entries. IsLegal u.limits.count u.limits.ceiling entries) longer
      (subst (λ (its : Limits). IsLegal its.count its.ceiling w.seen) limits_stay second.0.3) in
      let grown : IsSameOrLater (record_in u.limits v.seen shard) (record_in u.limits (v.seen ++ second.0.0) shard) =
      same_or_later u.limits.count u.limits.ceiling v.seen second.0.0 shard legal in
      let grown' : IsSameOrLater read found =
      subst (λ (pair : Record × Record). IsSameOrLater pair.0 pair.1)
      (λ i. (sym at i, sym (there ∙ ap (λ entries. record_in u.limits entries shard) longer) i)) grown in
      let greater : read.generation < found.generation = ⊎_elim (λ (same : found ≡ read). absurd (differs same))
      (λ (less : read.generation < found.generation). less) grown' in (
        v.seen,
        (first.0.0, first.0.1 ∙ append-nil (u.seen ++ first.0.0)),
        (second.0.0, longer),
        at,
        there,
        greater,
      )

fault_some : (stand : Stand) → fault_at stand (Some NotExecutor) ≡ None → ⊥
fault_some Vacant none = absurd (cc)
fault_some (Serving owner) none = absurd (cc)
fault_some (Prepared owner next) none = absurd (cc)
fault_some (Forwarding owner next) none = absurd (cc)
fault_some (Taken owner previous) none = absurd (cc)
fault_some (Paused owner) none = absurd (cc)

-- the found fault is that of a server, and there is none
pub of_server : (ceiling : ℕ) (state : Record) (server : Option ℕ) (mode : Mode) (found : Option AdmitFault)
    → found ≡ fault_for ceiling state server mode → found ≡ None
    → (one : ℕ) × (server ≡ Some one) × (admit_fault ceiling state one mode ≡ None)
of_server ceiling state None mode found is none = absurd (fault_some state.stand (sym is ∙ none))
of_server ceiling state (Some server) mode found is none = (server, refl, sym is ∙ none)

-- the same of an equal ceiling and an equal server
pub no_fault : (ceiling top : ℕ) (state : Record) (server one : Option ℕ) (mode : Mode) (found : Option AdmitFault)
    → ceiling ≡ top → server ≡ one → found ≡ fault_for top state one mode → found ≡ None
    → fault_for ceiling state server mode ≡ None
no_fault ceiling top state server one mode found tops ones is none =
    (λ i. fault_for (tops i) state (ones i) mode) ∙ (sym is ∙ none)

-- a record that admits a server
module _ (ceiling : ℕ) (state : Record) (server : ℕ) (mode : Mode)
    (none : admit_fault ceiling state server mode ≡ None) where
  admitting : (not state.admitted && (nat_le (state.generation + 2) ceiling && accepts state server mode)) ≡ true
  admitting = sym (admit_fault-none ceiling state server mode) ∙ ap is_none none

  pub accepting : accepts state server mode ≡ true
  accepting = (and_parts (nat_le (state.generation + 2) ceiling) _ (and_parts (not state.admitted) _ admitting).1).1

  pub idle : state.admitted ≡ false
  idle = not-true state.admitted (and_parts (not state.admitted) _ admitting).0

  pub room : state.generation + 2 ≤ ceiling
  room = leb-true _ _
      (and_parts (nat_le (state.generation + 2) ceiling) _ (and_parts (not state.admitted) _ admitting).1).0

  -- the record after the admission, and after its end
  pub next_formed : ceiling < 2 ^ 36 → IsWellFormed state → IsWellFormed (after_admit state)
  next_formed low formed = let fits = room in formed_admit state server mode formed accepting (omega arith)

  pub end_formed : ceiling < 2 ^ 36 → IsWellFormed state → IsWellFormed (after_done (after_admit state))
  end_formed low formed = let fits = room in formed_done (after_admit state) (next_formed low formed) refl (omega arith)

  pub may_admit : {Q : Type 0} (view : View Q) (shard : ℕ) → IsServer server → view.number ≢ 0
      → view.server ≡ Some server → view.limits.ceiling ≡ ceiling → MayAdd view shard state (Admit server mode)
  may_admit view shard known other is same = record {
    known = known;
    begins = refl;
    free = tt;
    own_server = λ one its. eq-eqb server one (same_some server one (sym is ∙ its));
    follows = λ history fit.
        let apart : not (view.number == 0) ≡ true = ap not (ne_eqb view.number 0 other) in
        let here = subst (λ top. (not state.admitted
        && (nat_le (state.generation + 2) top && accepts state server mode)) ≡ true) (sym same) admitting in
        and_from _ _ apart (and_from _ _ (fit.server server is) here);
  }

-- the chair may make a change that the record allows
pub may_change : {Q : Type 0} (view : View Q) (shard : ℕ) (state : Record) (change : Change) → NewlyNamesServer change
    → view.number ≡ 0 → view.held ≡ None → state.admitted ≡ false → state.generation < view.limits.ceiling
    → is_some (stand_after state.stand change) ≡ true → MayAdd view shard state (Changed change)
may_change view shard state change known chair free idle below leads = record {
  known = known;
  begins = refl;
  free = free;
  own_server = λ one its. refl;
  follows = λ history fit.
      and_from _ _ (eq-eqb view.number 0 chair)
      (and_from _ _ (ap not idle) (and_from _ _ (lt-ltb state.generation view.limits.ceiling below) leads));
}

-- an allowed change leads to the stand to which a change without a fault leads
pub allowed_to : (at : Stand) (change : Change) (stand : Stand) → stand_after at change ≡ Some stand
    → phase_fault at change ≡ None
allowed_to at change stand leads = rw leads refl

pub leads_on : (stand : Stand) (change : Change) → phase_fault stand change ≡ None
    → is_some (stand_after stand change) ≡ true
leads_on stand change none = phase_fault-none stand change ∙ ap is_none none

-- a pass that has looked
module _ {Q : Type 0} (server : Option ℕ) (u w : View Q) where
  pub pass_looks : Looks u w → IsPassView server u → IsPassView server w
  pass_looks looked is = subst (IsPassView server) (sym looked.1) (is.0, is.1, is.2, is.3, looked.0.3)

  held_added : (shard : ℕ) (kind : Kind Q) (history : List (Entry Q)) → IsLegal u.limits.count u.limits.ceiling history
      → shard < u.limits.count → IsPassView server u
      → IfSome (held_after u.limits shard kind history u.held) (IsHeldOf u.limits)
  held_added shard (Changed change) history legal within is = is.3
  held_added shard (Admit server mode) history legal within is =
      (within, first_of-within history shard, all_within u.limits.count u.limits.ceiling history shard legal)
  held_added shard (Done ending) history legal within is = tt

  -- and one that has added an entry
  pub pass_adds : (shard : ℕ) (kind : Kind Q) → Adds u shard kind w → shard < u.limits.count → IsPassView server u
      → IsPassView server w
  pass_adds shard kind added within is = subst (IsPassView server) (sym added.1) (
    is.0,
    is.1,
    is.2,
    held_added shard kind w.seen added.0.3 within is,
    added.0.3,
  )

  -- one that was admitted, and whose body is out
  pub pass_holds : {S : Type 0} (shard one : ℕ) (mode : Mode) (me : View Q × List (ℕ × Option S))
      → Adds u shard (Admit one mode) w → shard < u.limits.count → IsPassView server u → me ≡ (w, (shard, None) ∷ [])
      → IsPassView server me.0 × (me.1 ≡ slots_of me.0.held)
  pass_holds {S} shard one mode me added within is out =
      let holds : w.held ≡ held_after u.limits shard (Admit one mode) w.seen u.held =
      ap (λ (view : View Q). view.held) added.1 in
      subst (λ (it : View Q × List (ℕ × Option S)). IsPassView server it.0 × (it.1 ≡ slots_of it.0.held)) (sym out)
      (pass_adds shard (Admit one mode) added within is, sym (ap slots_of holds))

-- room for as many rows as the board has shards
pub room_stays : {Q : Type 0} (u w : View Q) → Looks u w → (room : ℕ) → u.limits.count ≤ room → w.limits.count ≤ room
room_stays u w looked room enough = subst (λ (view : View _). view.limits.count ≤ room) (sym looked.1) enough

pub room_adds : {Q : Type 0} (u v w : View Q) → Looks u v → (shard : ℕ) (change : Change)
    → Adds v shard (Changed change) w → (room : ℕ) → u.limits.count ≤ room → w.limits.count ≤ room
room_adds u v w looked shard change added room enough =
    subst (λ (its : Limits). its.count ≤ room)
    (sym (ap (λ (view : View _). view.limits) added.1 ∙ ap (λ (view : View _). view.limits) looked.1)) enough

-- a change takes no slot
pub changed_slots : {S Q : Type 0} (rests : S → ℕ → List Q → Type 0) (limit : S → ℕ) (kind : Kind Q) (change : Change)
    (shard : ℕ) (before after : List (ℕ × Option S)) (view : View Q) → kind ≡ Changed change
    → TakesBody rests limit kind shard before view after → after ≡ before
changed_slots rests limit kind change shard before after view is takes =
    subst (λ (one : Kind _). TakesBody rests limit one shard before view after) is takes

-- an admission takes its shard's slot, which is then the only one
pub admitted_slots : {S Q : Type 0} (rests : S → ℕ → List Q → Type 0) (limit : S → ℕ) (kind : Kind Q) (server : ℕ)
    (mode : Mode) (shard : ℕ) (before after : List (ℕ × Option S)) (view : View Q) → kind ≡ Admit server mode
    → before ≡ [] → TakesBody rests limit kind shard before view after
    → (body : S) × (after ≡ (shard, Some body) ∷ []) × rests body (first_of view.seen shard) (all_of view.seen shard)
    × (limit body ≡ limit_at view.limits shard)
admitted_slots {S} {Q} rests limit kind server mode shard before after view is none takes =
    let here : TakesBody rests limit (Admit server mode) shard before view after =
    subst (λ (one : Kind Q). TakesBody rests limit one shard before view after) is takes in
    (here.0, here.1 ∙ ap (λ carried. (shard, Some here.0) ∷ carried) none, here.2, here.3)

-- the slots of a pass that holds nothing
pub no_slots : {S Q : Type 0} (id : TableId) (view : View Q) (pass : PassValue Q) (carried : List (ℕ × Option S))
    → pass_value id view ≡ pass → pass.held ≡ None → carried ≡ slots_of view.held → carried ≡ []
no_slots id view pass carried of_pass free slots =
    slots ∙ ap slots_of (ap (λ (it : PassValue _). it.held) of_pass ∙ free)

-- the only slot that is carried, under another name of its place
pub slot_alone : {X : Type 0} (carried : List (ℕ × X)) (shard at : ℕ) (slot : X) → carried ≡ (shard, slot) ∷ []
    → at ≡ shard → (other : X) × (carried ≡ (at, other) ∷ rest carried)
slot_alone carried shard at slot is same =
    let here : carried ≡ (at, slot) ∷ [] = is ∙ ap (λ one. (one, slot) ∷ []) (sym same) in
    (slot, here ∙ ap (λ all. (at, slot) ∷ rest all) (sym here))

abbrev alone : {S : Type 0} → ℕ → S → List (ℕ × Option S)
alone shard body = (shard, Some body) ∷ []

abbrev first_body : {S : Type 0} → S → List (ℕ × Option S) → S
first_body other [] = other
first_body other ((shard, None) ∷ more) = other
first_body other ((shard, Some body) ∷ more) = body

pub same_body : {S : Type 0} (shard : ℕ) (one two : S) → alone shard one ≡ alone shard two → one ≡ two
same_body shard one two same = ap (first_body one) same

-- the same of their values
module _ {Q : Type 0} (before : PassValue Q) (id later : TableId) (u w : View Q) (of_pass : pass_value id u ≡ before)
    (same : later ≡ id) where
  pub looks_of_pass : Looks u w → PassLooks before (pass_value later w)
  looks_of_pass looked =
      let here : PassLooks (pass_value id u) (pass_value id w) = (looked.0, ap (pass_value id) looked.1) in
      subst (λ (pair : PassValue Q × TableId). PassLooks pair.0 (pass_value pair.1 w))
      (λ i. (of_pass i, sym same i)) here

  pub adds_of_pass : (shard : ℕ) (kind : Kind Q) → Adds u shard kind w → PassAdds before shard kind (pass_value later w)
  adds_of_pass shard kind added =
      let here : PassAdds (pass_value id u) shard kind (pass_value id w) = (added.0, ap (pass_value id) added.1) in
      subst (λ (pair : PassValue Q × TableId). PassAdds pair.0 shard kind (pass_value pair.1 w))
      (λ i. (of_pass i, sym same i)) here

module _ {Q : Type 0} (before : ChairValue Q) (id later : TableId) (u w : View Q) (of_chair : chair_value id u ≡ before)
    (same : later ≡ id) (chair : u.number ≡ 0) where
  at_chair : (added : List (Entry Q)) → Grows u.limits u.number u.seen w.seen added → w.limits ≡ u.limits
      → Grows before.board.limits 0 before.seen w.seen added × ((chair_value later w).board ≡ before.board)
  at_chair added grows limits =
      let zero = subst (λ n. Grows u.limits n u.seen w.seen added) chair grows in (
        subst (λ (it : ChairValue Q). Grows it.board.limits 0 it.seen w.seen added) of_chair zero,
        ap (λ one. board_with one w.limits) same
            ∙ (ap (λ its. board_with id its) limits ∙ ap (λ (it : ChairValue Q). it.board) of_chair),
      )

  pub looks_of_chair : Looks u w → ChairLooks before (chair_value later w)
  looks_of_chair looked = at_chair [] looked.0 (ap (λ (view : View Q). view.limits) looked.1)

  pub adds_of_chair : (shard : ℕ) (change : Change) → Adds u shard (Changed change) w
      → ChairAdds before shard change (chair_value later w)
  adds_of_chair shard change added =
      let grows =
      subst (λ n. Grows u.limits u.number u.seen w.seen (entry_of n shard (Changed change) ∷ [])) chair added.0 in
      at_chair (entry_of 0 shard (Changed change) ∷ []) grows (ap (λ (view : View Q). view.limits) added.1)

-- the stands in the chair
module _ {Q : Type 0} (stands : List Stand) (u w : View Q) (is : IsChairView stands u) where
  -- other actors change none
  stand_kept : (others : List (Entry Q)) (shard : ℕ) → IsLegal u.limits.count u.limits.ceiling (u.seen ++ others)
      → NoneBy u.number others
      → slice_index_or stands shard Vacant ≡ (record_in u.limits (u.seen ++ others) shard).stand
  stand_kept others shard legal none =
      is.3.1 shard ∙ sym (stand_stays u.limits.count u.limits.ceiling u.seen others shard legal
      (subst (λ n. NoneBy n others) is.1 none))

  pub chair_looks : Looks u w → IsChairView stands w
  chair_looks looked =
      let more = looked.0.1 ∙ append-nil (u.seen ++ looked.0.0) in
      let legal = subst (λ entries. IsLegal u.limits.count u.limits.ceiling entries) more looked.0.3 in
      subst (IsChairView stands) (sym looked.1) (
        is.0,
        is.1,
        is.2,
        (
          is.3.0,
          λ shard. stand_kept looked.0.0 shard legal looked.0.2 ∙ ap (λ entries.
              (record_in u.limits entries shard).stand) (sym more),
        ),
        looked.0.3,
      )

  pub chair_adds : (shard : ℕ) (change : Change) (next : Record) → shard < u.limits.count → Adds u shard
      (Changed change) w → next ≡ record_in w.limits w.seen shard → IsChairView (slice_set stands shard next.stand) w
  chair_adds shard change next within added at =
      let kind : Kind Q = Changed change in
      let entry = entry_of u.number shard kind in
      let before = u.seen ++ added.0.0 in
      let limits = u.limits in
      let legal : IsLegal limits.count limits.ceiling (before ++ entry ∷ []) =
      subst (λ entries. IsLegal limits.count limits.ceiling entries) added.0.1 added.0.3 in
      let fit = fits-push limits.count limits.ceiling before entry legal in
      let kept_legal = legal_prefix limits.count limits.ceiling before (entry ∷ []) legal in
      let here : next ≡ record_in limits w.seen shard =
      at ∙ ap (λ (view : View Q). record_in view.limits w.seen shard) added.1 in
      let known : (one : ℕ)
      → slice_index_or (slice_set stands shard next.stand) one Vacant ≡ (record_in limits w.seen one).stand =
      λ one.
      ⊎_elim
      (λ (same : one ≡ shard).
      let there : shard < length stands = subst (λ many. shard < many) (sym is.3.0) within in
      let mine = get_or-set_same stands shard next.stand Vacant there ∙ ap (λ (state : Record). state.stand) here in
      subst (λ k. slice_index_or (slice_set stands shard next.stand) k Vacant ≡ (record_in limits w.seen k).stand)
      (sym same) mine)
      (λ (apart : one ≢ shard).
      get_or-set_other stands shard one next.stand Vacant apart
      ∙ (stand_kept added.0.0 one kept_legal added.0.2
      ∙ (ap (λ (state : Record). state.stand)
      (sym (record_at-push_other limits.count limits.ceiling before entry one apart fit))
      ∙ ap (λ entries. (record_in limits entries one).stand) (sym added.0.1))))
      (cases_eq one shard) in
      subst (IsChairView (slice_set stands shard next.stand)) (sym added.1)
      (is.0, is.1, is.2, (length-set stands shard next.stand ∙ is.3.0, known), added.0.3)

-- the record that the chair has read
module _ {Q : Type 0} (stands : List Stand) (u w : View Q) (is : IsChairView stands u) (looked : Looks u w) (shard : ℕ)
    (read : Record) (change : Change) (state : read ≡ record_in w.limits w.seen shard) where
  stand_read : read.stand ≡ (record_in u.limits u.seen shard).stand
  stand_read =
      ap (λ (one : Record). one.stand) state ∙ (sym ((chair_looks stands u w is looked).3.1 shard) ∙ is.3.1 shard)

  pub fits_read : phase_fault (record_in u.limits u.seen shard).stand change ≡ None
      → phase_fault read.stand change ≡ None
  fits_read allowed = subst (λ stand. phase_fault stand change ≡ None) (sym stand_read) allowed

  pub below_read : read.generation ≤ u.limits.ceiling
  below_read =
      let at : read ≡ record_in u.limits w.seen shard =
      state ∙ ap (λ (view : View Q). record_in view.limits w.seen shard) looked.1 in
      subst (λ (one : Record). one.generation ≤ u.limits.ceiling) (sym at)
      (within_ceiling u.limits.count u.limits.ceiling w.seen shard looked.0.3).0

  pub may_read : NewlyNamesServer change → phase_fault (record_in u.limits u.seen shard).stand change ≡ None
      → read.admitted ≡ false → read.generation < u.limits.ceiling → MayAdd w shard read (Changed change)
  may_read known allowed idle below =
      let chair = chair_looks stands u w is looked in
      let top : read.generation < w.limits.ceiling = subst (λ (its : Limits). read.generation < its.ceiling)
      (sym (ap (λ (view : View Q). view.limits) looked.1)) below in
      may_change w shard read change known chair.1 chair.2 idle top (leads_on read.stand change (fits_read allowed))

  -- the change leads there from the stand read
  pub leads_read : (id : TableId) (value : ChairValue Q) (stand : Stand) → chair_value id u ≡ value
      → stand_after (record_at_chair value shard).stand change ≡ Some stand → stand_after read.stand change ≡ Some stand
  leads_read id value stand of_chair leads =
      ap (λ one. stand_after one change)
      (stand_read ∙ ap (λ (it : ChairValue Q). (record_at_chair it shard).stand) of_chair) ∙ leads

  -- the same by the chair's value
  module _ (id : TableId) (value : ChairValue Q) (of_chair : chair_value id u ≡ value)
      (allowed : phase_fault (record_at_chair value shard).stand change ≡ None) where
    pub allowed_read : phase_fault read.stand change ≡ None
    allowed_read = fits_read (subst (λ (it : ChairValue Q). phase_fault (record_at_chair it shard).stand change ≡ None)
        (sym of_chair) allowed)

    pub below_board : (board : BoardValue) → value.board ≡ board → read.generation ≤ board.limits.ceiling
    below_board board on =
        subst (λ (its : Limits). read.generation ≤ its.ceiling)
        (ap (λ (it : ChairValue Q). it.board.limits) of_chair ∙ ap (λ (b : BoardValue). b.limits) on) below_read

    -- the record after the change
    pub formed_next : (next : Record) (ceiling : ℕ) → next ≡ after_change read change → IsWellFormed read
        → NewlyNamesServer change → read.admitted ≡ false → read.generation < ceiling → ceiling < 2 ^ 36
        → IsWellFormed next
    formed_next next ceiling is formed known idle below low =
        subst IsWellFormed (sym is)
        (formed_change read change formed known idle (leads_on read.stand change allowed_read) (omega arith))

    -- the chair may add it
    pub may_make : (kind : Kind Q) (board : BoardValue) → kind ≡ Changed change → value.board ≡ board
        → NewlyNamesServer change → read.admitted ≡ false → read.generation < board.limits.ceiling
        → MayAdd w shard read kind
    may_make kind board is_change on known idle below =
        let limits = ap (λ (it : ChairValue Q). it.board.limits) of_chair ∙ ap (λ (b : BoardValue). b.limits) on in
        let below_seat = subst (λ (its : Limits). read.generation < its.ceiling) (sym limits) below in
        let fits = subst (λ (it : ChairValue Q). phase_fault (record_at_chair it shard).stand change ≡ None)
        (sym of_chair) allowed in
        subst (MayAdd w shard read) (sym is_change) (may_read known fits idle below_seat)

-- the chair after a won exchange
pub chair_made : {S Q : Type 0} (rests : S → ℕ → List Q → Type 0) (limit : S → ℕ) (stands : List Stand) (u v w : View Q)
    (id : TableId) (value : ChairValue Q) (board : BoardValue) (kind : Kind Q) (change : Change) (shard at room : ℕ)
    (next : Record) (one two three : List (ℕ × Option S))
    → IsChairView stands u → Looks u v → Adds v shard kind w → kind ≡ Changed change → chair_value id u ≡ value
    → value.board ≡ board → shard < board.limits.count → at ≡ shard
    → next ≡ record_in w.limits w.seen shard → TakesBody rests limit kind shard two w three → two ≡ one → one ≡ []
    → u.limits.count ≤ room
    → IsChairView (slice_set stands at next.stand) w × (three ≡ []) × (w.limits.count ≤ room)
chair_made {S} {Q} rests limit stands u v w id value board kind change shard at room next one two three is looked added
    is_change of_chair on within place next_is takes same none enough =
    let limits : v.limits ≡ board.limits = ap (λ (view : View Q). view.limits) looked.1
    ∙ (ap (λ (it : ChairValue Q). it.board.limits) of_chair ∙ ap (λ (b : BoardValue). b.limits) on) in
    let there : shard < v.limits.count = subst (λ (its : Limits). shard < its.count) (sym limits) within in
    let changed : Adds v shard (Changed change) w = subst (λ (k : Kind Q). Adds v shard k w) is_change added in (
      subst (λ k. IsChairView (slice_set stands k next.stand) w) (sym place)
          (chair_adds stands v w (chair_looks stands u v is looked) shard change next there changed next_is),
      changed_slots rests limit kind change shard two three w is_change takes ∙ (same ∙ none),
      room_adds u v w looked shard change changed room enough,
    )

module _ {Q : Type 0} (u v w : View Q) (value : ChairValue Q) (id later : TableId) (of_chair : chair_value id u ≡ value)
    (same : later ≡ id) (chair : u.number ≡ 0) (first : Looks u v) (shard : ℕ) where
  -- the chair has looked, and then made a change
  pub chair_changes : (kind : Kind Q) (change : Change) → kind ≡ Changed change → Adds v shard kind w
      → ChairAdds value shard change (chair_value later w)
  chair_changes kind change is_change added =
      adds_of_chair value id later u w of_chair same chair shard change
      (looks_adds u v w first shard (Changed change) (subst (λ (k : Kind Q). Adds v shard k w) is_change added))

  -- the chair has looked, and was then overtaken
  pub chair_raced : (read found : Record) (board : BoardValue) → Looks v w → read ≡ record_in v.limits v.seen shard
      → found ≡ record_in w.limits w.seen shard → found ≢ read → read.admitted ≡ false → value.board ≡ board
      → read.generation < board.limits.ceiling
      → ChairLooks value (chair_value later w) × NotMade value (chair_value later w) shard (Raced read found)
  chair_raced read found board lost read_is found_is differs idle on below = (
    looks_of_chair value id later u w of_chair same chair (looks_looks u v w first lost),
    (
      idle,
      subst (λ (b : BoardValue). read.generation < b.limits.ceiling) (sym on) below,
      subst (λ (it : ChairValue Q). Races it.board.limits it.seen w.seen shard read found) of_chair
          (races u v w first shard read found lost read_is found_is differs),
    ),
  )

-- a pass that is admitted, as no fault was found in the record read
module _ {Q : Type 0} (u : View Q) (server : Option ℕ) (value : PassValue Q) (id : TableId)
    (of_pass : pass_value id u ≡ value) (is : IsPassView server u) (board : BoardValue) (on : value.board ≡ board)
    (state : Record) (mode : Mode) (fault : Option AdmitFault)
    (fault_is : fault ≡ fault_for board.limits.ceiling state server mode) (none : fault ≡ None) where
  free : (one : ℕ) × (server ≡ Some one) × (admit_fault board.limits.ceiling state one mode ≡ None)
  free = of_server board.limits.ceiling state server mode fault fault_is none

  own_server : value.server ≡ server
  own_server = sym (ap (λ (pass : PassValue Q). pass.server) of_pass) ∙ is.2

  admits : (kind : Kind Q) → kind ≡ Admit (unwrap_or value.server 0) mode → kind ≡ Admit free.0 mode
  admits kind kind_is = kind_is ∙ ap (λ one. Admit (unwrap_or one 0) mode) (own_server ∙ free.1)

  pub idle_read : state.admitted ≡ false
  idle_read = idle board.limits.ceiling state free.0 mode free.2

  pub next_read : board.limits.ceiling < 2 ^ 36 → IsWellFormed state → IsWellFormed (after_admit state)
  next_read low formed = next_formed board.limits.ceiling state free.0 mode free.2 low formed

  pub end_read : board.limits.ceiling < 2 ^ 36 → IsWellFormed state → IsWellFormed (after_done (after_admit state))
  end_read low formed = end_formed board.limits.ceiling state free.0 mode free.2 low formed

  -- the pass has looked, and was then admitted
  pub pass_admitted : {S : Type 0} (v w : View Q) (kind : Kind Q) (shard : ℕ) (later last : TableId)
      (me : View Q × List (ℕ × Option S)) (carried : List (ℕ × Option S)) → kind ≡ Admit (unwrap_or value.server 0) mode
      → Looks u v → Adds v shard kind w → later ≡ id → last ≡ later → me ≡ (w, carried)
      → PassAdmitted value shard mode (pass_value last me.0)
  pass_admitted {S} v w kind shard later last me carried kind_is looked added same same_last out =
      let adds = adds_of_pass value id later u w of_pass same shard kind (looks_adds u v w looked shard kind added) in (
        free.0,
        own_server ∙ free.1,
        subst (λ (pair : Kind Q × PassValue Q). PassAdds value shard pair.0 pair.1) (λ i.
            (admits kind kind_is i, pass_value (sym same_last i) (sym out i).0)) adds,
      )

  -- and has taken the shard's slot
  pub slot_taken : {S : Type 0} (w : View Q) (rests : S → ℕ → List Q → Type 0) (limit : S → ℕ) (kind : Kind Q)
      (shard : ℕ) (one two three : List (ℕ × Option S)) → kind ≡ Admit (unwrap_or value.server 0) mode
      → value.held ≡ None → one ≡ slots_of u.held → two ≡ one → TakesBody rests limit kind shard two w three
      → (body : S) × (three ≡ (shard, Some body) ∷ []) × rests body (first_of w.seen shard) (all_of w.seen shard)
      × (limit body ≡ limit_at w.limits shard)
  slot_taken w rests limit kind shard one two three kind_is holds_none slots same takes =
      admitted_slots rests limit kind free.0 mode shard two three w (admits kind kind_is)
      (same ∙ no_slots id u value one of_pass holds_none slots) takes

  -- with the shard's body
  pub body_taken : {S : Type 0} (v w : View Q) (rests : S → ℕ → List Q → Type 0) (limit : S → ℕ) (kind : Kind Q)
      (shard : ℕ) (one two three carried : List (ℕ × Option S)) (me : View Q × List (ℕ × Option S)) (body : S)
      → kind ≡ Admit (unwrap_or value.server 0) mode → value.held ≡ None → one ≡ slots_of u.held → two ≡ one
      → TakesBody rests limit kind shard two w three
      → Looks u v → Adds v shard kind w → three ≡ (shard, Some body) ∷ [] → me ≡ (w, carried)
      → rests body (first_of me.0.seen shard) (all_of me.0.seen shard) × (limit body ≡ limit_at board.limits shard)
  body_taken {S} v w rests limit kind shard one two three carried me body kind_is holds_none slots same takes looked
      added out after =
      let slot = slot_taken w rests limit kind shard one two three kind_is holds_none slots same takes in
      let same_one : slot.0 ≡ body = same_body shard slot.0 body (sym slot.1 ∙ out) in
      let limits : w.limits ≡ board.limits =
      ap (λ (view : View Q). view.limits) added.1 ∙ (ap (λ (view : View Q). view.limits) looked.1
      ∙ (ap (λ (pass : PassValue Q). pass.board.limits) of_pass ∙ ap (λ (b : BoardValue). b.limits) on)) in (
        subst (λ (pair : S × List (Entry Q)). rests pair.0 (first_of pair.1 shard) (all_of pair.1 shard))
            (λ i. (same_one i, (sym after i).0.seen)) slot.2,
        ap limit (sym same_one) ∙ (slot.3 ∙ ap (λ (its : Limits). limit_at its shard) limits),
      )

  -- the pass is one that holds the shard
  pub pass_stays : {S : Type 0} (v w : View Q) (kind : Kind Q) (shard : ℕ) (me : View Q × List (ℕ × Option S))
      → kind ≡ Admit (unwrap_or value.server 0) mode → Looks u v → Adds v shard kind w → shard < board.limits.count
      → me ≡ (w, (shard, None) ∷ [])
      → IsPassView server me.0 × (me.1 ≡ slots_of me.0.held)
  pass_stays {S} v w kind shard me kind_is looked added within out =
      let admitted : Adds v shard (Admit free.0 mode) w =
      subst (λ (one : Kind Q). Adds v shard one w) (admits kind kind_is) added in
      let limits : v.limits ≡ board.limits = ap (λ (view : View Q). view.limits) looked.1
      ∙ (ap (λ (pass : PassValue Q). pass.board.limits) of_pass ∙ ap (λ (b : BoardValue). b.limits) on) in
      pass_holds server v w shard free.0 mode me admitted
      (subst (λ (its : Limits). shard < its.count) (sym limits) within) (pass_looks server u v looked is) out

  -- the hold of the pass after it
  pub held_taken : {S : Type 0} (v w : View Q) (kind : Kind Q) (shard : ℕ) (me : View Q × List (ℕ × Option S))
      (carried : List (ℕ × Option S)) → kind ≡ Admit (unwrap_or value.server 0) mode → Adds v shard kind w
      → me ≡ (w, carried)
      → (first_held me.0.held ≡ first_of me.0.seen shard) × (all_held me.0.held ≡ all_of me.0.seen shard)
  held_taken {S} v w kind shard me carried kind_is added out =
      let admitted : Adds v shard (Admit free.0 mode) w =
      subst (λ (one : Kind Q). Adds v shard one w) (admits kind kind_is) added in
      let holds : w.held ≡ held_after v.limits shard (Admit free.0 mode) w.seen v.held =
      ap (λ (view : View Q). view.held) admitted.1 in
      subst (λ (it : View Q × List (ℕ × Option S)). (first_held it.0.held ≡ first_of it.0.seen shard)
      × (all_held it.0.held ≡ all_of it.0.seen shard)) (sym out) (ap first_held holds, ap all_held holds)

  -- the pass has looked, and was then overtaken
  pub pass_raced : (v w : View Q) (later : TableId) (shard : ℕ) (found : Record) → later ≡ id → Looks u v → Looks v w
      → state ≡ record_in v.limits v.seen shard → found ≡ record_in w.limits w.seen shard → found ≢ state
      → PassLooks value (pass_value later w) × RefusedBy value (pass_value later w) shard mode (AdmitRaced state found)
  pass_raced v w later shard found same looked lost read_is found_is differs = (
    looks_of_pass value id later u w of_pass same (looks_looks u v w looked lost),
    (
      no_fault value.board.limits.ceiling board.limits.ceiling state value.server server mode fault
          (ap (λ (b : BoardValue). b.limits.ceiling) on) own_server fault_is none,
      subst (λ (pass : PassValue Q). Races pass.board.limits pass.seen w.seen shard state found) of_pass
          (races u v w looked shard state found lost read_is found_is differs),
    ),
  )
