-- The requests of a shard, and those that it keeps, while a history grows.
use Rattle.std.proofs.Common.{◌≡◌, ◌≤◌, ℕ, Bool, true, false, ◌&&◌, List, [], ◌∷◌, ◌++◌, length, refl, ap, subst, arith}
use Rattle.std.proofs.Common.{length-append, ◌∙◌}
use Rattle.std.specs.Prelude.{Option, None, drop, reverse, take, ◌==◌, if◌then◌else◌}
use Rattle.std.proofs.lemmas.Bool.{cond_both, eq-eqb}
use Rattle.std.proofs.lemmas.List.{append-nil, drop-append-le, reverse-append, reverse-reverse, take-append-drop}
use Rattle.std.proofs.lemmas.List.Elements.{filter_map-append}
use Rattle.std.proofs.Math.Seq.{drop-length}
use Rattle.sm_ownership.specs.declared.entry.Ending.{Ending}
use Rattle.sm_ownership.specs.declared.entry.Ending.TheVariants.{Nothing, Request, Checkpoint}
use Rattle.sm_ownership.specs.declared.entry.Entry.{Entry}
use Rattle.sm_ownership.specs.History.{all_of, ending_of, first_latest, first_of, is_checkpoint, kept, kept_after}
use Rattle.sm_ownership.specs.History.{request_of}

and_false : (b : Bool) → (b && false) ≡ false
and_false true = refl
and_false false = refl

none_either : {X : Type 0} (b : Bool) (option : Option X) → option ≡ None → (if b then option else None) ≡ None
none_either true option none = none
none_either false option none = refl

-- all requests of a longer history begin with all of the shorter one
pub all_of-append : {Q : Type 0} (history later : List (Entry Q)) (shard : ℕ)
    → all_of (history ++ later) shard ≡ all_of history shard ++ all_of later shard
all_of-append history later shard = filter_map-append _ history later

first_latest-within : {Q : Type 0} (earlier : List (Entry Q)) (shard : ℕ)
    → first_latest earlier shard ≤ length (all_of (reverse earlier) shard)
first_latest-within [] shard = omega arith
first_latest-within (entry ∷ earlier) shard =
    let longer :
    all_of (reverse (entry ∷ earlier)) shard ≡ all_of (reverse earlier) shard ++ all_of (entry ∷ []) shard =
    ap (λ entries. all_of entries shard) (reverse-append (entry ∷ []) earlier)
    ∙ all_of-append (reverse earlier) (entry ∷ []) shard in
    let long = ap length longer ∙ length-append (all_of (reverse earlier) shard) (all_of (entry ∷ []) shard) in
    let before = first_latest-within earlier shard in
    cond_both (entry.shard == shard && is_checkpoint (ending_of entry.kind)) _ _
    (λ n. n ≤ length (all_of (reverse (entry ∷ earlier)) shard)) (λ _. omega arith) (λ _. omega arith)

-- at least as many requests are there as came before a checkpoint
pub first_of-within : {Q : Type 0} (history : List (Entry Q)) (shard : ℕ)
    → first_of history shard ≤ length (all_of history shard)
first_of-within history shard =
    subst (λ entries. first_of history shard ≤ length (all_of entries shard)) (reverse-reverse history)
    (first_latest-within (reverse history) shard)

-- all requests are those before the checkpoint, followed by those kept since
pub kept-end : {Q : Type 0} (history : List (Entry Q)) (shard : ℕ)
    → take (first_of history shard) (all_of history shard) ++ kept history shard ≡ all_of history shard
kept-end history shard = take-append-drop (first_of history shard) (all_of history shard)

module _ {Q : Type 0} (history : List (Entry Q)) (entry : Entry Q) where
  abbrev longer : List (Entry Q)
  longer = history ++ entry ∷ []

  first_of-push : (shard : ℕ) → first_of longer shard ≡ (if entry.shard == shard && is_checkpoint (ending_of entry.kind)
      then length (all_of history shard) else first_of history shard)
  first_of-push shard = rw (reverse-append history (entry ∷ []), reverse-reverse history) refl

  -- an entry of another shard doesn't change the requests of a shard
  pub all_of-push_other : (shard : ℕ) → (entry.shard == shard) ≡ false → all_of longer shard ≡ all_of history shard
  all_of-push_other shard other =
      all_of-append history (entry ∷ []) shard ∙ rw other (append-nil (all_of history shard))

  pub first_of-push_other : (shard : ℕ) → (entry.shard == shard) ≡ false
      → first_of longer shard ≡ first_of history shard
  first_of-push_other shard other = first_of-push shard ∙ rw other refl

  pub kept-push_other : (shard : ℕ) → (entry.shard == shard) ≡ false → kept longer shard ≡ kept history shard
  kept-push_other shard other = λ i. drop (first_of-push_other shard other i) (all_of-push_other shard other i)

  -- an entry doesn't either, if it ends no admission, or ends it with nothing
  module _ (nothing : ending_of entry.kind ≡ Nothing) (shard : ℕ) where
    pub all_of-push_none : all_of longer shard ≡ all_of history shard
    all_of-push_none =
        all_of-append history (entry ∷ []) shard ∙ rw (none_either (entry.shard == shard)
        (request_of (ending_of entry.kind)) (ap request_of nothing)) (append-nil (all_of history shard))

    pub first_of-push_none : first_of longer shard ≡ first_of history shard
    first_of-push_none = first_of-push shard ∙ rw (nothing, and_false (entry.shard == shard)) refl

    pub kept-push_none : kept longer shard ≡ kept history shard
    kept-push_none = λ i. drop (first_of-push_none i) (all_of-push_none i)

  -- if an entry has a request, it adds this request last
  module _ (request : Q) (some : ending_of entry.kind ≡ Request request) where
    pub all_of-push_some : all_of longer entry.shard ≡ all_of history entry.shard ++ request ∷ []
    all_of-push_some =
        all_of-append history (entry ∷ []) entry.shard ∙ rw (eq-eqb entry.shard entry.shard refl, some) refl

    pub first_of-push_some : first_of longer entry.shard ≡ first_of history entry.shard
    first_of-push_some = first_of-push entry.shard ∙ rw (some, and_false (entry.shard == entry.shard)) refl

    pub kept-push_some : kept longer entry.shard ≡ kept history entry.shard ++ request ∷ []
    kept-push_some =
        (λ i. drop (first_of-push_some i) (all_of-push_some i))
        ∙ drop-append-le (first_of history entry.shard) (all_of history entry.shard) (request ∷ [])
        (first_of-within history entry.shard)

  -- after a checkpoint all requests come before it
  module _ (based : ending_of entry.kind ≡ Checkpoint) where
    pub all_of-push_checkpoint : all_of longer entry.shard ≡ all_of history entry.shard
    all_of-push_checkpoint = all_of-append history (entry ∷ []) entry.shard
        ∙ rw (eq-eqb entry.shard entry.shard refl, based) (append-nil (all_of history entry.shard))

    pub first_of-push_checkpoint : first_of longer entry.shard ≡ length (all_of history entry.shard)
    first_of-push_checkpoint = first_of-push entry.shard ∙ rw (eq-eqb entry.shard entry.shard refl, based) refl

    pub kept-push_checkpoint : kept longer entry.shard ≡ []
    kept-push_checkpoint =
        (λ i. drop (first_of-push_checkpoint i) (all_of-push_checkpoint i)) ∙ drop-length (all_of history entry.shard)

  kept-push_ending : (ending : Ending Q) → ending_of entry.kind ≡ ending
      → kept longer entry.shard ≡ kept_after (kept history entry.shard) ending
  kept-push_ending Nothing is = kept-push_none is entry.shard
  kept-push_ending (Request request) is = kept-push_some request is
  kept-push_ending Checkpoint is = kept-push_checkpoint is

  -- the requests that a shard keeps after an entry of its own
  pub kept-push : kept longer entry.shard ≡ kept_after (kept history entry.shard) (ending_of entry.kind)
  kept-push = kept-push_ending (ending_of entry.kind) refl
