-- The base of a body, and the requests that it keeps, among all that it has applied.
use Rattle.std.proofs.Common.{◌≡◌, ◌≤◌, ℕ, ◌+◌, List, [], length, sym, ap, ◌∙◌, arith}
use Rattle.std.specs.Prelude.{Result, OnOk, OnErr, drop, fold, take}
use Rattle.std.specs.declared.result.Result.TheVariants.{Ok, Err}
use Rattle.std.proofs.lemmas.List.{length-drop, take-append-drop}
use Rattle.std.proofs.lemmas.List.Sums.{fold-append}
use Rattle.std.proofs.Math.Seq.{drop-length, take-length}

module _ {State Q : Type 0} (initial : State) (next : State → Q → State) (base : State) (first : ℕ) (kept all : List Q)
    (base_is : base ≡ fold next initial (take first all)) (kept_is : kept ≡ drop first all) where
  -- the present state is the state after all requests
  pub present : fold next base kept ≡ fold next initial all
  present =
      ap (λ state. fold next state kept) base_is
      ∙ ap (fold next (fold next initial (take first all))) kept_is
      ∙ sym (fold-append next initial (take first all) (drop first all))
      ∙ ap (fold next initial) (take-append-drop first all)

  -- after a checkpoint all requests come before the base; a checkpoint that was refused changes nothing
  pub based : {X E : Type 0} (base_now : State) (first_now : ℕ) (kept_now : List Q) (r : Result X E)
      → first ≤ length all
      → OnOk r (base_now ≡ fold next base kept) → OnOk r (first_now ≡ first + length kept) → OnOk r (kept_now ≡ [])
      → OnErr r (base_now ≡ base) → OnErr r (first_now ≡ first) → OnErr r (kept_now ≡ kept)
      → (base_now ≡ fold next initial (take first_now all)) × (kept_now ≡ drop first_now all) × (first_now ≤ length all)
  based base_now first_now kept_now (Ok x) within state before none base_stays first_stays kept_stays =
      let long = ap length kept_is ∙ length-drop first all in
      let whole : first_now ≡ length all = omega arith in (
        state ∙ present
            ∙ sym (ap (λ n. fold next initial (take n all)) whole ∙ ap (fold next initial) (take-length all)),
        none ∙ sym (ap (λ n. drop n all) whole ∙ drop-length all),
        omega arith,
      )
  based base_now first_now kept_now (Err e) within state before none base_stays first_stays kept_stays = (
    base_stays ∙ base_is ∙ ap (λ n. fold next initial (take n all)) (sym first_stays),
    kept_stays ∙ kept_is ∙ ap (λ n. drop n all) (sym first_stays),
    omega arith,
  )
