-- A list that shows another through a function, after a write.
use Rattle.std.proofs.Common.{◌≡◌, ℕ, ◌<◌, List, [], ◌∷◌, ◌++◌, length, get_or, set, sym, ap, ◌∙◌, arith}
use Rattle.std.specs.Prelude.{map, Result, OnOk, OnErr}
use Rattle.std.specs.declared.result.Result.TheVariants.{Ok, Err}
use Rattle.std.proofs.Math.Seq.{map-set_same}
use Rattle.std.proofs.lemmas.List.{map-set, length-map, get_or-map}

module _ {A B : Type 0} (f : A → B) (items : List A) (k : ℕ) (old new : A) (shown : List B) where
  -- the element that is written shows the same
  pub same_shown : map f items ≡ shown → old ≡ get_or items k old → f new ≡ f old → map f (set items k new) ≡ shown
  same_shown is at same = map-set_same f items k new old (same ∙ ap f at) ∙ is

  -- the element that is written shows y
  pub shown_set : map f items ≡ shown → (y : B) → f new ≡ y → map f (set items k new) ≡ set shown k y
  shown_set is y same = map-set f items k new ∙ ap (λ l. set l k (f new)) is ∙ ap (λ z. set shown k z) same

-- the list shows the result of a call that was made; if the call was refused, the list shows the same as before
pub ok_shown : {A B X E : Type 0} (f : A → B) (g : B → B) (default : B) (items : List A) (k : ℕ) (old new : A)
    (shown : List B) (r : Result X E) → map f items ≡ shown → k < length shown → old ≡ get_or items k old
    → OnOk r (f new ≡ g (f old)) → OnOk r (map f (set items k new) ≡ set shown k (g (get_or shown k default)))
ok_shown f g default items k old new shown (Err e) is within at h = tt
ok_shown f g default items k old new shown (Ok x) is within at h =
    let inside : k < length items = omega (arith, ap length is, length-map items f) in
    let same : get_or shown k default ≡ f old =
    sym (ap (λ l. get_or l k default) is) ∙ get_or-map f items k old default inside ∙ ap f (sym at) in
    shown_set f items k old new shown is _ (h ∙ ap g (sym same))

pub err_shown : {A B X E : Type 0} (f : A → B) (items : List A) (k : ℕ) (old new : A) (shown : List B) (r : Result X E)
    → map f items ≡ shown → old ≡ get_or items k old → OnErr r (f new ≡ f old)
    → OnErr r (map f (set items k new) ≡ shown)
err_shown f items k old new shown (Ok x) is at h = tt
err_shown f items k old new shown (Err e) is at h = same_shown f items k old new shown is at h

-- one more element of a list that shows another: the part that is left shows one less
moved : {T X : Type 0} (show : T → X) (done : List T) (one : T) (shown : X) (later : List X) → show one ≡ shown
    → map show (done ++ one ∷ []) ++ later ≡ map show done ++ shown ∷ later
moved show [] one shown later is = ap (λ first. first ∷ later) is
moved show (first ∷ done) one shown later is = ap (λ rest. show first ∷ rest) (moved show done one shown later is)

pub moved_on : {S T X : Type 0} (show : T → X) (shows : List S → List X) (done now : List T) (one : T) (next : S)
    (left rest : List S) (shown : X) (whole : List X)
    → shows (next ∷ rest) ≡ shown ∷ shows rest → now ≡ done ++ one ∷ [] → left ≡ next ∷ rest → show one ≡ shown
    → map show done ++ shows left ≡ whole → map show now ++ shows rest ≡ whole
moved_on show shows done now one next left rest shown whole splits grown taken is so_far =
    ap (λ all. map show all ++ shows rest) grown
    ∙ moved show done one shown (shows rest) is
    ∙ ap (λ later. map show done ++ later) (sym splits ∙ ap shows (sym taken))
    ∙ so_far

-- at first no element is moved
pub moved_none : {S T X : Type 0} (show : T → X) (shows : List S → List X) (done : List T) (left all : List S)
    → done ≡ [] → left ≡ all → map show done ++ shows left ≡ shows all
moved_none show shows done left all none same = ap (λ moved. map show moved ++ shows left) none ∙ ap shows same
