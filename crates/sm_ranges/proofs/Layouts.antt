-- The first bound that doesn't rise, found among references.
use Rattle.std.proofs.Common.{◌≡◌, ℕ, ◌+◌, List, Option, drop, sym, ap, ◌∙◌}
use Rattle.std.specs.Prelude.{Bool, not, position}
use Rattle.std.specs.List.{zip}
use Rattle.std.specs.Option.{option_map}
use Rattle.std.specs.Borrow.{Bor}
use Rattle.std.proofs.lemmas.List.{drop-map}
use Rattle.sm_ranges.specs.KeyOrder.{is_below}
use Rattle.sm_ranges.specs.LayoutFault.{texts_of, first_not_rising}
use Rattle.sm_ranges.proofs.Places.{position-map, zip-map}

-- the first pair of neighbours out of order, found among the references
unordered-texts_of : (bounds : List (Bor (List ℕ)))
    → position (λ pair. not (is_below pair.0 pair.1)) (zip (texts_of bounds) (drop 1 (texts_of bounds)))
    ≡ position (λ pair. not (is_below pair.0.now pair.1.now)) (zip bounds (drop 1 bounds))
unordered-texts_of bounds =
    let text : Bor (List ℕ) → List ℕ = λ bound. bound.now in
    let unordered : List ℕ × List ℕ → Bool = λ pair. not (is_below pair.0 pair.1) in
    rw (drop-map text 1 bounds, zip-map text bounds (drop 1 bounds))
    (position-map unordered (λ pair. (text pair.0, text pair.1)) (zip bounds (drop 1 bounds)))

pub first_not_rising-found : (bounds : List (Bor (List ℕ))) (found result : Option ℕ)
    → found ≡ position (λ pair. not (is_below pair.0.now pair.1.now)) (zip bounds (drop 1 bounds))
    → result ≡ option_map (λ low. low + 1) found → result ≡ first_not_rising (texts_of bounds)
first_not_rising-found bounds found result first moved =
    moved ∙ ap (λ low. option_map (λ low. low + 1) low) (first ∙ sym (unordered-texts_of bounds))
