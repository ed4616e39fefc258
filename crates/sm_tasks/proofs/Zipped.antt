-- Counts of a domain's servers, if the state of one was set.
use Rattle.std.proofs.Common.{ℕ, zero, suc, ◌+◌, ◌<◌, ◌≤◌, ◌≡◌, Bool, true, false, cond, eqb, List, [], ◌∷◌, length}
use Rattle.std.proofs.Common.{get_or, set, refl, ap, sym, ◌∙◌, arith, ◌&&◌}
use Rattle.std.specs.Prelude.{All, count_by, zip}
use Rattle.std.proofs.lemmas.List.Elements.{All-head, All-tail}
use Rattle.std.proofs.lemmas.List.Sums.{sum_by-cons, sum_by-set}
use Rattle.sm_rows.specs.declared.server_row.ServerRow.{ServerRow}
use Rattle.sm_place.specs.declared.server_state.ServerState.{ServerState}
use Rattle.sm_place.specs.declared.server_state.ServerState.TheVariants.{Up}
use Rattle.sm_place.specs.Books.{BooksView, IsKnown, no_server, place_of, row_by_id, state_of, with_state}
use Rattle.sm_tasks.specs.Domains.{domain_count, is_server_of}

zip-set : {X Y : Type 0} (xs : List X) (ys : List Y) (i : ℕ) (y : Y) (d : X) → i < length xs
    → zip xs (set ys i y) ≡ set (zip xs ys) i (get_or xs i d, y)
zip-set [] ys i y d h = absurd (omega arith)
zip-set (x ∷ xs) [] zero y d h = refl
zip-set (x ∷ xs) [] (suc i) y d h = refl
zip-set (x ∷ xs) (z ∷ ys) zero y d h = refl
zip-set (x ∷ xs) (z ∷ ys) (suc i) y d h = ap (λ ps. (x, z) ∷ ps) (zip-set xs ys i y d (omega arith))

get_or-zip : {X Y : Type 0} (xs : List X) (ys : List Y) (i : ℕ) (d : X) (e : Y) → i < length xs → i < length ys
    → get_or (zip xs ys) i (d, e) ≡ (get_or xs i d, get_or ys i e)
get_or-zip [] ys i d e h k = absurd (omega arith)
get_or-zip (x ∷ xs) [] i d e h k = absurd (omega arith)
get_or-zip (x ∷ xs) (y ∷ ys) zero d e h k = refl
get_or-zip (x ∷ xs) (y ∷ ys) (suc i) d e h k = get_or-zip xs ys i d e (omega arith) (omega arith)

length-zip : {X Y : Type 0} (xs : List X) (ys : List Y) (i : ℕ) → i < length xs → i < length ys → i < length (zip xs ys)
length-zip [] ys i h k = absurd (omega arith)
length-zip (x ∷ xs) [] i h k = absurd (omega arith)
length-zip (x ∷ xs) (y ∷ ys) zero h k = omega arith
length-zip (x ∷ xs) (y ∷ ys) (suc i) h k = let rest = length-zip xs ys i (omega arith) (omega arith) in omega arith

-- how much the server whose state is set adds to a count, before and after
pub domain_count-with_state : (test : ServerState → Bool) (books : BooksView) (a : ℕ) (state : ServerState) (d : ℕ)
    → length books.states ≡ length books.servers → IsKnown books.servers a
    → domain_count test (with_state books a state) d
    + cond (is_server_of test d (row_by_id books.servers a, state_of books a)) 1 0
    ≡ domain_count test books d + cond (is_server_of test d (row_by_id books.servers a, state)) 1 0
domain_count-with_state test books a state d len known =
    let at = place_of books.servers a in
    let inside : at < length books.states = rw len known in
    let count = λ (server : ServerRow × ServerState). cond (is_server_of test d server) 1 0 in
    let set_at = sum_by-set count (zip books.servers books.states) at (row_by_id books.servers a, state) (no_server, Up)
    (length-zip books.servers books.states at known inside) in
    let old : ServerRow × ServerState = (row_by_id books.servers a, state_of books a) in
    let whole : List (ServerRow × ServerState) =
    set (zip books.servers books.states) at (row_by_id books.servers a, state) in
    ap (λ (servers : List (ServerRow × ServerState)). count_by (is_server_of test d) servers + count old)
    (zip-set books.servers books.states at state no_server known)
    ∙ ap (λ (server : ServerRow × ServerState). count_by (is_server_of test d) whole + count server)
    (sym (get_or-zip books.servers books.states at no_server Up known inside))
    ∙ set_at

-- if the state of no server passes, none is counted
pub domain_count-none : (test : ServerState → Bool) (servers : List ServerRow) (states : List ServerState) (d : ℕ)
    → All (λ state. test state ≡ false) states → count_by (is_server_of test d) (zip servers states) ≡ 0
domain_count-none test [] states d all = refl
domain_count-none test (row ∷ servers) [] d all = refl
domain_count-none test (row ∷ servers) (state ∷ states) d all =
    let one : ◌≡◌ {A = ℕ} (cond (is_server_of test d (row, state)) 1 0) 0 =
    ap (λ b. cond b 1 0) (neither (eqb row.domain d) (test state) (All-head (λ s. test s ≡ false) state states all)) in
    omega (
      arith,
      sum_by-cons (λ server. cond (is_server_of test d server) 1 0) (row, state) (zip servers states),
      one,
      domain_count-none test servers states d (All-tail (λ s. test s ≡ false) state states all),
    )
  where
    neither : (u v : Bool) → v ≡ false → (u && v) ≡ false
    neither true v e = e
    neither false v e = refl

-- if a server's new state passes only if the old one does, it counts no more than before, and at most once
pub one_server-within : (test : ServerState → Bool) (d : ℕ) (row : ServerRow) (old new : ServerState)
    → (test new ≡ true → test old ≡ true)
    → cond (is_server_of test d (row, new)) 1 0 ≤ cond (is_server_of test d (row, old)) 1 0
one_server-within test d row old new h = by (eqb row.domain d) (test new) (test old) h
  where
    by : (u v w : Bool) → (v ≡ true → w ≡ true) → cond (u && v) 1 0 ≤ cond (u && w) 1 0
    by true true w h = let e = h refl in rw e (omega arith)
    by true false w h = omega arith
    by false v w h = omega arith
