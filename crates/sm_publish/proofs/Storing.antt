-- Each step on a table of route words keeps its rule.
use Rattle.std.proofs.Common.{◌≡◌, ℕ, ◌<◌, ◌≢◌, Bool, true, false, cond, List, [], ◌∷◌, ◌++◌, length, replicate}
use Rattle.std.proofs.Common.{refl, sym, ap, subst, ◌∙◌, ⊎_elim, zero, suc, arith}
use Rattle.std.specs.Prelude.{◌%◌, ◌/◌, ◌==◌, Option, Some, None, find, slice_index, slice_set}
use Rattle.std.proofs.lemmas.Bool.{eq-eqb, ne_eqb}
use Rattle.std.proofs.lemmas.List.{get_or-set_other, get_or-set_same, get_or_past, length-set, reverse-append}
use Rattle.std.proofs.lemmas.List.{length-replicate, set-get_or}
use mathlib.Core.Option.{some, none, some-injective, some-ne-none}
use mathlib.Core.Logic.{dite}
use native.Mathlib.Decide.{ℕ_discrete}
use lib.ListN.{get_elem?}
use Rattle.atomic_table.specs.Table.{Me, step, keeps, Allows, Splits, opening}
use Rattle.atomic_table.proofs.Lists.{at_longer, at_set, at_snoc, set_again, set_else, set_here}
use Rattle.sm_ownership.specs.declared.route.Route.{Route}
use Rattle.sm_ownership.specs.Routes.{routes_of}
use Rattle.sm_publish.specs.declared.word_view.WordView.{WordView}
use Rattle.sm_publish.specs.RouteWords.{AreWordsOf, and_then, route_in}
use Rattle.sm_publish.specs.Seen.{Extends}
use Rattle.sm_publish.specs.WordSteps.{AreKept, WordRuleHolds, HasNoRouteBeyond, RouteRecalled, RouteStored, RouteRead}
use Rattle.sm_publish.proofs.Seeing.{extends_self, extends_trans}

zeros : (count shard : ℕ) → slice_index (replicate count 0) shard ≡ 0
zeros zero shard = refl
zeros (suc count) zero = refl
zeros (suc count) (suc shard) = zeros count shard

-- a new table, on which nothing was published
pub opens : (count : ℕ) (words : List ℕ) → words ≡ replicate count 0
    → WordRuleHolds {S = Unit {0}} count (opening words [] (record { count = count; seen = [] }))
opens count words is = (
  [],
  record {
    sized = ap length is ∙ length-replicate count 0;
    words_are = λ shard. ap (λ (l : List ℕ). route_in shard (slice_index l shard)) is
        ∙ ap (route_in shard) (zeros count shard);
    publisher = refl;
    fit = one;
  },
)
  where
    one : (seat : ℕ) (view : WordView) → get_elem? (record { count = count; seen = [] } ∷ []) seat ≡ some view
        → (view.count ≡ count) × Extends [] view.seen
    one zero view at = subst (λ (v : WordView). (v.count ≡ count) × Extends [] v.seen)
        (some-injective (record { count = count; seen = [] }) view at) (refl, extends_self [])
    one (suc seat) view at = absurd (some-ne-none view (sym at))

-- a router is cut from a seat, and has seen everything that this seat has seen
pub splits : (count id : ℕ) (view : WordView) → Splits {S = Unit {0}} (WordRuleHolds count) id view view view
splits count id view table rule at =
    let publications = rule.0 in
    let kept : AreKept count table.words table.views publications = rule.1 in
    subst (λ (views : List WordView). WordRuleHolds {S = Unit {0}} count (record {
      words = table.words;
      homes = table.homes;
      views = views ++ view ∷ [];
    })) (sym (set_again table.views id view at)) (
      publications,
      record {
        sized = kept.sized;
        words_are = kept.words_are;
        publisher = at_longer table.views (view ∷ []) 0 _ kept.publisher;
        fit = λ seat other there. ⊎_elim (λ (old : get_elem? table.views seat ≡ some other). kept.fit seat other old)
            (λ (same : view ≡ other). subst (λ (v : WordView). (v.count ≡ count) × Extends publications v.seen) same
            (kept.fit id view at))
            (at_snoc table.views view other seat there);
      },
    )

-- no shard beyond the last has a route
within : (count : ℕ) (words : List ℕ) (publications : List Route) → length words ≡ count
    → AreWordsOf words publications → HasNoRouteBeyond (record { count = count; seen = publications })
within count words publications sized are shard past =
    sym (are shard) ∙ ap (route_in shard) (get_or_past words shard 0 (omega (arith, sized)))

-- the publisher's load
recalls_first : (count slots word : ℕ) (me : Me (Unit {0}) WordView)
    → Allows (WordRuleHolds {S = Unit {0}} count) slots 0 me word (λ n. n)
    (RouteRecalled (step {S = Unit {0}} slots word 0 0 none) me)
recalls_first count slots word me table rule size at small =
    let publications = rule.0 in
    let kept : AreKept count table.words table.views publications = rule.1 in
    let mine : record { count = count; seen = publications } ≡ me.0 =
    some-injective (record { count = count; seen = publications }) me.0 (sym kept.publisher ∙ at) in (
      me.0,
      keeps,
      tt,
      (
        publications,
        subst (λ (words : List ℕ). AreKept count words (slice_set table.views 0 me.0) publications)
            (sym (set-get_or table.words word 0))
            (subst (λ (views : List WordView). AreKept count table.words views publications)
            (sym (set_again table.views 0 me.0 at)) kept),
      ),
      (refl, kept.words_are word ∙ ap (λ (v : WordView). routes_of v.seen word) mine),
    )

-- the views after a seat has seen all publications; there may be more of them than before
seen_all : (count id : ℕ) (views : List WordView) (before after : List Route) (view : WordView)
    → get_elem? views id ≡ some view → Extends after before
    → ((seat : ℕ) (view : WordView) → get_elem? views seat ≡ some view
    → (view.count ≡ count) × Extends before view.seen)
    → (seat : ℕ) (other : WordView)
    → get_elem? (slice_set views id (record { count = count; seen = after })) seat ≡ some other
    → (other.count ≡ count) × Extends after other.seen
seen_all count id views before after view at more fit seat other there =
    let all : WordView = record { count = count; seen = after } in
    ⊎_elim
    (λ (here : (seat ≡ id) × (all ≡ other)). subst (λ (v : WordView). (v.count ≡ count) × Extends after v.seen) here.1
    (refl, extends_self after))
    (λ (else_where : (seat ≢ id) × (get_elem? views seat ≡ some other)). let was = fit seat other else_where.1 in
    (was.0, extends_trans after before other.seen more was.1))
    (at_set views id seat all other there)

-- a router's load
pub reads : (count slots id word : ℕ) (me : Me (Unit {0}) WordView)
    → Allows (WordRuleHolds {S = Unit {0}} count) slots id me word (λ n. n)
    (RouteRead (step {S = Unit {0}} slots word 0 0 none) me)
reads count slots id word me table rule size at small =
    let publications = rule.0 in
    let kept : AreKept count table.words table.views publications = rule.1 in
    let all : WordView = record { count = count; seen = publications } in
    let was = kept.fit id me.0 at in
    let first : get_elem? (slice_set table.views id all) 0 ≡ some all = dite (ℕ_discrete 0 id)
    (λ (same : 0 ≡ id). subst (λ (seat : ℕ). get_elem? (slice_set table.views seat all) 0 ≡ some all) same
    (ap (λ (views : List WordView). get_elem? views 0) (set_again table.views 0 all kept.publisher) ∙ kept.publisher))
    (λ (apart : 0 ≢ id). set_else table.views id 0 all apart ∙ kept.publisher) in (
      all,
      keeps,
      tt,
      (
        publications,
        subst (λ (words : List ℕ). AreKept count words (slice_set table.views id all) publications)
            (sym (set-get_or table.words word 0))
            (record {
              sized = kept.sized;
              words_are = kept.words_are;
              publisher = first;
              fit = seen_all count id table.views publications publications me.0 at
                  (extends_self publications) kept.fit;
            }),
      ),
      (
        was.1,
        kept.words_are word,
        sym was.0,
        within count table.words publications kept.sized kept.words_are,
      ),
    )

-- a word's route is of its shard
of_shard : (shard word : ℕ) (route : Route) → route_in shard word ≡ Some route → route.shard ≡ shard
of_shard shard word route is = by (word % 4096 == 0) is
  where
    by : (none : Bool)
        → cond none None (Some (record { shard = shard; server = word % 4096; generation = word / 4096 })) ≡ Some route
        → route.shard ≡ shard
    by true is = absurd (cc)
    by false is = cc

-- a shard's last route after one more publication
after_one : (publications : List Route) (route : Route) (shard : ℕ)
    → routes_of (publications ++ route ∷ []) shard
    ≡ cond (route.shard == shard) (Some route) (routes_of publications shard)
after_one publications route shard =
    ap (λ (l : List Route). find (λ (r : Route). r.shard == shard) l) (reverse-append publications (route ∷ []))

-- the words after one of them was written
written : (words : List ℕ) (publications : List Route) (shard word : ℕ) (route : Route) → shard < length words
    → route_in shard word ≡ Some route → AreWordsOf words publications
    → AreWordsOf (slice_set words shard word) (publications ++ route ∷ [])
written words publications shard word route inside is are other =
    let mine = of_shard shard word route is in
    dite (ℕ_discrete other shard)
    (λ (same : other ≡ shard). subst (λ (k : ℕ). route_in k (slice_index (slice_set words shard word) k)
    ≡ routes_of (publications ++ route ∷ []) k) (sym same)
    (ap (route_in shard) (get_or-set_same words shard word 0 inside) ∙ is
    ∙ sym (after_one publications route shard
    ∙ ap (λ (b : Bool). cond b (Some route) (routes_of publications shard)) (eq-eqb route.shard shard mine))))
    (λ (apart : other ≢ shard). ap (route_in other) (get_or-set_other words shard other word 0 apart) ∙ are other
    ∙ sym (after_one publications route other
    ∙ ap (λ (b : Bool). cond b (Some route) (routes_of publications other))
    (ne_eqb route.shard other (λ (e : route.shard ≡ other). apart (sym e ∙ mine)))))

-- the publisher's store
stores_first : (count slots word new : ℕ) (route : Route) (me : Me (Unit {0}) WordView) → word < me.0.count
    → route_in word new ≡ Some route
    → Allows (WordRuleHolds {S = Unit {0}} count) slots 0 me word (λ _. new)
    (λ _. RouteStored (step {S = Unit {0}} slots word new 0 none) me new)
stores_first count slots word new route me inside is table rule size at small =
    let publications = rule.0 in
    let kept : AreKept count table.words table.views publications = rule.1 in
    let longer : List Route = publications ++ route ∷ [] in
    let all : WordView = record { count = count; seen = longer } in
    let was = kept.fit 0 me.0 at in
    let long = length-set table.words word new in
    let sized = kept.sized in
    let same = was.0 in
    let mine : record { count = count; seen = publications } ≡ me.0 =
    some-injective (record { count = count; seen = publications }) me.0 (sym kept.publisher ∙ at) in
    let are = written table.words publications word new route (omega (arith, sized, same)) is kept.words_are in
    let sized' : length (slice_set table.words word new) ≡ count = omega (arith, sized, long) in (
      all,
      keeps,
      tt,
      (
        longer,
        record {
          sized = sized';
          words_are = are;
          publisher = set_here table.views 0 all (some_seat table.views me.0 at);
          fit = seen_all count 0 table.views publications longer me.0 at (route ∷ [], refl) kept.fit;
        },
      ),
      (
        subst (λ (v : WordView). all ≡ record { count = v.count; seen = and_then v.seen (route_in word new) }) mine
            (ap (λ (o : Option Route). record { count = count; seen = and_then publications o }) (sym is)),
        within count (slice_set table.words word new) longer sized' are,
      ),
    )
  where
    some_seat : (views : List WordView) (view : WordView) → get_elem? views 0 ≡ some view → 0 < length views
    some_seat [] view at = absurd (some-ne-none view (sym at))
    some_seat (one ∷ views) view at = omega arith

-- the publisher's steps, by its own seat
pub recalls : (count slots id word : ℕ) (me : Me (Unit {0}) WordView) → id ≡ 0
    → Allows (WordRuleHolds {S = Unit {0}} count) slots id me word (λ n. n)
    (RouteRecalled (step {S = Unit {0}} slots word 0 0 none) me)
recalls count slots id word me first =
    subst (λ (seat : ℕ). Allows (WordRuleHolds {S = Unit {0}} count) slots seat me word (λ n. n)
    (RouteRecalled (step {S = Unit {0}} slots word 0 0 none) me)) (sym first) (recalls_first count slots word me)

pub stores : (count slots id word new : ℕ) (route : Route) (me : Me (Unit {0}) WordView) → id ≡ 0 → word < me.0.count
    → route_in word new ≡ Some route
    → Allows (WordRuleHolds {S = Unit {0}} count) slots id me word (λ _. new)
    (λ _. RouteStored (step {S = Unit {0}} slots word new 0 none) me new)
stores count slots id word new route me first inside is =
    subst (λ (seat : ℕ). Allows (WordRuleHolds {S = Unit {0}} count) slots seat me word (λ _. new)
    (λ _. RouteStored (step {S = Unit {0}} slots word new 0 none) me new)) (sym first)
    (stores_first count slots word new route me inside is)
