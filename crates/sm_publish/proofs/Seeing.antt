-- If all earlier publications are still published after a step, the step keeps the views of all others.
use Rattle.std.proofs.Common.{◌≡◌, ℕ, ◌≢◌, Bool, true, false, cond, nat_lt, List, [], ◌∷◌, ◌++◌, fold, refl, sym, ap}
use Rattle.std.proofs.Common.{subst, ◌∙◌, ⊎_elim}
use mathlib.Core.Option.{some}
use mathlib.Core.List.{append_assoc}
use Rattle.std.proofs.lemmas.List.{append-nil}
use lib.ListN.{get_elem?}
use Rattle.crossbeam_utils.specs.Register.{Admits, TurnsAt}
use Rattle.atomic_table.proofs.Lists.{at_set, at_snoc}
use Rattle.sm_ownership.specs.declared.route.Route.{Route}
use Rattle.sm_publish.specs.Publishing.{MapView, taken}
use Rattle.sm_publish.specs.Seen.{Extends, IsSeen, Sees}

pub extends_self : (publications : List Route) → Extends publications publications
extends_self publications = ([], sym (append-nil publications))

pub extends_trans : (xs ys zs : List Route) → Extends xs ys → Extends ys zs → Extends xs zs
extends_trans xs ys zs a b = (b.0 ++ a.0, a.1 ∙ ap (λ l. l ++ a.0) b.1 ∙ append_assoc zs b.0 a.0)

-- a new router has seen nothing
pub admits : Admits IsSeen []
admits map views h seat seen at = ⊎_elim (h seat seen) (λ (e : [] ≡ seen). subst
    (λ (z : List Route). Extends map.published z) e (map.published, refl)) (at_snoc views [] seen seat at)

pub sees : (seat : ℕ) (seen : List Route) (map after : MapView) → Extends after.published map.published
    → TurnsAt IsSeen seat seen map after Sees
sees seat seen map after up views h at = (
  after.published,
  (λ j u e. ⊎_elim (λ (t : (j ≡ seat) × (after.published ≡ u)). subst
      (λ (z : List Route). Extends after.published z) t.1 (extends_self after.published))
      (λ (t : (j ≢ seat) × (get_elem? views j ≡ some u)). extends_trans after.published map.published u up (h j u t.1))
      (at_set views seat j after.published u e)),
  (extends_trans after.published map.published seen up (h seat seen at), refl),
)

extends_taken : (map : MapView) (route : Route) (known : Bool)
    → Extends (cond known (map.published ++ route ∷ []) map.published) map.published
extends_taken map route true = (route ∷ [], refl)
extends_taken map route false = extends_self map.published

taken_published : (map : MapView) (route : Route) (known : Bool) → nat_lt route.shard map.count ≡ known
    → (taken map route).published ≡ cond known (map.published ++ route ∷ []) map.published
taken_published map route true e = rw e refl
taken_published map route false e = rw e refl

-- the routes that a map takes come after its earlier publications
pub extends_fold : (map : MapView) (routes : List Route) → Extends (fold taken map routes).published map.published
extends_fold map [] = extends_self map.published
extends_fold map (route ∷ routes) =
    extends_trans (fold taken (taken map route) routes).published (taken map route).published map.published
    (extends_fold (taken map route) routes)
    (rw (taken_published map route (nat_lt route.shard map.count) refl)
    (extends_taken map route (nat_lt route.shard map.count)))
