-- Clients stay a cluster's own if its board and its ranges stay.
use Rattle.std.proofs.Common.{inl, inr, ◌≡◌, ◌<◌, ◌≤◌, ℕ, List, [], ◌∷◌, ◌++◌, All, Option, Some, IfSome, length, map}
use Rattle.std.proofs.Common.{replicate, take, drop, pos, refl, sym, ap, ◌∙◌, subst, arith, length-append, ◌+◌, ◌-◌}
use Rattle.std.specs.Prelude.{slice_index_or, ◌⊎◌}
use Rattle.std.specs.Option.{option_to_list}
use Rattle.std.proofs.lemmas.Bool.{cases_lt}
use Rattle.std.proofs.lemmas.List.{get_or_append_left, get_or-append_right, length-map}
use Rattle.std.proofs.Math.ListN.{get_or-map}
use Rattle.std.proofs.lemmas.List.Elements.{All-pop, All-replicate, All-weaker}
use Rattle.sm_cluster.specs.Calls.{ClientValue}
use Rattle.sm_cluster.specs.Clusters.{ClusterValue, IsClientOf}
use Rattle.sm_cluster.specs.Since.{IsClientSince}
use Rattle.sm_load.specs.Loads.{AreClientsSince, HaveLoaded}
use Rattle.sm_load.specs.declared.loading.LoadReport.{LoadReport}
use Rattle.std.proofs.Math.Seq.{take-append_seam, drop-append_seam}
use Rattle.sm_session.specs.Service.{counter_text}
use Rattle.sm_cluster.specs.Seen.{RouterView}
use Rattle.sm_cluster.specs.lemmas.Since.{since_same}
use Rattle.sm_service.specs.declared.request.Request.{Request}
use Rattle.sm_service.specs.declared.request.Request.TheVariants.{Get, Inc}
use Rattle.sm_threads.specs.Loads.{IsLoadOf, count_replied}
use Rattle.sm_threads.specs.Sessions.{IsNewClientOf}

pub stays_client : (before after : ClusterValue Request) (client : ClientValue Request)
    → after.control.chair.board ≡ before.control.chair.board → after.bounds ≡ before.bounds
    → IsClientOf before client → IsClientOf after client
stays_client before after client board bounds is = (is.0 ∙ sym board, is.1 ∙ sym bounds)

pub stay_clients : (before after : ClusterValue Request) (clients : List (ClientValue Request))
    → after.control.chair.board ≡ before.control.chair.board → after.bounds ≡ before.bounds
    → All (IsClientOf before) clients → All (IsClientOf after) clients
stay_clients before after clients board bounds all =
    All-weaker (IsClientOf before) (IsClientOf after)
    (λ (client : ClientValue Request) is. stays_client before after client board bounds is) clients all

-- clients behind which others stay as they are
front_at : (before after back : List (ClientValue Request)) → AreClientsSince before after
    → (at : ℕ) (d : ClientValue Request) → (at < length before) ⊎ (length before ≤ at)
    → IsClientSince (slice_index_or (before ++ back) at d) (slice_index_or (after ++ back) at d)
front_at before after back since at d (inl low) =
    let many = since.0 in
    let old : slice_index_or (before ++ back) at d ≡ slice_index_or before at d =
    get_or_append_left before back d at low in
    let new : slice_index_or (after ++ back) at d ≡ slice_index_or after at d =
    get_or_append_left after back d at (omega (arith, many)) in
    rw (old, new) (since.1 at d low)
front_at before after back since at d (inr high) =
    let old : slice_index_or (before ++ back) at d ≡ slice_index_or back (at - length before) d =
    get_or-append_right before back (length before) at d refl high in
    let new : slice_index_or (after ++ back) at d ≡ slice_index_or back (at - length before) d =
    get_or-append_right after back (length before) at d since.0 high in
    rw (old, new) (since_same (slice_index_or back (at - length before) d))

pub since_front : (before after back : List (ClientValue Request)) → AreClientsSince before after
    → AreClientsSince (before ++ back) (after ++ back)
since_front before after back since = (
  length-append after back ∙ ap (λ n. n + length back) since.0 ∙ sym (length-append before back),
  λ at d within. front_at before after back since at d (cases_lt at (length before)),
)

-- the last of the clients that are begun with, and the others
pub popped_of : (P : ClientValue Request → Type 0) (clients rest : List (ClientValue Request))
    (popped : Option (ClientValue Request)) (client : ClientValue Request)
    → clients ≡ rest ++ option_to_list popped → popped ≡ Some client → All P clients → length clients ≡ 18
    → P client × All P rest × (length rest ≡ 17)
popped_of P clients rest popped client items is all many =
    let both = All-pop P clients rest popped items all in
    let joined : clients ≡ rest ++ client ∷ [] =
    subst (λ (o : Option (ClientValue Request)). clients ≡ rest ++ option_to_list o) is items in
    let counted : length clients ≡ length (rest ++ client ∷ []) = ap length joined in (
      subst (λ (o : Option (ClientValue Request)). IfSome o P) is both.1,
      both.0,
      omega (arith, counted, length-append rest (client ∷ []), many),
    )

-- if all have a new router, all are new
pub new_clients : (cluster : ClusterValue Request) (clients : List (ClientValue Request)) (n : ℕ)
    → map (λ (each : ClientValue Request). each.router) clients
    ≡ replicate n (record { table = cluster.map.table; seen = [] })
    → All (IsClientOf cluster) clients → All (IsNewClientOf cluster) clients
new_clients cluster clients n same theirs = λ at d within.
    let router : RouterView = record { table = cluster.map.table; seen = [] } in
    let f : ClientValue Request → RouterView = λ each. each.router in
    let IsIt : RouterView → Type 0 = λ r. r ≡ router in
    let each : All IsIt (map f clients) =
    subst (λ (list : List RouterView). All IsIt list) (sym same) (All-replicate IsIt n router refl) in
    let place : at < length (map f clients) = omega (arith, length-map clients f, within) in
    (theirs at d within, sym (get_or-map f clients at d) ∙ each at (f d) place)

-- the whole of a list that others follow
pub take_all : (front back : List (ClientValue Request)) (n : ℕ) → n ≡ length front → take n (front ++ back) ≡ front
take_all front back n is = ap (λ (k : ℕ). take k (front ++ back)) is ∙ take-append_seam front back

-- the front of a list, and the rest of it
pub front_of : (n : ℕ) (all front back : List (ClientValue Request)) → all ≡ front ++ back → length front ≡ n
    → take n all ≡ front
front_of n all front back split many =
    ap (λ (k : ℕ). take k all) (sym many) ∙ (ap (take (length front)) split ∙ take-append_seam front back)

pub back_of : (n : ℕ) (all front back : List (ClientValue Request)) → all ≡ front ++ back → length front ≡ n
    → drop n all ≡ back
back_of n all front back split many =
    ap (λ (k : ℕ). drop k all) (sym many) ∙ (ap (drop (length front)) split ∙ drop-append_seam front back)

-- a load by the clients in front is one of all
pub load_of_front :
    (key : List ℕ) (count each : ℕ) (all front back front' : List (ClientValue Request)) (report : LoadReport)
    → all ≡ front ++ back → length front ≡ count + 1 → AreClientsSince front front'
    → HaveLoaded counter_text count_replied (Get key) (Inc key (pos 1)) each front report front'
    → IsLoadOf key count each all report (front' ++ back)
load_of_front key count each all front back front' report split many since did =
    let many' : length front' ≡ count + 1 = since.0 ∙ many in
    let Did : List (ClientValue Request) → List (ClientValue Request) → Type 0 =
    λ before after. HaveLoaded counter_text count_replied (Get key) (Inc key (pos 1)) each before report after in
    record {
      loaded = subst (λ (before : List (ClientValue Request)). Did before (take (count + 1) (front' ++ back)))
          (sym (front_of (count + 1) all front back split many))
          (subst (λ (after : List (ClientValue Request)). Did front after)
          (sym (front_of (count + 1) (front' ++ back) front' back refl many')) did);
      rest = back_of (count + 1) (front' ++ back) front' back refl many'
          ∙ sym (back_of (count + 1) all front back split many);
      since = subst (λ (before : List (ClientValue Request)). AreClientsSince before (front' ++ back)) (sym split)
          (since_front front front' back since);
    }
