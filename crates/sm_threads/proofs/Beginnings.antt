-- The start of a cluster from settings.
use Rattle.std.proofs.Common.{◌≡◌, ◌*◌, ◌<◌, ◌≤◌, ⊎_elim, Result, Ok, Err, OnErr, ℕ, zero, suc, List, [], ◌∷◌, All, map}
use Rattle.std.proofs.Common.{length, replicate, refl, sym, ap, ◌∙◌, subst, None}
use Rattle.std.proofs.lemmas.List.{length-replicate}
use Rattle.std.proofs.lemmas.Bool.{cases_lt}
use Rattle.sm_cluster.specs.declared.TheConstants.{MAX_WORKERS}
use Rattle.sm_cluster.specs.Clusters.{ClusterValue}
use Rattle.sm_cluster.specs.Teams.{teams_of}
use Rattle.sm_desk.specs.Desk.{DeskView}
use Rattle.sm_session.specs.Beginning.{settings_desk}
use Rattle.sm_service.specs.Service.{TextLog}
use Rattle.sm_settings.specs.SettingsLine.{SettingsValues}
use Rattle.sm_service.specs.declared.request.Request.{Request}
use Rattle.sm_threads.specs.Sessions.{IsBegun, IsNewClientOf, SessionValue}
use Rattle.sm_threads.specs.declared.cluster_backend.TheConstants.{LOADERS}

-- the limits of bodies that are alike
pub limits_of : (count : ℕ) (body : TextLog)
    → map (λ (each : TextLog). each.limit) (replicate count body) ≡ replicate count body.limit
limits_of zero body = refl
limits_of (suc count) body = ap (λ (rest : List ℕ). body.limit ∷ rest) (limits_of count body)

-- a result that was made isn't refused
pub made_is_not_refused : {T E : Type 0} (made : T) (fault : E) → Ok made ≡ Err fault → ⊥
made_is_not_refused {T} {E} made fault same = let P : Result T E → Type 0 = λ r. OnErr r ⊥ in subst P same tt

-- a start that made a cluster had no more workers than allowed
pub few_workers : (settings : SettingsValues) (desk : DeskView) (workers : ℕ) → desk ≡ settings_desk settings
    → workers ≡ settings.workers
    → (MAX_WORKERS < length desk.books.servers * workers → ⊥) → length settings.servers * settings.workers ≤ MAX_WORKERS
few_workers settings desk workers desk_is same few =
    let rows : length desk.books.servers ≡ length settings.servers =
    ap (λ (d : DeskView). length d.books.servers) desk_is in
    let many : length desk.books.servers * workers ≡ length settings.servers * settings.workers =
    (λ i. rows i * same i) in
    ⊎_elim (λ much. absurd (few (subst (λ n. MAX_WORKERS < n) (sym many) much))) (λ most. most)
    (cases_lt MAX_WORKERS (length settings.servers * settings.workers))

-- the session of a cluster that was started from the settings' parts
pub is_begun : (settings : SettingsValues) (session : SessionValue) (cluster : ClusterValue Request) (desk : DeskView)
    (bodies : List TextLog) (count : ℕ)
    → count ≡ length settings.bounds → desk ≡ settings_desk settings
    → bodies ≡ replicate count (record { base = []; before = 0; requests = []; limit = settings.kept })
    → session.cluster ≡ cluster → cluster.control.desk ≡ desk → cluster.control.chair.seen ≡ []
    → cluster.control.chair.board.limits.ceiling ≡ settings.ceiling
    → cluster.control.chair.board.limits.bodies ≡ map (λ (body : TextLog). body.limit) bodies
    → cluster.bounds ≡ settings.bounds → cluster.holds ≡ replicate (length bodies) None
    → cluster.map.map ≡ record { count = length bodies; published = [] }
    → cluster.control.chair.board.limits.count ≡ length bodies
    → IsNewClientOf cluster session.client → All (IsNewClientOf cluster) session.loaders
    → length session.loaders ≡ LOADERS
    → length settings.servers * settings.workers ≤ MAX_WORKERS → (workers : ℕ) → workers ≡ settings.workers
    → cluster.teams ≡ teams_of workers (map (λ row. row.id) desk.books.servers)
    → IsBegun settings session
is_begun settings session cluster desk bodies count counted desk_is bodies_are same desk_in seen ceiling limits bounds
    holds map_is shards client loaders enough few workers asked teams =
    let body : TextLog = record { base = []; before = 0; requests = []; limit = settings.kept } in
    let many : length bodies ≡ length settings.bounds =
    ap length bodies_are ∙ (length-replicate count body ∙ counted) in
    let kept : map (λ (each : TextLog). each.limit) bodies ≡ replicate (length settings.bounds) settings.kept =
    ap (map (λ (each : TextLog). each.limit)) bodies_are
    ∙ (limits_of count body ∙ ap (λ (n : ℕ). replicate n settings.kept) counted) in
    record {
      desk = ap (λ (c : ClusterValue Request). c.control.desk) same ∙ (desk_in ∙ desk_is);
      seen = ap (λ (c : ClusterValue Request). c.control.chair.seen) same ∙ seen;
      ceiling = ap (λ (c : ClusterValue Request). c.control.chair.board.limits.ceiling) same ∙ ceiling;
      kept = ap (λ (c : ClusterValue Request). c.control.chair.board.limits.bodies) same ∙ (limits ∙ kept);
      bounds = ap (λ (c : ClusterValue Request). c.bounds) same ∙ bounds;
      holds = ap (λ (c : ClusterValue Request). c.holds) same ∙ (holds ∙ ap (λ (n : ℕ). replicate n None) many);
      map = ap (λ (c : ClusterValue Request). c.map.map) same
          ∙ subst (λ (n : ℕ). cluster.map.map ≡ record { count = n; published = [] }) many map_is;
      workers = few;
      teams = ap (λ (c : ClusterValue Request). c.teams) same
          ∙ (teams ∙ (λ i. teams_of (asked i) (map (λ row. row.id) (desk_is i).books.servers)));
      shards = ap (λ (c : ClusterValue Request). c.control.chair.board.limits.count) same ∙ (shards ∙ many);
      client = subst (λ (c : ClusterValue Request). IsNewClientOf c session.client) (sym same) client;
      loaders = subst (λ (c : ClusterValue Request). All (IsNewClientOf c) session.loaders) (sym same) loaders;
      enough = enough;
    }
