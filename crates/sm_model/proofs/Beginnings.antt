-- The world that a session begins with.
use Rattle.std.proofs.Common.{◌≡◌, ℕ, zero, suc, refl, List, [], ◌∷◌, map, length, replicate, ap, ◌∙◌, subst}
use Rattle.sm_service.specs.Service.{TextLog}
use Rattle.sm_service.specs.declared.request.Request.{Request}
use Rattle.sm_settings.specs.SettingsLine.{SettingsValues}
use Rattle.sm_table.specs.Standing.{StandsFor, WorldView}
use Rattle.sm_table.specs.World.{Frame, empty_world}
use Rattle.sm_desk.specs.Desk.{DeskView}
use Rattle.sm_model.specs.Calls.{settings_frame}
use Rattle.sm_session.specs.Beginning.{settings_desk}
use Rattle.sm_model.specs.Sessions.{IsAt}

-- a body that keeps nothing yet
abbrev pub empty_body : ℕ → TextLog
empty_body limit = record { base = []; before = 0; requests = []; limit = limit }

limits_of : (count limit : ℕ)
    → map (λ (body : TextLog). body.limit) (replicate count (empty_body limit)) ≡ replicate count limit
limits_of zero limit = refl
limits_of (suc count) limit = ap (λ (rest : List ℕ). limit ∷ rest) (limits_of count limit)

-- a world made from the settings' parts stands for the empty world
pub is_at_begin : (settings : SettingsValues) (layout : List (List ℕ)) (desk : DeskView) (bodies : List TextLog)
    (count : ℕ) (world : WorldView Request)
    → layout ≡ settings.bounds → desk ≡ settings_desk settings → bodies ≡ replicate count (empty_body settings.kept)
    → count ≡ length layout
    → StandsFor world (empty_world (record {
      bounds = settings.bounds;
      start = desk;
      ceiling = settings.ceiling;
      limits = map (λ (body : TextLog). body.limit) bodies;
    }))
    → IsAt world (empty_world (settings_frame settings))
is_at_begin settings layout desk bodies count world same desk_is bodies_are counted stands =
    let limits : map (λ (body : TextLog). body.limit) bodies ≡ replicate (length settings.bounds) settings.kept =
    ap (map (λ (body : TextLog). body.limit)) bodies_are ∙ limits_of count settings.kept
    ∙ ap (λ n. replicate n settings.kept) (counted ∙ ap length same) in
    let frame_is : record {
      bounds = settings.bounds;
      start = desk;
      ceiling = settings.ceiling;
      limits = map (λ (body : TextLog). body.limit) bodies;
    } ≡ settings_frame settings =
    ap (λ (d : DeskView). record {
      bounds = settings.bounds;
      start = d;
      ceiling = settings.ceiling;
      limits = map (λ (body : TextLog). body.limit) bodies;
    }) desk_is
    ∙ ap (λ (l : List ℕ). record {
      bounds = settings.bounds;
      start = settings_desk settings;
      ceiling = settings.ceiling;
      limits = l;
    }) limits in
    record { rest = refl; world = subst (λ (frame : Frame). StandsFor world (empty_world frame)) frame_is stands }
