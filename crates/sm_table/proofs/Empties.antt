-- The world in which nothing has happened.
use Rattle.std.proofs.Common.{◌≡◌, ℕ, ◌<◌, ◌≤◌, ◌^◌, [], List, length, sym, ap, subst, ◌∙◌, arith, ⊎_elim}
use Rattle.std.specs.Prelude.{Option, Some, None, All, map, replicate, slice_index_or}
use Rattle.std.proofs.lemmas.Bool.{cases_lt}
use Rattle.std.proofs.lemmas.List.{get_or-replicate, get_or_past, length-replicate}
use Rattle.std.proofs.lemmas.List.Elements.{All-nil}
use Rattle.sm_ownership.specs.declared.route.Route.{Route}
use Rattle.sm_table.specs.declared.world.Flight.{Flight}
use Rattle.sm_table.specs.declared.hands.InHand.{InHand}
use Rattle.sm_ranges.specs.declared.stand.Stand.TheVariants.{Vacant}
use Rattle.sm_ownership.specs.declared.record.Record.{Record}
use Rattle.sm_ownership.specs.History.{vacant}
use Rattle.sm_table.specs.World.{Frame, empty_world}
use Rattle.sm_ownership.specs.Tables.{TableView}
use Rattle.sm_desk.specs.Desk.{DeskView, stands_of}
use Rattle.sm_table.specs.Bodies.{BodiesView, Past, no_past, past_at}
use Rattle.sm_table.specs.Standing.{IsFrame, StandsFor, IsTogether, view_of}
use Rattle.sm_table.specs.lemmas.Soundness.{map-replicate, sound_empty}
use Rattle.sm_table.proofs.Routing.{row_of-none}

no_hand : {Q : Type 0} (count shard : ℕ) (hand : InHand Q)
    → slice_index_or (replicate count None) shard None ≡ Some hand → ⊥
no_hand {Q = Q} count shard hand is =
    let nothing : Option (InHand Q) = None in
    ⊎_elim
    (λ (within : shard < count). let free = get_or-replicate count shard nothing nothing within in cc)
    (λ (past : count ≤ shard). let free =
    get_or_past (replicate count nothing) shard nothing (omega (arith, length-replicate count nothing)) in cc)
    (cases_lt shard count)

none_yet : (Q : Type 0) (count shard : ℕ) → length (past_at {Q = Q} (replicate count no_past) shard).all ≡ 0
none_yet Q count shard =
    let nothing : Past Q = no_past in
    ⊎_elim
    (λ (within : shard < count). ap (λ (p : Past Q). length p.all)
    (get_or-replicate count shard nothing nothing within))
    (λ (past : count ≤ shard). ap (λ (p : Past Q). length p.all)
    (get_or_past (replicate count nothing) shard nothing (omega (arith, length-replicate count nothing))))
    (cases_lt shard count)

module _ {Q : Type 0} {bounds : List (List ℕ)} {desk : DeskView} {table : TableView} {bodies : BodiesView Q}
    {routes : List (Option Route)} {in_flight : List (Flight Q)} {in_hand : List (Option (InHand Q))} where
  -- parts with a vacant record for each shard, with nothing kept, in flight or in hand
  pub StandsFor-empty : (frame : Frame) → IsFrame frame → bounds ≡ frame.bounds → desk ≡ frame.start
      → table.records ≡ replicate (length frame.bounds) vacant → table.ceiling ≡ frame.ceiling
      → bodies.pasts ≡ replicate (length frame.bounds) no_past → bodies.limits ≡ frame.limits
      → routes ≡ replicate (length frame.bounds) None → in_flight ≡ [] → in_hand ≡ replicate (length frame.bounds) None
      → StandsFor (view_of bounds desk table bodies routes in_flight in_hand) (empty_world frame)
  StandsFor-empty frame is same start records ceiling empty limits unpublished flights hands = record {
    bounds = same;
    desk = start;
    records = records;
    ceiling = ceiling;
    bodies = ap length empty ∙ length-replicate (length frame.bounds) no_past;
    pasts = λ shard within. ap (λ all. past_at all shard) empty
        ∙ get_or-replicate (length frame.bounds) shard no_past no_past within;
    limits = limits;
    routes = unpublished ∙ sym (row_of-none 0 (length frame.bounds));
    in_flight = flights;
    in_hand = hands;
    sound = sound_empty frame is;
  }

  pub IsTogether-empty : (count : ℕ) → length bounds ≡ count → table.records ≡ replicate count vacant
      → stands_of desk ≡ replicate count Vacant → table.ceiling < 2 ^ 36 → bodies.pasts ≡ replicate count no_past
      → routes ≡ replicate count None → in_flight ≡ []
      → in_hand ≡ replicate count None → IsTogether (view_of bounds desk table bodies routes in_flight in_hand)
  IsTogether-empty count layout records stands low pasts unpublished flights hands =
      let long : length in_hand ≡ count = ap length hands ∙ length-replicate count None in
      record {
        layout = layout ∙ sym long;
        table = ap length records ∙ length-replicate count vacant ∙ sym long;
        stands = stands ∙ sym (map-replicate (λ (one : Record). one.stand) count vacant)
            ∙ ap (map (λ (one : Record). one.stand)) (sym records);
        bodies = ap length pasts ∙ length-replicate count no_past ∙ sym long;
        routes = ap length unpublished ∙ length-replicate count None ∙ sym long;
        flights = subst (λ all. All (λ (flight : Flight Q). flight.envelope.shard < length in_hand) all) (sym flights)
            (All-nil (λ (flight : Flight Q). flight.envelope.shard < length in_hand));
        admitted = λ shard hand is. absurd
            (no_hand count shard hand (ap (λ all. slice_index_or all shard None) (sym hands) ∙ is));
        few = λ shard. let none : length (past_at bodies.pasts shard).all ≡ 0 =
            ap (λ all. length (past_at all shard).all) pasts ∙ none_yet Q count shard in omega arith;
        low = low;
      }
