use Rattle.std.proofs.Common.{◌≡◌, ◌<◌, ◌^◌, ap, refl, subst, sym, ◌∙◌, None, length, replicate, arith}
use Rattle.std.specs.Prelude.{map}
use Rattle.sm_ownership.specs.History.{vacant}
use Rattle.sm_table.specs.Bodies.{no_past}
use Rattle.sm_table.specs.Standing.{setup_frame}
use Rattle.sm_table.proofs.Empties.{StandsFor-empty, IsTogether-empty}
use Rattle.sm_table.proofs.world.World.new.Goals as goal

pub invariant_of-result : goal.invariant_of-result
invariant_of-result g c =
    let bodies : length c.args.bodies.items ≡ length c.args.setup.layout =
    omega (arith, c.args.bodies.ok.0, c.requires.bodies) in
    IsTogether-empty (length c.args.setup.layout) refl
    (c.in_ok-parts.ensures.records ∙ ap (λ count. replicate count vacant) c.count-count.ensures.value)
    c.requires.vacant
    (subst (λ ceiling. ceiling < 2 ^ 36) (sym c.in_ok-parts.ensures.ceiling) c.requires.greatest_ceiling)
    (c.in_ok-parts.ensures.pasts ∙ ap (λ count. replicate count no_past) bodies)
    (c.in_ok-parts.ensures.routes ∙ ap (λ count. replicate count None) c.count-count.ensures.value)
    c.new.ensures.items
    (c.in_ok-parts.ensures.in_hand ∙ ap (λ count. replicate count None) c.count-count.ensures.value)

pub returns : goal.returns
returns g c =
    let bodies : length c.args.bodies.items ≡ length c.args.setup.layout =
    omega (arith, c.args.bodies.ok.0, c.requires.bodies) in
    StandsFor-empty (setup_frame c.args.setup (map g.S.Service.limit c.args.bodies.items))
    (record {
      layout = c.count-count.ensures.is_layout;
      books = c.soundness.ensures.books;
      caps = c.soundness.ensures.caps;
      vacant = c.requires.vacant;
    })
    refl refl
    (c.in_ok-parts.ensures.records ∙ ap (λ count. replicate count vacant) c.count-count.ensures.value)
    c.in_ok-parts.ensures.ceiling
    (c.in_ok-parts.ensures.pasts ∙ ap (λ count. replicate count no_past) bodies)
    c.in_ok-parts.ensures.limits
    (c.in_ok-parts.ensures.routes ∙ ap (λ count. replicate count None) c.count-count.ensures.value)
    c.new.ensures.items
    (c.in_ok-parts.ensures.in_hand ∙ ap (λ count. replicate count None) c.count-count.ensures.value)
