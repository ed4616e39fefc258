use Rattle.std.proofs.Common.{◌≡◌, ◌-◌, ap, ◌∙◌, min, length}
use Rattle.sm_lines.proofs.Pieces.{range_drop, range_inside, line_after_take}
use Rattle.sm_lines.proofs.line_reader.LineReader.take.Goals as goal

pub returns-clause-ok : goal.returns-clause-ok
returns-clause-ok g c =
    let r = c.self.inside in
    let held = rw (← c.self.view_is) at c.requires.held in
    let fits = rw (← c.self.view_is) at c.requires.fits in
    let inside = range_inside r.piece.items r.at r.end c.args.n c.self.invariant.0 held in
    let few : c.min-kept.result ≡ min c.args.n (c.args.limit - length r.line.items) = c.min-kept.ensures
    ∙ ap (λ len. min c.args.n (c.args.limit - len)) (c.len.ensures ∙ r.line.ok.0) in
    let line = line_after_take r.line.items c.extend_from_slice.new.self.items r.piece.items c.deref.result.now r.at
    r.end c.args.n c.min-kept.result c.args.limit
    fits inside few c.deref.ensures.value c.in_ok-extend_from_slice.ensures.items in
    rw (← c.self.view_is, range_drop r.piece.items r.at c.args.n r.end inside, line)
