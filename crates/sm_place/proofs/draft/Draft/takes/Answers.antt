use Rattle.std.proofs.Common.{rules, ◌≡◌, ◌==◌, ◌&&◌, ◌∙◌, ap, sym, not, Bool}
use Rattle.std.proofs.lemmas.List.{get_or_default}
use Rattle.sm_rows.specs.declared.server_row.ServerRow.{ServerRow}
use Rattle.sm_ranges.specs.Stand.{passes}
use Rattle.sm_place.specs.Books.{BooksView, no_server, row_at}
use Rattle.sm_place.proofs.draft.Draft.takes.Goals as goal

pub returns-then-fits_at : goal.returns-then-fits_at
returns-then-fits_at c =
    let self = c.self.inside in
    let servers = c.args.self.now.servers in
    let all = c.rows.ensures ∙ ap (λ (b : BooksView). b.servers) c.self.view_is in
    let row : c.index-rows-at.result ≡ row_at servers c.args.at =
    rw all at c.index-rows-at.is ∙ get_or_default servers c.args.at _ no_server c.requires.place in
    let other : c.ne.result ≡ not (passes (λ b. b == c.index-rows-at.result.id) c.args.from.now) = search rules in
    other ∙ ap (λ (r : ServerRow). not (passes (λ b. b == r.id) c.args.from.now)) row
    ∙ sym (ap (λ (v : Bool). v && not (passes (λ b. b == (row_at servers c.args.at).id) c.args.from.now))
    (sym c.fits_at.ensures ∙ c.if-fits_at.true))
