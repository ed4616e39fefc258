use Rattle.std.proofs.Common.{◌≡◌, ◌<◌, ◌∙◌, Some, ap, subst, sym, length}
use Rattle.std.proofs.lemmas.Bool.{and_parts}
use Rattle.std.proofs.lemmas.List.{get_or_default}
use Rattle.sm_rows.specs.declared.server_row.ServerRow.{ServerRow}
use Rattle.sm_place.specs.Books.{BooksView, IsKnown, no_server, row_at}
use Rattle.sm_place.specs.Room.{fit}
use Rattle.sm_place.specs.Plans.{first_fit, servers_but}
use Rattle.sm_place.proofs.Drafting.{first_fit-here, first_fit-past, ok-is}
use Rattle.sm_place.proofs.Leaving.{known_at}
use Rattle.sm_place.proofs.draft.Draft.first_fit.Goals as goal

pub returns-then-takes-clause-first : goal.returns-then-takes-clause-first
returns-then-takes-clause-first c =
    let servers = c.args.self.now.servers in
    let i = c.loop-at.at in
    let items : c.rows-row-items.result.now ≡ servers =
    c.rows-row-items.ensures ∙ ap (λ (b : BooksView). b.servers) c.self.view_is in
    let inside : i < length servers = rw items at c.loop-at-test.true in
    let row : c.row-item.result ≡ row_at servers i =
    c.row-item.is ∙ get_or_default c.rows-row-items.result.now i _ no_server c.loop-at-test.true
    ∙ ap (λ rows. row_at rows i) items in
    let both = and_parts _ _ (sym c.takes.ensures ∙ c.if-takes.true) in
    ap (λ (r : ServerRow). Some r.id) row
    ∙ first_fit-here c.args.self.now c.args.k c.args.from.now servers i
    (first_fit c.args.self.now c.args.k (servers_but c.args.from.now servers)) inside c.loop-at.invariant both.0 both.1

pub returns-then-takes-clause-fits : goal.returns-then-takes-clause-fits
returns-then-takes-clause-fits c =
    let servers = c.args.self.now.servers in
    let i = c.loop-at.at in
    let items : c.rows-row-items.result.now ≡ servers =
    c.rows-row-items.ensures ∙ ap (λ (b : BooksView). b.servers) c.self.view_is in
    let inside : i < length servers = rw items at c.loop-at-test.true in
    let row : c.row-item.result ≡ row_at servers i =
    c.row-item.is ∙ get_or_default c.rows-row-items.result.now i _ no_server c.loop-at-test.true
    ∙ ap (λ rows. row_at rows i) items in
    let both = and_parts _ _ (sym c.takes.ensures ∙ c.if-takes.true) in
    ap (λ (r : ServerRow). fit c.args.self.now c.args.k r.id) row ∙ ok-is _ both.0

pub returns-then-takes-clause-known : goal.returns-then-takes-clause-known
returns-then-takes-clause-known c =
    let servers = c.args.self.now.servers in
    let i = c.loop-at.at in
    let items : c.rows-row-items.result.now ≡ servers =
    c.rows-row-items.ensures ∙ ap (λ (b : BooksView). b.servers) c.self.view_is in
    let inside : i < length servers = rw items at c.loop-at-test.true in
    let row : c.row-item.result ≡ row_at servers i =
    c.row-item.is ∙ get_or_default c.rows-row-items.result.now i _ no_server c.loop-at-test.true
    ∙ ap (λ rows. row_at rows i) items in
    subst (λ (r : ServerRow). IsKnown servers r.id) (sym row) (known_at servers i inside)

pub loop-at-preserved : goal.loop-at-preserved
loop-at-preserved c =
    let servers = c.args.self.now.servers in
    let i = c.loop-at.at in
    let items : c.rows-row-items.result.now ≡ servers =
    c.rows-row-items.ensures ∙ ap (λ (b : BooksView). b.servers) c.self.view_is in
    let inside : i < length servers = rw items at c.loop-at-test.true in
    first_fit-past c.args.self.now c.args.k c.args.from.now servers i
    (first_fit c.args.self.now c.args.k (servers_but c.args.from.now servers)) inside c.loop-at.invariant
    (sym c.takes.ensures ∙ c.if-takes.false)
