use Rattle.std.proofs.Common.{◌≡◌, ◌<◌, ◌∙◌, ap, subst, sym, arith, length, All, get_or, List}
use Rattle.std.proofs.lemmas.List.{drop_all}
use Rattle.std.proofs.lemmas.List.Elements.{All-get_or}
use Rattle.sm_rows.specs.declared.server_row.ServerRow.{ServerRow}
use Rattle.sm_place.specs.Books.{BooksView}
use Rattle.sm_place.specs.Plans.{books_after, first_fit, joined, plan, turn, servers_but, shards_to_move}
use Rattle.sm_place.proofs.Planning.{joined-no_plan, plan-next, servers-books_after, count-books_after, inside_shards}
use Rattle.sm_place.proofs.Turns.{KeepsRoom-plan}
use Rattle.sm_place.proofs.books.Books.plan.Goals as goal

pub place-requires : goal.place-requires
place-requires c =
    let rows = c.self.inside.shards.items in
    let all : c.deref-k-items.result.now ≡ shards_to_move c.args.from.now rows =
    c.deref-k-items.ensures.value ∙ c.in_ok-shards.ensures
    ∙ ap (shards_to_move c.args.from.now) c.deref.ensures.value in
    let inside : All (λ j. j < length rows) c.deref-k-items.result.now = rw all (inside_shards c.args.from.now rows) in
    let k : get_or c.deref-k-items.result.now c.loop-k.k-index c.k-item.result < length rows =
    All-get_or
    (λ j. j < length rows) c.deref-k-items.result.now c.loop-k.k-index c.k-item.result c.loop-k-test.true inside in
    let same : length rows ≡ length c.args.self.now.shards = ap (λ (b : BooksView). length b.shards) c.self.view_is in
    omega (arith, k, c.k-item.is, same, c.loop-k.invariant.count_stays)

pub loop-k-preserved : goal.loop-k-preserved
loop-k-preserved c =
    let shards = c.deref-k-items.result.now in
    let draft = c.loop-k.draft in
    let k = c.k-item.result in
    let servers = servers_but c.args.from.now c.args.self.now.servers in
    let same = c.loop-k.invariant.servers_stay in
    let to = first_fit draft k servers in
    let moved : c.in_ok-draft-2.draft ≡ books_after draft k to =
    subst (λ (rows : List ServerRow). c.in_ok-draft-2.draft
    ≡ books_after draft k (first_fit draft k (servers_but c.args.from.now rows))) same c.in_ok-draft-2.ensures.draft in
    let told : c.place.new.plan ≡ joined c.loop-k.plan (turn k to) =
    subst (λ (rows : List ServerRow). c.place.new.plan
    ≡ joined c.loop-k.plan (turn k (first_fit draft k (servers_but c.args.from.now rows)))) same
    c.in_ok-draft-2.ensures.plan in
    record {
      going_on = rw (moved, told)
          (plan-next c.loop-k.plan draft shards servers c.loop-k.k-index k (plan c.args.self.now shards servers)
          c.loop-k-test.true c.k-item.is c.loop-k.invariant.going_on);
      servers_stay = ap (λ (b : BooksView). b.servers) moved ∙ servers-books_after draft k to ∙ same;
      count_stays = ap (λ (b : BooksView). length b.shards) moved ∙ count-books_after draft k to
          ∙ c.loop-k.invariant.count_stays;
    }

pub returns-clause-keeps_room : goal.returns-clause-keeps_room
returns-clause-keeps_room c =
    let shards = c.deref-k-items.result.now in
    let numbers = shards_to_move c.args.from.now c.args.self.now.shards in
    let others = servers_but c.args.from.now c.args.self.now.servers in
    let none = drop_all c.loop-k.k-index shards (omega (arith, c.loop-k-test.false)) in
    let done : c.loop-k.plan ≡ plan c.args.self.now shards others =
    sym (ap (λ ks. joined c.loop-k.plan (plan c.loop-k.draft ks others)) none ∙ joined-no_plan c.loop-k.plan)
    ∙ c.loop-k.invariant.going_on in
    let from_shards : shards ≡ numbers =
    c.deref-k-items.ensures.value ∙ c.in_ok-shards.ensures
    ∙ ap (shards_to_move c.args.from.now) (c.deref.ensures.value ∙ ap (λ (b : BooksView). b.shards) c.self.view_is) in
    let found : c.loop-k.plan ≡ plan c.args.self.now numbers others =
    done ∙ ap (λ ks. plan c.args.self.now ks others) from_shards in
    rw found (KeepsRoom-plan c.args.self.now numbers others)
