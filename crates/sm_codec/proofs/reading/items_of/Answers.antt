use Rattle.std.proofs.Common.{◌≡◌, ◌++◌, ◌∷◌, []}
use Rattle.std.proofs.lemmas.List.{map_push}
use Rattle.sm_codec.specs.Spelling.{item_view, item_views}
use Rattle.sm_codec.specs.Reading.{items_in}
use Rattle.sm_codec.proofs.Loop.{goes_on, ends, is_done}
use Rattle.sm_codec.proofs.reading.items_of.Goals as goal

pub returns-in-Err : goal.returns-in-Err
returns-in-Err c =
    ends c.in-Err.error (item_views c.loop.items.items) c.args.count c.loop.counter c.loop.rest.now
    (items_in c.args.count c.args.bytes.now) c.loop-test.true c.in-Err.ensures c.loop.invariant

pub loop-preserved : goal.loop-preserved
loop-preserved c =
    let item = c.in-Ok.item in
    let e : item_views c.push.new.self.items ≡ item_views c.loop.items.items ++ item_view item ∷ [] =
    rw c.in_ok-push-in-Ok.ensures.items (map_push _ c.loop.items.items item) in
    rw e (goes_on (item_views c.loop.items.items) c.args.count c.loop.counter c.loop.rest.now (item_view item)
    c.in-Ok.after.now (items_in c.args.count c.args.bytes.now) c.loop-test.true c.in-Ok.ensures
    c.loop.invariant)

pub returns : goal.returns
returns c = is_done (item_views c.loop.items.items) c.args.count c.loop.counter c.loop.rest.now
    (items_in c.args.count c.args.bytes.now) c.loop-test.false c.loop.invariant
