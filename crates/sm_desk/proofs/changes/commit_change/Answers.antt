use Rattle.std.proofs.Common.{◌≡◌, subst}
use Rattle.sm_ranges.specs.Stand.{AllNamed}
use Rattle.sm_place.specs.Books.{IsKnown, with_stand}
use Rattle.sm_place.specs.Room.{HasRoom}
use Rattle.sm_desk.specs.lemmas.Changes.{let_through}
use Rattle.sm_desk.proofs.Holding.{changes_known, changes_room, stand_of, stand_of-leads}
use Rattle.sm_desk.proofs.changes.commit_change.Goals as goal

pub set_stand-requires-clause-room : goal.set_stand-requires-clause-room
set_stand-requires-clause-room c =
    let books = c.args.books.now in
    let room =
    changes_room c.fit_leaves_room.ensures.named c.fewer_names_leave_room.ensures books c.args.k c.args.change.now
    c.soundness.ensures (let_through books c.args.k c.args.change.now c.requires.allowed) in
    let is : stand_of books c.args.k c.args.change.now ≡ c.args.stand.now =
    stand_of-leads books c.args.k c.args.change.now c.args.stand.now c.requires.stand in
    subst (λ stand. HasRoom books.servers books.groups (with_stand books.shards c.args.k stand)) is room

pub set_stand-requires-clause-known : goal.set_stand-requires-clause-known
set_stand-requires-clause-known c =
    let books = c.args.books.now in
    let known = changes_known books c.args.k c.args.change.now c.soundness.ensures
    (let_through books c.args.k c.args.change.now c.requires.allowed) in
    let is : stand_of books c.args.k c.args.change.now ≡ c.args.stand.now =
    stand_of-leads books c.args.k c.args.change.now c.args.stand.now c.requires.stand in
    subst (AllNamed (IsKnown books.servers)) is known
