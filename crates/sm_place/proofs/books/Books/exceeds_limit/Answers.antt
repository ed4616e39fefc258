use Rattle.std.proofs.Common.{ℕ, ◌+◌, ◌<◌, ◌≡◌, ◌∙◌, ap, refl, get_or, length, add-one}
use Rattle.std.specs.Prelude.{nat_lt, remove, slice_index_or}
use Rattle.std.proofs.lemmas.List.{get_or_default}
use Rattle.std.proofs.Math.Dec.{leb, leb-suc-suc}
use Rattle.sm_rows.specs.declared.group_row.GroupRow.{GroupRow}
use Rattle.sm_place.specs.Books.{no_group, shard_at, domain_of}
use Rattle.sm_place.specs.Room.{count_in}
use Rattle.sm_place.proofs.books.Books.exceeds_limit.Goals as goal

-- a limit is reached if one more is above it
reached : (limit n : ℕ) → leb limit n ≡ nat_lt limit (n + 1)
reached limit n = rw (add-one, leb-suc-suc) refl

pub returns : goal.returns
returns c =
    let shards = c.self.inside.shards.items in
    let g = (shard_at shards c.args.k).row.group in
    let inside : c.args.k < length shards = rw (← c.self.view_is) at c.requires.shard in
    let is : c.shard_at.result.now ≡ shard_at shards c.args.k =
    rw (c.deref-3.ensures.value, c.index-at.ensures.value) at c.shard_at.ensures in
    let others : c.other_count-others.result
    ≡ count_in c.self.inside.roster (remove shards c.args.k) g (domain_of c.self.inside.roster c.args.a) =
    rw (c.deref-2.ensures.value, c.index-at.ensures.value) at c.other_count-others.ensures in
    let there : c.index.result.now ≡ get_or c.self.inside.groups.items g c.index.result.now =
    rw (c.from.ensures, is) at c.index.ensures in
    let group = there
    ∙ get_or_default c.self.inside.groups.items g c.index.result.now no_group
    (c.self.invariant.has_rows.group c.args.k inside) in
    let limit : c.from-2.result ≡ (slice_index_or c.self.inside.groups.items g no_group).limit =
    c.from-2.ensures ∙ ap (λ (r : GroupRow). r.limit) group in
    rw (← c.self.view_is) (rw (limit, others) (reached _ _))
