use Rattle.std.proofs.Common.{◌≡◌, ◌<◌, length, true, false, refl, ◌∙◌, arith}
use Rattle.std.specs.Prelude.{Bool, Option, Some, None, is_none, is_some, not}
use Rattle.std.specs.Ordering.{is_le, nat_cmp}
use Rattle.std.specs.Map.Iter.{deref_pair}
use Rattle.std.proofs.lemmas.Bool.Decides.{nat_tests}
use Rattle.std.proofs.lemmas.Iterator.Consumers.{nth_from_yields_List, YieldsList-from_rest}
use Rattle.sm_shard.specs.Bases.{kept_from}
use Rattle.sm_shard.proofs.Crowds.{kept_by_place, kept_within, twice}
use Rattle.sm_shard.proofs.shard_state.are_kept_from.Goals as goal

none_of : {X : Type 0} (o : Option X) (b : Bool) → is_some o ≡ not b → b ≡ is_none o
none_of None true is = refl
none_of None false is = is
none_of (Some x) true is = is
none_of (Some x) false is = refl

pub returns-in-Some : goal.returns-in-Some
returns-in-Some g c =
    let at = nth_from_yields_List c.nth.result c.nth.new.self c.in-Some.most c.nth.ensures.ran
    (YieldsList-from_rest c.range.result refl) in
    none_of c.nth.result c.is_none.result c.is_none.ensures
    ∙ kept_by_place deref_pair c.nth.result c.range.result c.args.lasts.now.entries c.args.floor c.in-Some.most
    c.args.count _ (λ last. twice (is_le (nat_cmp c.args.floor last.0))) (c.range.ensures.between tt) at
    (omega (arith, c.in-Some.ensures, c.len.ensures.len))

pub returns-in-None : goal.returns-in-None
returns-in-None g c =
    let few = kept_within c.args.floor c.args.lasts.now.entries in
    let less : length (kept_from c.args.floor c.args.lasts.now.entries) < c.args.count =
    omega (arith, c.in-None.ensures, c.len.ensures.len, few) in
    grind (arith, nat_tests, less)
