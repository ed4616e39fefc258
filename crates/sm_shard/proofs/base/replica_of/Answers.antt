use Rattle.std.proofs.Common.{◌≡◌, ℕ, ◌+◌, ◌++◌, ◌∷◌, [], List, take, ap, sym, ◌∙◌, Some}
use Rattle.std.proofs.lemmas.List.{take_all, take_more}
use Rattle.sm_store.specs.Clients.{floor_of, state_after}
use Rattle.sm_shard.specs.Bases.{Lasts, Part, floor_in, lasts_of, put_in}
use Rattle.sm_shard.proofs.Cuts.{floor_again, lasts_again, lasts_in, lasts_push, put-append, states_again, states_in}
use Rattle.sm_shard.proofs.Cuts.{states_push}
use Rattle.sm_shard.proofs.Lasts.{put_all, rising_of}
use Rattle.sm_shard.proofs.base.replica_of.Goals as goal

pub loop-part-preserved : goal.loop-part-preserved
loop-part-preserved g c =
    let part = c.part-item.result in
    let parts = c.args.parts.now in
    let index = c.loop-part.part-index in
    let front = take index parts in
    let grown : take (index + 1) parts ≡ front ++ part ∷ [] =
    take_more parts index part c.loop-part-test.true
    ∙ ap (λ (x : Part g.row.R.Denot). front ++ x ∷ []) (sym c.part-item.is) in
    record {
      state = c.in_ok-extend_from_slice.ensures.items
          ∙ ap (λ (list : List ℕ). list ++ c.state.result.now) c.loop-part.invariant.state
          ∙ ap (λ (list : List ℕ). states_in front ++ list) c.state.ensures
          ∙ sym (states_push front part)
          ∙ ap states_in (sym grown);
      lasts = c.in_ok-put_all.ensures
          ∙ ap (λ (e : Lasts g.row.R.Denot). put_in e c.lasts.result.now) c.loop-part.invariant.lasts
          ∙ ap (put_in (put_in [] (lasts_in front))) c.lasts.ensures
          ∙ sym (put-append [] (lasts_in front) part.lasts)
          ∙ ap (put_in []) (sym (lasts_push front part) ∙ ap lasts_in (sym grown));
    }

pub returns-in-Some : goal.returns-in-Some
returns-in-Some g c = λ items next is.
    let service = g.M.StoreMachine.service in
    let parts = c.args.parts.now in
    let index = c.loop-part.part-index in
    let spelled = service.spelled (state_after service service.start items) in
    let lasts = lasts_of service items in
    let floor = floor_of items in
    let all = take_all index parts c.loop-part-test.false ∙ is in
    let bytes : c.deref.result.now ≡ spelled =
    c.deref.ensures.value ∙ c.loop-part.invariant.state ∙ ap states_in all ∙ states_again floor spelled lasts in
    let loaded = c.in_ok-machine.ensures items bytes in
    let found : Some c.in-Some.machine ≡ Some (state_after service service.start items) =
    sym c.in-Some.is ∙ loaded in
    record {
      machine = cc;
      lasts = c.loop-part.invariant.lasts ∙ ap (put_in []) (ap lasts_in all ∙ lasts_again floor spelled lasts)
          ∙ put_all lasts (rising_of service items);
      floor = c.floor_in.ensures ∙ ap floor_in is ∙ floor_again floor spelled lasts;
      next = next;
    }
