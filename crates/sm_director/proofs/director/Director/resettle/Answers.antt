use Rattle.std.proofs.Common.{refl, sym, inl, inr}
use Rattle.sm_director.proofs.Refusals.{if_err, lacks_space, on_ok}
use Rattle.sm_director.proofs.director.Director.resettle.Goals as goal

pub returns-then-not-same_layout-clause-refused : goal.returns-then-not-same_layout-clause-refused
returns-then-not-same_layout-clause-refused c = record {
  control = c.in_ok-control.control.now;
  drafted = c.in_ok-drafted.drafted.now;
  stands = c.in_ok-control.ensures.stands;
  other_stands = c.in_ok-drafted.ensures.stands;
  because = inl (refl, λ same. c.if-not-same_layout.ensures.apart refl (sym same));
}

pub returns-in-Err-clause-refused : goal.returns-in-Err-clause-refused
returns-in-Err-clause-refused c = record {
  control = c.in_ok-control.control.now;
  drafted = c.in_ok-drafted.drafted.now;
  stands = c.in_ok-control.ensures.stands;
  other_stands = c.in_ok-drafted.ensures.stands;
  because = inr (sym c.in-Err.ensures);
}

pub returns-in-Ok-clause-sent : goal.returns-in-Ok-clause-sent
returns-in-Ok-clause-sent c =
    let control = c.in_ok-control.control.now in
    let drafted = c.in_ok-drafted.drafted.now in
    on_ok c.spell_resettling.result
    (λ spelled. record {
      control = control;
      drafted = drafted;
      stands = c.in_ok-control.ensures.stands;
      other_stands = c.in_ok-drafted.ensures.stands;
      layout = sym (c.if-not-same_layout.ensures.same refl);
      allowed = sym c.in-Ok.ensures;
      may_send = λ reading parts log settings right by knew read.
          c.settings_may_be_sent.ensures reading parts log control drafted settings right c.soundness.ensures.books by
          c.soundness-in-Ok.ensures.books c.soundness-in-Ok.ensures.caps knew read (sym c.in-Ok.ensures);
      spelled = spelled;
    }) c.spell_resettling.ensures.spelled

pub returns-in-Ok-clause-refused : goal.returns-in-Ok-clause-refused
returns-in-Ok-clause-refused c =
    if_err c.spell_resettling.result (λ fault room. lacks_space c.args.self.now c.args.other.now fault room)
    c.spell_resettling.ensures.refused
