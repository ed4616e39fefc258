use Rattle.std.proofs.Common.{◌≡◌, List, Some, inr, length, refl, subst}
use Rattle.std.specs.Prelude.{slice_get}
use Rattle.std.proofs.lemmas.Option.{slice_get_read}
use Rattle.sm_shard.specs.declared.replica.ReadReply.{ReadReply}
use Rattle.sm_texts.specs.declared.text_reply.TextReply.{TextReply}
use Rattle.sm_driver.proofs.text_in.Goals as goal

pub returns-in-Some-clause-told : goal.returns-in-Some-clause-told
returns-in-Some-clause-told c =
    let read = c.in-Some.ensures.lookup in
    λ done. (
      c.in-Some.read.now,
      subst (λ (l : List (ReadReply TextReply)). slice_get l c.args.at ≡ Some c.in-Some.read.now)
          c.deref.ensures.value (slice_get_read c.deref.result.now (length c.deref.result.now) c.args.at
          c.in-Some.read.now refl read.3.0 read.1),
      c.tell_read.ensures.told done,
    )

pub returns-in-Some-clause-refused : goal.returns-in-Some-clause-refused
returns-in-Some-clause-refused c =
    let read = c.in-Some.ensures.lookup in
    λ refused. inr (
      c.in-Some.read.now,
      subst (λ (l : List (ReadReply TextReply)). slice_get l c.args.at ≡ Some c.in-Some.read.now)
          c.deref.ensures.value (slice_get_read c.deref.result.now (length c.deref.result.now) c.args.at
          c.in-Some.read.now refl read.3.0 read.1),
      c.tell_read.ensures.refused refused,
    )
