-- Each step keeps the rule of a reply's channel.
use Rattle.std.proofs.Common.{◌≡◌, ℕ, zero, suc, List, [], ◌∷◌, ◌++◌, length, set, sym, refl, ◌∙◌, subst, ⊎_elim, arith}
use Rattle.std.proofs.Common.{rules}
use Rattle.std.specs.Prelude.{Option, Some, None, IsSome}
use mathlib.Core.Option.{some, some-ne-none, some-injective}
use lib.ListN.{get_elem?}
use Rattle.std.proofs.lemmas.List.{length-set}
use Rattle.crossbeam_channel.specs.Fifo.{Pushes, Pops, Forks}
use Rattle.atomic_table.proofs.Lists.{at_set}
use Rattle.sm_body.specs.Service.{Meaning}
use Rattle.sm_server.specs.Answers.{AnswerValue}
use Rattle.sm_server.specs.Serving.{Sent}
use Rattle.sm_calls.specs.declared.reply.CallReply.{CallReply}
use Rattle.sm_calls.specs.Replies.{AllFit, CallValue, Fits, HoldsReplies}

fit_append : {T : Type 0} (Fit : T → Type 0) (replies : List T) (reply : T) → AllFit Fit replies → Fit reply
    → AllFit Fit (replies ++ reply ∷ [])
fit_append Fit [] reply fit last = (last, tt)
fit_append Fit (one ∷ replies) reply fit last = (fit.0, fit_append Fit replies reply fit.1 last)

module _ {Q R : Type 0} (service : Meaning Q R) where
  no_fit : (asked : Option (CallValue Q)) (replies : List (CallReply (AnswerValue Q R) (Sent Q)))
      → AllFit (Fits service None) replies → AllFit (Fits service asked) replies
  no_fit asked [] fit = tt
  no_fit asked (reply ∷ replies) fit = absurd fit.0

  pub begins : HoldsReplies service [] (None ∷ [])
  begins = record { asked = None; agree = begins_agree; fit = tt; alone = λ _. refl }
    where
      begins_agree : (pass : ℕ) (view : Option (CallValue Q)) → get_elem? (None ∷ []) pass ≡ some view → view ≡ None
      begins_agree zero view at = sym (some-injective None view at)
      begins_agree (suc pass) view at = absurd (some-ne-none view (sym at))

  pub sends : (room pass : ℕ) (known : Option (CallValue Q)) (reply : CallReply (AnswerValue Q R) (Sent Q))
      → Fits service known reply → Pushes (HoldsReplies service) room pass known reply (λ after. after ≡ known)
  sends room pass known reply fits replies views short holds at =
      let same : known ≡ holds.asked = holds.agree pass known at in (
        known,
        record {
          asked = holds.asked;
          agree =
              λ i view e. ⊎_elim (λ p. sym p.1 ∙ same) (λ p. holds.agree i view p.1) (at_set views pass i known view e);
          fit = fit_append (Fits service holds.asked) replies reply holds.fit
              (subst (λ asked. Fits service asked reply) same fits);
          alone = λ none. length-set views pass known ∙ holds.alone none;
        },
        refl,
      )

  pub receives : (pass : ℕ) (known : Option (CallValue Q))
      → Pops (HoldsReplies service) pass known (λ reply after. Fits service known reply)
  receives pass known reply replies views holds at =
      let same : known ≡ holds.asked = holds.agree pass known at in (
        known,
        record {
          asked = holds.asked;
          agree =
              λ i view e. ⊎_elim (λ p. sym p.1 ∙ same) (λ p. holds.agree i view p.1) (at_set views pass i known view e);
          fit = holds.fit.1;
          alone = λ none. length-set views pass known ∙ holds.alone none;
        },
        subst (λ asked. Fits service asked reply) (sym same) holds.fit.0,
      )

  learns_agree : (views : List (Option (CallValue Q))) (pass : ℕ) (known asked view : Option (CallValue Q)) (i : ℕ)
      → length views ≡ 1 → get_elem? views pass ≡ some known
      → get_elem? (set views pass asked ++ asked ∷ []) i ≡ some view → view ≡ asked
  learns_agree [] pass known asked view i one at e = absurd (omega arith)
  learns_agree (x ∷ []) zero known asked view zero one at e = sym (some-injective asked view e)
  learns_agree (x ∷ []) zero known asked view (suc zero) one at e = sym (some-injective asked view e)
  learns_agree (x ∷ []) zero known asked view (suc (suc i)) one at e = absurd (some-ne-none view (sym e))
  learns_agree (x ∷ []) (suc pass) known asked view i one at e = absurd (some-ne-none known (sym at))
  learns_agree (x ∷ y ∷ ys) pass known asked view i one at e = absurd (omega arith)

  never_none : (asked : Option (CallValue Q)) → IsSome asked → asked ≡ None → ⊥
  never_none None is none = search rules
  never_none (Some sent) is none = search rules

  pub learns : (pass : ℕ) (known asked : Option (CallValue Q)) → known ≡ None → IsSome asked
      → Forks (HoldsReplies service) pass known asked asked
  learns pass known asked blank is replies views holds at =
      let none : holds.asked ≡ None = sym (holds.agree pass known at) ∙ blank in
      record {
        asked = asked;
        agree = λ i view e. learns_agree views pass known asked view i (holds.alone none) at e;
        fit = no_fit asked replies (subst (λ call. AllFit (Fits service call) replies) none holds.fit);
        alone = λ e. absurd (never_none asked is e);
      }
