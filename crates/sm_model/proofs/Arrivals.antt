-- How the envelope in flight arrives, delivery by delivery.
use Rattle.std.proofs.Common.{◌≡◌, ◌<◌, ◌+◌, ◌-◌, arith, ℕ, zero, suc, true, false, ap, sym, subst, ◌∙◌, refl, Result}
use Rattle.sm_envelope.specs.declared.envelope.TheConstants.{MOST_HOPS}
use Rattle.sm_service.specs.declared.reply.Reply.{Reply}
use Rattle.sm_service.specs.declared.request.Request.{Request}
use Rattle.sm_table.specs.declared.step.Step.TheVariants.{Deliver}
use Rattle.sm_table.specs.declared.world_answer.WorldAnswer.{WorldAnswer}
use Rattle.sm_table.specs.declared.world_fault.WorldFault.{WorldFault}
use Rattle.sm_table.specs.Standing.{Follows, StandsFor, WorldView}
use Rattle.sm_table.specs.World.{WorldState}
use Rattle.sm_model.specs.Calls.{Stepped, after_hops, is_forwarded, stepped}
use Rattle.sm_model.specs.Sessions.{Arrives, Steps}

-- after this many hops the envelope hasn't arrived yet: it must still arrive as it would from the world in the
-- beginning
abbrev pub IsOnItsWay : WorldView Request → ℕ → WorldView Request → Type 0
IsOnItsWay first hops now =
    (w : WorldState Request) → StandsFor first w
    → (v : WorldState Request) × StandsFor now v × (after_hops MOST_HOPS w ≡ after_hops (MOST_HOPS - hops) v)

pub there_after : (left : ℕ) (v : WorldState Request) → is_forwarded (stepped v (Deliver 0)).0 ≡ false
    → after_hops left v ≡ stepped v (Deliver 0)
there_after zero v stays = refl
there_after (suc left) v stays = rw stays refl

-- the delivery was the last one
pub arrives_now : (first before after : WorldView Request) (hops : ℕ) (result : Result (WorldAnswer Reply) WorldFault)
    → IsOnItsWay first hops before → Steps before (Deliver 0) result after → is_forwarded result ≡ false
    → Arrives first result after
arrives_now first before after hops result way delivers stays = λ w stands.
    let here = way w stands in
    let went = delivers here.0 here.1 in
    let there = subst (λ (r : Result (WorldAnswer Reply) WorldFault). is_forwarded r ≡ false) went.answered stays in
    subst (λ (s : Stepped). Follows after result s) (sym (here.2 ∙ there_after (MOST_HOPS - hops) here.0 there)) went

-- no hop is left
pub arrives_last : (first before after : WorldView Request) (hops : ℕ) (result : Result (WorldAnswer Reply) WorldFault)
    → IsOnItsWay first hops before → hops ≡ MOST_HOPS → Steps before (Deliver 0) result after
    → Arrives first result after
arrives_last first before after hops result way all delivers = λ w stands.
    let here = way w stands in
    subst (λ (s : Stepped). Follows after result s) (sym (here.2 ∙ ap (λ n. after_hops (MOST_HOPS - n) here.0) all))
    (delivers here.0 here.1)

goes_on : (left : ℕ) (v : WorldState Request) → is_forwarded (stepped v (Deliver 0)).0 ≡ true
    → after_hops (suc left) v ≡ after_hops left (stepped v (Deliver 0)).1
goes_on left v goes = rw goes refl

-- the envelope was forwarded
pub on_its_way : (first before after : WorldView Request) (hops : ℕ) (result : Result (WorldAnswer Reply) WorldFault)
    → IsOnItsWay first hops before → hops < MOST_HOPS → Steps before (Deliver 0) result after
    → is_forwarded result ≡ true → IsOnItsWay first (hops + 1) after
on_its_way first before after hops result way some delivers goes = λ w stands.
    let here = way w stands in
    let v = here.0 in
    let went = delivers v here.1 in
    let there = subst (λ (r : Result (WorldAnswer Reply) WorldFault). is_forwarded r ≡ true) went.answered goes in
    let fewer : MOST_HOPS - hops ≡ suc (MOST_HOPS - (hops + 1)) = omega (arith, some) in (
      (stepped v (Deliver 0)).1,
      went.stands,
      here.2 ∙ ap (λ n. after_hops n v) fewer ∙ goes_on (MOST_HOPS - (hops + 1)) v there,
    )

-- at first, the envelope is on its way
pub at_first : (first : WorldView Request) → IsOnItsWay first 0 first
at_first first = λ w stands. (w, stands, refl)
