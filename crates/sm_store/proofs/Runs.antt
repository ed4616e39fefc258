-- Every run is lawful.
use Rattle.std.proofs.Common.{◌≡◌, ◌<◌, ◌≤◌, ℕ, true, false, List, [], ◌∷◌, ◌++◌, length, refl, sym, ap, subst, ◌∙◌}
use Rattle.std.proofs.Common.{arith, ⊎_elim, inl, append_assoc, length-append}
use Rattle.std.specs.Prelude.{Option, Some, None, IfSome, ◌==◌, slice_get}
use Rattle.std.specs.List.{AllByRecursion, list_any}
use Rattle.std.proofs.lemmas.Bool.{and_parts, cases_Bool, cond_both, cond-true, cond-false, eqb-true}
use Rattle.sm_store.specs.declared.compare.Compare.{Compare}
use Rattle.sm_store.specs.declared.item.Item.{Item}
use Rattle.sm_store.specs.Clients.{Automaton, state_after, times}
use Rattle.sm_store.specs.Store.{Transaction, all_hold, head_key, last_revision, made, made_at, revision_of}
use Rattle.sm_store.specs.Deeds.{AreRight, Charter, IsHonest, MaySend, WasHonest, at}
use Rattle.sm_store.specs.System.{Ask, Claim, Replies, Overtaken, Reads, Event, Comes, Sends, Reaches, Claims, Carried}
use Rattle.sm_store.specs.System.{SentTransaction, System, IsLawful, IsReadSince, IsSo, May, MayClaim, MayRead}
use Rattle.sm_store.specs.System.{MightHappen}
use Rattle.sm_store.specs.System.{StaysOvertaken, extended, happens, leaves_trace, after_reaching, system_after}
use Rattle.sm_store.specs.lemmas.Growth.{made_next, send_grows, so_asked, so_grows}
use Rattle.sm_store.specs.lemmas.Logs.{GoesOnFrom, all_among, all_map, at_place, log_step}
use Rattle.sm_store.specs.lemmas.Heart.{stood_then}
use Rattle.sm_store.proofs.Once.{once, overtaken_grows}
use Rattle.sm_store.proofs.Right.{honest_is_right}
use Rattle.sm_store.specs.lemmas.Views.{made_view, rising_of_right}
use Rattle.sm_store.specs.lemmas.Whole.{whole}

module _ {Q P : Type 0} where
  -- each of the compares holds
  compare_held : (log : List (Transaction Q P)) (compares : List Compare) → all_hold log compares ≡ true
      → AllByRecursion (λ compare. revision_of compare.key log ≡ compare.revision) compares
  compare_held log [] held = tt
  compare_held log (compare ∷ compares) held =
      let parts = and_parts (revision_of compare.key log == compare.revision) (all_hold log compares) held in
      (eqb-true (revision_of compare.key log) compare.revision parts.0, compare_held log compares parts.1)

  -- a transaction that was sent may be sent, and was sent in the past
  pub record IsSendable (charter : Charter Q P) (log : List (Transaction Q P))
      (sent : SentTransaction Q P) : Type 0 where
    pub may : MaySend charter log sent.txn
    pub since : sent.since ≤ length log

  -- a transaction that held did so in the past, after it was sent
  pub record DidHold (log : List (Transaction Q P)) (held : Carried Q P) : Type 0 where
    pub later : List (Transaction Q P)
    pub is : log ≡ later ++ held.moment
    pub since : held.since ≤ length held.moment
    pub holds : all_hold held.moment held.txn.compares ≡ true

  sendable_grows : (charter : Charter Q P) (more log : List (Transaction Q P)) (sent : SentTransaction Q P)
      → IsSendable charter log sent
      → IsSendable charter (more ++ log) sent
  sendable_grows charter more log sent was = let since = was.since in record {
    may = send_grows charter more log sent.txn was.may;
    since = omega (arith, length-append more log);
  }

  held_grows : (more log : List (Transaction Q P)) (held : Carried Q P) → DidHold log held → DidHold (more ++ log) held
  held_grows more log held was = record {
    later = more ++ was.later;
    is = ap (λ (rest : List (Transaction Q P)). more ++ rest) was.is ∙ sym (append_assoc more was.later held.moment);
    since = was.since;
    holds = was.holds;
  }

  extended_grows : (charter : Charter Q P) (txn : Transaction Q P) (log : List (Transaction Q P))
      → WasHonest charter log txn → IsHonest charter log
      → (more : List (Transaction Q P)) × (extended txn log ≡ more ++ log) × IsHonest charter (extended txn log)
  extended_grows charter txn log one honest =
      cond_both (list_any (leaves_trace log) txn.writes) (txn ∷ log) log
      (λ (new : List (Transaction Q P)). (more : List (Transaction Q P)) × (new ≡ more ++ log) × IsHonest charter new)
      (λ _. (txn ∷ [], refl, (one, honest))) (λ _. ([], refl, honest))

module _ {Q P R S : Type 0} (service : Automaton S Q R) (charter : Charter Q P) where
  pub record IsSoundSystem (system : System Q P R) : Type 0 where
    pub honest : IsHonest charter system.log
    pub sent : AllByRecursion (IsSendable charter system.log) system.sent
    pub held : AllByRecursion (DidHold system.log) system.held
    pub claims : AllByRecursion (IsSo service system.asked system.log) system.claims

  grown : (system : System Q P R) (new more : List (Transaction Q P)) → new ≡ more ++ system.log → IsHonest charter new
      → IsSoundSystem system
      → IsSoundSystem (record {
        log = new;
        asked = system.asked;
        sent = system.sent;
        held = system.held;
        claims =
            system.claims;
      })
  grown system new more is honest sound = record {
    honest = honest;
    sent = all_map (IsSendable charter system.log) (IsSendable charter new)
        (λ one was. subst (λ (log : List (Transaction Q P)). IsSendable charter log one) (sym is)
        (sendable_grows charter more system.log one was))
        system.sent sound.sent;
    held = all_map (DidHold system.log) (DidHold new)
        (λ one was. subst (λ (log : List (Transaction Q P)). DidHold log one) (sym is)
        (held_grows more system.log one was))
        system.held sound.held;
    claims = all_map (IsSo service system.asked system.log) (IsSo service system.asked new)
        (λ one so. subst (λ (log : List (Transaction Q P)). IsSo service system.asked log one) (sym is)
        (so_grows service system.asked more system.log one so))
        system.claims sound.claims;
  }

  reached_sound : (system : System Q P R) (revision : ℕ) (found : Option (SentTransaction Q P))
      → IsSoundSystem system → last_revision system.log < revision
      → IfSome found (IsSendable charter system.log) → IsSoundSystem (after_reaching system revision found)
  reached_sound system revision None sound above may = sound
  reached_sound system revision (Some sent) sound above may =
      let txn = made_at revision sent.txn in
      let made_one : System Q P R = record {
        log = extended txn system.log;
        asked = system.asked;
        sent = system.sent;
        held = record { txn = sent.txn; since = sent.since; moment = system.log } ∷ system.held;
        claims = system.claims;
      } in
      ⊎_elim
      (λ (yes : all_hold system.log sent.txn.compares ≡ true).
      let one : WasHonest charter system.log txn = record {
        above = above;
        held = yes;
        sent = sent.txn;
        is = refl;
        may = may.may;
      } in
      let goes = extended_grows charter txn system.log one sound.honest in
      let old = grown system (extended txn system.log) goes.0 goes.1 goes.2 sound in
      let now : IsSoundSystem made_one = record {
        honest = goes.2;
        sent = old.sent;
        held = (record { later = goes.0; is = goes.1; since = may.since; holds = yes }, old.held);
        claims = old.claims;
      } in
      subst IsSoundSystem (sym (cond-true (all_hold system.log sent.txn.compares) made_one system yes)) now)
      (λ (no : all_hold system.log sent.txn.compares ≡ false).
      subst IsSoundSystem (sym (cond-false (all_hold system.log sent.txn.compares) made_one system no)) sound)
      (cases_Bool (all_hold system.log sent.txn.compares))

  read_so : (system : System Q P R) (shard client number : ℕ) (request : Q) (answer : R) (text : List ℕ)
      → IsSoundSystem system → MayRead service system shard client number request answer text
      → IsReadSince service system.asked system.log shard client number request answer text
  read_so system shard client number request answer text sound may =
      let did : DidHold system.log may.held =
      all_among (DidHold system.log) system.held may.held sound.held may.was_held in
      let sent_after = may.sent_after in
      let since = did.since in
      let now : revision_of (head_key shard) may.held.moment ≡ may.revision =
      all_among (λ (compare : Compare). revision_of compare.key may.held.moment ≡ compare.revision)
      may.held.txn.compares (at (head_key shard) may.revision)
      (compare_held may.held.moment may.held.txn.compares did.holds) may.compared in
      let items_are : made shard may.held.moment ≡ may.items =
      stood_then (made shard) (head_key shard) (made_view shard) system.log may.items may.revision
      (rising_of_right charter system.log (honest_is_right charter system.log sound.honest)) (inl refl) may.items_were
      did.later may.held.moment did.is now in
      record {
        ask = may.ask;
        was_asked = may.was_asked;
        request_is = may.request_is;
        only_reads = may.only_reads;
        later = did.later;
        past = may.held.moment;
        is = did.is;
        since = omega arith;
        answer_is =
            may.answer_is ∙ ap (λ (items : List (Item Q)). service.reply (state_after service service.start items)
            request) (sym items_are);
        text_is = may.text_is
            ∙ ap (λ (items : List (Item Q)). service.text (state_after service service.start items) request)
            (sym items_are);
      }

  claim_so : (system : System Q P R) (claim : Claim Q R) → IsSoundSystem system
      → MayClaim service system claim
      → IsSo service system.asked system.log claim
  claim_so system (Replies shard client number request answer) sound may = may
  claim_so system (Overtaken shard client number) sound may = may
  claim_so system (Reads shard client number request answer text) sound may =
      read_so system shard client number request answer text sound may

  pub sound_step : (system : System Q P R) (event : Event Q P R) → IsSoundSystem system
      → May service charter system event → IsSoundSystem (happens system event)
  sound_step system (Comes shard client number request) sound may =
      let new : Ask Q = record {
        shard = shard;
        client = client;
        number = number;
        request = request;
        since = length system.log;
      } in
      record {
        honest = sound.honest;
        sent = sound.sent;
        held = sound.held;
        claims = all_map (IsSo service system.asked system.log)
            (IsSo service (new ∷ system.asked) system.log)
            (so_asked service new system.asked system.log) system.claims sound.claims;
      }
  sound_step system (Sends txn) sound may =
      record {
        honest = sound.honest;
        sent = (record { may = may; since = omega arith }, sound.sent);
        held =
            sound.held;
        claims = sound.claims;
      }
  sound_step system (Reaches which revision) sound may =
      reached_sound system revision (slice_get system.sent which) sound may
      (at_place (IsSendable charter system.log) system.sent which sound.sent)
  sound_step system (Claims claim) sound may =
      record {
        honest = sound.honest;
        sent = sound.sent;
        held = sound.held;
        claims =
            (claim_so system claim sound may, sound.claims);
      }

  pub sound : (events : List (Event Q P R)) → MightHappen service charter events
      → IsSoundSystem (system_after events)
  sound [] might = record { honest = tt; sent = tt; held = tt; claims = tt }
  sound (event ∷ earlier) might = sound_step (system_after earlier) event
      (sound earlier might.1) might.0

  pub lawful_system : (system : System Q P R) → IsSoundSystem system → IsLawful service charter system
  lawful_system system sound =
      let right = honest_is_right charter system.log sound.honest in
      record {
        right = right;
        whole = λ shard. whole charter shard system.log right;
        once = λ shard client number. once client number (made shard system.log)
            (made_next charter shard system.log right);
        claims = sound.claims;
      }

  pub lawful : (events : List (Event Q P R)) → MightHappen service charter events
      → IsLawful service charter (system_after events)
  lawful events might = lawful_system (system_after events) (sound events might)

  log_grows : (later earlier : List (Event Q P R))
      → GoesOnFrom (system_after earlier).log
      (system_after (later ++ earlier))
  log_grows [] earlier = ([], refl)
  log_grows (event ∷ later) earlier =
      let rest = log_grows later earlier in
      let step = log_step (system_after (later ++ earlier)) event in (
        step.0 ++ rest.0,
        step.1 ∙ ap (λ (log : List (Transaction Q P)). step.0 ++ log) rest.1
            ∙ sym (append_assoc step.0 rest.0 (system_after earlier).log),
      )

  did_earlier : (later earlier : List (Event Q P R)) → MightHappen service charter (later ++ earlier)
      → MightHappen service charter earlier
  did_earlier [] earlier might = might
  did_earlier (event ∷ later) earlier might = did_earlier later earlier might.1

  stays_one : (before now : System Q P R) (more : List (Transaction Q P)) → now.log ≡ more ++ before.log
      → AreRight charter now.log → (claim : Claim Q R) → IsSo service before.asked before.log claim
      → StaysOvertaken before now claim
  stays_one before now more is right (Replies shard client number request answer) so = tt
  stays_one before now more is right (Overtaken shard client number) so =
      ap (λ (log : List (Transaction Q P)). times client number (made shard log)) is
      ∙ overtaken_grows charter shard client number more before.log (subst (AreRight charter) is right) so
  stays_one before now more is right (Reads shard client number request answer text) so = tt

  pub stays_overtaken : (later earlier : List (Event Q P R)) → MightHappen service charter (later ++ earlier)
      → AllByRecursion
      (StaysOvertaken (system_after earlier)
      (system_after (later ++ earlier)))
      (system_after earlier).claims
  stays_overtaken later earlier might =
      let before = system_after earlier in
      let now = system_after (later ++ earlier) in
      let grows = log_grows later earlier in
      all_map (IsSo service before.asked before.log) (StaysOvertaken before now)
      (stays_one before now grows.0 grows.1 (lawful (later ++ earlier) might).right)
      before.claims (sound earlier (did_earlier later earlier might)).claims
