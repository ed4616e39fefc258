-- Each run is linearizable.
use Rattle.std.proofs.Common.{◌≡◌, ℕ, List, [], ◌∷◌, ◌++◌, length, refl, sym, ap, subst, ◌∙◌, ⊎_elim, arith}
use Rattle.std.specs.Prelude.{IsTrue, Some, ◌==◌}
use Rattle.std.specs.List.{AllByRecursion}
use Rattle.std.proofs.lemmas.Bool.{and_parts, eqb-true}
use Rattle.sm_store.specs.declared.item.Item.{Item}
use Rattle.sm_store.specs.Clients.{Automaton, ReadsLeave, is_from, reply_in}
use Rattle.sm_store.specs.Store.{made}
use Rattle.sm_store.specs.Deeds.{Charter}
use Rattle.sm_store.specs.System.{Ask, Claim, Replies, Overtaken, Reads, Event, Comes, Sends, Reaches, Claims}
use Rattle.sm_store.specs.System.{IsAmong, IsSo, MightHappen, WasAsked, system_after}
use Rattle.sm_store.specs.Linear.{AreAskedFor, AreFresh, Cut, DidAsk, HasCome, HasPlace, HavePlaces, IsLinear}
use Rattle.sm_store.specs.Linear.{IsOnlyAsk, IsOwn, IsUntold, Operation}
use Rattle.sm_store.specs.Linear.{Query, StandsBefore, Update, IsTold, of_shard, operation_shard}
use Rattle.sm_store.specs.lemmas.Logs.{all_among, all_map}
use Rattle.sm_store.proofs.Orders.{all_of, among_either, among_front, among_of, before_of, found_place, thread}
use Rattle.sm_store.proofs.Runs.{sound}
use Rattle.sm_store.proofs.Told.{HasRead, HaveReads, InRun, Told, all_reads}
use Rattle.sm_store.proofs.Woven.{asked_then, goes_on, read_woven, shift, woven, woven_answered, woven_came}
use Rattle.sm_store.proofs.Woven.{woven_updates}

-- the request that is made is the only one that its client asked under its number
own_ask : {Q : Type 0} (asked : List (Ask Q)) (shard client number : ℕ) (item : Item Q) (request : Q)
    → IsTrue (is_from client number item) → DidAsk asked shard item.client item.number item.request
    → IsOnlyAsk asked shard client number request → item.request ≡ request
own_ask asked shard client number item request from did only =
    let same = and_parts (item.client == client) (item.number == number) from in
    let was : WasAsked asked shard client number did.0 = record {
      among = did.1.among;
      shard_is = did.1.shard_is;
      client_is = did.1.client_is ∙ eqb-true item.client client same.0;
      number_is = did.1.number_is ∙ eqb-true item.number number same.1;
    } in
    sym did.2 ∙ only did.0 was

module _ {Q R S : Type 0} (P : Type 0) (service : Automaton S Q R) where
  -- a fact about every operation that says nothing
  abbrev Any : Operation Q R → Type 0
  Any one = Unit {0}

  all_any : (order : List (Operation Q R)) → AllByRecursion Any order
  all_any [] = tt
  all_any (one ∷ order) = (tt, all_any order)

  -- a reply that a client was told has its place among the requests made by then
  reply_place : (charter : Charter Q P) (events later moment : List (Event Q P R)) → events ≡ later ++ moment
      → MightHappen service charter events → (reads : List (Told P service))
      → AllByRecursion (InRun P service events) reads
      → AllByRecursion (HasCome events) (woven P service reads events) → (shard client number told : ℕ) (request : Q)
      (reply : R) → reply_in service service.start (made shard (system_after moment).log) client number ≡ Some reply
      → HasPlace (system_after events).asked (woven P service reads events) told
      (Replies shard client number request reply)
  reply_place charter events later moment is might reads within came shard client number told request reply found =
      let here = woven P service reads moment in
      let one = found_place service service.start (of_shard shard here) client number reply
      (woven_answered P service events later moment is reads within shard)
      (subst (λ (items : List (Item Q)). reply_in service service.start items client number ≡ Some reply)
      (sym (woven_updates P service shard reads moment)) found) in
      let own : one.0 ≡ shard =
      (all_among (λ (op : Operation Q R). (operation_shard op ≡ shard) × Any op) (of_shard shard here)
      (Update one.0 one.1 reply) (all_of Any shard here (all_any here)) one.3).0 in
      let rest = goes_on P service charter later moment (subst (MightHappen service charter) is might) reads in
      let among : IsAmong (Update shard one.1 reply) (woven P service reads events) =
      subst (λ (k : ℕ). IsAmong (Update k one.1 reply) (woven P service reads events)) own
      (subst (λ (m : List (Event Q P R)). IsAmong (Update one.0 one.1 reply) (woven P service reads m)) (sym is)
      (subst (IsAmong (Update one.0 one.1 reply)) (sym rest.1)
      (among_front (Update one.0 one.1 reply) here rest.0
      (among_of shard (Update one.0 one.1 reply) here one.3)))) in
      let asked = all_among (HasCome events) (woven P service reads events) (Update shard one.1 reply) came among in (
        one.1,
        one.2,
        λ only. own_ask (system_after events).asked shard client number one.1 request one.2 asked only,
        among,
      )

  place_of : (charter : Charter Q P) (events later moment : List (Event Q P R)) → events ≡ later ++ moment
      → MightHappen service charter events → (reads : List (Told P service))
      → AllByRecursion (InRun P service events) reads
      → AllByRecursion (HasCome events) (woven P service reads events) → (told : ℕ) (claim : Claim Q R)
      → IsSo service (system_after moment).asked (system_after moment).log claim
      → HasRead P service reads told claim
      → HasPlace (system_after events).asked (woven P service reads events) told claim
  place_of charter events later moment is might reads within came told (Replies shard client number request reply) so
      has =
      reply_place charter events later moment is might reads within came shard client number told request reply so
  place_of charter events later moment is might reads within came told (Overtaken shard client number) so has = tt
  place_of charter events later moment is might reads within came told (Reads shard client number request reply text) so
      has =
      let one = has.0 in
      let order = woven P service reads events in
      subst (λ (t : ℕ). IsAmong (Query shard client number request reply text t) order) has.2.told_is
      (subst (λ (b : List ℕ). IsAmong (Query shard client number request reply b one.told) order) has.2.text_is
      (subst (λ (r : R). IsAmong (Query shard client number request r one.text one.told) order) has.2.reply_is
      (subst (λ (q : Q). IsAmong (Query shard client number q one.reply one.text one.told) order) has.2.request_is
      (subst (λ (n : ℕ). IsAmong (Query shard client n one.request one.reply one.text one.told) order)
      has.2.number_is
      (subst (λ (c : ℕ). IsAmong (Query shard c one.number one.request one.reply one.text one.told) order)
      has.2.client_is
      (subst (λ (s : ℕ). IsAmong (Query s one.client one.number one.request one.reply one.text one.told) order)
      has.2.shard_is
      (read_woven P service charter events might reads within one has.1)))))))

  places_of : (charter : Charter Q P) (events later moment : List (Event Q P R)) → events ≡ later ++ moment
      → MightHappen service charter events → MightHappen service charter moment
      → (reads : List (Told P service)) → AllByRecursion (InRun P service events) reads
      → AllByRecursion (HasCome events) (woven P service reads events)
      → HaveReads P service reads moment → HavePlaces (system_after events).asked (woven P service reads events) moment
  places_of charter events later [] is might did reads within came have = tt
  places_of charter events later (Claims claim ∷ earlier) is might did reads within came have =
      let before = shift P service (Claims claim) events later earlier is in (
        place_of charter events (later ++ Claims claim ∷ []) earlier before might reads within came (length earlier)
            claim (sound service charter (Claims claim ∷ earlier) did).claims.0 have.0,
        places_of charter events (later ++ Claims claim ∷ []) earlier before might did.1 reads within came have.1,
      )
  places_of charter events later (Comes at client number request ∷ earlier) is might did reads within came have =
      places_of charter events (later ++ Comes at client number request ∷ []) earlier
      (shift P service (Comes at client number request) events later earlier is) might did.1 reads within came have
  places_of charter events later (Sends txn ∷ earlier) is might did reads within came have =
      places_of charter events (later ++ Sends txn ∷ []) earlier
      (shift P service (Sends txn) events later earlier is) might did.1 reads within came have
  places_of charter events later (Reaches which revision ∷ earlier) is might did reads within came have =
      places_of charter events (later ++ Reaches which revision ∷ []) earlier
      (shift P service (Reaches which revision) events later earlier is) might did.1 reads within came have

  -- the order keeps to time
  cut_at : (charter : Charter Q P) (events later moment : List (Event Q P R)) → events ≡ later ++ moment
      → MightHappen service charter events → AreAskedFor events → (reads : List (Told P service))
      → AllByRecursion (InRun P service events) reads → Cut (woven P service reads events) moment
  cut_at charter events later moment is might asked reads within =
      let rest = goes_on P service charter later moment (subst (MightHappen service charter) is might) reads in
      record {
        front = woven P service reads moment;
        back = rest.0;
        is = ap (woven P service reads) is ∙ rest.1;
        came = woven_came P service events later moment is reads within
            (asked_then P service later moment (subst AreAskedFor is asked));
        untold = rest.2;
      }

  pub linear : (charter : Charter Q P) (events : List (Event Q P R)) → ReadsLeave service
      → MightHappen service charter events → AreAskedFor events → IsLinear service events
  linear charter events leave might asked =
      let all = all_reads P service charter events might in
      let came = woven_came P service events [] events refl all.reads all.within asked in
      record {
        order = woven P service all.reads events;
        answered = λ shard. thread service leave service.start (of_shard shard (woven P service all.reads events))
            (woven_answered P service events [] events refl all.reads all.within shard);
        updates = λ shard. woven_updates P service shard all.reads events;
        places = places_of charter events [] events refl might might all.reads all.within came all.have;
        came = came;
        in_time = λ later moment is. cut_at charter events later moment is might asked all.reads all.within;
      }

-- an operation that a client was told of before a request came is before that request in the order
module _ {Q P R : Type 0} where
  not_both : (moment : List (Event Q P R)) (op : Operation Q R) → IsTold moment op → IsUntold moment op → ⊥
  not_both moment (Update shard item reply) told untold = untold told.0 told.1 told.2
  not_both moment (Query shard client number request reply text at) told untold = omega arith

  pub told_first : (moment : List (Event Q P R)) (order : List (Operation Q R)) → Cut order moment
      → (one other : Operation Q R) → IsAmong one order → IsAmong other order
      → IsTold moment one → (HasCome moment other → ⊥) → StandsBefore one other order
  told_first moment order cut one other here there told new =
      before_of one other order cut.front cut.back cut.is
      (⊎_elim
      (λ (yes : IsAmong one cut.front). yes)
      (λ (no : IsAmong one cut.back). absurd (not_both moment one told
      (all_among (IsUntold moment) cut.back one cut.untold no)))
      (among_either one cut.front cut.back (subst (IsAmong one) cut.is here)))
      (⊎_elim
      (λ (no : IsAmong other cut.front). absurd (new
      (all_among (HasCome moment) cut.front other cut.came no)))
      (λ (yes : IsAmong other cut.back). yes)
      (among_either other cut.front cut.back (subst (IsAmong other) cut.is there)))

-- if numbers are fresh, each operation is its client's own
module _ {Q P R : Type 0} where
  is_own : (moment : List (Event Q P R)) → AreFresh (system_after moment).asked → (op : Operation Q R)
      → HasCome moment op → IsOwn (system_after moment).asked op
  is_own moment fresh (Update shard item reply) came =
      λ ask was. fresh shard item.client item.number ask came.0 was came.1 ∙ came.2
  is_own moment fresh (Query shard client number request reply text told) came =
      λ ask was. fresh shard client number ask came.0 was came.1 ∙ came.2

  pub all_own : (moment : List (Event Q P R)) (order : List (Operation Q R))
      → AllByRecursion (HasCome moment) order → AreFresh (system_after moment).asked
      → AllByRecursion (IsOwn (system_after moment).asked) order
  all_own moment order came fresh =
      all_map (HasCome moment) (IsOwn (system_after moment).asked) (is_own moment fresh) order came
