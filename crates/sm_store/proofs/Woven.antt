-- The order: at each moment the requests that are made then, and after them the reads of that moment.
use Rattle.std.proofs.Common.{◌≡◌, ℕ, ◌≤◌, ◌<◌, ◌+◌, List, [], ◌∷◌, ◌++◌, length, refl, sym, ap, subst, ◌∙◌, arith}
use Rattle.std.proofs.Common.{⊎_elim, append_assoc, append-nil, length-append}
use Rattle.std.specs.Prelude.{◌==◌, if◌then◌else◌}
use Rattle.std.specs.List.{AllByRecursion}
use Rattle.std.proofs.lemmas.Bool.{eqb-true}
use Rattle.sm_store.specs.declared.item.Item.{Item}
use Rattle.sm_store.specs.Clients.{Automaton, state_after, times}
use Rattle.sm_store.specs.Store.{made}
use Rattle.sm_store.specs.Deeds.{Charter}
use Rattle.sm_store.specs.System.{Replies, Event, Comes, Sends, Reaches, Claims}
use Rattle.sm_store.specs.System.{IsAmong, IsSo, MightHappen, system_after}
use Rattle.sm_store.specs.Linear.{DidAsk, AreAskedFor, Operation, Update, Query, updates_of, HasCome}
use Rattle.sm_store.specs.Linear.{IsUntold, of_shard, operation_shard}
use Rattle.sm_store.specs.lemmas.Logs.{all_map, all_among, log_step}
use Rattle.sm_store.specs.lemmas.Numbers.{times-append}
use Rattle.sm_store.proofs.Asked.{ItemAsked, all_asked, come_later}
use Rattle.sm_store.proofs.Batches.{Grown, grown}
use Rattle.sm_store.proofs.Orders.{AreAnswered, IsReplyOf, after_append, all_append, all_back, all_if, all_of}
use Rattle.sm_store.proofs.Orders.{all_shards}
use Rattle.sm_store.proofs.Orders.{among_back, among_front, among_if, answered_append, eqb-refl, found_made, makes}
use Rattle.sm_store.proofs.Orders.{makes_answered, of_append, queries_answered, same_end, updates_append, updates_makes}
use Rattle.sm_store.proofs.Runs.{lawful, sound}
use Rattle.sm_store.proofs.Told.{InRun, Told, state_at}

module _ {Q R : Type 0} where
  -- the operation is a query
  abbrev IsQuery : Operation Q R → Type 0
  IsQuery (Update shard item reply) = ⊥
  IsQuery (Query shard client number request reply text told) = Unit {0}

  no_updates : (shard : ℕ) (order : List (Operation Q R))
      → AllByRecursion (λ one. (operation_shard one ≡ shard) × IsQuery one) order → updates_of order ≡ []
  no_updates shard [] all = refl
  no_updates shard (Update at item reply ∷ order) all = absurd all.0.1
  no_updates shard (Query at client number request reply text told ∷ order) all = no_updates shard order all.1

module _ {Q R S : Type 0} (P : Type 0) (service : Automaton S Q R) where
  abbrev made_at : List (Event Q P R) → ℕ → List (Item Q)
  made_at moment shard = made shard (system_after moment).log

  -- a read, as an operation
  abbrev query : Told P service → Operation Q R
  query one = Query one.shard one.client one.number one.request one.reply one.text one.told

  -- the reads of the moment with this many events
  abbrev looks : ℕ → List (Told P service) → List (Operation Q R)
  looks now [] = []
  looks now (one ∷ reads) = (if length one.early == now then query one ∷ [] else []) ++ looks now reads

  -- the operations that an event makes
  pub added : (event : Event Q P R) (earlier : List (Event Q P R))
      → Grown service (log_step (system_after earlier) event).0 (system_after earlier).log
  added event earlier = grown service (log_step (system_after earlier) event).0 (system_after earlier).log

  abbrev items_of : Event Q P R → List (Event Q P R) → ℕ → List (Item Q)
  items_of event earlier shard = (added event earlier).items shard

  goes : (event : Event Q P R) (earlier : List (Event Q P R)) (shard : ℕ)
      → made_at (event ∷ earlier) shard ≡ made_at earlier shard ++ items_of event earlier shard
  goes event earlier shard =
      ap (made shard) (log_step (system_after earlier) event).1 ∙ (added event earlier).grows shard

  abbrev pub next : List (Told P service) → Event Q P R → List (Event Q P R) → List (Operation Q R)
  next reads event earlier = (added event earlier).order ++ looks (length (event ∷ earlier)) reads

  abbrev pub woven : List (Told P service) → List (Event Q P R) → List (Operation Q R)
  woven reads [] = looks 0 reads
  woven reads (event ∷ earlier) = woven reads earlier ++ next reads event earlier

  -- a fact that holds of each read of a moment
  all_looks : (F : Operation Q R → Type 0) (now : ℕ) (reads : List (Told P service))
      → AllByRecursion (λ (one : Told P service). length one.early ≡ now → F (query one)) reads
      → AllByRecursion F (looks now reads)
  all_looks F now [] all = tt
  all_looks F now (one ∷ reads) all =
      all_append F (if length one.early == now then query one ∷ [] else []) (looks now reads)
      (all_if F (length one.early == now) (query one) (λ yes. all.0 (eqb-true (length one.early) now yes)))
      (all_looks F now reads all.1)

  every : (now : ℕ) (F : Operation Q R → Type 0) → ((one : Told P service) → F (query one))
      → (reads : List (Told P service))
      → AllByRecursion (λ (one : Told P service). length one.early ≡ now → F (query one)) reads
  every now F is [] = tt
  every now F is (one ∷ reads) = ((λ long. is one), every now F is reads)

  looks_none : (shard now : ℕ) (reads : List (Told P service)) → updates_of (of_shard shard (looks now reads)) ≡ []
  looks_none shard now reads =
      no_updates shard (of_shard shard (looks now reads))
      (all_of IsQuery shard (looks now reads) (all_looks IsQuery now reads (every now IsQuery (λ one. tt) reads)))

  -- a shard's part of the next operations
  next_of : (shard : ℕ) (reads : List (Told P service)) (event : Event Q P R) (earlier : List (Event Q P R))
      → of_shard shard (next reads event earlier)
      ≡ makes service shard (state_at P service earlier shard) (items_of event earlier shard)
      ++ of_shard shard (looks (length (event ∷ earlier)) reads)
  next_of shard reads event earlier =
      let read = looks (length (event ∷ earlier)) reads in
      of_append shard (added event earlier).order read
      ∙ ap (λ (list : List (Operation Q R)). list ++ of_shard shard read) ((added event earlier).is shard)

  next_updates : (shard : ℕ) (reads : List (Told P service)) (event : Event Q P R) (earlier : List (Event Q P R))
      → updates_of (of_shard shard (next reads event earlier)) ≡ items_of event earlier shard
  next_updates shard reads event earlier =
      let items = items_of event earlier shard in
      let state = state_at P service earlier shard in
      let read = of_shard shard (looks (length (event ∷ earlier)) reads) in
      ap updates_of (next_of shard reads event earlier)
      ∙ updates_append (makes service shard state items) read
      ∙ ap (λ (rest : List (Item Q)). updates_of (makes service shard state items) ++ rest)
      (looks_none shard (length (event ∷ earlier)) reads)
      ∙ append-nil (updates_of (makes service shard state items))
      ∙ updates_makes service shard state items

  pub woven_updates : (shard : ℕ) (reads : List (Told P service)) (moment : List (Event Q P R))
      → updates_of (of_shard shard (woven reads moment)) ≡ made_at moment shard
  woven_updates shard reads [] = looks_none shard 0 reads
  woven_updates shard reads (event ∷ earlier) =
      let before = of_shard shard (woven reads earlier) in
      ap updates_of (of_append shard (woven reads earlier) (next reads event earlier))
      ∙ updates_append before (of_shard shard (next reads event earlier))
      ∙ ap (λ (rest : List (Item Q)). updates_of before ++ rest) (next_updates shard reads event earlier)
      ∙ ap (λ (first : List (Item Q)). first ++ items_of event earlier shard) (woven_updates shard reads earlier)
      ∙ sym (goes event earlier shard)

  -- reads of this run, and of this moment
  at_moment : (events later moment : List (Event Q P R)) → events ≡ later ++ moment → (one : Told P service)
      → InRun P service events one → length one.early ≡ length moment → one.early ≡ moment
  at_moment events later moment is one within long =
      same_end within.0 later one.early moment (sym within.1 ∙ is) long

  looks_answered : (events later moment : List (Event Q P R)) → events ≡ later ++ moment
      → (reads : List (Told P service))
      → AllByRecursion (InRun P service events) reads → (shard : ℕ)
      → AreAnswered service (state_at P service moment shard) (of_shard shard (looks (length moment) reads))
  looks_answered events later moment is reads within shard =
      let states = state_at P service moment in
      queries_answered service states shard (of_shard shard (looks (length moment) reads))
      (all_of (IsReplyOf service states) shard (looks (length moment) reads)
      (all_looks (IsReplyOf service states) (length moment) reads
      (all_map (InRun P service events)
      (λ (one : Told P service). length one.early ≡ length moment → IsReplyOf service states (query one))
      (λ one run long. (
        one.only_reads,
        one.reply_is ∙ ap (λ (m : List (Event Q P R)). service.reply (state_at P service m one.shard) one.request)
            (at_moment events later moment is one run long),
        one.text_is ∙ ap (λ (m : List (Event Q P R)). service.text (state_at P service m one.shard) one.request)
            (at_moment events later moment is one run long),
      )) reads within)))

  pub shift : (event : Event Q P R) (events later moment : List (Event Q P R)) → events ≡ later ++ event ∷ moment
      → events ≡ (later ++ event ∷ []) ++ moment
  shift event events later moment is = is ∙ sym (append_assoc later (event ∷ []) moment)

  -- the next operations have their answers, from the state at that moment
  next_answered : (events later : List (Event Q P R)) (event : Event Q P R) (earlier : List (Event Q P R))
      → events ≡ later ++ event ∷ earlier → (reads : List (Told P service))
      → AllByRecursion (InRun P service events) reads → (shard : ℕ)
      → AreAnswered service (state_at P service earlier shard) (of_shard shard (next reads event earlier))
  next_answered events later event earlier is reads within shard =
      let items = items_of event earlier shard in
      let state = state_at P service earlier shard in
      let new = makes service shard state items in
      let read = of_shard shard (looks (length (event ∷ earlier)) reads) in
      let reached : state_at P service (event ∷ earlier) shard ≡ state_after service state (updates_of new) =
      ap (state_after service service.start) (goes event earlier shard)
      ∙ after_append service service.start (made_at earlier shard) items
      ∙ ap (state_after service state) (sym (updates_makes service shard state items)) in
      subst (AreAnswered service state) (sym (next_of shard reads event earlier))
      (answered_append service state new read (makes_answered service shard state items)
      (subst (λ (s : S). AreAnswered service s read) reached
      (looks_answered events later (event ∷ earlier) is reads within shard)))

  pub woven_answered : (events later moment : List (Event Q P R)) → events ≡ later ++ moment
      → (reads : List (Told P service)) → AllByRecursion (InRun P service events) reads → (shard : ℕ)
      → AreAnswered service service.start (of_shard shard (woven reads moment))
  woven_answered events later [] is reads within shard = looks_answered events later [] is reads within shard
  woven_answered events later (event ∷ earlier) is reads within shard =
      let before = of_shard shard (woven reads earlier) in
      let after = of_shard shard (next reads event earlier) in
      subst (AreAnswered service service.start)
      (sym (of_append shard (woven reads earlier) (next reads event earlier)))
      (answered_append service service.start before after
      (woven_answered events (later ++ event ∷ []) earlier (shift event events later earlier is) reads within shard)
      (subst (λ (items : List (Item Q)). AreAnswered service (state_after service service.start items) after)
      (sym (woven_updates shard reads earlier))
      (next_answered events later event earlier is reads within shard)))

  -- all requests in the order were asked by then
  makes_came : (moment : List (Event Q P R)) (shard : ℕ) (state : S) (items : List (Item Q))
      → AllByRecursion (ItemAsked (system_after moment).asked shard) items
      → AllByRecursion (HasCome moment) (makes service shard state items)
  makes_came moment shard state [] all = tt
  makes_came moment shard state (item ∷ items) all =
      (all.0, makes_came moment shard (service.after state item.request) items all.1)

  looks_came : (events later moment : List (Event Q P R)) → events ≡ later ++ moment → (reads : List (Told P service))
      → AllByRecursion (InRun P service events) reads
      → AllByRecursion (HasCome moment) (looks (length moment) reads)
  looks_came events later moment is reads within =
      all_looks (HasCome moment) (length moment) reads
      (all_map (InRun P service events)
      (λ (one : Told P service). length one.early ≡ length moment → HasCome moment (query one))
      (λ one run long. subst (λ (m : List (Event Q P R)). DidAsk (system_after m).asked one.shard one.client
      one.number one.request) (at_moment events later moment is one run long) one.asked) reads within)

  asked_before : (event : Event Q P R) (earlier : List (Event Q P R)) → AreAskedFor (event ∷ earlier)
      → AreAskedFor earlier
  asked_before (Comes at client number request) earlier asked = asked
  asked_before (Sends txn) earlier asked = asked.1
  asked_before (Reaches which revision) earlier asked = asked
  asked_before (Claims claim) earlier asked = asked

  pub asked_then : (later moment : List (Event Q P R)) → AreAskedFor (later ++ moment) → AreAskedFor moment
  asked_then [] moment asked = asked
  asked_then (event ∷ later) moment asked = asked_then later moment (asked_before event (later ++ moment) asked)

  -- the requests that an event makes were asked
  added_came : (event : Event Q P R) (earlier : List (Event Q P R)) → AreAskedFor (event ∷ earlier)
      → AllByRecursion (HasCome (event ∷ earlier)) (added event earlier).order
  added_came event earlier asked =
      let now = event ∷ earlier in
      all_shards (HasCome now) (added event earlier).order
      (λ shard. subst (AllByRecursion (HasCome now)) (sym ((added event earlier).is shard))
      (makes_came now shard (state_at P service earlier shard) (items_of event earlier shard)
      (all_back (ItemAsked (system_after now).asked shard) (made_at earlier shard) (items_of event earlier shard)
      (subst (AllByRecursion (ItemAsked (system_after now).asked shard)) (goes event earlier shard)
      ((all_asked now asked).made_were shard)))))

  pub woven_came : (events later moment : List (Event Q P R)) → events ≡ later ++ moment
      → (reads : List (Told P service)) → AllByRecursion (InRun P service events) reads → AreAskedFor moment
      → AllByRecursion (HasCome moment) (woven reads moment)
  woven_came events later [] is reads within asked = looks_came events later [] is reads within
  woven_came events later (event ∷ earlier) is reads within asked =
      let now = event ∷ earlier in
      all_append (HasCome now) (woven reads earlier) (next reads event earlier)
      (all_map (HasCome earlier) (HasCome now) (come_later event earlier) (woven reads earlier)
      (woven_came events (later ++ event ∷ []) earlier (shift event events later earlier is) reads within
      (asked_before event earlier asked)))
      (all_append (HasCome now) (added event earlier).order (looks (length now) reads)
      (added_came event earlier asked) (looks_came events later now is reads within))

  -- a request that a client was told of is made
  told_made : (charter : Charter Q P) (moment : List (Event Q P R)) → MightHappen service charter moment
      → (shard client number : ℕ) (request : Q) (reply : R)
      → IsAmong (Replies shard client number request reply) (system_after moment).claims
      → 0 < times client number (made_at moment shard)
  told_made charter moment might shard client number request reply among =
      found_made service service.start (made_at moment shard) client number reply
      (all_among (IsSo service (system_after moment).asked (system_after moment).log) (system_after moment).claims
      (Replies shard client number request reply) (sound service charter moment might).claims among)

  makes_untold : (moment : List (Event Q P R)) (shard : ℕ) (state : S) (items : List (Item Q))
      → ((client number : ℕ) → 0 < times client number items → (request : Q) (reply : R)
      → IsAmong (Replies shard client number request reply) (system_after moment).claims → ⊥)
      → AllByRecursion (IsUntold moment) (makes service shard state items)
  makes_untold moment shard state [] none = tt
  makes_untold moment shard state (item ∷ items) none = (
    none item.client item.number
        (rw (eqb-refl item.client) (rw (eqb-refl item.number) (omega arith))),
    makes_untold moment shard (service.after state item.request) items
        (λ client number more. none client number (omega arith)),
  )

  looks_untold : (now : ℕ) (moment : List (Event Q P R)) → length moment ≤ now → (reads : List (Told P service))
      → AllByRecursion (IsUntold moment) (looks now reads)
  looks_untold now moment below [] = tt
  looks_untold now moment below (one ∷ reads) =
      all_append (IsUntold moment) (if length one.early == now then query one ∷ [] else []) (looks now reads)
      (all_if (IsUntold moment) (length one.early == now) (query one)
      (λ yes. let long = eqb-true (length one.early) now yes in let since = one.since in omega arith))
      (looks_untold now moment below reads)

  made_later : (later moment : List (Event Q P R)) (shard : ℕ)
      → (more : List (Item Q)) × (made_at (later ++ moment) shard ≡ made_at moment shard ++ more)
  made_later [] moment shard = ([], sym (append-nil (made_at moment shard)))
  made_later (event ∷ later) moment shard =
      let rest = made_later later moment shard in
      let new = items_of event (later ++ moment) shard in (
        rest.0 ++ new,
        goes event (later ++ moment) shard ∙ ap (λ (items : List (Item Q)). items ++ new) rest.1
            ∙ append_assoc (made_at moment shard) rest.0 new,
      )

  did_before : (charter : Charter Q P) (later moment : List (Event Q P R))
      → MightHappen service charter (later ++ moment) → MightHappen service charter moment
  did_before charter [] moment might = might
  did_before charter (event ∷ later) moment might = did_before charter later moment might.1

  -- no client was told, at an earlier moment, of the requests that an event makes, because no request is made twice
  added_untold : (charter : Charter Q P) (event : Event Q P R) (later moment : List (Event Q P R))
      → MightHappen service charter (event ∷ later ++ moment)
      → AllByRecursion (IsUntold moment) (added event (later ++ moment)).order
  added_untold charter event later moment might =
      let old = later ++ moment in
      let now : List (Event Q P R) = event ∷ old in
      all_shards (IsUntold moment) (added event old).order
      (λ shard. subst (AllByRecursion (IsUntold moment)) (sym ((added event old).is shard))
      (makes_untold moment shard (state_at P service old shard) (items_of event old shard)
      (λ client number among request reply told.
      let new = items_of event old shard in
      let more = made_later later moment shard in
      let before = told_made charter moment (did_before charter later moment might.1) shard client number request reply
      told in
      let once = (lawful service charter now might).once shard client number in
      let all : times client number (made_at now shard)
      ≡ (times client number (made_at moment shard) + times client number more.0) + times client number new =
      ap (times client number) (goes event old shard)
      ∙ times-append client number (made_at old shard) new
      ∙ ap (λ (n : ℕ). n + times client number new)
      (ap (times client number) more.1 ∙ times-append client number (made_at moment shard) more.0) in
      absurd (omega (arith)))))

  -- the order goes on with operations of which no client was told by now
  abbrev pub GoesOn : List (Told P service) → List (Event Q P R) → List (Event Q P R) → Type 0
  GoesOn reads later moment = (back : List (Operation Q R))
      × (woven reads (later ++ moment) ≡ woven reads moment ++ back)
      × AllByRecursion (IsUntold moment) back

  pub goes_on : (charter : Charter Q P) (later moment : List (Event Q P R))
      → MightHappen service charter (later ++ moment) → (reads : List (Told P service)) → GoesOn reads later moment
  goes_on charter [] moment might reads = ([], sym (append-nil (woven reads moment)), tt)
  goes_on charter (event ∷ later) moment might reads =
      let rest = goes_on charter later moment might.1 reads in
      let old = later ++ moment in
      let now : List (Event Q P R) = event ∷ old in (
        rest.0 ++ next reads event old,
        ap (λ (order : List (Operation Q R)). order ++ next reads event old) rest.1
            ∙ append_assoc (woven reads moment) rest.0 (next reads event old),
        all_append (IsUntold moment) rest.0 (next reads event old) rest.2
            (all_append (IsUntold moment) (added event old).order (looks (length now) reads)
            (added_untold charter event later moment might)
            (looks_untold (length now) moment (omega (arith, length-append later moment)) reads)),
      )

  -- a read that a client was told has its place
  looks_among : (reads : List (Told P service)) (one : Told P service) → IsAmong one reads
      → IsAmong (query one) (looks (length one.early) reads)
  looks_among [] one among = absurd among
  looks_among (other ∷ reads) one among =
      ⊎_elim
      (λ (same : other ≡ one).
      subst (λ (o : Told P service). IsAmong (query o) (looks (length o.early) (other ∷ reads))) same
      (among_front (query other) (if length other.early == length other.early then query other ∷ [] else [])
      (looks (length other.early) reads)
      (among_if (length other.early == length other.early) (query other) (eqb-refl (length other.early)))))
      (λ (rest : IsAmong one reads).
      among_back (query one) (if length other.early == length one.early then query other ∷ [] else [])
      (looks (length one.early) reads) (looks_among reads one rest)) among

  looks_woven : (reads : List (Told P service)) (op : Operation Q R) (moment : List (Event Q P R))
      → IsAmong op (looks (length moment) reads) → IsAmong op (woven reads moment)
  looks_woven reads op [] among = among
  looks_woven reads op (event ∷ earlier) among =
      among_back op (woven reads earlier) (next reads event earlier)
      (among_back op (added event earlier).order (looks (length (event ∷ earlier)) reads) among)

  pub read_woven : (charter : Charter Q P) (events : List (Event Q P R)) → MightHappen service charter events
      → (reads : List (Told P service)) → AllByRecursion (InRun P service events) reads → (one : Told P service)
      → IsAmong one reads → IsAmong (query one) (woven reads events)
  read_woven charter events might reads within one among =
      let run = all_among (InRun P service events) reads one within among in
      let rest = goes_on charter run.0 one.early (subst (MightHappen service charter) run.1 might) reads in
      subst (λ (m : List (Event Q P R)). IsAmong (query one) (woven reads m)) (sym run.1)
      (subst (IsAmong (query one)) (sym rest.1)
      (among_front (query one) (woven reads one.early) rest.0
      (looks_woven reads (query one) one.early (looks_among reads one among))))
