-- The table of last requests is right: its entry for a client is the client's last request, and the reply to that.
use Rattle.std.proofs.Common.{◌≡◌, ◌≢◌, ℕ, ◌+◌, ◌<◌, ◌≤◌, true, false, List, [], ◌∷◌, ◌++◌, refl, sym, ap, subst, ◌∙◌}
use Rattle.std.proofs.Common.{arith, ⊎_elim, append_assoc, append-nil}
use Rattle.std.specs.Prelude.{Bool, Option, Some, None, ◌==◌, filter, if◌then◌else◌}
use Rattle.std.specs.BTreeMap.{insert_entry, is_at}
use Rattle.std.specs.Map.{lookup}
use Rattle.std.specs.Ordering.{is_le, match_ordering, nat_cmp}
use Rattle.std.specs.declared.cmp.Ordering.{Ordering}
use Rattle.std.specs.declared.cmp.Ordering.TheVariants.{Less, Equal, Greater}
use Rattle.std.proofs.lemmas.Bool.{cases_eq, eq-eqb}
use Rattle.std.proofs.lemmas.Bool.Decides.{nat_tests}
use Rattle.sm_store.specs.declared.item.Item.{Item}
use Rattle.sm_store.specs.Clients.{Automaton, floor_of, last_of, AreNext, ComesNext, reply_in, state_after}
use Rattle.sm_store.specs.lemmas.Numbers.{floor-append, last-append, reply-append, unused}
use Rattle.sm_shard.specs.declared.replica.LastRequest.{LastRequest}
use Rattle.sm_shard.specs.Bases.{Lasts, kept_from, lasts_after, lasts_of, noted, put_in}
use Rattle.sm_shard.proofs.Replies.{reply_new, state-append}

pub is_at_own : (k : ℕ) → is_at (nat_cmp k) k ≡ true
is_at_own k = grind (arith, nat_tests)

pub is_at_apart : (a b : ℕ) → a ≢ b → is_at (nat_cmp a) b ≡ false
is_at_apart a b apart = grind (arith, nat_tests)

cmp_same : (a b : ℕ) → nat_cmp a b ≡ Equal → a ≡ b
cmp_same a b is = grind (arith, nat_tests)

cmp_less : (a b : ℕ) → nat_cmp a b ≡ Less → a < b
cmp_less a b is = grind (arith, nat_tests)

cmp_greater : (a b : ℕ) → nat_cmp a b ≡ Greater → b < a
cmp_greater a b is = grind (arith, nat_tests)

cmp_above : (a b : ℕ) → b < a → nat_cmp a b ≡ Greater
cmp_above a b above = grind (arith, nat_tests)

below_of : (floor k : ℕ) → is_le (nat_cmp floor k) ≡ false → k < floor
below_of floor k is = grind (arith, nat_tests)

module _ {X : Type 0} where
  -- the entry at a client's number
  abbrev pub found : ℕ → List (ℕ × X) → Option X
  found k entries = lookup (is_at (nat_cmp k)) entries

  own_by : (k : ℕ) (v : X) (e : ℕ × X) (es rest : List (ℕ × X)) (o : Ordering) → nat_cmp k e.0 ≡ o
      → found k rest ≡ Some v
      → found k (match_ordering o ((k, v) ∷ e ∷ es) ((e.0, v) ∷ es) (e ∷ rest)) ≡ Some v
  own_by k v e es rest Less is later = rw (is_at_own k) refl
  own_by k v e es rest Equal is later = rw is refl
  own_by k v e es rest Greater is later = rw is later

  -- an entry that is put is there
  pub found_own : (entries : List (ℕ × X)) (k : ℕ) (v : X) → found k (insert_entry nat_cmp entries k v) ≡ Some v
  found_own [] k v = rw (is_at_own k) refl
  found_own (e ∷ es) k v = own_by k v e es (insert_entry nat_cmp es k v) (nat_cmp k e.0) refl (found_own es k v)

  other_by : (q k : ℕ) (v : X) (e : ℕ × X) (es rest : List (ℕ × X)) (o : Ordering) → q ≢ k → nat_cmp k e.0 ≡ o
      → found q rest ≡ found q es
      → found q (match_ordering o ((k, v) ∷ e ∷ es) ((e.0, v) ∷ es) (e ∷ rest)) ≡ found q (e ∷ es)
  other_by q k v e es rest Less apart is later = rw (is_at_apart q k apart) refl
  other_by q k v e es rest Equal apart is later =
      let same = cmp_same k e.0 is in
      let no : is_at (nat_cmp q) e.0 ≡ false = is_at_apart q e.0 (λ other. apart (other ∙ sym same)) in
      rw no refl
  other_by q k v e es rest Greater apart is later = rw later refl

  -- all other entries stay
  pub found_other : (entries : List (ℕ × X)) (k : ℕ) (v : X) (q : ℕ) → q ≢ k
      → found q (insert_entry nat_cmp entries k v) ≡ found q entries
  found_other [] k v q apart = rw (is_at_apart q k apart) refl
  found_other (e ∷ es) k v q apart =
      other_by q k v e es (insert_entry nat_cmp es k v) (nat_cmp k e.0) apart refl (found_other es k v q apart)

  -- the keys rise from this number on
  abbrev pub AreRising : ℕ → List (ℕ × X) → Type 0
  AreRising low [] = Unit {0}
  AreRising low (e ∷ es) = (low ≤ e.0) × AreRising (e.0 + 1) es

  rising_by : (low k : ℕ) (v : X) (e : ℕ × X) (es rest : List (ℕ × X)) (o : Ordering) → nat_cmp k e.0 ≡ o → low ≤ k
      → AreRising low (e ∷ es) → (e.0 < k → AreRising (e.0 + 1) rest)
      → AreRising low (match_ordering o ((k, v) ∷ e ∷ es) ((e.0, v) ∷ es) (e ∷ rest))
  rising_by low k v e es rest Less is below rising later =
      let less = cmp_less k e.0 is in (below, (omega arith, rising.1))
  rising_by low k v e es rest Equal is below rising later = (rising.0, rising.1)
  rising_by low k v e es rest Greater is below rising later = (rising.0, later (cmp_greater k e.0 is))

  pub rising_put : (low : ℕ) (entries : List (ℕ × X)) (k : ℕ) (v : X) → low ≤ k → AreRising low entries
      → AreRising low (insert_entry nat_cmp entries k v)
  rising_put low [] k v below rising = (below, tt)
  rising_put low (e ∷ es) k v below rising =
      rising_by low k v e es (insert_entry nat_cmp es k v) (nat_cmp k e.0) refl below rising
      (λ above. rising_put (e.0 + 1) es k v (omega arith) rising.1)

  rising_down : (high low : ℕ) (es : List (ℕ × X)) → low ≤ high → AreRising high es → AreRising low es
  rising_down high low [] below rising = tt
  rising_down high low (e ∷ es) below rising = let first = rising.0 in (omega arith, rising.1)

  rising_if : (b : Bool) (low : ℕ) (e : ℕ × X) (rest : List (ℕ × X)) → low ≤ e.0 → AreRising (e.0 + 1) rest
      → AreRising low (if b then e ∷ rest else rest)
  rising_if true low e rest below rising = (below, rising)
  rising_if false low e rest below rising = rising_down (e.0 + 1) low rest (omega arith) rising

  -- the entries from a number on still ascend
  rising_filter : (low floor : ℕ) (es : List (ℕ × X)) → AreRising low es
      → AreRising low (filter (λ e. is_le (nat_cmp floor e.0)) es)
  rising_filter low floor [] rising = tt
  rising_filter low floor (e ∷ es) rising =
      rising_if (is_le (nat_cmp floor e.0)) low e (filter (λ e. is_le (nat_cmp floor e.0)) es) rising.0
      (rising_filter (e.0 + 1) floor es rising.1)

  kept_by : (b : Bool) (floor q : ℕ) (e : ℕ × X) (es rest : List (ℕ × X)) → is_le (nat_cmp floor e.0) ≡ b
      → floor ≤ q → found q rest ≡ found q es → found q (if b then e ∷ rest else rest) ≡ found q (e ∷ es)
  kept_by true floor q e es rest is below later = rw later refl
  kept_by false floor q e es rest is below later =
      let under : e.0 < floor = below_of floor e.0 is in
      let no : is_at (nat_cmp q) e.0 ≡ false = is_at_apart q e.0 (λ same. let equal : q ≡ e.0 = same in omega arith) in
      rw no later

  -- an entry that is found from a number on is among those from there on
  found_filter : (floor q : ℕ) (es : List (ℕ × X)) → floor ≤ q
      → found q (filter (λ e. is_le (nat_cmp floor e.0)) es) ≡ found q es
  found_filter floor q [] below = refl
  found_filter floor q (e ∷ es) below =
      kept_by (is_le (nat_cmp floor e.0)) floor q e es (filter (λ e. is_le (nat_cmp floor e.0)) es) refl below
      (found_filter floor q es below)

  -- all keys are below this one
  abbrev AreBelow : List (ℕ × X) → ℕ → Type 0
  AreBelow [] k = Unit {0}
  AreBelow (e ∷ es) k = (e.0 < k) × AreBelow es k

  put_last : (entries : List (ℕ × X)) (k : ℕ) (v : X) → AreBelow entries k
      → insert_entry nat_cmp entries k v ≡ entries ++ (k, v) ∷ []
  put_last [] k v below = refl
  put_last (e ∷ es) k v below =
      ap (λ (o : Ordering). match_ordering o ((k, v) ∷ e ∷ es) ((e.0, v) ∷ es) (e ∷ insert_entry nat_cmp es k v))
      (cmp_above k e.0 below.0)
      ∙ ap (λ (rest : List (ℕ × X)). e ∷ rest) (put_last es k v below.1)

  below_more : (entries : List (ℕ × X)) (k q : ℕ) (v : X) → AreBelow entries k → k < q
      → AreBelow (entries ++ (k, v) ∷ []) q
  below_more [] k q v below above = (above, tt)
  below_more (e ∷ es) k q v below above = let first = below.0 in (omega arith, below_more es k q v below.1 above)

  below_up : (entries : List (ℕ × X)) (low k : ℕ) → AreBelow entries low → low ≤ k → AreBelow entries k
  below_up [] low k below up = tt
  below_up (e ∷ es) low k below up = let first = below.0 in (omega arith, below_up es low k below.1 up)

module _ {R : Type 0} where
  put_rising : (entries lasts : Lasts R) (low : ℕ) → AreBelow entries low → AreRising low lasts
      → put_in entries lasts ≡ entries ++ lasts
  put_rising entries [] low below rising = sym (append-nil entries)
  put_rising entries (last ∷ lasts) low below rising =
      let less : AreBelow entries last.0 = below_up entries low last.0 below rising.0 in
      ap (λ (e : Lasts R). put_in e lasts) (put_last entries last.0 last.1 less)
      ∙ put_rising (entries ++ (last.0, last.1) ∷ []) lasts (last.0 + 1)
      (below_more entries last.0 (last.0 + 1) last.1 less (omega arith)) rising.1
      ∙ append_assoc entries (last ∷ []) lasts

  -- entries that rise are put as they are
  pub put_all : (lasts : Lasts R) → AreRising 0 lasts → put_in [] lasts ≡ lasts
  put_all lasts rising = put_rising [] lasts 0 tt rising

module _ {R : Type 0} where
  found_if : (b : Bool) (q : ℕ) (lasts kept : Lasts R) → found q kept ≡ found q lasts
      → found q (if b then lasts else kept) ≡ found q lasts
  found_if true q lasts kept is = refl
  found_if false q lasts kept is = is

  -- forgetting loses no client from the number on
  pub found_kept : (floor q : ℕ) (lasts : Lasts R) → floor ≤ q → found q (kept_from floor lasts) ≡ found q lasts
  found_kept floor q lasts below =
      found_if (floor == 0) q lasts (filter (λ last. is_le (nat_cmp floor last.0)) lasts)
      (found_filter floor q lasts below)

  rising_kept_if : (b : Bool) (lasts kept : Lasts R) → AreRising 0 lasts → AreRising 0 kept
      → AreRising 0 (if b then lasts else kept)
  rising_kept_if true lasts kept all rest = all
  rising_kept_if false lasts kept all rest = rest

  pub rising_kept : (floor : ℕ) (lasts : Lasts R) → AreRising 0 lasts → AreRising 0 (kept_from floor lasts)
  rising_kept floor lasts rising =
      rising_kept_if (floor == 0) lasts (filter (λ last. is_le (nat_cmp floor last.0)) lasts) rising
      (rising_filter 0 floor lasts rising)

module _ {M Q R : Type 0} (service : Automaton M Q R) where
  -- this is the client's last request among these, and its reply
  abbrev pub IsLast : List (Item Q) → ℕ → Option (LastRequest R) → Type 0
  IsLast items client None = last_of client items ≡ 0
  IsLast items client (Some last) =
      (last_of client items ≡ last.number)
      × (reply_in service service.start items client last.number ≡ Some last.reply)

  last_one : (client : ℕ) (item : Item Q) → item.client ≢ client → last_of client (item ∷ []) ≡ 0
  last_one client item apart = let no : (item.client == client) ≡ false = grind (arith, nat_tests) in rw no refl

  last_own : (item : Item Q) → last_of item.client (item ∷ []) ≡ item.number
  last_own item = rw (eq-eqb item.client item.client refl) (omega arith)

  last_other : (before : List (Item Q)) (item : Item Q) (client : ℕ) (last : Option (LastRequest R))
      → item.client ≢ client → IsLast before client last → IsLast (before ++ item ∷ []) client last
  last_other before item client None apart is =
      let both = last-append client before (item ∷ []) in let one = last_one client item apart in omega arith
  last_other before item client (Some last) apart is =
      let both = last-append client before (item ∷ []) in let one = last_one client item apart in
      let n = is.0 in
      (omega arith, reply-append service service.start before (item ∷ []) client last.number last.reply is.1)

  noted_last : (before : List (Item Q)) (item : Item Q) (lasts : Lasts R)
      → ((client : ℕ) → floor_of before ≤ client → IsLast before client (found client lasts)) → ComesNext before item
      → (client : ℕ) → floor_of (before ++ item ∷ []) ≤ client → IsLast (before ++ item ∷ []) client
      (found client (noted item (service.reply (state_after service service.start before) item.request) lasts))
  noted_last before item lasts are next client below =
      let answer = service.reply (state_after service service.start before) item.request in
      let last : LastRequest R = record { number = item.number; reply = answer } in
      let put = insert_entry nat_cmp lasts item.client last in
      let floors = floor-append before (item ∷ []) in
      let kept : item.forgets ≤ client = omega arith in
      let was : floor_of before ≤ client = omega arith in
      subst (IsLast (before ++ item ∷ []) client) (sym (found_kept item.forgets client put kept))
      (⊎_elim
      (λ (same : item.client ≡ client).
      let both = last-append item.client before (item ∷ []) in
      let mine = last_own item in
      let above = next.above in
      let newest : last_of item.client (before ++ item ∷ []) ≡ item.number = omega arith in
      subst (λ (k : ℕ). IsLast (before ++ item ∷ []) k (found k put)) same
      (subst (IsLast (before ++ item ∷ []) item.client) (sym (found_own lasts item.client last))
      (newest, reply_new service service.start before item (unused item.client item.number before above))))
      (λ (apart : item.client ≢ client).
      subst (IsLast (before ++ item ∷ []) client)
      (sym (found_other lasts item.client last client (λ same. apart (sym same))))
      (last_other before item client (found client lasts) apart (are client was)))
      (cases_eq item.client client))

  lasts_hold : (before items : List (Item Q)) (lasts : Lasts R)
      → ((client : ℕ) → floor_of before ≤ client → IsLast before client (found client lasts)) → AreNext before items
      → (client : ℕ) → floor_of (before ++ items) ≤ client → IsLast (before ++ items) client
      (found client (lasts_after service (state_after service service.start before) lasts items))
  lasts_hold before [] lasts are next client below =
      subst (λ (list : List (Item Q)). IsLast list client (found client lasts)) (sym (append-nil before))
      (are client (subst (λ (list : List (Item Q)). floor_of list ≤ client) (append-nil before) below))
  lasts_hold before (item ∷ items) lasts are next client below =
      let state = state_after service service.start before in
      let more = noted item (service.reply state item.request) lasts in
      subst (λ (list : List (Item Q)). IsLast list client (found client
      (lasts_after service (service.after state item.request) more items))) (append_assoc before (item ∷ []) items)
      (subst (λ (s : M). IsLast ((before ++ item ∷ []) ++ items) client (found client
      (lasts_after service s more items))) (state-append service service.start before item)
      (lasts_hold (before ++ item ∷ []) items more (noted_last before item lasts are next.0) next.1 client
      (subst (λ (list : List (Item Q)). floor_of list ≤ client) (sym (append_assoc before (item ∷ []) items)) below)))

  -- the table has the last request of each client that isn't forgotten
  pub lasts_are : (items : List (Item Q)) → AreNext [] items → (client : ℕ) → floor_of items ≤ client
      → IsLast items client (found client (lasts_of service items))
  lasts_are items next client below = lasts_hold [] items [] (λ _ _. refl) next client below

  pub lasts-append : (state : M) (lasts : Lasts R) (items : List (Item Q)) (item : Item Q)
      → lasts_after service state lasts (items ++ item ∷ [])
      ≡ noted item (service.reply (state_after service state items) item.request)
      (lasts_after service state lasts items)
  lasts-append state lasts [] item = refl
  lasts-append state lasts (x ∷ items) item =
      lasts-append (service.after state x.request) (noted x (service.reply state x.request) lasts) items item

  rising_after : (state : M) (lasts : Lasts R) (items : List (Item Q)) → AreRising 0 lasts
      → AreRising 0 (lasts_after service state lasts items)
  rising_after state lasts [] rising = rising
  rising_after state lasts (item ∷ items) rising =
      rising_after (service.after state item.request) (noted item (service.reply state item.request) lasts) items
      (rising_kept item.forgets (insert_entry nat_cmp lasts item.client
      (record { number = item.number; reply = service.reply state item.request }))
      (rising_put 0 lasts item.client (record { number = item.number; reply = service.reply state item.request })
      (omega arith) rising))

  pub rising_of : (items : List (Item Q)) → AreRising 0 (lasts_of service items)
  rising_of items = rising_after service.start [] items tt
