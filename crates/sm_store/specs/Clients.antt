-- A service, and a shard's requests by client: which number comes next, and the reply to each request.
use Rattle.std.specs.Prelude.{ℕ, Bool, IsTrue, Option, Some, None, ◌≡◌, ◌==◌, ◌&&◌, ◌<◌, ◌≤◌, ◌⊎◌, ◌+◌}
use Rattle.std.specs.Prelude.{List, [], ◌∷◌, ◌++◌, if◌then◌else◌, max}
use Rattle.sm_store.specs.declared.item.Item.{Item}

-- a service: the state from which it starts, the state after a request, the reply to a request, which requests only
-- read, the text that a client of a request that only reads gets beside the reply, and the bytes that encode a state
pub record Automaton (S Q R : Type 0) : Type 0 where
  pub start : S
  pub after : S → Q → S
  pub reply : S → Q → R
  pub reads : Q → Bool
  pub text : S → Q → List ℕ
  pub spelled : S → List ℕ

-- a request that only reads doesn't change a state
abbrev pub ReadsLeave : {S Q R : Type 0} → Automaton S Q R → Type 0
ReadsLeave {S = S} {Q = Q} service =
    (state : S) (request : Q) → IsTrue (service.reads request) → service.after state request ≡ state

-- the greatest number of a client's requests among these, or 0 if it has none
abbrev pub last_of : {Q : Type 0} → ℕ → List (Item Q) → ℕ
last_of client [] = 0
last_of client (item ∷ items) =
    if item.client == client then max item.number (last_of client items) else last_of client items

-- the number below which clients are forgotten after these
abbrev pub floor_of : {Q : Type 0} → List (Item Q) → ℕ
floor_of [] = 0
floor_of (item ∷ items) = max item.forgets (floor_of items)

-- its client isn't forgotten, and its number is greater than those of the client's requests before it
pub record ComesNext {Q : Type 0} (before : List (Item Q)) (item : Item Q) : Type 0 where
  pub known : floor_of before ≤ item.client
  pub above : last_of item.client before < item.number

-- each of the requests comes next after those before it
abbrev pub AreNext : {Q : Type 0} → List (Item Q) → List (Item Q) → Type 0
AreNext before [] = Unit {0}
AreNext before (item ∷ items) = ComesNext before item × AreNext (before ++ item ∷ []) items

-- the client's request of this number isn't made from here on, because a later one is made, or because the client is
-- forgotten
abbrev pub IsOver : {Q : Type 0} → ℕ → ℕ → List (Item Q) → Type 0
IsOver client number items = (number < last_of client items) ⊎ (client < floor_of items)

-- this is the client's request of this number
abbrev pub is_from : {Q : Type 0} → ℕ → ℕ → Item Q → Bool
is_from client number item = item.client == client && item.number == number

-- how often the client's request of this number is among these
abbrev pub times : {Q : Type 0} → ℕ → ℕ → List (Item Q) → ℕ
times client number [] = 0
times client number (item ∷ items) = (if is_from client number item then 1 else 0) + times client number items

-- the service's state after the requests, one after another
abbrev pub state_after : {S Q R : Type 0} → Automaton S Q R → S → List (Item Q) → S
state_after service state [] = state
state_after service state (item ∷ items) = state_after service (service.after state item.request) items

-- the service's reply to the client's request of this number, or none if the request isn't made
abbrev pub reply_in : {S Q R : Type 0} → Automaton S Q R → S → List (Item Q) → ℕ → ℕ → Option R
reply_in service state [] client number = None
reply_in service state (item ∷ items) client number =
    if is_from client number item then Some (service.reply state item.request)
    else reply_in service (service.after state item.request) items client number
