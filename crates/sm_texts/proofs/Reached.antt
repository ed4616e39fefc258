-- The contents of the machine after any requests.
use Rattle.std.proofs.Common.{◌≡◌, ℕ, ◌^◌, ◌≤◌, Bool, true, false, cond, ltb, leb, eqb, List, [], ◌∷◌}
use Rattle.std.proofs.Common.{length, take, drop, ℤ, pos, negsuc, Option, Some, None, refl, sym, ◌∙◌, arith}
use Rattle.std.proofs.Common.{⊎_elim}
use Rattle.std.specs.Prelude.{FitsSigned, ◌||◌, ◌+ℤ◌}
use Rattle.std.specs.Int.{w64, from_be_bytes, cast_signed}
use Rattle.std.specs.List.{All, filter}
use Rattle.std.specs.Global.{Vec}
use Rattle.std.proofs.lemmas.Bool.{leb-true, cases_Bool, cond-false, ltb-false, ltb-true, or_parts}
use Rattle.std.proofs.lemmas.List.{length-take}
use Rattle.std.proofs.lemmas.List.Elements.{All-nil, All-cons, All-append, All-filter}
use Rattle.sm_ranges.specs.lemmas.Keyed as keyed
use Rattle.sm_ranges.specs.Keyed.{comes_after, comes_before}
use Rattle.sm_map.specs.KeyMap.{IsKeyMap, KeyPair, KeyValue, Text, Count, held_at, holding, key_of, without}
use Rattle.sm_service.specs.declared.counter_text.TheConstants.{MAX_TEXT}
use Rattle.sm_service.specs.declared.reply.Reply.{Reply}
use Rattle.sm_service.specs.declared.reply.Reply.TheVariants as replies
use Rattle.sm_service.specs.declared.request.Request.{Request}
use Rattle.sm_service.specs.declared.request.Request.TheVariants.{Get, Put, Append, Inc, Del, Scan}
use Rattle.sm_service.specs.Service as service
use Rattle.sm_store.specs.declared.item.Item.{Item}
use Rattle.sm_store.specs.Clients.{state_after}
use Rattle.sm_texts.specs.Saves.{texts_service}
use Rattle.sm_texts.specs.Texts.{amount_in, request_in, request_of_kind, texts_after}
use Rattle.sm_texts.proofs.Pairs.{FitsPair, FitsValue}

-- the pairs of a map that requests make
pub record IsHeld (pairs : List KeyPair) : Type 0 where
  pub order : IsKeyMap pairs
  pub fits : All FitsPair pairs

pub nothing_held : IsHeld []
nothing_held = record { order = λ i j d below within. absurd (omega arith); fits = All-nil FitsPair }

holding_held : (m : List KeyPair) (key : List ℕ) (value : KeyValue) → IsHeld m → length key ≤ 255 → FitsValue value
    → IsHeld (holding m key value)
holding_held m key value held short fits =
    let pair : KeyPair = record { key = key; value = value } in
    record {
      order = keyed.with_key_in_order key_of m key held.order pair refl;
      fits = All-append FitsPair (filter (comes_before key_of key) m) (pair ∷ filter (comes_after key_of key) m)
          (All-filter (comes_before key_of key) FitsPair m held.fits)
          (All-cons FitsPair pair (filter (comes_after key_of key) m) (record { key = short; value = fits })
          (All-filter (comes_after key_of key) FitsPair m held.fits));
    }

without_held : (m : List KeyPair) (key : List ℕ) → IsHeld m → IsHeld (without m key)
without_held m key held = record {
  order = keyed.without_key_in_order key_of m key held.order;
  fits = All-append FitsPair (filter (comes_before key_of key) m) (filter (comes_after key_of key) m)
      (All-filter (comes_before key_of key) FitsPair m held.fits)
      (All-filter (comes_after key_of key) FitsPair m held.fits);
}

-- a number within the bounds fits
is_i64_fits : (n : ℤ) → service.is_i64 n ≡ true → FitsSigned w64 n
is_i64_fits (pos k) e = grind arith
is_i64_fits (negsuc k) e = grind arith

abbrev FitsText : Reply → List ℕ → Type 0
FitsText reply text = reply ≡ replies.Done → length text ≤ MAX_TEXT

long_done : {P : Type 0} → replies.TooLong ≡ replies.Done → P
long_done e = absurd cc

within_fits : (text : List ℕ) → FitsText (cond (leb (length text) MAX_TEXT) replies.Done replies.TooLong) text
within_fits text e =
    ⊎_elim (λ (yes : leb (length text) MAX_TEXT ≡ true). leb-true (length text) MAX_TEXT yes)
    (λ (no : leb (length text) MAX_TEXT ≡ false).
    long_done (sym (cond-false _ replies.Done replies.TooLong no) ∙ e))
    (cases_Bool (leb (length text) MAX_TEXT))

text_fits : (held : Option KeyValue) (text : List ℕ) → FitsText (service.text_reply held text) text
text_fits None text = within_fits text
text_fits (Some (Text before)) text = within_fits text
text_fits (Some (Count count)) text = λ e. absurd cc

text_held : (m : List KeyPair) (key text : List ℕ) (reply : Reply) → IsHeld m → length key ≤ 255 → FitsText reply text
    → IsHeld (service.text_after m key text reply)
text_held m key text replies.Done held short fits = holding_held m key (Text text) held short (fits refl)
text_held m key text replies.Nothing held short fits = held
text_held m key text (replies.Text other) held short fits = held
text_held m key text (replies.Count count) held short fits = held
text_held m key text (replies.Pairs pairs) held short fits = held
text_held m key text replies.WrongKind held short fits = held
text_held m key text replies.Overflow held short fits = held
text_held m key text replies.TooLong held short fits = held

abbrev FitsCount : Reply → Type 0
FitsCount (replies.Count count) = FitsSigned w64 count
FitsCount reply = Unit {0}

sum_fits : (n : ℤ) → FitsCount (service.count_reply (cond (service.is_i64 n) (Some n) None))
sum_fits n =
    ⊎_elim
    (λ (yes : service.is_i64 n ≡ true). rw yes (is_i64_fits n yes))
    (λ (no : service.is_i64 n ≡ false). rw no tt)
    (cases_Bool (service.is_i64 n))

inc_fits : (held : Option KeyValue) (amount : ℤ) → FitsSigned w64 amount → FitsCount (service.inc_reply held amount)
inc_fits None amount fits = fits
inc_fits (Some (Text text)) amount fits = tt
inc_fits (Some (Count count)) amount fits = sum_fits (count +ℤ amount)

inc_held : (m : List KeyPair) (key : List ℕ) (reply : Reply) → IsHeld m → length key ≤ 255 → FitsCount reply
    → IsHeld (service.inc_after m key reply)
inc_held m key (replies.Count sum) held short fits = holding_held m key (Count sum) held short fits
inc_held m key replies.Done held short fits = held
inc_held m key replies.Nothing held short fits = held
inc_held m key (replies.Text other) held short fits = held
inc_held m key (replies.Pairs pairs) held short fits = held
inc_held m key replies.WrongKind held short fits = held
inc_held m key replies.Overflow held short fits = held
inc_held m key replies.TooLong held short fits = held

-- a request as bytes spell it
abbrev FitsRequest : Request → Type 0
FitsRequest (Get key) = Unit {0}
FitsRequest (Put key text) = length key ≤ 255
FitsRequest (Append key tail) = length key ≤ 255
FitsRequest (Inc key amount) = (length key ≤ 255) × FitsSigned w64 amount
FitsRequest (Del key) = Unit {0}
FitsRequest (Scan low high most) = Unit {0}

request_held : (m : List KeyPair) (request : Request) → IsHeld m → FitsRequest request
    → IsHeld (service.after m request)
request_held m (Get key) held fits = held
request_held m (Put key text) held fits =
    text_held m key text (service.text_reply (held_at m key) text) held fits (text_fits (held_at m key) text)
request_held m (Append key tail) held fits =
    let text = service.longer_text m key tail in
    text_held m key text (service.text_reply (held_at m key) text) held fits (text_fits (held_at m key) text)
request_held m (Inc key amount) held fits =
    inc_held m key (service.inc_reply (held_at m key) amount) held fits.0 (inc_fits (held_at m key) amount fits.1)
request_held m (Del key) held fits = without_held m key held
request_held m (Scan low high most) held fits = held

cast_fits : (n : ℕ) → FitsSigned w64 (cast_signed w64 n)
cast_fits n =
    ⊎_elim
    (λ (yes : ltb n (2 ^ 63) ≡ true). rw yes (record { sfits = ltb-true _ _ yes }))
    (λ (no : ltb n (2 ^ 63) ≡ false). let high = ltb-false _ _ no in rw no (record { sfits = omega (arith, high) }))
    (cases_Bool (ltb n (2 ^ 63)))

abbrev FitsAny : Option Request → Type 0
FitsAny None = Unit {0}
FitsAny (Some request) = FitsRequest request

either_fits : (b : Bool) (one other : Option Request) → FitsAny one → FitsAny other → FitsAny (cond b one other)
either_fits true one other f g = f
either_fits false one other f g = g

amount_fits : (key rest : List ℕ) → length key ≤ 255 → FitsAny (amount_in key rest)
amount_fits key rest short = either_fits (ltb (length rest) 8) None
    (Some (Inc key (cast_signed w64 (from_be_bytes w64 (take 8 rest))))) tt
    (short, cast_fits (from_be_bytes w64 (take 8 rest)))

kind_fits : (kind : ℕ) (key rest : List ℕ) → length key ≤ 255 → FitsAny (request_of_kind kind key rest)
kind_fits kind key rest short =
    either_fits (eqb kind 1) _ _ tt (either_fits (eqb kind 2) _ _ short (either_fits (eqb kind 3) _ _ short
    (either_fits (eqb kind 4) _ _ (amount_fits key rest short) (either_fits (eqb kind 5) (Some (Del key)) None tt tt))))

request_fits : (bytes : List ℕ) → FitsAny (request_in bytes)
request_fits [] = tt
request_fits (kind ∷ []) = tt
request_fits (kind ∷ count ∷ rest) =
    ⊎_elim
    (λ (bad : (eqb count 0 || (ltb 255 count || ltb (length rest) count)) ≡ true). rw bad tt)
    (λ (good : (eqb count 0 || (ltb 255 count || ltb (length rest) count)) ≡ false).
    let low = ltb-false 255 count (or_parts (ltb 255 count) (ltb (length rest) count)
    (or_parts (eqb count 0) (ltb 255 count || ltb (length rest) count) good).1).0 in
    rw good (kind_fits kind (take count rest) (drop count rest) (omega (arith, low, length-take count rest))))
    (cases_Bool (eqb count 0 || (ltb 255 count || ltb (length rest) count)))

any_held : (m : List KeyPair) (request : Option Request) → IsHeld m → FitsAny request → IsHeld (texts_after m request)
any_held m None held fits = held
any_held m (Some request) held fits = request_held m request held fits

pub reached : (m : List KeyPair) (items : List (Item (Vec ℕ))) → IsHeld m → IsHeld (state_after texts_service m items)
reached m [] held = held
reached m (item ∷ items) held =
    reached (texts_after m (request_in item.request.items)) items
    (any_held m (request_in item.request.items) held (request_fits item.request.items))
