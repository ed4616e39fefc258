-- A field that is read is the field that was written, and a written field is read again.
use Rattle.std.proofs.Common.{◌≡◌, ℕ, suc, ◌+◌, ◌^◌, ◌<◌, ◌≤◌, Bool, true, false, cond, ltb, List, [], ◌∷◌, ◌++◌}
use Rattle.std.proofs.Common.{length, get_or, take, drop, Option, Some, None, Result, Ok, Err, refl, sym, ap, subst}
use Rattle.std.proofs.Common.{◌∙◌, append_assoc, arith, inl, inr, eqb, ⊎_elim}
use Rattle.std.specs.Int.{Width, w32, w64, byte_len, from_be_bytes, to_be_bytes}
use Rattle.std.specs.Prelude.{◌||◌}
use Rattle.std.proofs.lemmas.Bool.{cases_Bool, cases_lt, cond-false, cond-true, eqb-false, eqb-true, ltb-false, le-ltb}
use Rattle.std.proofs.lemmas.Bool.{ne_eqb, or_parts}
use Rattle.std.proofs.lemmas.List.{take_at, drop_at, take-append-drop, length-append, length-take, get_or-drop}
use Rattle.std.proofs.lemmas.List.{get_or-take, get_or_past, nil_from_length}
use Rattle.std.proofs.lemmas.Nat.{be_bytes_4, be_bytes_8, from_be_bytes-to_be_bytes_4, from_be_bytes-to_be_bytes_8}
use Rattle.std.proofs.lemmas.Option.{none-some}
use Rattle.sm_codec.specs.declared.fault.Fault.{Fault}
use Rattle.sm_codec.specs.declared.fault.Fault.TheVariants.{Short, Version, Trailing}
use Rattle.sm_ownership.specs.declared.mode.Mode.{Mode}
use Rattle.sm_ownership.specs.declared.mode.Mode.TheVariants.{Direct, Forwarded}
use Rattle.sm_ranges.specs.declared.limits.TheConstants.{MAX_SERVER}
use Rattle.sm_ranges.specs.ServerId.{IsServer}
use Rattle.sm_codec.specs.Spelling.{FitsMode, mode_number, string_bytes}
use Rattle.sm_codec.specs.Reading.{◌>>=◌, all_read, byte_in, mode_in, mode_named, named_in, number_in, server_in}
use Rattle.sm_codec.specs.Reading.{server_named}
use Rattle.sm_codec.specs.Reading.{string_in, version_in}

abbrev pub IsBytes : List ℕ → Type 0
IsBytes bytes = (i : ℕ) → get_or bytes i 0 < 256

IsBytes-drop : (n : ℕ) (bytes : List ℕ) → IsBytes bytes → IsBytes (drop n bytes)
IsBytes-drop n bytes h i = rw get_or-drop (h (n + i))

IsBytes-take : (n : ℕ) (bytes : List ℕ) → IsBytes bytes → IsBytes (take n bytes)
IsBytes-take n bytes h i =
    elim (cases_lt i n) [
      | inl lt ↦ rw (get_or-take n bytes i 0 lt) (h i)
      | inr le ↦ rw (get_or_past (take n bytes) i 0 (omega (arith, length-take n bytes))) (omega arith)
    ]

-- the continuation of a step that returns a value
pub bind_to : {A B : Type 0} (r : Result A Fault) (x : A) (f : A → Result B Fault) → r ≡ Ok x → (r >>= f) ≡ f x
bind_to {A = A} r x f e = ap (λ (s : Result A Fault). s >>= f) e

-- the value of a step that did not fail
pub bind_ok : {A B : Type 0} (r : Result A Fault) (f : A → Result B Fault) (y : B) → (r >>= f) ≡ Ok y → (x : A) × (r
    ≡ Ok x) × (f x ≡ Ok y)
bind_ok (Ok x) f y e = (x, refl, e)
bind_ok (Err d) f y e = absurd cc

-- a test that did not fail
pub guard_ok : {A : Type 0} (b : Bool) (d : Fault) (x y : A) → cond b (Err d) (Ok x) ≡ Ok y → (b ≡ false) × (x ≡ y)
guard_ok true d x y e = absurd cc
guard_ok false d x y e = (refl, cc)

abbrev pub done : {A : Type 0} → A → Result A Fault
done x = Ok x

pub ok_is : {A : Type 0} (x y : A) → done x ≡ done y → x ≡ y
ok_is x y e = cc

-- the part that a reader took from the front
pub record Takes (bytes text rest : List ℕ) : Type 0 where
  pub parts : bytes ≡ text ++ rest
  pub rest_fits : IsBytes rest

pub Takes-then : (a x b y c : List ℕ) → Takes a x b → Takes b y c → Takes a (x ++ y) c
Takes-then a x b y c p q = record {
  parts = p.parts ∙ ap (λ (t : List ℕ). x ++ t) q.parts ∙ sym (append_assoc x y c);
  rest_fits = q.rest_fits;
}

-- ---- numbers

pub record IsWide (w : Width) (limit : ℕ) : Type 0 where
  pub len : (n : ℕ) → length (to_be_bytes w n) ≡ byte_len w
  pub back : (bytes : List ℕ) → length bytes ≡ byte_len w → IsBytes bytes → to_be_bytes w (from_be_bytes w bytes) ≡
      bytes
  pub again : (n : ℕ) → n < limit → from_be_bytes w (to_be_bytes w n) ≡ n
  pub below : (bytes : List ℕ) → IsBytes bytes → from_be_bytes w bytes < limit

pub wide32 : IsWide w32 (2 ^ 32)
wide32 = record {
  len = λ n. refl;
  back = λ bytes len fits. be_bytes_4 bytes _ len fits refl;
  again = λ n lt. from_be_bytes-to_be_bytes_4 n lt;
  below = λ bytes fits. omega (arith, fits 0, fits 1, fits 2, fits 3);
}

pub wide64 : IsWide w64 (2 ^ 64)
wide64 = record {
  len = λ n. refl;
  back = λ bytes len fits. be_bytes_8 bytes _ len fits refl;
  again = λ n lt. from_be_bytes-to_be_bytes_8 n lt;
  below = λ bytes fits. omega (arith, fits 0, fits 1, fits 2, fits 3, fits 4, fits 5, fits 6, fits 7);
}

pub number_takes : (w : Width) (limit : ℕ) (wide : IsWide w limit) (bytes : List ℕ) (n : ℕ) (rest : List ℕ) → IsBytes
    bytes → number_in w bytes ≡ Ok (n, rest) → Takes bytes (to_be_bytes w n) rest × (n < limit)
number_takes w limit wide bytes n rest fits e =
    let g = guard_ok (ltb (length bytes) (byte_len w)) Short (
      from_be_bytes w (take (byte_len w) bytes),
      drop
          (byte_len w) bytes,
    ) (n, rest) e in
    let long : byte_len w ≤ length bytes = ltb-false _ _ g.0 in
    let n-is : from_be_bytes w (take (byte_len w) bytes) ≡ n = ap (λ (p : ℕ × List ℕ). p.0) g.1 in
    let rest-is : drop (byte_len w) bytes ≡ rest = ap (λ (p : ℕ × List ℕ). p.1) g.1 in
    let front : to_be_bytes w n ≡ take (byte_len w) bytes = rw (← n-is) (wide.back (take (byte_len w) bytes) (omega
    (arith, length-take (byte_len w) bytes)) (IsBytes-take (byte_len w) bytes fits)) in (
      record {
        parts = rw (front, ← rest-is) (sym (take-append-drop (byte_len w) bytes));
        rest_fits = rw (← rest-is)
            (IsBytes-drop (byte_len w) bytes fits);
      },
      rw (← n-is) (wide.below (take (byte_len w) bytes) (IsBytes-take
          (byte_len w) bytes fits)),
    )

pub number_again : (w : Width) (limit : ℕ) (wide : IsWide w limit) (n : ℕ) (rest : List ℕ) → n < limit → number_in w
    (to_be_bytes w n ++ rest) ≡ Ok (n, rest)
number_again w limit wide n rest lt =
    let len = wide.len n in
    let long : ltb (length (to_be_bytes w n ++ rest)) (byte_len w) ≡ false = le-ltb _ _ (omega (
      arith,
      length-append
          (to_be_bytes w n) rest,
    )) in
    rw (
      long,
      take_at (to_be_bytes w n) rest (byte_len w) len,
      drop_at (to_be_bytes w n) rest (byte_len w) len,
      wide.again n lt,
    ) refl

-- ---- strings

pub string_takes : (bytes text rest : List ℕ) → IsBytes bytes → string_in bytes ≡ Ok (text, rest) → Takes bytes
    (string_bytes text) rest × (length text < 2 ^ 32)
unfolding string_in
string_takes bytes text rest fits e =
    let b = bind_ok (number_in w32 bytes) (λ n. cond (ltb (length n.1) n.0) (Err Short) (Ok (
      take n.0 n.1,
      drop n.0
          n.1,
    ))) (text, rest) e in
    let n = b.0 in
    let t = number_takes w32 (2 ^ 32) wide32 bytes n.0 n.1 fits b.1 in
    let g = guard_ok (ltb (length n.1) n.0) Short (take n.0 n.1, drop n.0 n.1) (text, rest) b.2 in
    let long : n.0 ≤ length n.1 = ltb-false _ _ g.0 in
    let len : length (take n.0 n.1) ≡ n.0 = omega (arith, length-take n.0 n.1) in
    let second : Takes n.1 (take n.0 n.1) (drop n.0 n.1) = record {
      parts = sym (take-append-drop n.0 n.1);
      rest_fits
          = IsBytes-drop n.0 n.1 t.0.rest_fits;
    } in
    let both = Takes-then bytes (to_be_bytes w32 n.0) n.1 (take n.0 n.1) (drop n.0 n.1) t.0 second in
    let whole : Takes bytes (string_bytes (take n.0 n.1)) (drop n.0 n.1) = subst (λ (k : ℕ). Takes bytes (to_be_bytes
    w32 k ++ take n.0 n.1) (drop n.0 n.1)) (sym len) both in
    subst (λ (p : List ℕ × List ℕ). Takes bytes (string_bytes p.0) p.1 × (length p.0 < 2 ^ 32)) g.1 (
      whole,
      omega
          (arith, t.1),
    )

pub string_again : (text rest : List ℕ) → length text < 2 ^ 32 → string_in (string_bytes text ++ rest) ≡ Ok (
  text,
  rest,
)
unfolding string_in
string_again text rest lt =
    let long : ltb (length (text ++ rest)) (length text) ≡ false = le-ltb _ _ (omega (
      arith,
      length-append text
          rest,
    )) in
    rw (
      number_again w32 (2 ^ 32) wide32 (length text) (text ++ rest) lt,
      long,
      take_at text rest (length text) refl,
      drop_at text rest (length text) refl,
    ) refl

-- the bytes that are left

IsBytes-rest : (b : ℕ) (bytes : List ℕ) → IsBytes (b ∷ bytes) → IsBytes bytes
IsBytes-rest b bytes h i = h (suc i)

guard_ended : {A : Type 0} (b : Bool) (d : Fault) (x y : A) → cond b (Ok x) (Err d) ≡ Ok y → (b ≡ true) × (x ≡ y)
guard_ended true d x y e = (refl, cc)
guard_ended false d x y e = absurd cc

pub version_takes : (bytes rest : List ℕ) → IsBytes bytes → version_in bytes ≡ Ok rest → Takes bytes (1 ∷ []) rest
unfolding version_in
version_takes [] rest fits e = absurd cc
version_takes (b ∷ bytes) rest fits e =
    let g = guard_ended (eqb b 1) Version bytes rest e in
    subst (λ (x : List ℕ). Takes (b ∷ bytes) (1 ∷ []) x) g.1
    (record { parts = ap (λ (k : ℕ). k ∷ bytes) (eqb-true b 1 g.0); rest_fits = IsBytes-rest b bytes fits })

pub byte_takes : (bytes : List ℕ) (x : ℕ × List ℕ) → IsBytes bytes → byte_in bytes ≡ Ok x
    → Takes bytes (x.0 ∷ []) x.1
byte_takes [] x fits e = absurd cc
byte_takes (b ∷ bytes) x fits e =
    let here : ℕ × List ℕ = (b, bytes) in
    subst (λ (y : ℕ × List ℕ). Takes (b ∷ bytes) (y.0 ∷ []) y.1) (ok_is here x e)
    (record { parts = refl; rest_fits = IsBytes-rest b bytes fits })

pub version_again : (rest : List ℕ) → version_in (1 ∷ rest) ≡ Ok rest
unfolding version_in
version_again rest = refl

-- a value with no bytes after it
pub ended_takes : {A : Type 0} (x y : A) (rest : List ℕ) → all_read x rest ≡ Ok y → (rest ≡ []) × (x ≡ y)
ended_takes x y rest e =
    let g = guard_ended (eqb (length rest) 0) Trailing x y e in
    (nil_from_length rest (eqb-true (length rest) 0 g.0), g.1)

-- the number of a server, or of how a request came

above_none : (n : ℕ) → eqb n 0 ≡ false → 1 ≤ n
above_none n apart = let differs = eqb-false n 0 apart in omega arith

server_apart : (n : ℕ) → IsServer n → eqb n 0 ≡ false
server_apart n is = ne_eqb n 0 (λ (none : n ≡ 0). let above = is.0 in omega arith)

server_within : (n : ℕ) → IsServer n → ltb MAX_SERVER n ≡ false
server_within n is = let below = is.1 in le-ltb MAX_SERVER n (omega arith)

some-inj : {A : Type 0} (x y : A) → Some x ≡ Some y → x ≡ y
some-inj x y e = cc

-- how a request came that has a number above 0
abbrev later : ℕ → Option Mode
later n = cond (ltb MAX_SERVER n) None (Some (Forwarded n))

-- the meaning of a number in bytes that are read
named_takes : {A : Type 0} (found : Option A) (rest : List ℕ) (x : A × List ℕ) → named_in found rest ≡ Ok x
    → (value : A) × (found ≡ Some value) × (value ≡ x.0) × (rest ≡ x.1)
named_takes None rest x e = absurd cc
named_takes {A = A} (Some value) rest x e =
    let here : A × List ℕ = (value, rest) in
    let is = ok_is here x e in
    (value, refl, ap (λ (p : A × List ℕ). p.0) is, ap (λ (p : A × List ℕ). p.1) is)

server_some : (n value : ℕ) → server_named n ≡ Some value → (n ≡ value) × IsServer n
server_some n value e =
    ⊎_elim
    (λ (yes : (eqb n 0 || ltb MAX_SERVER n) ≡ true). absurd (none-some value (sym (cond-true _ None (Some n) yes) ∙ e)))
    (λ (apart : (eqb n 0 || ltb MAX_SERVER n) ≡ false).
    let parts = or_parts (eqb n 0) (ltb MAX_SERVER n) apart in
    let same : n ≡ value = some-inj n value (sym (cond-false _ None (Some n) apart) ∙ e) in
    (same, (above_none n parts.0, ltb-false MAX_SERVER n parts.1)))
    (cases_Bool (eqb n 0 || ltb MAX_SERVER n))

pub server_takes : (bytes : List ℕ) (x : ℕ × List ℕ) → IsBytes bytes → server_in bytes ≡ Ok x
    → Takes bytes (to_be_bytes w32 x.0) x.1 × IsServer x.0
unfolding server_in
server_takes bytes x fits e =
    let b = bind_ok (number_in w32 bytes) (λ n. named_in (server_named n.0) n.1) x e in
    let t = number_takes w32 (2 ^ 32) wide32 bytes b.0.0 b.0.1 fits b.1 in
    let named = named_takes (server_named b.0.0) b.0.1 x b.2 in
    let some = server_some b.0.0 named.0 named.1 in
    let number : b.0.0 ≡ x.0 = some.0 ∙ named.2 in (
      subst (λ (k : ℕ). Takes bytes (to_be_bytes w32 k) x.1) number
          (subst (λ (r : List ℕ). Takes bytes (to_be_bytes w32 b.0.0) r) named.3 t.0),
      subst IsServer number some.1,
    )

server_known : (n : ℕ) → IsServer n → server_named n ≡ Some n
server_known n is = rw (server_apart n is, server_within n is) refl

pub server_again : (n : ℕ) (rest : List ℕ) → IsServer n → server_in (to_be_bytes w32 n ++ rest) ≡ Ok (n, rest)
unfolding server_in
server_again n rest is =
    let below = is.1 in
    rw (number_again w32 (2 ^ 32) wide32 n rest (omega arith), server_known n is) refl

mode_some : (n : ℕ) (value : Mode) → mode_named n ≡ Some value → (mode_number value ≡ n) × FitsMode value
mode_some n value e =
    ⊎_elim
    (λ (yes : eqb n 0 ≡ true).
    let same : Direct ≡ value = some-inj Direct value (sym (cond-true _ (Some Direct) (later n) yes) ∙ e) in
    subst (λ (m : Mode). (mode_number m ≡ n) × FitsMode m) same (sym (eqb-true n 0 yes), tt))
    (λ (apart : eqb n 0 ≡ false).
    let rest : later n ≡ Some value = sym (cond-false _ (Some Direct) (later n) apart) ∙ e in
    ⊎_elim
    (λ (over : ltb MAX_SERVER n ≡ true).
    absurd (none-some value (sym (cond-true _ None (Some (Forwarded n)) over) ∙ rest)))
    (λ (within : ltb MAX_SERVER n ≡ false).
    let same : Forwarded n ≡ value =
    some-inj (Forwarded n) value (sym (cond-false _ None (Some (Forwarded n)) within) ∙ rest) in
    subst (λ (m : Mode). (mode_number m ≡ n) × FitsMode m) same
    (refl, (above_none n apart, ltb-false MAX_SERVER n within)))
    (cases_Bool (ltb MAX_SERVER n)))
    (cases_Bool (eqb n 0))

pub mode_takes : (bytes : List ℕ) (x : Mode × List ℕ) → IsBytes bytes → mode_in bytes ≡ Ok x
    → Takes bytes (to_be_bytes w32 (mode_number x.0)) x.1 × FitsMode x.0
unfolding mode_in
mode_takes bytes x fits e =
    let b = bind_ok (number_in w32 bytes) (λ n. named_in (mode_named n.0) n.1) x e in
    let t = number_takes w32 (2 ^ 32) wide32 bytes b.0.0 b.0.1 fits b.1 in
    let named = named_takes (mode_named b.0.0) b.0.1 x b.2 in
    let some = mode_some b.0.0 named.0 named.1 in
    let number : b.0.0 ≡ mode_number x.0 = sym some.0 ∙ ap mode_number named.2 in (
      subst (λ (k : ℕ). Takes bytes (to_be_bytes w32 k) x.1) number
          (subst (λ (r : List ℕ). Takes bytes (to_be_bytes w32 b.0.0) r) named.3 t.0),
      subst FitsMode named.2 some.1,
    )

forwarded_known : (from : ℕ) → IsServer from → mode_named from ≡ Some (Forwarded from)
forwarded_known from is = rw (server_apart from is, server_within from is) refl

pub mode_again : (mode : Mode) (rest : List ℕ) → FitsMode mode
    → mode_in (to_be_bytes w32 (mode_number mode) ++ rest) ≡ Ok (mode, rest)
unfolding mode_in
mode_again Direct rest fits = rw (number_again w32 (2 ^ 32) wide32 0 rest (omega arith)) refl
mode_again (Forwarded from) rest is =
    let below = is.1 in
    rw (number_again w32 (2 ^ 32) wide32 from rest (omega arith), forwarded_known from is) refl
