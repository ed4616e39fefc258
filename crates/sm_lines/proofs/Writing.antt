-- Lemmas on bytes that are written piece by piece.
use Rattle.std.proofs.Common.{true, Option, None, Some, ◌≡◌, ℕ, List, [], ◌++◌, ap, sym, ◌∙◌, append-nil}
use Rattle.std.proofs.Common.{append_assoc, subst, take, drop, ◌+◌, ◌-◌, min, length, arith}
use Rattle.std.proofs.Math.Seq.{take-add, take-append-add}
use Rattle.std.proofs.lemmas.List.{take-append-le, take_all, take_min}
use Rattle.std.proofs.lemmas.Grind.{common_steps}
use Rattle.std.proofs.KnownBytes.{Appends-trans}
use Rattle.std.specs.Io.KnownBytes.{Appends, Keeps}
use Rattle.sm_lines.specs.Writing.{Writing, Sends, Wrote, WroteFront, WroteShort}

-- one more part of the bytes, given as a slice of the bytes that are left
pub Appends-rest : (old now next : Option (List ℕ)) (bytes : List ℕ) (at n : ℕ) → Appends old now (take at bytes)
    → Appends now next (take n (take (length bytes - at) (drop at bytes))) → Appends old next (take (at + n) bytes)
Appends-rest old now next bytes at n h k =
    let all : take (length bytes - at) (drop at bytes) ≡ drop at bytes = grind (arith, common_steps) in
    let P : List ℕ → Type 0 = λ r. Appends now next (take n r) in
    let Q : List ℕ → Type 0 = λ r. Appends old next r in
    subst Q (sym (take-add at n bytes))
    (Appends-trans old now next (take at bytes) (take n (drop at bytes)) h (subst P all k))

-- a front of the first bytes is a front of all
pub front_first : {old new : Option (List ℕ)} {bytes : List ℕ} (more : List ℕ) → WroteFront old new bytes
    → WroteFront old new (bytes ++ more)
front_first {old} {new} {bytes} more front =
    let n : ℕ = min front.count (length bytes) in
    let same : take n (bytes ++ more) ≡ take front.count bytes = take-append-le n bytes more (omega arith)
    ∙ take_min front.count bytes in
    let P : List ℕ → Type 0 = λ r. Appends old new r in
    record { count = n; wrote = subst P (sym same) front.wrote }

-- the first bytes, and a front of the rest
pub front_more : {old now new : Option (List ℕ)} {more : List ℕ} (bytes : List ℕ) → Appends old now bytes
    → WroteFront now new more → WroteFront old new (bytes ++ more)
front_more {old} {now} {new} {more} bytes first front =
    let P : List ℕ → Type 0 = λ r. Appends old new r in
    record {
      count = length bytes + front.count;
      wrote = subst P (sym (take-append-add bytes more front.count))
          (Appends-trans old now new bytes (take front.count more) first front.wrote);
    }

-- bytes were added, and then more
pub sends_more : (was now next : Writing) (bytes more : List ℕ) → Sends was now bytes → Sends now next more
    → Sends was next (bytes ++ more)
sends_more was now next bytes more one two = record {
  sent = one.sent ++ two.sent;
  wrote = Appends-trans was.written now.written next.written one.sent two.sent one.wrote two.wrote;
  split = sym (append_assoc was.waiting bytes more) ∙ ap (λ (r : List ℕ). r ++ more) one.split
      ∙ append_assoc one.sent now.waiting more
      ∙ ap (λ (r : List ℕ). one.sent ++ r) two.split ∙ sym (append_assoc one.sent two.sent next.waiting);
  unfailed = two.unfailed ∙ one.unfailed;
}

-- bytes were added, and of all and more a front was written
pub sends_short : (was now next : Writing) (bytes more : List ℕ) → Sends was now bytes → WroteShort now next more
    → WroteShort was next (bytes ++ more)
sends_short was now next bytes more one short =
    let P : List ℕ → Type 0 = λ r. WroteFront was.written next.written r in
    let same : one.sent ++ (now.waiting ++ more) ≡ was.waiting ++ (bytes ++ more) =
    sym (append_assoc one.sent now.waiting more) ∙ ap (λ (r : List ℕ). r ++ more) (sym one.split)
    ∙ append_assoc was.waiting bytes more in
    record {
      front = subst P same (front_more one.sent one.wrote short.front);
      none_waits = short.none_waits;
      failed = short.failed;
    }

-- if nothing waits, the bytes were written at once
pub passed_on : (now next : Writing) (bytes : List ℕ) → now.waiting ≡ [] → Appends now.written next.written bytes
    → next.waiting ≡ [] → next.failed ≡ now.failed → Sends now next bytes
passed_on now next bytes none wrote none_left unfailed = record {
  sent = bytes;
  wrote = wrote;
  split = ap (λ (w : List ℕ). w ++ bytes) none ∙ sym (append-nil bytes)
      ∙ ap (λ (w : List ℕ). bytes ++ w) (sym none_left);
  unfailed = unfailed;
}

-- the same, but only their first part was written
pub passed_short : (now next : Writing) (bytes : List ℕ) → now.waiting ≡ []
    → WroteFront now.written next.written bytes → next.waiting ≡ [] → next.failed ≡ true → WroteShort now next bytes
passed_short now next bytes none wrote none_left failed =
    let P : List ℕ → Type 0 = λ w. WroteFront now.written next.written (w ++ bytes) in
    record { front = subst P (sym none) wrote; none_waits = none_left; failed = failed }

-- a front of fewer bytes
pub short_first : (was now : Writing) (bytes : List ℕ) → WroteShort was now [] → WroteShort was now bytes
short_first was now bytes short =
    let P : List ℕ → Type 0 = λ r. WroteFront was.written now.written r in
    record {
      front = front_first bytes (subst P (append-nil was.waiting) short.front);
      none_waits = short.none_waits;
      failed = short.failed;
    }

-- all bytes were written, and then the writer failed
pub short_flush : (was now next : Writing) (bytes : List ℕ) → Wrote was now bytes → Keeps now.written next.written
    → next.waiting ≡ [] → next.failed ≡ true → WroteShort was next bytes
short_flush was now next bytes wrote keeps none failed =
    let all : was.waiting ++ bytes ≡ wrote.0.sent = wrote.0.split ∙ ap (λ (w : List ℕ). wrote.0.sent ++ w) wrote.1
    ∙ append-nil wrote.0.sent in
    let P : List ℕ → Type 0 = λ r. Appends was.written next.written r in
    record {
      front = record {
        count = length (was.waiting ++ bytes);
        wrote = subst P (sym (take_all (length (was.waiting ++ bytes)) (was.waiting ++ bytes) (omega arith) ∙ all))
            (kept was.written now.written next.written wrote.0.sent wrote.0.wrote keeps);
      };
      none_waits = none;
      failed = failed;
    }
  where
    kept : (a b c : Option (List ℕ)) (bs : List ℕ) → Appends a b bs → Keeps b c → Appends a c bs
    kept None b c bs h k = tt
    kept (Some x) None c bs h k = absurd h
    kept (Some x) (Some y) None bs h k = absurd k
    kept (Some x) (Some y) (Some z) bs h k = k ∙ h
