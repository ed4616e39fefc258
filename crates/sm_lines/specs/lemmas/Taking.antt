-- Bytes and lines that are taken off one after another.
use Rattle.std.proofs.Common.{◌≡◌, ◌≢◌, ◌+◌, ℕ, suc, List, [], ◌∷◌, ◌++◌, length, All, Bool, true}
use Rattle.std.proofs.Common.{false, Option, Some, None, refl, ap, sym, ◌∙◌, append_assoc, append-nil}
use Rattle.std.proofs.Common.{length-append, arith, inl, inr}
use Rattle.std.proofs.lemmas.Bool.{cases_eq, false≢true, ne_eqb}
use Rattle.std.proofs.lemmas.List.Elements.{All-nil, All-head, All-tail, All-append}
use Rattle.std.proofs.KnownBytes.{Consumes-nil, Consumes-trans}
use Rattle.std.specs.Io.KnownBytes.{prepend_known, Consumes, IsAtEnd}
use Rattle.sm_lines.specs.Lines.{lines_of, onto_first, with_feeds, IsPlain}
use Rattle.sm_lines.specs.Reading.{to_come, Reading, Reads, TookLines, IsOrderly}

-- ---- bytes

-- nothing
pub reads_none : (now : Reading) → IsOrderly now → Reads now now [] now.ended
reads_none now orderly = record {
  given = [];
  lost = Consumes-nil now.left;
  split = append-nil now.held;
  least = omega arith;
  most = omega arith;
  at_end = λ _. (refl, refl, refl);
  not_past_end = refl;
  before = orderly;
  after = orderly;
}

-- some, and then more
pub reads_more : (was now next : Reading) (taken more : List ℕ) (last : Bool) → Reads was now taken now.ended
    → Reads now next more last → Reads was next (taken ++ more) last
reads_more was now next taken more last one two =
    let size : length (one.given ++ two.given) ≡ length one.given + length two.given = length-append one.given
    two.given in
    let least_one = one.least in
    let least_two = two.least in
    let most_one = one.most in
    let most_two = two.most in
    record {
      given = one.given ++ two.given;
      lost = Consumes-trans was.left now.left next.left one.given two.given one.lost two.lost;
      split = sym (append_assoc was.held one.given two.given) ∙ ap (λ (r : List ℕ). r ++ two.given) one.split
          ∙ append_assoc taken now.held two.given
          ∙ ap (λ (r : List ℕ). taken ++ r) two.split ∙ sym (append_assoc taken more next.held);
      least = omega (arith, size, least_one, least_two);
      most = omega (arith, size, most_one, most_two);
      at_end = λ is. (
          let first = one.at_end is in
          let second = two.at_end (first.1 ∙ is) in
          (second.0 ∙ first.0, second.1 ∙ first.1, second.2 ∙ first.2)
          );
      not_past_end = two.not_past_end ∙ one.not_past_end;
      before = one.before;
      after = two.after;
    }

-- the end was perhaps seen
pub reads_last : (was now : Reading) (taken : List ℕ) (ended : Bool) → Reads was now taken ended
    → Reads was now taken true
reads_last was now taken true reads = reads
reads_last was now taken false reads =
    let least = reads.least in
    record {
      given = reads.given;
      lost = reads.lost;
      split = reads.split;
      least = omega (arith, least);
      most = reads.most;
      at_end = reads.at_end;
      not_past_end = reads.not_past_end;
      before = reads.before;
      after = reads.after;
    }

-- once the end was seen, there are no more bytes
pub none_after_end : (was now : Reading) (taken : List ℕ) (last : Bool) → was.ended ≡ true → Reads was now taken last
    → taken ≡ []
none_after_end was now taken last ended reads =
    let most = reads.most in
    let same = (reads.at_end ended).2 in
    let nothing : length reads.given ≡ 0 = omega (arith, most, same) in
    let held : length was.held ≡ 0 = ap length (reads.before.end ended).0 in
    let all : length was.held + length reads.given ≡ length taken + length now.held =
    sym (length-append was.held reads.given) ∙ ap length reads.split ∙ length-append taken now.held in
    is_nil taken (omega (arith, nothing, held, all))
  where
    is_nil : (bytes : List ℕ) → length bytes ≡ 0 → bytes ≡ []
    is_nil [] none = refl
    is_nil (b ∷ bytes) none = absurd (omega (arith, none))

-- ---- lines

-- a byte that is no line feed goes onto the first line
pub lines_of-plain : (b : ℕ) (bytes : List ℕ) → b ≢ 10 → lines_of (b ∷ bytes) ≡ onto_first b (lines_of bytes)
lines_of-plain b bytes plain = rw (ne_eqb b 10 plain) refl

-- a line and its line feed
pub lines_of-line : (line left : List ℕ) → IsPlain line → lines_of (line ++ 10 ∷ left) ≡ line ∷ lines_of left
lines_of-line [] left plain = refl
lines_of-line (b ∷ line) left plain =
    lines_of-plain b (line ++ 10 ∷ left) (All-head (λ b. b ≢ 10) b line plain)
    ∙ ap (onto_first b) (lines_of-line line left (All-tail (λ b. b ≢ 10) b line plain))

-- lines with their line feeds, and then other bytes
pub lines_of-feeds : (lines : List (List ℕ)) (bytes : List ℕ) → All IsPlain lines
    → lines_of (with_feeds lines ++ bytes) ≡ lines ++ lines_of bytes
lines_of-feeds [] bytes plain = refl
lines_of-feeds (line ∷ lines) bytes plain =
    ap lines_of (append_assoc line (10 ∷ with_feeds lines) bytes)
    ∙ lines_of-line line (with_feeds lines ++ bytes) (All-head IsPlain line lines plain)
    ∙ ap (λ (rest : List (List ℕ)). line ∷ rest) (lines_of-feeds lines bytes (All-tail IsPlain line lines plain))

with_feeds-more : (lines more : List (List ℕ)) → with_feeds (lines ++ more) ≡ with_feeds lines ++ with_feeds more
with_feeds-more [] more = refl
with_feeds-more (line ∷ lines) more =
    ap (λ (rest : List ℕ). line ++ 10 ∷ rest) (with_feeds-more lines more)
    ∙ sym (append_assoc line (10 ∷ with_feeds lines) (with_feeds more))

-- no line
pub took_none : (now : Reading) → IsOrderly now → TookLines now now []
took_none now orderly = record {
  taken = [];
  reads = reads_none now orderly;
  are = refl;
  plain = All-nil IsPlain;
  feeds = λ _. refl;
}

-- lines, and then more
pub took_more : (was now next : Reading) (lines more : List (List ℕ)) → TookLines was now lines
    → TookLines now next more → TookLines was next (lines ++ more)
took_more was now next lines more one two = record {
  taken = one.taken ++ two.taken;
  reads = reads_more was now next one.taken two.taken next.ended one.reads two.reads;
  are = joined now.ended refl;
  plain = All-append IsPlain lines more one.plain two.plain;
  feeds = λ unseen. fed unseen now.ended refl;
}
  where
    joined : (ended : Bool) → now.ended ≡ ended → lines_of (one.taken ++ two.taken) ≡ lines ++ more
    joined true is =
        let none = none_after_end now next two.taken next.ended is two.reads in
        let no_more : more ≡ [] = sym two.are ∙ ap lines_of none in
        ap (λ (t : List ℕ). lines_of (one.taken ++ t)) none ∙ ap lines_of (append-nil one.taken) ∙ one.are
        ∙ sym (append-nil lines) ∙ ap (λ (m : List (List ℕ)). lines ++ m) (sym no_more)
    joined false is =
        ap (λ (t : List ℕ). lines_of (t ++ two.taken)) (one.feeds is) ∙ lines_of-feeds lines two.taken one.plain
        ∙ ap (λ (m : List (List ℕ)). lines ++ m) two.are

    fed : next.ended ≡ false → (ended : Bool) → now.ended ≡ ended → one.taken ++ two.taken ≡ with_feeds (lines ++ more)
    fed unseen true is = absurd (false≢true (sym unseen ∙ (two.reads.at_end is).1 ∙ is))
    fed unseen false is =
        ap (λ (t : List ℕ). t ++ two.taken) (one.feeds is)
        ∙ ap (λ (t : List ℕ). with_feeds lines ++ t) (two.feeds unseen) ∙ sym (with_feeds-more lines more)

feed_first : (b : ℕ) (bytes : List ℕ) → b ≡ 10 → lines_of (b ∷ bytes) ≡ [] ∷ lines_of bytes
feed_first b bytes is = rw is refl

-- if bytes have no line, there are no bytes
pub no_lines : (bytes : List ℕ) → lines_of bytes ≡ [] → bytes ≡ []
no_lines [] none = refl
no_lines (b ∷ bytes) none = absurd (elim (cases_eq b 10) [
  | inl is ↦ some [] (lines_of bytes) (sym (feed_first b bytes is) ∙ none)
  | inr other ↦ onto (lines_of bytes) (sym (lines_of-plain b bytes other) ∙ none)
])
  where
    some : (line : List ℕ) (lines : List (List ℕ)) → line ∷ lines ≡ [] → ⊥
    some line lines is = let no : suc (length lines) ≡ 0 = ap length is in omega (arith, no)

    onto : (lines : List (List ℕ)) → onto_first b lines ≡ [] → ⊥
    onto [] is = some (b ∷ []) [] is
    onto (line ∷ lines) is = some (b ∷ line) lines is

-- lines that were taken off known bytes are the first of their lines; if the end was seen, they are all of them
pub lines_ahead : (was now : Reading) (lines : List (List ℕ)) (bytes : List ℕ) → to_come was ≡ Some bytes
    → TookLines was now lines
    → (rest : List (List ℕ)) × (lines_of bytes ≡ lines ++ rest) × (now.ended ≡ true → rest ≡ [])
lines_ahead was now lines bytes known took = by_left was.left now.left known took.reads.lost
    (λ is. (took.reads.after.end is).1)
  where
    split_at : (left after : List ℕ) → was.held ++ left ≡ bytes → left ≡ took.reads.given ++ after
        → bytes ≡ took.taken ++ (now.held ++ after)
    split_at left after all lost =
        sym all ∙ ap (λ (l : List ℕ). was.held ++ l) lost ∙ sym (append_assoc was.held took.reads.given after)
        ∙ ap (λ (l : List ℕ). l ++ after) took.reads.split ∙ append_assoc took.taken now.held after

    by_end : (after : List ℕ) → bytes ≡ took.taken ++ (now.held ++ after) → (now.ended ≡ true → after ≡ [])
        → (ended : Bool) → now.ended ≡ ended
        → (rest : List (List ℕ)) × (lines_of bytes ≡ lines ++ rest) × (now.ended ≡ true → rest ≡ [])
    by_end after split none true is = (
      [],
      ap lines_of (split ∙ ap (λ (l : List ℕ). took.taken ++ (now.held ++ l)) (none is)
          ∙ ap (λ (l : List ℕ). took.taken ++ (l ++ [])) (took.reads.after.end is).0
          ∙ append-nil took.taken) ∙ took.are ∙ sym (append-nil lines),
      λ _. refl,
    )
    by_end after split none false is = (
      lines_of (now.held ++ after),
      ap lines_of (split ∙ ap (λ (l : List ℕ). l ++ (now.held ++ after)) (took.feeds is))
          ∙ lines_of-feeds lines (now.held ++ after) took.plain,
      λ seen. absurd (false≢true (sym is ∙ seen)),
    )

    by_left : (left after : Option (List ℕ)) → prepend_known was.held left ≡ Some bytes
        → Consumes left after took.reads.given → (now.ended ≡ true → IsAtEnd after)
        → (rest : List (List ℕ)) × (lines_of bytes ≡ lines ++ rest) × (now.ended ≡ true → rest ≡ [])
    by_left None after known lost end = absurd (let never : false ≡ true = cc in false≢true never)
    by_left (Some left) None known lost end = absurd lost
    by_left (Some left) (Some after) known lost end = let all : was.held ++ left ≡ bytes = cc in
        by_end after (split_at left after all lost) end now.ended refl
