-- Lemmas on a line that is read part by part.
use Rattle.std.proofs.Common.{Contains, Bool, true, false, ◌⊎◌, ◌≡◌, ◌≢◌, ℕ, List, [], ◌∷◌, ◌++◌, All, refl, ap}
use Rattle.std.proofs.Common.{subst, sym, ◌∙◌, arith, length, ◌+◌, ◌*◌, ◌<◌, ◌≤◌, take, drop, slice_index, drop-cons}
use Rattle.std.proofs.Common.{append_assoc, append-nil, length-append}
use Rattle.std.proofs.lemmas.Grind.{common_steps}
use Rattle.std.proofs.lemmas.List.{take-append-drop, take_all}
use Rattle.std.proofs.lemmas.List.Elements.{All-contains, All-nil, All-cons, All-head, All-tail, All-append}
use Rattle.std.proofs.lemmas.Bool.{false≢true}
use Rattle.std.proofs.KnownBytes.{Consumes-nil}
use Rattle.std.specs.Io.KnownBytes.{Consumes, IsAtEnd}
use Rattle.sm_lines.specs.Lines.{lines_of, onto_first, IsPlain}
use Rattle.sm_lines.specs.Reading.{Reading, Reads, TookLines, TookNext, TookPart, IsOrderly, IsUncalled, call_of}
use Rattle.sm_lines.specs.declared.TheConstants.{PIECE}
use Rattle.sm_lines.specs.declared.line_reader.Next.{Next}
use Rattle.sm_lines.specs.declared.line_reader.Next.TheVariants.{Line, LongLine, End}
use Rattle.sm_lines.specs.lemmas.Taking.{lines_of-plain, lines_of-line, reads_more}

-- the line in front, as far as it was taken off: its bytes, and those of them that are kept
pub record SoFar (was now : Reading) (is_long : Bool) (limit : ℕ) : Type 0 where
  pub full : List ℕ
  pub plain : IsPlain full
  pub reads : Reads was now full now.ended
  pub starts : now.line ≡ take limit full
  pub long : is_long ≡ true → limit < length full
  pub short : is_long ≡ false → length full ≤ limit

-- the last line, without a line feed
lines_of-last : (line : List ℕ) → IsPlain line → 0 < length line → lines_of line ≡ line ∷ []
lines_of-last [] plain some = absurd (omega (arith, some))
lines_of-last (b ∷ []) plain some = lines_of-plain b [] (All-head (λ b. b ≢ 10) b [] plain)
lines_of-last (b ∷ c ∷ line) plain some =
    lines_of-plain b (c ∷ line) (All-head (λ b. b ≢ 10) b (c ∷ line) plain)
    ∙ ap (onto_first b) (lines_of-last (c ∷ line) (All-tail (λ b. b ≢ 10) b (c ∷ line) plain) (omega arith))

-- if a line feed was among the held bytes, and the same bytes are held now, they aren't all other bytes
pub no_feed : {first held : List ℕ} → Contains first 10 → held ≡ first → IsPlain held → ⊥
no_feed {first} has same plain =
    let P : List ℕ → Type 0 = λ r. All (λ b. b ≢ 10) r in
    All-contains (λ b. b ≢ 10) first 10 (subst P same plain) has refl

-- these bytes, which were held first, were taken off
reads_off : (now final : Reading) (bytes : List ℕ) {line left : List ℕ} → IsOrderly now → now.held ≡ bytes ++ left
    → final ≡ record now { line = line; held = left }
    → Reads now final bytes final.ended
reads_off now final bytes {line} {left} orderly is final_is =
    let P : Reading → Type 0 = λ r. Reads now r bytes r.ended in
    let size : length now.held ≡ length bytes + length left = ap length is ∙ length-append bytes left in
    let piece = orderly.piece in
    let came = orderly.came in
    subst P (sym final_is) (record {
      given = [];
      lost = Consumes-nil now.left;
      split = append-nil now.held ∙ is;
      least = omega arith;
      most = omega arith;
      at_end = λ _. (refl, refl, refl);
      not_past_end = refl;
      before = orderly;
      after = record {
        piece = omega (arith, size, piece);
        came = omega (arith, size, came);
        end = λ ended. (
          none_left left (let none : length now.held ≡ 0 = ap length (orderly.end ended).0 in
              omega (arith, size, none)),
          (orderly.end ended).1,
        );
      };
    })
  where
    none_left : (bytes : List ℕ) → length bytes ≡ 0 → bytes ≡ []
    none_left [] none = refl
    none_left (b ∷ bytes) none = absurd (omega (arith, none))

-- a call of the reader, if nothing was held
pub reads_filled : (now next : Reading) (last : Bool) → IsOrderly now → now.held ≡ []
    → Consumes now.left next.left next.held
    → next.calls + call_of now.ended ≤ now.calls + length next.held + call_of last
    → length next.held + PIECE * now.calls ≤ PIECE * next.calls
    → (now.ended ≡ true → IsUncalled now next) → next.past_end ≡ now.past_end → IsOrderly next → Reads now next [] last
reads_filled now next last orderly none bytes least most at_end past_end after = record {
  given = next.held;
  lost = bytes;
  split = ap (λ (h : List ℕ). h ++ next.held) none;
  least = least;
  most = most;
  at_end = at_end;
  not_past_end = past_end;
  before = orderly;
  after = after;
}

-- the bytes that are held after a call
pub orderly_filled : (next : Reading) (calls : ℕ) → length next.held + PIECE * calls ≤ PIECE * next.calls
    → length next.held ≤ PIECE
    → (next.ended ≡ true → (next.held ≡ []) × IsAtEnd next.left) → IsOrderly next
orderly_filled next calls most piece end = record { piece = piece; came = omega (arith, most); end = end }

-- a call that failed
pub least_failed : (now next : Reading) → now.ended ≡ false → next.calls ≤ now.calls + 1
    → next.calls + call_of now.ended ≤ now.calls + length next.held + call_of true
least_failed now next unseen few = rw unseen (omega (arith, few))

-- no byte of the line yet
pub so_far_none : (was now : Reading) (limit : ℕ) → IsOrderly was → now ≡ record was { line = [] }
    → SoFar was now false limit
so_far_none was now limit orderly is = record {
  full = [];
  plain = All-nil (λ b. b ≢ 10);
  reads = reads_off was now [] orderly refl is;
  starts = ap (λ (r : Reading). r.line) is ∙ grind (arith, common_steps);
  long = λ no. absurd (false≢true no);
  short = λ _. omega arith;
}

-- a cut line grows as the whole one does
take-grown : (limit : ℕ) (full part : List ℕ) → take limit (take limit full ++ part) ≡ take limit (full ++ part)
take-grown limit full part = grind (arith, common_steps)

-- a part of the held bytes was taken off
so_far_more : {was now : Reading} {is_long : Bool} {limit : ℕ} (took : Reading) (part left : List ℕ)
    → SoFar was now is_long limit → now.held ≡ part ++ left → IsPlain part
    → took ≡ record now { line = take limit (now.line ++ part); held = left }
    → (longer : Bool) → (longer ≡ true → (is_long ≡ true) ⊎ (limit < length now.line + length part))
    → (longer ≡ false → (is_long ≡ false) × (length now.line + length part ≤ limit))
    → SoFar was took longer limit
so_far_more {was} {now} {is_long} {limit} took part left s held plain is longer long short =
    let size : length (s.full ++ part) ≡ length s.full + length part = length-append s.full part in
    let starts = s.starts in
    let cut : length now.line ≤ length s.full = grind (arith, common_steps, starts) in
    record {
      full = s.full ++ part;
      plain = All-append (λ b. b ≢ 10) s.full part s.plain plain;
      reads = reads_more was now took s.full part took.ended s.reads (reads_off now took part s.reads.after held is);
      starts = ap (λ (r : Reading). r.line) is ∙ ap (λ line. take limit (line ++ part)) s.starts
          ∙ take-grown limit s.full part;
      long = λ is_longer. grind (arith, size, cut, long is_longer, s.long);
      short = λ is_short. (
          let fits = short is_short in
          let whole = s.short fits.0 in
          let same : now.line ≡ s.full = s.starts ∙ take_all limit s.full whole in
          let sizes = ap length same in
          omega (arith, size, fits.1, sizes)
          );
    }

-- all held bytes were taken off
pub so_far_all : {was now : Reading} {is_long : Bool} {limit : ℕ} (took : Reading) → SoFar was now is_long limit
    → IsPlain now.held
    → took ≡ record now { line = take limit (now.line ++ now.held); held = [] }
    → (longer : Bool) → (longer ≡ true → (is_long ≡ true) ⊎ (limit < length now.line + length now.held))
    → (longer ≡ false → (is_long ≡ false) × (length now.line + length now.held ≤ limit))
    → SoFar was took longer limit
so_far_all {was} {now} took s plain is longer long short = so_far_more took now.held [] s (sym (append-nil now.held))
    plain is longer long short

-- and then the reader was called
pub so_far_filled : {was took : Reading} {is_long : Bool} {limit : ℕ} (next : Reading) → SoFar was took is_long limit
    → next.line ≡ took.line → Reads took next [] next.ended → SoFar was next is_long limit
so_far_filled {was} {took} next s same read =
    let P : List ℕ → Type 0 = λ r. Reads was next r next.ended in
    record {
      full = s.full;
      plain = s.plain;
      reads = subst P (append-nil s.full) (reads_more was took next s.full [] next.ended s.reads read);
      starts = same ∙ s.starts;
      long = s.long;
      short = s.short;
    }

-- a front of the line was taken off
pub so_far_part : {was took : Reading} {is_long : Bool} {limit : ℕ} (next : Reading) (last : Bool)
    → SoFar was took is_long limit → Reads took next [] last → TookPart was next last
so_far_part {was} {took} next last s read =
    let P : List ℕ → Type 0 = λ r. Reads was next r last in
    (s.full, s.plain, subst P (append-nil s.full) (reads_more was took next s.full [] last s.reads read))

-- a line was taken off with its line feed
one_with_feed : (was final : Reading) (line : List ℕ) → IsPlain line → Reads was final (line ++ 10 ∷ []) final.ended
    → TookLines was final (line ∷ [])
one_with_feed was final line plain reads = record {
  taken = line ++ 10 ∷ [];
  reads = reads;
  are = lines_of-line line [] plain;
  plain = All-cons IsPlain line [] plain (All-nil IsPlain);
  feeds = λ _. refl;
}

-- the last line was taken off
one_at_end : (was final : Reading) (line : List ℕ) → IsPlain line → 0 < length line → final.ended ≡ true
    → Reads was final line final.ended → TookLines was final (line ∷ [])
one_at_end was final line plain some ended reads = record {
  taken = line;
  reads = reads;
  are = lines_of-last line plain some;
  plain = All-cons IsPlain line [] plain (All-nil IsPlain);
  feeds = λ unseen. absurd (false≢true (sym unseen ∙ ended));
}

-- a line of this kind was taken off
next_line_of : {limit : ℕ} (next : Next) (was final : Reading) (line : List ℕ) → TookLines was final (line ∷ [])
    → final.line ≡ take limit line
    → (next ≡ Line → length line ≤ limit) → (next ≡ LongLine → limit < length line) → next ≢ End
    → TookNext limit next was final
next_line_of {limit} Line was final line took starts short long some =
    let same : line ≡ final.line = sym (starts ∙ take_all limit line (short refl)) in
    let P : List ℕ → Type 0 = λ l. TookLines was final (l ∷ []) × (length l ≤ limit) in
    subst P same (took, short refl)
next_line_of LongLine was final line took starts short long some = (line, took, long refl, starts)
next_line_of End was final line took starts short long some = absurd (some refl)

-- the byte at n is a line feed
held_feed : (held : List ℕ) (n : ℕ) → n < length held → slice_index held n ≡ 10
    → held ≡ take n held ++ (10 ∷ drop 1 (drop n held))
held_feed held n inside is =
    let cons : drop n held ≡ 10 ∷ drop 1 (drop n held) = sym (take-append-drop 1 (drop n held))
    ∙ ap (λ (f : List ℕ). f ++ drop 1 (drop n held)) (ap (take 1) (drop-cons held n 0 inside) ∙ ap (λ b. b ∷ []) is) in
    sym (take-append-drop n held) ∙ ap (λ (r : List ℕ). take n held ++ r) cons

-- the bytes that were taken off at the line feed at n
pub took_at_feed : {was now : Reading} {is_long : Bool} {limit : ℕ} (next : Next) (final : Reading) (n : ℕ)
    → SoFar was now is_long limit → n < length now.held → slice_index now.held n ≡ 10 → IsPlain (take n now.held)
    → final ≡ record now { line = take limit (now.line ++ take n now.held); held = drop 1 (drop n now.held) }
    → (next ≡ Line → (is_long ≡ false) × (length now.line + n ≤ limit))
    → (next ≡ LongLine → (is_long ≡ true) ⊎ (limit < length now.line + n)) → next ≢ End
    → TookNext limit next was final
took_at_feed {was} {now} {is_long} {limit} next final n s inside feed plain is line long some =
    let part : List ℕ = take n now.held in
    let rest : List ℕ = drop 1 (drop n now.held) in
    let size : length part ≡ n = grind (arith, common_steps, inside) in
    let whole : length (s.full ++ part) ≡ length s.full + n = grind (arith, common_steps, size) in
    let starts = s.starts in
    let cut : length now.line ≤ length s.full = grind (arith, common_steps, starts) in
    let all : IsPlain (s.full ++ part) = All-append (λ b. b ≢ 10) s.full part s.plain plain in
    let split : now.held ≡ (part ++ 10 ∷ []) ++ rest = held_feed now.held n inside feed
    ∙ sym (append_assoc part (10 ∷ []) rest) in
    let P : List ℕ → Type 0 = λ r. Reads was final r final.ended in
    let reads = subst P (sym (append_assoc s.full part (10 ∷ [])))
    (reads_more was now final s.full (part ++ 10 ∷ []) final.ended s.reads
    (reads_off now final (part ++ 10 ∷ []) s.reads.after split is)) in
    next_line_of next was final (s.full ++ part) (one_with_feed was final (s.full ++ part) all reads)
    (ap (λ (r : Reading). r.line) is ∙ ap (λ l. take limit (l ++ part)) s.starts ∙ take-grown limit s.full part)
    (λ e. let fits = line e in
    let same : now.line ≡ s.full = s.starts ∙ take_all limit s.full (s.short fits.0) in
    let sizes = ap length same in
    omega (arith, whole, fits.1, sizes))
    (λ e. grind (arith, whole, cut, long e, s.long))
    some

-- the bytes that were taken off at the end
pub took_at_end : {was final : Reading} {is_long : Bool} {limit : ℕ} (next : Next) → SoFar was final is_long limit
    → final.ended ≡ true
    → (next ≡ Line → (is_long ≡ false) × (0 < length final.line)) → (next ≡ LongLine → is_long ≡ true)
    → (next ≡ End → (is_long ≡ false) × (final.line ≡ []))
    → TookNext limit next was final
took_at_end {was} {final} {is_long} {limit} Line s ended line long end =
    let is = line refl in
    let fits = s.short is.0 in
    let same : final.line ≡ s.full = s.starts ∙ take_all limit s.full fits in
    let some : 0 < length s.full = omega (arith, is.1, ap length same) in
    next_line_of Line was final s.full (one_at_end was final s.full s.plain some ended s.reads) s.starts (λ _. fits)
    (λ e. absurd (let no : false ≡ true = cc in false≢true no)) (λ e. let no : false ≡ true = cc in false≢true no)
took_at_end {was} {final} LongLine s ended line long end =
    let over = s.long (long refl) in
    let some : 0 < length s.full = omega (arith, over) in
    next_line_of LongLine was final s.full (one_at_end was final s.full s.plain some ended s.reads) s.starts
    (λ e. absurd (let no : false ≡ true = cc in false≢true no)) (λ _. over)
    (λ e. let no : false ≡ true = cc in false≢true no)
took_at_end {was} {final} {is_long} {limit} End s ended line long end =
    let is = end refl in
    let same : final.line ≡ s.full = s.starts ∙ take_all limit s.full (s.short is.0) in
    let none : s.full ≡ [] = sym same ∙ is.1 in
    let P : List ℕ → Type 0 = λ r. Reads was final r final.ended in
    (record { taken = []; reads = subst P none s.reads; are = refl; plain = All-nil IsPlain; feeds = λ _. refl }, ended)
