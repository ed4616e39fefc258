-- Records: the bytes that are read are the encoding of the value, and the encoding of a value is read.
use Rattle.std.proofs.Common.{◌≡◌, ℕ, ◌^◌, ◌<◌, List, Option, Some, None, Ok, sym, ap, ◌∙◌}
use Rattle.std.proofs.Common.{arith}
use Rattle.std.proofs.lemmas.Option.{none-some}
use Rattle.sm_ownership.specs.declared.record.Record.{Record}
use Rattle.sm_ranges.specs.declared.stand.Stand.{Stand}
use Rattle.sm_ranges.specs.declared.stand.Stand.TheVariants.{Vacant, Serving, Prepared, Forwarding, Taken, Paused}
use Rattle.sm_word.specs.Word.{IsWellFormed, phase_of, word_of}
use Rattle.sm_word.specs.lemmas.Words.{bit_below, other_below, owner_below}
use Rattle.sm_codec.specs.declared.stored_record.StoredRecord.{StoredRecord}
use Rattle.sm_codec.specs.Reading.{pair_in}
use Rattle.sm_codec.specs.Spelling.{pair_bytes, record_bytes}
use Rattle.sm_codec.proofs.FieldLemmas.{IsBytes, done, ok_is}
use Rattle.sm_codec.proofs.Heads.{pair_again, pair_takes}

abbrev pub SamePair : ℕ × ℕ → ℕ × ℕ → Type 0
SamePair one other = one ≡ other

-- the pair that the bytes encode is the one that is read
pair_is : (bytes : List ℕ) (first second count ceiling : ℕ) → first < 2 ^ 64 → second < 2 ^ 64
    → bytes ≡ pair_bytes first second → pair_in bytes ≡ Ok (count, ceiling) → SamePair (first, second) (count, ceiling)
pair_is bytes first second count ceiling one two is read =
    let those : ℕ × ℕ = (first, second) in
    let these : ℕ × ℕ = (count, ceiling) in
    let again : pair_in bytes ≡ done those = ap pair_in is ∙ pair_again first second one two in
    ok_is those these (sym again ∙ read)

pub record_found : (bytes : List ℕ) (word process : ℕ) (state : Record) → IsBytes bytes
    → pair_in bytes ≡ Ok (word, process) → word_of state ≡ word
    → bytes ≡ record_bytes (record { state = state; process = process })
record_found bytes word process state fits read is =
    (pair_takes bytes (word, process) fits read).0 ∙ ap (λ (w : ℕ). pair_bytes w process) (sym is)

phase_below : (stand : Stand) → phase_of stand < 8
phase_below Vacant = omega arith
phase_below (Serving owner) = omega arith
phase_below (Prepared owner next) = omega arith
phase_below (Forwarding owner next) = omega arith
phase_below (Taken owner previous) = omega arith
phase_below (Paused owner) = omega arith

-- a word is a number of 64 bits
pub word_below : (state : Record) → IsWellFormed state → word_of state < 2 ^ 64
word_below state formed =
    let phase = phase_below state.stand in
    let owner = owner_below state.stand formed.servers in
    let other = other_below state.stand formed.servers in
    let bit = bit_below state.admitted in
    omega (arith, formed.generation)

-- the word and the process of a record are those that are read
pub record_is : (bytes : List ℕ) (word process : ℕ) (stored : StoredRecord) → IsWellFormed stored.state
    → stored.process < 2 ^ 64 → bytes ≡ record_bytes stored → pair_in bytes ≡ Ok (word, process)
    → (word_of stored.state ≡ word) × (stored.process ≡ process)
record_is bytes word process stored formed two is read =
    let both = pair_is bytes (word_of stored.state) stored.process word process (word_below stored.state formed) two is
    read in
    (ap (λ (p : ℕ × ℕ). p.0) both, ap (λ (p : ℕ × ℕ). p.1) both)

some_same : {A : Type 0} (x y : A) → Some x ≡ Some y → x ≡ y
some_same x y e = cc

pub record_same : (stored : StoredRecord) (state : Record) (process : ℕ) → Some stored.state ≡ Some state
    → stored.process ≡ process → done stored ≡ done (record { state = state; process = process })
record_same stored state process state_is process_is =
    ap (λ (r : Record). done (record { state = r; process = stored.process })) (some_same stored.state state state_is)
    ∙ ap (λ (n : ℕ). done (record { state = state; process = n })) process_is

-- a missing value isn't some value
pub unread : {A : Type 0} (value : A) (found : Option A) → found ≡ None → found ≡ Some value → ⊥
unread value found none some = none-some value (sym none ∙ some)
