-- A word has only one record.
use Rattle.std.proofs.Common.{◌≡◌, ℕ, ◌/◌, ◌%◌, ◌^◌, ◌<◌, Bool, true, false, refl, sym, ap, ◌∙◌, arith}
use Rattle.std.specs.Prelude.{Option, None, Some, IfSome, unwrap_or}
use Rattle.sm_ranges.specs.ServerId.{IsServer}
use Rattle.sm_ranges.specs.declared.stand.Stand.{Stand}
use Rattle.sm_ranges.specs.declared.stand.Stand.TheVariants.{Vacant, Serving, Prepared, Forwarding, Taken, Paused}
use Rattle.sm_ownership.specs.declared.record.Record.{Record}
use Rattle.sm_word.specs.lemmas.Digits.{generation_digits, other_digits, owner_digits, admitted_digit, phase_digits}
use Rattle.sm_ranges.specs.Stand.{other_of, owner_of, owner_number, other_number}
use Rattle.sm_word.specs.Word.{phase_of, bit_of, word_of, NamesServers, IsWellFormed}

number_below : (server : Option ℕ) → IfSome server IsServer → unwrap_or server 0 < 4096
number_below None is = omega arith
number_below (Some server) is = let most = is.1 in omega arith

pub owner_below : (stand : Stand) → NamesServers stand → owner_number stand < 4096
owner_below stand named = number_below (owner_of stand) named.0.0

pub other_below : (stand : Stand) → NamesServers stand → other_number stand < 4096
other_below stand named = number_below (other_of stand) named.0.1

pub bit_below : (bit : Bool) → bit_of bit < 2
bit_below true = omega arith
bit_below false = omega arith

same_stand : (one two : Stand) → phase_of one ≡ phase_of two → owner_number one ≡ owner_number two
    → other_number one ≡ other_number two → one ≡ two
same_stand Vacant Vacant phase owner other = refl
same_stand (Serving a) (Serving b) phase owner other = ap Serving owner
same_stand (Prepared a x) (Prepared b y) phase owner other = λ i. Prepared (owner i) (other i)
same_stand (Forwarding a x) (Forwarding b y) phase owner other = λ i. Forwarding (owner i) (other i)
same_stand (Taken a x) (Taken b y) phase owner other = λ i. Taken (owner i) (other i)
same_stand (Paused a) (Paused b) phase owner other = ap Paused owner
same_stand _ _ phase owner other = absurd (omega arith)

same_bit : (one two : Bool) → bit_of one ≡ bit_of two → one ≡ two
same_bit true true bit = refl
same_bit false false bit = refl
same_bit _ _ bit = absurd (omega arith)

-- the parts of a well-formed record's word
module _ (state : Record) (formed : IsWellFormed state) where
  low : state.generation < 2 ^ 36
  low = omega (arith, formed.generation)

  pub word_generation : word_of state % 2 ^ 36 ≡ state.generation
  word_generation = generation_digits (phase_of state.stand) (bit_of state.admitted) (owner_number state.stand)
      (other_number state.stand) state.generation low

  pub word_other : word_of state / 2 ^ 36 % 4096 ≡ other_number state.stand
  word_other =
      other_digits (phase_of state.stand) (bit_of state.admitted) (owner_number state.stand)
      (other_number state.stand) state.generation low
      (other_below state.stand formed.servers)

  pub word_owner : word_of state / 2 ^ 48 % 4096 ≡ owner_number state.stand
  word_owner =
      owner_digits (phase_of state.stand) (bit_of state.admitted) (owner_number state.stand)
      (other_number state.stand) state.generation low
      (other_below state.stand formed.servers) (owner_below state.stand formed.servers)

  pub word_admitted : word_of state / 2 ^ 60 % 2 ≡ bit_of state.admitted
  word_admitted =
      admitted_digit (phase_of state.stand) (bit_of state.admitted) (owner_number state.stand)
      (other_number state.stand) state.generation low
      (other_below state.stand formed.servers) (owner_below state.stand formed.servers) (bit_below state.admitted)

  pub word_phase : word_of state / 2 ^ 61 ≡ phase_of state.stand
  word_phase =
      phase_digits (phase_of state.stand) (bit_of state.admitted) (owner_number state.stand)
      (other_number state.stand) state.generation low
      (other_below state.stand formed.servers) (owner_below state.stand formed.servers) (bit_below state.admitted)

-- if two well-formed records have the same word, they are the same
pub word_once : (one two : Record) → IsWellFormed one → IsWellFormed two → word_of one ≡ word_of two → one ≡ two
word_once one two first second same =
    let generation = sym (word_generation one first) ∙ ap (λ w. w % 2 ^ 36) same ∙ word_generation two second in
    let other = sym (word_other one first) ∙ ap (λ w. w / 2 ^ 36 % 4096) same ∙ word_other two second in
    let owner = sym (word_owner one first) ∙ ap (λ w. w / 2 ^ 48 % 4096) same ∙ word_owner two second in
    let bit = sym (word_admitted one first) ∙ ap (λ w. w / 2 ^ 60 % 2) same ∙ word_admitted two second in
    let phase = sym (word_phase one first) ∙ ap (λ w. w / 2 ^ 61) same ∙ word_phase two second in
    let stand = same_stand one.stand two.stand phase owner other in
    let admitted = same_bit one.admitted two.admitted bit in
    λ i. record { stand = stand i; admitted = admitted i; generation = generation i }
