-- A list that is divided into parts is joined again.
use Rattle.std.proofs.Common.{◌≡◌, ℕ, zero, suc, ◌+◌, ◌-◌, ◌*◌, ◌<◌, ◌≤◌, List, [], ◌∷◌, ◌++◌, refl, sym, ap, ◌∙◌}
use Rattle.std.proofs.Common.{arith, append_assoc, append-nil, length, take, drop, length-drop}
use Rattle.std.specs.BTreeMap.{insert_entry}
use Rattle.std.specs.Ordering.{nat_cmp}
use Rattle.std.proofs.lemmas.List.{take-append-drop}
use Rattle.sm_shard.specs.declared.base_part.TheConstants.{PART_BYTES, PART_CLIENTS}
use Rattle.sm_shard.specs.Bases.{Lasts, Part, cut, floor_in, part_count, parts_holding, put_in}

none_left : {A : Type 0} (xs : List A) → length xs ≤ 0 → xs ≡ []
none_left [] none = refl
none_left (x ∷ xs) none = absurd (omega arith)

module _ {R : Type 0} where
  -- the bytes of parts, one after the other
  abbrev pub states_in : List (Part R) → List ℕ
  states_in [] = []
  states_in (part ∷ parts) = part.state ++ states_in parts

  -- the last requests of parts, one after the other
  abbrev pub lasts_in : List (Part R) → Lasts R
  lasts_in [] = []
  lasts_in (part ∷ parts) = part.lasts ++ lasts_in parts

  cut_states : (floor count : ℕ) (state : List ℕ) (lasts : Lasts R) → length state ≤ count * PART_BYTES
      → states_in (cut floor count state lasts) ≡ state
  cut_states floor zero state lasts enough = sym (none_left state (omega arith))
  cut_states floor (suc more) state lasts enough =
      let left = length-drop PART_BYTES state in
      ap (λ (rest : List ℕ). take PART_BYTES state ++ rest)
      (cut_states floor more (drop PART_BYTES state) (drop PART_CLIENTS lasts) (omega arith))
      ∙ take-append-drop PART_BYTES state

  cut_lasts : (floor count : ℕ) (state : List ℕ) (lasts : Lasts R) → length lasts ≤ count * PART_CLIENTS
      → lasts_in (cut floor count state lasts) ≡ lasts
  cut_lasts floor zero state lasts enough = sym (none_left lasts (omega arith))
  cut_lasts floor (suc more) state lasts enough =
      let left = length-drop PART_CLIENTS lasts in
      ap (λ (rest : Lasts R). take PART_CLIENTS lasts ++ rest)
      (cut_lasts floor more (drop PART_BYTES state) (drop PART_CLIENTS lasts) (omega arith))
      ∙ take-append-drop PART_CLIENTS lasts

  pub states_again : (floor : ℕ) (state : List ℕ) (lasts : Lasts R)
      → states_in (parts_holding floor state lasts) ≡ state
  states_again floor state lasts = cut_states floor (part_count state lasts) state lasts (omega arith)

  pub lasts_again : (floor : ℕ) (state : List ℕ) (lasts : Lasts R)
      → lasts_in (parts_holding floor state lasts) ≡ lasts
  lasts_again floor state lasts = cut_lasts floor (part_count state lasts) state lasts (omega arith)

  cut_floor : (floor count : ℕ) (state : List ℕ) (lasts : Lasts R) → 0 < count
      → floor_in (cut floor count state lasts) ≡ floor
  cut_floor floor zero state lasts some = absurd (omega arith)
  cut_floor floor (suc more) state lasts some = refl

  pub floor_again : (floor : ℕ) (state : List ℕ) (lasts : Lasts R)
      → floor_in (parts_holding floor state lasts) ≡ floor
  floor_again floor state lasts = cut_floor floor (part_count state lasts) state lasts (omega arith)

  pub states_push : (parts : List (Part R)) (part : Part R)
      → states_in (parts ++ part ∷ []) ≡ states_in parts ++ part.state
  states_push [] part = append-nil part.state
  states_push (p ∷ parts) part =
      ap (λ (rest : List ℕ). p.state ++ rest) (states_push parts part)
      ∙ sym (append_assoc p.state (states_in parts) part.state)

  pub lasts_push : (parts : List (Part R)) (part : Part R)
      → lasts_in (parts ++ part ∷ []) ≡ lasts_in parts ++ part.lasts
  lasts_push [] part = append-nil part.lasts
  lasts_push (p ∷ parts) part =
      ap (λ (rest : Lasts R). p.lasts ++ rest) (lasts_push parts part)
      ∙ sym (append_assoc p.lasts (lasts_in parts) part.lasts)

  pub put-append : (entries xs ys : Lasts R) → put_in entries (xs ++ ys) ≡ put_in (put_in entries xs) ys
  put-append entries [] ys = refl
  put-append entries (x ∷ xs) ys = put-append (insert_entry nat_cmp entries x.0 x.1) xs ys

  -- one more part is cut
  pub cut_more :
      (floor : ℕ) (parts : List (Part R)) (count i : ℕ) (state : List ℕ) (lasts : Lasts R) (all : List (Part R))
      → i < count → parts ++ cut floor (count - i) state lasts ≡ all
      → (parts ++ record { state = take PART_BYTES state; lasts = take PART_CLIENTS lasts; floor = floor } ∷ [])
      ++ cut floor (count - (i + 1)) (drop PART_BYTES state) (drop PART_CLIENTS lasts) ≡ all
  cut_more floor parts count i state lasts all below is =
      let left : count - i ≡ suc (count - (i + 1)) = omega arith in
      append_assoc parts (record { state = take PART_BYTES state; lasts = take PART_CLIENTS lasts; floor = floor } ∷ [])
      (cut floor (count - (i + 1)) (drop PART_BYTES state) (drop PART_CLIENTS lasts))
      ∙ sym (ap (λ (n : ℕ). parts ++ cut floor n state lasts) left)
      ∙ is

  -- no more is cut
  pub cut_done :
      (floor : ℕ) (parts : List (Part R)) (count i : ℕ) (state : List ℕ) (lasts : Lasts R) (all : List (Part R))
      → count ≤ i → parts ++ cut floor (count - i) state lasts ≡ all → parts ≡ all
  cut_done floor parts count i state lasts all over is =
      let none : count - i ≡ 0 = omega arith in
      sym (append-nil parts) ∙ sym (ap (λ (n : ℕ). parts ++ cut floor n state lasts) none) ∙ is
