use Rattle.std.proofs.Common.{◌≡◌, ◌+◌, ◌-◌, ◌≤◌, ℕ, cond, List, [], ◌++◌, length, take, drop, Result, Ok, Err, is_ok}
use Rattle.std.proofs.Common.{vec_len, sym, ap, subst, ◌∙◌, arith}
use lib.Seq.{paste}
use Rattle.std.specs.Result.{IsOk}
use Rattle.std.specs.Vec.{vec_capacity}
use Rattle.std.proofs.lemmas.List.{length-take, length-drop, take_all}
use Rattle.std.proofs.lemmas.List.Edits.{take-paste}
use Rattle.sm_map.specs.Block.{BlockValue}
use Rattle.sm_map.specs.declared.key_entry.KeyEntry.{KeyEntry}
use Rattle.sm_map.proofs.block.Block.cut.Goals as goal

moved : {T E : Type 0} (r : Result T E) (old new part : List KeyEntry) → IsOk r → new ≡ cond (is_ok r) (old ++ part) old
    → old ≡ [] → new ≡ part
moved (Ok x) old new part ok is none = is ∙ ap (λ (l : List KeyEntry). l ++ part) none
moved (Err e) old new part ok is none = cc

counted : {T E : Type 0} (r : Result T E) (old new part : ℕ) → new ≡ cond (is_ok r) (old + part) old → new ≤ old + part
counted (Ok x) old new part is = omega (arith, is)
counted (Err e) old new part is = omega (arith, is)

pub slice_bounds-extend_from_slice-end : goal.slice_bounds-extend_from_slice-end
slice_bounds-extend_from_slice-end c =
    let full : length c.self.inside.entries.items ≡ 64 =
    subst (λ (x : BlockValue). length x.entries ≡ 64) (sym c.self.view_is) c.requires.full in
    omega (
      arith,
      full,
      length-take 32 c.deref.result.now,
      c.deref.ensures.len,
      c.self.inside.entries.ok.0,
    )

pub returns-clause-lower : goal.returns-clause-lower
returns-clause-lower c =
    let empty : c.lower.inside.entries.items ≡ [] =
    subst (λ (x : BlockValue). x.entries ≡ []) (sym c.lower.view_is) c.requires.empty in
    let room : 32 ≤ vec_capacity c.lower.inside.entries - vec_len c.lower.inside.entries =
    subst (λ (x : BlockValue). 32 ≤ x.room) (sym c.lower.view_is) c.requires.room in
    let ok = c.extend_from_slice.ensures.succeeds (omega (arith, room, length-take 32 c.deref.result.now)) in
    ap (λ (x : BlockValue). x.entries) c.replace-upper.ensures.after
    ∙ (moved c.extend_from_slice.result c.lower.inside.entries.items c.extend_from_slice.new.self.items
    (take 32 c.deref.result.now) ok c.extend_from_slice.ensures.items empty
    ∙ (ap (λ (l : List KeyEntry). take 32 l) c.deref.ensures.value
    ∙ ap (λ (x : BlockValue). take 32 x.entries) c.self.view_is))

pub returns-clause-upper : goal.returns-clause-upper
returns-clause-upper c =
    let all : List KeyEntry = c.upper.inside.entries.items in
    let same : all ≡ c.args.self.now.entries =
    ap (λ (x : BlockValue). x.entries) (c.upper.view_is ∙ c.replace-upper.ensures.value) in
    let full : length all ≡ 64 = ap length same ∙ c.requires.full in
    let count : vec_len c.upper.inside.entries - 32 ≡ 32 = omega (arith, full, c.upper.inside.entries.ok.0) in
    let back : length (drop 32 all) ≡ 32 = omega (arith, full, length-drop 32 all) in
    c.truncate.ensures.items
    ∙ (ap (λ (l : List KeyEntry). take 32 l) c.copy_within.ensures.items
    ∙ (ap (λ (n : ℕ). take 32 (paste all 0 (drop 32 all) n)) count
    ∙ (take-paste all 0 (drop 32 all) 32 (omega arith) (omega (arith, back))
    ∙ (take_all 32 (drop 32 all) (omega (arith, back)) ∙ ap (λ (l : List KeyEntry). drop 32 l) same))))

pub returns-clause-lower_room : goal.returns-clause-lower_room
returns-clause-lower_room c = omega (
  arith,
  ap (λ (x : BlockValue). x.room) c.lower.view_is,
  ap (λ (x : BlockValue). x.room) c.replace-upper.ensures.after,
  counted c.extend_from_slice.result (vec_len c.lower.inside.entries) (vec_len c.extend_from_slice.new.self)
      (length (take 32 c.deref.result.now)) c.extend_from_slice.ensures.len,
  length-take 32 c.deref.result.now,
  c.extend_from_slice.ensures.capacity,
)
