-- Parts of bases: the bytes that are read are the encoding of the value, and the encoding of a value is read.
use Rattle.std.proofs.Common.{◌≡◌, ℕ, ◌^◌, ◌<◌, List, [], ◌∷◌, ◌++◌, length, Result, Ok, Err, sym, ap, subst, ◌∙◌}
use Rattle.std.proofs.Common.{append-nil}
use Rattle.std.specs.Prelude.{IfOk}
use Rattle.std.specs.List.{flat_map}
use Rattle.std.specs.Int.{w32, w64, to_be_bytes}
use Rattle.sm_store.specs.declared.item.Item.{Item}
use Rattle.sm_codec.specs.declared.fault.Fault.{Fault}
use Rattle.sm_codec.specs.declared.fault.ReadError.{ReadError}
use Rattle.sm_codec.specs.declared.stored_part.StoredPart.{StoredPart}
use Rattle.sm_codec.specs.Reading.{◌>>=◌, Decodes, all_read, items_in, number_in, part_in, string_in, version_in}
use Rattle.sm_codec.specs.Spelling.{FitsPart, PartText, item_bytes, part_bytes, part_view, string_bytes}
use Rattle.sm_codec.proofs.Batches.{items_again, items_take}
use Rattle.sm_codec.proofs.FieldLemmas.{IsBytes, Takes-then, bind_ok, bind_to, ended_takes, number_again}
use Rattle.sm_codec.proofs.FieldLemmas.{number_takes, string_again, string_takes, version_again, version_takes, wide32}
use Rattle.sm_codec.proofs.FieldLemmas.{wide64}
use Rattle.sm_codec.proofs.Heads.{taken_all}

-- a part of these fields
abbrev part_of : ℕ → List ℕ → List (Item (List ℕ)) → PartText
part_of floor state lasts = record { floor = floor; state = state; lasts = lasts }

part_takes : (bytes : List ℕ) (part : PartText) → IsBytes bytes → part_in bytes ≡ Ok part
    → FitsPart part × (bytes ≡ part_bytes part)
unfolding part_in
part_takes bytes part fits e =
    let v = bind_ok (version_in bytes) (λ rest. number_in w64 rest >>= λ floor. string_in floor.1 >>= λ state.
    number_in w32 state.1 >>= λ count. items_in count.0 count.1 >>= λ lasts.
    all_read (part_of floor.0 state.0 lasts.0) lasts.1) part e in
    let f = bind_ok (number_in w64 v.0) (λ floor. string_in floor.1 >>= λ state. number_in w32 state.1 >>= λ count.
    items_in count.0 count.1 >>= λ lasts. all_read (part_of floor.0 state.0 lasts.0) lasts.1) part v.2 in
    let a = bind_ok (string_in f.0.1) (λ state. number_in w32 state.1 >>= λ count.
    items_in count.0 count.1 >>= λ lasts. all_read (part_of f.0.0 state.0 lasts.0) lasts.1) part f.2 in
    let b = bind_ok (number_in w32 a.0.1) (λ count. items_in count.0 count.1 >>= λ lasts.
    all_read (part_of f.0.0 a.0.0 lasts.0) lasts.1) part a.2 in
    let c = bind_ok (items_in b.0.0 b.0.1) (λ lasts. all_read (part_of f.0.0 a.0.0 lasts.0) lasts.1) part b.2 in
    let made : PartText = part_of f.0.0 a.0.0 c.0.0 in
    let end = ended_takes made part c.0.1 c.2 in
    let t = version_takes bytes v.0 fits v.1 in
    let tf = number_takes w64 (2 ^ 64) wide64 v.0 f.0.0 f.0.1 t.rest_fits f.1 in
    let t0 = string_takes f.0.1 a.0.0 a.0.1 tf.0.rest_fits a.1 in
    let t1 = number_takes w32 (2 ^ 32) wide32 a.0.1 b.0.0 b.0.1 t0.0.rest_fits b.1 in
    let t2 = items_take b.0.0 b.0.1 c.0 t1.0.rest_fits c.1 in
    let items = flat_map item_bytes c.0.0 in
    let e12 = Takes-then a.0.1 (to_be_bytes w32 b.0.0) b.0.1 items c.0.1 t1.0 t2.0 in
    let e02 = Takes-then f.0.1 (string_bytes a.0.0) a.0.1 (to_be_bytes w32 b.0.0 ++ items) c.0.1 t0.0 e12 in
    let ef2 = Takes-then v.0 (to_be_bytes w64 f.0.0) f.0.1 (string_bytes a.0.0 ++ (to_be_bytes w32 b.0.0 ++ items))
    c.0.1 tf.0 e02 in
    let all = Takes-then bytes (1 ∷ []) v.0
    (to_be_bytes w64 f.0.0 ++ (string_bytes a.0.0 ++ (to_be_bytes w32 b.0.0 ++ items))) c.0.1 t ef2 in
    let counted : bytes ≡ part_bytes made =
    taken_all bytes
    (1 ∷ (to_be_bytes w64 f.0.0 ++ (string_bytes a.0.0 ++ (to_be_bytes w32 b.0.0 ++ items)))) c.0.1 all end.0
    ∙ ap (λ (k : ℕ). 1 ∷ (to_be_bytes w64 f.0.0 ++ (string_bytes a.0.0 ++ (to_be_bytes w32 k ++ items)))) (sym t2.1) in
    let below : length c.0.0 < 2 ^ 32 = subst (λ (k : ℕ). k < 2 ^ 32) (sym t2.1) t1.1 in
    subst (λ (y : PartText). FitsPart y × (bytes ≡ part_bytes y)) end.1
    (record { floor = tf.1; state = t0.1; count = below; lasts = t2.2 }, counted)

pub part_again : (part : PartText) → FitsPart part → part_in (part_bytes part) ≡ Ok part
unfolding part_in
part_again part fits =
    let lasts = flat_map item_bytes part.lasts in
    let counted = to_be_bytes w32 (length part.lasts) ++ lasts in
    let stated = string_bytes part.state ++ counted in
    let whole = to_be_bytes w64 part.floor ++ stated in
    let last : items_in (length part.lasts) lasts ≡ Ok (part.lasts, []) =
    ap (items_in (length part.lasts)) (sym (append-nil lasts)) ∙ items_again part.lasts [] fits.lasts in
    let f0 : List ℕ → Result PartText Fault = λ x. number_in w64 x >>= λ f. string_in f.1 >>= λ a.
    number_in w32 a.1 >>= λ b. items_in b.0 b.1 >>= λ c. all_read (part_of f.0 a.0 c.0) c.1 in
    let ff : ℕ × List ℕ → Result PartText Fault = λ f. string_in f.1 >>= λ a. number_in w32 a.1 >>= λ b.
    items_in b.0 b.1 >>= λ c. all_read (part_of f.0 a.0 c.0) c.1 in
    let f1 : List ℕ × List ℕ → Result PartText Fault = λ a. number_in w32 a.1 >>= λ b.
    items_in b.0 b.1 >>= λ c. all_read (part_of part.floor a.0 c.0) c.1 in
    let f2 : ℕ × List ℕ → Result PartText Fault = λ b.
    items_in b.0 b.1 >>= λ c. all_read (part_of part.floor part.state c.0) c.1 in
    let f3 : List (Item (List ℕ)) × List ℕ → Result PartText Fault = λ c.
    all_read (part_of part.floor part.state c.0) c.1 in
    let pf : ℕ × List ℕ = (part.floor, stated) in
    let p1 : List ℕ × List ℕ = (part.state, counted) in
    let p2 : ℕ × List ℕ = (length part.lasts, lasts) in
    let p3 : List (Item (List ℕ)) × List ℕ = (part.lasts, []) in
    bind_to (version_in (1 ∷ whole)) whole f0 (version_again whole)
    ∙ bind_to (number_in w64 whole) pf ff (number_again w64 (2 ^ 64) wide64 part.floor stated fits.floor)
    ∙ bind_to (string_in stated) p1 f1 (string_again part.state counted fits.state)
    ∙ bind_to (number_in w32 counted) p2 f2
    (number_again w32 (2 ^ 32) wide32 (length part.lasts) lasts fits.count)
    ∙ bind_to (items_in (length part.lasts) lasts) p3 f3 last

pub part_found : (bytes : List ℕ) (result : Result StoredPart ReadError) → IsBytes bytes
    → Decodes (λ (stored : StoredPart). part_view stored) result (part_in bytes)
    → IfOk result (λ stored. FitsPart (part_view stored) × (bytes ≡ part_bytes (part_view stored)))
part_found bytes (Ok stored) fits given = part_takes bytes (part_view stored) fits given
part_found bytes (Err error) fits given = tt
