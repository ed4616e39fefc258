use Rattle.std.proofs.Common.{◌≡◌, ℕ, List, [], ◌∷◌, ◌++◌, ◌+◌, ◌<◌, ◌∙◌, ap, arith, length, map, take, slice_index_or}
use Rattle.std.specs.Borrow.{Bor}
use Rattle.std.specs.List.{concat}
use Rattle.std.proofs.lemmas.Grind.{common_steps}
use Rattle.std.proofs.lemmas.List.{take_more, map-append, append-nil}
use Rattle.std.proofs.lemmas.List.Folds.{concat-append}
use Rattle.sm_script.proofs.append.append_all.Goals as goal

-- the bytes of the pieces
abbrev bytes_of : List (Bor (List ℕ)) → List ℕ
bytes_of pieces = concat (map (λ piece. piece.now) pieces)

-- the bytes with one more piece
bytes_of-take_more : (pieces : List (Bor (List ℕ))) (i : ℕ) (d : Bor (List ℕ)) → i < length pieces
    → bytes_of (take (i + 1) pieces) ≡ bytes_of (take i pieces) ++ (slice_index_or pieces i d).now
bytes_of-take_more pieces i d h =
    ap bytes_of (take_more pieces i d h)
    ∙ ap concat (map-append (λ piece. piece.now) (take i pieces) (slice_index_or pieces i d ∷ []))
    ∙ concat-append (map (λ piece. piece.now) (take i pieces)) ((slice_index_or pieces i d).now ∷ [])
    ∙ ap (λ last. bytes_of (take i pieces) ++ last) (append-nil (slice_index_or pieces i d).now)

pub loop-piece-preserved : goal.loop-piece-preserved
loop-piece-preserved c =
    let piece : Bor (List ℕ) = record { ref_ptr = (0, 0); now = [] } in
    let more = bytes_of-take_more c.args.pieces.now c.loop-piece.piece-index piece c.loop-piece-test.true in
    grind (arith, common_steps, more)
