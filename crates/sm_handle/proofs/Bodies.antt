-- The limits of bodies that are all the same.
use Rattle.std.proofs.Common.{◌≡◌, ℕ, zero, suc, refl, ◌∷◌, map, replicate, ap}
use Rattle.sm_service.specs.Service.{TextLog}

pub limits_of : (count : ℕ) (body : TextLog)
    → map (λ (each : TextLog). each.limit) (replicate count body) ≡ replicate count body.limit
limits_of zero body = refl
limits_of (suc n) body = ap (λ rest. body.limit ∷ rest) (limits_of n body)
