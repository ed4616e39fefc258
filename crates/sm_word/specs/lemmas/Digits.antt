-- The parts of a number with the places of a word.
use Rattle.std.proofs.Common.{◌≡◌, ℕ, ◌+◌, ◌*◌, ◌/◌, ◌%◌, ◌^◌, ◌<◌, arith}

module _ (phase bit owner other generation : ℕ) (low : generation < 2 ^ 36) where
  pub generation_digits :
      (phase * 2 ^ 61 + bit * 2 ^ 60 + owner * 2 ^ 48 + other * 2 ^ 36 + generation) % 2 ^ 36 ≡ generation
  generation_digits = omega arith

  pub other_digits : other < 4096
      → (phase * 2 ^ 61 + bit * 2 ^ 60 + owner * 2 ^ 48 + other * 2 ^ 36 + generation) / 2 ^ 36 % 4096 ≡ other
  other_digits other_low = omega arith

  pub owner_digits : other < 4096 → owner < 4096
      → (phase * 2 ^ 61 + bit * 2 ^ 60 + owner * 2 ^ 48 + other * 2 ^ 36 + generation) / 2 ^ 48 % 4096 ≡ owner
  owner_digits other_low owner_low = omega arith

  pub admitted_digit : other < 4096 → owner < 4096 → bit < 2
      → (phase * 2 ^ 61 + bit * 2 ^ 60 + owner * 2 ^ 48 + other * 2 ^ 36 + generation) / 2 ^ 60 % 2 ≡ bit
  admitted_digit other_low owner_low bit_low = omega arith

  pub phase_digits : other < 4096 → owner < 4096 → bit < 2
      → (phase * 2 ^ 61 + bit * 2 ^ 60 + owner * 2 ^ 48 + other * 2 ^ 36 + generation) / 2 ^ 61 ≡ phase
  phase_digits other_low owner_low bit_low = omega arith
