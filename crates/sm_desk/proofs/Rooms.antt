-- Why there is no room on the server of a change, from the answer of the books.
use Rattle.std.proofs.Common.{◌≡◌, ℕ, Option, Some, None, Result, ap, ◌∙◌}
use Rattle.std.specs.Option.{option_map}
use Rattle.std.specs.Result.{result_err}
use Rattle.sm_place.specs.declared.place_fault.PlaceFault.{PlaceFault}
use Rattle.sm_place.specs.Books.{BooksView}
use Rattle.sm_place.specs.Room.{fit}
use Rattle.sm_desk.specs.declared.command.CommandFault.TheVariants.{Place}
use Rattle.sm_desk.specs.Desk.{room_fault}

-- the fault is the one with which the books refuse the server
pub room_fault-is : (books : BooksView) (k : ℕ) (server : Option ℕ) (a : ℕ) (answer : Result (Unit {0}) PlaceFault)
    → server ≡ Some a → answer ≡ fit books k a → option_map Place (result_err answer) ≡ room_fault books k server
room_fault-is books k (Some b) a answer is e =
    let same : a ≡ b = cc in
    ap (λ one. option_map Place (result_err one)) e ∙ ap (λ one. option_map Place (result_err (fit books k one))) same
room_fault-is books k None a answer is e = absurd (cc)
