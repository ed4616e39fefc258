-- Routes as words.
use Rattle.std.specs.Prelude.{ℕ, ◌≡◌, ◌%◌, ◌/◌, ◌==◌, if◌then◌else◌, Option, Some, None}
use Rattle.std.specs.Prelude.{List, [], ◌∷◌, ◌++◌, slice_index}
use Rattle.sm_ownership.specs.declared.route.Route.{Route}
use Rattle.sm_ownership.specs.Routes.{routes_of}

-- the route of a shard's word: the low 12 bits are the server, and those above them the generation; if the server is 0,
-- there is none
abbrev pub route_in : ℕ → ℕ → Option Route
route_in shard word =
    if word % 4096 == 0 then None
    else Some (record { shard = shard; server = word % 4096; generation = word / 4096 })

-- each word is that of its shard's last route
abbrev pub AreWordsOf : List ℕ → List Route → Type 0
AreWordsOf words publications = (shard : ℕ) → route_in shard (slice_index words shard) ≡ routes_of publications shard

-- the publications with one more, or unchanged
abbrev pub and_then : List Route → Option Route → List Route
and_then publications None = publications
and_then publications (Some route) = publications ++ route ∷ []
