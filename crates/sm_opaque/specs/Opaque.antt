-- The machine that counts: it knows nothing of a request but whether it only reads, and counts the others.
use Rattle.std.specs.Prelude.{ℕ, Bool, false, ◌==◌, ◌+◌, ◌%◌, ◌^◌, if◌then◌else◌, List, [], ◌∷◌}
use Rattle.std.specs.Int.{w64, to_be_bytes}
use Rattle.std.specs.Global.{Vec}
use Rattle.sm_store.specs.Clients.{Automaton}

-- a request only reads if its first byte is 1
abbrev pub only_reads : List ℕ → Bool
only_reads (kind ∷ rest) = kind == 1
only_reads [] = false

-- the count after a request, in 64 bits
abbrev pub count_after : ℕ → Bool → ℕ
count_after count reads = if reads then count else (count + 1) % 2 ^ 64

-- the machine that counts, as the machine of a store: the reply to a request is its place, which is how many requests
-- were counted before it
abbrev pub opaque_service : Automaton ℕ (Vec ℕ) ℕ
opaque_service =
    record {
      start = 0;
      after = λ count request. count_after count (only_reads request.items);
      reply = λ count request. count;
      reads = λ request. only_reads request.items;
      text = λ count request. [];
      spelled = λ count. to_be_bytes w64 count;
    }
