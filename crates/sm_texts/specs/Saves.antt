-- The bytes that encode a map: its pairs in the order of their keys. Each pair is its kind, the length of its key, the
-- length of its text or the bits of its count, the key, and the text.
use Rattle.std.specs.Prelude.{ℕ, ◌==◌, nat_lt, if◌then◌else◌, List, [], ◌∷◌, ◌++◌, length, take, drop, Option, Some}
use Rattle.std.specs.Prelude.{None}
use Rattle.std.specs.List.{flat_map}
use Rattle.std.specs.Int.{Width, w64, byte_len, to_be_bytes, from_be_bytes, cast_signed, cast_unsigned}
use Rattle.sm_map.specs.KeyMap.{KeyPair, KeyValue, Text, Count, text_of}
use Rattle.std.specs.Global.{Vec}
use Rattle.sm_store.specs.Clients.{Automaton}
use Rattle.sm_texts.specs.declared.text_reply.TextReply.{TextReply}
use Rattle.sm_texts.specs.Texts.{is_read, parts_in, request_in, text_for, texts_after, texts_reply}

-- the kind of a value
abbrev pub value_kind : KeyValue → ℕ
value_kind (Text text) = 0
value_kind (Count count) = 1

-- the number of a value, as it is spelled
abbrev pub value_number : KeyValue → ℕ
value_number (Text text) = length text
value_number (Count count) = cast_unsigned w64 count

-- the first bytes of a pair: its kind and the two numbers
unfoldable pub front_bytes : ℕ → ℕ → ℕ → List ℕ
front_bytes kind count number = kind ∷ (to_be_bytes w64 count ++ to_be_bytes w64 number)

-- a pair
abbrev pub held_pair_bytes : KeyPair → List ℕ
held_pair_bytes pair =
    front_bytes (value_kind pair.value) (length pair.key) (value_number pair.value)
    ++ (pair.key ++ text_of (Some pair.value))

-- all pairs
abbrev pub spelled_pairs : List KeyPair → List ℕ
spelled_pairs pairs = flat_map held_pair_bytes pairs

-- a number, and the bytes after it
abbrev pub wide_number_in : Width → List ℕ → Option (ℕ × List ℕ)
wide_number_in w bytes =
    if nat_lt (length bytes) (byte_len w) then None
    else Some (from_be_bytes w (take (byte_len w) bytes), drop (byte_len w) bytes)

-- the pair of this kind, number and key, and the bytes after it
abbrev pub pair_keyed : ℕ → ℕ → List ℕ → List ℕ → Option (KeyPair × List ℕ)
pair_keyed kind number key rest =
    if kind == 0
    then (if nat_lt (length rest) number then None
    else Some (record { key = key; value = Text (take number rest) }, drop number rest))
    else Some (record { key = key; value = Count (cast_signed w64 number) }, rest)

-- the same pair, if its key, of this many bytes, is still to be read
abbrev pub pair_numbered : ℕ → ℕ → Option (ℕ × List ℕ) → Option (KeyPair × List ℕ)
pair_numbered kind count None = None
pair_numbered kind count (Some (number, rest)) =
    if nat_lt (length rest) count then None else pair_keyed kind number (take count rest) (drop count rest)

-- the same pair, if its number is still to be read
abbrev pub pair_counted : ℕ → Option (ℕ × List ℕ) → Option (KeyPair × List ℕ)
pair_counted kind None = None
pair_counted kind (Some (count, rest)) = pair_numbered kind count (wide_number_in w64 rest)

-- the first pair that bytes spell, and the bytes after it
abbrev pub pair_at : List ℕ → Option (KeyPair × List ℕ)
pair_at [] = None
pair_at (kind ∷ rest) = pair_counted kind (wide_number_in w64 rest)

-- the sample service, as the machine of a store
abbrev pub texts_service : Automaton (List KeyPair) (Vec ℕ) TextReply
texts_service =
    record {
      start = [];
      after = λ pairs request. texts_after pairs (request_in request.items);
      reply = λ pairs request. texts_reply pairs (request_in request.items);
      reads = λ request. is_read request.items;
      text = λ pairs request. text_for pairs (parts_in request.items);
      spelled = spelled_pairs;
    }
