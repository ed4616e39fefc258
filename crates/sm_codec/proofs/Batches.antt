-- Batches: the bytes that are read are the encoding of the value, and the encoding of a value is read.
use Rattle.std.proofs.Common.{◌≡◌, ℕ, zero, suc, ◌^◌, ◌<◌, List, [], ◌∷◌, ◌++◌, length, All, Result, Ok, Err, refl}
use Rattle.std.proofs.Common.{sym}
use Rattle.std.proofs.Common.{ap, subst, ◌∙◌, append-nil, append_assoc}
use Rattle.std.specs.Prelude.{IfOk}
use Rattle.std.specs.Global.{Vec}
use Rattle.std.specs.List.{flat_map, AllByRecursion}
use Rattle.std.specs.Int.{w32, w64, to_be_bytes}
use Rattle.std.proofs.lemmas.List.Concat.{flat_map-cons}
use Rattle.std.proofs.lemmas.List.Elements.{All-from_recursion}
use Rattle.sm_ownership.specs.declared.mode.Mode.{Mode}
use Rattle.sm_store.specs.declared.item.Item.{Item}
use Rattle.sm_codec.specs.declared.fault.Fault.{Fault}
use Rattle.sm_codec.specs.declared.fault.ReadError.{ReadError}
use Rattle.sm_codec.specs.declared.stored_batch.StoredBatch.{StoredBatch}
use Rattle.sm_codec.specs.Reading.{◌>>=◌, Decodes, batch_in, byte_in, all_read, item_in, items_in, mode_in, number_in}
use Rattle.sm_codec.specs.Reading.{server_in}
use Rattle.sm_codec.specs.Reading.{string_in, version_in}
use Rattle.sm_codec.specs.Spelling.{Batch, FitsBatch, FitsItem, batch_bytes, batch_view, item_bytes, item_view}
use Rattle.sm_codec.specs.Spelling.{item_views}
use Rattle.sm_codec.specs.Spelling.{mode_number, string_bytes}
use Rattle.sm_codec.proofs.FieldLemmas.{IsBytes, Takes, Takes-then, bind_ok, byte_takes, ended_takes, mode_again}
use Rattle.sm_codec.proofs.FieldLemmas.{mode_takes}
use Rattle.sm_codec.proofs.FieldLemmas.{number_again}
use Rattle.sm_codec.proofs.FieldLemmas.{number_takes, ok_is, server_again, server_takes, string_again, string_takes}
use Rattle.sm_codec.proofs.FieldLemmas.{bind_to, version_again, version_takes, wide32, wide64}
use Rattle.sm_codec.proofs.Heads.{taken_all}

-- a request of these fields
abbrev item_of : ℕ → ℕ → Mode → ℕ → ℕ → List ℕ → Item (List ℕ)
item_of client number mode hops forgets request =
    record { client = client; number = number; mode = mode; hops = hops; forgets = forgets; request = request }

item_takes : (bytes : List ℕ) (x : Item (List ℕ) × List ℕ) → IsBytes bytes → item_in bytes ≡ Ok x
    → Takes bytes (item_bytes x.0) x.1 × FitsItem x.0
unfolding item_in
item_takes bytes x fits e =
    let a = bind_ok (number_in w64 bytes) (λ client. number_in w64 client.1 >>= λ number. mode_in number.1 >>= λ mode.
    byte_in mode.1 >>= λ hops. number_in w64 hops.1 >>= λ forgets. string_in forgets.1 >>= λ request.
    Ok (item_of client.0 number.0 mode.0 hops.0 forgets.0 request.0, request.1)) x e in
    let b = bind_ok (number_in w64 a.0.1) (λ number. mode_in number.1 >>= λ mode. byte_in mode.1 >>= λ hops.
    number_in w64 hops.1 >>= λ forgets. string_in forgets.1 >>= λ request.
    Ok (item_of a.0.0 number.0 mode.0 hops.0 forgets.0 request.0, request.1)) x a.2 in
    let c = bind_ok (mode_in b.0.1) (λ mode. byte_in mode.1 >>= λ hops. number_in w64 hops.1 >>= λ forgets.
    string_in forgets.1 >>= λ request.
    Ok (item_of a.0.0 b.0.0 mode.0 hops.0 forgets.0 request.0, request.1)) x b.2 in
    let h = bind_ok (byte_in c.0.1) (λ hops. number_in w64 hops.1 >>= λ forgets. string_in forgets.1 >>= λ request.
    Ok (item_of a.0.0 b.0.0 c.0.0 hops.0 forgets.0 request.0, request.1)) x c.2 in
    let f = bind_ok (number_in w64 h.0.1) (λ forgets. string_in forgets.1 >>= λ request.
    Ok (item_of a.0.0 b.0.0 c.0.0 h.0.0 forgets.0 request.0, request.1)) x h.2 in
    let d = bind_ok (string_in f.0.1) (λ request.
    Ok (item_of a.0.0 b.0.0 c.0.0 h.0.0 f.0.0 request.0, request.1)) x f.2 in
    let t0 = number_takes w64 (2 ^ 64) wide64 bytes a.0.0 a.0.1 fits a.1 in
    let t1 = number_takes w64 (2 ^ 64) wide64 a.0.1 b.0.0 b.0.1 t0.0.rest_fits b.1 in
    let t2 = mode_takes b.0.1 c.0 t1.0.rest_fits c.1 in
    let th = byte_takes c.0.1 h.0 t2.0.rest_fits h.1 in
    let tf = number_takes w64 (2 ^ 64) wide64 h.0.1 f.0.0 f.0.1 th.rest_fits f.1 in
    let t3 = string_takes f.0.1 d.0.0 d.0.1 tf.0.rest_fits d.1 in
    let tail = to_be_bytes w64 f.0.0 ++ string_bytes d.0.0 in
    let ef3 = Takes-then h.0.1 (to_be_bytes w64 f.0.0) f.0.1 (string_bytes d.0.0) d.0.1 tf.0 t3.0 in
    let eh3 = Takes-then c.0.1 (h.0.0 ∷ []) h.0.1 tail d.0.1 th ef3 in
    let e23 = Takes-then b.0.1 (to_be_bytes w32 (mode_number c.0.0)) c.0.1 (h.0.0 ∷ tail) d.0.1 t2.0 eh3 in
    let e13 = Takes-then a.0.1 (to_be_bytes w64 b.0.0) b.0.1
    (to_be_bytes w32 (mode_number c.0.0) ++ (h.0.0 ∷ tail)) d.0.1 t1.0 e23 in
    let e03 = Takes-then bytes (to_be_bytes w64 a.0.0) a.0.1
    (to_be_bytes w64 b.0.0 ++ (to_be_bytes w32 (mode_number c.0.0) ++ (h.0.0 ∷ tail))) d.0.1 t0.0 e13 in
    let made : Item (List ℕ) × List ℕ = (item_of a.0.0 b.0.0 c.0.0 h.0.0 f.0.0 d.0.0, d.0.1) in
    subst (λ (y : Item (List ℕ) × List ℕ). Takes bytes (item_bytes y.0) y.1 × FitsItem y.0) (ok_is made x d.2)
    (e03, record { client = t0.1; number = t1.1; mode = t2.1; forgets = tf.1; request = t3.1 })

item_again : (item : Item (List ℕ)) (rest : List ℕ) → FitsItem item → item_in (item_bytes item ++ rest) ≡ Ok (
  item,
  rest,
)
unfolding item_in
item_again item rest fits =
    let client = to_be_bytes w64 item.client in
    let number = to_be_bytes w64 item.number in
    let mode = to_be_bytes w32 (mode_number item.mode) in
    let forgets = to_be_bytes w64 item.forgets in
    let request = string_bytes item.request in
    let hops = item.hops ∷ (forgets ++ request) in
    let left = item.hops ∷ (forgets ++ (request ++ rest)) in
    let regrouped : item_bytes item ++ rest ≡ client ++ (number ++ (mode ++ left)) =
    append_assoc client (number ++ (mode ++ hops)) rest
    ∙ ap (λ (x : List ℕ). client ++ x) (append_assoc number (mode ++ hops) rest
    ∙ ap (λ (x : List ℕ). number ++ x) (append_assoc mode hops rest
    ∙ ap (λ (x : List ℕ). mode ++ (item.hops ∷ x)) (append_assoc forgets request rest))) in
    ap item_in regrouped
    ∙ rw (
      number_again w64 (2 ^ 64) wide64 item.client (number ++ (mode ++ left)) fits.client,
      number_again w64 (2 ^ 64) wide64 item.number (mode ++ left) fits.number,
      mode_again item.mode left fits.mode,
      number_again w64 (2 ^ 64) wide64 item.forgets (request ++ rest) fits.forgets,
      string_again item.request rest fits.request,
    ) refl

pub items_take : (n : ℕ) (bytes : List ℕ) (x : List (Item (List ℕ)) × List ℕ) → IsBytes bytes → items_in n bytes ≡ Ok x
    → Takes bytes (flat_map item_bytes x.0) x.1 × (length x.0 ≡ n) × AllByRecursion FitsItem x.0
unfolding items_in
items_take zero bytes x fits e =
    subst (λ (y : List (Item (List ℕ)) × List ℕ). Takes bytes (flat_map item_bytes y.0) y.1 × (length y.0 ≡ 0)
    × AllByRecursion FitsItem y.0) (ok_is ([], bytes) x e) (record { parts = refl; rest_fits = fits }, refl, tt)
items_take (suc n) bytes x fits e =
    let a = bind_ok (item_in bytes) (λ first. items_in n first.1 >>= λ others. Ok (first.0 ∷ others.0, others.1)) x e
    in
    let b = bind_ok (items_in n a.0.1) (λ others. Ok (a.0.0 ∷ others.0, others.1)) x a.2 in
    let first = item_takes bytes a.0 fits a.1 in
    let second = items_take n a.0.1 b.0 first.0.rest_fits b.1 in
    let both = Takes-then bytes (item_bytes a.0.0) a.0.1 (flat_map item_bytes b.0.0) b.0.1 first.0 second.0 in
    let made : List (Item (List ℕ)) × List ℕ = (a.0.0 ∷ b.0.0, b.0.1) in
    subst (λ (y : List (Item (List ℕ)) × List ℕ). Takes bytes (flat_map item_bytes y.0) y.1 × (length y.0 ≡ suc n)
    × AllByRecursion FitsItem y.0) (ok_is made x b.2)
    (rw flat_map-cons both, ap suc second.1, (first.1, second.2))

pub items_again : (items : List (Item (List ℕ))) (rest : List ℕ) → AllByRecursion FitsItem items
    → items_in (length items) (flat_map item_bytes items ++ rest) ≡ Ok (items, rest)
unfolding items_in
items_again [] rest fits = refl
items_again (item ∷ items) rest fits =
    let regrouped : flat_map item_bytes (item ∷ items) ++ rest ≡ item_bytes item ++ (flat_map item_bytes items ++
    rest) =
    ap (λ (x : List ℕ). x ++ rest) (flat_map-cons item_bytes item items)
    ∙ append_assoc (item_bytes item) (flat_map item_bytes items) rest in
    ap (items_in (suc (length items))) regrouped
    ∙ rw (item_again item (flat_map item_bytes items ++ rest) fits.0, items_again items rest fits.1) refl

pub batch_takes : (bytes : List ℕ) (batch : Batch) → IsBytes bytes → batch_in bytes ≡ Ok batch
    → FitsBatch batch × (bytes ≡ batch_bytes batch)
unfolding batch_in
batch_takes bytes batch fits e =
    let v = bind_ok (version_in bytes) (λ rest. server_in rest >>= λ server. number_in w32 server.1 >>= λ count.
    items_in count.0 count.1 >>= λ items. all_read (record { server = server.0; items = items.0 }) items.1) batch e in
    let a = bind_ok (server_in v.0) (λ server. number_in w32 server.1 >>= λ count.
    items_in count.0 count.1 >>= λ items. all_read (record { server = server.0; items = items.0 }) items.1) batch v.2
    in
    let b = bind_ok (number_in w32 a.0.1) (λ count. items_in count.0 count.1 >>= λ items.
    all_read (record { server = a.0.0; items = items.0 }) items.1) batch a.2 in
    let c = bind_ok (items_in b.0.0 b.0.1) (λ items. all_read (record { server = a.0.0; items = items.0 }) items.1)
    batch
    b.2 in
    let made : Batch = record { server = a.0.0; items = c.0.0 } in
    let end = ended_takes made batch c.0.1 c.2 in
    let t = version_takes bytes v.0 fits v.1 in
    let t0 = server_takes v.0 a.0 t.rest_fits a.1 in
    let t1 = number_takes w32 (2 ^ 32) wide32 a.0.1 b.0.0 b.0.1 t0.0.rest_fits b.1 in
    let t2 = items_take b.0.0 b.0.1 c.0 t1.0.rest_fits c.1 in
    let e12 = Takes-then a.0.1 (to_be_bytes w32 b.0.0) b.0.1 (flat_map item_bytes c.0.0) c.0.1 t1.0 t2.0 in
    let e02 = Takes-then v.0 (to_be_bytes w32 a.0.0) a.0.1 (to_be_bytes w32 b.0.0 ++ flat_map item_bytes c.0.0) c.0.1
    t0.0 e12 in
    let all = Takes-then bytes (1 ∷ []) v.0
    (to_be_bytes w32 a.0.0 ++ (to_be_bytes w32 b.0.0 ++ flat_map item_bytes c.0.0)) c.0.1 t e02 in
    let counted : bytes ≡ batch_bytes made =
    taken_all bytes (1 ∷ (to_be_bytes w32 a.0.0 ++ (to_be_bytes w32 b.0.0 ++ flat_map item_bytes c.0.0))) c.0.1 all
    end.0
    ∙ ap (λ (k : ℕ). 1 ∷ (to_be_bytes w32 a.0.0 ++ (to_be_bytes w32 k ++ flat_map item_bytes c.0.0))) (sym t2.1) in
    let below : length c.0.0 < 2 ^ 32 = subst (λ (k : ℕ). k < 2 ^ 32) (sym t2.1) t1.1 in
    subst (λ (y : Batch). FitsBatch y × (bytes ≡ batch_bytes y)) end.1
    (record { server = t0.1; count = below; items = t2.2 }, counted)

pub batch_again : (batch : Batch) → FitsBatch batch → batch_in (batch_bytes batch) ≡ Ok batch
unfolding batch_in
batch_again batch fits =
    let items = flat_map item_bytes batch.items in
    let counted = to_be_bytes w32 (length batch.items) ++ items in
    let whole = to_be_bytes w32 batch.server ++ counted in
    let last : items_in (length batch.items) items ≡ Ok (batch.items, []) =
    ap (items_in (length batch.items)) (sym (append-nil items)) ∙ items_again batch.items [] fits.items in
    let f0 : List ℕ → Result Batch Fault = λ x. server_in x >>= λ a. number_in w32 a.1 >>= λ b.
    items_in b.0 b.1 >>= λ c. all_read (record { server = a.0; items = c.0 }) c.1 in
    let f1 : ℕ × List ℕ → Result Batch Fault = λ a. number_in w32 a.1 >>= λ b.
    items_in b.0 b.1 >>= λ c. all_read (record { server = a.0; items = c.0 }) c.1 in
    let f2 : ℕ × List ℕ → Result Batch Fault = λ b.
    items_in b.0 b.1 >>= λ c. all_read (record { server = batch.server; items = c.0 }) c.1 in
    let f3 : List (Item (List ℕ)) × List ℕ → Result Batch Fault = λ c.
    all_read (record { server = batch.server; items = c.0 }) c.1 in
    let p1 : ℕ × List ℕ = (batch.server, counted) in
    let p2 : ℕ × List ℕ = (length batch.items, items) in
    let p3 : List (Item (List ℕ)) × List ℕ = (batch.items, []) in
    bind_to (version_in (1 ∷ whole)) whole f0 (version_again whole)
    ∙ bind_to (server_in whole) p1 f1 (server_again batch.server counted fits.server)
    ∙ bind_to (number_in w32 counted) p2 f2
    (number_again w32 (2 ^ 32) wide32 (length batch.items) items fits.count)
    ∙ bind_to (items_in (length batch.items) items) p3 f3 last

pub batch_found : (bytes : List ℕ) (result : Result StoredBatch ReadError) → IsBytes bytes
    → Decodes (λ (stored : StoredBatch). batch_view stored) result (batch_in bytes)
    → IfOk result (λ stored. FitsBatch (batch_view stored) × (bytes ≡ batch_bytes (batch_view stored)))
batch_found bytes (Ok stored) fits given = batch_takes bytes (batch_view stored) fits given
batch_found bytes (Err error) fits given = tt

-- the requests of a batch that fits, at each place
pub requests_fit : (items : List (Item (Vec ℕ))) → AllByRecursion FitsItem (item_views items)
    → AllByRecursion (λ (item : Item (Vec ℕ)). length item.request.items < 2 ^ 32) items
requests_fit [] fits = tt
requests_fit (item ∷ items) fits = (fits.0.request, requests_fit items fits.1)

pub request_fits : (items : List (Item (Vec ℕ))) → AllByRecursion FitsItem (item_views items)
    → All (λ (item : Item (Vec ℕ)). length item.request.items < 2 ^ 32) items
request_fits items fits =
    All-from_recursion (λ (item : Item (Vec ℕ)). length item.request.items < 2 ^ 32) items (requests_fit items fits)

-- the numbers of a request, and then its bytes
pub item_joined : (item : Item (Vec ℕ)) (code : ℕ) → code ≡ mode_number item.mode
    → (old front far most new bytes : List ℕ) → bytes ≡ item.request.items
    → front ≡ old ++ (to_be_bytes w64 item.client ++ (to_be_bytes w64 item.number ++ to_be_bytes w32 code))
    → far ≡ front ++ item.hops ∷ [] → most ≡ far ++ to_be_bytes w64 item.forgets → new ≡ most ++ string_bytes bytes
    → new ≡ old ++ item_bytes (item_view item)
item_joined item code code_is old front far most new bytes bytes_is first hopped forgot second =
    let client = to_be_bytes w64 item.client in
    let number = to_be_bytes w64 item.number in
    let mode = to_be_bytes w32 code in
    let forgets = to_be_bytes w64 item.forgets in
    let tail = forgets ++ string_bytes bytes in
    let rest = item.hops ∷ tail in
    let joined : new ≡ old ++ (client ++ (number ++ (mode ++ rest))) =
    second ∙ ap (λ (x : List ℕ). x ++ string_bytes bytes) forgot
    ∙ append_assoc far forgets (string_bytes bytes)
    ∙ ap (λ (x : List ℕ). x ++ tail) hopped
    ∙ append_assoc front (item.hops ∷ []) tail
    ∙ ap (λ (x : List ℕ). x ++ rest) first
    ∙ append_assoc old (client ++ (number ++ mode)) rest
    ∙ ap (λ (x : List ℕ). old ++ x) (append_assoc client (number ++ mode) rest
    ∙ ap (λ (x : List ℕ). client ++ x) (append_assoc number mode rest)) in
    subst (λ (k : ℕ). new ≡ old ++ (client ++ (number ++ (to_be_bytes w32 k
    ++ (item.hops ∷ (forgets ++ string_bytes item.request.items))))))
    code_is
    (subst (λ (x : List ℕ). new ≡ old ++ (client ++ (number ++ (mode
    ++ (item.hops ∷ (forgets ++ string_bytes x)))))) bytes_is joined)

-- the bytes of one request more
pub put_more : (front : List (Item (Vec ℕ))) (item : Item (Vec ℕ))
    → flat_map item_bytes (item_views (front ++ item ∷ []))
    ≡ flat_map item_bytes (item_views front) ++ item_bytes (item_view item)
put_more [] item = flat_map-cons item_bytes (item_view item) [] ∙ append-nil (item_bytes (item_view item))
put_more (x ∷ front) item =
    flat_map-cons item_bytes (item_view x) (item_views (front ++ item ∷ []))
    ∙ ap (λ (r : List ℕ). item_bytes (item_view x) ++ r) (put_more front item)
    ∙ sym (append_assoc (item_bytes (item_view x)) (flat_map item_bytes (item_views front))
    (item_bytes (item_view item)))
    ∙ ap (λ (r : List ℕ). r ++ item_bytes (item_view item))
    (sym (flat_map-cons item_bytes (item_view x) (item_views front)))
