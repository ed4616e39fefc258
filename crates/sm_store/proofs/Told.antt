-- The reads that clients were told, each with the moment to which it belongs.
use Rattle.std.proofs.Common.{◌≡◌, ℕ, ◌≤◌, List, [], ◌∷◌, ◌++◌, length, refl, sym, ap, ◌∙◌, arith}
use Rattle.std.proofs.Common.{inl, inr, length-append}
use Rattle.std.specs.Prelude.{IsTrue}
use Rattle.std.specs.List.{AllByRecursion}
use Rattle.sm_store.specs.Clients.{Automaton}
use Rattle.sm_store.specs.Store.{Transaction}
use Rattle.sm_store.specs.Deeds.{Charter}
use Rattle.sm_store.specs.System.{Claim, Replies, Overtaken, Reads, Event, Comes, Sends, Reaches, Claims}
use Rattle.sm_store.specs.System.{IsAmong, IsReadSince, IsSo, MightHappen, system_after}
use Rattle.sm_store.specs.Linear.{DidAsk}
use Rattle.sm_store.specs.lemmas.Logs.{all_map}
use Rattle.sm_store.proofs.Asked.{moment_of}
use Rattle.sm_store.proofs.Batches.{state_in}
use Rattle.sm_store.proofs.Runs.{sound}

module _ {Q R S : Type 0} (P : Type 0) (service : Automaton S Q R) where
  -- a shard's state at a moment
  abbrev pub state_at : List (Event Q P R) → ℕ → S
  state_at moment shard = state_in service (system_after moment).log shard

  -- a read that a client was told, and the moment to which it belongs
  pub record Told : Type 0 where
    pub early : List (Event Q P R)
    pub shard : ℕ
    pub client : ℕ
    pub number : ℕ
    pub request : Q
    pub reply : R
    pub text : List ℕ
    pub told : ℕ
    pub only_reads : IsTrue (service.reads request)
    pub asked : DidAsk (system_after early).asked shard client number request
    pub reply_is : reply ≡ service.reply (state_at early shard) request
    pub text_is : text ≡ service.text (state_at early shard) request
    pub since : length early ≤ told

  abbrev pub InRun : List (Event Q P R) → Told → Type 0
  InRun events one = (late : List (Event Q P R)) × (events ≡ late ++ one.early)

  -- this is the read that is claimed
  pub record IsThat (one : Told) (shard client number : ℕ) (request : Q) (reply : R) (text : List ℕ)
      (told : ℕ) : Type 0 where
    pub shard_is : one.shard ≡ shard
    pub client_is : one.client ≡ client
    pub number_is : one.number ≡ number
    pub request_is : one.request ≡ request
    pub reply_is : one.reply ≡ reply
    pub text_is : one.text ≡ text
    pub told_is : one.told ≡ told

  -- the claim's read is among these
  abbrev pub HasRead : List Told → ℕ → Claim Q R → Type 0
  HasRead reads told (Reads shard client number request reply text) =
      (one : Told) × IsAmong one reads × IsThat one shard client number request reply text told
  HasRead reads told (Replies shard client number request reply) = Unit {0}
  HasRead reads told (Overtaken shard client number) = Unit {0}

  abbrev pub HaveReads : List Told → List (Event Q P R) → Type 0
  HaveReads reads [] = Unit {0}
  HaveReads reads (Claims claim ∷ earlier) = HasRead reads (length earlier) claim × HaveReads reads earlier
  HaveReads reads (Comes at client number request ∷ earlier) = HaveReads reads earlier
  HaveReads reads (Sends txn ∷ earlier) = HaveReads reads earlier
  HaveReads reads (Reaches which revision ∷ earlier) = HaveReads reads earlier

  read_more : (one : Told) (reads : List Told) (told : ℕ) (claim : Claim Q R) → HasRead reads told claim
      → HasRead (one ∷ reads) told claim
  read_more one reads told (Reads shard client number request reply text) has = (has.0, inr has.1, has.2)
  read_more one reads told (Replies shard client number request reply) has = tt
  read_more one reads told (Overtaken shard client number) has = tt

  reads_more : (one : Told) (reads : List Told) (moment : List (Event Q P R)) → HaveReads reads moment
      → HaveReads (one ∷ reads) moment
  reads_more one reads [] has = tt
  reads_more one reads (Claims claim ∷ earlier) has =
      (read_more one reads (length earlier) claim has.0, reads_more one reads earlier has.1)
  reads_more one reads (Comes at client number request ∷ earlier) has = reads_more one reads earlier has
  reads_more one reads (Sends txn ∷ earlier) has = reads_more one reads earlier has
  reads_more one reads (Reaches which revision ∷ earlier) has = reads_more one reads earlier has

  pub record AllReads (events : List (Event Q P R)) : Type 0 where
    pub reads : List Told
    pub within : AllByRecursion (InRun events) reads
    pub have : HaveReads reads events

  within_later : (event : Event Q P R) (events : List (Event Q P R)) (reads : List Told)
      → AllByRecursion (InRun events) reads → AllByRecursion (InRun (event ∷ events)) reads
  within_later event events reads all = all_map (InRun events) (InRun (event ∷ events))
      (λ one was. (event ∷ was.0, ap (λ (rest : List (Event Q P R)). event ∷ rest) was.1)) reads all

  told_of : (earlier : List (Event Q P R)) (shard client number : ℕ) (request : Q) (reply : R) (text : List ℕ)
      → IsReadSince service (system_after earlier).asked (system_after earlier).log shard client number request reply
      text
      → (one : Told) × InRun earlier one × IsThat one shard client number request reply text (length earlier)
  told_of earlier shard client number request reply text read =
      let moment = moment_of earlier read.later read.past read.ask read.was_asked.among read.is read.since in
      let long : length earlier ≡ length (moment.late ++ moment.early) = ap length moment.is in (
        record {
          early = moment.early;
          shard = shard;
          client = client;
          number = number;
          request = request;
          reply = reply;
          text = text;
          told = length earlier;
          only_reads = read.only_reads;
          asked = (
            read.ask,
            record {
              among = moment.asked;
              shard_is = read.was_asked.shard_is;
              client_is = read.was_asked.client_is;
              number_is = read.was_asked.number_is;
            },
            read.request_is,
          );
          reply_is = read.answer_is
              ∙ ap (λ (log : List (Transaction Q P)). service.reply (state_in service log shard) request)
              (sym moment.then_was);
          text_is = read.text_is
              ∙ ap (λ (log : List (Transaction Q P)). service.text (state_in service log shard) request)
              (sym moment.then_was);
          since = omega (arith, length-append moment.late moment.early);
        },
        (moment.late, moment.is),
        record {
          shard_is = refl;
          client_is = refl;
          number_is = refl;
          request_is = refl;
          reply_is = refl;
          text_is = refl;
          told_is = refl;
        },
      )

  same_reads : (event : Event Q P R) (earlier : List (Event Q P R))
      → ((reads : List Told) → HaveReads reads earlier → HaveReads reads (event ∷ earlier)) → AllReads earlier
      → AllReads (event ∷ earlier)
  same_reads event earlier have all = record {
    reads = all.reads;
    within = within_later event earlier all.reads all.within;
    have = have all.reads all.have;
  }

  with_claim : (earlier : List (Event Q P R)) (claim : Claim Q R)
      → IsSo service (system_after earlier).asked (system_after earlier).log claim → AllReads earlier
      → AllReads (Claims claim ∷ earlier)
  with_claim earlier (Replies shard client number request reply) so all =
      same_reads (Claims (Replies shard client number request reply)) earlier (λ reads have. (tt, have)) all
  with_claim earlier (Overtaken shard client number) so all =
      same_reads (Claims (Overtaken shard client number)) earlier (λ reads have. (tt, have)) all
  with_claim earlier (Reads shard client number request reply text) so all =
      let new = told_of earlier shard client number request reply text so in
      record {
        reads = new.0 ∷ all.reads;
        within = within_later (Claims (Reads shard client number request reply text)) earlier (new.0 ∷ all.reads)
            (new.1, all.within);
        have = ((new.0, inl refl, new.2), reads_more new.0 all.reads earlier all.have);
      }

  pub all_reads : (charter : Charter Q P) (events : List (Event Q P R)) → MightHappen service charter events
      → AllReads events
  all_reads charter [] might = record { reads = []; within = tt; have = tt }
  all_reads charter (Claims claim ∷ earlier) might =
      with_claim earlier claim (sound service charter (Claims claim ∷ earlier) might).claims.0
      (all_reads charter earlier might.1)
  all_reads charter (Comes at client number request ∷ earlier) might =
      same_reads (Comes at client number request) earlier (λ reads have. have) (all_reads charter earlier might.1)
  all_reads charter (Sends txn ∷ earlier) might =
      same_reads (Sends txn) earlier (λ reads have. have) (all_reads charter earlier might.1)
  all_reads charter (Reaches which revision ∷ earlier) might =
      same_reads (Reaches which revision) earlier (λ reads have. have) (all_reads charter earlier might.1)
