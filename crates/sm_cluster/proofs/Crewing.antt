-- Teams that are started, one after another.
use Rattle.std.proofs.Common.{◌≡◌, ◌<◌, ◌+◌, ◌∷◌, ◌++◌, [], ◌∙◌, ℕ, List, ap, append_assoc, get_or, length, map, sym}
use Rattle.std.proofs.Common.{take}
use Rattle.std.proofs.Common.{Err, IsOk, Ok, OnOk, Result}
use Rattle.std.proofs.lemmas.Bool.{false≢true}
use Rattle.std.proofs.lemmas.List.{map-append, take_more}
use Rattle.sm_cluster.specs.Teams.{TeamValue, teams_of}

teams_of_both : (workers : ℕ) (one two : List ℕ)
    → teams_of workers (one ++ two) ≡ teams_of workers one ++ teams_of workers two
teams_of_both workers one two = map-append _ one two

-- if a team was started for the next inbox, there is one for each inbox so far
pub team_more : {A : Type 0} (server_of : A → ℕ) (workers : ℕ) (before teams grown : List TeamValue) (inboxes : List A)
    (inbox : A) (i : ℕ) → grown ≡ teams ++ teams_of workers (server_of inbox ∷ []) → i < length inboxes
    → inbox ≡ get_or inboxes i inbox
    → teams ≡ before ++ teams_of workers (map server_of (take i inboxes))
    → grown ≡ before ++ teams_of workers (map server_of (take (i + 1) inboxes))
team_more {A} server_of workers before teams grown inboxes inbox i started within is so_far =
    let front : take (i + 1) inboxes ≡ take i inboxes ++ inbox ∷ [] =
    take_more inboxes i inbox within ∙ ap (λ (x : A). take i inboxes ++ x ∷ []) (sym is) in
    let done = map server_of (take i inboxes) in
    started
    ∙ (ap (λ (list : List TeamValue). list ++ teams_of workers (server_of inbox ∷ [])) so_far
    ∙ (append_assoc before (teams_of workers done) (teams_of workers (server_of inbox ∷ []))
    ∙ (ap (λ (list : List TeamValue). before ++ list) (sym (teams_of_both workers done (server_of inbox ∷ [])))
    ∙ ap (λ (list : List ℕ). before ++ teams_of workers list)
    (sym (map-append server_of (take i inboxes) (inbox ∷ [])) ∙ sym (ap (map server_of) front)))))

-- a crew of nobody, once its start succeeded, has a team for each inbox
pub crew_started : {A E : Type 0} (server_of : A → ℕ) (workers : ℕ) (started : Result (Unit {0}) E)
    (crew before : List TeamValue) (slice inboxes : List A) → IsOk started
    → OnOk started (crew ≡ before ++ teams_of workers (map server_of slice)) → before ≡ [] → slice ≡ inboxes
    → crew ≡ teams_of workers (map server_of inboxes)
crew_started server_of workers (Ok done) crew before slice inboxes ok is none same =
    is ∙ (λ i. none i ++ teams_of workers (map server_of (same i)))
crew_started server_of workers (Err fault) crew before slice inboxes ok is none same = absurd (false≢true ok)
