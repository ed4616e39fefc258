-- If a line gives settings, they keep every rule; and no line gives out of memory.
use Rattle.std.proofs.Common.{◌≡◌, ◌≢◌, ◌<◌, ◌&&◌, ℕ, List, [], ◌∷◌, ◌++◌, length, refl, ap, sym, ◌∙◌, subst, Option}
use Rattle.std.proofs.Common.{Some, None, Ok, Err, Bool, true, false, ◌==◌, if◌then◌else◌, get_or, arith, lit<}
use Rattle.std.specs.Prelude.{is_none}
use Rattle.std.specs.List.{list_all}
use Rattle.std.proofs.lemmas.Bool.{and_parts, eqb-true}
use Rattle.std.proofs.lemmas.List.Recursion.{and_at}
use Rattle.serde_json.specs.Data.{Data}
use Rattle.sm_ranges.specs.LayoutFault.{first_layout_fault}
use Rattle.sm_ranges.specs.lemmas.Layouts.{no_fault-layout}
use Rattle.sm_rows.specs.Kept.{AreServers, AreGroups, AreShards, AreDomains}
use Rattle.sm_rows.specs.Rows.{are_shards}
use Rattle.sm_rows.specs.declared.domain_row.DomainRow.{DomainRow}
use Rattle.sm_rows.specs.declared.group_row.GroupRow.{GroupRow}
use Rattle.sm_rows.specs.declared.server_row.ServerRow.{ServerRow}
use Rattle.sm_rows.specs.declared.shard_row.ShardRow.{ShardRow}
use Rattle.sm_rows.specs.lemmas.Keeping.{is_within-true, AreServers-are_servers, AreGroups-are_groups}
use Rattle.sm_rows.specs.lemmas.Keeping.{AreShards-are_shards, AreDomains-are_domains}
use Rattle.sm_settings.specs.declared.settings_fault.SettingsFault.TheVariants.{BadDomains, BadJson, NoMemory}
use Rattle.sm_settings.specs.declared.settings_fault.SettingsFault.{SettingsFault}
use Rattle.sm_settings.specs.declared.settings.TheConstants.{MAX_OPS, MAX_KEPT, MIN_CEILING, MAX_CEILING, MAX_WORKERS}
use Rattle.sm_settings.specs.Members.{when}
use Rattle.sm_settings.specs.SettingsLine.{SettingsValues, values_in, base_rules, base_verdict, rules, value_or_fault}
use Rattle.sm_settings.specs.SettingsLine.{verdict_of, with_domains}
use Rattle.sm_settings.specs.SettingsRows.{rule_of_servers, rule_of_groups, rule_of_shards, rule_of_domains}
use Rattle.sm_settings.specs.SettingsRules.{KeepsRules, PassTests}

-- if a value is given, all tests passed and it is the value to give
all_hold : {V F : Type 0} (rs : List (Bool × F)) (s v : V) → value_or_fault rs s ≡ Ok v
    → (list_all (λ r. r.0) rs ≡ true) × (s ≡ v)
all_hold [] s v h = (refl, cc)
all_hold (r ∷ rs) s v h =
    elim r.0 as
    (λ b. (if b then value_or_fault rs s else Err r.1) ≡ Ok v → ((b && list_all (λ r. r.0) rs) ≡ true) × (s ≡ v))
    [ true ↦ λ h. all_hold rs s v h | false ↦ λ h. cc ] h

has_no_fault : {F : Type 0} (o : Option F) → is_none o ≡ true → o ≡ None
has_no_fault None h = refl
has_no_fault (Some fault) h = cc

servers_kept : (rows : List ServerRow) → rule_of_servers rows ≡ true → AreServers rows
unfolding rule_of_servers
servers_kept rows h = AreServers-are_servers rows h

groups_kept : (rows : List GroupRow) → rule_of_groups rows ≡ true → AreGroups rows
unfolding rule_of_groups
groups_kept rows h = AreGroups-are_groups rows h

shards_kept : (bounds groups : ℕ) (rows : List ShardRow) → rule_of_shards bounds groups rows ≡ true
    → (length rows ≡ bounds) × AreShards groups rows
unfolding rule_of_shards
shards_kept bounds groups rows h =
    let parts = and_parts (length rows == bounds) (are_shards groups rows) h in
    (eqb-true (length rows) bounds parts.0, AreShards-are_shards groups rows parts.1)

domains_kept : (servers : List ServerRow) (rows : List DomainRow) → rule_of_domains servers rows ≡ true
    → AreDomains servers rows
unfolding rule_of_domains
domains_kept servers rows h = AreDomains-are_domains servers rows h

tests_pass : (s : SettingsValues) → rule_of_servers s.servers ≡ true → rule_of_groups s.groups ≡ true
    → rule_of_shards (length s.bounds) (length s.groups) s.shards ≡ true → rule_of_domains s.servers s.domains ≡ true
    → PassTests s
unfolding PassTests rule_of_servers rule_of_groups rule_of_shards rule_of_domains
tests_pass s servers groups shards domains = (
  servers,
  groups,
  (and_parts (length s.shards == length s.bounds) (are_shards (length s.groups) s.shards) shards).1,
  domains,
)

keeps_rules : (s : SettingsValues) (d : Data) → list_all (λ r. r.0) (rules d s) ≡ true → KeepsRules s
keeps_rules s d all =
    let holds : (i : ℕ) → i < 11 → (get_or (rules d s) i (true, BadJson)).0 ≡ true =
    λ i within. and_at (list_all (λ r. r.0)) (λ r. r.0) refl (λ _ _. refl) (rules d s) i (true, BadJson) within all in
    let shards = shards_kept (length s.bounds) (length s.groups) s.shards (holds 5 (lit< tt)) in
    let kept = is_within-true 1 MAX_KEPT s.kept (holds 7 (lit< tt)) in
    let ceiling = is_within-true MIN_CEILING MAX_CEILING s.ceiling (holds 8 (lit< tt)) in
    let workers = is_within-true 1 MAX_WORKERS s.workers (holds 9 (lit< tt)) in
    record {
      layout = no_fault-layout s.bounds (has_no_fault (first_layout_fault s.bounds) (holds 2 (lit< tt)));
      servers = servers_kept s.servers (holds 3 (lit< tt));
      groups = groups_kept s.groups (holds 4 (lit< tt));
      one_row_a_shard = shards.0;
      shards = shards.1;
      ops = (is_within-true 0 MAX_OPS s.ops (holds 6 (lit< tt))).1;
      some_kept = kept.0;
      few_kept = kept.1;
      ceiling_reaches = ceiling.0;
      ceiling_fits = omega arith;
      some_workers = workers.0;
      few_workers = workers.1;
      domains = domains_kept s.servers s.domains (holds 10 (lit< tt));
      tests = tests_pass s (holds 3 (lit< tt)) (holds 4 (lit< tt)) (holds 5 (lit< tt)) (holds 10 (lit< tt));
    }

-- if verdict_of gives settings, they keep every rule
pub verdict_keeps : (d : Data) (v : SettingsValues) → verdict_of (Some d) ≡ Ok v → KeepsRules v
verdict_keeps d v h =
    let all = all_hold (rules d (values_in d)) (values_in d) v h in
    subst KeepsRules all.1 (keeps_rules (values_in d) d all.0)

abbrev AllOthers : {F : Type 0} → F → List (Bool × F) → Type 0
AllOthers e [] = Unit {0}
AllOthers e (r ∷ rs) = (r.1 ≢ e) × AllOthers e rs

other_fault : {V F : Type 0} (rs : List (Bool × F)) (s : V) (e : F) → AllOthers e rs → value_or_fault rs s ≢ Err e
other_fault [] s e others h = cc
other_fault (r ∷ rs) s e others h =
    elim r.0 as (λ b. (if b then value_or_fault rs s else Err r.1) ≡ Err e → ⊥)
    [ true ↦ λ h. other_fault rs s e others.1 h | false ↦ λ h. let same : r.1 ≡ e = cc in others.0 same ] h

-- verdict_of is never out of memory
pub verdict_decides : (o : Option Data) → verdict_of o ≢ Err NoMemory
verdict_decides None h = cc
verdict_decides (Some d) h =
    other_fault (rules d (values_in d)) (values_in d) NoMemory (
      λ e. cc,
      (
        λ e. cc,
        (λ e. cc, (λ e. cc, (λ e. cc, (λ e. cc, (λ e. cc, (λ e. cc, (λ e. cc, (λ e. cc, (λ e. cc, tt))))))))),
      ),
    ) h

-- if a value is given, the later rules decide, and otherwise its fault is that of all rules
pub later_rules : {V W F : Type 0} (rs qs : List (Bool × F)) (s v : V) (w : W) → value_or_fault rs s ≡ Ok v
    → value_or_fault (rs ++ qs) w ≡ value_or_fault qs w
later_rules [] qs s v w h = refl
later_rules (r ∷ rs) qs s v w h =
    elim r.0 as (λ b. (if b then value_or_fault rs s else Err r.1) ≡ Ok v
    → (if b then value_or_fault (rs ++ qs) w else Err r.1) ≡ value_or_fault qs w)
    [ true ↦ λ h. later_rules rs qs s v w h | false ↦ λ h. cc ] h

pub earlier_fault : {V W F : Type 0} (rs qs : List (Bool × F)) (s : V) (w : W) (e : F) → value_or_fault rs s ≡ Err e
    → value_or_fault (rs ++ qs) w ≡ Err e
earlier_fault [] qs s w e h = cc
earlier_fault (r ∷ rs) qs s w e h =
    elim r.0 as (λ b. (if b then value_or_fault rs s else Err r.1) ≡ Err e
    → (if b then value_or_fault (rs ++ qs) w else Err r.1) ≡ Err e)
    [ true ↦ λ h. earlier_fault rs qs s w e h | false ↦ λ h. cc ] h

-- if all rules except for that of domains hold, that rule decides
pub domains_decide : (d : Data) (v : SettingsValues) → base_verdict d ≡ Ok v
    → verdict_of (Some d)
    ≡ value_or_fault ((rule_of_domains (values_in d).servers (values_in d).domains, BadDomains) ∷ []) (values_in d)
domains_decide d v h =
    later_rules (base_rules d (values_in d))
    ((rule_of_domains (values_in d).servers (values_in d).domains, BadDomains) ∷ [])
    (with_domains (values_in d) []) v (values_in d) h

pub base_fault : (d : Data) (fault : SettingsFault) → base_verdict d ≡ Err fault → verdict_of (Some d) ≡ Err fault
base_fault d fault h =
    earlier_fault (base_rules d (values_in d))
    ((rule_of_domains (values_in d).servers (values_in d).domains, BadDomains) ∷ [])
    (with_domains (values_in d) []) (values_in d) fault h

-- the values of all rules except for that of domains are those of the line
base_values : (d : Data) (v : SettingsValues) → base_verdict d ≡ Ok v → with_domains (values_in d) [] ≡ v
base_values d v h = (all_hold (base_rules d (values_in d)) (with_domains (values_in d) []) v h).1

pub servers_judged : (d : Data) (v : SettingsValues) → base_verdict d ≡ Ok v → v.servers ≡ (values_in d).servers
servers_judged d v h = ap (λ (s : SettingsValues). s.servers) (sym (base_values d v h))

pub domains_kept_verdict : (d : Data) (v : SettingsValues) (domains : List DomainRow) → base_verdict d ≡ Ok v
    → Some domains ≡ when (rule_of_domains (values_in d).servers (values_in d).domains) (values_in d).domains
    → verdict_of (Some d) ≡ Ok (with_domains v domains)
domains_kept_verdict d v domains h some =
    domains_decide d v h ∙ by (rule_of_domains (values_in d).servers (values_in d).domains) some
  where
    by : (keeps : Bool) → Some domains ≡ when keeps (values_in d).domains
        → value_or_fault {V = SettingsValues} ((keeps, BadDomains) ∷ []) (values_in d) ≡ Ok (with_domains v domains)
    by true some =
        let same : domains ≡ (values_in d).domains = cc in
        ap (λ (s : SettingsValues). Ok (with_domains s (values_in d).domains)) (base_values d v h)
        ∙ ap (λ ds. Ok (with_domains v ds)) (sym same)
    by false some = absurd (cc)

pub domains_broken_verdict : (d : Data) (v : SettingsValues) → base_verdict d ≡ Ok v
    → None ≡ when (rule_of_domains (values_in d).servers (values_in d).domains) (values_in d).domains
    → verdict_of (Some d) ≡ Err BadDomains
domains_broken_verdict d v h none =
    domains_decide d v h ∙ by (rule_of_domains (values_in d).servers (values_in d).domains) none
  where
    by : (keeps : Bool) → None ≡ when keeps (values_in d).domains
        → value_or_fault {V = SettingsValues} ((keeps, BadDomains) ∷ []) (values_in d) ≡ Err BadDomains
    by true none = absurd (cc)
    by false none = refl
