-- How the domains of servers are found, and compared with rows.
use Rattle.std.proofs.Common.{ℕ, zero, suc, ◌+◌, ◌-◌, ◌<◌, ◌≤◌, ◌≡◌, ◌≢◌, Bool, true, false, cond, eqb, ltb, List, []}
use Rattle.std.proofs.Common.{◌∷◌, ◌++◌, length, get_or, take, drop, map}
use Rattle.std.proofs.Common.{refl, ap, sym, ◌∙◌, append_assoc, append-nil, arith, inl, inr, ◌⊎◌, ◌&&◌}
use Rattle.std.specs.Prelude.{replicate, filter}
use Rattle.std.specs.List.{range_with_len}
use Rattle.std.proofs.lemmas.Bool.{ltb-true, ltb-false}
use Rattle.std.proofs.lemmas.Bool.Decides.{eqb_tells}
use Rattle.std.proofs.lemmas.List.{length-replicate, get_or-replicate}
use Rattle.std.proofs.lemmas.List.{take_all}
use Rattle.sm_rows.specs.declared.domain_row.DomainRow.{DomainRow}
use Rattle.sm_rows.specs.declared.limits.TheConstants.{MAX_DOMAIN}
use Rattle.sm_rows.specs.declared.server_row.ServerRow.{ServerRow}
use Rattle.sm_rows.specs.Domains.{is_used, domains_from, domains_of, are_same, domain_with, equal_domains}

-- the marks of the domains of the first servers, if there are this many domains
pub record AreMarked (servers : List ServerRow) (n i : ℕ) (marks : List Bool) : Type 0 where
  pub len : length marks ≡ n
  pub at : (d : ℕ) → d < n → get_or marks d false ≡ is_used (take i servers) d

pub AreMarked-none : (servers : List ServerRow) (n : ℕ) → AreMarked servers n 0 (replicate n false)
AreMarked-none servers n = record {
  len = length-replicate n false;
  at = λ d h. get_or-replicate n d false false h;
}

-- after all servers, each mark says whether a server is in the domain
pub is_used-marked : (servers : List ServerRow) (n i : ℕ) (marks : List Bool) → length servers ≤ i
    → AreMarked servers n i marks
    → (d : ℕ) → d < n → get_or marks d false ≡ is_used servers d
is_used-marked servers n i marks all marked d h =
    marked.at d h ∙ ap (λ (xs : List ServerRow). is_used xs d) (take_all i servers all)

-- the numbers from a up to b begin with a if a is below b, and otherwise there are none
range_with_len_first : (a b : ℕ) → a < b → range_with_len a (b - a) ≡ a ∷ range_with_len (a + 1) (b - (a + 1))
range_with_len_first a b h = let e : b - a ≡ suc (b - (a + 1)) = omega arith in ap (range_with_len a) e

range_with_len_none : (a b : ℕ) → b ≤ a → range_with_len a (b - a) ≡ []
range_with_len_none a b h = let e : b - a ≡ 0 = omega arith in ap (range_with_len a) e

-- the domains from low on begin with low if a server is in it
pub domains_from-used : (servers : List ServerRow) (low high : ℕ) → low < high → is_used servers low ≡ true
    → domains_from low high servers ≡ low ∷ domains_from (low + 1) high servers
domains_from-used servers low high h used =
    ap (filter (is_used servers)) (range_with_len_first low high h)
    ∙ ap (λ b. cond b (low ∷ domains_from (low + 1) high servers) (domains_from (low + 1) high servers)) used

pub domains_from-unused : (servers : List ServerRow) (low high : ℕ) → low < high → is_used servers low ≡ false
    → domains_from low high servers ≡ domains_from (low + 1) high servers
domains_from-unused servers low high h used =
    ap (filter (is_used servers)) (range_with_len_first low high h)
    ∙ ap (λ b. cond b (low ∷ domains_from (low + 1) high servers) (domains_from (low + 1) high servers)) used

pub domains_from-none : (servers : List ServerRow) (low high : ℕ) → high ≤ low → domains_from low high servers ≡ []
domains_from-none servers low high h = ap (filter (is_used servers)) (range_with_len_none low high h)

-- the numbers from a place on begin with the number at this place
drop_first : (xs : List ℕ) (at : ℕ) → at < length xs → drop at xs ≡ get_or xs at 0 ∷ drop (at + 1) xs
drop_first [] at h = absurd (omega arith)
drop_first (x ∷ xs) zero h = refl
drop_first (x ∷ xs) (suc at) h =
    let next : suc at + 1 ≡ suc (at + 1) = omega arith in
    drop_first xs at (omega arith) ∙ ap (λ i. get_or xs at 0 ∷ drop i (x ∷ xs)) (sym next)

drop_past : (xs : List ℕ) (at : ℕ) → length xs ≤ at → drop at xs ≡ []
drop_past [] zero h = refl
drop_past [] (suc at) h = refl
drop_past (x ∷ xs) zero h = absurd (omega arith)
drop_past (x ∷ xs) (suc at) h = drop_past xs at (omega arith)

-- the numbers are those of the domains if and only if the numbers from a place on are those from a domain on
pub record IsLeft (servers : List ServerRow) (numbers : List ℕ) (n at low : ℕ) : Type 0 where
  pub inside : at ≤ length numbers
  pub same : are_same numbers (domains_from 0 n servers) ≡ are_same (drop at numbers) (domains_from low n servers)

pub IsLeft-start : (servers : List ServerRow) (numbers : List ℕ) (n : ℕ) → IsLeft servers numbers n 0 0
IsLeft-start servers numbers n = record { inside = omega arith; same = refl }

-- whether the number at this place is this one
abbrev pub is_number_at : List ℕ → ℕ → ℕ → Bool
is_number_at numbers at d = ltb at (length numbers) && eqb (get_or numbers at 0) d

pub IsLeft-used : (servers : List ServerRow) (numbers : List ℕ) (n at low : ℕ) → low < n → is_used servers low ≡ true
    → is_number_at numbers at low ≡ true
    → IsLeft servers numbers n at low → IsLeft servers numbers n (at + 1) (low + 1)
IsLeft-used servers numbers n at low h used here left =
    let t = both (ltb at (length numbers)) (eqb (get_or numbers at 0) low) here in
    let inside : at < length numbers = ltb-true at (length numbers) t.0 in
    record {
      inside = omega (arith, inside);
      same = left.same
          ∙ ap (λ xs. are_same xs (domains_from low n servers)) (drop_first numbers at inside)
          ∙ ap (are_same (get_or numbers at 0 ∷ drop (at + 1) numbers)) (domains_from-used servers low n h used)
          ∙ ap (λ b. b && are_same (drop (at + 1) numbers) (domains_from (low + 1) n servers)) t.1;
    }
  where
    both : (u v : Bool) → (u && v) ≡ true → (u ≡ true) × (v ≡ true)
    both true true e = (refl, refl)
    both true false e = absurd (cc)
    both false v e = absurd (cc)

pub IsLeft-unused : (servers : List ServerRow) (numbers : List ℕ) (n at low : ℕ) → low < n → is_used servers low ≡ false
    → IsLeft servers numbers n at low → IsLeft servers numbers n at (low + 1)
IsLeft-unused servers numbers n at low h unused left = record {
  inside = left.inside;
  same = left.same ∙ ap (are_same (drop at numbers)) (domains_from-unused servers low n h unused);
}

-- if the number at this place isn't the next domain, the lists differ
pub IsLeft-other : (servers : List ServerRow) (numbers : List ℕ) (n at low : ℕ) → low < n → is_used servers low ≡ true
    → is_number_at numbers at low ≡ false
    → IsLeft servers numbers n at low → are_same numbers (domains_from 0 n servers) ≡ false
IsLeft-other servers numbers n at low h used other left =
    left.same ∙ ap (are_same (drop at numbers)) (domains_from-used servers low n h used)
    ∙ by (ltb at (length numbers)) refl
  where
    by : (b : Bool) → ltb at (length numbers) ≡ b
        → are_same (drop at numbers) (low ∷ domains_from (low + 1) n servers) ≡ false
    by true e =
        let differ : eqb (get_or numbers at 0) low ≡ false =
        sym (ap (λ b. b && eqb (get_or numbers at 0) low) e) ∙ other in
        ap (λ xs. are_same xs (low ∷ domains_from (low + 1) n servers))
        (drop_first numbers at (ltb-true at (length numbers) e))
        ∙ ap (λ b. b && are_same (drop (at + 1) numbers) (domains_from (low + 1) n servers)) differ
    by false e = ap (λ xs. are_same xs (low ∷ domains_from (low + 1) n servers))
        (drop_past numbers at (ltb-false at (length numbers) e))

-- after the last domain the lists are equal if no number is left
pub IsLeft-end : (servers : List ServerRow) (numbers : List ℕ) (n at low : ℕ) → n ≤ low
    → IsLeft servers numbers n at low → eqb at (length numbers) ≡ are_same numbers (domains_from 0 n servers)
IsLeft-end servers numbers n at low h left =
    by (eqb_tells at (length numbers))
    ∙ sym (left.same ∙ ap (are_same (drop at numbers)) (domains_from-none servers low n h))
  where
    nothing : (xs : List ℕ) (at : ℕ) → at < length xs → are_same (drop at xs) [] ≡ false
    nothing xs at h = ap (λ ys. are_same ys []) (drop_first xs at h)

    by : ((eqb at (length numbers) ≡ true) × (at ≡ length numbers))
        ⊎ ((eqb at (length numbers) ≡ false) × (at ≢ length numbers))
        → eqb at (length numbers) ≡ are_same (drop at numbers) []
    by (inl p) = p.0 ∙ sym (ap (λ ys. are_same ys []) (drop_past numbers at (omega (arith, p.1))))
    by (inr p) = p.0 ∙ sym (nothing numbers at (omega (arith, p.1, left.inside)))

pub domains_of-all : (servers : List ServerRow) (n : ℕ) → n ≡ MAX_DOMAIN + 1
    → domains_of servers ≡ domains_from 0 n servers
unfolding domains_of
domains_of-all servers n e = ap (λ high. domains_from 0 high servers) (sym e)

-- the rows made so far, and those still to be made
pub made-start : (servers : List ServerRow) (down n : ℕ) → n ≡ MAX_DOMAIN + 1
    → [] ++ map (domain_with down) (domains_from 0 n servers) ≡ equal_domains down servers
made-start servers down n e = ap (map (domain_with down)) (sym (domains_of-all servers n e))

pub made-used : (servers : List ServerRow) (rows : List DomainRow) (down n low : ℕ) → low < n
    → is_used servers low ≡ true
    → rows ++ map (domain_with down) (domains_from low n servers) ≡ equal_domains down servers
    → (rows ++ domain_with down low ∷ [])
    ++ map (domain_with down) (domains_from (low + 1) n servers) ≡ equal_domains down servers
made-used servers rows down n low h used made =
    append_assoc rows (domain_with down low ∷ []) (map (domain_with down) (domains_from (low + 1) n servers))
    ∙ sym (ap (λ ds. rows ++ map (domain_with down) ds) (domains_from-used servers low n h used))
    ∙ made

pub made-unused : (servers : List ServerRow) (rows : List DomainRow) (down n low : ℕ) → low < n
    → is_used servers low ≡ false
    → rows ++ map (domain_with down) (domains_from low n servers) ≡ equal_domains down servers
    → rows ++ map (domain_with down) (domains_from (low + 1) n servers) ≡ equal_domains down servers
made-unused servers rows down n low h unused made =
    sym (ap (λ ds. rows ++ map (domain_with down) ds) (domains_from-unused servers low n h unused)) ∙ made

pub made-end : (servers : List ServerRow) (rows : List DomainRow) (down n low : ℕ) → n ≤ low
    → rows ++ map (domain_with down) (domains_from low n servers) ≡ equal_domains down servers
    → rows ≡ equal_domains down servers
made-end servers rows down n low h made =
    sym (append-nil rows) ∙ sym (ap (λ ds. rows ++ map (domain_with down) ds) (domains_from-none servers low n h))
    ∙ made
