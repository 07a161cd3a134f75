-- Pairs of platforms that passed their checks are lawful, and none stands twice.
use Rattle.std.proofs.Common.{◌≡◌, ℕ, ◌+◌, ◌≤◌, true, false, not, ◌&&◌, List, [], ◌∷◌, ◌++◌, length, map, get_or, refl, ap, subst, sym, ◌∙◌, nat_lt, ◌==◌, bytes_eq, None, ⊎_elim}
use Rattle.std.specs.List.{list_all, list_any}
use Rattle.std.proofs.lemmas.Bool.{and_parts, and_from, or_parts, or_from, or_cases, or_left, or_right, eqb-true, ne_eqb, not_from_false, not-true, both_ways, false_from_ne_true}
use Rattle.std.proofs.lemmas.List.Quantifiers.{position-Some}
use Rattle.std.proofs.lemmas.List.Folds.{list_all-append}
use Rattle.std.proofs.lemmas.Slice.Eq.{bytes_eq-Decides}
use Rattle.pt_types.specs.Groups.{is_pair_of}
use Rattle.pt_types.specs.Kinds as kinds
use Rattle.pt_types.specs.Lawful.{pair_is_lawful}
use Rattle.pt_types.specs.Lawful as lawful
use Rattle.pt_graph_text.specs.declared.document.PairText.{PairText}
use Rattle.pt_graph.specs.Ranges.{is_time_number, pair_in_range}
use Rattle.pt_graph.specs.Known.{itself, is_platform, same_pair, pair_again_from}
use Rattle.pt_graph.specs.Graphs.{platform_number, pair_from}
use Rattle.pt_types.proofs.Conditions.{none_if}
use Rattle.pt_graph.proofs.InRange.{time_of}
use Rattle.pt_graph.proofs.Numbered.{number_is, number_below, map_append, if_none}

-- known names with one number are one name
same_name : (ns : List (List ℕ)) (p q : List ℕ) → length ns ≤ 1024 → is_platform ns p ≡ true → is_platform ns q ≡ true → platform_number ns p ≡ platform_number ns q → p ≡ q
same_name ns p q few known also same =
    let one = number_is itself ns p few known in
    let other = number_is itself ns q few also in
    let index : one.0 ≡ other.0 = sym one.3 ∙ same ∙ other.3 in
    let here = (bytes_eq-Decides (get_or ns one.0 []) p).0 (position-Some (λ x. bytes_eq x p) ns one.0 [] one.1).1 in
    let there = (bytes_eq-Decides (get_or ns other.0 []) q).0 (position-Some (λ x. bytes_eq x q) ns other.0 [] other.1).1 in
    sym here ∙ ap (λ i. get_or ns i []) index ∙ there

two_platforms : (ns : List (List ℕ)) (p : PairText) → length ns ≤ 1024 → (is_platform ns p.a && is_platform ns p.b) ≡ true → not (bytes_eq p.a p.b) ≡ true → not (platform_number ns p.a == platform_number ns p.b) ≡ true
two_platforms ns p few known other =
    let both = and_parts (is_platform ns p.a) (is_platform ns p.b) known in
    not_from_false (platform_number ns p.a == platform_number ns p.b) (ne_eqb (platform_number ns p.a) (platform_number ns p.b) (λ (e : platform_number ns p.a ≡ platform_number ns p.b).
    both_ways (bytes_eq p.a p.b) (not-true (bytes_eq p.a p.b) other) ((bytes_eq-Decides p.a p.b).1 (same_name ns p.a p.b few both.0 both.1 e))))

pair_lawful : (ns : List (List ℕ)) (p : PairText) → length ns ≤ 1024 → pair_in_range p ≡ true → (is_platform ns p.a && is_platform ns p.b) ≡ true → pair_is_lawful (length ns) (pair_from ns p) ≡ true
pair_lawful ns p few range known =
    let both = and_parts (is_platform ns p.a) (is_platform ns p.b) known in
    let parts = and_parts (is_time_number p.error) (not (bytes_eq p.a p.b)) range in
    let a = platform_number ns p.a in
    let b = platform_number ns p.b in
    and_from (nat_lt a (length ns) && nat_lt b (length ns) && not (a == b)) (kinds.is_time (pair_from ns p).error)
    (and_from (nat_lt a (length ns) && nat_lt b (length ns)) (not (a == b))
    (and_from (nat_lt a (length ns)) (nat_lt b (length ns)) (number_below itself ns p.a few both.0) (number_below itself ns p.b few both.1))
    (two_platforms ns p few known parts.1))
    (time_of p.error parts.0)

pub pairs_lawful : (ns : List (List ℕ)) (ps : List PairText) → length ns ≤ 1024 → list_all pair_in_range ps ≡ true → list_all (λ (p : PairText). is_platform ns p.a && is_platform ns p.b) ps ≡ true → list_all (pair_is_lawful (length ns)) (map (pair_from ns) ps) ≡ true
pairs_lawful ns [] few range known = refl
pairs_lawful ns (p ∷ ps) few range known =
    let ranges = and_parts (pair_in_range p) (list_all pair_in_range ps) range in
    let knowns = and_parts (is_platform ns p.a && is_platform ns p.b) (list_all (λ (q : PairText). is_platform ns q.a && is_platform ns q.b) ps) known in
    and_from (pair_is_lawful (length ns) (pair_from ns p)) (list_all (pair_is_lawful (length ns)) (map (pair_from ns) ps)) (pair_lawful ns p few ranges.0 knowns.0) (pairs_lawful ns ps few ranges.1 knowns.1)

-- pairs of other platforms have other numbers
other_pair : (ns : List (List ℕ)) (p q : PairText) → length ns ≤ 1024 → (is_platform ns p.a && is_platform ns p.b) ≡ true → (is_platform ns q.a && is_platform ns q.b) ≡ true → same_pair p q ≡ false → is_pair_of (platform_number ns p.a) (platform_number ns p.b) (pair_from ns q) ≡ false
other_pair ns p q few known also other =
    let ps = and_parts (is_platform ns p.a) (is_platform ns p.b) known in
    let qs = and_parts (is_platform ns q.a) (is_platform ns q.b) also in
    let a = platform_number ns p.a in
    let b = platform_number ns p.b in
    let c = platform_number ns q.a in
    let d = platform_number ns q.b in
    let straight = bytes_eq p.a q.a && bytes_eq p.b q.b in
    let crossed = bytes_eq p.a q.b && bytes_eq p.b q.a in
    false_from_ne_true (is_pair_of a b (pair_from ns q)) (λ (h : is_pair_of a b (pair_from ns q) ≡ true).
    ⊎_elim
    (λ (e : (c == a && d == b) ≡ true).
    let both = and_parts (c == a) (d == b) e in
    let first = (bytes_eq-Decides p.a q.a).1 (same_name ns p.a q.a few ps.0 qs.0 (sym (eqb-true c a both.0))) in
    let second = (bytes_eq-Decides p.b q.b).1 (same_name ns p.b q.b few ps.1 qs.1 (sym (eqb-true d b both.1))) in
    both_ways (same_pair p q) other (or_left straight crossed (and_from (bytes_eq p.a q.a) (bytes_eq p.b q.b) first second)))
    (λ (e : (c == b && d == a) ≡ true).
    let both = and_parts (c == b) (d == a) e in
    let first = (bytes_eq-Decides p.a q.b).1 (same_name ns p.a q.b few ps.0 qs.1 (sym (eqb-true d a both.1))) in
    let second = (bytes_eq-Decides p.b q.a).1 (same_name ns p.b q.a few ps.1 qs.0 (sym (eqb-true c b both.0))) in
    both_ways (same_pair p q) other (or_right straight crossed (and_from (bytes_eq p.a q.b) (bytes_eq p.b q.a) first second)))
    (or_cases (c == a && d == b) (c == b && d == a) h))

none_seen : (ns : List (List ℕ)) (p : PairText) (seen : List PairText) → length ns ≤ 1024 → (is_platform ns p.a && is_platform ns p.b) ≡ true → list_all (λ (q : PairText). is_platform ns q.a && is_platform ns q.b) seen ≡ true → list_any (same_pair p) seen ≡ false → list_any (is_pair_of (platform_number ns p.a) (platform_number ns p.b)) (map (pair_from ns) seen) ≡ false
none_seen ns p [] few known knowns h = refl
none_seen ns p (q ∷ seen) few known knowns h =
    let others = or_parts (same_pair p q) (list_any (same_pair p) seen) h in
    let all = and_parts (is_platform ns q.a && is_platform ns q.b) (list_all (λ (x : PairText). is_platform ns x.a && is_platform ns x.b) seen) knowns in
    or_from (is_pair_of (platform_number ns p.a) (platform_number ns p.b) (pair_from ns q)) (list_any (is_pair_of (platform_number ns p.a) (platform_number ns p.b)) (map (pair_from ns) seen))
    (other_pair ns p q few known all.0 others.0) (none_seen ns p seen few known all.1 others.1)

-- where no pair of the file stands twice, no pair of numbers does
pub no_pair_again : (ns : List (List ℕ)) (seen : List PairText) (i : ℕ) (ps : List PairText) → length ns ≤ 1024 → list_all (λ (q : PairText). is_platform ns q.a && is_platform ns q.b) seen ≡ true → list_all (λ (q : PairText). is_platform ns q.a && is_platform ns q.b) ps ≡ true → pair_again_from seen i ps ≡ None → lawful.pair_repeats_from (map (pair_from ns) seen) i (map (pair_from ns) ps) ≡ None
no_pair_again ns seen i [] few before known h = refl
no_pair_again ns seen i (p ∷ ps) few before known h =
    let parts = none_if (list_any (same_pair p) seen) i (pair_again_from (seen ++ p ∷ []) (i + 1) ps) h in
    let knowns = and_parts (is_platform ns p.a && is_platform ns p.b) (list_all (λ (q : PairText). is_platform ns q.a && is_platform ns q.b) ps) known in
    let now : list_all (λ (q : PairText). is_platform ns q.a && is_platform ns q.b) (seen ++ p ∷ []) ≡ true =
    list_all-append (λ (q : PairText). is_platform ns q.a && is_platform ns q.b) seen (p ∷ []) ∙ and_from (list_all (λ (q : PairText). is_platform ns q.a && is_platform ns q.b) seen) ((is_platform ns p.a && is_platform ns p.b) && true) before (and_from (is_platform ns p.a && is_platform ns p.b) true knowns.0 refl) in
    let rest = no_pair_again ns (seen ++ p ∷ []) (i + 1) ps few now knowns.1 parts.1 in
    if_none (list_any (is_pair_of (platform_number ns p.a) (platform_number ns p.b)) (map (pair_from ns) seen)) i (lawful.pair_repeats_from (map (pair_from ns) seen ++ pair_from ns p ∷ []) (i + 1) (map (pair_from ns) ps))
    (none_seen ns p seen few knowns.0 before parts.0)
    (subst (λ xs. lawful.pair_repeats_from xs (i + 1) (map (pair_from ns) ps) ≡ None) (map_append (pair_from ns) seen (p ∷ [])) rest)
