-- A walk that comes back to itself is a cycle, and a cycle may begin at each of its actors.
use Rattle.std.proofs.Common.{◌≡◌, ◌≢◌, ℕ, suc, ◌+◌, ◌<◌, ◌≤◌, ◌==◌, true, false, not, List, [], ◌∷◌, ◌++◌, length, map, take, drop, get_or, refl, sym, ap, subst, ◌∙◌, arith, ⊎_elim, if◌then◌else◌}
use Rattle.std.proofs.lemmas.Bool.{cases_Bool, eqb-true, eqb-false, ltb-false}
use Rattle.std.proofs.lemmas.List.{take-append-drop, drop_more, get_or-map, drop-map, take-map, map-append, length-map}
use Rattle.std.proofs.lemmas.List.Sums.{take_while-cons}
use Rattle.pt_types.specs.declared.graph.Edge.{Edge}
use Rattle.pt_semantics.specs.Lists.{Each, IsIn}
use Rattle.pt_semantics.specs.Cycles.{Differ}
use Rattle.pt_causality.specs.Ranking.{Apart, IsCycleInLists, EdgesLead, walked}
use Rattle.pt_causality.specs.Rings.{IsClosedBy, IsRotated, front_of}

each_append : {X : Type 0} (P : X → Type 0) (xs ys : List X) → Each P xs → Each P ys → Each P (xs ++ ys)
each_append P [] ys h k = k
each_append P (x ∷ xs) ys h k = (h.0, each_append P xs ys h.1 k)

each_parts : {X : Type 0} (P : X → Type 0) (xs ys : List X) → Each P (xs ++ ys) → Each P xs × Each P ys
each_parts P [] ys h = (tt, h)
each_parts P (x ∷ xs) ys h = let rest = each_parts P xs ys h.1 in ((h.0, rest.0), rest.1)

-- each of xs leaves another actor than each of ys
abbrev Cross : List Edge → List Edge → Type 0
Cross xs ys = Each (λ (x : Edge). Each (λ (y : Edge). x.from ≢ y.from) ys) xs

cross_more : (y : Edge) (xs ys : List Edge) → Each (λ (x : Edge). y.from ≢ x.from) xs → Cross xs ys → Cross xs (y ∷ ys)
cross_more y [] ys h k = tt
cross_more y (x ∷ xs) ys h k = ((λ e. h.0 (sym e), k.0), cross_more y xs ys h.1 k.1)

cross_none : (xs : List Edge) → Cross xs []
cross_none [] = tt
cross_none (x ∷ xs) = (tt, cross_none xs)

cross_swap : (xs ys : List Edge) → Cross xs ys → Cross ys xs
cross_swap [] ys h = cross_none ys
cross_swap (x ∷ xs) ys h = cross_more x ys xs h.0 (cross_swap xs ys h.1)

differ_parts : (xs ys : List Edge) → Differ (xs ++ ys) → Differ xs × Differ ys × Cross xs ys
differ_parts [] ys h = (tt, h, tt)
differ_parts (x ∷ xs) ys h =
    let here = each_parts (λ (d : Edge). x.from ≢ d.from) xs ys h.0 in
    let rest = differ_parts xs ys h.1 in
    ((here.0, rest.0), rest.1, (here.1, rest.2))

differ_append : (xs ys : List Edge) → Differ xs → Differ ys → Cross xs ys → Differ (xs ++ ys)
differ_append [] ys h k c = k
differ_append (x ∷ xs) ys h k c = (each_append (λ (d : Edge). x.from ≢ d.from) xs ys h.0 c.0, differ_append xs ys h.1 k c.1)

differ_swap : (xs ys : List Edge) → Differ (xs ++ ys) → Differ (ys ++ xs)
differ_swap xs ys h = let parts = differ_parts xs ys h in differ_append ys xs parts.1 parts.0 (cross_swap xs ys parts.2)

joins_append : (incoming : List (List Edge)) (a b c : ℕ) (xs ys : List Edge) → EdgesLead incoming a xs b → EdgesLead incoming b ys c → EdgesLead incoming a (xs ++ ys) c
joins_append incoming a b c [] ys h k = subst (λ n. EdgesLead incoming n ys c) (sym h) k
joins_append incoming a b c (x ∷ xs) ys h k = (h.0, h.1, joins_append incoming x.to b c xs ys h.2 k)

joins_parts : (incoming : List (List Edge)) (a c : ℕ) (xs ys : List Edge) → EdgesLead incoming a (xs ++ ys) c → (b : ℕ) × EdgesLead incoming a xs b × EdgesLead incoming b ys c
joins_parts incoming a c [] ys h = (a, refl, h)
joins_parts incoming a c (x ∷ xs) ys h = let rest = joins_parts incoming x.to c xs ys h.2 in (rest.0, (h.0, h.1, rest.1), rest.2)

-- the front of a trail up to the actor from which the edge leads, and then the edge
record IsFront (incoming : List (List Edge)) (top : ℕ) (trail : List Edge) (edge : Edge) : Type 1 where
  front : List Edge
  is : front_of edge trail ≡ front
  joined : EdgesLead incoming top front edge.from
  differ : Differ (front ++ edge ∷ [])
  along : (P : ℕ → Type 0) → Each P (walked top trail) → Each (λ (e : Edge). P e.from) (front ++ edge ∷ [])

front_at : (incoming : List (List Edge)) (top root : ℕ) (trail : List Edge) (edge : Edge) → EdgesLead incoming top trail root → Apart (walked top trail) → IsIn edge.from (walked top trail) → IsFront incoming top trail edge
front_at incoming top root [] edge joined apart from =
    let same : edge.from ≡ top = ⊎_elim (λ (e : edge.from ≡ top). e) (λ (e : ⊥). absurd e) from in
    record { front = []; is = refl; joined = sym same; differ = (tt, tt); along = λ P h. (subst P (sym same) h.0, tt) }
front_at incoming top root (d ∷ trail) edge joined apart from =
    ⊎_elim
    (λ (here : (d.from == edge.from) ≡ true).
    let same : top ≡ edge.from = sym joined.1 ∙ eqb-true d.from edge.from here in
    record {
      front = [];
      is = take_while-cons (λ (e : Edge). not (e.from == edge.from)) d trail ∙ ap (λ b. if not b then d ∷ front_of edge trail else []) here;
      joined = same;
      differ = (tt, tt);
      along = λ P h. (subst P same h.0, tt);
    })
    (λ (other : (d.from == edge.from) ≡ false).
    let on : IsIn edge.from (walked d.to trail) = ⊎_elim (λ (e : edge.from ≡ top). absurd (eqb-false d.from edge.from other (joined.1 ∙ sym e))) (λ (e : IsIn edge.from (walked d.to trail)). e) from in
    let rest = front_at incoming d.to root trail edge joined.2 apart.1 on in
    record {
      front = d ∷ rest.front;
      is = take_while-cons (λ (e : Edge). not (e.from == edge.from)) d trail ∙ ap (λ b. if not b then d ∷ front_of edge trail else []) other ∙ ap (λ es. d ∷ es) rest.is;
      joined = (joined.0, joined.1, rest.joined);
      differ = (rest.along (λ n. d.from ≢ n) (subst (λ m. Each (λ n. m ≢ n) (walked d.to trail)) (sym joined.1) apart.0), rest.differ);
      along = λ P h. (subst P (sym joined.1) h.0, rest.along P h.1);
    })
    (cases_Bool (d.from == edge.from))

each_at : (P : ℕ → Type 0) (xs : List ℕ) → ((k : ℕ) → k < length xs → P (get_or xs k 0)) → Each P xs
each_at P [] h = tt
each_at P (x ∷ xs) h = (h 0 (omega arith), each_at P xs (λ k below. h (suc k) (omega arith)))

-- a cycle of edges, begun at the place of its least actor
ring_turned : (incoming : List (List Edge)) (top : ℕ) (es : List Edge) (edge : Edge) (turned : List ℕ) → EdgesLead incoming top es top → Differ es → IsRotated (map (λ (e : Edge). e.from) es) turned → IsCycleInLists incoming turned
ring_turned incoming top es edge turned joined differ are =
    let k = are.place in
    let froms : List ℕ = map (λ (e : Edge). e.from) es in
    let first : Edge = get_or es k edge in
    let path : List Edge = drop (k + 1) es ++ take k es in
    let below : k < length es = subst (λ n. k < n) (length-map es (λ (e : Edge). e.from)) are.least.0 in
    let whole : take k es ++ drop k es ≡ es = take-append-drop k es in
    let parts = joins_parts incoming top top (take k es) (drop k es) (subst (λ (z : List Edge). EdgesLead incoming top z top) (sym whole) joined) in
    let begun : drop k es ++ take k es ≡ first ∷ path = ap (λ (z : List Edge). z ++ take k es) (drop_more es k edge below) in
    let around : EdgesLead incoming parts.0 (first ∷ path) parts.0 = subst (λ (z : List Edge). EdgesLead incoming parts.0 z parts.0) begun (joins_append incoming parts.0 top parts.0 (drop k es) (take k es) parts.2 parts.1) in
    let froms_are : drop k froms ++ take k froms ≡ map (λ (e : Edge). e.from) (first ∷ path) =
    ap (λ (z : List ℕ). z ++ take k froms) (drop-map (λ (e : Edge). e.from) k es)
    ∙ (ap (λ (z : List ℕ). map (λ (e : Edge). e.from) (drop k es) ++ z) (take-map (λ (e : Edge). e.from) k es)
    ∙ (sym (map-append (λ (e : Edge). e.from) (drop k es) (take k es)) ∙ ap (λ (z : List Edge). map (λ (e : Edge). e.from) z) begun)) in
    let at_place : get_or froms k 0 ≡ parts.0 = get_or-map (λ (e : Edge). e.from) es k edge 0 below ∙ around.1 in
    let all : Each (λ (n : ℕ). parts.0 ≤ n) froms = each_at (λ (n : ℕ). parts.0 ≤ n) froms (λ j h. subst (λ n. n ≤ get_or froms j 0) at_place (ltb-false (get_or froms j 0) (get_or froms k 0) (are.least.1 j 0 h))) in
    let halves = each_parts (λ (n : ℕ). parts.0 ≤ n) (take k froms) (drop k froms) (subst (λ (z : List ℕ). Each (λ (n : ℕ). parts.0 ≤ n) z) (sym (take-append-drop k froms)) all) in
    record {
      start = parts.0;
      edge = first;
      path = path;
      joined = around;
      differ = subst Differ begun (differ_swap (take k es) (drop k es) (subst Differ (sym whole) differ));
      actors_are = are.are ∙ froms_are;
      least = subst (λ (z : List ℕ). Each (λ (n : ℕ). parts.0 ≤ n) z) (sym are.are) (each_append (λ (n : ℕ). parts.0 ≤ n) (drop k froms) (take k froms) halves.1 halves.0);
    }

-- the cycle that an edge closes
pub ring_closed : (incoming : List (List Edge)) (trail : List Edge) (edge : Edge) (actors turned : List ℕ) → IsClosedBy incoming trail edge →
    actors ≡ map (λ (e : Edge). e.from) (front_of edge trail) ++ edge.from ∷ [] → IsRotated actors turned → IsCycleInLists incoming turned
ring_closed incoming trail edge actors turned closed around are =
    let f = front_at incoming edge.to closed.root trail edge closed.joined closed.apart closed.from in
    let froms : actors ≡ map (λ (e : Edge). e.from) (f.front ++ edge ∷ []) =
    around ∙ (ap (λ (z : List Edge). map (λ (e : Edge). e.from) z ++ edge.from ∷ []) f.is ∙ sym (map-append (λ (e : Edge). e.from) f.front (edge ∷ []))) in
    ring_turned incoming edge.to (f.front ++ edge ∷ []) edge turned
    (joins_append incoming edge.to edge.from edge.to f.front (edge ∷ []) f.joined (closed.in_list, refl, refl))
    f.differ
    (subst (λ (z : List ℕ). IsRotated z turned) froms are)
