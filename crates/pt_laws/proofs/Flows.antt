-- What comes along edges from a list of firings, and what one firing more adds.
use Rattle.std.proofs.Common.{slice_get, ◌≡◌, ℕ, suc, ◌==◌, Bool, true, false, ◌&&◌, List, [], ◌∷◌, ◌++◌, Option, Some, None, ℤ, nat_lt, refl, sym, ap, ap₂, ◌∙◌, ⊎_elim, eqb-true, append-nil}
use Rattle.std.proofs.lemmas.Bool.{cases_Bool, and_parts, cond-true, cond-false}
use Rattle.std.specs.List.{cons_option}
use Rattle.pt_tags.specs.declared.tag.Tag.{Tag}
use Rattle.pt_types.specs.declared.graph.Graph.{Graph}
use Rattle.pt_types.specs.declared.graph.Unit.{Unit}
use Rattle.pt_tags.specs.Tags.{same_tag, plus}
use Rattle.pt_semantics.specs.Lists.{first_of, or_else, IsIn}
use Rattle.pt_types.specs.Ports.{when, at_port}
use Rattle.pt_semantics.specs.Edges.{Edge, edges, wires, links}
use Rattle.pt_semantics.specs.Units.{source, same_part, leaves_unit}
use Rattle.pt_semantics.specs.Meaning.{Values, going}
use Rattle.pt_semantics.specs.Behaviours.{Firing, Firings, comes_along}
use Rattle.pt_semantics.specs.Wired.{IsWired, FedOnce}
use Rattle.pt_semantics.proofs.Words.{when-true, when-false, first_of_same}
use Rattle.pt_semantics.proofs.Lookups.{or_else_none, when_or_else, when_none, first_of-append, first_of_none, IsIn-append_left, pick, picked, at_pick_or}
use Rattle.pt_semantics.proofs.Claiming.{more}

-- what comes along these edges to an input
abbrev pub flows : Graph → List Edge → Firings → Values
flows g es q a p t = when (nat_lt t.time (suc g.until)) (first_of (λ (e : Edge). when (e.to == a && e.input == p) (comes_along q g e t)) es)

-- edges of these that lead to one input are the same
abbrev pub OneEdge : List Edge → Type 0
OneEdge es = (e d : Edge) → IsIn e es → IsIn d es → e.to ≡ d.to → e.input ≡ d.input → e ≡ d

place_of : (x : Edge) (xs : List Edge) → IsIn x xs → (i : ℕ) × (slice_get xs i ≡ Some x)
place_of x [] h = absurd h
place_of x (y ∷ ys) h =
    ⊎_elim
    (λ (e : x ≡ y). (0, ap Some (sym e)))
    (λ (m : IsIn x ys). let there = place_of x ys m in (suc there.0, there.1))
    h

pub one_edge_each : (es : List Edge) → FedOnce es → OneEdge es
one_edge_each es once e d me md to input =
    let at_e = place_of e es me in
    let at_d = place_of d es md in
    let same = once at_e.0 at_d.0 e d at_e.1 at_d.1 to input in
    same_some_edge e d (sym at_e.1 ∙ ap (slice_get es) same ∙ at_d.1)
  where
    same_some_edge : (x y : Edge) → Some x ≡ Some y → x ≡ y
    same_some_edge x y h = cc

pub edges_fed_once : (g : Graph) → IsWired g → OneEdge (edges g)
edges_fed_once g wired = one_edge_each (edges g) wired.fed_once

pub wires_fed_once : (g : Graph) → IsWired g → OneEdge (wires g)
wires_fed_once g wired e d me md = edges_fed_once g wired e d (IsIn-append_left e (wires g) (links g) me) (IsIn-append_left d (wires g) (links g) md)

one_edge : (es : List Edge) → OneEdge es → (a p : ℕ) → (e d : Edge) → IsIn e es → IsIn d es → (e.to == a && e.input == p) ≡ true → (d.to == a && d.input == p) ≡ true → e ≡ d
one_edge es once a p e d me md be bd =
    let pe = and_parts (e.to == a) (e.input == p) be in
    let pd = and_parts (d.to == a) (d.input == p) bd in
    once e d me md (eqb-true e.to a pe.0 ∙ sym (eqb-true d.to a pd.0)) (eqb-true e.input p pe.1 ∙ sym (eqb-true d.input p pd.1))

-- two ways along the same edges, one after the other
pub along_or : (es : List Edge) → OneEdge es → (a p : ℕ) (h k : Edge → Option ℤ) →
    first_of (λ (e : Edge). when (e.to == a && e.input == p) (or_else (h e) (k e))) es ≡ or_else (first_of (λ (e : Edge). when (e.to == a && e.input == p) (h e)) es) (first_of (λ (e : Edge). when (e.to == a && e.input == p) (k e)) es)
along_or es once a p h k =
    let b : Edge → Bool = λ (e : Edge). e.to == a && e.input == p in
    let one = one_edge es once a p in
    picked b (λ e. or_else (h e) (k e)) es one ∙ at_pick_or h k (pick b es) ∙ ap₂ or_else (sym (picked b h es one)) (sym (picked b k es one))

pub flows_append : (g : Graph) (es : List Edge) → OneEdge es → (q ys : Firings) (a p : ℕ) (t : Tag) → flows g es (λ u. q u ++ ys u) a p t ≡ or_else (flows g es q a p t) (flows g es ys a p t)
flows_append g es once q ys a p t =
    ap (when (nat_lt t.time (suc g.until)))
    (first_of_same _ _ es (λ e m. ap (when (e.to == a && e.input == p)) (first_of-append (λ (x : Firing). when (same_tag (plus x.tag e.weight) t) (at_port x.outputs e.output)) (q (source g e)) (ys (source g e))))
    ∙ along_or es once a p (λ e. comes_along q g e t) (λ e. comes_along ys g e t))
    ∙ when_or_else (nat_lt t.time (suc g.until)) _ _

-- the firing x of unit w alone
abbrev pub single : Unit → Firing → Firings
single w x u = cons_option (when (same_part w u) (Some x)) []

pub more_single : (c : Firings) (w : Unit) (x : Firing) → ◌≡◌ {A = Firings} (more c w x) (λ u. c u ++ single w x u)
more_single c w x = λ i u. at u i
  where
    at : (u : Unit) → more c w x u ≡ c u ++ single w x u
    at u =
        ⊎_elim
        (λ (h : same_part w u ≡ true).
        cond-true (same_part w u) (c u ++ x ∷ []) (c u) h ∙ ap (λ o. c u ++ cons_option o []) (sym (when-true (same_part w u) (Some x) h)))
        (λ (h : same_part w u ≡ false).
        cond-false (same_part w u) (c u ++ x ∷ []) (c u) h ∙ sym (append-nil (c u)) ∙ ap (λ o. c u ++ cons_option o []) (sym (when-false (same_part w u) (Some x) h)))
        (cases_Bool (same_part w u))

single_comes : (b c : Bool) (x : Firing) (k : Firing → Option ℤ) → first_of (λ y. when c (k y)) (cons_option (when b (Some x)) []) ≡ when (b && c) (k x)
single_comes true c x k = or_else_none (when c (k x))
single_comes false c x k = refl

single_along : (g : Graph) (w : Unit) (x : Firing) (e : Edge) (t : Tag) → comes_along (single w x) g e t ≡ when (leaves_unit g w e && same_tag (plus x.tag e.weight) t) (at_port x.outputs e.output)
single_along g w x e t = at (same_part w (source g e))
  where
    at : (b : Bool) → first_of (λ (y : Firing). when (same_tag (plus y.tag e.weight) t) (at_port y.outputs e.output)) (cons_option (when b (Some x)) []) ≡ when (b && same_tag (plus x.tag e.weight) t) (at_port x.outputs e.output)
    at true = or_else_none (when (same_tag (plus x.tag e.weight) t) (at_port x.outputs e.output))
    at false = refl

pub flows_single : (g : Graph) (es : List Edge) (w : Unit) (x : Firing) (a p : ℕ) (t : Tag) → flows g es (single w x) a p t ≡ going g es (leaves_unit g w) x.tag x.outputs a p t
flows_single g es w x a p t =
    ap (when (nat_lt t.time (suc g.until))) (first_of_same _ _ es (λ e m. ap (when (e.to == a && e.input == p)) (single_along g w x e t)))

pub flows_more : (g : Graph) (es : List Edge) → OneEdge es → (q : Firings) (w : Unit) (x : Firing) (a p : ℕ) (t : Tag) → flows g es (more q w x) a p t ≡ or_else (flows g es q a p t) (going g es (leaves_unit g w) x.tag x.outputs a p t)
flows_more g es once q w x a p t =
    ap (λ (z : Firings). flows g es z a p t) (more_single q w x)
    ∙ flows_append g es once q (single w x) a p t
    ∙ ap (or_else (flows g es q a p t)) (flows_single g es w x a p t)

pub flows_nothing : (g : Graph) (es : List Edge) (a p : ℕ) (t : Tag) → flows g es (λ u. []) a p t ≡ None
flows_nothing g es a p t =
    ap (when (nat_lt t.time (suc g.until))) (first_of_none _ es (λ e m. when_none ℤ (e.to == a && e.input == p)))
    ∙ when_none ℤ (nat_lt t.time (suc g.until))
