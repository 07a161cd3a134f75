-- The parts of the meaning's firings are a behaviour.
use Rattle.std.proofs.Common.{◌≡◌, ℕ, ◌+◌, ◌<◌, ◌≤◌, ◌==◌, ◌⊎◌, Bool, true, false, ◌&&◌, List, [], ◌∷◌, ◌++◌, Option, Some, None, ℤ, arith, refl, sym, ap, ap₂, subst, ◌∙◌, inl, inr, ⊎_elim, eq-eqb, eqb-true}
use Rattle.std.proofs.lemmas.Bool.{cases_Bool, cases_eq}
use Rattle.std.proofs.lemmas.List.Elements.{filter_map-append}
use Rattle.std.specs.List.{cons_option}
use Rattle.pt_types.specs.declared.graph.Graph.{Graph}
use Rattle.pt_types.specs.declared.kind.Kind.{Kind}
use Rattle.pt_types.specs.declared.graph.Unit.{Unit}
use Rattle.pt_tags.specs.declared.tag.Tag.{Tag}
use Rattle.pt_tags.specs.Tags.{same_tag, plus, Before}
use Rattle.pt_semantics.specs.Lists.{first_of, IsIn}
use Rattle.pt_types.specs.Ports.{when, eight, at_port}
use Rattle.pt_semantics.specs.Edges.{Edge}
use Rattle.pt_types.specs.Lookups.{kind_of}
use Rattle.pt_semantics.specs.Units.{source}
use Rattle.pt_types.specs.Groups.{output_group}
use Rattle.pt_semantics.specs.Firing.{any_present, fired}
use Rattle.pt_semantics.specs.Behaviours.{Firing, Firings, comes_along}
use Rattle.pt_semantics.specs.Meaning.{ActorFiring, leaves_actor}
use Rattle.pt_semantics.specs.Parts.{narrowed, part_of, parts}
use Rattle.pt_semantics.proofs.Tags.{Before-irrefl}
use Rattle.pt_semantics.proofs.Words.{when-true, when-false}
use Rattle.pt_semantics.proofs.Lookups.{none_some, or_else_none, when_none}
use Rattle.pt_laws.proofs.Narrow.{part_output, no_output}

pub sooner_then : (t u v : Tag) (a b d ra rb rd : ℕ) →
    ((t.time ≤ u.time) × (u.time ≤ t.time → (t.step ≤ u.step) × (u.step ≤ t.step → (ra ≤ rb) × (rb ≤ ra → a < b)))) →
    ((u.time ≤ v.time) × (v.time ≤ u.time → (u.step ≤ v.step) × (v.step ≤ u.step → (rb ≤ rd) × (rd ≤ rb → b ≤ d)))) →
    (t.time ≤ v.time) × (v.time ≤ t.time → (t.step ≤ v.step) × (v.step ≤ t.step → (ra ≤ rd) × (rd ≤ ra → a < d)))
sooner_then t u v a b d ra rb rd h k = grind arith

-- at one actor, sooner is before
pub sooner_same : (t u : Tag) (a ra : ℕ) → ((t.time ≤ u.time) × (u.time ≤ t.time → (t.step ≤ u.step) × (u.step ≤ t.step → (ra ≤ ra) × (ra ≤ ra → a < a)))) → Before t u
sooner_same t u a ra h = grind arith

-- not after, and not the same
pub sooner_strict : (t u : Tag) (a b ra rb : ℕ) → ((t.time ≤ u.time) × (u.time ≤ t.time → (t.step ≤ u.step) × (u.step ≤ t.step → (ra ≤ rb) × (rb ≤ ra → a ≤ b)))) → (a ≡ b → t.time ≡ u.time → t.step ≡ u.step → ⊥) →
    (t.time ≤ u.time) × (u.time ≤ t.time → (t.step ≤ u.step) × (u.step ≤ t.step → (ra ≤ rb) × (rb ≤ ra → a < b)))
sooner_strict t u a b ra rb h ne = grind arith

pub sooner_weak : (t u : Tag) (a b ra rb : ℕ) → ((t.time ≤ u.time) × (u.time ≤ t.time → (t.step ≤ u.step) × (u.step ≤ t.step → (ra ≤ rb) × (rb ≤ ra → a < b)))) →
    (t.time ≤ u.time) × (u.time ≤ t.time → (t.step ≤ u.step) × (u.step ≤ t.step → (ra ≤ rb) × (rb ≤ ra → a ≤ b)))
sooner_weak t u a b ra rb h = grind arith

pub sooner_edge : (t u : Tag) (wt ws a b ra rb : ℕ) → t.time + wt ≡ u.time → t.step + ws ≡ u.step → ((wt ≡ 0) → (ws ≡ 0) → ra < rb) →
    (t.time ≤ u.time) × (u.time ≤ t.time → (t.step ≤ u.step) × (u.step ≤ t.step → (ra ≤ rb) × (rb ≤ ra → a < b)))
sooner_edge t u wt ws a b ra rb et es up = grind arith

pub sooner_never : (t : Tag) (a ra : ℕ) → ((t.time ≤ t.time) × (t.time ≤ t.time → (t.step ≤ t.step) × (t.step ≤ t.step → (ra ≤ ra) × (ra ≤ ra → a < a)))) → ⊥
sooner_never t a ra h = Before-irrefl t (sooner_same t t a ra h)

pub tag_from : (t u : Tag) → t.time ≡ u.time → t.step ≡ u.step → t ≡ u
tag_from t u a b = λ i. record { time = a i; step = b i }

-- a unit's part of an actor's firing
abbrev pub the_part : Kind → ActorFiring → List (Option ℤ) → Firing
the_part kind x inputs = record { tag = x.tag; inputs = inputs; before = x.before; after = (fired kind x.before inputs).state; outputs = (fired kind x.before inputs).outputs }

abbrev pub narrow : Graph → Unit → ActorFiring → List (Option ℤ)
narrow g u x = narrowed (kind_of g u.actor) u.group x.inputs

pub record HasPart (g : Graph) (u : Unit) (x : ActorFiring) : Type 0 where
  pub actor : x.actor ≡ u.actor
  pub present : any_present (narrow g u x) ≡ true
  pub is : part_of g u x ≡ Some (the_part (kind_of g u.actor) x (narrow g u x))

pub part_cases : (g : Graph) (u : Unit) (x : ActorFiring) → (part_of g u x ≡ None) ⊎ HasPart g u x
part_cases g u x =
    ⊎_elim
    (λ (mine : (x.actor == u.actor) ≡ true).
    ⊎_elim
    (λ (here : any_present (narrow g u x) ≡ true).
    inr (record {
      actor = eqb-true x.actor u.actor mine;
      present = here;
      is = when-true (x.actor == u.actor) _ mine ∙ when-true (any_present (narrow g u x)) (Some (the_part (kind_of g u.actor) x (narrow g u x))) here;
    }))
    (λ (gone : any_present (narrow g u x) ≡ false).
    inl (when-true (x.actor == u.actor) _ mine ∙ when-false (any_present (narrow g u x)) (Some (the_part (kind_of g u.actor) x (narrow g u x))) gone))
    (cases_Bool (any_present (narrow g u x))))
    (λ (other : (x.actor == u.actor) ≡ false). inl (when-false (x.actor == u.actor) _ other))
    (cases_Bool (x.actor == u.actor))

-- a part comes from a firing
pub in_parts : (g : Graph) (u : Unit) (zs : List ActorFiring) (y : Firing) → IsIn y (parts g zs u) → (z : ActorFiring) × IsIn z zs × HasPart g u z × (y ≡ the_part (kind_of g u.actor) z (narrow g u z))
in_parts g u [] y m = absurd m
in_parts g u (z ∷ zs) y m =
    ⊎_elim
    (λ (none : part_of g u z ≡ None).
    let r = in_parts g u zs y (subst (λ o. IsIn y (cons_option o (parts g zs u))) none m) in (r.0, inr r.1, r.2, r.3))
    (λ (has : HasPart g u z).
    ⊎_elim
    (λ (e : y ≡ the_part (kind_of g u.actor) z (narrow g u z)). (z, inl refl, has, e))
    (λ (m2 : IsIn y (parts g zs u)). let r = in_parts g u zs y m2 in (r.0, inr r.1, r.2, r.3))
    (subst (λ o. IsIn y (cons_option o (parts g zs u))) has.is m))
    (part_cases g u z)

-- and a firing's part is among them
pub part_in : (g : Graph) (u : Unit) (zs : List ActorFiring) (z : ActorFiring) → IsIn z zs → HasPart g u z → IsIn (the_part (kind_of g u.actor) z (narrow g u z)) (parts g zs u)
part_in g u [] z m has = absurd m
part_in g u (y ∷ zs) z m has =
    ⊎_elim
    (λ (e : z ≡ y). subst (λ o. IsIn (the_part (kind_of g u.actor) z (narrow g u z)) (cons_option o (parts g zs u))) (sym has.is ∙ ap (part_of g u) e) (inl refl))
    (λ (r : IsIn z zs). onto (part_of g u y) (part_in g u zs z r has))
    m
  where
    onto : (o : Option Firing) → IsIn (the_part (kind_of g u.actor) z (narrow g u z)) (parts g zs u) → IsIn (the_part (kind_of g u.actor) z (narrow g u z)) (cons_option o (parts g zs u))
    onto None h = h
    onto (Some w) h = inr h

abbrev pub part_list : Graph → ActorFiring → Firings
part_list g x u = cons_option (part_of g u x) []

pub parts_push : (g : Graph) (zs : List ActorFiring) (x : ActorFiring) (u : Unit) → parts g (zs ++ x ∷ []) u ≡ parts g zs u ++ part_list g x u
parts_push g zs x u = filter_map-append (part_of g u) zs (x ∷ [])

pub parts_all : (g : Graph) (zs : List ActorFiring) (x : ActorFiring) → ◌≡◌ {A = Firings} (parts g (zs ++ x ∷ [])) (λ u. parts g zs u ++ part_list g x u)
parts_all g zs x = λ i u. parts_push g zs x u i

-- what an actor's firing sends along an edge is what its unit's part sends
pub part_along : (g : Graph) (x : ActorFiring) (f : ℕ → Option ℤ) (e : Edge) (t : Tag) → x.inputs ≡ eight f → any_present x.inputs ≡ true → x.outputs ≡ (fired (kind_of g x.actor) x.before x.inputs).outputs → comes_along (part_list g x) g e t ≡ when (leaves_actor x.actor e && same_tag (plus x.tag e.weight) t) (at_port x.outputs e.output)
part_along g x f e t shape present outs =
    ⊎_elim
    (λ (mine : x.actor ≡ e.from).
    let k : Kind = kind_of g e.from in
    let outs_e : x.outputs ≡ (fired k x.before (eight f)).outputs = outs ∙ ap₂ (λ a i. (fired (kind_of g a) x.before i).outputs) mine shape in
    let lhs_test : (e.from == x.actor) ≡ true = eq-eqb e.from x.actor (sym mine) in
    let right : when (c && true) (at_port x.outputs e.output) ≡ when (c && true) (at_port x.outputs e.output) = refl in
    ⊎_elim
    (λ (none : part_of g (source g e) x ≡ None).
    let gone : any_present (narrowed k (output_group k e.output) (eight f)) ≡ false = absent_of none mine in
    let no_out : at_port x.outputs e.output ≡ None = ap (λ o. at_port o e.output) outs_e ∙ no_output k x.before f e.output (ap any_present (sym shape) ∙ present) gone in
    ap (λ o. first_of (λ (y : Firing). when (same_tag (plus y.tag e.weight) t) (at_port y.outputs e.output)) (cons_option o [])) none
    ∙ sym (ap (when (leaves_actor x.actor e && c)) no_out ∙ when_none ℤ (leaves_actor x.actor e && c)))
    (λ (has : HasPart g (source g e) x).
    ap (λ o. first_of (λ (y : Firing). when (same_tag (plus y.tag e.weight) t) (at_port y.outputs e.output)) (cons_option o [])) has.is
    ∙ or_else_none (when c (at_port (fired k x.before (narrow g (source g e) x)).outputs e.output))
    ∙ ap (when c) (ap (λ i. at_port (fired k x.before (narrowed k (output_group k e.output) i)).outputs e.output) shape ∙ part_output k x.before f e.output ∙ ap (λ o. at_port o e.output) (sym outs_e))
    ∙ ap (λ b. when (b && c) (at_port x.outputs e.output)) (sym lhs_test))
    (part_cases g (source g e) x))
    (λ (other : x.actor ≡ e.from → ⊥).
    ap (λ o. first_of (λ (y : Firing). when (same_tag (plus y.tag e.weight) t) (at_port y.outputs e.output)) (cons_option o []))
    (when-false (x.actor == e.from) _ (differ x.actor e.from other))
    ∙ sym (ap (λ b. when (b && c) (at_port x.outputs e.output)) (differ e.from x.actor (λ z. other (sym z)))))
    (cases_eq x.actor e.from)
  where
    c : Bool
    c = same_tag (plus x.tag e.weight) t

    differ : (a b : ℕ) → (a ≡ b → ⊥) → (a == b) ≡ false
    differ a b ne = ⊎_elim (λ (y : (a == b) ≡ true). absurd (ne (eqb-true a b y))) (λ (n : (a == b) ≡ false). n) (cases_Bool (a == b))

    absent_of : part_of g (source g e) x ≡ None → x.actor ≡ e.from → any_present (narrowed (kind_of g e.from) (output_group (kind_of g e.from) e.output) (eight f)) ≡ false
    absent_of none mine =
        ⊎_elim
        (λ (here : any_present (narrow g (source g e) x) ≡ true).
        absurd (none_some (the_part (kind_of g e.from) x (narrow g (source g e) x))
        (sym none ∙ when-true (x.actor == e.from) _ (eq-eqb x.actor e.from mine) ∙ when-true (any_present (narrow g (source g e) x)) (Some (the_part (kind_of g e.from) x (narrow g (source g e) x))) here)))
        (λ (gone : any_present (narrow g (source g e) x) ≡ false). ap (λ i. any_present (narrowed (kind_of g e.from) (output_group (kind_of g e.from) e.output) i)) (sym shape) ∙ gone)
        (cases_Bool (any_present (narrow g (source g e) x)))
