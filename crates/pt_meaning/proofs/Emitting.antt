-- What goes along one edge more.
use Rattle.std.proofs.Common.{◌≡◌, ℕ, zero, suc, ◌+◌, ◌<◌, ◌≤◌, ◌==◌, ◌&&◌, Bool, true, false, nat_lt, Some, None, Option, ℤ, List, [], ◌∷◌, refl, sym, ap, ap₂, subst, ◌∙◌, arith, eq-eqb, lt-ltb, drop, drop-cons, get_or, length}
use Rattle.std.proofs.lemmas.Bool.Decides.{nat_tests}
use Rattle.std.proofs.lemmas.Grind.{common_steps}
use Rattle.pt_tags.specs.declared.tag.Tag.{Tag}
use Rattle.pt_tags.specs.Tags.{same_tag, plus}
use Rattle.pt_types.specs.declared.graph.Graph.{Graph}
use Rattle.pt_types.specs.declared.graph.Edge.{Edge}
use Rattle.pt_types.specs.Ports.{when, at_port}
use Rattle.pt_semantics.specs.Lists.{or_else, first_of, Each}
use Rattle.pt_semantics.specs.Meaning.{Values, added, going, leaves_actor}
use Rattle.pt_meaning.specs.declared.place.EventPlace.{EventPlace}
use Rattle.pt_meaning.specs.Waiting.{value_at}

tag_is : (t u : Tag) → same_tag t u ≡ true → t.time ≡ u.time
tag_is t u h = grind (arith, nat_tests, common_steps)

in_time : (m n : ℕ) → m ≤ n → nat_lt m (suc n) ≡ true
in_time m n l = lt-ltb m (suc n) (omega arith)

one_value : (b c time leaves : Bool) (found : Option ℤ) (v : ℤ) → (c ≡ true → time ≡ true) → leaves ≡ true → found ≡ Some v
    → when (b && c) (Some v) ≡ when time (or_else (when b (when (leaves && c) found)) None)
one_value true true time leaves found v h l f = rw (h refl, l, f) refl
one_value true false true leaves found v h l f = rw l refl
one_value true false false leaves found v h l f = refl
one_value false c true leaves found v h l f = refl
one_value false c false leaves found v h l f = refl

-- an event that is put where an edge leads is what goes along it
pub goes_one : (g : Graph) (actor : ℕ) (e : Edge) (t later : Tag) (outputs : List (Option ℤ)) (place : EventPlace) (v : ℤ) → e.from ≡ actor → at_port outputs e.output ≡ Some v
    → later ≡ plus t e.weight → later.time ≤ g.until → place.tag ≡ later → place.actor ≡ e.to → place.port ≡ e.input
    → value_at place v ≡ going g (e ∷ []) (leaves_actor actor) t outputs
goes_one g actor e t later outputs place v from value is within tag to port = λ i a p u. at a p u i
  where
    at : (a p : ℕ) (u : Tag) → value_at place v a p u ≡ going g (e ∷ []) (leaves_actor actor) t outputs a p u
    at a p u =
        ap (λ (q : Tag). when (place.actor == a && place.port == p && same_tag q u) (Some v)) (tag ∙ is)
        ∙ ap₂ (λ x y. when (x == a && y == p && same_tag (plus t e.weight) u) (Some v)) to port
        ∙ one_value (e.to == a && e.input == p) (same_tag (plus t e.weight) u) (nat_lt u.time (suc g.until)) (leaves_actor actor e) (at_port outputs e.output) v
        (λ s. subst (λ z. nat_lt z (suc g.until) ≡ true) (tag_is (plus t e.weight) u s) (in_time (plus t e.weight).time g.until (subst (λ (z : Tag). z.time ≤ g.until) is within)))
        (eq-eqb e.from actor from) value

or_assoc : (x y z : Option ℤ) → or_else (or_else x y) z ≡ or_else x (or_else y z)
or_assoc None y z = refl
or_assoc (Some v) y z = refl

split : (time : Bool) (x rest : Option ℤ) → when time (or_else x rest) ≡ or_else (when time (or_else x None)) (when time rest)
split true None rest = refl
split true (Some v) rest = refl
split false x rest = refl

-- one edge, and then the others
pub goes_on : (g : Graph) (leaves : Edge → Bool) (t : Tag) (outputs : List (Option ℤ)) (w : Values) (e : Edge) (es : List Edge)
    → added (added w (going g (e ∷ []) leaves t outputs)) (going g es leaves t outputs) ≡ added w (going g (e ∷ es) leaves t outputs)
goes_on g leaves t outputs w e es = λ i a p u. at a p u i
  where
    at : (a p : ℕ) (u : Tag) → added (added w (going g (e ∷ []) leaves t outputs)) (going g es leaves t outputs) a p u ≡ added w (going g (e ∷ es) leaves t outputs) a p u
    at a p u =
        or_assoc (w a p u) (going g (e ∷ []) leaves t outputs a p u) (going g es leaves t outputs a p u)
        ∙ ap (or_else (w a p u)) (sym (split (nat_lt u.time (suc g.until)) (when (e.to == a && e.input == p) (when (leaves e && same_tag (plus t e.weight) u) (at_port outputs e.output)))
        (first_of (λ (x : Edge). when (x.to == a && x.input == p) (when (leaves x && same_tag (plus t x.weight) u) (at_port outputs x.output))) es)))

nothing_more : (time : Bool) (x : Option ℤ) → or_else x (when time None) ≡ x
nothing_more true None = refl
nothing_more true (Some v) = refl
nothing_more false None = refl
nothing_more false (Some v) = refl

-- no edge is left
pub goes_no_more : (g : Graph) (leaves : Edge → Bool) (t : Tag) (outputs : List (Option ℤ)) (w : Values) → added w (going g [] leaves t outputs) ≡ w
goes_no_more g leaves t outputs w = λ i a p u. nothing_more (nat_lt u.time (suc g.until)) (w a p u) i

-- a fact of each is one of that at an index
pub each_at : {X : Type 0} (P : X → Type 0) (xs : List X) (i : ℕ) (d : X) → Each P xs → i < length xs → P (get_or xs i d)
each_at P [] i d each h = absurd (omega arith)
each_at P (x ∷ xs) zero d each h = each.0
each_at P (x ∷ xs) (suc i) d each h = each_at P xs i d each.1 (omega arith)

-- one edge more, of those from an index on
pub goes_from : (g : Graph) (leaves : Edge → Bool) (t : Tag) (outputs : List (Option ℤ)) (w now : Values) (edges : List Edge) (i : ℕ) (d : Edge) → i < length edges
    → now ≡ added w (going g (get_or edges i d ∷ []) leaves t outputs)
    → added now (going g (drop (i + 1) edges) leaves t outputs) ≡ added w (going g (drop i edges) leaves t outputs)
goes_from g leaves t outputs w now edges i d within is =
    let later : drop (i + 1) edges ≡ drop (suc i) edges = let one : i + 1 ≡ suc i = omega arith in ap (λ n. drop n edges) one in
    ap₂ (λ x es. added x (going g es leaves t outputs)) is later
    ∙ goes_on g leaves t outputs w (get_or edges i d) (drop (suc i) edges)
    ∙ ap (λ es. added w (going g es leaves t outputs)) (sym (drop-cons edges i d within))
