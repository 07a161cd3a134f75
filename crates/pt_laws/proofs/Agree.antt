-- Two behaviours of one graph agree wherever both are laid down.
use Rattle.std.proofs.Common.{◌≡◌, ℕ, suc, ◌+◌, ◌-◌, ◌<◌, ◌≤◌, ◌==◌, ◌⊎◌, true, false, ◌&&◌, ltb, List, [], ◌∷◌, Option, Some, None, ℤ, arith, refl, sym, ap, ap₂, subst, ◌∙◌, inl, inr, ⊎_elim, eqb-true}
use Rattle.std.proofs.lemmas.Bool.{cases_Bool, cases_lt, and_parts}
use Rattle.pt_tags.specs.declared.tag.Tag.{Tag}
use Rattle.pt_tags.specs.declared.tag.Delay.{Delay}
use Rattle.pt_types.specs.declared.graph.Graph.{Graph}
use Rattle.pt_types.specs.declared.graph.Unit.{Unit}
use Rattle.pt_tags.specs.Tags.{Before, same_tag, plus}
use Rattle.pt_semantics.specs.Lists.{first_of, or_else, IsIn, Each}
use Rattle.pt_types.specs.Ports.{when, at_port}
use Rattle.pt_semantics.specs.Edges.{Edge, edges, first_state}
use Rattle.pt_types.specs.Lookups.{kind_of}
use Rattle.pt_semantics.specs.Units.{source, target, unit_inputs}
use Rattle.pt_types.specs.Groups.{input_group}
use Rattle.pt_semantics.specs.Meaning.{Values}
use Rattle.pt_semantics.specs.Behaviours.{Firing, Firings, Rising, firing_at, comes_along, comes, firing_of, Behaves, IsClosed, Everywhere}
use Rattle.pt_semantics.specs.Cycles.{GrowsAlong}
use Rattle.pt_laws.specs.MeaningTheorems.{BehavioursAgree}
use Rattle.pt_laws.proofs.Induction.{Lower, by_three}
use Rattle.pt_semantics.proofs.Tags.{cases_tags, same_tag-refl, same_tag-true, same_tag-before, same_tag-after, plus-Before}
use Rattle.pt_semantics.proofs.Words.{first_of_same, when_same, when-true, when-false, eight_same, Each-map, firing_at_head, firing_at_tail, firings_agree, states_agree}

-- the output of a firing that may be there
abbrev output_of : ℕ → Option Firing → Option ℤ
output_of o None = None
output_of o (Some x) = at_port x.outputs o

-- what an edge of this weight brings from a list of firings
abbrev pub brings : Delay → ℕ → Tag → List Firing → Option ℤ
brings w o t xs = first_of (λ (x : Firing). when (same_tag (plus x.tag w) t) (at_port x.outputs o)) xs

pub brings_nothing : (w : Delay) (o : ℕ) (t : Tag) (xs : List Firing) → Each (λ (x : Firing). same_tag (plus x.tag w) t ≡ false) xs → brings w o t xs ≡ None
brings_nothing w o t [] h = refl
brings_nothing w o t (x ∷ xs) h = ap₂ or_else (when-false _ (at_port x.outputs o) h.0) (brings_nothing w o t xs h.1)

or_none : {X : Type 0} (x : Option X) → or_else x None ≡ x
or_none None = refl
or_none (Some x) = refl

pub brings_at : (w : Delay) (o : ℕ) (s : Tag) (xs : List Firing) → Rising xs → brings w o (plus s w) xs ≡ output_of o (firing_at xs s)
brings_at w o s [] r = refl
brings_at w o s (x ∷ xs) r =
    ⊎_elim
    (λ (e : x.tag ≡ s).
    ap₂ or_else
    (when-true _ (at_port x.outputs o) (subst (λ u. same_tag (plus u w) (plus s w) ≡ true) (sym e) (same_tag-refl (plus s w))))
    (brings_nothing w o (plus s w) xs (Each-map _ (λ (y : Firing). same_tag (plus y.tag w) (plus s w) ≡ false) xs
    (λ y l. same_tag-after (plus y.tag w) (plus s w) (plus-Before s y.tag w l))
    (subst (λ u. Each (λ (y : Firing). Before u y.tag) xs) e r.0)))
    ∙ or_none (at_port x.outputs o)
    ∙ ap (output_of o) (sym (firing_at_head x xs) ∙ ap (firing_at (x ∷ xs)) e))
    (λ (c : Before x.tag s ⊎ Before s x.tag).
    let skip : same_tag x.tag s ≡ false = ⊎_elim (λ (l : Before x.tag s). same_tag-before x.tag s l) (λ (l : Before s x.tag). same_tag-after x.tag s l) c in
    let miss : same_tag (plus x.tag w) (plus s w) ≡ false = ⊎_elim (λ (l : Before x.tag s). same_tag-before (plus x.tag w) (plus s w) (plus-Before x.tag s w l)) (λ (l : Before s x.tag). same_tag-after (plus x.tag w) (plus s w) (plus-Before s x.tag w l)) c in
    ap (λ v. or_else v (brings w o (plus s w) xs)) (when-false _ (at_port x.outputs o) miss)
    ∙ brings_at w o s xs r.1
    ∙ ap (output_of o) (sym (firing_at_tail x xs s skip)))
    (cases_tags x.tag s)

-- a tag that is no sum with this weight gets nothing
too_soon : (w : Delay) (t : Tag) → ((s : Tag) → plus s w ≡ t → ⊥) → (x : Tag) → same_tag (plus x w) t ≡ false
too_soon w t never x =
    ⊎_elim (λ (h : same_tag (plus x w) t ≡ true). absurd (never x (same_tag-true (plus x w) t h))) (λ (h : same_tag (plus x w) t ≡ false). h) (cases_Bool (same_tag (plus x w) t))

each_tag : (w : Delay) (t : Tag) → ((x : Tag) → same_tag (plus x w) t ≡ false) → (xs : List Firing) → Each (λ (x : Firing). same_tag (plus x.tag w) t ≡ false) xs
each_tag w t h [] = tt
each_tag w t h (x ∷ xs) = (h x.tag, each_tag w t h xs)

-- a tag is a sum with this weight, or it is not
abbrev Less : Delay → Tag → Type 0
Less w t = (s : Tag) × (plus s w ≡ t)

less_time : (w : Delay) (t : Tag) → w.time ≤ t.time → w.step ≤ t.step → Less w t
less_time w t h k = (record { time = t.time - w.time; step = t.step - w.step }, grind arith)

cases_less : (w : Delay) (t : Tag) → Less w t ⊎ ((s : Tag) → plus s w ≡ t → ⊥)
cases_less w t =
    ⊎_elim
    (λ (h : t.time < w.time). inr (λ (s : Tag) (e : plus s w ≡ t). let et : s.time + w.time ≡ t.time = ap (λ (u : Tag). u.time) e in omega arith))
    (λ (h : w.time ≤ t.time).
    ⊎_elim
    (λ (k : t.step < w.step). inr (λ (s : Tag) (e : plus s w ≡ t). let et : s.step + w.step ≡ t.step = ap (λ (u : Tag). u.step) e in omega arith))
    (λ (k : w.step ≤ t.step). inl (less_time w t h k))
    (cases_lt t.step w.step))
    (cases_lt t.time w.time)

-- lists of firings that agree where an edge reads them bring the same
pub brings_agree : (w : Delay) (o : ℕ) (t : Tag) (xs ys : List Firing) → Rising xs → Rising ys → ((s : Tag) → plus s w ≡ t → firing_at xs s ≡ firing_at ys s) → brings w o t xs ≡ brings w o t ys
brings_agree w o t xs ys rx ry same =
    ⊎_elim
    (λ (l : Less w t).
    let at : brings w o (plus l.0 w) xs ≡ brings w o (plus l.0 w) ys = brings_at w o l.0 xs rx ∙ ap (output_of o) (same l.0 l.1) ∙ sym (brings_at w o l.0 ys ry) in
    subst (λ u. brings w o u xs ≡ brings w o u ys) l.1 at)
    (λ (never : (s : Tag) → plus s w ≡ t → ⊥).
    brings_nothing w o t xs (each_tag w t (too_soon w t never) xs) ∙ sym (brings_nothing w o t ys (each_tag w t (too_soon w t never) ys)))
    (cases_less w t)

-- the unit of an edge's end, from what the tests say
pub at_end : (g : Graph) (e : Edge) (u : Unit) (p : ℕ) → e.to ≡ u.actor → e.input ≡ p → input_group (kind_of g u.actor) p ≡ u.group → target g e ≡ u
at_end g e u p ea ep eg =
    let group : input_group (kind_of g e.to) e.input ≡ u.group = ap₂ (λ a q. input_group (kind_of g a) q) ea ep ∙ eg in
    λ i. record { actor = ea i; group = group i }

abbrev Same : Firings → Firings → Unit → Tag → Type 0
Same f h u t = firing_at (f u) t ≡ firing_at (h u) t

-- a tag and a rank come before a tag and a rank
abbrev Sooner : (ℕ → ℕ) → Unit → Tag → Unit → Tag → Type 0
Sooner rank v s u t = Lower s.time s.step (rank v.actor) t.time t.step (rank u.actor)

sooner_edge : (a b c x y z wt ws : ℕ) → a + wt ≡ x → b + ws ≡ y → ((wt ≡ 0) → (ws ≡ 0) → c < z) → Lower a b c x y z
sooner_edge a b c x y z wt ws et es r = (omega arith, λ k. (omega arith, λ j. r (omega arith) (omega arith)))

lower_at : (a b c : ℕ) {x y z x' y' z' : ℕ} → x ≡ x' → y ≡ y' → z ≡ z' → Lower a b c x y z → Lower a b c x' y' z'
lower_at a b c {x} {y} {z} {x'} {y'} {z'} ex ey ez l = subst (λ w. Lower a b c x' y' w) ez (subst (λ w. Lower a b c x' w z) ey (subst (λ w. Lower a b c w y z) ex l))

module _ (g : Graph) (given : Values) (rank : ℕ → ℕ) (grows : GrowsAlong g rank) (D : Unit → Tag → Type 0) (closed : IsClosed g D) (f h : Firings) (bf : Behaves g given D f) (bh : Behaves g given D h) where
  -- what comes along an edge that leads to this input
  along : (u : Unit) (t : Tag) → D u t → ((v : Unit) (s : Tag) → Sooner rank v s u t → D v s → Same f h v s) → (e : Edge) → IsIn e (edges g) → target g e ≡ u → comes_along f g e t ≡ comes_along h g e t
  along u t d before e mem end =
      brings_agree e.weight e.output t (f (source g e)) (h (source g e)) (bf.rising (source g e)) (bh.rising (source g e))
      (λ s es.
      let dt : D (target g e) (plus s e.weight) = subst (λ v. D v (plus s e.weight)) (sym end) (subst (λ v. D u v) (sym es) d) in
      let actors : e.to ≡ u.actor = ap (λ (v : Unit). v.actor) end in
      let times : s.time + e.weight.time ≡ t.time = ap (λ (v : Tag). v.time) es in
      let steps : s.step + e.weight.step ≡ t.step = ap (λ (v : Tag). v.step) es in
      let ranks : (e.weight.time ≡ 0) → (e.weight.step ≡ 0) → rank e.from < rank u.actor = λ a b. subst (λ v. rank e.from < rank v) actors (grows e mem a b) in
      before (source g e) s (sooner_edge s.time s.step (rank e.from) t.time t.step (rank u.actor) e.weight.time e.weight.step times steps ranks) (closed.sources e s mem dt))

  inputs_agree : (u : Unit) (t : Tag) → D u t → ((v : Unit) (s : Tag) → Sooner rank v s u t → D v s → Same f h v s) → unit_inputs g (comes g given f) u t ≡ unit_inputs g (comes g given h) u t
  inputs_agree u t d before =
      eight_same _ _ (λ p.
      when_same (input_group (kind_of g u.actor) p == u.group) (comes g given f u.actor p t) (comes g given h u.actor p t) (λ eg.
      ap (λ o. when (ltb t.time (suc g.until)) (or_else (given u.actor p t) o))
      (first_of_same _ _ (edges g) (λ e mem.
      when_same (e.to == u.actor && e.input == p) (comes_along f g e t) (comes_along h g e t) (λ both.
      let parts = and_parts (e.to == u.actor) (e.input == p) both in
      along u t d before e mem (at_end g e u p (eqb-true e.to u.actor parts.0) (eqb-true e.input p parts.1) (eqb-true _ u.group eg)))))))

  agree_step : (u : Unit) (t : Tag) → D u t → ((v : Unit) (s : Tag) → Sooner rank v s u t → D v s → Same f h v s) → Same f h u t
  agree_step u t d before =
      bf.reacts u t d
      ∙ ap₂ (λ q i. firing_of (kind_of g u.actor) t q i)
      (states_agree (first_state (kind_of g u.actor)) (f u) (h u) t (bf.rising u) (bh.rising u) (λ s l. before u s (l.0, λ k. ((omega arith), λ j. absurd (omega arith))) (closed.earlier u s t l d)))
      (inputs_agree u t d before)
      ∙ sym (bh.reacts u t d)

  abbrev AgreeAt : ℕ → ℕ → ℕ → Type 0
  AgreeAt x y z = (u : Unit) (t : Tag) → t.time ≡ x → t.step ≡ y → rank u.actor ≡ z → D u t → Same f h u t

  agree_all : (x y z : ℕ) → AgreeAt x y z
  agree_all = by_three AgreeAt (λ x y z lower u t ex ey ez d.
      agree_step u t d (λ v s sooner dv.
      lower s.time s.step (rank v.actor) (lower_at s.time s.step (rank v.actor) ex ey ez sooner) v s refl refl refl dv))

  pub agree : (u : Unit) (t : Tag) → D u t → firing_at (f u) t ≡ firing_at (h u) t
  agree u t d = agree_all t.time t.step (rank u.actor) u t refl refl refl d

everywhere_closed : (g : Graph) → IsClosed g Everywhere
everywhere_closed g = record { earlier = λ u s t l d. tt; sources = λ e s mem d. tt }

pub behaviours_agree : BehavioursAgree
behaviours_agree g given rank f h grows bf bh u =
    firings_agree (f u) (h u) (bf.rising u) (bh.rising u) (λ t. agree g given rank grows Everywhere (everywhere_closed g) f h bf bh u t tt)
