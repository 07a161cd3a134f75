-- From paths of arcs between numbers to paths of wires between units, and back.
use Rattle.std.proofs.Common.{◌≡◌, ℕ, ◌<◌, ◌≤◌, List, [], ◌∷◌, map, filter, length, Option, Some, None, refl, sym, ap, subst, ◌∙◌, arith, ⊎_elim}
use Rattle.std.proofs.lemmas.Bool.{eqb-true, eq-eqb, cases_lt}
use Rattle.std.proofs.lemmas.List.{get_or_past}
use Rattle.pt_tags.specs.declared.tag.Delay.{Delay}
use Rattle.pt_tags.specs.Tags.{AtMost, then}
use Rattle.pt_types.specs.declared.graph.Graph.{Graph}
use Rattle.pt_types.specs.declared.graph.Unit.{Unit}
use Rattle.pt_types.specs.Lawful.{IsLawful}
use Rattle.pt_semantics.specs.Edges.{Edge, wires}
use Rattle.pt_semantics.specs.Lists.{IsIn}
use Rattle.pt_semantics.specs.Paths.{Goes}
use Rattle.pt_semantics.specs.Ranks.{sum_along}
use Rattle.pt_semantics.specs.Units.{source, target}
use Rattle.pt_causality.specs.declared.arcs.Arc.{Arc}
use Rattle.pt_causality.specs.declared.units.Numbers.{Numbers}
use Rattle.pt_causality.specs.Cells.{number_in, delay_at, delay_row_at}
use Rattle.pt_causality.specs.Units.{IsUnit}
use Rattle.pt_causality.specs.Numbered.{AreNumbered}
use Rattle.pt_causality.specs.Arcs.{arcs_from, ArcsLead, total, HasNearest, HasLeastDelays, IsFit, AreFit, arc_of, leaves_place}
use Rattle.pt_causality.specs.Delays.{HasLeast, AreLeast}
use Rattle.pt_causality.proofs.Members.{of_filtered, in_filtered}
use Rattle.pt_causality.proofs.Lawful.{ends_are_units, wires_are_light}

module _ (g : Graph) (lawful : IsLawful g) (n : Numbers) (numbered : AreNumbered g n) where
  abbrev number : Unit → ℕ
  number u = number_in n.firsts.items u

  pub source_below : (e : Edge) → IsIn e (wires g) → number (source g e) < n.count
  source_below e there = numbered.below (source g e) (ends_are_units g e lawful there).0

  pub target_below : (e : Edge) → IsIn e (wires g) → number (target g e) < n.count
  target_below e there = numbered.below (target g e) (ends_are_units g e lawful there).1

  module _ (arcs : List (List Arc)) (len : length arcs ≡ n.count) (leave : (j : ℕ) → j < n.count → arcs_from arcs j ≡ map (arc_of g n.firsts.items) (filter (leaves_place g n.firsts.items j) (wires g))) where
    -- an arc from a place stands for a wire from its unit
    record IsFor (j : ℕ) (a : Arc) : Type 0 where
      wire : Edge
      there : IsIn wire (wires g)
      from : number (source g wire) ≡ j
      is : a ≡ arc_of g n.firsts.items wire

    wire_for : (j : ℕ) (a : Arc) → IsIn a (arcs_from arcs j) → IsFor j a
    wire_for j a there = ⊎_elim
        (λ (less : j < n.count).
        let one = of_filtered (arc_of g n.firsts.items) (leaves_place g n.firsts.items j) a (wires g) (subst (IsIn a) (leave j less) there) in
        record { wire = one.0; there = one.1; from = eqb-true (number (source g one.0)) j one.2; is = one.3 })
        (λ (past : n.count ≤ j). absurd (subst (IsIn a) (get_or_past arcs j [] (omega (arith, len, past))) there))
        (cases_lt j n.count)

    pub arcs_fit : AreFit arcs
    arcs_fit j a there =
        let for = wire_for j a there in
        let light = wires_are_light g for.wire lawful for.there in
        subst (IsFit (length arcs)) (sym for.is) (record { to = subst (λ k. number (target g for.wire) < k) (sym len) (target_below for.wire for.there); time = light.0; step = light.1 })

    follows_goes : (path : List Edge) (x a : Unit) → IsUnit g x → Goes g x path a → ArcsLead arcs (number x) (map (arc_of g n.firsts.items) path) (number a)
    follows_goes [] x a unit same = ap number same
    follows_goes (e ∷ path) x a unit (there, from, on) = (
      subst (IsIn (arc_of g n.firsts.items e)) (sym (leave (number x) (numbered.below x unit)))
          (in_filtered (arc_of g n.firsts.items) (leaves_place g n.firsts.items (number x)) e (wires g) there (eq-eqb (number (source g e)) (number x) (ap number from))),
      follows_goes path (target g e) a (ends_are_units g e lawful there).1 on,
    )

    same_sum : (path : List Edge) → total (map (arc_of g n.firsts.items) path) ≡ sum_along path
    same_sum [] = refl
    same_sum (e ∷ path) = ap (then e.weight) (same_sum path)

    -- a path of wires for a path of arcs
    record IsPathFor (x : Unit) (path : List Arc) (k : ℕ) : Type 0 where
      edges : List Edge
      end : Unit
      unit : IsUnit g end
      goes : Goes g x edges end
      number_is : number end ≡ k
      sum : sum_along edges ≡ total path

    path_for : (path : List Arc) (x : Unit) (k : ℕ) → IsUnit g x → ArcsLead arcs (number x) path k → IsPathFor x path k
    path_for [] x k unit same = record { edges = []; end = x; unit = unit; goes = refl; number_is = same; sum = refl }
    path_for (a ∷ path) x k unit (there, on) =
        let for = wire_for (number x) a there in
        let units = ends_are_units g for.wire lawful for.there in
        let from : source g for.wire ≡ x = numbered.apart (source g for.wire) x units.0 unit for.from in
        let rest = path_for path (target g for.wire) k units.1 (subst (λ j. ArcsLead arcs j path k) (ap (λ (z : Arc). z.to) for.is) on) in
        record {
          edges = for.wire ∷ rest.edges;
          end = rest.end;
          unit = rest.unit;
          goes = (for.there, from, rest.goes);
          number_is = rest.number_is;
          sum = ap (λ d. then for.wire.weight d) rest.sum ∙ ap (λ w. then w (total path)) (sym (ap (λ (z : Arc). z.weight) for.is));
        }

    least_by : (x a : Unit) → IsUnit g x → IsUnit g a → (o : Option Delay) → HasNearest arcs (number x) (number a) o → HasLeast g x a o
    least_by x a one other None none = λ path goes. none (map (arc_of g n.firsts.items) path) (follows_goes path x a one goes)
    least_by x a one other (Some d) is =
        let for = path_for is.along.0 x (number a) one is.along.1 in
        let end : for.end ≡ a = numbered.apart for.end a for.unit other for.number_is in
        record {
          along = (for.edges, subst (Goes g x for.edges) end for.goes, for.sum ∙ is.along.2);
          least = λ path goes. subst (AtMost d) (same_sum path) (is.least (map (arc_of g n.firsts.items) path) (follows_goes path x a one goes));
        }

    pub are_least : (rows : List (List (Option Delay))) → ((s : ℕ) → s < length arcs → HasLeastDelays arcs s (delay_row_at rows s)) → AreLeast g (λ x a. delay_at (delay_row_at rows (number x)) (number a))
    are_least rows is x a one other =
        least_by x a one other (delay_at (delay_row_at rows (number x)) (number a))
        (is (number x) (subst (λ k. number x < k) (sym len) (numbered.below x one)) (number a) (subst (λ k. number a < k) (sym len) (numbered.below a other)))
