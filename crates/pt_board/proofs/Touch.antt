-- A step of one seat on one slot keeps what there is of the others.
use Rattle.std.proofs.Common.{◌≡◌, ◌≢◌, ℕ, ◌+◌, ◌*◌, ◌<◌, Bool, true, false, Option, Some, None, List, [], ◌∷◌, length, get_or, set, refl, sym, ap, ◌∙◌, subst, ⊎_elim, arith}
use Rattle.std.specs.Prelude.{slice_index}
use Rattle.std.proofs.lemmas.Bool.{cases_eq}
use Rattle.std.proofs.lemmas.List.{get_or-set_same, get_or-set_other, length-set}
use mathlib.Core.Option.{some}
use lib.ListN.{get_elem?}
use Rattle.atomic_table.specs.Table.{State}
use Rattle.atomic_table.proofs.Lists.{at_set}
use Rattle.pt_types.specs.declared.graph.Graph.{Graph}
use Rattle.pt_board.specs.declared.rule.SlotView.{SlotView}
use Rattle.pt_board.specs.declared.rule.View.{View}
use Rattle.pt_board.specs.declared.table.Item.{Item}
use Rattle.pt_types.specs.declared.firing.Task.{Task}
use Rattle.pt_board.specs.Rule.{no_part, part, with_part, Content, SeatFits, Slot, BoardRule}

abbrev pub Home : Type 0
Home = mathlib.Core.Option.Option Item

pub part_here : (v : View) (k : ℕ) (p : SlotView) → k < length v.parts → part k (with_part v k p) ≡ p
part_here v k p low = get_or-set_same v.parts k p no_part low

pub part_else : (v : View) (k j : ℕ) (p : SlotView) → j ≢ k → part j (with_part v k p) ≡ part j v
part_else v k j p ne = get_or-set_other v.parts k j p no_part ne

module _ (g : Graph) where
  pub touch : (s : State Item View) (K : BoardRule g s) (id : ℕ) (v : View) (k n : ℕ) (homes : List Home) (p : SlotView) (number : ℕ) (task : Task) (phase owner : ℕ) (busy : Bool)
      → get_elem? s.views id ≡ some v → k < 32 → length homes ≡ 32 → ((j : ℕ) → j ≢ k → get_elem? homes j ≡ get_elem? s.homes j)
      → n ≡ number * 4 + phase → phase < 4 → (phase ≡ 1 → busy ≡ false) → Content g phase task busy (get_elem? homes k)
      → SeatFits K.keeper number task phase owner busy id v.is_keeper p
      → ((i : ℕ) (u : View) → i ≢ id → get_elem? s.views i ≡ some u → SeatFits K.keeper number task phase owner busy i u.is_keeper (part k u))
      → BoardRule g (record { words = set s.words k n; homes = homes; views = set s.views id (with_part v k p) })
  touch s K id v k n homes p number task phase owner busy at low len same word small ready content mine others =
      let w = with_part v k p in
      let wide : length v.parts ≡ 32 = K.wide id v at in
      let views = set s.views id w in record {
        keeper = K.keeper;
        words = length-set s.words k n ∙ K.words;
        homes = len;
        wide = λ i u e. ⊎_elim (λ (x : (i ≡ id) × (w ≡ u)). ap (λ (y : View). length y.parts) (sym x.1) ∙ length-set v.parts k p ∙ wide)
            (λ (x : (i ≢ id) × (get_elem? s.views i ≡ some u)). K.wide i u x.1) (at_set s.views id i w u e);
        graphs = λ i u h e o. ⊎_elim (λ (x : (i ≡ id) × (w ≡ u)). K.graphs id v h at (ap (λ (y : View). y.graph) x.1 ∙ o))
            (λ (x : (i ≢ id) × (get_elem? s.views i ≡ some u)). K.graphs i u h x.1 o) (at_set s.views id i w u e);
        slots = λ j jlow. ⊎_elim
            (λ (q : j ≡ k). subst (λ (x : ℕ). Slot g K.keeper x (slice_index (set s.words k n) x) (get_elem? homes x) views) (sym q) (record {
              number = number;
              task = task;
              phase = phase;
              owner = owner;
              busy = busy;
              word_is = get_or-set_same s.words k n 0 (subst (λ (m : ℕ). k < m) (sym K.words) low) ∙ word;
              small = small;
              ready = ready;
              content = content;
              fits = λ i u e. ⊎_elim
                  (λ (x : (i ≡ id) × (w ≡ u)).
                  subst (λ (y : ℕ × View). SeatFits K.keeper number task phase owner busy y.0 y.1.is_keeper (part k y.1)) (λ t. (sym x.0 t, x.1 t))
                  (subst (λ (y : SlotView). SeatFits K.keeper number task phase owner busy id v.is_keeper y) (sym (part_here v k p (subst (λ (m : ℕ). k < m) (sym wide) low))) mine))
                  (λ (x : (i ≢ id) × (get_elem? s.views i ≡ some u)). others i u x.0 x.1) (at_set s.views id i w u e);
            }))
            (λ (ne : j ≡ k → ⊥). let S = K.slots j jlow in record {
              number = S.number;
              task = S.task;
              phase = S.phase;
              owner = S.owner;
              busy = S.busy;
              word_is = get_or-set_other s.words k j n 0 ne ∙ S.word_is;
              small = S.small;
              ready = S.ready;
              content = subst (λ (h : mathlib.Core.Option.Option Home). Content g S.phase S.task S.busy h) (sym (same j ne)) S.content;
              fits = λ i u e. ⊎_elim
                  (λ (x : (i ≡ id) × (w ≡ u)).
                  subst (λ (y : ℕ × View). SeatFits K.keeper S.number S.task S.phase S.owner S.busy y.0 y.1.is_keeper (part j y.1)) (λ t. (sym x.0 t, x.1 t))
                  (subst (λ (y : SlotView). SeatFits K.keeper S.number S.task S.phase S.owner S.busy id v.is_keeper y) (sym (part_else v k j p ne)) (S.fits id v at)))
                  (λ (x : (i ≢ id) × (get_elem? s.views i ≡ some u)). S.fits i u x.1) (at_set s.views id i w u e);
            })
            (cases_eq j k);
      }
