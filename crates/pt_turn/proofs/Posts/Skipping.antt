-- What goes along the wires of one actor goes along all wires.
use Rattle.std.proofs.Common.{◌≡◌, ℕ, zero, suc, ◌+◌, ◌-◌, ◌<◌, ◌≤◌, Bool, List, [], ◌∷◌, Option, ℤ, nat_lt, cond, map, take, length, get_or, sym, ap, subst, ◌∙◌, ⊎_elim, arith}
use Rattle.std.proofs.lemmas.Bool.{cases_lt}
use Rattle.std.proofs.lemmas.List.{take_all}
use Rattle.std.proofs.lemmas.Option.{slice_get-get_or}
use Rattle.std.specs.List.{count_by}
use Rattle.pt_tags.specs.declared.tag.Tag.{Tag}
use Rattle.pt_types.specs.declared.graph.Graph.{Graph}
use Rattle.pt_types.specs.declared.graph.Unit.{Unit}
use Rattle.pt_types.specs.declared.graph.Wire.{Wire}
use Rattle.pt_semantics.specs.Edges.{of_wire}
use Rattle.pt_semantics.specs.Meaning.{Values, added, going}
use Rattle.pt_semantics.specs.Units.{leaves_unit}
use Rattle.pt_turn.specs.Posts.Room.{leaving}
use Rattle.pt_turn.proofs.Posts.Counted.{count_cons}
use Rattle.pt_turn.proofs.Posts.Going.{going_more, leaves_no, none_along}
use Rattle.pt_semantics.proofs.Lookups.{or_else_none, when_none}
use Rattle.pt_semantics.specs.Lists.{or_else}
use Rattle.pt_causality.specs.Branches.{NoneFrom}

-- where no wire is, nothing goes
pub nothing_goes : (g : Graph) (un : Unit) (t : Tag) (outputs : List (Option ℤ)) (v : Values) → added v (going g [] (leaves_unit g un) t outputs) ≡ v
nothing_goes g un t outputs v = λ i a p x. (ap (or_else (v a p x)) (when_none ℤ (nat_lt x.time (suc g.until))) ∙ or_else_none (v a p x)) i

-- nothing goes along the wires of other actors
skip : (g : Graph) (un : Unit) (ws : List Wire) (j n : ℕ) (t : Tag) (outputs : List (Option ℤ)) (d : Wire) (v : Values) → NoneFrom ws un.actor j (j + n) → added v (going g (map (of_wire g) (take (j + n) ws)) (leaves_unit g un) t outputs) ≡ added v (going g (map (of_wire g) (take j ws)) (leaves_unit g un) t outputs)
skip g un ws j zero t outputs d v none = let same : j + 0 ≡ j = omega arith in ap (λ k. added v (going g (map (of_wire g) (take k ws)) (leaves_unit g un) t outputs)) same
skip g un ws j (suc n) t outputs d v none =
    let before : added v (going g (map (of_wire g) (take (j + n) ws)) (leaves_unit g un) t outputs) ≡ added v (going g (map (of_wire g) (take j ws)) (leaves_unit g un) t outputs) = skip g un ws j n t outputs d v (λ i w le lt. none i w le (omega (arith, lt))) in
    let next : j + suc n ≡ (j + n) + 1 = omega arith in
    ⊎_elim
    (λ (lt : j + n < length ws).
    ap (λ k. added v (going g (map (of_wire g) (take k ws)) (leaves_unit g un) t outputs)) next
    ∙ going_more g un ws (j + n) t outputs d v lt
    ∙ sym (none_along g un t outputs (get_or ws (j + n) d) (added v (going g (map (of_wire g) (take (j + n) ws)) (leaves_unit g un) t outputs)) (leaves_no g un (get_or ws (j + n) d) (none (j + n) (get_or ws (j + n) d) (omega arith) (omega arith) (slice_get-get_or ws (j + n) d lt))))
    ∙ before)
    (λ (past : length ws ≤ j + n).
    ap (λ xs. added v (going g (map (of_wire g) xs) (leaves_unit g un) t outputs)) (take_all (j + suc n) ws (omega (arith, past)) ∙ sym (take_all (j + n) ws past))
    ∙ before)
    (cases_lt (j + n) (length ws))

pub skipped : (g : Graph) (un : Unit) (ws : List Wire) (j k : ℕ) (t : Tag) (outputs : List (Option ℤ)) (d : Wire) (v : Values) → j ≤ k → NoneFrom ws un.actor j k → added v (going g (map (of_wire g) (take k ws)) (leaves_unit g un) t outputs) ≡ added v (going g (map (of_wire g) (take j ws)) (leaves_unit g un) t outputs)
skipped g un ws j k t outputs d v le none =
    let split : j + (k - j) ≡ k = omega (arith, le) in
    ap (λ n. added v (going g (map (of_wire g) (take n ws)) (leaves_unit g un) t outputs)) (sym split) ∙ skip g un ws j (k - j) t outputs d v (subst (NoneFrom ws un.actor j) (sym split) none)

-- a longer front has no fewer
count_on : (p : Wire → Bool) (ws : List Wire) (j k : ℕ) → j ≤ k → count_by p (take j ws) ≤ count_by p (take k ws)
count_on p [] zero k le = omega arith
count_on p [] (suc j) zero le = omega arith
count_on p [] (suc j) (suc k) le = omega arith
count_on p (w ∷ ws) zero k le = omega arith
count_on p (w ∷ ws) (suc j) zero le = absurd (omega arith)
count_on p (w ∷ ws) (suc j) (suc k) le =
    let less : count_by p (take j ws) ≤ count_by p (take k ws) = count_on p ws j k (omega arith) in
    let short : count_by p (w ∷ take j ws) ≡ cond (p w) 1 0 + count_by p (take j ws) = count_cons p w (take j ws) in
    let long : count_by p (w ∷ take k ws) ≡ cond (p w) 1 0 + count_by p (take k ws) = count_cons p w (take k ws) in
    omega (arith, less, short, long)

pub leaving_on : (g : Graph) (un : Unit) (ws : List Wire) (j k : ℕ) → j ≤ k → leaving g un (take j ws) ≤ leaving g un (take k ws)
leaving_on g un ws j k le = count_on (λ (w : Wire). leaves_unit g un (of_wire g w)) ws j k le
