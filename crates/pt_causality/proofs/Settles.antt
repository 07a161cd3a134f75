-- What is known of the actors stays true as the search goes on.
use Rattle.std.proofs.Common.{◌≡◌, ◌≢◌, ℕ, zero, suc, ◌+◌, ◌-◌, ◌<◌, ◌≤◌, ◌==◌, Bool, true, false, max, List, [], ◌∷◌, ◌++◌, length, take, refl, sym, ap, subst, ◌∙◌, arith, ◌⊎◌, inl, inr, ⊎_elim, if◌then◌else◌, eq-eqb}
use Rattle.std.proofs.lemmas.Bool.{cases_eq, cases_lt, eqb-true}
use Rattle.std.proofs.lemmas.Grind.{common_steps}
use Rattle.pt_types.specs.declared.graph.Edge.{Edge}
use Rattle.pt_semantics.specs.Lists.{IsIn}
use Rattle.pt_causality.specs.declared.places.SearchState.{SearchState}
use Rattle.pt_causality.specs.declared.places.SearchMark.{SearchMark}
use Rattle.pt_causality.specs.declared.places.SearchMark.TheVariants.{New, Open, Done}
use Rattle.pt_causality.specs.Incoming.{into}
use Rattle.pt_causality.specs.Places.{IsNextEdge, looked, marked}
use Rattle.pt_causality.specs.Ranking.{Comes, IsOneAbove, NumbersAreSettled, LiesAbove, one_if_done}

-- one actor has changed, which was not done
pub record IsChange (was at : ℕ → SearchState) (a : ℕ) : Type 0 where
  pub others : (b : ℕ) → b ≢ a → at b ≡ was b
  pub not_done : (was a).mark ≢ Done

-- a fact of each actor, from that of the one that has changed and those of all before
everywhere : (was at : ℕ → SearchState) (a : ℕ) (F : ℕ → SearchState → Type 0) → ((b : ℕ) → b ≢ a → at b ≡ was b) → F a (at a) → ((b : ℕ) → F b (was b)) → (b : ℕ) → F b (at b)
everywhere was at a F others here old b =
    ⊎_elim (λ (same : b ≡ a). subst (λ n. F n (at n)) (sym same) here) (λ (other : b ≡ a → ⊥). subst (F b) (sym (others b other)) (old b)) (cases_eq b a)

-- an actor that was done has not changed
stays : (was at : ℕ → SearchState) (a s : ℕ) → IsChange was at a → (was s).mark ≡ Done → at s ≡ was s
stays was at a s change done = change.others s (λ same. change.not_done (subst (λ n. (was n).mark ≡ Done) same done))

lies : (was at : ℕ → SearchState) (a : ℕ) (e : Edge) (p : SearchState) → IsChange was at a → LiesAbove e (was e.from) p → LiesAbove e (at e.from) p
lies was at a e p change h = subst (λ s. LiesAbove e s p) (sym (stays was at a e.from change h.done)) h

comes : (such : Edge → Type 0) (number : SearchState → ℕ) (was at : ℕ → SearchState) (a : ℕ) (edges : List Edge) (p : SearchState) → IsChange was at a → Comes such number was edges p → Comes such number at edges p
comes such number was at a edges p change h =
    ⊎_elim
    (λ (zero : number p ≡ 0). inl zero)
    (λ (one : IsOneAbove such number was edges p).
    let same : at one.edge.from ≡ was one.edge.from = stays was at a one.edge.from change one.done in
    inr (record {
      edge = one.edge;
      in_list = one.in_list;
      such_edge = one.such_edge;
      done = ap (λ (s : SearchState). s.mark) same ∙ one.done;
      above = one.above ∙ ap (λ (s : SearchState). number s + 1) (sym same);
    }))
    h

-- what holds of the actor that has changed, by those before
record IsWell (incoming : List (List Edge)) (was : ℕ → SearchState) (a n : ℕ) (p : SearchState) : Type 0 where
  left : p.left ≤ length (into incoming a)
  looked : (e : Edge) → IsIn e (into incoming a) → IsIn e (take p.left (into incoming a)) ⊎ LiesAbove e (was e.from) p
  levels : Comes (λ (e : Edge). Unit {0}) (λ (p : SearchState). p.level) was (into incoming a) p
  ranks : Comes (λ (e : Edge). e.weight.step ≡ 0) (λ (p : SearchState). p.rank) was (into incoming a) p
  finished : p.mark ≡ Done → p.left ≡ 0
  few : p.level + one_if_done p.mark ≤ n
  small : p.rank ≤ p.level

settles : (incoming : List (List Edge)) (was at : ℕ → SearchState) (a m n : ℕ) → NumbersAreSettled incoming was m → m ≤ n → IsChange was at a → IsWell incoming was a n (at a) → NumbersAreSettled incoming at n
settles incoming was at a m n s more change w = record {
  left = everywhere was at a (λ b p. p.left ≤ length (into incoming b)) change.others w.left s.left;
  looked = everywhere was at a (λ b p. (e : Edge) → IsIn e (into incoming b) → IsIn e (take p.left (into incoming b)) ⊎ LiesAbove e (at e.from) p) change.others
      (λ e mem. lift a (at a) e (w.looked e mem)) (λ b e mem. lift b (was b) e (s.looked b e mem));
  levels = everywhere was at a (λ b p. Comes (λ (e : Edge). Unit {0}) (λ (p : SearchState). p.level) at (into incoming b) p) change.others
      (comes (λ (e : Edge). Unit {0}) (λ (p : SearchState). p.level) was at a (into incoming a) (at a) change w.levels)
      (λ b. comes (λ (e : Edge). Unit {0}) (λ (p : SearchState). p.level) was at a (into incoming b) (was b) change (s.levels b));
  ranks = everywhere was at a (λ b p. Comes (λ (e : Edge). e.weight.step ≡ 0) (λ (p : SearchState). p.rank) at (into incoming b) p) change.others
      (comes (λ (e : Edge). e.weight.step ≡ 0) (λ (p : SearchState). p.rank) was at a (into incoming a) (at a) change w.ranks)
      (λ b. comes (λ (e : Edge). e.weight.step ≡ 0) (λ (p : SearchState). p.rank) was at a (into incoming b) (was b) change (s.ranks b));
  finished = everywhere was at a (λ b p. p.mark ≡ Done → p.left ≡ 0) change.others w.finished s.finished;
  few = everywhere was at a (λ b p. p.level + one_if_done p.mark ≤ n) change.others w.few (λ b. let old = s.few b in omega (arith, old, more));
  small = everywhere was at a (λ b p. p.rank ≤ p.level) change.others w.small s.small;
}
  where
    lift : (b : ℕ) (p : SearchState) (e : Edge) → IsIn e (take p.left (into incoming b)) ⊎ LiesAbove e (was e.from) p → IsIn e (take p.left (into incoming b)) ⊎ LiesAbove e (at e.from) p
    lift b p e h = ⊎_elim (λ (waits : IsIn e (take p.left (into incoming b))). inl waits) (λ (above : LiesAbove e (was e.from) p). inr (lies was at a e p change above)) h

-- an actor has another mark
well_marked : (incoming : List (List Edge)) (was : ℕ → SearchState) (a m n : ℕ) (mark : SearchMark) → NumbersAreSettled incoming was m → (mark ≡ Done → (was a).left ≡ 0) → (was a).level + one_if_done mark ≤ n → IsWell incoming was a n (marked mark (was a))
well_marked incoming was a m n mark s finished few = record {
  left = s.left a;
  looked = λ e mem. ⊎_elim (λ (waits : IsIn e (take (was a).left (into incoming a))). inl waits) (λ (h : LiesAbove e (was e.from) (was a)). inr (record { done = h.done; level = h.level; rank = h.rank })) (s.looked a e mem);
  levels = again (λ (e : Edge). Unit {0}) (λ (p : SearchState). p.level) refl (s.levels a);
  ranks = again (λ (e : Edge). e.weight.step ≡ 0) (λ (p : SearchState). p.rank) refl (s.ranks a);
  finished = finished;
  few = few;
  small = s.small a;
}
  where
    again : (such : Edge → Type 0) (number : SearchState → ℕ) → number (marked mark (was a)) ≡ number (was a) → Comes such number was (into incoming a) (was a) → Comes such number was (into incoming a) (marked mark (was a))
    again such number same h =
        ⊎_elim
        (λ (zero : number (was a) ≡ 0). inl (same ∙ zero))
        (λ (one : IsOneAbove such number was (into incoming a) (was a)). inr (record { edge = one.edge; in_list = one.in_list; such_edge = one.such_edge; done = one.done; above = same ∙ one.above }))
        h

-- an actor is opened
pub settles_open : (incoming : List (List Edge)) (was at : ℕ → SearchState) (a n : ℕ) → NumbersAreSettled incoming was n → ((b : ℕ) → b ≢ a → at b ≡ was b) → (was a).mark ≡ New → at a ≡ marked Open (was a) → NumbersAreSettled incoming at n
settles_open incoming was at a n s others new is =
    let old : (was a).level + one_if_done (was a).mark ≤ n = s.few a in
    settles incoming was at a n n s (omega arith) (record { others = others; not_done = λ done. let h : New ≡ Done = sym new ∙ done in cc })
    (subst (IsWell incoming was a n) (sym is) (well_marked incoming was a n n Open s (λ (h : Open ≡ Done). cc) (omega (arith, old))))

-- an actor is closed
pub settles_closed : (incoming : List (List Edge)) (was at : ℕ → SearchState) (a n : ℕ) → NumbersAreSettled incoming was n → ((b : ℕ) → b ≢ a → at b ≡ was b) → (was a).mark ≡ Open → (was a).left ≡ 0 → at a ≡ marked Done (was a) → NumbersAreSettled incoming at (n + 1)
settles_closed incoming was at a n s others is_open none is =
    let old : (was a).level + one_if_done (was a).mark ≤ n = s.few a in
    settles incoming was at a n (n + 1) s (omega arith) (record { others = others; not_done = λ done. let h : Open ≡ Done = sym is_open ∙ done in cc })
    (subst (IsWell incoming was a (n + 1)) (sym is) (well_marked incoming was a n (n + 1) Done s (λ h. none) (omega (arith, old))))

in_parts : (e d : Edge) (xs : List Edge) → IsIn e (xs ++ d ∷ []) → IsIn e xs ⊎ (e ≡ d)
in_parts e d [] h = ⊎_elim (λ (same : e ≡ d). inr same) (λ (none : ⊥). absurd none) h
in_parts e d (x ∷ xs) h =
    ⊎_elim
    (λ (same : e ≡ x). inl (inl same))
    (λ (later : IsIn e (xs ++ d ∷ [])). ⊎_elim (λ (there : IsIn e xs). inl (inr there)) (λ (last : e ≡ d). inr last) (in_parts e d xs later))
    h

in_front : (e : Edge) (xs ys : List Edge) → IsIn e xs → IsIn e (xs ++ ys)
in_front e [] ys h = absurd h
in_front e (x ∷ xs) ys h = ⊎_elim (λ (same : e ≡ x). inl same) (λ (later : IsIn e xs). inr (in_front e xs ys later)) h

in_last : (e : Edge) (xs : List Edge) → IsIn e (xs ++ e ∷ [])
in_last e [] = inl refl
in_last e (x ∷ xs) = inr (in_last e xs)

in_take : (e : Edge) (n : ℕ) (xs : List Edge) → IsIn e (take n xs) → IsIn e xs
in_take e zero xs h = absurd h
in_take e (suc n) [] h = absurd h
in_take e (suc n) (x ∷ xs) h = ⊎_elim (λ (same : e ≡ x). inl same) (λ (later : IsIn e (take n xs)). inr (in_take e n xs later)) h

-- the edge that is looked at next leads to the actor
pub next_in : (p : SearchState) (edges : List Edge) (e : Edge) → IsNextEdge p edges e → IsIn e edges
next_in p edges e next = in_take e p.left edges (subst (IsIn e) (sym next.last) (in_last e (take (p.left - 1) edges)))

choice_or : (b : Bool) (old new : ℕ) → ((if b then max old new else old) ≡ old) ⊎ ((b ≡ true) × ((if b then max old new else old) ≡ new))
choice_or true old new = ⊎_elim (λ (less : old < new). inr (refl, grind (arith, common_steps))) (λ (more : new ≤ old). inl (grind (arith, common_steps))) (cases_lt old new)
choice_or false old new = inl refl

max_or : (old new : ℕ) → (max old new ≡ old) ⊎ (max old new ≡ new)
max_or old new = ⊎_elim (λ (less : old < new). inr (grind (arith, common_steps))) (λ (more : new ≤ old). inl (grind (arith, common_steps))) (cases_lt old new)

choice_le : (b : Bool) (old new : ℕ) → old ≤ (if b then max old new else old)
choice_le true old new = grind (arith, common_steps)
choice_le false old new = omega arith

choice_most : (b : Bool) (old new most : ℕ) → old ≤ most → new ≤ most → (if b then max old new else old) ≤ most
choice_most true old new most h k = grind (arith, common_steps)
choice_most false old new most h k = h

choice_new : (b : Bool) (old new : ℕ) → b ≡ true → new ≤ (if b then max old new else old)
choice_new true old new h = grind (arith, common_steps)
choice_new false old new h = let k : false ≡ true = h in cc

-- one more edge to the actor was looked at, from one that is done
well_looked : (incoming : List (List Edge)) (was : ℕ → SearchState) (a n : ℕ) (e : Edge) → NumbersAreSettled incoming was n → (was a).mark ≡ Open → (was e.from).mark ≡ Done → IsNextEdge (was a) (into incoming a) e → IsWell incoming was a n (looked (was e.from) e (was a))
well_looked incoming was a n e s is_open done next =
    let p = was a in
    let before = was e.from in
    let level : ℕ = max p.level (before.level + 1) in
    let rank : ℕ = (if e.weight.step == 0 then max p.rank (before.rank + 1) else p.rank) in
    let up : p.level ≤ level = grind (arith, common_steps) in
    let over : before.level + 1 ≤ level = grind (arith, common_steps) in
    let rises : p.rank ≤ rank = choice_le (e.weight.step == 0) p.rank (before.rank + 1) in
    let few : before.level + 1 ≤ n = subst (λ m. before.level + one_if_done m ≤ n) done (s.few e.from) in
    let few_here : p.level + 0 ≤ n = subst (λ m. p.level + one_if_done m ≤ n) is_open (s.few a) in
    let left : p.left ≤ length (into incoming a) = s.left a in
    record {
      left = omega (arith, left);
      looked = λ d mem.
          ⊎_elim
          (λ (waits : IsIn d (take p.left (into incoming a))).
          ⊎_elim
          (λ (still : IsIn d (take (p.left - 1) (into incoming a))). inl still)
          (λ (it : d ≡ e). inr (subst (λ z. LiesAbove z (was z.from) (looked before e p)) (sym it) (record {
            done = done;
            level = omega (arith, over);
            rank = λ none. let new : before.rank + 1 ≤ rank = choice_new (e.weight.step == 0) p.rank (before.rank + 1) (eq-eqb e.weight.step 0 none) in omega (arith, new);
          })))
          (in_parts d e (take (p.left - 1) (into incoming a)) (subst (IsIn d) next.last waits)))
          (λ (h : LiesAbove d (was d.from) p). inr (record {
            done = h.done;
            level = let l : (was d.from).level < p.level = h.level in omega (arith, l, up);
            rank = λ none. let l : (was d.from).rank < p.rank = h.rank none in omega (arith, l, rises);
          }))
          (s.looked a d mem);
      levels = from_level (s.levels a) (max_or p.level (before.level + 1));
      ranks = from_rank (s.ranks a) (choice_or (e.weight.step == 0) p.rank (before.rank + 1));
      finished = λ h. let k : Open ≡ Done = sym is_open ∙ h in cc;
      few = subst (λ m. level + one_if_done m ≤ n) (sym is_open) (grind (arith, common_steps));
      small = choice_most (e.weight.step == 0) p.rank (before.rank + 1) level (let m : p.rank ≤ p.level = s.small a in omega (arith, m, up)) (let m : before.rank ≤ before.level = s.small e.from in omega (arith, m, over));
    }
  where
    e_in : IsIn e (into incoming a)
    e_in = next_in (was a) (into incoming a) e next

    from_level : Comes (λ (e : Edge). Unit {0}) (λ (p : SearchState). p.level) was (into incoming a) (was a) → (max (was a).level ((was e.from).level + 1) ≡ (was a).level) ⊎ (max (was a).level ((was e.from).level + 1) ≡ (was e.from).level + 1) →
        Comes (λ (e : Edge). Unit {0}) (λ (p : SearchState). p.level) was (into incoming a) (looked (was e.from) e (was a))
    from_level old h =
        ⊎_elim
        (λ (same : max (was a).level ((was e.from).level + 1) ≡ (was a).level).
        ⊎_elim
        (λ (zero : (was a).level ≡ 0). inl (same ∙ zero))
        (λ (one : IsOneAbove (λ (e : Edge). Unit {0}) (λ (p : SearchState). p.level) was (into incoming a) (was a)). inr (record { edge = one.edge; in_list = one.in_list; such_edge = one.such_edge; done = one.done; above = same ∙ one.above }))
        old)
        (λ (new : max (was a).level ((was e.from).level + 1) ≡ (was e.from).level + 1). inr (record { edge = e; in_list = e_in; such_edge = tt; done = done; above = new }))
        h

    from_rank : Comes (λ (e : Edge). e.weight.step ≡ 0) (λ (p : SearchState). p.rank) was (into incoming a) (was a) →
        ((looked (was e.from) e (was a)).rank ≡ (was a).rank) ⊎ (((e.weight.step == 0) ≡ true) × ((looked (was e.from) e (was a)).rank ≡ (was e.from).rank + 1)) →
        Comes (λ (e : Edge). e.weight.step ≡ 0) (λ (p : SearchState). p.rank) was (into incoming a) (looked (was e.from) e (was a))
    from_rank old h =
        ⊎_elim
        (λ (same : (looked (was e.from) e (was a)).rank ≡ (was a).rank).
        ⊎_elim
        (λ (zero : (was a).rank ≡ 0). inl (same ∙ zero))
        (λ (one : IsOneAbove (λ (e : Edge). e.weight.step ≡ 0) (λ (p : SearchState). p.rank) was (into incoming a) (was a)). inr (record { edge = one.edge; in_list = one.in_list; such_edge = one.such_edge; done = one.done; above = same ∙ one.above }))
        old)
        (λ (new : ((e.weight.step == 0) ≡ true) × ((looked (was e.from) e (was a)).rank ≡ (was e.from).rank + 1)). inr (record { edge = e; in_list = e_in; such_edge = eqb-true e.weight.step 0 new.0; done = done; above = new.1 }))
        h

pub settles_looked : (incoming : List (List Edge)) (was at : ℕ → SearchState) (a n : ℕ) (e : Edge) → NumbersAreSettled incoming was n → ((b : ℕ) → b ≢ a → at b ≡ was b) → (was a).mark ≡ Open → (was e.from).mark ≡ Done → IsNextEdge (was a) (into incoming a) e →
    at a ≡ looked (was e.from) e (was a) → NumbersAreSettled incoming at n
settles_looked incoming was at a n e s others is_open done next is =
    settles incoming was at a n n s (omega arith) (record { others = others; not_done = λ h. let k : Open ≡ Done = sym is_open ∙ h in cc })
    (subst (IsWell incoming was a n) (sym is) (well_looked incoming was a n e s is_open done next))
