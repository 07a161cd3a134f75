-- What the search has found is what the graph has.
use Rattle.std.proofs.Common.{◌≡◌, ℕ, ◌+◌, ◌<◌, ◌≤◌, ◌==◌, ◌^◌, Bool, true, false, List, [], ◌∷◌, length, map, filter, take, get_or, refl, sym, ap, subst, ◌∙◌, arith, inl, inr, ⊎_elim, if◌then◌else◌, eq-eqb}
use Rattle.std.proofs.lemmas.Bool.{and_parts, and_from, cases_Bool, cases_lt, eqb-true}
use Rattle.std.proofs.lemmas.List.{get_or-map, get_or_past, length-map, take_all}
use Rattle.pt_types.specs.declared.graph.Graph.{Graph}
use Rattle.pt_types.specs.Lawful.{IsLawful}
use Rattle.pt_semantics.proofs.LawfulEdges.{wired}
use Rattle.pt_semantics.specs.Lists.{IsIn}
use Rattle.pt_semantics.specs.Edges.{Edge, edges}
use Rattle.pt_semantics.specs.Ranks.{AreLevels, AreRanks, IsLongest, Leads, NoDelay, NoTime, sum_along}
use Rattle.pt_causality.specs.declared.places.SearchState.{SearchState}
use Rattle.pt_causality.specs.declared.places.SearchMark.{SearchMark}
use Rattle.pt_causality.specs.declared.places.SearchMark.TheVariants.{New, Open, Done}
use Rattle.pt_causality.specs.declared.cycle.CycleFault.{CycleFault}
use Rattle.pt_causality.specs.declared.cycle.CycleFault.TheVariants.{Memory, Cycle}
use Rattle.pt_causality.specs.Incoming.{AreIncoming, comes_to, into}
use Rattle.pt_causality.specs.Places.{fresh_place, place_at}
use Rattle.pt_causality.specs.Ranked.{CauseOfCycle}
use Rattle.pt_causality.specs.Ranking.{ActorsAreDone, AreEdgeLists, IsOneAbove, EdgesLead, LiesAbove, MeetsRing, Rests, done_count, marks_left, one_if_done}
use Rattle.pt_causality.proofs.Highest.{are_levels, are_ranks}

filter_in : (p : Edge → Bool) (e : Edge) (xs : List Edge) → IsIn e (filter p xs) → IsIn e xs × (p e ≡ true)
filter_in p e [] h = absurd h
filter_in p e (x ∷ xs) h =
    ⊎_elim
    (λ (passes : p x ≡ true).
    ⊎_elim
    (λ (same : e ≡ x). (inl same, ap p same ∙ passes))
    (λ (later : IsIn e (filter p xs)). let rest = filter_in p e xs later in (inr rest.0, rest.1))
    (subst (λ b. IsIn e (if b then x ∷ filter p xs else filter p xs)) passes h))
    (λ (fails : p x ≡ false). let rest = filter_in p e xs (subst (λ b. IsIn e (if b then x ∷ filter p xs else filter p xs)) fails h) in (inr rest.0, rest.1))
    (cases_Bool (p x))

in_filter : (p : Edge → Bool) (e : Edge) (xs : List Edge) → IsIn e xs → p e ≡ true → IsIn e (filter p xs)
in_filter p e [] h passes = absurd h
in_filter p e (x ∷ xs) h passes =
    ⊎_elim
    (λ (same : e ≡ x). subst (λ b. IsIn e (if b then x ∷ filter p xs else filter p xs)) (sym (ap p (sym same) ∙ passes)) (inl same))
    (λ (later : IsIn e xs). on (p x) (in_filter p e xs later passes))
    h
  where
    on : (b : Bool) → IsIn e (filter p xs) → IsIn e (if b then x ∷ filter p xs else filter p xs)
    on true rest = inr rest
    on false rest = rest

-- an edge of the lists is one of the graph, leads to the actor of its list and takes no time
pub record IsOf (es : List Edge) (a count : ℕ) (e : Edge) : Type 0 where
  pub in_edges : IsIn e es
  pub to : e.to ≡ a
  pub free : e.weight.time ≡ 0
  pub below : a < count

is_of : (es : List Edge) (count : ℕ) (incoming : List (List Edge)) → AreIncoming es count incoming → (a : ℕ) (e : Edge) → IsIn e (into incoming a) → IsOf es a count e
is_of es count incoming are a e mem =
    ⊎_elim
    (λ (below : a < count).
    let h = filter_in (comes_to a) e es (subst (IsIn e) (are.lists a below) mem) in
    let both = and_parts (e.to == a) (e.weight.time == 0) h.1 in
    record { in_edges = h.0; to = eqb-true e.to a both.0; free = eqb-true e.weight.time 0 both.1; below = below })
    (λ (past : count ≤ a). absurd (subst (IsIn e) (get_or_past incoming a [] (subst (λ n. n ≤ a) (sym are.len) past)) mem))
    (cases_lt a count)

-- and each such edge is in its list
is_listed : (es : List Edge) (count : ℕ) (incoming : List (List Edge)) → AreIncoming es count incoming → (e : Edge) → IsIn e es → e.to < count → e.weight.time ≡ 0 → IsIn e (into incoming e.to)
is_listed es count incoming are e mem below free =
    subst (IsIn e) (sym (are.lists e.to below)) (in_filter (comes_to e.to) e es mem (and_from (e.to == e.to) (e.weight.time == 0) (eq-eqb e.to e.to refl) (eq-eqb e.weight.time 0 free)))

pub are_joined : (g : Graph) (incoming : List (List Edge)) → IsLawful g → AreIncoming (edges g) (length g.actors) incoming → AreEdgeLists incoming
are_joined g incoming lawful are = record {
  to = λ a e mem. (is_of (edges g) (length g.actors) incoming are a e mem).to;
  from = λ a e mem. subst (λ n. e.from < n) (sym are.len) ((wired g lawful).ends e (is_of (edges g) (length g.actors) incoming are a e mem).in_edges).0;
}

-- before the search
fresh_at : (incoming : List (List Edge)) (a : ℕ) → place_at (map fresh_place incoming) a ≡ fresh_place (into incoming a)
fresh_at incoming a =
    ⊎_elim
    (λ (below : a < length incoming). get_or-map fresh_place incoming a [] (fresh_place []) below)
    (λ (past : length incoming ≤ a).
    get_or_past (map fresh_place incoming) a (fresh_place []) (subst (λ n. n ≤ a) (sym (length-map incoming fresh_place)) past) ∙ ap fresh_place (sym (get_or_past incoming a [] past)))
    (cases_lt a (length incoming))

pub fresh_rests : (incoming : List (List Edge)) → Rests incoming (map fresh_place incoming)
fresh_rests incoming = record {
  long = length-map incoming fresh_place;
  settled = record {
    left = λ a. of a (λ p. p.left ≤ length (into incoming a)) (omega arith);
    looked = λ a e mem. inl (of a (λ p. IsIn e (take p.left (into incoming a))) (subst (IsIn e) (sym (take_all (length (into incoming a)) (into incoming a) (omega arith))) mem));
    levels = λ a. inl (of a (λ p. p.level ≡ 0) refl);
    ranks = λ a. inl (of a (λ p. p.rank ≡ 0) refl);
    finished = λ a done. let h : New ≡ Done = sym (of a (λ p. p.mark ≡ New) refl) ∙ done in cc;
    few = λ a. of a (λ p. p.level + one_if_done p.mark ≤ done_count (map fresh_place incoming)) (omega arith);
    small = λ a. of a (λ p. p.rank ≤ p.level) (omega arith);
  };
  none_open = λ a opened. let h : New ≡ Open = sym (of a (λ p. p.mark ≡ New) refl) ∙ opened in cc;
}
  where
    of : (a : ℕ) (F : SearchState → Type 0) → F (fresh_place (into incoming a)) → F (place_at (map fresh_place incoming) a)
    of a F h = subst F (sym (fresh_at incoming a)) h

-- an actor whose mark stays is done
pub done_of : (m : SearchMark) → marks_left m ≤ 0 → m ≡ Done
done_of New h = absurd (omega (arith, h))
done_of Open h = absurd (omega (arith, h))
done_of Done h = refl

-- one whose mark changes at most once is done unless it is open
pub done_unless : (m : SearchMark) → marks_left m ≤ 1 → (m ≡ Open → ⊥) → m ≡ Done
done_unless New h shut = absurd (omega (arith, h))
done_unless Open h shut = absurd (shut refl)
done_unless Done h shut = refl

-- once all are done
module _ (g : Graph) (incoming : List (List Edge)) (places : List SearchState) (lawful : IsLawful g) (are : AreIncoming (edges g) (length g.actors) incoming) (all : ActorsAreDone incoming places) where
  above : (e : Edge) → IsIn e (edges g) → e.weight.time ≡ 0 → LiesAbove e (place_at places e.from) (place_at places e.to)
  above e mem free =
      let below : e.to < length g.actors = ((wired g lawful).ends e mem).1 in
      let none : (place_at places e.to).left ≡ 0 = all.settled.finished e.to (all.done e.to (subst (λ n. e.to < n) (sym are.len) below)) in
      ⊎_elim
      (λ (waits : IsIn e (take (place_at places e.to).left (into incoming e.to))). absurd (subst (λ n. IsIn e (take n (into incoming e.to))) none waits))
      (λ (h : LiesAbove e (place_at places e.from) (place_at places e.to)). h)
      (all.settled.looked e.to e (is_listed (edges g) (length g.actors) incoming are e mem below free))

  pub levels_found : AreLevels g (λ a. (place_at places a).level)
  levels_found = are_levels g (λ a. (place_at places a).level) (record {
    rises = λ e mem free. (above e mem free).level;
    comes = λ a.
        ⊎_elim
        (λ (none : (place_at places a).level ≡ 0). inl none)
        (λ (one : IsOneAbove (λ (e : Edge). Unit {0}) (λ (p : SearchState). p.level) (place_at places) (into incoming a) (place_at places a)).
        let of = is_of (edges g) (length g.actors) incoming are a one.edge one.in_list in
        inr (record { edge = one.edge; in_graph = of.in_edges; to = of.to; such_edge = of.free; over = one.above }))
        (all.settled.levels a);
  })

  pub ranks_found : AreRanks g (λ a. (place_at places a).rank)
  ranks_found = are_ranks g (λ a. (place_at places a).rank) (record {
    rises = λ e mem none. (above e mem none.0).rank none.1;
    comes = λ a.
        ⊎_elim
        (λ (none : (place_at places a).rank ≡ 0). inl none)
        (λ (one : IsOneAbove (λ (e : Edge). e.weight.step ≡ 0) (λ (p : SearchState). p.rank) (place_at places) (into incoming a) (place_at places a)).
        let of = is_of (edges g) (length g.actors) incoming are a one.edge one.in_list in
        inr (record { edge = one.edge; in_graph = of.in_edges; to = of.to; such_edge = (of.free, one.such_edge); over = one.above }))
        (all.settled.ranks a);
  })

-- a cycle of edges in the lists is one of the graph, and takes no time
joins_leads : (g : Graph) (incoming : List (List Edge)) → AreIncoming (edges g) (length g.actors) incoming → (a b : ℕ) (es : List Edge) → EdgesLead incoming a es b → Leads g a es b × ((sum_along es).time ≡ 0)
joins_leads g incoming are a b [] h = (h, refl)
joins_leads g incoming are a b (e ∷ es) (mem, from, rest) =
    let of = is_of (edges g) (length g.actors) incoming are e.to e mem in
    let on = joins_leads g incoming are e.to b es rest in
    let here : e.weight.time ≡ 0 = of.free in
    let later : (sum_along es).time ≡ 0 = on.1 in
    ((of.in_edges, from, on.0), omega (arith, here, later))

pub cycle_found : (g : Graph) (incoming : List (List Edge)) → AreIncoming (edges g) (length g.actors) incoming → (f : CycleFault) → MeetsRing incoming f → CauseOfCycle f g
cycle_found g incoming are Memory h = tt
cycle_found g incoming are (Cycle actors) h =
    let leads = joins_leads g incoming are h.start h.start (h.edge ∷ h.path) h.joined in
    record {
      first = h.start;
      edge = h.edge;
      path = h.path;
      cycle = record { leads = leads.0; differ = h.differ };
      free = leads.1;
      actors_are = h.actors_are;
      least = h.least;
    }

-- the numbers of all actors, by actor
number_of : (number : SearchState → ℕ) → number (fresh_place []) ≡ 0 → (places : List SearchState) (a : ℕ) → get_or (map number places) a 0 ≡ number (place_at places a)
number_of number none places a =
    ⊎_elim
    (λ (below : a < length places). get_or-map number places a (fresh_place []) 0 below)
    (λ (past : length places ≤ a).
    get_or_past (map number places) a 0 (subst (λ n. n ≤ a) (sym (length-map places number)) past) ∙ (sym none ∙ ap number (sym (get_or_past places a (fresh_place []) past))))
    (cases_lt a (length places))

pub ranks_are : (g : Graph) (incoming : List (List Edge)) (places : List SearchState) (ranks : List ℕ) → IsLawful g → AreIncoming (edges g) (length g.actors) incoming → ActorsAreDone incoming places → ranks ≡ map (λ (p : SearchState). p.rank) places → AreRanks g (λ a. get_or ranks a 0)
ranks_are g incoming places ranks lawful are all is =
    λ a. subst (IsLongest g NoDelay a) (sym (ap (λ ns. get_or ns a 0) is ∙ number_of (λ (p : SearchState). p.rank) refl places a)) (ranks_found g incoming places lawful are all a)

pub levels_are : (g : Graph) (incoming : List (List Edge)) (places : List SearchState) (levels : List ℕ) → IsLawful g → AreIncoming (edges g) (length g.actors) incoming → ActorsAreDone incoming places → levels ≡ map (λ (p : SearchState). p.level) places → AreLevels g (λ a. get_or levels a 0)
levels_are g incoming places levels lawful are all is =
    λ a. subst (IsLongest g NoTime a) (sym (ap (λ ns. get_or ns a 0) is ∙ number_of (λ (p : SearchState). p.level) refl places a)) (levels_found g incoming places lawful are all a)

-- a graph has few actors
pub few_lists : (g : Graph) (incoming : List (List Edge)) → IsLawful g → AreIncoming (edges g) (length g.actors) incoming → length incoming + 1 < 2 ^ 32
few_lists g incoming lawful are = let few : length g.actors ≤ 1024 = lawful.few_actors in let long : length incoming ≡ length g.actors = are.len in omega (arith, few, long)
