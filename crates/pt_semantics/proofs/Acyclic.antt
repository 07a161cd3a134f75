-- A graph without a cycle of no time has ranks and levels, and no level is more than the number of actors.
use Rattle.std.proofs.Common.{◌≡◌, ℕ, suc, ◌+◌, ◌<◌, ◌≤◌, ◌==◌, ◌≢◌, ◌&&◌, ◌||◌, Bool, true, false, List, [], ◌∷◌, ◌++◌, length, zero, eqb, arith, refl, sym, ap, subst, ◌∙◌, ⊎_elim, inl, inr, length-append, eqb-true}
use Rattle.std.proofs.lemmas.Bool.{cases_lt, cases_Bool, and_parts, and_from, false≢true}
use Rattle.std.proofs.lemmas.Bool.Decides.{nat_tests}
use Rattle.std.proofs.lemmas.Map.Steps.{length-le_from_distinct_below}
use Rattle.std.specs.List.{IsDistinct, AllByRecursion, list_any}
use Rattle.pt_tags.specs.declared.tag.Delay.{Delay}
use Rattle.pt_types.specs.declared.graph.Graph.{Graph}
use Rattle.pt_semantics.specs.Lists.{IsIn, Each}
use Rattle.pt_semantics.specs.Edges.{Edge, edges}
use Rattle.pt_semantics.specs.Cycles.{Differ, IsCycle, NoFreeCycle}
use Rattle.pt_semantics.specs.Wired.{IsWired}
use Rattle.pt_semantics.specs.Ranks.{sum_along, Leads, IsLongest, NoDelay, NoTime}
use Rattle.pt_semantics.specs.CycleTheorems.{RanksAreOne, LevelsAreOne, RanksExist, LevelsExist, LevelsAreSmall, LevelsForbidCycles}
use Rattle.pt_semantics.proofs.Longest.{leads_push, sum_time, sum_step, levels_grow, no_free_cycle}

-- whether some edge of a list leaves an actor, and the first that does
data Returns (a : ℕ) (es : List Edge) : Type 0 where
  Never : Each (λ (d : Edge). a ≢ d.from) es → Returns a es
  First : (front : List Edge) (d : Edge) (back : List Edge) → es ≡ front ++ d ∷ back → d.from ≡ a → Each (λ (d : Edge). a ≢ d.from) front → Returns a es

returns_on : (a : ℕ) (e : Edge) (es : List Edge) → a ≢ e.from → Returns a es → Returns a (e ∷ es)
returns_on a e es other (Never h) = Never (other, h)
returns_on a e es other (First front d back is from apart) = First (e ∷ front) d back (ap (λ (z : List Edge). e ∷ z) is) from (other, apart)

returns : (a : ℕ) (es : List Edge) → Returns a es
returns a [] = Never tt
returns a (e ∷ es) =
    ⊎_elim
    (λ (same : (a == e.from) ≡ true). First [] e es refl (sym (eqb-true a e.from same)) tt)
    (λ (other : (a == e.from) ≡ false). returns_on a e es (λ is. false≢true (sym other ∙ subst (λ n. (a == n) ≡ true) is (eq_self a))) (returns a es))
    (cases_Bool (a == e.from))
  where
    eq_self : (n : ℕ) → (n == n) ≡ true
    eq_self n = grind (arith, nat_tests)

leads_front : (g : Graph) (a b : ℕ) (front : List Edge) (d : Edge) (back : List Edge) → Leads g a (front ++ d ∷ back) b → Leads g a front d.from
leads_front g a b [] d back (mem, from, rest) = sym from
leads_front g a b (e ∷ front) d back (mem, from, rest) = (mem, from, leads_front g e.to b front d back rest)

each_front : (P : Edge → Type 0) (front back : List Edge) → Each P (front ++ back) → Each P front
each_front P [] back h = tt
each_front P (e ∷ front) back h = (h.0, each_front P front back h.1)

differ_front : (front back : List Edge) → Differ (front ++ back) → Differ front
differ_front [] back h = tt
differ_front (e ∷ front) back h = (each_front (λ (d : Edge). e.from ≢ d.from) front back h.0, differ_front front back h.1)

time_front : (front back : List Edge) → (sum_along (front ++ back)).time ≡ 0 → (sum_along front).time ≡ 0
time_front [] back h = refl
time_front (e ∷ front) back h = let ih : (sum_along front).time ≡ 0 = time_front front back (omega (arith, h)) in omega (arith, ih, h)

-- a path of no time visits no actor twice
different : (g : Graph) → NoFreeCycle g → (path : List Edge) (a b : ℕ) → Leads g a path b → (sum_along path).time ≡ 0 → Differ path
different g never [] a b leads z = tt
different g never (e ∷ es) a b (mem, from, rest) z = by_return (omega (arith, z)) (different g never es e.to b rest (omega (arith, z))) (returns e.from es)
  where
    by_return : (sum_along es).time ≡ 0 → Differ es → Returns e.from es → Differ (e ∷ es)
    by_return later differ (Never apart) = (apart, differ)
    by_return later differ (First front d back is d_from apart) =
        let on : Leads g e.to (front ++ d ∷ back) b = subst (λ p. Leads g e.to p b) is rest in
        let cycle : IsCycle g e.from e front = record {
          leads = (mem, refl, subst (λ n. Leads g e.to front n) d_from (leads_front g e.to b front d back on));
          differ = (apart, differ_front front (d ∷ back) (subst Differ is differ));
        } in
        let short : (sum_along front).time ≡ 0 = time_front front (d ∷ back) (subst (λ p. (sum_along p).time ≡ 0) is later) in
        absurd (never e.from e front cycle (omega (arith, short, z)))

abbrev froms : List Edge → List ℕ
froms [] = []
froms (e ∷ es) = e.from ∷ froms es

froms_length : (es : List Edge) → length (froms es) ≡ length es
froms_length [] = refl
froms_length (e ∷ es) = ap suc (froms_length es)

all_apart : (a : ℕ) (es : List Edge) → Each (λ (d : Edge). a ≢ d.from) es → AllByRecursion (λ y. eqb a y ≡ false) (froms es)
all_apart a [] h = tt
all_apart a (e ∷ es) h =
    (⊎_elim (λ (same : eqb a e.from ≡ true). absurd (h.0 (eqb-true a e.from same))) (λ (other : eqb a e.from ≡ false). other) (cases_Bool (eqb a e.from)), all_apart a es h.1)

distinct : (es : List Edge) → Differ es → IsDistinct eqb (froms es)
unfolding IsDistinct
distinct [] h = tt
distinct (e ∷ es) h = (all_apart e.from es h.0, distinct es h.1)

below : (n : ℕ) (es : List Edge) → Each (λ (e : Edge). e.from < n) es → (q : ℕ) → list_any (eqb q) (froms es) ≡ true → q < n
below n [] h q found = absurd (false≢true found)
below n (e ∷ es) h q found =
    ⊎_elim
    (λ (same : eqb q e.from ≡ true). subst (λ k. k < n) (sym (eqb-true q e.from same)) h.0)
    (λ (other : eqb q e.from ≡ false). below n es h.1 q (sym (ap (λ b. b || list_any (eqb q) (froms es)) other) ∙ found))
    (cases_Bool (eqb q e.from))

along_actors : (g : Graph) → IsWired g → (path : List Edge) (a b : ℕ) → Leads g a path b → Each (λ (e : Edge). e.from < length g.actors) path
along_actors g wired [] a b leads = tt
along_actors g wired (e ∷ es) a b (mem, from, rest) = ((wired.ends e mem).0, along_actors g wired es e.to b rest)

-- so it has no more edges than the graph has actors
pub short : (g : Graph) → IsWired g → NoFreeCycle g → (path : List Edge) (a b : ℕ) → Leads g a path b → (sum_along path).time ≡ 0 → length path ≤ length g.actors
short g wired never path a b leads z =
    subst (λ n. n ≤ length g.actors) (froms_length path)
    (length-le_from_distinct_below (froms path) (length g.actors) (distinct path (different g never path a b leads z)) (below (length g.actors) path (along_actors g wired path a b leads)))

-- a path is empty, or it has a last edge
data Ends (path : List Edge) : Type 0 where
  Empty : path ≡ [] → Ends path
  Last : (front : List Edge) (e : Edge) → path ≡ front ++ e ∷ [] → Ends path

ends : (path : List Edge) → Ends path
ends [] = Empty refl
ends (e ∷ es) = after (ends es)
  where
    after : Ends es → Ends (e ∷ es)
    after (Empty none) = Last [] e (ap (λ (z : List Edge). e ∷ z) none)
    after (Last front d is) = Last (e ∷ front) d (ap (λ (z : List Edge). e ∷ z) is)

leads_last : (g : Graph) (a b : ℕ) (front : List Edge) (e : Edge) → Leads g a (front ++ e ∷ []) b → Leads g a front e.from × IsIn e (edges g) × (e.to ≡ b)
leads_last g a b [] e (mem, from, rest) = (sym from, mem, rest)
leads_last g a b (d ∷ front) e (mem, from, rest) =
    let on = leads_last g d.to b front e rest in
    ((mem, from, on.0), on.1, on.2)

-- The longest path of a kind of sums exists, where such paths can be told edge by edge and are short.
module _ (g : Graph) (such : Delay → Type 0) (free : Edge → Bool) (most : ℕ)
    (nil : such (sum_along []))
    (push : (path : List Edge) (e : Edge) → such (sum_along path) → free e ≡ true → such (sum_along (path ++ e ∷ [])))
    (pull : (path : List Edge) (e : Edge) → such (sum_along (path ++ e ∷ [])) → such (sum_along path) × (free e ≡ true))
    (few : (path : List Edge) (a b : ℕ) → Leads g a path b → such (sum_along path) → length path ≤ most) where
  -- m is the length of the longest such path to a that has at most k edges
  record Within (k a m : ℕ) : Type 0 where
    pub start : ℕ
    pub path : List Edge
    pub leads : Leads g start path a
    pub is_such : such (sum_along path)
    pub long : length path ≡ m
    pub longest : (b : ℕ) (path : List Edge) → Leads g b path a → such (sum_along path) → length path ≤ k → length path ≤ m

  -- the same, over paths that are empty or whose last edge is one of these
  record Over (k a m : ℕ) (es : List Edge) : Type 0 where
    pub start : ℕ
    pub path : List Edge
    pub leads : Leads g start path a
    pub is_such : such (sum_along path)
    pub long : length path ≡ m
    pub longest : (b : ℕ) (path : List Edge) (e : Edge) → Leads g b path e.from → such (sum_along path) → free e ≡ true → IsIn e es → e.to ≡ a → length path ≤ k → suc (length path) ≤ m

  within_none : (a : ℕ) → Within 0 a 0
  within_none a = record { start = a; path = []; leads = refl; is_such = nil; long = refl; longest = λ b path leads is le. le }

  -- one edge more that ends at a
  over_more : (k a m n : ℕ) (e : Edge) (es : List Edge) → IsIn e (edges g) → e.to ≡ a → free e ≡ true → Within k e.from n → Over k a m es → (most : ℕ) × Over k a most (e ∷ es)
  over_more k a m n e es mem to is_free w o =
      ⊎_elim
      (λ (less : n < m). (
        m,
        record {
          start = o.start;
          path = o.path;
          leads = o.leads;
          is_such = o.is_such;
          long = o.long;
          longest = λ b path d leads is fr there d_to le.
              ⊎_elim
              (λ (same : d ≡ e). let here : length path ≤ n = w.longest b path (subst (λ (z : Edge). Leads g b path z.from) same leads) is le in omega (arith, here, less))
              (λ (other : IsIn d es). o.longest b path d leads is fr other d_to le)
              there;
        },
      ))
      (λ (more : m ≤ n). (
        suc n,
        record {
          start = w.start;
          path = w.path ++ e ∷ [];
          leads = subst (λ z. Leads g w.start (w.path ++ e ∷ []) z) to (leads_push g w.start e.from w.path e w.leads mem refl);
          is_such = push w.path e w.is_such is_free;
          long = length-append w.path (e ∷ []) ∙ (let long : length w.path ≡ n = w.long in omega (arith, long));
          longest = λ b path d leads is fr there d_to le.
              ⊎_elim
              (λ (same : d ≡ e). let here : length path ≤ n = w.longest b path (subst (λ (z : Edge). Leads g b path z.from) same leads) is le in omega (arith, here))
              (λ (other : IsIn d es). let there2 : suc (length path) ≤ m = o.longest b path d leads is fr other d_to le in omega (arith, there2, more))
              there;
        },
      ))
      (cases_lt n m)

  -- one edge more that does not
  over_same : (k a m : ℕ) (e : Edge) (es : List Edge) → (e.to == a && free e) ≡ false → Over k a m es → Over k a m (e ∷ es)
  over_same k a m e es not_it o = record {
    start = o.start;
    path = o.path;
    leads = o.leads;
    is_such = o.is_such;
    long = o.long;
    longest = λ b path d leads is fr there d_to le.
        ⊎_elim
        (λ (same : d ≡ e). absurd (false≢true (sym not_it ∙ and_from (e.to == a) (free e) (subst (λ n. (n == a) ≡ true) (sym (sym (ap (λ (z : Edge). z.to) same) ∙ d_to)) (eq_self a)) (subst (λ (z : Edge). free z ≡ true) same fr))))
        (λ (other : IsIn d es). o.longest b path d leads is fr other d_to le)
        there;
  }
    where
      eq_self : (n : ℕ) → (n == n) ≡ true
      eq_self n = grind (arith, nat_tests)

  over_all : (k a : ℕ) (before : (b : ℕ) → (n : ℕ) × Within k b n) (es : List Edge) → ((e : Edge) → IsIn e es → IsIn e (edges g)) → (m : ℕ) × Over k a m es
  over_all k a before [] in_graph = (0, record { start = a; path = []; leads = refl; is_such = nil; long = refl; longest = λ b path d leads is fr there d_to le. absurd there })
  over_all k a before (e ∷ es) in_graph =
      let rest = over_all k a before es (λ d mem. in_graph d (inr mem)) in
      ⊎_elim
      (λ (it : (e.to == a && free e) ≡ true).
      let parts = and_parts (e.to == a) (free e) it in
      let there = before e.from in
      over_more k a rest.0 there.0 e es (in_graph e (inl refl)) (eqb-true e.to a parts.0) parts.1 there.1 rest.1)
      (λ (not_it : (e.to == a && free e) ≡ false). (rest.0, over_same k a rest.0 e es not_it rest.1))
      (cases_Bool (e.to == a && free e))

  within_more : (k : ℕ) → ((b : ℕ) → (n : ℕ) × Within k b n) → (a : ℕ) → (m : ℕ) × Within (suc k) a m
  within_more k before a =
      let all = over_all k a before (edges g) (λ e mem. mem) in
      let o = all.1 in (
        all.0,
        record {
          start = o.start;
          path = o.path;
          leads = o.leads;
          is_such = o.is_such;
          long = o.long;
          longest = λ b path leads is le. by_end all.0 o b path leads is le (ends path);
        },
      )
    where
      by_end : (m : ℕ) → Over k a m (edges g) → (b : ℕ) (path : List Edge) → Leads g b path a → such (sum_along path) → length path ≤ suc k → Ends path → length path ≤ m
      by_end m o b path leads is le (Empty none) = subst (λ (z : List Edge). length z ≤ m) (sym none) (omega arith)
      by_end m o b path leads is le (Last front e last) =
          let split = leads_last g b a front e (subst (λ z. Leads g b z a) last leads) in
          let was = pull front e (subst (λ z. such (sum_along z)) last is) in
          let long : length path ≡ length front + 1 = ap length last ∙ length-append front (e ∷ []) in
          let in_time : length front ≤ k = omega (arith, long, le) in
          let here : suc (length front) ≤ m = o.longest b front e split.0 was.0 was.1 split.1 split.2 in_time in
          omega (arith, long, here)

  within : (k a : ℕ) → (m : ℕ) × Within k a m
  within zero a = (0, within_none a)
  within (suc k) a = within_more k (within k) a

  pub longest : (a : ℕ) → (m : ℕ) × IsLongest g such a m
  longest a =
      let w = within most a in (
        w.0,
        record {
          one = (w.1.start, w.1.path, w.1.leads, w.1.is_such, w.1.long);
          longest = λ b path leads is. w.1.longest b path leads is (few path b a leads is);
        },
      )

zero_is : (n : ℕ) → (n == 0) ≡ true → n ≡ 0
zero_is n h = eqb-true n 0 h

is_zero : (n : ℕ) → n ≡ 0 → (n == 0) ≡ true
is_zero n h = subst (λ k. (k == 0) ≡ true) (sym h) refl

pub levels_exist : LevelsExist
levels_exist g wired never = ((λ a. (found a).0), λ a. (found a).1)
  where
    push : (path : List Edge) (e : Edge) → NoTime (sum_along path) → (e.weight.time == 0) ≡ true → NoTime (sum_along (path ++ e ∷ []))
    push path e z fr =
        let sum : (sum_along (path ++ e ∷ [])).time ≡ (sum_along path).time + e.weight.time = sum_time path e in
        let here : e.weight.time ≡ 0 = zero_is e.weight.time fr in
        omega (arith, sum, here, z)

    pull : (path : List Edge) (e : Edge) → NoTime (sum_along (path ++ e ∷ [])) → NoTime (sum_along path) × ((e.weight.time == 0) ≡ true)
    pull path e z =
        let sum : (sum_along (path ++ e ∷ [])).time ≡ (sum_along path).time + e.weight.time = sum_time path e in
        (omega (arith, sum, z), is_zero e.weight.time (omega (arith, sum, z)))

    found : (a : ℕ) → (m : ℕ) × IsLongest g NoTime a m
    found = longest g NoTime (λ (e : Edge). e.weight.time == 0) (length g.actors) refl push pull (λ path a b leads z. short g wired never path a b leads z)

pub ranks_exist : RanksExist
ranks_exist g wired never = ((λ a. (found a).0), λ a. (found a).1)
  where
    push : (path : List Edge) (e : Edge) → NoDelay (sum_along path) → ((e.weight.time == 0) && (e.weight.step == 0)) ≡ true → NoDelay (sum_along (path ++ e ∷ []))
    push path e z fr =
        let parts = and_parts (e.weight.time == 0) (e.weight.step == 0) fr in
        let time : (sum_along (path ++ e ∷ [])).time ≡ (sum_along path).time + e.weight.time = sum_time path e in
        let step : (sum_along (path ++ e ∷ [])).step ≡ (sum_along path).step + e.weight.step = sum_step path e in
        (time ∙ ap (λ n. (sum_along path).time + n) (zero_is e.weight.time parts.0) ∙ ap (λ n. n + 0) z.0, step ∙ ap (λ n. (sum_along path).step + n) (zero_is e.weight.step parts.1) ∙ ap (λ n. n + 0) z.1)

    pull : (path : List Edge) (e : Edge) → NoDelay (sum_along (path ++ e ∷ [])) → NoDelay (sum_along path) × (((e.weight.time == 0) && (e.weight.step == 0)) ≡ true)
    pull path e z =
        let time : (sum_along (path ++ e ∷ [])).time ≡ (sum_along path).time + e.weight.time = sum_time path e in
        let step : (sum_along (path ++ e ∷ [])).step ≡ (sum_along path).step + e.weight.step = sum_step path e in
        let no_time : (sum_along (path ++ e ∷ [])).time ≡ 0 = z.0 in
        let no_step : (sum_along (path ++ e ∷ [])).step ≡ 0 = z.1 in
        ((omega (arith, time, no_time), omega (arith, step, no_step)), and_from (e.weight.time == 0) (e.weight.step == 0) (is_zero e.weight.time (omega (arith, time, no_time))) (is_zero e.weight.step (omega (arith, step, no_step))))

    found : (a : ℕ) → (m : ℕ) × IsLongest g NoDelay a m
    found = longest g NoDelay (λ (e : Edge). (e.weight.time == 0) && (e.weight.step == 0)) (length g.actors) (refl, refl) push pull (λ path a b leads z. short g wired never path a b leads z.0)

pub levels_forbid_cycles : LevelsForbidCycles
levels_forbid_cycles g level are = no_free_cycle g level (levels_grow g level are)

pub levels_are_small : LevelsAreSmall
levels_are_small g level wired are a =
    let (b, path, leads, free, long) = (are a).one in
    subst (λ n. n ≤ length g.actors) long (short g wired (levels_forbid_cycles g level are) path b a leads free)

-- a longest path has one length
longest_one : (g : Graph) (such : Delay → Type 0) (a m n : ℕ) → IsLongest g such a m → IsLongest g such a n → m ≡ n
longest_one g such a m n hm hn =
    let (b, path, leads, is, long) = hm.one in
    let (c, way, leads2, is2, long2) = hn.one in
    let up : length path ≤ n = hn.longest b path leads is in
    let down : length way ≤ m = hm.longest c way leads2 is2 in
    omega (arith, up, down, long, long2)

pub ranks_are_one : RanksAreOne
ranks_are_one g rank other h k = λ i a. longest_one g NoDelay a (rank a) (other a) (h a) (k a) i

pub levels_are_one : LevelsAreOne
levels_are_one g level other h k = λ i a. longest_one g NoTime a (level a) (other a) (h a) (k a) i
