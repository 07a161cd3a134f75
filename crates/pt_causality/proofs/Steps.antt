-- What one step of a walk does.
use Rattle.std.proofs.Common.{◌≡◌, ◌≢◌, ℕ, ◌+◌, ◌-◌, ◌<◌, ◌≤◌, List, [], ◌∷◌, length, get_or, slice_set, reverse, ◌++◌, Option, None, Some, MatchOption, refl, sym, ap, subst, ◌∙◌, arith, inl, inr, ⊎_elim}
use Rattle.std.proofs.lemmas.Bool.{cases_eq, cases_lt}
use Rattle.std.proofs.lemmas.List.{get_or-set_same, get_or-set_other, get_or_past, get_or_read, length-set, reverse-append}
use Rattle.std.proofs.lemmas.List.Sums.{sum_by-set, sum_by-cons}
use Rattle.std.specs.List.{sum_by}
use Rattle.pt_types.specs.declared.graph.Edge.{Edge}
use Rattle.pt_semantics.specs.Lists.{Each, IsIn}
use Rattle.pt_causality.specs.declared.places.SearchState.{SearchState}
use Rattle.pt_causality.specs.declared.places.SearchMark.{SearchMark}
use Rattle.pt_causality.specs.declared.places.SearchMark.TheVariants.{New, Open, Done}
use Rattle.pt_causality.specs.Incoming.{into}
use Rattle.pt_causality.specs.Places.{IsNextEdge, fresh_place, looked, marked, place_at}
use Rattle.pt_causality.specs.Ranking.{Apart, AreEdgeLists, NumbersAreSettled, IsWalk, EdgesLead, Rests, WentBack, done_count, marks_left, one_if_done, steps_left, walked}
use Rattle.pt_causality.specs.Rings.{IsClosedBy}
use Rattle.pt_causality.proofs.Settles.{next_in, settles_closed, settles_looked, settles_open}

each_in : (P : ℕ → Type 0) (xs : List ℕ) → ((x : ℕ) → IsIn x xs → P x) → Each P xs
each_in P [] h = tt
each_in P (x ∷ xs) h = (h x (inl refl), each_in P xs (λ y mem. h y (inr mem)))

in_each : (P : ℕ → Type 0) (xs : List ℕ) (x : ℕ) → Each P xs → IsIn x xs → P x
in_each P [] x h mem = absurd mem
in_each P (y ∷ xs) x h mem = ⊎_elim (λ (same : x ≡ y). subst P (sym same) h.0) (λ (later : IsIn x xs). in_each P xs x h.1 later) mem

-- an actor that was met has a place
pub within : (places : List SearchState) (a : ℕ) → (place_at places a).mark ≢ New → a < length places
within places a met =
    ⊎_elim (λ (less : a < length places). less) (λ (past : length places ≤ a). absurd (met (ap (λ (p : SearchState). p.mark) (get_or_past places a (fresh_place []) past)))) (cases_lt a (length places))

pub top_open : (incoming : List (List Edge)) (places : List SearchState) (top : ℕ) (trail : List Edge) → IsWalk incoming places top trail → (place_at places top).mark ≡ Open
top_open incoming places top trail walk = walk.are_open top (inl refl)

pub top_within : (incoming : List (List Edge)) (places : List SearchState) (top : ℕ) (trail : List Edge) → IsWalk incoming places top trail → top < length places
top_within incoming places top trail walk = within places top (λ new. let h : Open ≡ New = sym (walk.are_open top (inl refl)) ∙ new in cc)

-- the edge that is looked at from the top of a walk
pub record Looks (incoming : List (List Edge)) (places : List SearchState) (top : ℕ) (e : Edge) : Type 0 where
  pub next : IsNextEdge (place_at places top) (into incoming top) e
  pub to : e.to ≡ top
  pub in_list : IsIn e (into incoming e.to)
  pub below : e.from < length places

pub look_at : {incoming : List (List Edge)} {slice places : List SearchState} {top : ℕ} {trail : List Edge} {e : Edge} → AreEdgeLists incoming → IsWalk incoming places top trail → slice ≡ places → IsNextEdge (place_at slice top) (into incoming top) e → Looks incoming places top e
look_at {incoming} {slice} {places} {top} {trail} {e} joined walk same seen =
    let next : IsNextEdge (place_at places top) (into incoming top) e = subst (λ (ps : List SearchState). IsNextEdge (place_at ps top) (into incoming top) e) same seen in
    let mem : IsIn e (into incoming top) = next_in (place_at places top) (into incoming top) e next in
    let to : e.to ≡ top = joined.to top e mem in
    record {
      next = next;
      to = to;
      in_list = subst (λ n. IsIn e (into incoming n)) (sym to) mem;
      below = subst (λ n. e.from < n) (sym walk.long) (joined.from top e mem);
    }

-- one place has changed
record IsSet (places : List SearchState) (a : ℕ) (p : SearchState) (now : List SearchState) : Type 0 where
  below : a < length places
  is : now ≡ slice_set places a p

here : (places : List SearchState) (a : ℕ) (p : SearchState) (now : List SearchState) → IsSet places a p now → place_at now a ≡ p
here places a p now s = ap (λ ps. place_at ps a) s.is ∙ get_or-set_same places a p (fresh_place []) s.below

there : (places : List SearchState) (a : ℕ) (p : SearchState) (now : List SearchState) → IsSet places a p now → (b : ℕ) → b ≢ a → place_at now b ≡ place_at places b
there places a p now s b other = ap (λ ps. place_at ps b) s.is ∙ get_or-set_other places a b p (fresh_place []) other

as_long : (places : List SearchState) (a : ℕ) (p : SearchState) (now : List SearchState) → IsSet places a p now → length now ≡ length places
as_long places a p now s = ap (λ (ps : List SearchState). length ps) s.is ∙ length-set places a p

summed : (f : SearchState → ℕ) (places : List SearchState) (a : ℕ) (p : SearchState) (now : List SearchState) → IsSet places a p now → sum_by f now + f (place_at places a) ≡ sum_by f places + f p
summed f places a p now s = ap (λ ps. sum_by f ps + f (place_at places a)) s.is ∙ sum_by-set f places a p (fresh_place []) s.below

kept : (places : List SearchState) (a : ℕ) (p : SearchState) (now : List SearchState) → IsSet places a p now → marks_left p.mark ≤ marks_left (place_at places a).mark → (b : ℕ) → marks_left (place_at now b).mark ≤ marks_left (place_at places b).mark
kept places a p now s less b =
    ⊎_elim
    (λ (same : b ≡ a). subst (λ n. marks_left (place_at now n).mark ≤ marks_left (place_at places n).mark) (sym same) (subst (λ (q : SearchState). marks_left q.mark ≤ marks_left (place_at places a).mark) (sym (here places a p now s)) less))
    (λ (other : b ≡ a → ⊥). subst (λ (q : SearchState). marks_left q.mark ≤ marks_left (place_at places b).mark) (sym (there places a p now s b other)) (omega arith))
    (cases_eq b a)

-- what a step keeps, and that it is one
pub record IsStep (places now : List SearchState) : Type 0 where
  pub shrinks : steps_left now < steps_left places
  pub keeps : (b : ℕ) → marks_left (place_at now b).mark ≤ marks_left (place_at places b).mark

-- the top is closed
closed_set : (incoming : List (List Edge)) (places now : List SearchState) (top : ℕ) (trail : List Edge) → IsWalk incoming places top trail → now ≡ slice_set places top (marked Done (place_at places top)) → IsSet places top (marked Done (place_at places top)) now
closed_set incoming places now top trail walk is = record { below = top_within incoming places top trail walk; is = is }

pub closed_step : (incoming : List (List Edge)) (places now : List SearchState) (top : ℕ) (trail : List Edge) → IsWalk incoming places top trail → now ≡ slice_set places top (marked Done (place_at places top)) → IsStep places now
closed_step incoming places now top trail walk is =
    let s = closed_set incoming places now top trail walk is in
    let p = place_at places top in
    let opened : marks_left p.mark ≡ 1 = ap marks_left (top_open incoming places top trail walk) in
    let sum : steps_left now + (p.left + marks_left p.mark) ≡ steps_left places + (p.left + 0) = summed (λ (q : SearchState). q.left + marks_left q.mark) places top (marked Done p) now s in
    record { shrinks = omega (arith, opened, sum); keeps = kept places top (marked Done p) now s (omega arith) }

closed_settled : (incoming : List (List Edge)) (places now : List SearchState) (top : ℕ) (trail : List Edge) → IsWalk incoming places top trail → (place_at places top).left ≡ 0 → now ≡ slice_set places top (marked Done (place_at places top)) → NumbersAreSettled incoming (place_at now) (done_count now)
closed_settled incoming places now top trail walk none is =
    let s = closed_set incoming places now top trail walk is in
    let p = place_at places top in
    let opened : one_if_done p.mark ≡ 0 = ap one_if_done (top_open incoming places top trail walk) in
    let sum : done_count now + one_if_done p.mark ≡ done_count places + 1 = summed (λ (q : SearchState). one_if_done q.mark) places top (marked Done p) now s in
    let more : done_count now ≡ done_count places + 1 = omega (arith, opened, sum) in
    subst (NumbersAreSettled incoming (place_at now)) (sym more)
    (settles_closed incoming (place_at places) (place_at now) top (done_count places) walk.settled (there places top (marked Done p) now s) (top_open incoming places top trail walk) none (here places top (marked Done p) now s))

-- an actor that is open after it was open before, and is not the top
still_open : (incoming : List (List Edge)) (places now : List SearchState) (top : ℕ) (trail : List Edge) → IsWalk incoming places top trail → now ≡ slice_set places top (marked Done (place_at places top)) → (a : ℕ) → (place_at now a).mark ≡ Open → (a ≢ top) × ((place_at places a).mark ≡ Open)
still_open incoming places now top trail walk is a opened =
    let s = closed_set incoming places now top trail walk is in
    let other : a ≢ top = λ same. let h : Open ≡ Done = sym opened ∙ ap (λ n. (place_at now n).mark) same ∙ ap (λ (p : SearchState). p.mark) (here places top (marked Done (place_at places top)) now s) in cc in
    (other, ap (λ (p : SearchState). p.mark) (sym (there places top (marked Done (place_at places top)) now s a other)) ∙ opened)

pub closed_end : (incoming : List (List Edge)) (places now : List SearchState) (top : ℕ) → IsWalk incoming places top [] → (place_at places top).left ≡ 0 → now ≡ slice_set places top (marked Done (place_at places top)) → Rests incoming now
closed_end incoming places now top walk none is = record {
  long = as_long places top (marked Done (place_at places top)) now (closed_set incoming places now top [] walk is) ∙ walk.long;
  settled = closed_settled incoming places now top [] walk none is;
  none_open = λ a opened.
      let still = still_open incoming places now top [] walk is a opened in
      ⊎_elim (λ (same : a ≡ top). still.0 same) (λ (no : ⊥). no) (walk.on_walk a still.1);
}

pub closed_walk : (incoming : List (List Edge)) (places now : List SearchState) (top : ℕ) (d : Edge) (trail : List Edge) → IsWalk incoming places top (d ∷ trail) → (place_at places top).left ≡ 0 → now ≡ slice_set places top (marked Done (place_at places top)) → IsWalk incoming now d.to trail
closed_walk incoming places now top d trail walk none is =
    let s = closed_set incoming places now top (d ∷ trail) walk is in
    record {
      long = as_long places top (marked Done (place_at places top)) now s ∙ walk.long;
      settled = closed_settled incoming places now top (d ∷ trail) walk none is;
      root = walk.root;
      joined = walk.joined.2;
      apart = walk.apart.1;
      are_open = λ a mem.
          let other : a ≢ top = λ same. in_each (λ y. top ≢ y) (walked d.to trail) a walk.apart.0 mem (sym same) in
          ap (λ (p : SearchState). p.mark) (there places top (marked Done (place_at places top)) now s a other) ∙ walk.are_open a (inr mem);
      on_walk = λ a opened.
          let still = still_open incoming places now top (d ∷ trail) walk is a opened in
          ⊎_elim (λ (same : a ≡ top). absurd (still.0 same)) (λ (rest : IsIn a (walked d.to trail)). rest) (walk.on_walk a still.1);
    }

-- an actor that was not met is opened
pub opened_step : (places now : List SearchState) (a : ℕ) → a < length places → (place_at places a).mark ≡ New → now ≡ slice_set places a (marked Open (place_at places a)) → IsStep places now
opened_step places now a below new is =
    let s : IsSet places a (marked Open (place_at places a)) now = record { below = below; is = is } in
    let p = place_at places a in
    let unmet : marks_left p.mark ≡ 2 = ap marks_left new in
    let sum : steps_left now + (p.left + marks_left p.mark) ≡ steps_left places + (p.left + 1) = summed (λ (q : SearchState). q.left + marks_left q.mark) places a (marked Open p) now s in
    record { shrinks = omega (arith, unmet, sum); keeps = kept places a (marked Open p) now s (omega (arith, unmet)) }

opened_settled : (incoming : List (List Edge)) (places now : List SearchState) (a : ℕ) → NumbersAreSettled incoming (place_at places) (done_count places) → a < length places → (place_at places a).mark ≡ New → now ≡ slice_set places a (marked Open (place_at places a)) → NumbersAreSettled incoming (place_at now) (done_count now)
opened_settled incoming places now a settled below new is =
    let s : IsSet places a (marked Open (place_at places a)) now = record { below = below; is = is } in
    let p = place_at places a in
    let unmet : one_if_done p.mark ≡ 0 = ap one_if_done new in
    let sum : done_count now + one_if_done p.mark ≡ done_count places + 0 = summed (λ (q : SearchState). one_if_done q.mark) places a (marked Open p) now s in
    let same : done_count now ≡ done_count places = omega (arith, unmet, sum) in
    subst (NumbersAreSettled incoming (place_at now)) (sym same)
    (settles_open incoming (place_at places) (place_at now) a (done_count places) settled (there places a (marked Open p) now s) new (here places a (marked Open p) now s))

pub opened_root : (incoming : List (List Edge)) (places now : List SearchState) (a : ℕ) → Rests incoming places → a < length places → (place_at places a).mark ≡ New → now ≡ slice_set places a (marked Open (place_at places a)) → IsWalk incoming now a []
opened_root incoming places now a rests below new is =
    let s : IsSet places a (marked Open (place_at places a)) now = record { below = below; is = is } in
    record {
      long = as_long places a (marked Open (place_at places a)) now s ∙ rests.long;
      settled = opened_settled incoming places now a rests.settled below new is;
      root = a;
      joined = refl;
      apart = (tt, tt);
      are_open = λ b mem. ⊎_elim (λ (same : b ≡ a). ap (λ n. (place_at now n).mark) same ∙ ap (λ (p : SearchState). p.mark) (here places a (marked Open (place_at places a)) now s)) (λ (no : ⊥). absurd no) mem;
      on_walk = λ b opened.
          ⊎_elim
          (λ (same : b ≡ a). inl same)
          (λ (other : b ≡ a → ⊥). absurd (rests.none_open b (ap (λ (p : SearchState). p.mark) (sym (there places a (marked Open (place_at places a)) now s b other)) ∙ opened)))
          (cases_eq b a);
    }

pub opened_walk : (incoming : List (List Edge)) (places now : List SearchState) (top : ℕ) (trail : List Edge) (e : Edge) → IsWalk incoming places top trail → e.from < length places → IsIn e (into incoming e.to) → e.to ≡ top → (place_at places e.from).mark ≡ New → now ≡ slice_set places e.from (marked Open (place_at places e.from)) → IsWalk incoming now e.from (e ∷ trail)
opened_walk incoming places now top trail e walk below in_list to new is =
    let s : IsSet places e.from (marked Open (place_at places e.from)) now = record { below = below; is = is } in
    let apart : (a : ℕ) → IsIn a (walked top trail) → e.from ≢ a = λ a mem same. let h : New ≡ Open = sym new ∙ ap (λ n. (place_at places n).mark) same ∙ walk.are_open a mem in cc in
    record {
      long = as_long places e.from (marked Open (place_at places e.from)) now s ∙ walk.long;
      settled = opened_settled incoming places now e.from walk.settled below new is;
      root = walk.root;
      joined = (in_list, refl, subst (λ n. EdgesLead incoming n trail walk.root) (sym to) walk.joined);
      apart = subst (λ n. Apart (e.from ∷ walked n trail)) (sym to) (each_in (λ n. e.from ≢ n) (walked top trail) apart, walk.apart);
      are_open = λ a mem.
          ⊎_elim
          (λ (same : a ≡ e.from). ap (λ n. (place_at now n).mark) same ∙ ap (λ (p : SearchState). p.mark) (here places e.from (marked Open (place_at places e.from)) now s))
          (λ (rest : IsIn a (walked e.to trail)).
          let was : IsIn a (walked top trail) = subst (λ n. IsIn a (walked n trail)) to rest in
          ap (λ (p : SearchState). p.mark) (there places e.from (marked Open (place_at places e.from)) now s a (λ same. apart a was (sym same))) ∙ walk.are_open a was)
          mem;
      on_walk = λ a opened.
          ⊎_elim
          (λ (same : a ≡ e.from). inl same)
          (λ (other : a ≡ e.from → ⊥). inr (subst (λ n. IsIn a (walked n trail)) (sym to) (walk.on_walk a (ap (λ (p : SearchState). p.mark) (sym (there places e.from (marked Open (place_at places e.from)) now s a other)) ∙ opened))))
          (cases_eq a e.from);
    }

-- an edge from an actor that is done was looked at
pub looked_step : (incoming : List (List Edge)) (places now : List SearchState) (top : ℕ) (trail : List Edge) (e : Edge) → IsWalk incoming places top trail → IsNextEdge (place_at places top) (into incoming top) e → now ≡ slice_set places top (looked (place_at places e.from) e (place_at places top)) → IsStep places now
looked_step incoming places now top trail e walk next is =
    let p = place_at places top in
    let q = looked (place_at places e.from) e p in
    let s : IsSet places top q now = record { below = top_within incoming places top trail walk; is = is } in
    let some : 0 < p.left = next.some in
    let sum : steps_left now + (p.left + marks_left p.mark) ≡ steps_left places + ((p.left - 1) + marks_left p.mark) = summed (λ (r : SearchState). r.left + marks_left r.mark) places top q now s in
    record { shrinks = omega (arith, some, sum); keeps = kept places top q now s (omega arith) }

pub looked_walk : (incoming : List (List Edge)) (places now : List SearchState) (top : ℕ) (trail : List Edge) (e : Edge) → IsWalk incoming places top trail → IsNextEdge (place_at places top) (into incoming top) e → (place_at places e.from).mark ≡ Done → now ≡ slice_set places top (looked (place_at places e.from) e (place_at places top)) → IsWalk incoming now top trail
looked_walk incoming places now top trail e walk next done is =
    let p = place_at places top in
    let q = looked (place_at places e.from) e p in
    let s : IsSet places top q now = record { below = top_within incoming places top trail walk; is = is } in
    let sum : done_count now + one_if_done p.mark ≡ done_count places + one_if_done p.mark = summed (λ (r : SearchState). one_if_done r.mark) places top q now s in
    let same : done_count now ≡ done_count places = omega (arith, sum) in
    let marks : (a : ℕ) → (place_at now a).mark ≡ (place_at places a).mark = λ a.
    ⊎_elim
    (λ (it : a ≡ top). ap (λ n. (place_at now n).mark) it ∙ ap (λ (r : SearchState). r.mark) (here places top q now s) ∙ ap (λ n. (place_at places n).mark) (sym it))
    (λ (other : a ≡ top → ⊥). ap (λ (r : SearchState). r.mark) (there places top q now s a other))
    (cases_eq a top) in
    record {
      long = as_long places top q now s ∙ walk.long;
      settled = subst (NumbersAreSettled incoming (place_at now)) (sym same) (settles_looked incoming (place_at places) (place_at now) top (done_count places) e walk.settled (there places top q now s) (top_open incoming places top trail walk) done next (here places top q now s));
      root = walk.root;
      joined = walk.joined;
      apart = walk.apart;
      are_open = λ a mem. marks a ∙ walk.are_open a mem;
      on_walk = λ a opened. walk.on_walk a (sym (marks a) ∙ opened);
    }

-- an edge from an open actor closes a cycle
pub closes : (incoming : List (List Edge)) (places : List SearchState) (top : ℕ) (trail : List Edge) (e : Edge) → AreEdgeLists incoming → IsWalk incoming places top trail → IsNextEdge (place_at places top) (into incoming top) e → (place_at places e.from).mark ≡ Open → IsClosedBy incoming trail e
closes incoming places top trail e joined walk next opened =
    let mem : IsIn e (into incoming top) = next_in (place_at places top) (into incoming top) e next in
    let to : e.to ≡ top = joined.to top e mem in
    record {
      in_list = subst (λ n. IsIn e (into incoming n)) (sym to) mem;
      root = walk.root;
      joined = subst (λ n. EdgesLead incoming n trail walk.root) (sym to) walk.joined;
      apart = subst (λ n. Apart (walked n trail)) (sym to) walk.apart;
      from = subst (λ n. IsIn e.from (walked n trail)) (sym to) (walk.on_walk e.from opened);
    }

done_le : (places : List SearchState) → done_count places ≤ length places
done_le [] = omega arith
done_le (p ∷ places) =
    let ih : done_count places ≤ length places = done_le places in
    let sum : done_count (p ∷ places) ≡ one_if_done p.mark + done_count places = sum_by-cons (λ (q : SearchState). one_if_done q.mark) p places in
    let one : one_if_done p.mark ≤ 1 = at_most p.mark in
    omega (arith, ih, sum, one)
  where
    at_most : (m : SearchMark) → one_if_done m ≤ 1
    at_most New = omega arith
    at_most Open = omega arith
    at_most Done = omega arith

-- an actor that is done has fewer actors before it than there are
pub level_fits : (incoming : List (List Edge)) (places : List SearchState) (a : ℕ) → NumbersAreSettled incoming (place_at places) (done_count places) → (place_at places a).mark ≡ Done → (place_at places a).level + 1 ≤ length places
level_fits incoming places a settled done =
    let few : (place_at places a).level + one_if_done (place_at places a).mark ≤ done_count places = settled.few a in
    let one : one_if_done (place_at places a).mark ≡ 1 = ap one_if_done done in
    let most : done_count places ≤ length places = done_le places in
    omega (arith, few, one, most)

pub rank_fits : (incoming : List (List Edge)) (places : List SearchState) (a : ℕ) → NumbersAreSettled incoming (place_at places) (done_count places) → (place_at places a).mark ≡ Done → (place_at places a).rank + 1 ≤ length places
rank_fits incoming places a settled done =
    let level : (place_at places a).level + 1 ≤ length places = level_fits incoming places a settled done in
    let small : (place_at places a).rank ≤ (place_at places a).level = settled.small a in
    omega (arith, level, small)

-- what was read at an actor's place
pub mark_read : (places : List SearchState) (a : ℕ) (p : SearchState) (m : SearchMark) → a < length places → p ≡ get_or places a p → p.mark ≡ m → (place_at places a).mark ≡ m
mark_read places a p m below read is = ap (λ (q : SearchState). q.mark) (sym (get_or_read places a p below read (fresh_place []))) ∙ is

-- the trail, last edge first, once an edge was pushed
pub pushed : (old new : List Edge) (e : Edge) → new ≡ old ++ e ∷ [] → reverse new ≡ e ∷ reverse old
pushed old new e is = ap (λ (es : List Edge). reverse es) is ∙ reverse-append old (e ∷ [])

-- the walk after its top was closed
pub closed : (incoming : List (List Edge)) (places now : List SearchState) (top : ℕ) (trail rest : List Edge) (next : Option ℕ) → IsWalk incoming places top trail → (place_at places top).left ≡ 0 → now ≡ slice_set places top (marked Done (place_at places top)) →
    MatchOption next (trail ≡ []) (λ t. WentBack trail t rest) → MatchOption next (Rests incoming now) (λ t. IsWalk incoming now t rest)
closed incoming places now top trail rest None walk none is ends = closed_end incoming places now top (subst (λ es. IsWalk incoming places top es) ends walk) none is
closed incoming places now top trail rest (Some t) walk none is back =
    subst (λ n. IsWalk incoming now n rest) (sym back.to) (closed_walk incoming places now top back.edge rest (subst (λ es. IsWalk incoming places top es) back.last walk) none is)

pub opened_here : (places now : List SearchState) (a : ℕ) → a < length places → now ≡ slice_set places a (marked Open (place_at places a)) → marks_left (place_at now a).mark ≤ 1
opened_here places now a below is =
    let s : IsSet places a (marked Open (place_at places a)) now = record { below = below; is = is } in
    subst (λ (p : SearchState). marks_left p.mark ≤ 1) (sym (here places a (marked Open (place_at places a)) now s)) (omega arith)
