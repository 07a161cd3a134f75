-- The state of the search for ranks and levels.
use Rattle.std.specs.Prelude.{◌≡◌, ◌<◌, ◌≤◌, ◌+◌, ◌≢◌, ◌⊎◌, ℕ, List, [], ◌∷◌, length, map, take}
use Rattle.std.specs.List.{sum_by}
use Rattle.pt_types.specs.declared.graph.Edge.{Edge}
use Rattle.pt_semantics.specs.Lists.{Each, IsIn}
use Rattle.pt_semantics.specs.Cycles.{Differ}
use Rattle.pt_causality.specs.declared.places.SearchState.{SearchState}
use Rattle.pt_causality.specs.declared.places.SearchMark.{SearchMark}
use Rattle.pt_causality.specs.declared.places.SearchMark.TheVariants.{New, Open, Done}
use Rattle.pt_causality.specs.declared.cycle.CycleFault.{CycleFault}
use Rattle.pt_causality.specs.declared.cycle.CycleFault.TheVariants.{Memory, Cycle}
use Rattle.pt_causality.specs.Incoming.{into}
use Rattle.pt_causality.specs.Places.{place_at}

-- the number of times that the mark of an actor still changes
abbrev pub marks_left : SearchMark → ℕ
marks_left New = 2
marks_left Open = 1
marks_left Done = 0

-- a bound on the number of steps that the search still makes
abbrev pub steps_left : List SearchState → ℕ
steps_left places = sum_by (λ (p : SearchState). p.left + marks_left p.mark) places

abbrev pub one_if_done : SearchMark → ℕ
one_if_done New = 0
one_if_done Open = 0
one_if_done Done = 1

-- the number of actors that are done
abbrev pub done_count : List SearchState → ℕ
done_count places = sum_by (λ (p : SearchState). one_if_done p.mark) places

-- the edges in a list lead to the actor of the list, and come from actors that have lists
pub record AreEdgeLists (incoming : List (List Edge)) : Type 0 where
  pub to : (a : ℕ) (e : Edge) → IsIn e (into incoming a) → e.to ≡ a
  pub from : (a : ℕ) (e : Edge) → IsIn e (into incoming a) → e.from < length incoming

-- an edge leads from an actor that is done, and the actor that it leads to is higher
pub record LiesAbove (e : Edge) (before p : SearchState) : Type 0 where
  pub done : before.mark ≡ Done
  pub level : before.level < p.level
  pub rank : e.weight.step ≡ 0 → before.rank < p.rank

-- a number of an actor is one more than that of a done actor, from which such an edge leads to it
pub record IsOneAbove (such : Edge → Type 0) (number : SearchState → ℕ) (at : ℕ → SearchState) (edges : List Edge) (p : SearchState) : Type 0 where
  pub edge : Edge
  pub in_list : IsIn edge edges
  pub such_edge : such edge
  pub done : (at edge.from).mark ≡ Done
  pub above : number p ≡ number (at edge.from) + 1

abbrev pub Comes : (Edge → Type 0) → (SearchState → ℕ) → (ℕ → SearchState) → List Edge → SearchState → Type 0
Comes such number at edges p = (number p ≡ 0) ⊎ IsOneAbove such number at edges p

-- the numbers so far: each is 0, or one above the greatest at the sources of the edges that were looked at
pub record NumbersAreSettled (incoming : List (List Edge)) (at : ℕ → SearchState) (done : ℕ) : Type 0 where
  pub left : (a : ℕ) → (at a).left ≤ length (into incoming a)
  pub looked : (a : ℕ) (e : Edge) → IsIn e (into incoming a) → IsIn e (take (at a).left (into incoming a)) ⊎ LiesAbove e (at e.from) (at a)
  pub levels : (a : ℕ) → Comes (λ (e : Edge). Unit {0}) (λ (p : SearchState). p.level) at (into incoming a) (at a)
  pub ranks : (a : ℕ) → Comes (λ (e : Edge). e.weight.step ≡ 0) (λ (p : SearchState). p.rank) at (into incoming a) (at a)
  pub finished : (a : ℕ) → (at a).mark ≡ Done → (at a).left ≡ 0
  pub few : (a : ℕ) → (at a).level + one_if_done (at a).mark ≤ done
  pub small : (a : ℕ) → (at a).rank ≤ (at a).level

-- no walk is under way: each actor is new or done
pub record Rests (incoming : List (List Edge)) (places : List SearchState) : Type 0 where
  pub long : length places ≡ length incoming
  pub settled : NumbersAreSettled incoming (place_at places) (done_count places)
  pub none_open : (a : ℕ) → (place_at places a).mark ≢ Open

-- each actor is done
pub record ActorsAreDone (incoming : List (List Edge)) (places : List SearchState) : Type 0 where
  pub long : length places ≡ length incoming
  pub settled : NumbersAreSettled incoming (place_at places) (done_count places)
  pub done : (a : ℕ) → a < length incoming → (place_at places a).mark ≡ Done

-- these edges, each in its list, lead from actor a to actor b
abbrev pub EdgesLead : List (List Edge) → ℕ → List Edge → ℕ → Type 0
EdgesLead incoming a [] b = a ≡ b
EdgesLead incoming a (e ∷ es) b = IsIn e (into incoming e.to) × (e.from ≡ a) × EdgesLead incoming e.to es b

-- no two of these numbers are the same
abbrev pub Apart : List ℕ → Type 0
Apart [] = Unit {0}
Apart (x ∷ xs) = Each (λ (y : ℕ). x ≢ y) xs × Apart xs

-- the actors along a trail, from its top
abbrev pub walked : ℕ → List Edge → List ℕ
walked top trail = top ∷ map (λ (e : Edge). e.to) trail

-- the walk has gone back from its root to its top along this trail, and exactly the actors along it are open
pub record IsWalk (incoming : List (List Edge)) (places : List SearchState) (top : ℕ) (trail : List Edge) : Type 0 where
  pub long : length places ≡ length incoming
  pub settled : NumbersAreSettled incoming (place_at places) (done_count places)
  pub root : ℕ
  pub joined : EdgesLead incoming top trail root
  pub apart : Apart (walked top trail)
  pub are_open : (a : ℕ) → IsIn a (walked top trail) → (place_at places a).mark ≡ Open
  pub on_walk : (a : ℕ) → (place_at places a).mark ≡ Open → IsIn a (walked top trail)

-- the edge at the top of the trail was removed; it leads to the new top
pub record WentBack (trail : List Edge) (top : ℕ) (rest : List Edge) : Type 0 where
  pub edge : Edge
  pub last : trail ≡ edge ∷ rest
  pub to : top ≡ edge.to

-- these actors are a cycle of edges in the lists, and the first has the least number
pub record IsCycleInLists (incoming : List (List Edge)) (actors : List ℕ) : Type 0 where
  pub start : ℕ
  pub edge : Edge
  pub path : List Edge
  pub joined : EdgesLead incoming start (edge ∷ path) start
  pub differ : Differ (edge ∷ path)
  pub actors_are : actors ≡ map (λ (e : Edge). e.from) (edge ∷ path)
  pub least : Each (λ (a : ℕ). start ≤ a) actors

abbrev pub MeetsRing : List (List Edge) → CycleFault → Type 0
MeetsRing incoming Memory = Unit {0}
MeetsRing incoming (Cycle actors) = IsCycleInLists incoming actors
