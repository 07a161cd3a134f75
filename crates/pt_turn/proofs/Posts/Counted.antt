-- How many wires leave units, and units with open claims.
use Rattle.std.proofs.Common.{◌≡◌, ℕ, zero, suc, ◌+◌, ◌<◌, ◌≤◌, Bool, true, false, cond, List, [], ◌∷◌, Option, Some, None, take, get_or, length, refl, subst, ⊎_elim, if◌then◌else◌, arith, is_some}
use Rattle.std.specs.List.{count_by}
use Rattle.std.proofs.lemmas.Bool.{cases_Bool}
use Rattle.std.proofs.lemmas.List.Sums.{sum_by-cons, count_by_more_yes, count_by_more_no}
use Rattle.pt_types.specs.declared.graph.Graph.{Graph}
use Rattle.pt_types.specs.declared.graph.Unit.{Unit}
use Rattle.pt_types.specs.declared.graph.Wire.{Wire}
use Rattle.pt_types.specs.declared.firing.Task.{Task}
use Rattle.pt_semantics.specs.Edges.{of_wire}
use Rattle.pt_semantics.specs.Platform.{put_busy}
use Rattle.pt_semantics.specs.Units.{leaves_unit, source, same_part}
use Rattle.pt_semantics.proofs.Lookups.{same_part-true, none_some}
use Rattle.pt_turn.specs.Posts.Room.{leaving, leaving_open}

-- one wire in front
pub count_cons : (p : Wire → Bool) (w : Wire) (ws : List Wire) → count_by p (w ∷ ws) ≡ cond (p w) 1 0 + count_by p ws
count_cons p w ws = sum_by-cons (λ (x : Wire). cond (p x) 1 0) w ws

-- a front has no more
take_less : (p : Wire → Bool) (ws : List Wire) (i : ℕ) → count_by p (take i ws) ≤ count_by p ws
take_less p [] zero = omega arith
take_less p [] (suc i) = omega arith
take_less p (w ∷ ws) zero = omega arith
take_less p (w ∷ ws) (suc i) =
    let less : count_by p (take i ws) ≤ count_by p ws = take_less p ws i in
    let front : count_by p (w ∷ take i ws) ≡ cond (p w) 1 0 + count_by p (take i ws) = count_cons p w (take i ws) in
    let all : count_by p (w ∷ ws) ≡ cond (p w) 1 0 + count_by p ws = count_cons p w ws in
    omega (arith, less, front, all)

-- a wire that leaves the unit has room yet
pub room_left : (g : Graph) (u : Unit) (ws : List Wire) (i spare was : ℕ) (d : Wire) → i < length ws → leaves_unit g u (of_wire g (get_or ws i d)) ≡ true → leaving g u ws ≤ was → was ≤ spare + leaving g u (take i ws) → 0 < spare
room_left g u ws i spare was d lt on room so =
    let more : leaving g u (take (i + 1) ws) ≡ leaving g u (take i ws) + 1 = count_by_more_yes (λ (w : Wire). leaves_unit g u (of_wire g w)) ws i d lt on in
    let less : leaving g u (take (i + 1) ws) ≤ leaving g u ws = take_less (λ (w : Wire). leaves_unit g u (of_wire g w)) ws (i + 1) in
    omega (arith, more, less, room, so)

-- one wire more
pub spare_more : (g : Graph) (u : Unit) (ws : List Wire) (i was mid spare : ℕ) (d : Wire) → i < length ws → was ≤ mid + leaving g u (take i ws) → mid ≤ spare + 1 → (leaves_unit g u (of_wire g (get_or ws i d)) ≡ false → mid ≤ spare) → was ≤ spare + leaving g u (take (i + 1) ws)
spare_more g u ws i was mid spare d lt so one idle =
    ⊎_elim
    (λ (on : leaves_unit g u (of_wire g (get_or ws i d)) ≡ true).
    let more : leaving g u (take (i + 1) ws) ≡ leaving g u (take i ws) + 1 = count_by_more_yes (λ (w : Wire). leaves_unit g u (of_wire g w)) ws i d lt on in
    omega (arith, more, so, one))
    (λ (off : leaves_unit g u (of_wire g (get_or ws i d)) ≡ false).
    let more : leaving g u (take (i + 1) ws) ≡ leaving g u (take i ws) = count_by_more_no (λ (w : Wire). leaves_unit g u (of_wire g w)) ws i d lt off in
    let same : mid ≤ spare = idle off in
    omega (arith, more, so, same))
    (cases_Bool (leaves_unit g u (of_wire g (get_or ws i d))))

-- one wire, by whether it leaves the unit, and by what is open where it begins
weigh : (same : Bool) (o : Option Task) → (same ≡ true → (task : Task) × (o ≡ Some task)) → cond (is_some (if same then None else o)) 1 0 + cond same 1 0 ≡ cond (is_some o) 1 0
weigh true None h = absurd (none_some (h refl).0 (h refl).1)
weigh true (Some task) h = refl
weigh false None h = refl
weigh false (Some task) h = refl

-- when a claim is closed, the wires of its unit are those that do not count any more
pub closed_less : (g : Graph) (busy : Unit → Option Task) (u : Unit) (task : Task) (ws : List Wire) → busy u ≡ Some task → leaving_open g (put_busy busy u None) ws + leaving g u ws ≡ leaving_open g busy ws
closed_less g busy u task [] is = refl
closed_less g busy u task (w ∷ ws) is =
    let rest : leaving_open g (put_busy busy u None) ws + leaving g u ws ≡ leaving_open g busy ws = closed_less g busy u task ws is in
    let after : leaving_open g (put_busy busy u None) (w ∷ ws) ≡ cond (is_some (put_busy busy u None (source g (of_wire g w)))) 1 0 + leaving_open g (put_busy busy u None) ws = count_cons (λ (x : Wire). is_some (put_busy busy u None (source g (of_wire g x)))) w ws in
    let before : leaving_open g busy (w ∷ ws) ≡ cond (is_some (busy (source g (of_wire g w)))) 1 0 + leaving_open g busy ws = count_cons (λ (x : Wire). is_some (busy (source g (of_wire g x)))) w ws in
    let own : leaving g u (w ∷ ws) ≡ cond (leaves_unit g u (of_wire g w)) 1 0 + leaving g u ws = count_cons (λ (x : Wire). leaves_unit g u (of_wire g x)) w ws in
    let one : cond (is_some (put_busy busy u None (source g (of_wire g w)))) 1 0 + cond (leaves_unit g u (of_wire g w)) 1 0 ≡ cond (is_some (busy (source g (of_wire g w)))) 1 0 = weigh (same_part u (source g (of_wire g w))) (busy (source g (of_wire g w))) (λ on. (task, subst (λ (v : Unit). busy v ≡ Some task) (same_part-true u (source g (of_wire g w)) on) is)) in
    omega (arith, rest, after, before, own, one)
