-- What one wire more sends, and that nothing waits there.
use Rattle.std.proofs.Common.{◌≡◌, ℕ, zero, suc, ◌+◌, ◌<◌, ◌≤◌, ◌==◌, ◌&&◌, ◌≢◌, Bool, true, false, nat_lt, List, [], ◌∷◌, ◌++◌, Option, Some, None, ℤ, map, take, get_or, length, slice_get, arith, refl, sym, ap, ap₂, subst, ◌∙◌, eq-eqb, lt-ltb, ne_eqb, eqb-true, ⊎_elim, if◌then◌else◌, append-nil}
use Rattle.std.proofs.lemmas.Bool.{and_parts, and_from, cases_Bool}
use Rattle.std.proofs.lemmas.Bool.Decides.{nat_tests}
use Rattle.std.proofs.lemmas.List.{take_more, map_push, get_or_default}
use Rattle.pt_tags.specs.declared.tag.Tag.{Tag}
use Rattle.pt_tags.specs.declared.tag.Delay.{Delay}
use Rattle.pt_types.specs.declared.graph.Wire.{Wire}
use Rattle.pt_types.specs.declared.graph.Link.{Link}
use Rattle.pt_types.specs.declared.graph.Graph.{Graph}
use Rattle.pt_types.specs.declared.graph.Actor.{Actor}
use Rattle.pt_tags.specs.declared.message.Message.{Message}
use Rattle.pt_types.specs.declared.graph.Unit.{Unit}
use Rattle.pt_tags.specs.Tags.{same_tag, plus}
use Rattle.pt_semantics.specs.Lists.{first_of, or_else, IsIn}
use Rattle.pt_types.specs.Ports.{when, at_port}
use Rattle.pt_semantics.specs.Edges.{Edge, of_wire, weight, wires, links, edges}
use Rattle.pt_types.specs.Groups.{no_actor}
use Rattle.pt_types.specs.Lookups.{kind_of}
use Rattle.pt_semantics.specs.Units.{leaves_unit, at_input}
use Rattle.pt_types.specs.Groups.{output_group}
use Rattle.pt_semantics.specs.Meaning.{Values, going, added}
use Rattle.pt_semantics.specs.Posting.{message_from, as_message}
use Rattle.pt_semantics.specs.Floor.{NothingThere}
use Rattle.pt_semantics.proofs.Words.{when-true, when-false}
use Rattle.pt_semantics.proofs.Tags.{same_tag-true, same_tag-refl}
use Rattle.pt_semantics.proofs.Floor.{going_found, end_is}
use Rattle.pt_causality.specs.Units.{IsUnit}
use Rattle.pt_causality.proofs.Branching.{at_in}
use Rattle.pt_semantics.proofs.Lookups.{IsIn-append_left, or_else_found, or_else_none, or_else_assoc, when_or_else, when_none, when_found, first_of-append, first_of_none}
use Rattle.pt_queue.specs.Events.{value_in}
use Rattle.pt_semantics.specs.Wired.{IsWired}
use Rattle.pt_turn.specs.Posts.Sent.{sent, along, sent_on}

both : (c d : Bool) (x : Option ℤ) → when c (when d x) ≡ when (c && d) x
both true d x = refl
both false d x = refl

swap : (c d : Bool) (x : Option ℤ) → when c (when d x) ≡ when d (when c x)
swap true d x = refl
swap false true x = refl
swap false false x = refl

inside : (b c : Bool) (x : Option ℤ) → (c ≡ true → b ≡ true) → when c x ≡ when b (when c x)
inside b true x f = sym (when-true b x (f refl))
inside true false x f = refl
inside false false x f = refl

in_time : (m n : ℕ) → m ≤ n → nat_lt m (suc n) ≡ true
in_time m n l = lt-ltb m (suc n) (omega arith)

pub sent_event : (wire : Wire) (delay : Delay) (until : ℕ) (t : Tag) (value : ℤ) → t.time + delay.time ≤ until → value_in (record { tag = plus t delay; actor = wire.to; port = wire.input; value = value }) ≡ sent wire delay until t (Some value)
sent_event wire delay until t value within = λ i a p u. at a p u i
  where
    at : (a p : ℕ) (u : Tag) → value_in (record { tag = plus t delay; actor = wire.to; port = wire.input; value = value }) a p u ≡ sent wire delay until t (Some value) a p u
    at a p u =
        sym (both (wire.to == a && wire.input == p) (same_tag (plus t delay) u) (Some value))
        ∙ ap (when (wire.to == a && wire.input == p))
        (inside (nat_lt u.time (suc until)) (same_tag (plus t delay) u) (Some value) (λ s. subst (λ (z : Tag). nat_lt z.time (suc until) ≡ true) (same_tag-true (plus t delay) u s) (in_time (t.time + delay.time) until within)))
        ∙ swap (wire.to == a && wire.input == p) (nat_lt u.time (suc until)) (when (same_tag (plus t delay) u) (Some value))

-- what a value sends is there
pub sent_there : (wire : Wire) (delay : Delay) (until : ℕ) (t : Tag) (value : ℤ) → t.time + delay.time ≤ until → sent wire delay until t (Some value) wire.to wire.input (plus t delay) ≡ Some value
sent_there wire delay until t value within =
    when-true (nat_lt (t.time + delay.time) (suc until)) _ (in_time (t.time + delay.time) until within)
    ∙ when-true (wire.to == wire.to && wire.input == wire.input) _ (and_from (wire.to == wire.to) (wire.input == wire.input) (eq-eqb wire.to wire.to refl) (eq-eqb wire.input wire.input refl))
    ∙ when-true (same_tag (plus t delay) (plus t delay)) (Some value) (same_tag-refl (plus t delay))

-- what an edge sends to a port at a tag
abbrev hop : (Edge → Bool) → Tag → List (Option ℤ) → ℕ → ℕ → Tag → Edge → Option ℤ
hop leaves t outputs a p u e = when (e.to == a && e.input == p) (when (leaves e && same_tag (plus t e.weight) u) (at_port outputs e.output))

hop_is : (g : Graph) (un : Unit) (t : Tag) (outputs : List (Option ℤ)) (w : Wire) (a p : ℕ) (x : Tag) → when (nat_lt x.time (suc g.until)) (hop (leaves_unit g un) t outputs a p x (of_wire g w)) ≡ along g un t outputs w a p x
hop_is g un t outputs w a p x = one (leaves_unit g un (of_wire g w))
  where
    one : (b : Bool) → when (nat_lt x.time (suc g.until)) (when (w.to == a && w.input == p) (when (b && same_tag (plus t (weight (kind_of g w.from) w.output)) x) (at_port outputs w.output))) ≡ when b (sent w (weight (kind_of g w.from) w.output) g.until t (at_port outputs w.output) a p x)
    one true = refl
    one false = ap (when (nat_lt x.time (suc g.until))) (when_none ℤ (w.to == a && w.input == p)) ∙ when_none ℤ (nat_lt x.time (suc g.until))

-- one wire more: what goes along all so far, and along this one
pub going_more : (g : Graph) (un : Unit) (ws : List Wire) (i : ℕ) (t : Tag) (outputs : List (Option ℤ)) (d : Wire) (v : Values) → i < length ws → added v (going g (map (of_wire g) (take (i + 1) ws)) (leaves_unit g un) t outputs) ≡ added (added v (going g (map (of_wire g) (take i ws)) (leaves_unit g un) t outputs)) (along g un t outputs (get_or ws i d))
going_more g un ws i t outputs d v lt = λ j a p x. at a p x j
  where
    w : Wire
    w = get_or ws i d

    list : map (of_wire g) (take (i + 1) ws) ≡ map (of_wire g) (take i ws) ++ of_wire g w ∷ []
    list = ap (map (of_wire g)) (take_more ws i d lt) ∙ map_push (of_wire g) (take i ws) w

    at : (a p : ℕ) (x : Tag) → added v (going g (map (of_wire g) (take (i + 1) ws)) (leaves_unit g un) t outputs) a p x ≡ added (added v (going g (map (of_wire g) (take i ws)) (leaves_unit g un) t outputs)) (along g un t outputs w) a p x
    at a p x =
        let h : Edge → Option ℤ = hop (leaves_unit g un) t outputs a p x in
        ap (or_else (v a p x))
        (ap (λ l. when (nat_lt x.time (suc g.until)) (first_of h l)) list
        ∙ ap (when (nat_lt x.time (suc g.until))) (first_of-append h (map (of_wire g) (take i ws)) (of_wire g w ∷ []) ∙ ap (or_else (first_of h (map (of_wire g) (take i ws)))) (or_else_none (h (of_wire g w))))
        ∙ when_or_else (nat_lt x.time (suc g.until)) (first_of h (map (of_wire g) (take i ws))) (h (of_wire g w))
        ∙ ap (or_else (going g (map (of_wire g) (take i ws)) (leaves_unit g un) t outputs a p x)) (hop_is g un t outputs w a p x))
        ∙ sym (or_else_assoc (v a p x) (going g (map (of_wire g) (take i ws)) (leaves_unit g un) t outputs a p x) _)

-- members of a front of the wires
pub in_front : (g : Graph) (ws : List Wire) (i : ℕ) (d : Wire) (e : Edge) → IsIn e (map (of_wire g) (take i ws)) → (j : ℕ) × (j < i) × (j < length ws) × (e ≡ of_wire g (get_or ws j d))
in_front g [] zero d e mem = absurd mem
in_front g [] (suc i) d e mem = absurd mem
in_front g (w ∷ ws) zero d e mem = absurd mem
in_front g (w ∷ ws) (suc i) d e mem =
    ⊎_elim
    (λ (here : e ≡ of_wire g w). (0, omega arith, omega arith, here))
    (λ (rest : IsIn e (map (of_wire g) (take i ws))). let r = in_front g ws i d e rest in let l : r.0 < i = r.1 in let k : r.0 < length ws = r.2 in (suc r.0, omega arith, omega arith, r.3))
    mem

-- wires by their places among the edges
wire_at : (g : Graph) (ws : List Wire) (rest : List Edge) (i : ℕ) (d : Wire) → i < length ws → slice_get (map (of_wire g) ws ++ rest) i ≡ Some (of_wire g (get_or ws i d))
wire_at g [] rest i d lt = absurd (omega arith)
wire_at g (w ∷ ws) rest zero d lt = refl
wire_at g (w ∷ ws) rest (suc i) d lt = wire_at g ws rest i d (omega arith)

wire_once : (g : Graph) → IsWired g → (i j : ℕ) (d : Wire) → i < length g.wires → j < length g.wires → (get_or g.wires i d).to ≡ (get_or g.wires j d).to → (get_or g.wires i d).input ≡ (get_or g.wires j d).input → i ≡ j
wire_once g wired i j d lt below to input = wired.fed_once i j (of_wire g (get_or g.wires i d)) (of_wire g (get_or g.wires j d)) (wire_at g g.wires (links g) i d lt) (wire_at g g.wires (links g) j d below) to input

-- what goes along wires comes to units of the graph
pub going_units : (g : Graph) (leaves : Edge → Bool) (t : Tag) (outputs : List (Option ℤ)) → IsWired g → (a p : ℕ) (x : Tag) (v : ℤ) → going g (wires g) leaves t outputs a p x ≡ Some v → IsUnit g (at_input g a p)
going_units g leaves t outputs wired a p x v h =
    let w = going_found g (wires g) leaves t outputs a p x v h in
    let mem : IsIn w.edge (edges g) = IsIn-append_left w.edge (wires g) (links g) w.mem in
    subst (IsUnit g) (sym (end_is g w.edge a p w.to w.input)) ((wired.ends w.edge mem).1, wired.in_unit w.edge mem)

pub added_units : (g : Graph) (old new : Values) → ((a p : ℕ) (x : Tag) (v : ℤ) → old a p x ≡ Some v → IsUnit g (at_input g a p)) → ((a p : ℕ) (x : Tag) (v : ℤ) → new a p x ≡ Some v → IsUnit g (at_input g a p)) → (a p : ℕ) (x : Tag) (v : ℤ) → added old new a p x ≡ Some v → IsUnit g (at_input g a p)
added_units g old new f h a p x v is = ⊎_elim (f a p x v) (h a p x v) (or_else_found (old a p x) (new a p x) v is)

or_some : (x y : Option ℤ) (v : ℤ) → y ≡ Some v → (w : ℤ) × (or_else x y ≡ Some w)
or_some None y v h = (v, h)
or_some (Some x) y v h = (x, refl)

some_of : (h : Edge → Option ℤ) (xs : List Edge) (e : Edge) (v : ℤ) → IsIn e xs → h e ≡ Some v → (w : ℤ) × (first_of h xs ≡ Some w)
some_of h [] e v mem f = absurd mem
some_of h (x ∷ xs) e v mem f =
    ⊎_elim
    (λ (same : e ≡ x). (v, ap (λ o. or_else o (first_of h xs)) (ap h (sym same) ∙ f)))
    (λ (rest : IsIn e xs). let r = some_of h xs e v rest f in or_some (h x) (first_of h xs) r.0 r.1)
    mem

-- what a wire sends finds nothing where it goes, where the whole firing finds nothing
pub along_absent : (g : Graph) (un : Unit) (t : Tag) (outputs : List (Option ℤ)) (i : ℕ) (d : Wire) (old now : Values) → IsWired g → i < length g.wires → NothingThere old (going g (wires g) (leaves_unit g un) t outputs) → now ≡ added old (going g (map (of_wire g) (take i g.wires)) (leaves_unit g un) t outputs) → NothingThere now (along g un t outputs (get_or g.wires i d))
along_absent g un t outputs i d old now wired lt absent is a p x v h =
    let w : Wire = get_or g.wires i d in
    let k : Edge → Option ℤ = hop (leaves_unit g un) t outputs a p x in
    let f = when_found (nat_lt x.time (suc g.until)) (k (of_wire g w)) v (hop_is g un t outputs w a p x ∙ h) in
    let q = when_found (w.to == a && w.input == p) (when (leaves_unit g un (of_wire g w) && same_tag (plus t (weight (kind_of g w.from) w.output)) x) (at_port outputs w.output)) v f.1 in
    let ends = and_parts (w.to == a) (w.input == p) q.0 in
    let some = some_of k (wires g) (of_wire g w) v (at_in g g.wires i d lt) f.1 in
    let none_old : old a p x ≡ None = absent a p x some.0 (when-true (nat_lt x.time (suc g.until)) (first_of k (wires g)) f.0 ∙ some.1) in
    let none_front : first_of k (map (of_wire g) (take i g.wires)) ≡ None = first_of_none k (map (of_wire g) (take i g.wires)) (λ e mem.
    let r = in_front g g.wires i d e mem in
    let wj : Wire = get_or g.wires r.0 d in
    let away : (wj.to == a && wj.input == p) ≡ false = ⊎_elim (λ (y : (wj.to == a && wj.input == p) ≡ true).
    let es = and_parts (wj.to == a) (wj.input == p) y in
    let same : r.0 ≡ i = wire_once g wired r.0 i d r.2 lt (eqb-true wj.to a es.0 ∙ sym (eqb-true w.to a ends.0)) (eqb-true wj.input p es.1 ∙ sym (eqb-true w.input p ends.1)) in
    let before : r.0 < i = r.1 in absurd (omega arith)) (λ (n : (wj.to == a && wj.input == p) ≡ false). n) (cases_Bool (wj.to == a && wj.input == p)) in
    ap k r.3 ∙ when-false (wj.to == a && wj.input == p) (when (leaves_unit g un (of_wire g wj) && same_tag (plus t (weight (kind_of g wj.from) wj.output)) x) (at_port outputs wj.output)) away) in
    ap (λ (z : Values). z a p x) is
    ∙ ap₂ or_else none_old (ap (when (nat_lt x.time (suc g.until))) none_front ∙ when_none ℤ (nat_lt x.time (suc g.until)))

-- what leaves, by the tests of the code
pub leaves_yes : (g : Graph) (un : Unit) (w : Wire) (group : ℕ) → w.from ≡ un.actor → group ≡ output_group (kind_of g w.from) w.output → group ≡ un.group → leaves_unit g un (of_wire g w) ≡ true
leaves_yes g un w group from is same = and_from (un.actor == w.from) (un.group == output_group (kind_of g w.from) w.output) (eq-eqb un.actor w.from (sym from)) (eq-eqb un.group (output_group (kind_of g w.from) w.output) (sym same ∙ is))

pub leaves_no : (g : Graph) (un : Unit) (w : Wire) → w.from ≢ un.actor → leaves_unit g un (of_wire g w) ≡ false
leaves_no g un w ne = ap (λ b. b && (un.group == output_group (kind_of g w.from) w.output)) (ne_eqb un.actor w.from (λ e. ne (sym e)))

pub leaves_other : (g : Graph) (un : Unit) (w : Wire) (group : ℕ) → group ≡ output_group (kind_of g w.from) w.output → group ≢ un.group → leaves_unit g un (of_wire g w) ≡ false
leaves_other g un w group is ne = and_no (un.actor == w.from) (un.group == output_group (kind_of g w.from) w.output) (ne_eqb un.group (output_group (kind_of g w.from) w.output) (λ e. ne (is ∙ sym e)))
  where
    and_no : (b c : Bool) → c ≡ false → (b && c) ≡ false
    and_no true c h = h
    and_no false c h = refl

pub none_along : (g : Graph) (un : Unit) (t : Tag) (outputs : List (Option ℤ)) (w : Wire) (v : Values) → leaves_unit g un (of_wire g w) ≡ false → v ≡ added v (along g un t outputs w)
none_along g un t outputs w v off = λ i a p x. sym (ap (or_else (v a p x)) (when-false (leaves_unit g un (of_wire g w)) (sent w (weight (kind_of g w.from) w.output) g.until t (at_port outputs w.output) a p x) off) ∙ or_else_none (v a p x)) i

pub all_along : (g : Graph) (un : Unit) (t : Tag) (outputs : List (Option ℤ)) (w : Wire) (v : Values) → leaves_unit g un (of_wire g w) ≡ true → along g un t outputs w ≡ sent w (weight (kind_of g w.from) w.output) g.until t (at_port outputs w.output)
all_along g un t outputs w v on = λ i a p x. when-true (leaves_unit g un (of_wire g w)) (sent w (weight (kind_of g w.from) w.output) g.until t (at_port outputs w.output) a p x) on i

-- what a read of the actors gives is the actor's kind
pub kind_read : (g : Graph) (items : List Actor) (a : ℕ) (x : Actor) → items ≡ g.actors → a < length g.actors → x ≡ get_or items a x → x.kind ≡ kind_of g a
kind_read g items a x same lt h = ap (λ (y : Actor). y.kind) (h ∙ ap (λ l. get_or l a x) same ∙ get_or_default g.actors a x no_actor lt)

-- one link more

pub more_link : (links : List Link) (l k a : ℕ) (t : Tag) (outputs : List (Option ℤ)) (d : Link) → l < length links → message_from (slice_get (take (suc l) links) k) a t outputs ≡ message_from (slice_get (take l links) k) a t outputs ++ sent_on k l (get_or links l d) a t (at_port outputs 0)
more_link [] l k a t outputs d lt = absurd (omega arith)
more_link (x ∷ xs) zero zero a t outputs d lt = refl
more_link (x ∷ xs) zero (suc k) a t outputs d lt = sym (ap (λ b. if b then (if x.from == a then as_message t (at_port outputs 0) else []) else []) (ne_eqb (suc k) 0 (omega arith)))
more_link (x ∷ xs) (suc l) zero a t outputs d lt = sym (ap (λ b. (if x.from == a then as_message t (at_port outputs 0) else []) ++ (if b then (if (get_or xs l d).from == a then as_message t (at_port outputs 0) else []) else [])) (ne_eqb 0 (suc l) (omega arith)) ∙ append-nil _)
more_link (x ∷ xs) (suc l) (suc k) a t outputs d lt = more_link xs l k a t outputs d (omega arith) ∙ ap (λ b. message_from (slice_get (take l xs) k) a t outputs ++ (if b then (if (get_or xs l d).from == a then as_message t (at_port outputs 0) else []) else [])) (sucs k l)
  where
    sucs : (m n : ℕ) → (m == n) ≡ (suc m == suc n)
    sucs m n = grind (arith, nat_tests)

-- one event on a link of its sender
pub on_event : (k l a : ℕ) (t : Tag) (link : Link) (v : ℤ) → link.from ≡ a → (if k == l then Message.Event t v ∷ [] else []) ≡ sent_on k l link a t (Some v)
on_event k l a t link v from = ap (λ b. if k == l then (if b then Message.Event t v ∷ [] else []) else []) (sym (eq-eqb link.from a from))
