-- One message more.
use Rattle.std.proofs.Common.{zero, suc, length, map, take, get_or, ◌≡◌, ℕ, ◌==◌, ◌&&◌, ◌<◌, Bool, true, false, List, [], ◌∷◌, ◌++◌, Option, Some, ℤ, slice_get, filter_map, refl, sym, ap, ap₂, subst, ◌∙◌, inl, inr, ⊎_elim, eq-eqb, eqb-true, arith, append-nil, if◌then◌else◌}
use Rattle.std.proofs.lemmas.Bool.{false≢true, and_from, and_parts}
use Rattle.std.proofs.lemmas.Bool.Decides.{nat_tests}
use Rattle.std.proofs.lemmas.List.Elements.{filter_map-append}
use Rattle.std.proofs.lemmas.Option.{slice_get-get_or}
use Rattle.std.specs.Bool.{MatchBool}
use Rattle.pt_tags.specs.declared.message.Message.{Message}
use Rattle.pt_tags.specs.declared.tag.Tag.{Tag}
use Rattle.pt_tags.specs.Tags.{same_tag}
use Rattle.pt_types.specs.declared.graph.Graph.{Graph}
use Rattle.pt_types.specs.declared.graph.Link.{Link}
use Rattle.pt_types.specs.declared.firing.OnLink.{OnLink}
use Rattle.pt_types.specs.Ports.{when}
use Rattle.pt_semantics.specs.Bounds.{link_bound}
use Rattle.pt_semantics.specs.Closing.{on_link}
use Rattle.pt_semantics.specs.Edges.{edges, links, wires, of_link}
use Rattle.pt_types.specs.Lookups.{platform_of}
use Rattle.pt_semantics.specs.Lists.{Each, IsIn}
use Rattle.pt_semantics.specs.Meaning.{Values, added}
use Rattle.pt_semantics.specs.Orderly.{IsOrderly}
use Rattle.pt_semantics.specs.Platform.{State}
use Rattle.pt_semantics.specs.Taking.{Takes, IsOnTime, after_message, with_taken, value_of}
use Rattle.pt_semantics.specs.Units.{at_input}
use Rattle.pt_semantics.specs.Wired.{IsWired}
use Rattle.pt_semantics.proofs.Floor.{bound_of_link}
use Rattle.pt_semantics.proofs.Lookups.{none_some, same_some, IsIn-append_right, or_else_found, when_found}
use Rattle.pt_semantics.proofs.Tags.{same_tag-refl}
use Rattle.pt_semantics.proofs.Words.{when-true}
use Rattle.pt_causality.specs.Units.{IsUnit}
use Rattle.pt_queue.specs.Events.{value_in, waiting_in}
use Rattle.pt_queue.specs.Groups.{AreGroups}
use Rattle.pt_offsets.specs.declared.table.Offsets.{Offsets}
use Rattle.pt_offsets.specs.Plans.{AreOffsets}
use Rattle.pt_offsets.specs.Timings.{bound_in}
use Rattle.pt_turn.specs.declared.state.fields.Fields.{Fields}
use Rattle.pt_turn.specs.Fields.State.{state_of, busy_in, states_in, left_in, IsSound, IsOpen}
use Rattle.pt_turn.specs.Takes.Taken.{carried, Basis, Arrive, MayArrive}

both : (b c d : Bool) (x : Option ℤ) → when (b && c && d) x ≡ when (b && c) (when d x)
both true true d x = refl
both true false d x = refl
both false c d x = refl

pub carried_event : (link : Link) (t : Tag) (v : ℤ) → value_in (record { tag = t; actor = link.to; port = 0; value = v }) ≡ carried link (Message.Event t v)
carried_event link t v = λ i a p u. at a p u i
  where
    flip : (m n : ℕ) → (m == n) ≡ (n == m)
    flip m n = grind (arith, nat_tests)

    at : (a p : ℕ) (u : Tag) → value_in (record { tag = t; actor = link.to; port = 0; value = v }) a p u ≡ carried link (Message.Event t v) a p u
    at a p u = both (link.to == a) (0 == p) (same_tag t u) (Some v) ∙ ap₂ (λ b c. when (b && c) (when (same_tag t u) (Some v))) (flip link.to a) (flip 0 p)

pub carried_there : (link : Link) (t : Tag) (v : ℤ) → carried link (Message.Event t v) link.to 0 t ≡ Some v
carried_there link t v = when-true (link.to == link.to && 0 == 0) _ (and_from (link.to == link.to) (0 == 0) (eq-eqb link.to link.to refl) refl) ∙ when-true (same_tag t t) (Some v) (same_tag-refl t)

pub takes_on : (g : Graph) (level : ℕ → ℕ) (i : ℕ) (s mid : State) (ms : List OnLink) (m : OnLink) (link : Link) → Takes g level i s ms false mid → slice_get g.links m.link ≡ Some link → platform_of g link.to ≡ i → IsOrderly g level link (mid.taken m.link ++ m.message ∷ []) → IsOnTime mid.reading (link_bound g link) m.message → Takes g level i s (ms ++ m ∷ []) false (after_message mid m.link link m.message)
takes_on g level i s mid [] m link h at home orderly on =
    subst (λ (z : State). Takes g level i z (m ∷ []) false (after_message mid m.link link m.message)) h.1 (link, at, home, orderly, inl (on, (refl, refl)))
takes_on g level i s mid (x ∷ xs) m link h at home orderly on = (
  h.0,
  h.1,
  h.2,
  h.3,
  ⊎_elim
      (λ (k : IsOnTime s.reading (link_bound g h.0) x.message × Takes g level i (after_message s x.link h.0 x.message) xs false mid). inl (k.0, takes_on g level i (after_message s x.link h.0 x.message) mid xs m link k.1 at home orderly on))
      (λ (k : (IsOnTime s.reading (link_bound g h.0) x.message → ⊥) × (xs ≡ []) × (false ≡ true) × (mid ≡ with_taken s x.link x.message)). absurd (false≢true k.2))
      h.4,
)

pub takes_late : (g : Graph) (level : ℕ → ℕ) (i : ℕ) (s mid : State) (ms : List OnLink) (m : OnLink) (link : Link) → Takes g level i s ms false mid → slice_get g.links m.link ≡ Some link → platform_of g link.to ≡ i → IsOrderly g level link (mid.taken m.link ++ m.message ∷ []) → (IsOnTime mid.reading (link_bound g link) m.message → ⊥) → Takes g level i s (ms ++ m ∷ []) true (with_taken mid m.link m.message)
takes_late g level i s mid [] m link h at home orderly off =
    subst (λ (z : State). Takes g level i z (m ∷ []) true (with_taken mid m.link m.message)) h.1 (link, at, home, orderly, inr (off, refl, refl, refl))
takes_late g level i s mid (x ∷ xs) m link h at home orderly off = (
  h.0,
  h.1,
  h.2,
  h.3,
  ⊎_elim
      (λ (k : IsOnTime s.reading (link_bound g h.0) x.message × Takes g level i (after_message s x.link h.0 x.message) xs false mid). inl (k.0, takes_late g level i (after_message s x.link h.0 x.message) mid xs m link k.1 at home orderly off))
      (λ (k : (IsOnTime s.reading (link_bound g h.0) x.message → ⊥) × (xs ≡ []) × (false ≡ true) × (mid ≡ with_taken s x.link x.message)). absurd (false≢true k.2))
      h.4,
)

-- all that was taken, with one message more
pub on_more : (taken : List OnLink) (m : OnLink) (k : ℕ) → on_link k (taken ++ m ∷ []) ≡ (if k == m.link then on_link k taken ++ m.message ∷ [] else on_link k taken)
on_more taken m k =
    filter_map-append (λ (x : OnLink). when (x.link == k) (Some x.message)) taken (m ∷ [])
    ∙ ap (λ b. on_link k taken ++ filter_map (λ (x : Message). when b (Some x)) (m.message ∷ [])) (flip m.link k)
    ∙ one (k == m.link)
  where
    flip : (m n : ℕ) → (m == n) ≡ (n == m)
    flip m n = grind (arith, nat_tests)

    one : (b : Bool) → on_link k taken ++ filter_map (λ (x : Message). when b (Some x)) (m.message ∷ []) ≡ (if b then on_link k taken ++ m.message ∷ [] else on_link k taken)
    one true = refl
    one false = append-nil (on_link k taken)

-- all but what waits stays the same
abbrev pub IsFrame : Fields → Fields → Type 0
IsFrame old new = (new.open_claims ≡ old.open_claims) × (new.states ≡ old.states) × (new.sensors ≡ old.sensors) × (new.outbox ≡ old.outbox) × (new.reading ≡ old.reading) × (new.closed ≡ old.closed) × (new.claims ≡ old.claims)

-- a message that came in time
pub state_on : (old new : Fields) (taken : List OnLink) (m : OnLink) (link : Link) → waiting_in new.queue.events ≡ added (waiting_in old.queue.events) (carried link m.message) → IsFrame old new → state_of new (taken ++ m ∷ []) ≡ after_message (state_of old taken) m.link link m.message
state_on old new taken m link waits frame = λ i. record {
  waits = waits i;
  taken = λ k. on_more taken m k i;
  busy = ap (λ v. busy_in v.items) frame.0 i;
  states = ap (λ v. states_in v.items) frame.1 i;
  left = ap (λ v. left_in v.items) frame.2 i;
  outbox = λ l. ap (λ v. on_link l v.items) frame.3 i;
  reading = frame.4 i;
  closed = frame.5 i;
  claims = frame.6 i;
}

-- a late one
pub state_late : (f : Fields) (taken : List OnLink) (m : OnLink) → state_of f (taken ++ m ∷ []) ≡ with_taken (state_of f taken) m.link m.message
state_late f taken m = λ i. record {
  taken = λ k. on_more taken m k i;
  waits = waiting_in f.queue.events;
  busy = busy_in f.open_claims.items;
  states = states_in f.states.items;
  left = left_in f.sensors.items;
  outbox = λ l. on_link l f.outbox.items;
  reading = f.reading;
  closed = f.closed;
  claims = f.claims;
}

pub some_below : {X : Type 0} (xs : List X) (i : ℕ) (x : X) → slice_get xs i ≡ Some x → i < length xs
some_below [] i x h = absurd (none_some x h)
some_below (y ∷ ys) zero x h = omega arith
some_below (y ∷ ys) (suc i) x h = let l : i < length ys = some_below ys i x h in omega arith

pub comes_at : (g : Graph) (w : Basis) (messages : List OnLink) (i : ℕ) (d : OnLink) → Arrive g w messages → i < length messages → MayArrive g w (w.taken ++ take i messages) (get_or messages i d)
comes_at g w messages i d arrive lt = arrive i (get_or messages i d) (slice_get-get_or messages i d lt)

pub on_at : (r : Bool) (P : Type 0) → MatchBool r P (P → ⊥) → r ≡ true → P
on_at true P m e = m
on_at false P m e = absurd (false≢true e)

pub off_at : (r : Bool) (P : Type 0) → MatchBool r P (P → ⊥) → r ≡ false → P → ⊥
off_at false P m e = m
off_at true P m e = absurd (false≢true (sym e))

in_map : {X Y : Type 0} (f : X → Y) (xs : List X) (i : ℕ) (x : X) → slice_get xs i ≡ Some x → IsIn (f x) (map f xs)
in_map f [] i x h = absurd (none_some x h)
in_map f (y ∷ ys) zero x h = inl (ap f (sym (same_some y x h)))
in_map f (y ∷ ys) (suc i) x h = inr (in_map f ys i x h)

-- a link is an edge
link_in : (g : Graph) (l : ℕ) (link : Link) → slice_get g.links l ≡ Some link → IsIn (of_link link) (edges g)
link_in g l link at = IsIn-append_right (of_link link) (wires g) (links g) (in_map of_link g.links l link at)

-- the receiver of a link is an actor of the graph, and a unit
pub receiver_unit : (g : Graph) (l : ℕ) (link : Link) → IsWired g → slice_get g.links l ≡ Some link → IsUnit g (at_input g link.to 0)
receiver_unit g l link wired at = let mem = link_in g l link at in ((wired.ends (of_link link) mem).1, wired.in_unit (of_link link) mem)

-- the bound that the offsets have of it is the link's
pub bound_is : (g : Graph) (o : Offsets) (l : ℕ) (link : Link) → IsWired g → AreOffsets g o → slice_get g.links l ≡ Some link → bound_in o link.to ≡ Some (link_bound g link)
bound_is g o l link wired are at = are.bounds link.to ∙ bound_of_link g l link wired at

carried_unit : (g : Graph) (link : Link) (m : Message) → IsUnit g (at_input g link.to 0) → (a p : ℕ) (t : Tag) (v : ℤ) → carried link m a p t ≡ Some v → IsUnit g (at_input g a p)
carried_unit g link m is a p t v h =
    let w = and_parts (a == link.to) (p == 0) (when_found (a == link.to && p == 0) (value_of t m) v h).0 in
    subst (λ b. IsUnit g (at_input g b p)) (sym (eqb-true a link.to w.0)) (subst (λ q. IsUnit g (at_input g link.to q)) (sym (eqb-true p 0 w.1)) is)

pub sound_on : (g : Graph) (old new : Fields) (link : Link) (m : Message) → IsSound g old → IsUnit g (at_input g link.to 0) → new.queue.groups ≡ old.queue.groups → waiting_in new.queue.events ≡ added (waiting_in old.queue.events) (carried link m) → IsFrame old new → new.none_safe_before ≡ 0 → IsSound g new
sound_on g old new link m h unit groups waits frame none = record {
  groups = subst (AreGroups g) (sym groups) h.groups;
  states = ap (λ v. length v.items) frame.1 ∙ h.states;
  open_claims = subst (λ v. Each (IsOpen g v.items) v.items) (sym frame.0) h.open_claims;
  links = ap (λ v. v.links) frame.3 ∙ h.links;
  at_units = λ a p t v is. ⊎_elim (h.at_units a p t v) (carried_unit g link m unit a p t v) (or_else_found (waiting_in old.queue.events a p t) (carried link m a p t) v (sym (ap (λ (w : Values). w a p t) waits) ∙ is));
  none_safe = λ r lt. absurd (omega (arith, none, lt));
}
