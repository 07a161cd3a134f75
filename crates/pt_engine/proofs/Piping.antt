-- What is taken from the pipes at a visit, link by link, and what stays in them.
use Rattle.std.proofs.Common.{◌≡◌, ℕ, zero, suc, ◌+◌, ◌<◌, ◌≤◌, ◌⊎◌, ◌≢◌, Bool, true, false, cond, List, [], ◌∷◌, ◌++◌, Option, Some, None, length, map, slice_get, refl, sym, ap, subst, ◌∙◌, arith, inl, inr, ⊎_elim, append-nil, eqb-true, eq-eqb}
use Rattle.std.specs.Prelude.{unwrap_or}
use Rattle.std.proofs.lemmas.Bool.{false≢true, ne_eqb}
use Rattle.std.proofs.lemmas.Option.{none-some, slice_get_past}
use Rattle.pt_tags.specs.declared.message.Message.{Message}
use Rattle.pt_types.specs.declared.graph.Graph.{Graph}
use Rattle.pt_types.specs.declared.graph.Link.{Link}
use Rattle.pt_types.specs.declared.firing.OnLink.{OnLink}
use Rattle.pt_semantics.specs.Closing.{on_link}
use Rattle.pt_types.specs.Lookups.{platform_of}
use Rattle.pt_semantics.specs.Lists.{Each, IsIn}
use Rattle.pt_semantics.specs.Visits.{LinkByLink, leads_to}
use Rattle.pt_semantics.proofs.Lookups.{IsIn-append}
use Rattle.pt_turn.proofs.Coming.{on_append}
use Rattle.pt_turn.proofs.Leaving.{on_own, on_other}
use Rattle.pt_visits.specs.Pipes.{HavePushed, arriving, emptied, put_on}

-- the messages in pipe l; none if there is no such pipe
abbrev pub held : List (List Message) → ℕ → List Message
held pipes l = unwrap_or (slice_get pipes l) []

pub held_some : (pipes : List (List Message)) (l : ℕ) (pipe : List Message) → slice_get pipes l ≡ Some pipe → held pipes l ≡ pipe
held_some pipes l pipe e = ap (λ o. unwrap_or o []) e

pub held_none : (pipes : List (List Message)) (l : ℕ) → slice_get pipes l ≡ None → held pipes l ≡ []
held_none pipes l e = ap (λ o. unwrap_or o []) e

pub lead_of : (g : Graph) (i : ℕ) (o : Option Link) → leads_to g i o ≡ true → (link : Link) × (o ≡ Some link) × (platform_of g link.to ≡ i)
lead_of g i None h = absurd (false≢true h)
lead_of g i (Some link) h = (link, refl, eqb-true (platform_of g link.to) i h)

pub leads_there : (g : Graph) (i : ℕ) (o : Option Link) (link : Link) → o ≡ Some link → platform_of g link.to ≡ i → leads_to g i o ≡ true
leads_there g i o link at home = ap (leads_to g i) at ∙ eq-eqb (platform_of g link.to) i home

pub leads_elsewhere : (g : Graph) (i : ℕ) (o : Option Link) (link : Link) → o ≡ Some link → (platform_of g link.to ≡ i → ⊥) → leads_to g i o ≡ false
leads_elsewhere g i o link at other = ap (leads_to g i) at ∙ ne_eqb (platform_of g link.to) i other

-- messages put on one link
on_same : (l : ℕ) (ms : List Message) → on_link l (map (put_on l) ms) ≡ ms
on_same l [] = refl
on_same l (m ∷ ms) = on_own l (put_on l m) (map (put_on l) ms) (eq-eqb l l refl) ∙ ap (λ z. m ∷ z) (on_same l ms)

on_another : (l k : ℕ) (ms : List Message) → k ≢ l → on_link l (map (put_on k) ms) ≡ []
on_another l k [] ne = refl
on_another l k (m ∷ ms) ne = on_other l (put_on k m) (map (put_on k) ms) (ne_eqb k l ne) ∙ on_another l k ms ne

in_put : (k : ℕ) (ms : List Message) (m : OnLink) → IsIn m (map (put_on k) ms) → m.link ≡ k
in_put k [] m h = absurd h
in_put k (x ∷ ms) m h = ⊎_elim (λ (e : m ≡ put_on k x). ap (λ (z : OnLink). z.link) e) (λ (n : IsIn m (map (put_on k) ms)). in_put k ms m n) h

pub cond_same : {X : Type 0} (b : Bool) (x : X) → cond b x x ≡ x
cond_same true x = refl
cond_same false x = refl

on_cond : (l : ℕ) (b : Bool) (xs : List OnLink) → on_link l (cond b xs []) ≡ cond b (on_link l xs) []
on_cond l true xs = refl
on_cond l false xs = refl

cond_nil : {X : Type 0} (b : Bool) (xs : List X) → xs ≡ [] → cond b xs [] ≡ []
cond_nil true xs e = e
cond_nil false xs e = refl

pub in_cond : {X : Type 0} (b : Bool) (x : X) (xs : List X) → IsIn x (cond b xs []) → (b ≡ true) × IsIn x xs
in_cond true x xs h = (refl, h)
in_cond false x xs h = absurd h

-- nothing arrives on the links before the first pipe's
on_before : (g : Graph) (i k : ℕ) (pipes : List (List Message)) (l : ℕ) → l < k → on_link l (arriving g i k pipes) ≡ []
on_before g i k [] l lt = refl
on_before g i k (pipe ∷ pipes) l lt =
    on_append l (cond (leads_to g i (slice_get g.links k)) (map (put_on k) pipe) []) (arriving g i (suc k) pipes)
    ∙ ap (λ z. z ++ on_link l (arriving g i (suc k) pipes)) (on_cond l (leads_to g i (slice_get g.links k)) (map (put_on k) pipe) ∙ cond_nil (leads_to g i (slice_get g.links k)) (on_link l (map (put_on k) pipe)) (on_another l k pipe (apart l k lt)))
    ∙ on_before g i (suc k) pipes l (omega arith)
  where
    apart : (l k : ℕ) → l < k → k ≢ l
    apart l k lt e = omega arith

-- on a link that leads here all messages of its pipe arrive, on others none
on_arriving_at : (g : Graph) (i k : ℕ) (pipes : List (List Message)) (j l : ℕ) → l ≡ j + k → on_link l (arriving g i k pipes) ≡ cond (leads_to g i (slice_get g.links l)) (held pipes j) []
on_arriving_at g i k [] j l e = sym (cond_same (leads_to g i (slice_get g.links l)) [])
on_arriving_at g i k (pipe ∷ pipes) zero l e =
    let same : k ≡ l = omega arith in
    on_append l (cond (leads_to g i (slice_get g.links k)) (map (put_on k) pipe) []) (arriving g i (suc k) pipes)
    ∙ ap (λ z. on_link l (cond (leads_to g i (slice_get g.links k)) (map (put_on k) pipe) []) ++ z) (on_before g i (suc k) pipes l (omega arith))
    ∙ append-nil (on_link l (cond (leads_to g i (slice_get g.links k)) (map (put_on k) pipe) []))
    ∙ on_cond l (leads_to g i (slice_get g.links k)) (map (put_on k) pipe)
    ∙ subst (λ n. cond (leads_to g i (slice_get g.links n)) (on_link l (map (put_on n) pipe)) [] ≡ cond (leads_to g i (slice_get g.links l)) pipe []) (sym same) (ap (λ z. cond (leads_to g i (slice_get g.links l)) z []) (on_same l pipe))
on_arriving_at g i k (pipe ∷ pipes) (suc j) l e =
    on_append l (cond (leads_to g i (slice_get g.links k)) (map (put_on k) pipe) []) (arriving g i (suc k) pipes)
    ∙ ap (λ z. z ++ on_link l (arriving g i (suc k) pipes)) (on_cond l (leads_to g i (slice_get g.links k)) (map (put_on k) pipe) ∙ cond_nil (leads_to g i (slice_get g.links k)) (on_link l (map (put_on k) pipe)) (on_another l k pipe (apart j l k e)))
    ∙ on_arriving_at g i (suc k) pipes j l (omega arith)
  where
    apart : (j l k : ℕ) → l ≡ suc j + k → k ≢ l
    apart j l k e same = omega arith

pub on_arriving : (g : Graph) (i : ℕ) (pipes : List (List Message)) (l : ℕ) → on_link l (arriving g i 0 pipes) ≡ cond (leads_to g i (slice_get g.links l)) (held pipes l) []
on_arriving g i pipes l = on_arriving_at g i 0 pipes l l (omega arith)

-- the others stay in their pipes
held_emptied_at : (g : Graph) (i k : ℕ) (pipes : List (List Message)) (j l : ℕ) → l ≡ j + k → held (emptied g i k pipes) j ≡ cond (leads_to g i (slice_get g.links l)) [] (held pipes j)
held_emptied_at g i k [] j l e = sym (cond_same (leads_to g i (slice_get g.links l)) [])
held_emptied_at g i k (pipe ∷ pipes) zero l e =
    let same : k ≡ l = omega arith in
    ap (λ n. cond (leads_to g i (slice_get g.links n)) [] pipe) same
held_emptied_at g i k (pipe ∷ pipes) (suc j) l e = held_emptied_at g i (suc k) pipes j l (omega arith)

pub held_emptied : (g : Graph) (i : ℕ) (pipes : List (List Message)) (l : ℕ) → held (emptied g i 0 pipes) l ≡ cond (leads_to g i (slice_get g.links l)) [] (held pipes l)
held_emptied g i pipes l = held_emptied_at g i 0 pipes l l (omega arith)

pub length-emptied : (g : Graph) (i k : ℕ) (pipes : List (List Message)) → length (emptied g i k pipes) ≡ length pipes
length-emptied g i k [] = refl
length-emptied g i k (pipe ∷ pipes) = ap suc (length-emptied g i (suc k) pipes)

-- the messages of a pipe are those that arrive and those that stay
pub both_parts : (b : Bool) (ms : List Message) → ms ≡ cond b ms [] ++ cond b [] ms
both_parts true ms = sym (append-nil ms)
both_parts false ms = refl

-- each message that arrives is on a link that leads here
pub in_arriving : (g : Graph) (i k : ℕ) (pipes : List (List Message)) (m : OnLink) → IsIn m (arriving g i k pipes) → leads_to g i (slice_get g.links m.link) ≡ true
in_arriving g i k [] m h = absurd h
in_arriving g i k (pipe ∷ pipes) m h =
    ⊎_elim
    (λ (here : IsIn m (cond (leads_to g i (slice_get g.links k)) (map (put_on k) pipe) [])).
    let at = in_cond (leads_to g i (slice_get g.links k)) m (map (put_on k) pipe) here in
    ap (λ n. leads_to g i (slice_get g.links n)) (in_put k pipe m at.1) ∙ at.0)
    (λ (there : IsIn m (arriving g i (suc k) pipes)). in_arriving g i (suc k) pipes m there)
    (IsIn-append m (cond (leads_to g i (slice_get g.links k)) (map (put_on k) pipe) []) (arriving g i (suc k) pipes) h)

-- the messages that arrive are sorted by link
abbrev NoLess : ℕ → OnLink → Type 0
NoLess k m = k ≤ m.link

no_less : (k : ℕ) (xs : List OnLink) → Each (NoLess (suc k)) xs → Each (NoLess k) xs
no_less k [] h = tt
no_less k (x ∷ xs) h = let le : suc k ≤ x.link = h.0 in (omega arith, no_less k xs h.1)

put_before : (k : ℕ) (ms : List Message) (ys : List OnLink) → Each (NoLess k) ys → LinkByLink ys → Each (NoLess k) (map (put_on k) ms ++ ys) × LinkByLink (map (put_on k) ms ++ ys)
put_before k [] ys low h = (low, h)
put_before k (m ∷ ms) ys low h = let rest = put_before k ms ys low h in ((omega arith, rest.0), (rest.0, rest.1))

cond_before : (k : ℕ) (b : Bool) (ms : List Message) (ys : List OnLink) → Each (NoLess k) ys → LinkByLink ys → Each (NoLess k) (cond b (map (put_on k) ms) [] ++ ys) × LinkByLink (cond b (map (put_on k) ms) [] ++ ys)
cond_before k true ms ys low h = put_before k ms ys low h
cond_before k false ms ys low h = (low, h)

arriving_order : (g : Graph) (i k : ℕ) (pipes : List (List Message)) → Each (NoLess k) (arriving g i k pipes) × LinkByLink (arriving g i k pipes)
arriving_order g i k [] = (tt, tt)
arriving_order g i k (pipe ∷ pipes) =
    let rest = arriving_order g i (suc k) pipes in
    cond_before k (leads_to g i (slice_get g.links k)) pipe (arriving g i (suc k) pipes) (no_less k (arriving g i (suc k) pipes) rest.0) rest.1

pub by_link : (g : Graph) (i : ℕ) (pipes : List (List Message)) → LinkByLink (arriving g i 0 pipes)
by_link g i pipes = (arriving_order g i 0 pipes).1

-- there is a member, or none
pub there_or_not : {X : Type 0} (o : Option X) → (o ≡ None) ⊎ ((x : X) × (o ≡ Some x))
there_or_not None = inl refl
there_or_not (Some x) = inr (x, refl)

-- pushed messages come after those that were there
pub held_pushed : (outbox : ℕ → List Message) (old new : List (List Message)) (sent : List OnLink) → HavePushed outbox old new sent → (l : ℕ) → held new l ≡ held old l ++ on_link l sent
held_pushed outbox old new sent h l =
    ⊎_elim
    (λ (none : slice_get old l ≡ None).
    held_none new l (slice_get_past new l (subst (λ n. n ≤ l) (sym h.count) (past old l none)))
    ∙ sym (ap (λ z. held old l ++ z) (h.nowhere_else l none) ∙ append-nil (held old l) ∙ held_none old l none))
    (λ (at : (pipe : List Message) × (slice_get old l ≡ Some pipe)).
    held_some new l (at.0 ++ on_link l sent) (h.pipes l at.0 at.1) ∙ ap (λ z. z ++ on_link l sent) (sym (held_some old l at.0 at.1)))
    (there_or_not (slice_get old l))
  where
    past : (xs : List (List Message)) (l : ℕ) → slice_get xs l ≡ None → length xs ≤ l
    past [] l e = omega arith
    past (x ∷ xs) zero e = absurd (none-some x (sym e))
    past (x ∷ xs) (suc l) e = let le : length xs ≤ l = past xs l e in omega arith
