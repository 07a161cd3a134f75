-- What was before a visit determines it: two visits of one platform at one reading are the same, whether late or not.
use Rattle.std.proofs.Common.{◌≡◌, ℕ, suc, ◌+◌, ◌≤◌, ◌⊎◌, ◌≢◌, Bool, true, false, List, [], ◌∷◌, ◌++◌, Some, None, length, slice_get, take, arith, refl, sym, ap, ap₂, subst, ◌∙◌, inl, inr, ⊎_elim, append-nil}
use Rattle.std.proofs.lemmas.Bool.{cases_Bool, false≢true}
use Rattle.std.proofs.lemmas.List.{append_cancel_left}
use Rattle.pt_tags.specs.declared.message.Message.{Message}
use Rattle.pt_types.specs.declared.graph.Graph.{Graph}
use Rattle.pt_types.specs.declared.graph.Link.{Link}
use Rattle.pt_types.specs.declared.graph.Unit.{Unit}
use Rattle.pt_types.specs.declared.firing.Task.{Task}
use Rattle.pt_types.specs.declared.firing.Done.{Done}
use Rattle.pt_types.specs.declared.firing.OnLink.{OnLink}
use Rattle.pt_semantics.specs.Lists.{IsIn}
use Rattle.pt_types.specs.Lookups.{kind_of, platform_of}
use Rattle.pt_semantics.specs.Firing.{fired}
use Rattle.pt_semantics.specs.Units.{unit_of, unit_inputs}
use Rattle.pt_semantics.specs.Bounds.{link_bound}
use Rattle.pt_semantics.specs.Platform.{State, raised}
use Rattle.pt_semantics.specs.Safe.{NothingSafe}
use Rattle.pt_semantics.specs.Posting.{Posts, after_post}
use Rattle.pt_semantics.specs.Entering.{after_rows, all_due}
use Rattle.pt_semantics.specs.Taking.{Takes, after_message, with_taken, IsOnTime}
use Rattle.pt_semantics.specs.Claiming.{Claims, IsNext, NoLater, after_claim}
use Rattle.pt_semantics.specs.Closing.{Closes, CanClose, shut, on_link, unsent}
use Rattle.pt_semantics.specs.Turn.{Turn, IsLast}
use Rattle.pt_semantics.specs.Visits.{RunState, VisitRecord, IsVisit, NumbersRise}
use Rattle.pt_semantics.proofs.Lookups.{none_some, cases_part, IsIn-append_right}
use Rattle.pt_semantics.proofs.Floor.{put_none_found, put_other}
use Rattle.pt_laws.proofs.Onward.{cases_same}
use Rattle.pt_paced_laws.proofs.SameLists.{rise_same, links_same}
use Rattle.pt_paced_laws.proofs.Fronts.{decided, nothing_after, nothing_left, nothing_there, one_is_front}

same_task : (x y : Task) → Some x ≡ Some y → x ≡ y
same_task x y h = cc

same_link : (x y : Link) → Some x ≡ Some y → x ≡ y
same_link x y h = cc

-- posting

abbrev IsItsKinds : Graph → Done → Type 0
IsItsKinds g d = d.fired ≡ fired (kind_of g d.task.actor) d.task.state d.task.inputs

posts_member : (g : Graph) (ds : List Done) (s new : State) → Posts g s ds new → (d : Done) → IsIn d ds → (s.busy (unit_of g d.task) ≡ Some d.task) × IsItsKinds g d
posts_member g [] s new h d m = absurd m
posts_member g (x ∷ ds) s new (busy, result, rest) d m =
    ⊎_elim
    (λ (same : d ≡ x). (subst (λ (z : Done). s.busy (unit_of g z.task) ≡ Some z.task) (sym same) busy, subst (IsItsKinds g) (sym same) result))
    (λ (on : IsIn d ds). let k = posts_member g ds (after_post g s x) new rest d on in (put_none_found s.busy (unit_of g x.task) (unit_of g d.task) d.task k.0, k.1))
    m

posts_all : (g : Graph) (ds : List Done) (s new : State) → Posts g s ds new → ((u : Unit) → new.busy u ≡ None) → (u : Unit) (task : Task) → s.busy u ≡ Some task → (d : Done) × IsIn d ds × (d.task ≡ task)
posts_all g [] s new e none u task b = absurd (none_some task (sym (sym (ap (λ (z : State). z.busy u) e) ∙ none u) ∙ b))
posts_all g (x ∷ ds) s new (busy, result, rest) none u task b =
    ⊎_elim
    (λ (same : unit_of g x.task ≡ u). (x, inl refl, same_task x.task task (sym busy ∙ ap s.busy same ∙ b)))
    (λ (other : unit_of g x.task ≢ u). let on = posts_all g ds (after_post g s x) new rest none u task (put_other s.busy (unit_of g x.task) u None other ∙ b) in (on.0, inr on.1, on.2))
    (cases_part (unit_of g x.task) u)

same_done : (g : Graph) (d e : Done) → d.task ≡ e.task → IsItsKinds g d → IsItsKinds g e → d ≡ e
same_done g d e same hd he =
    let result : d.fired ≡ e.fired = hd ∙ ap (λ (t : Task). fired (kind_of g t.actor) t.state t.inputs) same ∙ sym he in
    λ i. record { task = same i; fired = result i }

posted_in : (g : Graph) (ds es : List Done) (s a b : State) → Posts g s ds a → Posts g s es b → ((u : Unit) → b.busy u ≡ None) → (d : Done) → IsIn d ds → IsIn d es
posted_in g ds es s a b ha hb none d m =
    let k = posts_member g ds s a ha d m in
    let f = posts_all g es s b hb none (unit_of g d.task) d.task k.0 in
    subst (λ z. IsIn z es) (same_done g f.0 d f.2 (posts_member g es s b hb f.0 f.1).1 k.1) f.1

posts_one : (g : Graph) (ds es : List Done) (s a b : State) → Posts g s ds a → Posts g s es b → ((u : Unit) → a.busy u ≡ None) → ((u : Unit) → b.busy u ≡ None) → NumbersRise ds → NumbersRise es → ds ≡ es
posts_one g ds es s a b ha hb na nb ra rb = rise_same ds es ra rb (posted_in g ds es s a b ha hb nb) (posted_in g es ds s b a hb ha na)

pub posts_state : (g : Graph) (ds : List Done) (s a b : State) → Posts g s ds a → Posts g s ds b → a ≡ b
posts_state g [] s a b ea eb = ea ∙ sym eb
posts_state g (d ∷ ds) s a b (busy, result, rest) (busy2, result2, rest2) = posts_state g ds (after_post g s d) a b rest rest2

-- taking

pub takes_member : (g : Graph) (level : ℕ → ℕ) (i : ℕ) (ms : List OnLink) (late : Bool) (s new : State) → Takes g level i s ms late new → (m : OnLink) → IsIn m ms → (link : Link) × (slice_get g.links m.link ≡ Some link) × (platform_of g link.to ≡ i)
takes_member g level i [] late s new h m mem = absurd mem
takes_member g level i (x ∷ ms) late s new (link, at, home, orderly, next) m mem =
    ⊎_elim
    (λ (same : m ≡ x). (link, subst (λ (z : OnLink). slice_get g.links z.link ≡ Some link) (sym same) at, home))
    (λ (on : IsIn m ms).
    ⊎_elim
    (λ (timely : IsOnTime s.reading (link_bound g link) x.message × Takes g level i (after_message s x.link link x.message) ms late new). takes_member g level i ms late (after_message s x.link link x.message) new timely.1 m on)
    (λ (late_one : (IsOnTime s.reading (link_bound g link) x.message → ⊥) × (ms ≡ []) × (late ≡ true) × (new ≡ with_taken s x.link x.message)). let none : IsIn m [] = subst (IsIn m) late_one.1 on in absurd none)
    next)
    mem

-- a list of messages is taken in one way
pub takes_state : (g : Graph) (level : ℕ → ℕ) (i : ℕ) (ms : List OnLink) (late slow : Bool) (s a b : State) → Takes g level i s ms late a → Takes g level i s ms slow b → (late ≡ slow) × (a ≡ b)
takes_state g level i [] late slow s a b ha hb = (ha.0 ∙ sym hb.0, ha.1 ∙ sym hb.1)
takes_state g level i (m ∷ ms) late slow s a b (link, at, home, orderly, next) (link2, at2, home2, orderly2, next2) =
    ⊎_elim
    (λ (on : IsOnTime s.reading (link_bound g link) m.message × Takes g level i (after_message s m.link link m.message) ms late a).
    ⊎_elim
    (λ (on2 : IsOnTime s.reading (link_bound g link2) m.message × Takes g level i (after_message s m.link link2 m.message) ms slow b).
    takes_state g level i ms late slow (after_message s m.link link m.message) a b on.1
    (subst (λ z. Takes g level i (after_message s m.link z m.message) ms slow b) (same_link link2 link (sym at2 ∙ at)) on2.1))
    (λ (off : (IsOnTime s.reading (link_bound g link2) m.message → ⊥) × (ms ≡ []) × (slow ≡ true) × (b ≡ with_taken s m.link m.message)).
    absurd (off.0 (subst (λ z. IsOnTime s.reading (link_bound g z) m.message) (same_link link link2 (sym at ∙ at2)) on.0)))
    next2)
    (λ (off : (IsOnTime s.reading (link_bound g link) m.message → ⊥) × (ms ≡ []) × (late ≡ true) × (a ≡ with_taken s m.link m.message)).
    ⊎_elim
    (λ (on2 : IsOnTime s.reading (link_bound g link2) m.message × Takes g level i (after_message s m.link link2 m.message) ms slow b).
    absurd (off.0 (subst (λ z. IsOnTime s.reading (link_bound g z) m.message) (same_link link2 link (sym at2 ∙ at)) on2.0)))
    (λ (off2 : (IsOnTime s.reading (link_bound g link2) m.message → ⊥) × (ms ≡ []) × (slow ≡ true) × (b ≡ with_taken s m.link m.message)).
    (off.2 ∙ sym off2.2, off.3 ∙ sym off2.3))
    next2)
    next

-- where more messages follow on the same way, none of these is late
takes_more : (g : Graph) (level : ℕ → ℕ) (i : ℕ) (ms more : List OnLink) (late slow : Bool) (s a b : State) → Takes g level i s ms late a → Takes g level i s (ms ++ more) slow b → (more ≡ [] → ⊥) → late ≡ false
takes_more g level i [] more late slow s a b ha hb some = ha.0
takes_more g level i (m ∷ ms) more late slow s a b (link, at, home, orderly, next) (link2, at2, home2, orderly2, next2) some =
    ⊎_elim
    (λ (on : IsOnTime s.reading (link_bound g link) m.message × Takes g level i (after_message s m.link link m.message) ms late a).
    ⊎_elim
    (λ (on2 : IsOnTime s.reading (link_bound g link2) m.message × Takes g level i (after_message s m.link link2 m.message) (ms ++ more) slow b).
    takes_more g level i ms more late slow (after_message s m.link link m.message) a b on.1
    (subst (λ z. Takes g level i (after_message s m.link z m.message) (ms ++ more) slow b) (same_link link2 link (sym at2 ∙ at)) on2.1) some)
    (λ (off : (IsOnTime s.reading (link_bound g link2) m.message → ⊥) × (ms ++ more ≡ []) × (slow ≡ true) × (b ≡ with_taken s m.link m.message)). absurd (some (nothing_after ms more off.1)))
    next2)
    (λ (off : (IsOnTime s.reading (link_bound g link) m.message → ⊥) × (ms ≡ []) × (late ≡ true) × (a ≡ with_taken s m.link m.message)).
    ⊎_elim
    (λ (on2 : IsOnTime s.reading (link_bound g link2) m.message × Takes g level i (after_message s m.link link2 m.message) (ms ++ more) slow b).
    absurd (off.0 (subst (λ z. IsOnTime s.reading (link_bound g z) m.message) (same_link link2 link (sym at2 ∙ at)) on2.0)))
    (λ (off2 : (IsOnTime s.reading (link_bound g link2) m.message → ⊥) × (ms ++ more ≡ []) × (slow ≡ true) × (b ≡ with_taken s m.link m.message)). absurd (some (nothing_after ms more off2.1)))
    next2)
    next

-- claiming

pub nothing_claimed : (g : Graph) (r : ℕ) (tasks : List Task) (s new : State) → tasks ≡ [] → Claims g r s tasks new → new ≡ s
nothing_claimed g r [] s new none e = e
nothing_claimed g r (t ∷ tasks) s new none h = absurd (nothing_there t tasks none)

pub next_same : (g : Graph) (r : ℕ) (s : State) (t o : Task) → IsNext g s r (unit_of g t) t → IsNext g s r (unit_of g o) o → t ≡ o
next_same g r s t o ht ho =
    let h : NoLater t.tag (unit_of g t) o.tag (unit_of g o) = ht.first (unit_of g o) o.tag ho.safe in
    let k : NoLater o.tag (unit_of g o) t.tag (unit_of g t) = ho.first (unit_of g t) t.tag ht.safe in
    let time_h : t.tag.time ≤ o.tag.time = h.0 in
    let time_k : o.tag.time ≤ t.tag.time = k.0 in
    let h1 = h.1 time_k in
    let k1 = k.1 time_h in
    let step_h : t.tag.step ≤ o.tag.step = h1.0 in
    let step_k : o.tag.step ≤ t.tag.step = k1.0 in
    let h2 = h1.1 step_k in
    let k2 = k1.1 step_h in
    let actor_h : (unit_of g t).actor ≤ (unit_of g o).actor = h2.0 in
    let actor_k : (unit_of g o).actor ≤ (unit_of g t).actor = k2.0 in
    let group_h : (unit_of g t).group ≤ (unit_of g o).group = h2.1 actor_k in
    let group_k : (unit_of g o).group ≤ (unit_of g t).group = k2.1 actor_h in
    let time : t.tag.time ≡ o.tag.time = antisym t.tag.time o.tag.time time_h time_k in
    let step : t.tag.step ≡ o.tag.step = antisym t.tag.step o.tag.step step_h step_k in
    let actor : (unit_of g t).actor ≡ (unit_of g o).actor = antisym (unit_of g t).actor (unit_of g o).actor actor_h actor_k in
    let group : (unit_of g t).group ≡ (unit_of g o).group = antisym (unit_of g t).group (unit_of g o).group group_h group_k in
    let tag : t.tag ≡ o.tag = λ i. record { time = time i; step = step i } in
    let unit : unit_of g t ≡ unit_of g o = λ i. record { actor = actor i; group = group i } in
    let number : t.number ≡ o.number = ht.number ∙ sym ho.number in
    let inputs : t.inputs ≡ o.inputs = ht.inputs ∙ ap₂ (λ u w. unit_inputs g s.waits u w) unit tag ∙ sym ho.inputs in
    let state : t.state ≡ o.state = ht.state ∙ ap (λ (u : Unit). s.states u.actor) unit ∙ sym ho.state in
    λ i. record { number = number i; actor = actor i; tag = tag i; inputs = inputs i; state = state i }
  where
    antisym : (a b : ℕ) → a ≤ b → b ≤ a → a ≡ b
    antisym a b h k = omega (arith, h, k)

pub claims_grow : (g : Graph) (r : ℕ) (tasks : List Task) (s new : State) → Claims g r s tasks new → new.claims ≡ length tasks + s.claims
claims_grow g r [] s new e = let h : new.claims ≡ s.claims = ap (λ (z : State). z.claims) e in omega (arith, h)
claims_grow g r (t ∷ tasks) s new (next, rest) =
    let ih : new.claims ≡ length tasks + suc s.claims = claims_grow g r tasks (after_claim g s (unit_of g t) t) new rest in
    omega (arith, ih)

-- a greedy list that stops: nothing is safe any more, or there are as many as may be
abbrev Stops : Graph → ℕ → ℕ → ℕ → List Task → State → Type 0
Stops g r k most tasks new = NothingSafe g new.waits new.busy r ⊎ ((most ≤ k + length tasks) ⊎ (g.claims ≤ new.claims))

goes_on : (g : Graph) (r k most : ℕ) (t : Task) (tasks : List Task) (s a b : State) → a ≡ s → Claims g r s (t ∷ tasks) b → Stops g r k most [] a → k + length (t ∷ tasks) ≤ most → b.claims ≤ g.claims → ⊥
goes_on g r k most t tasks s a b e (next, rest) stops few in_all =
    ⊎_elim
    (λ (nothing : NothingSafe g a.waits a.busy r). subst (λ (z : State). NothingSafe g z.waits z.busy r) e nothing (unit_of g t) t.tag next.safe)
    (λ (full : (most ≤ k + 0) ⊎ (g.claims ≤ a.claims)).
    ⊎_elim
    (λ (many : most ≤ k + 0). too_many k most (length tasks) few many)
    (λ (all : g.claims ≤ a.claims).
    let grew : b.claims ≡ length tasks + suc s.claims = claims_grow g r tasks (after_claim g s (unit_of g t) t) b rest in
    past (length tasks) s.claims b.claims (subst (λ (z : State). g.claims ≤ z.claims) e all) grew in_all)
    full)
    stops
  where
    too_many : (k most n : ℕ) → k + suc n ≤ most → most ≤ k + 0 → ⊥
    too_many k most n h1 h2 = omega (arith, h1, h2)

    past : (n c d : ℕ) → g.claims ≤ c → d ≡ n + suc c → d ≤ g.claims → ⊥
    past n c d h1 h2 h3 = omega (arith, h1, h2, h3)

claims_one : (g : Graph) (r k most : ℕ) (tasks others : List Task) (s a b : State) → Claims g r s tasks a → Claims g r s others b → Stops g r k most tasks a → Stops g r k most others b → k + length tasks ≤ most → k + length others ≤ most → a.claims ≤ g.claims → b.claims ≤ g.claims → (tasks ≡ others) × (a ≡ b)
claims_one g r k most [] [] s a b ea eb sa sb fa fb la lb = (refl, ea ∙ sym eb)
claims_one g r k most [] (o ∷ others) s a b ea hb sa sb fa fb la lb = absurd (goes_on g r k most o others s a b ea hb sa fb lb)
claims_one g r k most (t ∷ tasks) [] s a b ha eb sa sb fa fb la lb = absurd (goes_on g r k most t tasks s b a eb ha sb fa la)
claims_one g r k most (t ∷ tasks) (o ∷ others) s a b (next, rest) (next2, rest2) sa sb fa fb la lb =
    let same : t ≡ o = next_same g r s t o next next2 in
    let on = claims_one g r (suc k) most tasks others (after_claim g s (unit_of g t) t) a b rest
    (subst (λ (z : Task). Claims g r (after_claim g s (unit_of g z) z) others b) (sym same) rest2)
    (shift k most (length tasks) a sa) (shift k most (length others) b sb) (moved k (length tasks) most fa) (moved k (length others) most fb) la lb in
    (ap₂ (λ x xs. x ∷ xs) same on.0, on.1)
  where
    moved : (k n most : ℕ) → k + suc n ≤ most → suc k + n ≤ most
    moved k n most h = omega (arith, h)

    shift : (k most n : ℕ) (z : State) → NothingSafe g z.waits z.busy r ⊎ ((most ≤ k + suc n) ⊎ (g.claims ≤ z.claims)) → NothingSafe g z.waits z.busy r ⊎ ((most ≤ suc k + n) ⊎ (g.claims ≤ z.claims))
    shift k most n z h =
        ⊎_elim
        (λ (nothing : NothingSafe g z.waits z.busy r). inl nothing)
        (λ (full : (most ≤ k + suc n) ⊎ (g.claims ≤ z.claims)). inr (⊎_elim (λ (many : most ≤ k + suc n). inl (omega (arith, many))) (λ (all : g.claims ≤ z.claims). inr all) full))
        h

pub closes_one : (g : Graph) (i : ℕ) (s a b : State) (r : ℕ) (late : Bool) → Closes g i s r late a → Closes g i s r late b → a ≡ b
closes_one g i s a b r late ha hb =
    ⊎_elim
    (λ (x : CanClose g i s r × (late ≡ false) × (a ≡ shut g i s)).
    ⊎_elim
    (λ (y : CanClose g i s r × (late ≡ false) × (b ≡ shut g i s)). x.2 ∙ sym y.2)
    (λ (y : (CanClose g i s r → late ≡ true) × (b ≡ s)). absurd (false≢true (sym x.1 ∙ y.0 x.0)))
    hb)
    (λ (x : (CanClose g i s r → late ≡ true) × (a ≡ s)).
    ⊎_elim
    (λ (y : CanClose g i s r × (late ≡ false) × (b ≡ shut g i s)). absurd (false≢true (sym y.1 ∙ x.0 y.0)))
    (λ (y : (CanClose g i s r → late ≡ true) × (b ≡ s)). x.1 ∙ sym y.1)
    hb)
    ha

from_zero : (n most : ℕ) → n ≤ most → 0 + n ≤ most
from_zero n most h = omega (arith, h)

at_zero : (g : Graph) (r most : ℕ) (tasks : List Task) (z : State) → NothingSafe g z.waits z.busy r ⊎ ((most ≤ length tasks) ⊎ (g.claims ≤ z.claims)) → Stops g r 0 most tasks z
at_zero g r most tasks z h =
    ⊎_elim
    (λ (nothing : NothingSafe g z.waits z.busy r). inl nothing)
    (λ (full : (most ≤ length tasks) ⊎ (g.claims ≤ z.claims)). inr (⊎_elim (λ (many : most ≤ length tasks). inl (omega (arith, many))) (λ (all : g.claims ≤ z.claims). inr all) full))
    h

-- two visits
module _ (g : Graph) (level : ℕ → ℕ) (most : ℕ) (room : ℕ → ℕ) (r : ℕ) (x : RunState) (m n : VisitRecord) (y z : RunState) (k : IsVisit g level most room r x m y) (j : IsVisit g level most room r x n z) (platform : m.platform ≡ n.platform) where
  last : m.turn.last ≡ n.turn.last
  last = k.last ∙ sym j.last

  posts2 : Posts g (x.at m.platform) n.turn.posted j.is.posted
  posts2 = subst (λ p. Posts g (x.at p) n.turn.posted j.is.posted) (sym platform) j.is.posts

  posted : m.turn.posted ≡ n.turn.posted
  posted = posts_one g m.turn.posted n.turn.posted (x.at m.platform) k.is.posted j.is.posted k.is.posts posts2 k.handed j.handed k.in_order j.in_order

  posted_state : k.is.posted ≡ j.is.posted
  posted_state = posts_state g n.turn.posted (x.at m.platform) k.is.posted j.is.posted (subst (λ ds. Posts g (x.at m.platform) ds k.is.posted) posted k.is.posts) posts2

  rows : m.turn.rows ≡ n.turn.rows
  rows = k.is.rows ∙ ap₂ (λ q (s : State). all_due g q s.left) last (ap x.at platform) ∙ sym j.is.rows

  -- the links that lead to the visited platform
  abbrev Leads : ℕ → Type 0
  Leads l = (link : Link) × (slice_get g.links l ≡ Some link) × (platform_of g link.to ≡ m.platform)

  leads_m : (o : OnLink) → IsIn o m.turn.taken → Leads o.link
  leads_m o mem = takes_member g level m.platform m.turn.taken m.late (after_rows k.is.posted m.turn.last) k.is.got k.is.takes o mem

  takes_n : Takes g level m.platform (after_rows k.is.posted m.turn.last) n.turn.taken n.late j.is.got
  takes_n =
      subst (λ q. Takes g level m.platform (after_rows k.is.posted q) n.turn.taken n.late j.is.got) (sym last)
      (subst (λ s. Takes g level m.platform (after_rows s n.turn.last) n.turn.taken n.late j.is.got) (sym posted_state)
      (subst (λ p. Takes g level p (after_rows j.is.posted n.turn.last) n.turn.taken n.late j.is.got) (sym platform) j.is.takes))

  leads_n : (o : OnLink) → IsIn o n.turn.taken → Leads o.link
  leads_n o mem = takes_member g level m.platform n.turn.taken n.late (after_rows k.is.posted m.turn.last) j.is.got takes_n o mem

  -- one of the two took what the other took, and perhaps more
  fronts : (more : List OnLink) × ((n.turn.taken ≡ m.turn.taken ++ more) ⊎ (m.turn.taken ≡ n.turn.taken ++ more))
  fronts = one_is_front Leads m.turn.taken n.turn.taken k.rest j.rest k.takes_by_link j.takes_by_link leads_m leads_n (λ l. sym (k.takes l) ∙ j.takes l)
      (λ a b leads lt some. k.takes_first a b leads.0 leads.1 leads.2 lt some)
      (λ a b leads lt some. j.takes_first a b leads.0 leads.1 (leads.2 ∙ platform) lt some)

  no_more : (more : List OnLink) → (n.turn.taken ≡ m.turn.taken ++ more) ⊎ (m.turn.taken ≡ n.turn.taken ++ more) → more ≡ []
  no_more more =
      ⊎_elim
      (λ (e : n.turn.taken ≡ m.turn.taken ++ more).
      decided more (λ some. nothing_left Leads m.turn.taken more k.rest j.rest
      (λ o mem. leads_n o (subst (IsIn o) (sym e) (IsIn-append_right o m.turn.taken more mem)))
      (λ l leads. k.takes_all (takes_more g level m.platform m.turn.taken more m.late n.late (after_rows k.is.posted m.turn.last) k.is.got j.is.got k.is.takes (subst (λ ms. Takes g level m.platform (after_rows k.is.posted m.turn.last) ms n.late j.is.got) e takes_n) some) l leads.0 leads.1 leads.2)
      (λ l. sym (k.takes l) ∙ j.takes l ∙ ap (λ ms. on_link l ms ++ j.rest l) e) some))
      (λ (e : m.turn.taken ≡ n.turn.taken ++ more).
      decided more (λ some. nothing_left Leads n.turn.taken more j.rest k.rest
      (λ o mem. leads_m o (subst (IsIn o) (sym e) (IsIn-append_right o n.turn.taken more mem)))
      (λ l leads. j.takes_all (takes_more g level m.platform n.turn.taken more n.late m.late (after_rows k.is.posted m.turn.last) j.is.got k.is.got takes_n (subst (λ ms. Takes g level m.platform (after_rows k.is.posted m.turn.last) ms m.late k.is.got) e k.is.takes) some) l leads.0 leads.1 (leads.2 ∙ platform))
      (λ l. sym (j.takes l) ∙ k.takes l ∙ ap (λ ms. on_link l ms ++ k.rest l) e) some))

  taken : m.turn.taken ≡ n.turn.taken
  taken =
      ⊎_elim
      (λ (e : n.turn.taken ≡ m.turn.taken ++ fronts.0). sym (e ∙ ap (λ ms. m.turn.taken ++ ms) (no_more fronts.0 fronts.1) ∙ append-nil m.turn.taken))
      (λ (e : m.turn.taken ≡ n.turn.taken ++ fronts.0). e ∙ ap (λ ms. n.turn.taken ++ ms) (no_more fronts.0 fronts.1) ∙ append-nil n.turn.taken)
      fronts.1

  took : (m.late ≡ n.late) × (k.is.got ≡ j.is.got)
  took = takes_state g level m.platform n.turn.taken m.late n.late (after_rows k.is.posted m.turn.last) k.is.got j.is.got
      (subst (λ ms. Takes g level m.platform (after_rows k.is.posted m.turn.last) ms m.late k.is.got) taken k.is.takes) takes_n

  late : m.late ≡ n.late
  late = took.0

  got_state : k.is.got ≡ j.is.got
  got_state = took.1

  claims_n : Claims g r (raised k.is.got r) n.turn.claimed j.is.ready
  claims_n =
      subst (λ s. Claims g r (raised s r) n.turn.claimed j.is.ready) (sym got_state)
      (subst (λ q. Claims g q (raised j.is.got q) n.turn.claimed j.is.ready) j.last j.is.claims)

  claims_m : Claims g r (raised k.is.got r) m.turn.claimed k.is.ready
  claims_m = subst (λ q. Claims g q (raised k.is.got q) m.turn.claimed k.is.ready) k.last k.is.claims

  claimed_both : (m.turn.claimed ≡ n.turn.claimed) × (k.is.ready ≡ j.is.ready)
  claimed_both =
      ⊎_elim
      (λ (slow : m.late ≡ true).
      let none_m : m.turn.claimed ≡ [] = k.is.idle_if_late slow in
      let none_n : n.turn.claimed ≡ [] = j.is.idle_if_late (sym late ∙ slow) in
      (none_m ∙ sym none_n, nothing_claimed g r m.turn.claimed (raised k.is.got r) k.is.ready none_m claims_m ∙ sym (nothing_claimed g r n.turn.claimed (raised k.is.got r) j.is.ready none_n claims_n)))
      (λ (timely : m.late ≡ false).
      claims_one g r 0 most m.turn.claimed n.turn.claimed (raised k.is.got r) k.is.ready j.is.ready claims_m claims_n
      (at_zero g r most m.turn.claimed k.is.ready (k.claims_all timely)) (at_zero g r most n.turn.claimed j.is.ready (j.claims_all (sym late ∙ timely))) (from_zero (length m.turn.claimed) most k.claims_most) (from_zero (length n.turn.claimed) most j.claims_most) k.is.at_most.1 j.is.at_most.1)
      (cases_Bool m.late)

  done_state : k.is.done ≡ j.is.done
  done_state =
      closes_one g m.platform k.is.ready k.is.done j.is.done m.turn.last m.late k.is.closes
      (subst (λ q. Closes g m.platform k.is.ready q m.late j.is.done) (sym last)
      (subst (λ s. Closes g m.platform s n.turn.last m.late j.is.done) (sym claimed_both.1)
      (subst (λ p. Closes g p j.is.ready n.turn.last m.late j.is.done) (sym platform)
      (subst (λ b. Closes g n.platform j.is.ready n.turn.last b j.is.done) (sym late) j.is.closes))))

  sent : m.turn.sent ≡ n.turn.sent
  sent = links_same m.turn.sent n.turn.sent k.sends_by_link j.sends_by_link (λ l. k.sends_all l ∙ ap (λ (s : State). take (room l) (s.outbox l)) done_state ∙ sym (j.sends_all l))

  left_same : (l : ℕ) → k.is.sends.0 l ≡ j.is.sends.0 l
  left_same l =
      append_cancel_left (on_link l m.turn.sent) (k.is.sends.0 l) (j.is.sends.0 l)
      (sym (k.is.sends.2 l) ∙ ap (λ (s : State). s.outbox l) done_state ∙ j.is.sends.2 l ∙ ap (λ w. on_link l w ++ j.is.sends.0 l) (sym sent))

  new_state : y.at m.platform ≡ z.at n.platform
  new_state =
      let outboxes : ◌≡◌ {A = ℕ → List Message} k.is.sends.0 j.is.sends.0 = λ i l. left_same l i in
      k.is.sends.1 ∙ ap₂ unsent done_state outboxes ∙ sym j.is.sends.1

  pub turn : m.turn ≡ n.turn
  turn =
      let first : m.turn.first ≡ n.turn.first = k.first ∙ sym j.first in
      let count : m.turn.count ≡ n.turn.count = k.once ∙ sym j.once in
      λ i. record { first = first i; last = last i; count = count i; posted = posted i; rows = rows i; taken = taken i; claimed = claimed_both.0 i; sent = sent i }

  fault : m.fault ≡ n.fault
  fault = by_faults m.fault n.fault refl refl
    where
      on : m.fault ≡ true → n.fault ≡ true
      on f = j.faults.0
          (subst (λ b. IsLast g (x.at n.platform) r b j.is.ready) late
          (subst (λ s. IsLast g (x.at n.platform) r m.late s) claimed_both.1
          (subst (λ p. IsLast g (x.at p) r m.late k.is.ready) platform (k.faults.1 f))))

      back : n.fault ≡ true → m.fault ≡ true
      back f = k.faults.0
          (subst (λ b. IsLast g (x.at m.platform) r b k.is.ready) (sym late)
          (subst (λ s. IsLast g (x.at m.platform) r n.late s) (sym claimed_both.1)
          (subst (λ p. IsLast g (x.at p) r n.late j.is.ready) (sym platform) (j.faults.1 f))))

      by_faults : (b c : Bool) → m.fault ≡ b → n.fault ≡ c → m.fault ≡ n.fault
      by_faults true c e f = e ∙ sym (on e)
      by_faults false true e f = absurd (false≢true (sym e ∙ back f))
      by_faults false false e f = e ∙ sym f

  pub made : m ≡ n
  made =
      λ i. record { platform = platform i; turn = turn i; late = late i; fault = fault i }

  way : (l : ℕ) → y.on_way l ≡ z.on_way l
  way l =
      let rest : k.rest l ≡ j.rest l = append_cancel_left (on_link l m.turn.taken) (k.rest l) (j.rest l) (sym (k.takes l) ∙ j.takes l ∙ ap (λ w. on_link l w ++ j.rest l) (sym taken)) in
      k.sends l ∙ ap₂ (λ a b. a ++ on_link l b) rest sent ∙ sym (j.sends l)

  states : (p : ℕ) → y.at p ≡ z.at p
  states p =
      ⊎_elim
      (λ (here : p ≡ m.platform). ap y.at here ∙ new_state ∙ ap z.at (sym platform ∙ sym here))
      (λ (there : p ≢ m.platform). (k.others p there).0 ∙ sym (j.others p (λ e. there (e ∙ sym platform))).0)
      (cases_same p m.platform)

  did : (p : ℕ) → y.did p ≡ z.did p
  did p =
      ⊎_elim
      (λ (here : p ≡ m.platform). ap y.did here ∙ k.joins ∙ ap₂ (λ (q : ℕ) (t : Turn). x.did q ++ t ∷ []) platform turn ∙ sym j.joins ∙ ap z.did (sym platform ∙ sym here))
      (λ (there : p ≢ m.platform). (k.others p there).1 ∙ sym (j.others p (λ e. there (e ∙ sym platform))).1)
      (cases_same p m.platform)

  pub together : y ≡ z
  together = λ i. record { at = λ p. states p i; did = λ p. did p i; on_way = λ l. way l i }
