-- What a turn does, and that it leaves less to do on its platform, or makes no move.
use Rattle.std.proofs.Common.{◌≡◌, ℕ, suc, ◌+◌, ◌≤◌, Bool, true, false, List, [], ◌∷◌, length, arith, sym, ap, subst, ◌∙◌, ⊎_elim}
use Rattle.pt_types.specs.declared.graph.Graph.{Graph}
use Rattle.pt_types.specs.declared.firing.Task.{Task}
use Rattle.pt_types.specs.declared.firing.Done.{Done}
use Rattle.pt_types.specs.declared.firing.OnLink.{OnLink}
use Rattle.pt_semantics.specs.Bounds.{link_bound}
use Rattle.pt_semantics.specs.Claiming.{Claims, after_claim}
use Rattle.pt_semantics.specs.Closing.{CanClose, shut}
use Rattle.pt_semantics.specs.Entering.{after_rows, all_due, not_due}
use Rattle.pt_semantics.specs.Platform.{State, raised}
use Rattle.pt_semantics.specs.Posting.{Posts, after_post}
use Rattle.pt_semantics.specs.Taking.{IsOnTime, Takes, after_message, with_taken}
use Rattle.pt_semantics.specs.Turn.{IsTurn, Turn}
use Rattle.pt_semantics.specs.Units.{unit_of}

-- n claims more, and the same rows left
record Adds (n : ℕ) (s new : State) : Type 0 where
  claims : new.claims ≡ n + s.claims
  left : (a : ℕ) → new.left a ≡ s.left a
  closed : new.closed ≡ s.closed

adds_nothing : (s new : State) → new ≡ s → Adds 0 s new
adds_nothing s new e = record {
  claims = let h : new.claims ≡ s.claims = ap (λ (z : State). z.claims) e in omega (arith, h);
  left = λ a. ap (λ (z : State). z.left a) e;
  closed = ap (λ (z : State). z.closed) e;
}

posts_add : (g : Graph) (ds : List Done) (s new : State) → Posts g s ds new → Adds 0 s new
posts_add g [] s new e = adds_nothing s new e
posts_add g (d ∷ ds) s new (busy, result, rest) =
    let k = posts_add g ds (after_post g s d) new rest in
    record { claims = k.claims; left = k.left; closed = k.closed }

takes_add : (g : Graph) (level : ℕ → ℕ) (i : ℕ) (ms : List OnLink) (late : Bool) (s new : State) → Takes g level i s ms late new → Adds 0 s new
takes_add g level i [] late s new (l, e) = adds_nothing s new e
takes_add g level i (m ∷ ms) late s new (link, at, home, orderly, next) =
    ⊎_elim
    (λ (on : IsOnTime s.reading (link_bound g link) m.message × Takes g level i (after_message s m.link link m.message) ms late new).
    let k = takes_add g level i ms late (after_message s m.link link m.message) new on.1 in
    record { claims = k.claims; left = k.left; closed = k.closed })
    (λ (off : (IsOnTime s.reading (link_bound g link) m.message → ⊥) × (ms ≡ []) × (late ≡ true) × (new ≡ with_taken s m.link m.message)).
    let k = adds_nothing (with_taken s m.link m.message) new off.3 in
    record { claims = k.claims; left = k.left; closed = k.closed })
    next

claims_add : (g : Graph) (r : ℕ) (tasks : List Task) (s new : State) → Claims g r s tasks new → Adds (length tasks) s new
claims_add g r [] s new e = adds_nothing s new e
claims_add g r (task ∷ tasks) s new (next, rest) =
    let k = claims_add g r tasks (after_claim g s (unit_of g task) task) new rest in
    record {
      claims = let h : new.claims ≡ length tasks + suc s.claims = k.claims in omega (arith, h);
      left = k.left;
      closed = k.closed;
    }

-- what a turn from s to new did
pub record Does (g : Graph) (s : State) (turn : Turn) (new : State) : Type 0 where
  pub claims : new.claims ≡ length turn.claimed + s.claims
  pub few : new.claims ≤ g.claims
  pub rows : turn.rows ≡ all_due g turn.last s.left
  pub left : (a : ℕ) → new.left a ≡ not_due turn.last (s.left a)
  pub stays : s.closed ≡ true → new.closed ≡ true

pub turn_does : (g : Graph) (level : ℕ → ℕ) (i : ℕ) (s new : State) (turn : Turn) (late : Bool) → IsTurn g level i s turn late new → Does g s turn new
turn_does g level i s new turn late is =
    let posts = posts_add g turn.posted s is.posted is.posts in
    let takes = takes_add g level i turn.taken late (after_rows is.posted turn.last) is.got is.takes in
    let claims = claims_add g turn.last turn.claimed (raised is.got turn.last) is.ready is.claims in
    let posted : is.posted.claims ≡ 0 + s.claims = posts.claims in
    let got : is.got.claims ≡ 0 + is.posted.claims = takes.claims in
    let ready : is.ready.claims ≡ length turn.claimed + is.got.claims = claims.claims in
    let new_claims : new.claims ≡ is.ready.claims = ap (λ (z : State). z.claims) is.sends.1 ∙ done_claims in
    record {
      claims = omega (arith, posted, got, ready, new_claims);
      few = subst (λ n. n ≤ g.claims) (sym new_claims) is.at_most.1;
      rows = is.rows;
      left = λ a. ap (λ (z : State). z.left a) is.sends.1 ∙ done_left a ∙ claims.left a ∙ takes.left a ∙ ap (not_due turn.last) (posts.left a);
      stays = λ was. ap (λ (z : State). z.closed) is.sends.1 ∙ done_closed (claims.closed ∙ takes.closed ∙ posts.closed ∙ was);
    }
  where
    done_claims : is.done.claims ≡ is.ready.claims
    done_claims =
        ⊎_elim
        (λ (shuts : CanClose g i is.ready turn.last × (late ≡ false) × (is.done ≡ shut g i is.ready)). ap (λ (z : State). z.claims) shuts.2)
        (λ (stays : (CanClose g i is.ready turn.last → late ≡ true) × (is.done ≡ is.ready)). ap (λ (z : State). z.claims) stays.1)
        is.closes

    done_left : (a : ℕ) → is.done.left a ≡ is.ready.left a
    done_left a =
        ⊎_elim
        (λ (shuts : CanClose g i is.ready turn.last × (late ≡ false) × (is.done ≡ shut g i is.ready)). ap (λ (z : State). z.left a) shuts.2)
        (λ (stays : (CanClose g i is.ready turn.last → late ≡ true) × (is.done ≡ is.ready)). ap (λ (z : State). z.left a) stays.1)
        is.closes

    done_closed : is.ready.closed ≡ true → is.done.closed ≡ true
    done_closed was =
        ⊎_elim
        (λ (shuts : CanClose g i is.ready turn.last × (late ≡ false) × (is.done ≡ shut g i is.ready)). ap (λ (z : State). z.closed) shuts.2)
        (λ (stays : (CanClose g i is.ready turn.last → late ≡ true) × (is.done ≡ is.ready)). ap (λ (z : State). z.closed) stays.1 ∙ was)
        is.closes
