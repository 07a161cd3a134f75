-- What a turn with these hints that may follow passes before one is made.
use Rattle.std.proofs.Common.{◌≡◌, ℕ, ◌<◌, ◌≤◌, Bool, true, false, List, [], ◌∷◌, ◌++◌, length, sym, ap, subst, ◌∙◌, ⊎_elim, append-nil, append_assoc, arith, eqb-true, eq-eqb}
use Rattle.std.specs.Prelude.{◌==◌}
use Rattle.std.proofs.lemmas.Bool.{cases_Bool, cond-false, cond-true, false≢true, ne_eqb}
use Rattle.pt_types.specs.declared.graph.Graph.{Graph}
use Rattle.pt_types.specs.declared.firing.Done.{Done}
use Rattle.pt_types.specs.declared.firing.OnLink.{OnLink}
use Rattle.pt_types.specs.declared.firing.Task.{Task}
use Rattle.pt_semantics.specs.Bounds.{link_bound}
use Rattle.pt_semantics.specs.Closing.{on_link}
use Rattle.pt_semantics.specs.Entering.{after_rows}
use Rattle.pt_semantics.specs.Lists.{IsIn}
use Rattle.pt_semantics.specs.Orderly.{IsOrderly}
use Rattle.pt_semantics.specs.Platform.{State}
use Rattle.pt_semantics.specs.Posting.{Posts, after_post}
use Rattle.pt_semantics.specs.Taking.{IsOnTime, Takes, after_message, with_taken}
use Rattle.pt_semantics.specs.Turn.{Turn}
use Rattle.pt_paced_laws.proofs.SameTurn.{takes_member}
use Rattle.pt_turn.specs.Platforms.{PlatformView, level_at, state_at}
use Rattle.pt_turn.specs.Turned.{MayCome}
use Rattle.pt_turn.proofs.Leaving.{on_other, on_own}
use Rattle.pt_audit.specs.declared.parse.hints.Hints.{Hints}
use Rattle.pt_audit.specs.Remaking.Following.{CanFollow}
use Rattle.pt_audit.specs.Parsing.Hints.{AreHints}
use Rattle.pt_audit.proofs.Remaking.Results.{number_below, posts_open}
use Rattle.pt_audit.proofs.Remaking.Tidy.{IsTidy, got_tidy}

-- what was taken before a turn and in it
posts_taken : (g : Graph) (ds : List Done) (s new : State) → Posts g s ds new → (l : ℕ) → new.taken l ≡ s.taken l
posts_taken g [] s new e l = ap (λ (z : State). z.taken l) e
posts_taken g (d ∷ ds) s new (busy, result, rest) l = posts_taken g ds (after_post g s d) new rest l

one_taken : (s : State) (m : OnLink) (ms : List OnLink) (l : ℕ) → (with_taken s m.link m.message).taken l ++ on_link l ms ≡ s.taken l ++ on_link l (m ∷ ms)
one_taken s m ms l =
    ⊎_elim
    (λ (e : (m.link == l) ≡ true).
    ap (λ z. z ++ on_link l ms) (cond-true (l == m.link) (s.taken l ++ m.message ∷ []) (s.taken l) (eq-eqb l m.link (sym (eqb-true m.link l e))))
    ∙ append_assoc (s.taken l) (m.message ∷ []) (on_link l ms)
    ∙ ap (λ z. s.taken l ++ z) (sym (on_own l m ms e)))
    (λ (e : (m.link == l) ≡ false).
    ap (λ z. z ++ on_link l ms) (cond-false (l == m.link) (s.taken l ++ m.message ∷ []) (s.taken l) (ne_eqb l m.link (λ (same : l ≡ m.link). false≢true (sym e ∙ eq-eqb m.link l (sym same)))))
    ∙ ap (λ z. s.taken l ++ z) (sym (on_other l m ms e)))
    (cases_Bool (m.link == l))

takes_taken : (g : Graph) (level : ℕ → ℕ) (i : ℕ) (ms : List OnLink) (late : Bool) (s new : State) → Takes g level i s ms late new → (l : ℕ) → new.taken l ≡ s.taken l ++ on_link l ms
takes_taken g level i [] late s new e l = ap (λ (z : State). z.taken l) e.1 ∙ sym (append-nil (s.taken l))
takes_taken g level i (m ∷ ms) late s new (link, at, home, orderly, next) l =
    ⊎_elim
    (λ (on : IsOnTime s.reading (link_bound g link) m.message × Takes g level i (after_message s m.link link m.message) ms late new).
    takes_taken g level i ms late (after_message s m.link link m.message) new on.1 l ∙ one_taken s m ms l)
    (λ (off : (IsOnTime s.reading (link_bound g link) m.message → ⊥) × (ms ≡ []) × (late ≡ true) × (new ≡ with_taken s m.link m.message)).
    ap (λ (z : State). z.taken l) off.3 ∙ sym (append-nil ((with_taken s m.link m.message).taken l)) ∙ ap (λ z. (with_taken s m.link m.message).taken l ++ on_link l z) (sym off.1) ∙ one_taken s m ms l)
    next

-- the messages that a turn takes may come
pub may_hold : (hints : Hints) (old : PlatformView) (claims : List Task) (turn : Turn) → IsTidy old.plan.graph (level_at old) old.number claims (state_at old) → AreHints old.number turn hints → CanFollow old turn → MayCome old.plan.graph (level_at old) old.number (state_at old) hints.taken.items
may_hold hints old claims turn tidy logged follows =
    let t = follows.is in
    let got = got_tidy old.plan.graph (level_at old) old.number claims (state_at old) follows.new turn follows.late t tidy in
    subst (MayCome old.plan.graph (level_at old) old.number (state_at old)) (sym logged.taken)
    (record {
      links = λ m mem. takes_member old.plan.graph (level_at old) old.number turn.taken follows.late (after_rows t.posted turn.last) t.got t.takes m mem;
      orderly = λ l link at home. subst (IsOrderly old.plan.graph (level_at old) link)
          (takes_taken old.plan.graph (level_at old) old.number turn.taken follows.late (after_rows t.posted turn.last) t.got t.takes l ∙ ap (λ z. z ++ on_link l turn.taken) (posts_taken old.plan.graph turn.posted (state_at old) t.posted t.posts l))
          (got.orderly l link at home);
    })

-- a turn posts results of claims that were made
pub known_hold : (hints : Hints) (old : PlatformView) (claims : List Task) (turn : Turn) (number : ℕ) → IsTidy old.plan.graph (level_at old) old.number claims (state_at old) → AreHints old.number turn hints → CanFollow old turn → IsIn number hints.posts.items → length claims ≤ number → ⊥
known_hold hints old claims turn number tidy logged follows on past =
    let below : number < length claims = number_below old.plan.graph (level_at old) old.number claims (state_at old) turn.posted number tidy (posts_open old.plan.graph turn.posted (state_at old) follows.is.posted follows.is.posts) (subst (IsIn number) logged.posts on) in
    omega (arith, below, past)
