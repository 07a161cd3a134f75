-- The last turn of a history, changed again and again.
use Rattle.std.proofs.Common.{◌≡◌, ◌+◌, ◌<◌, List, [], ◌∷◌, ◌++◌, length, refl, sym, ap, ◌∙◌, append-nil, append_assoc, arith, length-append}
use Rattle.pt_types.specs.declared.firing.Done.{Done}
use Rattle.pt_types.specs.declared.firing.OnLink.{OnLink}
use Rattle.pt_types.specs.declared.firing.Task.{Task}
use Rattle.pt_types.specs.declared.rows.RowAt.{RowAt}
use Rattle.pt_history.specs.Lists.{on_last}
use Rattle.pt_history.specs.Turns.{claiming, entering, posting, taking}
use Rattle.pt_history.proofs.LastMember.{on_last-push}
use Rattle.pt_semantics.specs.Turn.{Turn}

pub changed : (f : Turn → Turn) (turns new before : List Turn) (turn : Turn) → turns ≡ before ++ turn ∷ [] → new ≡ on_last f turns → new ≡ before ++ f turn ∷ []
changed f turns new before turn is change = change ∙ ap (on_last f) is ∙ on_last-push f before turn

pub begun : (turns before : List Turn) (turn : Turn) → turns ≡ before ++ turn ∷ [] → 0 < length turns
begun turns before turn is = let n : length turns ≡ length before + 1 = ap length is ∙ length-append before (turn ∷ []) in omega (arith, n)

pub empty_is : {X : Type 0} (xs ys : List X) → xs ≡ ys → length xs ≡ 0 → ys ≡ []
empty_is xs [] same none = refl
empty_is xs (y ∷ ys) same none = let n : length xs ≡ length (y ∷ ys) = ap length same in absurd (omega (arith, n, none))

-- a change that leaves each turn as it is
unchanged : (f : Turn → Turn) (turns : List Turn) → ((turn : Turn) → f turn ≡ turn) → on_last f turns ≡ turns
unchanged f [] same = refl
unchanged f (x ∷ []) same = ap (λ (y : Turn). y ∷ []) (same x)
unchanged f (x ∷ y ∷ turns) same = ap (λ (rest : List Turn). x ∷ rest) (unchanged f (y ∷ turns) same)

pub posts_none : (dones : List Done) (turns : List Turn) → dones ≡ [] → turns ≡ on_last (posting dones) turns
posts_none dones turns none = sym (ap (λ (ds : List Done). on_last (posting ds) turns) none ∙ unchanged (posting []) turns (λ turn. ap (λ (ds : List Done). record turn { posted = ds }) (append-nil turn.posted)))

pub enters_none : (rows : List RowAt) (turns : List Turn) → rows ≡ [] → turns ≡ on_last (entering rows) turns
enters_none rows turns none = sym (ap (λ (rs : List RowAt). on_last (entering rs) turns) none ∙ unchanged (entering []) turns (λ turn. ap (λ (rs : List RowAt). record turn { rows = rs }) (append-nil turn.rows)))

pub takes_none : (messages : List OnLink) (turns : List Turn) → messages ≡ [] → turns ≡ on_last (taking messages) turns
takes_none messages turns none = sym (ap (λ (ms : List OnLink). on_last (taking ms) turns) none ∙ unchanged (taking []) turns (λ turn. ap (λ (ms : List OnLink). record turn { taken = ms }) (append-nil turn.taken)))

pub claims_none : (tasks : List Task) (turns : List Turn) → tasks ≡ [] → turns ≡ on_last (claiming tasks) turns
claims_none tasks turns none = sym (ap (λ (ts : List Task). on_last (claiming ts) turns) none ∙ unchanged (claiming []) turns (λ turn. ap (λ (ts : List Task). record turn { claimed = ts }) (append-nil turn.claimed)))

-- two changes
twice : (f h : Turn → Turn) (turns : List Turn) → on_last h (on_last f turns) ≡ on_last (λ (turn : Turn). h (f turn)) turns
twice f h [] = refl
twice f h (x ∷ []) = refl
twice f h (x ∷ y ∷ []) = refl
twice f h (x ∷ y ∷ z ∷ turns) = ap (λ (rest : List Turn). x ∷ rest) (twice f h (y ∷ z ∷ turns))

pub posts_more : (dones more : List Done) (turns : List Turn) → on_last (posting more) (on_last (posting dones) turns) ≡ on_last (posting (dones ++ more)) turns
posts_more dones more turns = twice (posting dones) (posting more) turns ∙ (λ i. on_last (λ (turn : Turn). record turn { posted = append_assoc turn.posted dones more i }) turns)
