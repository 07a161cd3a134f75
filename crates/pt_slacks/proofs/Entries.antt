-- The entries of senders and actuators, one actor more at a time.
use Rattle.std.proofs.Common.{◌≡◌, ℕ, suc, ◌+◌, ◌<◌, ◌≤◌, List, [], ◌∷◌, ◌++◌, length, get_or, drop, refl, sym, ap, ◌∙◌, arith}
use Rattle.std.proofs.lemmas.List.{append_assoc, append-nil, drop_all, drop_more, get_or_read}
use Rattle.pt_types.specs.declared.graph.Actor.{Actor}
use Rattle.pt_types.specs.declared.kind.Kind.{Kind}
use Rattle.pt_types.specs.declared.kind.Kind.TheVariants.{Actuator, Send}
use Rattle.pt_types.specs.Groups.{no_actor}
use Rattle.pt_slacks.specs.declared.slack.Slack.{Slack}
use Rattle.pt_slacks.specs.Listed.{listed_from, with_entry}

entry_first : (k : Kind) (e : Slack) (es : List Slack) → with_entry k e [] ++ es ≡ with_entry k e es
entry_first (Send own) e es = refl
entry_first (Actuator own) e es = refl
entry_first _ e es = refl

-- the entries of the actors that are left, with one fewer
pub entries_more : (s : ℕ → ℕ) (n : ℕ) (xs : List Actor) (done whole : List Slack) (x : Actor) → n < length xs → x ≡ get_or xs n x → done ++ listed_from s n (drop n xs) ≡ whole → (done ++ with_entry x.kind (record { actor = n; slack = s n }) []) ++ listed_from s (n + 1) (drop (n + 1) xs) ≡ whole
entries_more s n xs done whole x less read is =
    let entry : Slack = record { actor = n; slack = s n } in
    let left = listed_from s (n + 1) (drop (n + 1) xs) in
    let number : suc n ≡ n + 1 = omega arith in
    let item : x ≡ get_or xs n no_actor = get_or_read xs n x less read no_actor in
    let here : drop n xs ≡ x ∷ drop (n + 1) xs = drop_more xs n no_actor less ∙ ap (λ y. y ∷ drop (n + 1) xs) (sym item) in
    let listed : listed_from s n (drop n xs) ≡ with_entry x.kind entry left = ap (listed_from s n) here ∙ ap (λ m. with_entry x.kind entry (listed_from s m (drop (n + 1) xs))) number in
    append_assoc done (with_entry x.kind entry []) left ∙ ap (λ es. done ++ es) (entry_first x.kind entry left ∙ sym listed) ∙ is

-- once no actor is left
pub entries_whole : (s : ℕ → ℕ) (n : ℕ) (xs : List Actor) (done whole : List Slack) → length xs ≤ n → done ++ listed_from s n (drop n xs) ≡ whole → done ≡ whole
entries_whole s n xs done whole past is = sym (append-nil done) ∙ ap (λ ys. done ++ listed_from s n ys) (sym (drop_all n xs past)) ∙ is
