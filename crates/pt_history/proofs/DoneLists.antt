-- Results: one more, claims and others that come to be, and the result of a number.
use Rattle.std.proofs.Common.{◌≡◌, ℕ, zero, suc, ◌+◌, ◌<◌, ◌≤◌, Some, Option, ℤ, List, [], ◌∷◌, ◌++◌, append-nil, refl, sym, ap, ap₂, subst, ◌∙◌, arith, length, get_or}
use Rattle.std.specs.Prelude.{option_map, slice_get}
use Rattle.std.proofs.lemmas.List.{get_or_append_left, length-append}
use Rattle.pt_types.specs.declared.firing.Done.{Done}
use Rattle.pt_types.specs.declared.firing.Task.{Task}
use Rattle.pt_history.specs.declared.sources.Source.{Source}
use Rattle.pt_history.specs.declared.sources.Source.TheVariants.{Claim, Other}
use Rattle.pt_history.specs.Cells.{cells_of}
use Rattle.pt_history.specs.Tasks.{mark_of, no_task}
use Rattle.pt_history.specs.Works.{SourcesAreWithin, IsStored, done_of, dones_of, task_at}
use Rattle.pt_history.proofs.Filling.{ports_back, state_back}
use Rattle.pt_semantics.proofs.Lookups.{none_some, same_some}

pub length-dones : (claims others : List Task) (ss : List Source) (cs : List (List (Option ℤ))) → length ss ≡ length cs → length (dones_of claims others ss cs) ≡ length ss
length-dones claims others [] cs e = refl
length-dones claims others (s ∷ ss) [] e = absurd (omega arith)
length-dones claims others (s ∷ ss) (c ∷ cs) e = ap suc (length-dones claims others ss cs (omega arith))

-- claims and others that come to be change no result
stay : (claims more others extra : List Task) (ss : List Source) (cs : List (List (Option ℤ))) → SourcesAreWithin (length claims) (length others) ss → dones_of (claims ++ more) (others ++ extra) ss cs ≡ dones_of claims others ss cs
stay claims more others extra [] cs h = refl
stay claims more others extra (s ∷ ss) [] h = refl
stay claims more others extra (Claim n ∷ ss) (c ∷ cs) h = ap₂ (λ t ds. done_of t c ∷ ds) (get_or_append_left claims more no_task n h.0) (stay claims more others extra ss cs h.1)
stay claims more others extra (Other n ∷ ss) (c ∷ cs) h = ap₂ (λ t ds. done_of t c ∷ ds) (get_or_append_left others extra no_task n h.0) (stay claims more others extra ss cs h.1)

pub dones_stay : (claims new others : List Task) (task : Task) (ss : List Source) (cs : List (List (Option ℤ))) → SourcesAreWithin (length claims) (length others) ss → new ≡ claims ++ task ∷ [] → dones_of new others ss cs ≡ dones_of claims others ss cs
dones_stay claims new others task ss cs h is =
    ap₂ (λ ts os. dones_of ts os ss cs) is (sym (append-nil others)) ∙ stay claims (task ∷ []) others [] ss cs h

pub within_more : (m n more_m more_n : ℕ) (ss : List Source) → m ≤ more_m → n ≤ more_n → SourcesAreWithin m n ss → SourcesAreWithin more_m more_n ss
within_more m n more_m more_n [] a b h = tt
within_more m n more_m more_n (Claim k ∷ ss) a b h = (omega (arith, h.0, a), within_more m n more_m more_n ss a b h.1)
within_more m n more_m more_n (Other k ∷ ss) a b h = (omega (arith, h.0, b), within_more m n more_m more_n ss a b h.1)

pub within_push : (m n : ℕ) (ss : List Source) (s : Source) → SourcesAreWithin m n ss → SourcesAreWithin m n (s ∷ []) → SourcesAreWithin m n (ss ++ s ∷ [])
within_push m n [] s h one = one
within_push m n (Claim k ∷ ss) s h one = (h.0, within_push m n ss s h.1 one)
within_push m n (Other k ∷ ss) s h one = (h.0, within_push m n ss s h.1 one)

one_more : (claims others : List Task) (ss : List Source) (cs : List (List (Option ℤ))) (s : Source) (c : List (Option ℤ)) → length ss ≡ length cs → dones_of claims others (ss ++ s ∷ []) (cs ++ c ∷ []) ≡ dones_of claims others ss cs ++ done_of (task_at claims others s) c ∷ []
one_more claims others [] [] s c e = refl
one_more claims others [] (d ∷ cs) s c e = absurd (omega arith)
one_more claims others (r ∷ ss) [] s c e = absurd (omega arith)
one_more claims others (r ∷ ss) (d ∷ cs) s c e = ap (λ ds. done_of (task_at claims others r) d ∷ ds) (one_more claims others ss cs s c (omega arith))

-- a result is that of its task and its cells
done_back : (done : Done) → length done.fired.outputs ≡ 8 → done_of done.task (cells_of done.fired.outputs done.fired.state) ≡ done
done_back done h = λ i. record { task = done.task; fired = record { state = state_back done.fired.outputs done.fired.state h i; outputs = ports_back done.fired.outputs done.fired.state h i } }

pub dones_post : (claims olds news : List Task) (ss new_ss : List Source) (cs new_cs : List (List (Option ℤ))) (s : Source) (done : Done) → length ss ≡ length cs → SourcesAreWithin (length claims) (length olds) ss → IsStored claims olds news done.task s
    → length done.fired.outputs ≡ 8 → new_ss ≡ ss ++ s ∷ [] → new_cs ≡ cs ++ cells_of done.fired.outputs done.fired.state ∷ [] → dones_of claims news new_ss new_cs ≡ dones_of claims olds ss cs ++ done ∷ []
dones_post claims olds news ss new_ss cs new_cs s done e within stored h ss_are cs_are =
    ap₂ (dones_of claims news) ss_are cs_are
    ∙ one_more claims news ss cs s (cells_of done.fired.outputs done.fired.state) e
    ∙ ap₂ (λ ds t. ds ++ done_of t (cells_of done.fired.outputs done.fired.state) ∷ [])
    (ap₂ (λ ts os. dones_of ts os ss cs) (sym (append-nil claims)) stored.grows ∙ stay claims [] olds stored.more ss cs within)
    stored.is
    ∙ ap (λ d. dones_of claims olds ss cs ++ d ∷ []) (done_back done h)

pub within_post : (claims olds news : List Task) (ss new_ss : List Source) (s : Source) (task : Task) → SourcesAreWithin (length claims) (length olds) ss → IsStored claims olds news task s → new_ss ≡ ss ++ s ∷ [] → SourcesAreWithin (length claims) (length news) new_ss
within_post claims olds news ss new_ss s task within stored is =
    let many : length news ≡ length olds + length stored.more = ap length stored.grows ∙ length-append olds stored.more in
    subst (SourcesAreWithin (length claims) (length news)) (sym is)
    (within_push (length claims) (length news) ss s (within_more (length claims) (length olds) (length claims) (length news) ss (omega arith) (omega (arith, many)) within) stored.within)

-- the source of a number, and the result
pub within_at : (m n : ℕ) (ss : List Source) (i : ℕ) (s : Source) → i < length ss → s ≡ get_or ss i s → SourcesAreWithin m n ss → SourcesAreWithin m n (s ∷ [])
within_at m n [] i s lt is h = absurd (omega arith)
within_at m n (Claim k ∷ ss) zero s lt is h = subst (λ x. SourcesAreWithin m n (x ∷ [])) (sym is) (h.0, tt)
within_at m n (Other k ∷ ss) zero s lt is h = subst (λ x. SourcesAreWithin m n (x ∷ [])) (sym is) (h.0, tt)
within_at m n (Claim k ∷ ss) (suc i) s lt is h = within_at m n ss i s (omega arith) is h.1
within_at m n (Other k ∷ ss) (suc i) s lt is h = within_at m n ss i s (omega arith) is h.1

pub dones_get : (claims others : List Task) (ss : List Source) (cs : List (List (Option ℤ))) (i : ℕ) (s : Source) (c : List (Option ℤ)) → i < length ss → s ≡ get_or ss i s → slice_get cs i ≡ Some c → slice_get (dones_of claims others ss cs) i ≡ Some (done_of (task_at claims others s) c)
dones_get claims others [] cs i s c lt is at = absurd (omega arith)
dones_get claims others (r ∷ ss) [] i s c lt is at = absurd (none_some c at)
dones_get claims others (r ∷ ss) (d ∷ cs) zero s c lt is at = ap₂ (λ x y. Some (done_of (task_at claims others x) y)) (sym is) (same_some d c at)
dones_get claims others (r ∷ ss) (d ∷ cs) (suc i) s c lt is at = dones_get claims others ss cs i s c (omega arith) is at

-- and its task
pub task_get : (claims others : List Task) (ss : List Source) (cs : List (List (Option ℤ))) (i : ℕ) (s : Source) → i < length ss → length ss ≡ length cs → s ≡ get_or ss i s
    → option_map (λ (done : Done). mark_of done.task) (slice_get (dones_of claims others ss cs) i) ≡ Some (mark_of (task_at claims others s))
task_get claims others [] cs i s lt e is = absurd (omega arith)
task_get claims others (r ∷ ss) [] i s lt e is = absurd (omega arith)
task_get claims others (r ∷ ss) (d ∷ cs) zero s lt e is = ap (λ x. Some (mark_of (task_at claims others x))) (sym is)
task_get claims others (r ∷ ss) (d ∷ cs) (suc i) s lt e is = task_get claims others ss cs i s (omega arith) (omega arith) is
