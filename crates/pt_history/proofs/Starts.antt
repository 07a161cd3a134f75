-- Where lists end, by where they start.
use Rattle.std.proofs.Common.{◌≡◌, ◌⊎◌, ℕ, zero, suc, ◌+◌, ◌-◌, ◌<◌, ◌≤◌, List, [], ◌∷◌, ◌++◌, length, length-append, get_or, replicate, append-nil, set, refl, sym, ap, ◌∙◌, arith, inl, inr}
use Rattle.std.proofs.lemmas.Bool.{cases_lt}
use Rattle.std.proofs.lemmas.List.{append_assoc, get_or-append_right, get_or-replicate, get_or_append_left, get_or_push, length-replicate, length_push, replicate_more, set_at}
use Rattle.pt_history.specs.Lists.{ends_of, starts_of}

pub length-ends : (starts : List ℕ) (total : ℕ) → length (ends_of starts total) ≡ length starts
length-ends [] total = refl
length-ends (s ∷ starts) total = let many : length (starts ++ total ∷ []) ≡ length starts + 1 = length_push starts total in omega (arith, many)

-- a list begins
pub ends_begin : (starts : List ℕ) (total : ℕ) → ends_of (starts ++ total ∷ []) total ≡ ends_of starts total ++ total ∷ []
ends_begin [] total = refl
ends_begin (s ∷ starts) total = refl

pub first_begins : (starts : List ℕ) (total : ℕ) → get_or (starts ++ total ∷ []) 0 0 ≡ 0 → get_or ((starts ++ total ∷ []) ++ total ∷ []) 0 0 ≡ 0
first_begins [] total is = is
first_begins (s ∷ starts) total is = is

-- the last list grows
pub ends_last : (starts : List ℕ) (total new : ℕ) → 0 < length starts → ends_of starts new ≡ set (ends_of starts total) (length (ends_of starts total) - 1) new
ends_last [] total new some = absurd (omega arith)
ends_last (s ∷ starts) total new some =
    let many : length (starts ++ total ∷ []) ≡ length starts + 1 = length_push starts total in
    let last : length (starts ++ total ∷ []) - 1 ≡ length starts = omega (arith, many) in
    sym (ap (λ n. set (starts ++ total ∷ []) n new) last ∙ set_at starts total [] new (length starts) refl)

pub first_grows : (starts : List ℕ) (total new : ℕ) → 0 < length starts → get_or (starts ++ total ∷ []) 0 0 ≡ 0 → get_or (starts ++ new ∷ []) 0 0 ≡ 0
first_grows [] total new some is = absurd (omega arith)
first_grows (s ∷ starts) total new some is = is

-- where a list starts and ends
pub start_at : (starts : List ℕ) (total n : ℕ) → get_or (starts ++ total ∷ []) 0 0 ≡ 0 → n < length starts → get_or (0 ∷ ends_of starts total) n 0 ≡ get_or starts n 0
start_at [] total n is lt = absurd (omega arith)
start_at (s ∷ starts) total zero is lt = sym is
start_at (s ∷ starts) total (suc n) is lt = get_or_append_left starts (total ∷ []) 0 n (omega arith)

pub end_before : (starts : List ℕ) (total n : ℕ) → n + 1 < length starts → get_or (ends_of starts total) n 0 ≡ get_or starts (n + 1) 0
end_before [] total n lt = absurd (omega arith)
end_before (s ∷ starts) total n lt =
    let next : suc n ≡ n + 1 = omega arith in
    get_or_append_left starts (total ∷ []) 0 n (omega arith) ∙ ap (λ k. get_or (s ∷ starts) k 0) next

pub end_last : (starts : List ℕ) (total n : ℕ) → n + 1 ≡ length starts → get_or (ends_of starts total) n 0 ≡ total
end_last [] total n e = absurd (omega arith)
end_last (s ∷ starts) total n e = get_or_push starts total 0 n (omega arith)

-- pending lists: none, one more, how many lists there are, where they start and end
pub none_pending : (stored : List ℕ) (total : ℕ) → starts_of stored 0 total ≡ stored
none_pending stored total = append-nil stored

pub one_pending : (stored : List ℕ) (pending total : ℕ) → starts_of stored (pending + 1) total ≡ starts_of stored pending total ++ total ∷ []
one_pending stored pending total = ap (λ l. stored ++ l) (sym (replicate_more pending total)) ∙ sym (append_assoc stored (replicate pending total) (total ∷ []))

pub length-starts : (stored : List ℕ) (pending total : ℕ) → length (starts_of stored pending total) ≡ length stored + pending
length-starts stored pending total = length-append stored (replicate pending total) ∙ ap (λ k. length stored + k) (length-replicate pending total)

pub stored_start : (stored : List ℕ) (pending total n : ℕ) → n < length stored → get_or (starts_of stored pending total) n 0 ≡ get_or stored n 0
stored_start stored pending total n lt = get_or_append_left stored (replicate pending total) 0 n lt

pub pending_start : (stored : List ℕ) (pending total n : ℕ) → length stored ≤ n → n < length stored + pending → get_or (starts_of stored pending total) n 0 ≡ total
pending_start stored pending total n past lt =
    get_or-append_right stored (replicate pending total) (length stored) n 0 refl past
    ∙ get_or-replicate pending (n - length stored) total 0 (omega (arith, past, lt))

pub pending_end : (stored : List ℕ) (pending total n : ℕ) → length stored ≤ n + 1 → n < length stored + pending → get_or (ends_of (starts_of stored pending total) total) n 0 ≡ total
pending_end stored pending total n past lt =
    let many : length (starts_of stored pending total) ≡ length stored + pending = length-starts stored pending total in
    by (cases_lt (n + 1) (length stored + pending)) many
  where
    by : ((n + 1 < length stored + pending) ⊎ (length stored + pending ≤ n + 1)) → length (starts_of stored pending total) ≡ length stored + pending → get_or (ends_of (starts_of stored pending total) total) n 0 ≡ total
    by (inl more) many = end_before (starts_of stored pending total) total n (omega (arith, more, many)) ∙ pending_start stored pending total (n + 1) past more
    by (inr last) many = end_last (starts_of stored pending total) total n (omega (arith, last, lt, many))

-- where there are items there are lists
pub some_lists : (starts : List ℕ) (total : ℕ) → get_or (starts ++ total ∷ []) 0 0 ≡ 0 → 0 < total → 0 < length starts
some_lists [] total is some = let none : total ≡ 0 = is in absurd (omega (arith, none, some))
some_lists (s ∷ starts) total is some = omega arith
