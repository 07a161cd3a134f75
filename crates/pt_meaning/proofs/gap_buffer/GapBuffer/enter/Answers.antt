use Rattle.std.proofs.Common.{◌≡◌, ◌∙◌, ◌++◌, ◌∷◌, [], rules, sym, subst, ap, MatchBool}
use Rattle.std.proofs.lemmas.List.{append_assoc}
use Rattle.pt_meaning.specs.declared.gap_buffer.Sent.{Sent}
use Rattle.pt_meaning.specs.Front.{Enters}
use Rattle.pt_meaning.specs.Line.{in_line, AreBefore, IsSortedLine}
use Rattle.pt_meaning.specs.Waiting.{place_cmp}
use Rattle.pt_meaning.proofs.Lines.{place_total, enters_between, enters_last, rising_between, rising_last, there_in_both, there_or_not}
use Rattle.pt_meaning.proofs.gap_buffer.GapBuffer.enter.Goals as goal

-- it goes to the end
pub invariant_of-self-then-is_past : goal.invariant_of-self-then-is_past
invariant_of-self-then-is_past c =
    let xs = c.self.inside.before.items in let ys = c.self.inside.after.items in
    let x : Sent = record { place = c.args.place; value = c.args.value } in
    let past = subst (AreBefore place_cmp c.args.place) (sym c.self.view_is) (c.is_past.ensures c.if-is_past.true) in
    let put : c.push_back.new.self.items ≡ c.self.inside.after.items ++ record { place = c.args.place; value = c.args.value } ∷ [] = search rules in
    subst (IsSortedLine place_cmp) (append_assoc xs ys (x ∷ []) ∙ ap (λ zs. xs ++ zs) (sym put)) (rising_last place_cmp place_total (xs ++ ys) c.args.place c.args.value past c.self.invariant)

pub returns-then-is_past : goal.returns-then-is_past
returns-then-is_past c = λ q.
    let xs = c.self.inside.before.items in let ys = c.self.inside.after.items in
    let x : Sent = record { place = c.args.place; value = c.args.value } in
    let put : c.push_back.new.self.items ≡ c.self.inside.after.items ++ record { place = c.args.place; value = c.args.value } ∷ [] = search rules in
    ap (λ zs. in_line place_cmp zs q) (sym (append_assoc xs ys (x ∷ []) ∙ ap (λ zs. xs ++ zs) (sym put)))
    ∙ rw (← c.self.view_is) (enters_last place_cmp place_total (xs ++ ys) c.args.place c.args.value q)

-- it doesn't fit: an event is there, or it is too far
pub returns-then-not-branch : goal.returns-then-not-branch
returns-then-not-branch c =
    let xs = c.reach.new.before.items in let ys = c.reach.new.after.items in
    subst (λ zs. MatchBool c.ends_at.result (Enters c.args.place c.args.value (in_line place_cmp zs) (in_line place_cmp (xs ++ ys))) (xs ++ ys ≡ zs)) (c.reach.ensures.same ∙ c.self.view_is)
    (there_or_not (xs ++ ys) c.args.place c.args.value c.ends_at.result (λ at. there_in_both place_cmp place_total xs ys c.args.place (c.ends_at.ensures at)))

-- it goes into the gap
pub invariant_of-self-2 : goal.invariant_of-self-2
invariant_of-self-2 c =
    let xs = c.reach.new.before.items in let ys = c.reach.new.after.items in
    let x : Sent = record { place = c.args.place; value = c.args.value } in
    let put : c.push_back-2.new.self.items ≡ c.reach.new.before.items ++ record { place = c.args.place; value = c.args.value } ∷ [] = search rules in
    let rising = subst (IsSortedLine place_cmp) (sym c.reach.ensures.same) c.self.invariant in
    let fits = c.in_ok-reach.ensures.there c.if-not-branch.false rising in
    subst (IsSortedLine place_cmp) (sym (append_assoc xs (x ∷ []) ys) ∙ ap (λ zs. zs ++ ys) (sym put)) (rising_between place_cmp place_total xs ys c.args.place c.args.value fits.0 fits.1 rising)

pub returns : goal.returns
returns c = λ q.
    let xs = c.reach.new.before.items in let ys = c.reach.new.after.items in
    let x : Sent = record { place = c.args.place; value = c.args.value } in
    let put : c.push_back-2.new.self.items ≡ c.reach.new.before.items ++ record { place = c.args.place; value = c.args.value } ∷ [] = search rules in
    let rising = subst (IsSortedLine place_cmp) (sym c.reach.ensures.same) c.self.invariant in
    let fits = c.in_ok-reach.ensures.there c.if-not-branch.false rising in
    ap (λ zs. in_line place_cmp zs q) (sym (sym (append_assoc xs (x ∷ []) ys) ∙ ap (λ zs. zs ++ ys) (sym put)))
    ∙ rw (← (c.reach.ensures.same ∙ c.self.view_is)) (enters_between place_cmp place_total xs ys c.args.place c.args.value fits.1 q)
