-- The words of a formula are read as its steps.
use Rattle.std.proofs.Common.{◌≡◌, ℕ, if◌then◌else◌, lit≤, lit<, ◌+◌, ◌<◌, ◌≤◌, ◌==◌, ◌&&◌, Bool, true, false, nat_le, nat_lt, List, [], ◌∷◌, ◌++◌, length, refl, sym, ap, ◌∙◌, append_assoc, append-nil, arith, Result, Ok, Err}
use Rattle.pt_formula.specs.declared.step.One.{One}
use Rattle.pt_formula.specs.declared.step.One.TheVariants.{Negate, Absolute, Not}
use Rattle.pt_formula.specs.declared.step.Two.{Two}
use Rattle.pt_formula.specs.declared.step.Two.TheVariants.{Either, Both, Less, AtMost, More, AtLeast, Same, Unlike, Total, Difference, Product, Quotient, Remainder, Lesser, Greater}
use Rattle.pt_formula.specs.declared.step.Three.{Three}
use Rattle.pt_formula.specs.declared.step.Step.{Step}
use Rattle.pt_formula.specs.declared.step.Step.TheVariants as step
use Rattle.pt_formula.specs.declared.token.NamedFunction.{NamedFunction}
use Rattle.pt_formula.specs.declared.token.NamedFunction.TheVariants as function
use Rattle.pt_formula.specs.declared.token.Token.{Token}
use Rattle.pt_formula.specs.declared.token.Token.TheVariants.{A, B, Number, Operator, Name, Open, Close, Comma}
use Rattle.pt_formula.specs.declared.token.Expects.TheVariants.{Value, Sign}
use Rattle.pt_formula.specs.declared.token.Unfinished.{Unfinished}
use Rattle.pt_formula.specs.declared.token.Unfinished.TheVariants.{Minus, Left, Group, Call}
use Rattle.pt_formula.specs.declared.token.Refusal.{Refusal}
use Rattle.pt_formula.specs.declared.token.Refusal.TheVariants.{Chained, Count, Long}
use Rattle.pt_formula.specs.Parse.{arity, at, close_turn, comma_turn, emitted, is_chained, is_test, last, left_level, level, numbered, operator_turn, parsed, released, step_of, then_read}
use Rattle.pt_formula.specs.Tree.{Formula, a, b, number, one, two, three, IsReadBack, called, grouped, is_named, steps_of, words_of}

-- what waits first leaves a formula that is bound by level k whole
abbrev Fits : ℕ → List Unfinished → Type 0
Fits k [] = Unit {0}
Fits k (Minus ∷ ps) = 7 ≤ k
Fits k (Left f ∷ ps) = level f < k
Fits k (Group ∷ ps) = Unit {0}
Fits k (Call f n ∷ ps) = Unit {0}

-- a sign that follows binds its left side by at most k
abbrev Ends : ℕ → List Token → Type 0
Ends k [] = Unit {0}
Ends k (Operator f ∷ ws) = left_level f ≤ k
Ends k (A ∷ ws) = Unit {0}
Ends k (B ∷ ws) = Unit {0}
Ends k (Number n ∷ ws) = Unit {0}
Ends k (Name f ∷ ws) = Unit {0}
Ends k (Open ∷ ws) = Unit {0}
Ends k (Close ∷ ws) = Unit {0}
Ends k (Comma ∷ ws) = Unit {0}

more_fits : (k j : ℕ) (ps : List Unfinished) → k ≤ j → Fits k ps → Fits j ps
more_fits k j [] le h = tt
more_fits k j (Minus ∷ ps) le h = omega arith
more_fits k j (Left f ∷ ps) le h = omega arith
more_fits k j (Group ∷ ps) le h = tt
more_fits k j (Call f n ∷ ps) le h = tt

more_ends : (k j : ℕ) (ws : List Token) → k ≤ j → Ends k ws → Ends j ws
more_ends k j [] le h = tt
more_ends k j (Operator f ∷ ws) le h = omega arith
more_ends k j (A ∷ ws) le h = tt
more_ends k j (B ∷ ws) le h = tt
more_ends k j (Number n ∷ ws) le h = tt
more_ends k j (Name f ∷ ws) le h = tt
more_ends k j (Open ∷ ws) le h = tt
more_ends k j (Close ∷ ws) le h = tt
more_ends k j (Comma ∷ ws) le h = tt

-- levels
left_is : (n : ℕ) → n ≤ (if n == 3 then 4 else n)
left_is n = grind arith

left_low : (n : ℕ) → n ≤ 6 → (if n == 3 then 4 else n) ≤ 7
left_low n h = grind arith

level_low : (f : Two) → level f ≤ 6
level_low Either = lit≤ tt
level_low Both = lit≤ tt
level_low Less = lit≤ tt
level_low AtMost = lit≤ tt
level_low More = lit≤ tt
level_low AtLeast = lit≤ tt
level_low Same = lit≤ tt
level_low Unlike = lit≤ tt
level_low Total = lit≤ tt
level_low Difference = lit≤ tt
level_low Product = lit≤ tt
level_low Quotient = lit≤ tt
level_low Remainder = lit≤ tt
level_low Lesser = lit≤ tt
level_low Greater = lit≤ tt

ends_all : (ws : List Token) → Ends 7 ws
ends_all [] = tt
ends_all (Operator f ∷ ws) = left_low (level f) (level_low f)
ends_all (A ∷ ws) = tt
ends_all (B ∷ ws) = tt
ends_all (Number n ∷ ws) = tt
ends_all (Name f ∷ ws) = tt
ends_all (Open ∷ ws) = tt
ends_all (Close ∷ ws) = tt
ends_all (Comma ∷ ws) = tt

-- a sign that waits is released by a word that binds it by at most its level
left_emitted : (k : ℕ) (f : Two) (ps : List Unfinished) → k ≤ level f → emitted k (Left f ∷ ps) ≡ step.Binary f ∷ emitted k ps
left_emitted k f ps h = let e : nat_le k (level f) ≡ true = grind arith in rw e refl

left_released : (k : ℕ) (f : Two) (ps : List Unfinished) → k ≤ level f → released k (Left f ∷ ps) ≡ released k ps
left_released k f ps h = let e : nat_le k (level f) ≡ true = grind arith in rw e refl

steps_after : (k : ℕ) (f : Two) (ss : List Step) (ps : List Unfinished) → k ≤ level f → ss ++ emitted k (Left f ∷ ps) ≡ (ss ++ step.Binary f ∷ []) ++ emitted k ps
steps_after k f ss ps h = ap (λ e. ss ++ e) (left_emitted k f ps h) ∙ sym (append_assoc ss (step.Binary f ∷ []) (emitted k ps))

-- any other one stays, as do `(` and calls
fewer : (f g : Two) (k : ℕ) → level g < k → k ≤ level f → nat_le (left_level f) (level g) ≡ false
fewer f g k h le = let i : level f ≤ left_level f = left_is (level f) in grind arith

stay_released : (f : Two) (k : ℕ) (ps : List Unfinished) → Fits k ps → k ≤ level f → released (left_level f) ps ≡ ps
stay_released f k [] h le = refl
stay_released f k (Minus ∷ ps) h le = let low : level f ≤ 6 = level_low f in absurd (omega arith)
stay_released f k (Left g ∷ ps) h le = let e : nat_le (left_level f) (level g) ≡ false = fewer f g k h le in rw e refl
stay_released f k (Group ∷ ps) h le = refl
stay_released f k (Call g n ∷ ps) h le = refl

stay_emitted : (f : Two) (k : ℕ) (ps : List Unfinished) → Fits k ps → k ≤ level f → emitted (left_level f) ps ≡ []
stay_emitted f k [] h le = refl
stay_emitted f k (Minus ∷ ps) h le = let low : level f ≤ 6 = level_low f in absurd (omega arith)
stay_emitted f k (Left g ∷ ps) h le = let e : nat_le (left_level f) (level g) ≡ false = fewer f g k h le in rw e refl
stay_emitted f k (Group ∷ ps) h le = refl
stay_emitted f k (Call g n ∷ ps) h le = refl

both_three : (m n : ℕ) → n < m → (m == 3 && n == 3) ≡ false
both_three m n h = grind arith

and_false : (x : Bool) → (x && false) ≡ false
and_false true = refl
and_false false = refl

stay_unchained : (f : Two) (k : ℕ) (ps : List Unfinished) → Fits k ps → k ≤ level f → (is_test f && is_chained ps) ≡ false
stay_unchained f k [] h le = and_false (is_test f)
stay_unchained f k (Minus ∷ ps) h le = and_false (is_test f)
stay_unchained f k (Left g ∷ ps) h le = both_three (level f) (level g) (omega arith)
stay_unchained f k (Group ∷ ps) h le = and_false (is_test f)
stay_unchained f k (Call g n ∷ ps) h le = and_false (is_test f)

-- what the reader does with what stays, at the end and at each word after a formula
abbrev at_end : ℕ → List Step → List Unfinished → Result (List Step) (ℕ × Refusal)
at_end m ss ps = numbered m (last ss ps)

abbrev at_sign : Two → ℕ → List Token → List Step → List Unfinished → Result (List Step) (ℕ × Refusal)
at_sign f m ws ss ps = then_read (numbered m (operator_turn f ss ps)) (λ p. parsed (m + 1) p.expects ws p.steps p.pending)

abbrev at_close : ℕ → List Token → List Step → List Unfinished → Result (List Step) (ℕ × Refusal)
at_close m ws ss ps = then_read (numbered m (close_turn ss ps)) (λ p. parsed (m + 1) p.expects ws p.steps p.pending)

abbrev at_comma : ℕ → List Token → List Step → List Unfinished → Result (List Step) (ℕ × Refusal)
at_comma m ws ss ps = then_read (numbered m (comma_turn ss ps)) (λ p. parsed (m + 1) p.expects ws p.steps p.pending)

same_two : {X : Type 0} (go : List Step → List Unfinished → X) (ss ss' : List Step) (ps ps' : List Unfinished) → ss ≡ ss' → ps ≡ ps' → go ss ps ≡ go ss' ps'
same_two go ss ss' ps ps' e i = ap (λ s. go s ps) e ∙ ap (go ss') i

-- a sign that waits may be made a step before a word that releases it
absorb_left : (f : Two) (m : ℕ) (ws : List Token) (ss : List Step) (ps : List Unfinished) → Ends (level f) ws → parsed m Sign ws ss (Left f ∷ ps) ≡ parsed m Sign ws (ss ++ step.Binary f ∷ []) ps
absorb_left f m [] ss ps h = same_two (at_end m) _ _ _ _ (steps_after 0 f ss ps (omega arith)) (left_released 0 f ps (omega arith))
absorb_left f m (Operator g ∷ ws) ss ps h = same_two (at_sign g m ws) _ _ _ _ (steps_after (left_level g) f ss ps h) (left_released (left_level g) f ps h)
absorb_left f m (Close ∷ ws) ss ps h = same_two (at_close m ws) _ _ _ _ (steps_after 0 f ss ps (omega arith)) (left_released 0 f ps (omega arith))
absorb_left f m (Comma ∷ ws) ss ps h = same_two (at_comma m ws) _ _ _ _ (steps_after 0 f ss ps (omega arith)) (left_released 0 f ps (omega arith))
absorb_left f m (A ∷ ws) ss ps h = refl
absorb_left f m (B ∷ ws) ss ps h = refl
absorb_left f m (Number n ∷ ws) ss ps h = refl
absorb_left f m (Name g ∷ ws) ss ps h = refl
absorb_left f m (Open ∷ ws) ss ps h = refl

minus_after : (k : ℕ) (ss : List Step) (ps : List Unfinished) → ss ++ emitted k (Minus ∷ ps) ≡ (ss ++ step.Unary Negate ∷ []) ++ emitted k ps
minus_after k ss ps = sym (append_assoc ss (step.Unary Negate ∷ []) (emitted k ps))

absorb_minus : (m : ℕ) (ws : List Token) (ss : List Step) (ps : List Unfinished) → parsed m Sign ws ss (Minus ∷ ps) ≡ parsed m Sign ws (ss ++ step.Unary Negate ∷ []) ps
absorb_minus m [] ss ps = ap (λ s. at_end m s (released 0 ps)) (minus_after 0 ss ps)
absorb_minus m (Operator g ∷ ws) ss ps = ap (λ s. at_sign g m ws s (released (left_level g) ps)) (minus_after (left_level g) ss ps)
absorb_minus m (Close ∷ ws) ss ps = ap (λ s. at_close m ws s (released 0 ps)) (minus_after 0 ss ps)
absorb_minus m (Comma ∷ ws) ss ps = ap (λ s. at_comma m ws s (released 0 ps)) (minus_after 0 ss ps)
absorb_minus m (A ∷ ws) ss ps = refl
absorb_minus m (B ∷ ws) ss ps = refl
absorb_minus m (Number n ∷ ws) ss ps = refl
absorb_minus m (Name g ∷ ws) ss ps = refl
absorb_minus m (Open ∷ ws) ss ps = refl

-- a sign after a formula that is whole
pass_sign : (f : Two) (k m : ℕ) (ws : List Token) (ss : List Step) (ps : List Unfinished) → Fits k ps → k ≤ level f → parsed m Sign (Operator f ∷ ws) ss ps ≡ parsed (m + 1) Value ws ss (Left f ∷ ps)
pass_sign f k m ws ss ps h le =
    same_two (at_sign f m ws) _ _ _ _ (ap (λ e. ss ++ e) (stay_emitted f k ps h le) ∙ append-nil ss) (stay_released f k ps h le)
    ∙ ap (λ c. then_read (numbered m (if c then Err Chained else at Value ss (Left f ∷ ps))) (λ p. parsed (m + 1) p.expects ws p.steps p.pending)) (stay_unchained f k ps h le)

-- the words of a formula are read as its steps, whatever waits and whatever follows, if it is bound by level k
abbrev Reads : Formula → Type 0
Reads f = (k n : ℕ) (ws : List Token) (ss : List Step) (ps : List Unfinished) → Fits k ps → Ends k ws → (m : ℕ) × (parsed n Value (words_of k f ++ ws) ss ps ≡ parsed m Sign ws (ss ++ steps_of f) ps)

-- two formulas with a sign between them
abbrev between : Two → Formula → Formula → List Token
between f p q = words_of (left_level f) p ++ Operator f ∷ words_of (level f + 1) q

read_between : (f : Two) (p q : Formula) → Reads p → Reads q → (k n : ℕ) (ws : List Token) (ss : List Step) (ps : List Unfinished) → Fits k ps → k ≤ level f → Ends (level f) ws
    → (m : ℕ) × (parsed n Value (between f p q ++ ws) ss ps ≡ parsed m Sign ws (ss ++ steps_of (two f p q)) ps)
read_between f p q rp rq k n ws ss ps fits le ends =
    let more : List Token = words_of (level f + 1) q ++ ws in
    let same : level f ≤ left_level f = left_is (level f) in
    let left = rp (left_level f) n (Operator f ∷ more) ss ps (more_fits k (left_level f) ps (omega arith) fits) (omega arith) in
    let right = rq (level f + 1) (left.0 + 1) ws (ss ++ steps_of p) (Left f ∷ ps) (omega arith) (more_ends (level f) (level f + 1) ws (omega arith) ends) in
    let words : between f p q ++ ws ≡ words_of (left_level f) p ++ (Operator f ∷ more) = append_assoc (words_of (left_level f) p) (Operator f ∷ words_of (level f + 1) q) ws in
    let steps : ((ss ++ steps_of p) ++ steps_of q) ++ step.Binary f ∷ [] ≡ ss ++ steps_of (two f p q) = simp append_assoc in (
      right.0,
      ap (λ w. parsed n Value w ss ps) words
          ∙ left.1
          ∙ pass_sign f k left.0 more (ss ++ steps_of p) ps fits le
          ∙ right.1
          ∙ absorb_left f right.0 ws ((ss ++ steps_of p) ++ steps_of q) ps ends
          ∙ ap (λ s. parsed right.0 Sign ws s ps) steps,
    )

-- a formula in parentheses or in a call, up to the `)` or `,`
close_group : (m : ℕ) (ws : List Token) (ss : List Step) (ps : List Unfinished) → parsed m Sign (Close ∷ ws) ss (Group ∷ ps) ≡ parsed (m + 1) Sign ws ss ps
close_group m ws ss ps = ap (λ s. parsed (m + 1) Sign ws s ps) (append-nil ss)

close_call : (f : NamedFunction) (m n : ℕ) (ws : List Token) (ss : List Step) (ps : List Unfinished) → n ≡ arity f → parsed m Sign (Close ∷ ws) ss (Call f n ∷ ps) ≡ parsed (m + 1) Sign ws (ss ++ step_of f ∷ []) ps
close_call f m n ws ss ps is =
    let e : (n == arity f) ≡ true = grind arith in
    ap (λ s. at_close m ws s (Call f n ∷ ps)) (append-nil ss)
    ∙ ap (λ c. then_read (numbered m (if c then at Sign (ss ++ step_of f ∷ []) ps else Err (Count f))) (λ p. parsed (m + 1) p.expects ws p.steps p.pending)) e

pass_comma : (f : NamedFunction) (m n : ℕ) (ws : List Token) (ss : List Step) (ps : List Unfinished) → n < arity f → parsed m Sign (Comma ∷ ws) ss (Call f n ∷ ps) ≡ parsed (m + 1) Value ws ss (Call f (n + 1) ∷ ps)
pass_comma f m n ws ss ps less =
    let e : nat_lt n (arity f) ≡ true = grind arith in
    ap (λ s. at_comma m ws s (Call f n ∷ ps)) (append-nil ss)
    ∙ ap (λ c. then_read (numbered m (if c then at Value ss (Call f (n + 1) ∷ ps) else Err (Count f))) (λ p. parsed (m + 1) p.expects ws p.steps p.pending)) e

call_words : (f : Token) (inner ws : List Token) → called f inner ++ ws ≡ f ∷ Open ∷ (inner ++ (Close ∷ ws))
call_words f inner ws = ap (λ r. f ∷ Open ∷ r) (append_assoc inner (Close ∷ []) ws)

read_one : (f : One) (p : Formula) → Reads p → (n : ℕ) (ws : List Token) (ss : List Step) (ps : List Unfinished)
    → (m : ℕ) × (parsed n Value (called (Name (function.Unary f)) (words_of 0 p) ++ ws) ss ps ≡ parsed m Sign ws (ss ++ steps_of (one f p)) ps)
read_one f p rp n ws ss ps =
    let g : NamedFunction = function.Unary f in
    let inner = rp 0 (n + 1 + 1) (Close ∷ ws) ss (Call g 1 ∷ ps) tt tt in (
      inner.0 + 1,
      ap (λ w. parsed n Value w ss ps) (call_words (Name g) (words_of 0 p) ws)
          ∙ inner.1
          ∙ close_call g inner.0 1 ws (ss ++ steps_of p) ps refl
          ∙ ap (λ s. parsed (inner.0 + 1) Sign ws s ps) (append_assoc ss (steps_of p) (step.Unary f ∷ [])),
    )

read_two : (f : Two) (p q : Formula) → Reads p → Reads q → (n : ℕ) (ws : List Token) (ss : List Step) (ps : List Unfinished)
    → (m : ℕ) × (parsed n Value (called (Name (function.Binary f)) (words_of 0 p ++ Comma ∷ words_of 0 q) ++ ws) ss ps ≡ parsed m Sign ws (ss ++ steps_of (two f p q)) ps)
read_two f p q rp rq n ws ss ps =
    let g : NamedFunction = function.Binary f in
    let first = rp 0 (n + 1 + 1) (Comma ∷ (words_of 0 q ++ (Close ∷ ws))) ss (Call g 1 ∷ ps) tt tt in
    let second = rq 0 (first.0 + 1) (Close ∷ ws) (ss ++ steps_of p) (Call g 2 ∷ ps) tt tt in
    let steps : ((ss ++ steps_of p) ++ steps_of q) ++ step.Binary f ∷ [] ≡ ss ++ steps_of (two f p q) = simp append_assoc in (
      second.0 + 1,
      ap (λ w. parsed n Value w ss ps) (call_words (Name g) (words_of 0 p ++ Comma ∷ words_of 0 q) ws ∙ ap (λ r. Name g ∷ Open ∷ r) (append_assoc (words_of 0 p) (Comma ∷ words_of 0 q) (Close ∷ ws)))
          ∙ first.1
          ∙ pass_comma g first.0 1 (words_of 0 q ++ (Close ∷ ws)) (ss ++ steps_of p) ps (lit< tt)
          ∙ second.1
          ∙ close_call g second.0 2 ws ((ss ++ steps_of p) ++ steps_of q) ps refl
          ∙ ap (λ s. parsed (second.0 + 1) Sign ws s ps) steps,
    )

read_three : (f : Three) (p q r : Formula) → Reads p → Reads q → Reads r → (n : ℕ) (ws : List Token) (ss : List Step) (ps : List Unfinished)
    → (m : ℕ) × (parsed n Value (called (Name (function.Ternary f)) ((words_of 0 p ++ Comma ∷ words_of 0 q) ++ Comma ∷ words_of 0 r) ++ ws) ss ps ≡ parsed m Sign ws (ss ++ steps_of (three f p q r)) ps)
read_three f p q r rp rq rr n ws ss ps =
    let g : NamedFunction = function.Ternary f in
    let rest : List Token = words_of 0 r ++ (Close ∷ ws) in
    let first = rp 0 (n + 1 + 1) (Comma ∷ (words_of 0 q ++ (Comma ∷ rest))) ss (Call g 1 ∷ ps) tt tt in
    let second = rq 0 (first.0 + 1) (Comma ∷ rest) (ss ++ steps_of p) (Call g 2 ∷ ps) tt tt in
    let third = rr 0 (second.0 + 1) (Close ∷ ws) ((ss ++ steps_of p) ++ steps_of q) (Call g 3 ∷ ps) tt tt in
    let words : called (Name g) ((words_of 0 p ++ Comma ∷ words_of 0 q) ++ Comma ∷ words_of 0 r) ++ ws ≡ Name g ∷ Open ∷ (words_of 0 p ++ (Comma ∷ (words_of 0 q ++ (Comma ∷ rest)))) = simp append_assoc in
    let steps : (((ss ++ steps_of p) ++ steps_of q) ++ steps_of r) ++ step.Ternary f ∷ [] ≡ ss ++ steps_of (three f p q r) = simp append_assoc in (
      third.0 + 1,
      ap (λ w. parsed n Value w ss ps) words
          ∙ first.1
          ∙ pass_comma g first.0 1 (words_of 0 q ++ (Comma ∷ rest)) (ss ++ steps_of p) ps (lit< tt)
          ∙ second.1
          ∙ pass_comma g second.0 2 rest ((ss ++ steps_of p) ++ steps_of q) ps (lit< tt)
          ∙ third.1
          ∙ close_call g third.0 3 ws (((ss ++ steps_of p) ++ steps_of q) ++ steps_of r) ps refl
          ∙ ap (λ s. parsed (third.0 + 1) Sign ws s ps) steps,
    )

-- a sign between two formulas, in parentheses if it has to be
read_grouped : (f : Two) (p q : Formula) → Reads p → Reads q → (b : Bool) (k n : ℕ) (ws : List Token) (ss : List Step) (ps : List Unfinished) → nat_lt (level f) k ≡ b → Fits k ps → Ends k ws
    → (m : ℕ) × (parsed n Value (grouped b (between f p q) ++ ws) ss ps ≡ parsed m Sign ws (ss ++ steps_of (two f p q)) ps)
read_grouped f p q rp rq true k n ws ss ps is fits ends =
    let inner = read_between f p q rp rq 0 (n + 1) (Close ∷ ws) ss (Group ∷ ps) tt (omega arith) tt in (
      inner.0 + 1,
      ap (λ w. parsed n Value (Open ∷ w) ss ps) (append_assoc (between f p q) (Close ∷ []) ws)
          ∙ inner.1
          ∙ close_group inner.0 ws (ss ++ steps_of (two f p q)) ps,
    )
read_grouped f p q rp rq false k n ws ss ps is fits ends =
    let le : k ≤ level f = grind arith in
    read_between f p q rp rq k n ws ss ps fits le (more_ends k (level f) ws le ends)

read_sign : (f : Two) (p q : Formula) → Reads p → Reads q → (b : Bool) (k n : ℕ) (ws : List Token) (ss : List Step) (ps : List Unfinished) → Fits k ps → Ends k ws
    → (m : ℕ) × (parsed n Value ((if b then called (Name (function.Binary f)) (words_of 0 p ++ Comma ∷ words_of 0 q) else grouped (nat_lt (level f) k) (between f p q)) ++ ws) ss ps ≡ parsed m Sign ws (ss ++ steps_of (two f p q)) ps)
read_sign f p q rp rq true k n ws ss ps fits ends = read_two f p q rp rq n ws ss ps
read_sign f p q rp rq false k n ws ss ps fits ends = read_grouped f p q rp rq (nat_lt (level f) k) k n ws ss ps refl fits ends

read_minus : (p : Formula) → Reads p → (n : ℕ) (ws : List Token) (ss : List Step) (ps : List Unfinished)
    → (m : ℕ) × (parsed n Value (Operator Difference ∷ (words_of 7 p ++ ws)) ss ps ≡ parsed m Sign ws (ss ++ steps_of (one Negate p)) ps)
read_minus p rp n ws ss ps =
    let inner = rp 7 (n + 1) ws ss (Minus ∷ ps) (omega arith) (ends_all ws) in
    (inner.0, inner.1 ∙ absorb_minus inner.0 ws (ss ++ steps_of p) ps ∙ ap (λ s. parsed inner.0 Sign ws s ps) (append_assoc ss (steps_of p) (step.Unary Negate ∷ [])))

reads : (f : Formula) → Reads f
reads a k n ws ss ps fits ends = (n + 1, refl)
reads b k n ws ss ps fits ends = (n + 1, refl)
reads (number z) k n ws ss ps fits ends = (n + 1, refl)
reads (one Negate p) k n ws ss ps fits ends = read_minus p (reads p) n ws ss ps
reads (one Absolute p) k n ws ss ps fits ends = read_one Absolute p (reads p) n ws ss ps
reads (one Not p) k n ws ss ps fits ends = read_one Not p (reads p) n ws ss ps
reads (two f p q) k n ws ss ps fits ends = read_sign f p q (reads p) (reads q) (is_named f) k n ws ss ps fits ends
reads (three f p q r) k n ws ss ps fits ends = read_three f p q r (reads p) (reads q) (reads r) n ws ss ps

pub read_back : (f : Formula) → IsReadBack f
read_back f small =
    let all = reads f 0 0 [] [] [] tt tt in
    let e : nat_le (length (steps_of f)) 64 ≡ true = grind arith in
    ap (λ w. parsed 0 Value w [] []) (sym (append-nil (words_of 0 f)))
    ∙ all.1
    ∙ ap (λ s. at_end all.0 s []) (append-nil (steps_of f))
    ∙ ap (λ c. numbered all.0 (if c then Ok (steps_of f) else Err Long)) e
