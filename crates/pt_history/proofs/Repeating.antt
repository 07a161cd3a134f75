-- A list whose last number is repeated.
use Rattle.std.proofs.Common.{◌≡◌, ℕ, zero, suc, ◌+◌, ◌-◌, List, ◌∷◌, ◌++◌, append-nil, append_assoc, sym, ap, ◌∙◌, arith, length, get_or, replicate}
use Rattle.pt_history.proofs.Blocks.{last_repeated, length_repeated}

-- the last of the old numbers was appended this many times
pub record IsRepeated (old now : List ℕ) (times : ℕ) : Type 0 where
  pub indices : now ≡ old ++ replicate times (get_or old (length old - 1) 0)
  pub last : get_or now (length now - 1) 0 ≡ get_or old (length old - 1) 0

both : {X : Type 0} (a k : ℕ) (x : X) → replicate a x ++ replicate k x ≡ replicate (a + k) x
both zero k x = ap (λ n. replicate n x) (omega arith)
both (suc a) k x =
    let all : suc (a + k) ≡ suc a + k = omega arith in
    ap (λ l. x ∷ l) (both a k x) ∙ ap (λ n. replicate n x) all

-- first `a` times, and then `k` times more
pub repeated_more : {X : Type 0} (old mid new : List X) (x : X) (a k : ℕ) → mid ≡ old ++ replicate a x → new ≡ mid ++ replicate k x → new ≡ old ++ replicate (a + k) x
repeated_more old mid new x a k first more =
    more ∙ ap (λ l. l ++ replicate k x) first ∙ append_assoc old (replicate a x) (replicate k x) ∙ ap (λ l. old ++ l) (both a k x)

-- and the last stays
pub last_stays : (es new : List ℕ) (x more : ℕ) → x ≡ get_or es (length es - 1) 0 → new ≡ es ++ replicate more x → get_or new (length new - 1) 0 ≡ x
last_stays es new x zero is appended = ap (λ l. get_or l (length l - 1) 0) (appended ∙ append-nil es) ∙ sym is
last_stays es new x (suc m) is appended =
    let many : length new ≡ length es + suc m = ap length appended ∙ length_repeated es x (suc m) in
    ap (λ l. get_or l (length new - 1) 0) appended ∙ sym (last_repeated es x (suc m) (length new) (omega arith) many)

-- and k times more
pub repeated_step : (old now new : List ℕ) (a k n : ℕ) → IsRepeated old now a → new ≡ now ++ replicate k (get_or now (length now - 1) 0) → n ≡ a + k → IsRepeated old new n
repeated_step old now new a k n before appended is =
    let x = get_or old (length old - 1) 0 in
    let same : new ≡ now ++ replicate k x = appended ∙ ap (λ y. now ++ replicate k y) before.last in
    record {
      indices = repeated_more old now new x a k before.indices same ∙ ap (λ m. old ++ replicate m x) (sym is);
      last = last_stays now new x k (sym before.last) same;
    }
