-- Ranks and levels grow along the edges that add nothing, and so there is no free cycle.
use Rattle.std.proofs.Common.{◌≡◌, ℕ, ◌+◌, ◌<◌, ◌≤◌, List, [], ◌∷◌, ◌++◌, length, arith, refl, sym, ap, subst, ◌∙◌, length-append}
use Rattle.pt_types.specs.declared.graph.Graph.{Graph}
use Rattle.pt_semantics.specs.Lists.{IsIn}
use Rattle.pt_semantics.specs.Edges.{Edge, edges}
use Rattle.pt_semantics.specs.Cycles.{GrowsAlong, HasLevels, NoFreeCycle}
use Rattle.pt_semantics.specs.Ranks.{sum_along, Leads, NoDelay, NoTime, AreRanks, AreLevels}

pub leads_push : (g : Graph) (a b : ℕ) (path : List Edge) (e : Edge) → Leads g a path b → IsIn e (edges g) → e.from ≡ b → Leads g a (path ++ e ∷ []) e.to
leads_push g a b [] e h mem from = (mem, from ∙ sym h, refl)
leads_push g a b (d ∷ path) e (m, f, rest) mem from = (m, f, leads_push g d.to b path e rest mem from)

pub sum_time : (path : List Edge) (e : Edge) → (sum_along (path ++ e ∷ [])).time ≡ (sum_along path).time + e.weight.time
sum_time [] e = omega arith
sum_time (d ∷ path) e = let ih : (sum_along (path ++ e ∷ [])).time ≡ (sum_along path).time + e.weight.time = sum_time path e in omega arith

pub sum_step : (path : List Edge) (e : Edge) → (sum_along (path ++ e ∷ [])).step ≡ (sum_along path).step + e.weight.step
sum_step [] e = omega arith
sum_step (d ∷ path) e = let ih : (sum_along (path ++ e ∷ [])).step ≡ (sum_along path).step + e.weight.step = sum_step path e in omega arith

pub ranks_grow : (g : Graph) (rank : ℕ → ℕ) → AreRanks g rank → GrowsAlong g rank
ranks_grow g rank are e mem zt zs =
    let (b, path, leads, free, len) = (are e.from).one in
    let t : (sum_along (path ++ e ∷ [])).time ≡ (sum_along path).time + e.weight.time = sum_time path e in
    let s : (sum_along (path ++ e ∷ [])).step ≡ (sum_along path).step + e.weight.step = sum_step path e in
    let n : length (path ++ e ∷ []) ≡ length path + 1 = length-append path (e ∷ []) ∙ refl in
    let free2 : NoDelay (sum_along (path ++ e ∷ [])) = (let f0 = free.0 in omega arith, let f1 = free.1 in omega arith) in
    let most : length (path ++ e ∷ []) ≤ rank e.to = (are e.to).longest b (path ++ e ∷ []) (leads_push g b e.from path e leads mem refl) free2 in
    omega arith

pub levels_grow : (g : Graph) (level : ℕ → ℕ) → AreLevels g level → HasLevels g level
levels_grow g level are e mem zt =
    let (b, path, leads, free, len) = (are e.from).one in
    let t : (sum_along (path ++ e ∷ [])).time ≡ (sum_along path).time + e.weight.time = sum_time path e in
    let n : length (path ++ e ∷ []) ≡ length path + 1 = length-append path (e ∷ []) ∙ refl in
    let free2 : NoTime (sum_along (path ++ e ∷ [])) = omega arith in
    let most : length (path ++ e ∷ []) ≤ level e.to = (are e.to).longest b (path ++ e ∷ []) (leads_push g b e.from path e leads mem refl) free2 in
    omega arith

chain_grows : (g : Graph) (level : ℕ → ℕ) → HasLevels g level → (path : List Edge) (a b : ℕ) → Leads g a path b → (sum_along path).time ≡ 0 → level a ≤ level b
chain_grows g level up [] a b h z = subst (λ c. level a ≤ level c) h (omega arith)
chain_grows g level up (e ∷ path) a b (mem, from, rest) z =
    let here : level e.from < level e.to = up e mem (omega arith) in
    let on : level e.to ≤ level b = chain_grows g level up path e.to b rest (omega arith) in
    subst (λ c. level c ≤ level b) from (omega arith)

pub no_free_cycle : (g : Graph) (level : ℕ → ℕ) → HasLevels g level → NoFreeCycle g
no_free_cycle g level up a e path cycle z =
    let (mem, from, rest) = cycle.leads in
    let here : level e.from < level e.to = up e mem (omega arith) in
    let on : level e.to ≤ level a = chain_grows g level up path e.to a rest (omega arith) in
    let same : level e.from ≡ level a = ap level from in
    omega arith
