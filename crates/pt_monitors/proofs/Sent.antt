-- Turns without messages and without late results have no misses.
use Rattle.std.proofs.Common.{◌≡◌, ℕ, zero, suc, ◌+◌, ◌-◌, ◌*◌, ◌<◌, ◌≤◌, List, [], ◌∷◌, ◌++◌, Option, Some, length, slice_get, take, refl, sym, ap, ◌∙◌, arith}
use Rattle.std.specs.Prelude.{filter_map, flat_map, option_map}
use Rattle.std.proofs.lemmas.List.{append-nil}
use Rattle.pt_types.specs.declared.firing.OnLink.{OnLink}
use Rattle.pt_types.specs.declared.graph.Graph.{Graph}
use Rattle.pt_semantics.specs.Turn.{Turn}
use Rattle.pt_semantics.proofs.Lookups.{same_some}
use Rattle.pt_history.specs.Levels.{AreTurnLevels, IsLevel}
use Rattle.pt_history.specs.Turns.{posted_in}
use Rattle.pt_history.specs.declared.levels.TurnLevels.{TurnLevels}
use Rattle.pt_history.specs.declared.miss.Miss.{Miss}
use Rattle.pt_history.proofs.Along.{grows}
use Rattle.pt_history.proofs.InTurn.{posted_is}
use Rattle.pt_monitors.specs.InTime.{AreInTime}
use Rattle.pt_monitors.specs.Misses.{AppendsSent, miss_of_message, missed_at}
use Rattle.pt_monitors.proofs.InTime.{still}
use Rattle.pt_monitors.proofs.Missing.{missed_turn}

pub none_first : {X Y : Type 0} (f : X → List Y) (xs : List X) → flat_map f (take 0 xs) ≡ []
none_first f [] = refl
none_first f (x ∷ xs) = refl

-- a turn more, of which the messages' misses were appended
pub with_sent : (g : Graph) (turns : List Turn) (number : ℕ) (start old new : List Miss) → AreInTime g turns → number < length turns → old ≡ start ++ flat_map (missed_at g) (take number turns)
    → AppendsSent g (slice_get turns number) old new → new ≡ start ++ flat_map (missed_at g) (take (number + 1) turns)
with_sent g turns number start old new fine lt was put =
    grows (missed_at g) turns number start old new was
    (missed_turn g (slice_get turns number) (posted_in turns number) old old new (posted_is turns number lt) (still g turns number old fine) put)

-- nothing is appended for a turn after which nothing was sent
none_sent : (g : Graph) (o : Option Turn) (old : List Miss) (sent : List OnLink) → option_map (λ (turn : Turn). turn.sent) o ≡ Some sent → sent ≡ [] → AppendsSent g o old old
none_sent g o old sent are none = λ turn at.
    let same : turn.sent ≡ sent = same_some turn.sent sent (ap (option_map (λ (t : Turn). t.sent)) (sym at) ∙ are) in
    sym (append-nil old) ∙ ap (λ s. old ++ filter_map (miss_of_message g turn.last) s) (sym (same ∙ none))

-- so a turn more changes nothing
skips : (g : Graph) (turns : List Turn) (number : ℕ) → AreInTime g turns → number < length turns → option_map (λ (turn : Turn). turn.sent) (slice_get turns number) ≡ Some []
    → flat_map (missed_at g) (take (number + 1) turns) ≡ flat_map (missed_at g) (take number turns)
skips g turns number fine lt none =
    let old = flat_map (missed_at g) (take number turns) in
    sym (with_sent g turns number [] old old fine lt refl (none_sent g (slice_get turns number) old [] none refl))

skips_to : (g : Graph) (turns : List Turn) (from more : ℕ) → AreInTime g turns → from + more ≤ length turns → ((n : ℕ) → from ≤ n → n < from + more → option_map (λ (turn : Turn). turn.sent) (slice_get turns n) ≡ Some [])
    → flat_map (missed_at g) (take (from + more) turns) ≡ flat_map (missed_at g) (take from turns)
skips_to g turns from zero fine le none = let same : from + zero ≡ from = omega arith in ap (λ k. flat_map (missed_at g) (take k turns)) same
skips_to g turns from (suc more) fine le none =
    let next : from + suc more ≡ from + more + 1 = omega arith in
    ap (λ k. flat_map (missed_at g) (take k turns)) next
    ∙ (skips g turns (from + more) fine (omega (arith, le)) (none (from + more) (omega arith) (omega arith))
    ∙ skips_to g turns from more fine (omega (arith, le)) (λ n after before. none n after (omega (arith, before))))

-- nor do turns of a block that are known to have sent nothing
pub skips_level : (g : Graph) (turns : List Turn) (levels : TurnLevels) (block from to : ℕ) → AreInTime g turns → AreTurnLevels turns block levels → from ≤ to → to ≤ length turns → 64 * block ≤ from → to ≤ 64 * block + 64
    → ((n : ℕ) → from ≤ n → n < to → IsLevel levels.sent n) → flat_map (missed_at g) (take to turns) ≡ flat_map (missed_at g) (take from turns)
skips_level g turns levels block from to fine right rises within low high level =
    let all : to ≡ from + (to - from) = omega (arith, rises) in
    ap (λ k. flat_map (missed_at g) (take k turns)) all
    ∙ skips_to g turns from (to - from) fine (omega (arith, rises, within)) (λ n after before. right.sent n (omega (arith, low, high, after, before, rises)) (omega (arith, before, rises, within)) (level n after (omega (arith, before, rises))))
