-- The result of a visit.
use Rattle.std.proofs.Common.{◌≡◌, ℕ, Bool, true, List, ◌++◌, Some, None, Option, length, take, drop, refl, sym, ap, ◌∙◌}
use Rattle.std.proofs.Math.Seq.{take-append_seam}
use Rattle.pt_types.specs.declared.firing.Done.{Done}
use Rattle.pt_types.specs.declared.firing.Task.{Task}
use Rattle.pt_turn.specs.declared.fault.TurnFault.{TurnFault}
use Rattle.pt_turn.specs.Platforms.{PlatformView}
use Rattle.pt_io.specs.Clocks.{ReportsOneMore}
use Rattle.pt_links.specs.Ends.{SentBy, TakenBy}
use Rattle.pt_pool.specs.Answers.{AnswersVisit, LinkedRefused, answer_of}
use Rattle.pt_pool.specs.LinkedPlatform.{LinkedPlatformView, WasVisited}

-- a list that was lent as a slice and came back
pub back : {A : Type 0} (n : ℕ) (xs ys : List A) → n ≡ length xs → take n (xs ++ drop (length xs) ys) ≡ xs
back n xs ys e = ap (λ (m : ℕ). take m (xs ++ drop (length xs) ys)) e ∙ take-append_seam xs (drop (length xs) ys)

abbrev pub view : PlatformView → Option (List ℕ) → List (ℕ × SentBy) → List (ℕ × TakenBy) → Bool → LinkedPlatformView
view p reported outs ins marked = record { platform = p; readings = reported; outs = outs; ins = ins; marked = marked }

pub refused_is : (old : LinkedPlatformView) (r : ℕ) (reported : Option (List ℕ)) (q : PlatformView) (outs : List (ℕ × SentBy)) (ins : List (ℕ × TakenBy)) (handed now : List Task) → ReportsOneMore old.readings r reported → q ≡ record old.platform { room = q.room } → outs ≡ old.outs → ins ≡ old.ins → now ≡ handed → LinkedRefused old (view q reported outs ins true) handed now
refused_is old r reported q outs ins handed now one e o i t = record { reading = r; readings = one; marked = refl; platform = e; ends = (o, i); tasks = t }

pub visited_is : (old : LinkedPlatformView) (r most : ℕ) (dones : List Done) (reported : Option (List ℕ)) (q : PlatformView) (outs : List (ℕ × SentBy)) (ins : List (ℕ × TakenBy)) (handed now : List Task) → ReportsOneMore old.readings r reported → WasVisited r most dones old.platform q old.outs outs old.ins ins handed now
    → (fault : Option TurnFault) → fault ≡ q.fault → AnswersVisit (answer_of fault) most dones old (view q reported outs ins old.marked) handed now
visited_is old r most dones reported q outs ins handed now one w None e = (sym e, refl, record { reading = r; readings = one; was = w })
visited_is old r most dones reported q outs ins handed now one w (Some fault) e = (sym e, refl, record { reading = r; readings = one; was = w })
