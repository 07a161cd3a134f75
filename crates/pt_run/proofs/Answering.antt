-- Orders that are answered without waiting, and runs by clocks of their own.
use Rattle.std.proofs.Common.{◌≡◌, ◌∙◌, ℕ, ◌≤◌, Bool, List, [], Option, Some, arith, refl, sym, ap, subst}
use Rattle.std.specs.Prelude.{String}
use Rattle.std.specs.declared.alloc.Global.{Global}
use Rattle.pt_blocks.specs.declared.blocks.Named.{Named}
use Rattle.pt_io.specs.Calls.{Contents, SourceCall, SinkCall}
use Rattle.pt_io.specs.Clocks.{ClockView}
use Rattle.pt_types.specs.Limits.{greatest_claims}
use Rattle.pt_words.specs.declared.orders.ClockChoice.{ClockChoice}
use Rattle.pt_words.specs.declared.orders.ClockChoice.TheVariants.{Paced}
use Rattle.pt_words.specs.declared.orders.Command.{Command}
use Rattle.pt_words.specs.declared.orders.Command.TheVariants.{Run, Check, Meaning, Slacks}
use Rattle.pt_words.specs.declared.orders.Order as declared
use Rattle.pt_words.specs.declared.orders.Order.TheVariants.{Over, Make, Migrate, Audit, Replay}
use Rattle.pt_words.specs.Claims.{AreFewFor}
use Rattle.pt_words.specs.Grammar.{Order, over, make, migrate, audit, replay, order_of}
use Rattle.pt_words.specs.Views.{in_words}
use Rattle.pt_words.proofs.Numbers.{made_number}
use Rattle.pt_run.specs.declared.fault.Fault.{Fault}
use Rattle.pt_run.specs.declared.outcome.Ending.{Ending}
use Rattle.pt_run.specs.Clocks.{AreBack, read_in}
use Rattle.pt_run.specs.Due.{IsDue, answer_by, as_answer}
use Rattle.pt_run.specs.Prompt.{IsPrompt, IsPromptFor, MakesFew}
use Rattle.pt_run.specs.Readings.{read_by}
use Rattle.pt_run.specs.Texts.{left_at, left_with}
use Rattle.pt_run.proofs.Planned.{back_unread}

-- a run that is answered without waiting is by the paced clock
pub paced_command : (command : Command) (workers : ℕ) (clock : ClockChoice) (log : Bool) → command ≡ Run workers clock log → IsPromptFor command → Run workers Paced log ≡ command
paced_command command workers clock log is prompt = ap (λ d. Run workers d log) (sym (subst IsPromptFor is prompt)) ∙ sym is

-- the numbers of an order that words ask for
pub few_for : (command : Command) (claims : ℕ) → AreFewFor command claims → claims ≤ greatest_claims
few_for (Run workers clock log) claims few = few.1
few_for Check claims few = omega (arith, few)
few_for Meaning claims few = few.1
few_for Slacks claims few = omega (arith, few)

pub makes_few : (words : List (String Global)) (order : declared.Order) → Some (in_words order) ≡ order_of words → MakesFew (in_words order)
makes_few words (Over command graph) says = tt
makes_few words (Make number workers) says = made_number words number workers (sym says)
makes_few words (Migrate graph) says = tt
makes_few words (Audit graph log) says = tt
makes_few words (Replay graph air workers log) says = tt

-- no clock is read, unless a run is by clocks of its own
unread : (order : Order) (views : List ClockView) → IsPrompt order → read_in (Some order) views ≡ []
unread (over (Run workers clock log) graph) views prompt = subst (λ d. read_by d views ≡ []) (sym prompt) refl
unread (over Check graph) views prompt = refl
unread (over Meaning graph) views prompt = refl
unread (over Slacks graph) views prompt = refl
unread (make number workers) views prompt = refl
unread (migrate graph) views prompt = refl
unread (audit graph log) views prompt = refl
unread (replay graph air workers log) views prompt = refl

-- so an answer that read none is the answer of the call
pub answered : (order : Order) (o : Ending) (before now : List ClockView) (contents : Contents) (blocks : List Named) (r : SourceCall) (w : SinkCall) → IsPrompt order → IsDue (Some order) contents blocks (answer_by o r w) → IsDue (Some order) contents blocks (as_answer o.fault (left_at o (Some order) before now) r w)
answered order o before now contents blocks r w prompt due =
    subst (λ views. IsDue (Some order) contents blocks (as_answer o.fault (left_with o views (read_in (Some order) now)) r w)) (sym (unread order before prompt))
    (subst (λ views. IsDue (Some order) contents blocks (as_answer o.fault (left_with o [] views) r w)) (sym (unread order now prompt)) due)

-- clocks that were not read are back
pub back_as_handed : {C : Type 0} (order : Order) (o : Option Fault) (clocks : List C) → AreBack (Some order) o clocks clocks
back_as_handed (over (Run workers clock log) graph) o clocks = back_unread clock o clocks
back_as_handed (over Check graph) o clocks = refl
back_as_handed (over Meaning graph) o clocks = refl
back_as_handed (over Slacks graph) o clocks = refl
back_as_handed (make number workers) o clocks = refl
back_as_handed (migrate graph) o clocks = refl
back_as_handed (audit graph log) o clocks = refl
back_as_handed (replay graph air workers log) o clocks = refl
