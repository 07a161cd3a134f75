use Rattle.std.proofs.Common.{◌≡◌, ◌<◌, ℕ, true, [], ◌∷◌, ◌++◌, Some, set, get_or, length, slice_get, sym, ap, subst, ◌∙◌, arith}
use Rattle.std.proofs.lemmas.Option.{slice_get-get_or}
use Rattle.pt_types.specs.declared.graph.Graph.{Graph}
use Rattle.pt_semantics.specs.Turn.{Turn}
use Rattle.pt_offsets.specs.Plans.{Parts}
use Rattle.pt_turn.specs.Platforms.{PlatformView, state_at}
use Rattle.pt_audit.specs.Parsing.Hints.{AreHints, IsLoggable}
use Rattle.pt_audit.specs.Remaking.Lasts.{AreLast}
use Rattle.pt_audit.specs.Verifying.{AreVerified}
use Rattle.pt_audit.specs.FromText.{HasMadeFromText}
use Rattle.pt_audit.specs.declared.order.Order.{Order}
use Rattle.pt_audit.proofs.Next.{is_entered}
use Rattle.pt_audit.proofs.Pushed.{pushed}
use Rattle.pt_audit.proofs.Refused.{ReadsBack, out_of_order, unmade, unread, unloggable}
use Rattle.pt_audit.proofs.Remade.{quiet_here}
use Rattle.pt_audit.proofs.block.verify_block.Goals as goal

pub returns-then-not-branch-clause-none : goal.returns-then-not-branch-clause-none
returns-then-not-branch-clause-none g c = λ rows before line h e are_lawful.
    let back : ReadsBack c.args.plan.now.graph c.args.block.now c.in_ok-read_hints.field-0 c.read_hints.new.hints = subst (λ (z : Graph). ReadsBack z c.args.block.now c.in_ok-read_hints.field-0 c.read_hints.new.hints) c.graph-graph.ensures.value c.in_ok-read_hints.ensures.back in
    unread c.args.plan.now rows before c.args.order.now c.args.last.now c.args.platforms.now h (record { line = line; text = c.args.block.now }) c.in_ok-read_hints.field-0 c.read_hints.new.hints back c.if-not-branch.true are_lawful

pub returns-then-not-are_loggable-clause-none : goal.returns-then-not-are_loggable-clause-none
returns-then-not-are_loggable-clause-none g c = λ rows before line h e are_lawful.
    let back : ReadsBack c.args.plan.now.graph c.args.block.now c.in_ok-read_hints.field-0 c.read_hints.new.hints = subst (λ (z : Graph). ReadsBack z c.args.block.now c.in_ok-read_hints.field-0 c.read_hints.new.hints) c.graph-graph.ensures.value c.in_ok-read_hints.ensures.back in
    let Never : Graph → Type 0 = λ z. (p : ℕ) (turn : Turn) → AreHints p turn c.read_hints.new.hints → IsLoggable z p turn → ⊥ in
    let never : Never c.args.plan.now.graph = subst Never c.graph-graph.ensures.value (c.are_loggable.ensures.no c.if-not-are_loggable.true) in
    unloggable c.args.plan.now rows before c.args.order.now c.args.last.now c.args.platforms.now h (record { line = line; text = c.args.block.now }) c.in_ok-read_hints.field-0 c.read_hints.new.hints back never are_lawful

pub returns-in_default-clause-none : goal.returns-in_default-clause-none
returns-in_default-clause-none g c = λ rows before line h e are_lawful.
    let back : ReadsBack c.args.plan.now.graph c.args.block.now c.in_ok-read_hints.field-0 c.read_hints.new.hints = subst (λ (z : Graph). ReadsBack z c.args.block.now c.in_ok-read_hints.field-0 c.read_hints.new.hints) c.graph-graph.ensures.value c.in_ok-read_hints.ensures.back in
    out_of_order c.args.plan.now rows before c.args.order.now c.args.last.now c.args.platforms.now h (record { line = line; text = c.args.block.now }) c.in_ok-read_hints.field-0 c.read_hints.new.hints back (sym c.entered.ensures ∙ c.in_default.is) are_lawful

pub bounds-platforms-number : goal.bounds-platforms-number
bounds-platforms-number g c =
    let (rows, before, h) = c.requires.begun in
    let here : c.read_hints.new.hints.platform < length c.graph-graph.result.now.platforms = c.are_loggable.ensures.platform c.if-not-are_loggable.false in
    let same : length c.graph-graph.result.now.platforms ≡ length c.args.plan.now.graph.platforms = ap (λ (z : Graph). length z.platforms) c.graph-graph.ensures.value in
    omega (arith, here, same, h.all.count)

pub verify_turn-requires-clause-named : goal.verify_turn-requires-clause-named
verify_turn-requires-clause-named g c =
    let (rows, before, h) = c.requires.begun in
    let here : c.read_hints.new.hints.platform < length c.graph-graph.result.now.platforms = c.are_loggable.ensures.platform c.if-not-are_loggable.false in
    let same : length c.graph-graph.result.now.platforms ≡ length c.args.plan.now.graph.platforms = ap (λ (z : Graph). length z.platforms) c.graph-graph.ensures.value in
    let lt : c.read_hints.new.hints.platform < length c.args.platforms.now = omega (arith, here, same, h.all.count) in
    let at : slice_get c.args.platforms.now c.read_hints.new.hints.platform ≡ Some (get_or c.args.platforms.now c.read_hints.new.hints.platform c.index-platforms-number.result) = slice_get-get_or c.args.platforms.now c.read_hints.new.hints.platform c.index-platforms-number.result lt in
    sym (h.all.numbers c.read_hints.new.hints.platform (get_or c.args.platforms.now c.read_hints.new.hints.platform c.index-platforms-number.result) at)

pub verify_turn-requires-clause-last : goal.verify_turn-requires-clause-last
verify_turn-requires-clause-last g c =
    let (rows, before, h) = c.requires.begun in
    let here : c.read_hints.new.hints.platform < length c.graph-graph.result.now.platforms = c.are_loggable.ensures.platform c.if-not-are_loggable.false in
    let same : length c.graph-graph.result.now.platforms ≡ length c.args.plan.now.graph.platforms = ap (λ (z : Graph). length z.platforms) c.graph-graph.ensures.value in
    let lt : c.read_hints.new.hints.platform < length c.args.platforms.now = omega (arith, here, same, h.all.count) in
    let at : slice_get c.args.platforms.now c.read_hints.new.hints.platform ≡ Some (get_or c.args.platforms.now c.read_hints.new.hints.platform c.index-platforms-number.result) = slice_get-get_or c.args.platforms.now c.read_hints.new.hints.platform c.index-platforms-number.result lt in
    let old : PlatformView = (get_or c.args.platforms.now c.read_hints.new.hints.platform c.index-platforms-number.result) in
    subst (λ n. AreLast old.plan.graph n (state_at old).taken c.args.last.now) (sym (h.all.numbers c.read_hints.new.hints.platform (get_or c.args.platforms.now c.read_hints.new.hints.platform c.index-platforms-number.result) at))
    (subst (λ (z : Parts). AreLast z.graph c.read_hints.new.hints.platform (state_at old).taken c.args.last.now) (sym (h.all.plans c.read_hints.new.hints.platform (get_or c.args.platforms.now c.read_hints.new.hints.platform c.index-platforms-number.result) at)) (h.lasts c.read_hints.new.hints.platform (get_or c.args.platforms.now c.read_hints.new.hints.platform c.index-platforms-number.result) at))

pub returns-then-not-branch-2-clause-none : goal.returns-then-not-branch-2-clause-none
returns-then-not-branch-2-clause-none g c = λ rows before line h e are_lawful.
    let back : ReadsBack c.args.plan.now.graph c.args.block.now c.in_ok-read_hints.field-0 c.read_hints.new.hints = subst (λ (z : Graph). ReadsBack z c.args.block.now c.in_ok-read_hints.field-0 c.read_hints.new.hints) c.graph-graph.ensures.value c.in_ok-read_hints.ensures.back in
    let here : c.read_hints.new.hints.platform < length c.graph-graph.result.now.platforms = c.are_loggable.ensures.platform c.if-not-are_loggable.false in
    let same : length c.graph-graph.result.now.platforms ≡ length c.args.plan.now.graph.platforms = ap (λ (z : Graph). length z.platforms) c.graph-graph.ensures.value in
    let lt : c.read_hints.new.hints.platform < length c.args.platforms.now = omega (arith, here, same, h.all.count) in
    let at : slice_get c.args.platforms.now c.read_hints.new.hints.platform ≡ Some (get_or c.args.platforms.now c.read_hints.new.hints.platform c.index-platforms-number.result) = slice_get-get_or c.args.platforms.now c.read_hints.new.hints.platform c.index-platforms-number.result lt in
    unmade c.args.plan.now rows before c.args.order.now c.args.last.now c.args.platforms.now h (record { line = line; text = c.args.block.now }) c.in_ok-read_hints.field-0 c.read_hints.new.hints back (get_or c.args.platforms.now c.read_hints.new.hints.platform c.index-platforms-number.result) at (c.in_ok-verify_turn.ensures.none c.if-not-branch-2.true) are_lawful

pub returns-clause-verified : goal.returns-clause-verified
returns-clause-verified g c = λ rows before line h e.
    let here : c.read_hints.new.hints.platform < length c.graph-graph.result.now.platforms = c.are_loggable.ensures.platform c.if-not-are_loggable.false in
    let same : length c.graph-graph.result.now.platforms ≡ length c.args.plan.now.graph.platforms = ap (λ (z : Graph). length z.platforms) c.graph-graph.ensures.value in
    let lt : c.read_hints.new.hints.platform < length c.args.platforms.now = omega (arith, here, same, h.all.count) in
    let at : slice_get c.args.platforms.now c.read_hints.new.hints.platform ≡ Some (get_or c.args.platforms.now c.read_hints.new.hints.platform c.index-platforms-number.result) = slice_get-get_or c.args.platforms.now c.read_hints.new.hints.platform c.index-platforms-number.result lt in
    let Loggable : Graph → Type 0 = λ z. (p : ℕ) (turn : Turn) → AreHints p turn c.read_hints.new.hints → IsLoggable z p turn in
    let loggable : Loggable c.args.plan.now.graph = subst Loggable c.graph-graph.ensures.value (c.are_loggable.ensures.yes c.if-not-are_loggable.false) in
    let yes : c.in_ok-verify_turn.field-0 ≡ true = c.if-not-branch-2.false in
    let logged : HasMadeFromText c.args.block.now c.read_hints.new.hints (get_or c.args.platforms.now c.read_hints.new.hints.platform c.index-platforms-number.result) c.verify_turn.new.platform = c.in_ok-verify_turn.ensures.made yes in
    let quiet = quiet_here (get_or c.args.platforms.now c.read_hints.new.hints.platform c.index-platforms-number.result) c.verify_turn.new.platform c.read_hints.new.hints c.args.block.now c.graph-graph.result.now c.history.result.now.turns logged.made
    (sym (h.all.numbers c.read_hints.new.hints.platform (get_or c.args.platforms.now c.read_hints.new.hints.platform c.index-platforms-number.result) at))
    (c.graph-graph.ensures.value ∙ ap (λ (z : Parts). z.graph) (sym (h.all.plans c.read_hints.new.hints.platform (get_or c.args.platforms.now c.read_hints.new.hints.platform c.index-platforms-number.result) at)))
    c.history.ensures.turns c.quiet_count.result c.quiet_count.ensures in
    subst (λ (o : Order). AreVerified c.args.plan.now rows (before ++ (record { line = line; text = c.args.block.now }) ∷ []) o c.verify_turn.new.last (set c.args.platforms.now c.read_hints.new.hints.platform c.verify_turn.new.platform)) (sym c.with_turn.ensures)
    (pushed c.args.plan.now rows before c.args.order.now c.in-Some.entered c.args.last.now c.verify_turn.new.last c.args.platforms.now h (record { line = line; text = c.args.block.now }) c.read_hints.new.hints.platform (get_or c.args.platforms.now c.read_hints.new.hints.platform c.index-platforms-number.result) c.verify_turn.new.platform c.read_hints.new.hints c.quiet_count.result at
    (is_entered h.logged c.args.order.now h.up_to h.two c.read_hints.new.hints.platform c.in-Some.entered (sym c.entered.ensures ∙ c.in-Some.is))
    logged loggable (c.in_ok-verify_turn.ensures.last yes) (c.in_ok-verify_turn.ensures.others yes) quiet)
