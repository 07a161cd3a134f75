use Rattle.std.proofs.Common.{◌≡◌, length, ◌≤◌, ℕ, [], Option, Some, None, sym, ap, subst, ◌∙◌, eqb-true, arith}
use Rattle.pt_semantics.specs.Kept.{kept_with}
use Rattle.pt_semantics.specs.Paced.{IsNextReading}
use Rattle.pt_history.specs.Turns.{fresh}
use Rattle.pt_turn.specs.declared.fault.TurnFault.{TurnFault}
use Rattle.pt_turn.specs.declared.room.Room.{Room}
use Rattle.pt_turn.specs.declared.platform.Platform.TheInside.{Inside}
use Rattle.pt_turn.specs.Platforms.{IsPlatform, PlatformView, platform_graph, state_at, view_of}
use Rattle.pt_turn.specs.Rested.{HasRested}
use Rattle.pt_turn.proofs.Again.{IsDone, after, is_again, is_turned}
use Rattle.pt_turn.proofs.Ends.{no_members}
use Rattle.pt_turn.proofs.Idling.{has_rested}
use Rattle.pt_turn.proofs.Rooms.{raised_rises}
use Rattle.pt_turn.proofs.TakenEnds.{marks_rest}
use Rattle.pt_turn.proofs.platform.Platform.rest.Goals as goal

pub invariant_of-self : goal.invariant_of-self
invariant_of-self c = subst (λ h. IsPlatform (record c.self-2.inside { progress = record c.self-2.inside.progress { history = h } })) (sym c.in_err-keep_quiet.ensures.refused) c.self-2.invariant

pub invariant_of-self-2 : goal.invariant_of-self-2
invariant_of-self-2 c =
    let p : Inside = c.self-2.inside in
    let r : ℕ = c.raised_to-reading.result in
    let same : view_of p ≡ c.args.self.now = c.self-2.view_is ∙ c.find_next-next.ensures.same in
    let next : IsNextReading (platform_graph p) p.number (state_at (view_of p)) c.find_next-next.result = subst (λ (v : PlatformView). IsNextReading v.plan.graph v.number (state_at v) c.find_next-next.result) (sym same) c.find_next-next.ensures.next in
    let rises : (q : ℕ) → p.progress.fields.reading ≡ Some q → q ≤ r = λ q is. subst (λ n. q ≤ n) (sym c.raised_to-reading.ensures) (raised_rises p.progress.fields.reading c.args.reading q is) in
    let turns : c.keep_quiet.new.history.turns ≡ kept_with p.progress.history.turns (fresh r) = c.in_ok-keep_quiet.ensures.turns in
    let sent : length p.progress.fields.outbox.items ≤ c.keep_quiet.new.history.room.sent = omega (arith, c.in_ok-keep_quiet.ensures.sent, c.self-2.invariant.sent) in
    let done = has_rested p r 1 c.find_next-next.result c.keep_quiet.new.history [] c.self-2.invariant next c.if-next-reading.false rises turns sent c.raised_to-reading.type_inv in
    let no_fault : p.progress.fault ≡ None = ap (λ (v : PlatformView). v.fault) same ∙ c.requires.no_fault in
    subst (λ (o : Option Room). IsPlatform (record (after p (record p.progress.fields { reading = Some r }) c.keep_quiet.new.history p.progress.ended p.progress.lists p.progress.fault p.next p.progress.next_row) { room = o })) (sym c.clear.ensures)
    (subst (λ (fault : Option TurnFault). IsPlatform (after p (record p.progress.fields { reading = Some r }) c.keep_quiet.new.history p.progress.ended p.progress.lists fault p.next p.progress.next_row)) (sym no_fault)
    (is_again p r 1 [] [] (record p.progress.fields { reading = Some r }) c.keep_quiet.new.history p.progress.ended p.progress.lists None p.next p.progress.next_row [] [] c.self-2.invariant no_fault done c.self-2.invariant.next c.self-2.invariant.next_row (marks_rest (length (platform_graph p).links) r p.progress.ended p.progress.history.turns c.keep_quiet.new.history.turns c.self-2.invariant.ended turns)))

pub returns-clause-rested : goal.returns-clause-rested
returns-clause-rested c = λ yes.
    let p : Inside = c.self-2.inside in
    let r : ℕ = c.raised_to-reading.result in
    let same : view_of p ≡ c.args.self.now = c.self-2.view_is ∙ c.find_next-next.ensures.same in
    let next : IsNextReading (platform_graph p) p.number (state_at (view_of p)) c.find_next-next.result = subst (λ (v : PlatformView). IsNextReading v.plan.graph v.number (state_at v) c.find_next-next.result) (sym same) c.find_next-next.ensures.next in
    let rises : (q : ℕ) → p.progress.fields.reading ≡ Some q → q ≤ r = λ q is. subst (λ n. q ≤ n) (sym c.raised_to-reading.ensures) (raised_rises p.progress.fields.reading c.args.reading q is) in
    let turns : c.keep_quiet.new.history.turns ≡ kept_with p.progress.history.turns (fresh r) = c.in_ok-keep_quiet.ensures.turns in
    let sent : length p.progress.fields.outbox.items ≤ c.keep_quiet.new.history.room.sent = omega (arith, c.in_ok-keep_quiet.ensures.sent, c.self-2.invariant.sent) in
    let done : (most : ℕ) → IsDone p r most [] [] (record p.progress.fields { reading = Some r }) c.keep_quiet.new.history p.progress.lists None [] [] = λ most. has_rested p r most c.find_next-next.result c.keep_quiet.new.history [] c.self-2.invariant next c.if-next-reading.false rises turns sent c.raised_to-reading.type_inv in
    let turned = λ (most : ℕ). is_turned p r c.args.reading most [] [] (record p.progress.fields { reading = Some r }) c.keep_quiet.new.history p.progress.ended p.progress.lists None p.progress.next_row [] [] c.raised_to-reading.ensures (done most) in
    let len : length c.self.inside.progress.fields.outbox.items ≡ 0 = eqb-true (length c.self.inside.progress.fields.outbox.items) 0 (sym c.is_empty.ensures ∙ c.if-not-is_empty.false) in
    let empty : c.self.inside.progress.fields.outbox.items ≡ [] = no_members c.self.inside.progress.fields.outbox.items len in
    let outbox : p.progress.fields.outbox.items ≡ [] = ap (λ (v : PlatformView). v.outbox) (same ∙ sym c.self.view_is) ∙ empty in
    let no_fault : p.progress.fault ≡ None = ap (λ (v : PlatformView). v.fault) same ∙ c.requires.no_fault in
    subst (λ (o : Option Room). HasRested c.args.self.now (view_of (record (after p (record p.progress.fields { reading = Some r }) c.keep_quiet.new.history p.progress.ended p.progress.lists p.progress.fault None p.progress.next_row) { room = o })) c.args.reading) (sym c.clear.ensures)
    (subst (λ (fault : Option TurnFault). HasRested c.args.self.now (view_of (after p (record p.progress.fields { reading = Some r }) c.keep_quiet.new.history p.progress.ended p.progress.lists fault None p.progress.next_row)) c.args.reading) (sym no_fault)
    (subst (λ (v : PlatformView). HasRested v (view_of (after p (record p.progress.fields { reading = Some r }) c.keep_quiet.new.history p.progress.ended p.progress.lists None None p.progress.next_row)) c.args.reading) same (record {
      made = λ most. (turned most).0;
      idle = λ most. sym (turned most).1;
      stays = (turned 1).2;
      sent_all = outbox;
    })))
