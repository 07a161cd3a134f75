use Rattle.std.proofs.Common.{◌≡◌, ◌+◌, ◌<◌, ◌≤◌, suc, Some, List, length, get_or, take, ap, sym, subst, ◌∙◌, arith}
use Rattle.std.specs.Prelude.{option_map, slice_get}
use Rattle.std.specs.List.{flat_map}
use Rattle.std.proofs.lemmas.Option.{get_or_from_slice_get}
use Rattle.pt_types.specs.declared.firing.Done.{Done}
use Rattle.pt_semantics.specs.Turn.{Turn}
use Rattle.pt_history.specs.declared.head.Head.{Head}
use Rattle.pt_history.specs.Turns.{Dated, RoomyTurns, all_dated}
use Rattle.pt_history.specs.Keeping.{turn_at, turns_from}
use Rattle.pt_history.specs.Whole.{lists_of}
use Rattle.pt_history.proofs.Dated.{length-results, reading_at}
use Rattle.pt_history.proofs.Reading.{all_posted, first_posted, get_turn}
use Rattle.pt_history.proofs.history.History.posted_at.Goals as goal

pub list_of_result-turn-requires : goal.list_of_result-turn-requires
list_of_result-turn-requires c =
    let all : flat_map (λ (turn : Turn). turn.posted) c.args.self.now.turns ≡ flat_map (λ (dones : List Done). dones) c.self.inside.work.posted.lists =
    ap (λ (v : RoomyTurns). flat_map (λ (turn : Turn). turn.posted) v.turns) (sym c.self.view_is) ∙ all_posted (lists_of c.self.inside) c.self.inside.heads.items c.self.invariant.posted.lists in
    omega (arith, ap length all, length-results c.args.self.now.turns, c.requires)

pub get-reading-requires : goal.get-reading-requires
get-reading-requires c = omega (arith, c.self.invariant.posted.lists, c.list_of_result-turn.ensures.within)

pub returns : goal.returns
returns c =
    let lists = lists_of c.self.inside in
    let heads = c.self.inside.heads.items in
    let k = c.list_of_result-turn.result in
    let within : k < length heads = omega (arith, c.self.invariant.posted.lists, c.list_of_result-turn.ensures.within) in
    let low : length (flat_map (λ (turn : Turn). turn.posted) (take k (turns_from lists 0 heads))) ≤ c.args.number =
    subst (λ (ds : List Done). length ds ≤ c.args.number) (sym (first_posted lists k heads c.self.invariant.posted.lists)) c.list_of_result-turn.ensures.starts in
    let next : k + 1 ≡ suc k = omega arith in
    let high : c.args.number < length (flat_map (λ (turn : Turn). turn.posted) (take (suc k) (turns_from lists 0 heads))) =
    subst (λ (ds : List Done). c.args.number < length ds) (sym (first_posted lists (suc k) heads c.self.invariant.posted.lists))
    (subst (λ n. c.args.number < length (flat_map (λ (dones : List Done). dones) (take n c.self.inside.work.posted.lists))) next c.list_of_result-turn.ensures.ends) in
    ap (λ (v : RoomyTurns). option_map (λ (d : Dated). d.reading) (slice_get (all_dated v.turns) c.args.number)) (sym c.self.view_is)
    ∙ reading_at (turns_from lists 0 heads) k c.args.number (turn_at lists k (get_or heads k c.get-reading.result)) (get_turn lists k heads c.get-reading.result within) low high
    ∙ ap (λ (h : Head). Some h.last) (get_or_from_slice_get heads k c.get-reading.result c.get-reading.result c.get-reading.ensures)
