use Rattle.std.proofs.Common.{◌≡◌, ◌++◌, Some, ap, slice_get, string_bytes, sym, ◌∙◌}
use Rattle.std.specs.Prelude.{option_map}
use Rattle.std.proofs.lemmas.Result.{on_ok_weaker}
use Rattle.pt_semantics.specs.Turn.{Turn}
use Rattle.pt_tables.specs.declared.turn_lists.TurnList.TheVariants.{Claimed, Rows, Sent, Taken}
use Rattle.pt_tables.specs.Log.{list_lines}
use Rattle.pt_tables.proofs.Parts.{is_there}
use Rattle.pt_tables.proofs.ShortNames.{short_names}
use Rattle.pt_tables.proofs.TurnLists.{all_entries, lines_of}
use Rattle.pt_tables.proofs.turns.push_lists.Goals as goal

pub push_list-requires-clause-names : goal.push_list-requires-clause-names
push_list-requires-clause-names c = short_names c.args.graph.now c.requires.lawful

pub returns : goal.returns
returns c =
    let (turn, at) = is_there c.args.history.now.turns c.args.number c.requires.number in
    on_ok_weaker c.push_list-5.result
    (λ (sent : (turn : Turn) → slice_get c.args.history.now.turns c.of-lists.result.number ≡ Some turn → string_bytes c.push_list-5.new.text ≡ string_bytes c.push_list-4.new.text ++ (lines_of c.args.graph.now turn Sent)).
    ap (option_map (λ (t : Turn). string_bytes c.args.text.now ++ list_lines c.args.graph.now t)) at
    ∙ ap Some (sym (sent turn (ap (slice_get c.args.history.now.turns) c.of-lists.ensures.number ∙ at) ∙ ap (λ l. l ++ (lines_of c.args.graph.now turn Sent)) ((c.in_ok-push_list-4.ensures turn (ap (slice_get c.args.history.now.turns) c.of-lists.ensures.number ∙ at)) ∙ ap (λ l. l ++ (lines_of c.args.graph.now turn Claimed)) ((c.in_ok-push_list-3.ensures turn (ap (slice_get c.args.history.now.turns) c.of-lists.ensures.number ∙ at)) ∙ ap (λ l. l ++ (lines_of c.args.graph.now turn Taken)) ((c.in_ok-push_list-2.ensures turn (ap (slice_get c.args.history.now.turns) c.of-lists.ensures.number ∙ at)) ∙ ap (λ l. l ++ (lines_of c.args.graph.now turn Rows)) (c.in_ok-push_list.ensures turn (ap (slice_get c.args.history.now.turns) c.of-lists.ensures.number ∙ at))))) ∙ all_entries c.args.graph.now turn (string_bytes c.args.text.now))))
    c.push_list-5.ensures
