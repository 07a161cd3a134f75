use Rattle.std.proofs.Common.{refl}
use Rattle.serde_json.proofs.Views.{items_len-items_view}
use Rattle.pt_graph_text.proofs.decode.has_items.Goals as goal

pub returns-in-Some : goal.returns-in-Some
returns-in-Some c = rw (← c.in-Some.ensures, items_len-items_view, c.as_slice.ensures.value) refl
