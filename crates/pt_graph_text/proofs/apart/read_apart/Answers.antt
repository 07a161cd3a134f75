use Rattle.std.proofs.Common.{◌≡◌, suc, ◌-◌, [], ◌∷◌, length, Some, option_map, sym, ap, ap₂, ◌∙◌, arith}
use Rattle.json.specs.Json.{parse_map, items, value}
use Rattle.json.specs.Reads.{token_of}
use Rattle.json.proofs.Grammar.{value_is, value-begin_array}
use Rattle.serde_json.specs.Data.{array}
use Rattle.serde_json.specs.Read.{of_json, converted}
use Rattle.serde_json.specs.View.{view, items_view}
use Rattle.pt_graph_text.specs.Decoding.{each_from}
use Rattle.serde_json.proofs.Views.{view-Array}
use Rattle.pt_graph_text.proofs.Turns.{converted-array}
use Rattle.pt_graph_text.proofs.Hollow.{opens_no_array, whole_value}
use Rattle.pt_graph_text.proofs.apart.read_apart.Goals as goal

pub returns-in_err-token-clause-err : goal.returns-in_err-token-clause-err
returns-in_err-token-clause-err g c refused =
    let empty : c.args.reader.now ≡ [] = grind arith in
    ap (converted of_json) (ap (value c.args.depth) empty ∙ value_is c.args.depth [])

pub returns-then-depth-eq0-clause-err : goal.returns-then-depth-eq0-clause-err
unfolding value
returns-then-depth-eq0-clause-err g c never =
    let first : c.args.reader.now ≡ token_of c.in_ok-token.token ∷ c.next.new.self = grind arith in
    let none : c.args.depth ≡ 0 = omega arith in
    ap (converted of_json) (ap₂ value none (first ∙ ap (λ k. token_of k ∷ c.next.new.self) c.in-BeginArray.is))

pub returns-in_err-read_each-in-BeginArray-clause-err : goal.returns-in_err-read_each-in-BeginArray-clause-err
returns-in_err-read_each-in-BeginArray-clause-err g c refused =
    let first : c.args.reader.now ≡ token_of c.in_ok-token.token ∷ c.next.new.self = grind arith in
    let opened = ap (converted of_json) (ap (value c.args.depth) (first ∙ ap (λ k. token_of k ∷ c.next.new.self) c.in-BeginArray.is) ∙ value-begin_array c.args.depth c.next.new.self (omega arith)) ∙ converted-array (items (value (c.args.depth - 1)) (length c.next.new.self) c.next.new.self) in
    opened ∙ ap (parse_map array) (c.read_each.ensures.err (grind arith))

pub returns-in_ok-read_each-in-BeginArray-clause-ok : goal.returns-in_ok-read_each-in-BeginArray-clause-ok
returns-in_ok-read_each-in-BeginArray-clause-ok g c =
    let first : c.args.reader.now ≡ token_of c.in_ok-token.token ∷ c.next.new.self = grind arith in
    let opened = ap (converted of_json) (ap (value c.args.depth) (first ∙ ap (λ k. token_of k ∷ c.next.new.self) c.in-BeginArray.is) ∙ value-begin_array c.args.depth c.next.new.self (omega arith)) ∙ converted-array (items (value (c.args.depth - 1)) (length c.next.new.self) c.next.new.self) in
    let read = c.in_ok-read_each-in-BeginArray.ensures.ok in (
      array read.0,
      opened ∙ ap (parse_map array) read.1,
      view-Array c.new.result ∙ ap (λ vs. array (items_view vs)) c.new.ensures.items,
      ap Some read.2,
    )

pub returns-in_ok-value_from-in_default : goal.returns-in_ok-value_from-in_default
returns-in_ok-value_from-in_default g c =
    let f = g.T.Decode.decoded c.args.version in
    let token = c.in_ok-token.token in
    let left = c.in_ok-value_from-in_default in
    let d = view left.field-0 in
    let first : c.args.reader.now ≡ token_of token ∷ c.next.new.self = grind arith in
    let plain = opens_no_array token c.in_default.not-BeginArray in
    let whole = whole_value c.args.depth (token_of token) c.next.new.self c.value_from.new.reader d plain left.ensures.ok in record {
      ok = (d, ap (λ ts. converted of_json (value c.args.depth ts)) first ∙ left.ensures.ok, sym whole.0, sym (ap (option_map (each_from f 0)) whole.1));
      shorter = let longer : length c.args.reader.now ≡ suc (length c.next.new.self) = ap length first in omega (arith, longer, left.ensures.shorter);
      err = λ never. absurd (cc);
    }
