use Rattle.std.proofs.Common.{◌≡◌, suc, ◌-◌, [], ◌∷◌, length, sym, ap, ap₂, ◌∙◌, arith}
use Rattle.json.specs.Json.{parse_map, members, value}
use Rattle.json.specs.Reads.{token_of}
use Rattle.json.proofs.Grammar.{value_is, value-begin_object}
use Rattle.serde_json.specs.Data.{object}
use Rattle.serde_json.specs.Read.{of_json, converted}
use Rattle.serde_json.specs.View.{view}
use Rattle.pt_graph_text.proofs.Turns.{converted-object}
use Rattle.pt_graph_text.proofs.Members.{opens_no_object, no_object}
use Rattle.pt_graph_text.proofs.object.read_object.Goals as goal

pub returns-in_err-token-clause-err : goal.returns-in_err-token-clause-err
returns-in_err-token-clause-err g c refused =
    let empty : c.args.reader.now ≡ [] = grind arith in
    ap (converted of_json) (ap (value c.args.depth) empty ∙ value_is c.args.depth [])

pub returns-then-depth-eq0-clause-err : goal.returns-then-depth-eq0-clause-err
unfolding value
returns-then-depth-eq0-clause-err g c never =
    let first : c.args.reader.now ≡ token_of c.in_ok-token.token ∷ c.next.new.self = grind arith in
    let none : c.args.depth ≡ 0 = omega arith in
    ap (converted of_json) (ap₂ value none (first ∙ ap (λ k. token_of k ∷ c.next.new.self) c.in-BeginObject.is))

pub returns-in_err-read_members-in-BeginObject-clause-err : goal.returns-in_err-read_members-in-BeginObject-clause-err
returns-in_err-read_members-in-BeginObject-clause-err g c refused =
    let first : c.args.reader.now ≡ token_of c.in_ok-token.token ∷ c.next.new.self = grind arith in
    let opened = ap (converted of_json) (ap (value c.args.depth) (first ∙ ap (λ k. token_of k ∷ c.next.new.self) c.in-BeginObject.is) ∙ value-begin_object c.args.depth c.next.new.self (omega arith)) ∙ converted-object (members (value (c.args.depth - 1)) (length c.next.new.self) c.next.new.self) in
    opened ∙ ap (parse_map object) (c.read_members.ensures.err (grind arith))

pub returns-in_ok-read_members-in-BeginObject-clause-ok : goal.returns-in_ok-read_members-in-BeginObject-clause-ok
returns-in_ok-read_members-in-BeginObject-clause-ok g c =
    let first : c.args.reader.now ≡ token_of c.in_ok-token.token ∷ c.next.new.self = grind arith in
    let opened = ap (converted of_json) (ap (value c.args.depth) (first ∙ ap (λ k. token_of k ∷ c.next.new.self) c.in-BeginObject.is) ∙ value-begin_object c.args.depth c.next.new.self (omega arith)) ∙ converted-object (members (value (c.args.depth - 1)) (length c.next.new.self) c.next.new.self) in
    let read = c.in_ok-read_members-in-BeginObject.ensures.ok in (object read.0, opened ∙ ap (parse_map object) read.1, read.2, read.3)

pub returns-in_ok-left-in_default : goal.returns-in_ok-left-in_default
returns-in_ok-left-in_default g c =
    let token = c.in_ok-token.token in
    let left = c.in_ok-left-in_default in
    let d = view left.left in
    let first : c.args.reader.now ≡ token_of token ∷ c.next.new.self = grind arith in
    let plain = opens_no_object token c.in_default.not-BeginObject in
    let none = no_object c.args.depth (token_of token) c.next.new.self c.value_from.new.reader d plain left.ensures.ok in record {
      ok = (d, ap (λ ts. converted of_json (value c.args.depth ts)) first ∙ left.ensures.ok, sym none.0, c.none.ensures c.args.version ∙ ap (g.L.ObjectArrays.lists_of c.args.version) (sym none.1));
      shorter = let longer : length c.args.reader.now ≡ suc (length c.next.new.self) = ap length first in omega (arith, longer, left.ensures.shorter);
      err = λ never. absurd (cc);
    }
