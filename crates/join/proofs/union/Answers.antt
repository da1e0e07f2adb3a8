-- `join::union` meets its contract: a refusal, the join by the files' own numbers where their letters agree, or the letters of both put in.
use mathlib.Core.Path.{◌∙◌, ◌≡◌, ap, refl, sym}
use mathlib.Core.Bool.{true}
use Prim.Native.Nat.{◌≤◌}
use native.Mathlib.Omega.{arith}
use Rattle.automata.specs.Joins.{union}
use Rattle.format.specs.Decoding.{automaton_of}
use Rattle.format.specs.Encoding.{bytes_of}
use Rattle.join_parts.specs.Joining.{join_of}
use Rattle.file_pair.specs.Pair.{files_of}
use Rattle.std.specs.Prelude.{Err, Ok}
use Rattle.std.proofs.lemmas.Result.{err_from_is_err_and}
use Rattle.file_pair.proofs.Laws.{files-valid}
use Rattle.join_parts.proofs.Laws.{as-told, joined-fault, joined-many, unchanged}
use Rattle.join_union.proofs.Laws.{union-ends, union-fits, union-lists, union-put}
use Rattle.join.proofs.OwnNumbers.{ByOwn, answered, header-joinable, joinable, left-alike, left-apart, left-refused, stands}
use Rattle.join.proofs.union.Goals as goal
use Rattle.join.proofs.union.Goals.{After-unite, In_ok-pair}

-- two valid files
valid : (k : goal.In_ok-pair) → files_of k.args.first.now k.args.second.now ≡ Ok k.in_ok-pair.pair
valid k = sym k.read_files.ensures ∙ k.in_ok-pair.was

few : (u : goal.After-unite) → u.count_letters-letters.result ≤ 64
few u = u.if-letters-gt64.false

own : (u : goal.After-unite) → ByOwn union u.args.first.now u.args.second.now u.in_ok-pair.pair.agree u.in_ok-pair.pair.first u.in_ok-pair.pair.second u.count_letters-letters.result (union (automaton_of u.args.first.now) (automaton_of u.args.second.now)) true u.unite.result u.args.out.now u.unite.new.out
own u = let valid' : files_of u.args.first.now u.args.second.now ≡ Ok u.in_ok-pair.pair = sym u.read_files.ensures ∙ u.in_ok-pair.was in
    let x = automaton_of u.args.first.now in
    let y = automaton_of u.args.second.now in
    record {
      fits = union-fits;
      valid = valid';
      many = u.count_letters-letters.ensures;
      few = few u;
      lists = union-lists x y;
      ends = union-ends x y;
      puts = λ one two all _. union-put x y one two all;
      answer = u.unite.ensures.answer;
      output = u.unite.ensures.output;
    }

pub count_letters-letters-requires : goal.count_letters-letters-requires
count_letters-letters-requires c = files-valid _ _ (valid (goal.at.count_letters-letters-requires c).In_ok-pair)

-- too many letters
pub returns-then-letters-gt64 : goal.returns-then-letters-gt64
returns-then-letters-gt64 c = record { answer = ap Err c.of_call.ensures ∙ sym (joined-many union _ _ _ (valid (goal.at.returns-then-letters-gt64 c).In_ok-pair) (omega (arith, c.count_letters-letters.ensures, c.if-letters-gt64.true))); output = refl }

pub unite-requires : goal.unite-requires
unite-requires c = (joinable (valid (goal.at.unite-requires c).In_ok-pair) c.count_letters-letters.ensures c.if-letters-gt64.false, c.count_letters-letters.ensures)

-- the lists agree
pub returns-then-pair : goal.returns-then-pair
returns-then-pair c = let o = own (goal.at.returns-then-pair c).After-unite in record { answer = sym c.in_ok-size.was ∙ answered o; output = as-told (bytes_of (join_of union c.args.first.now c.args.second.now)) c.args.out.now c.in_ok-size.was (left-alike o c.if-pair.true) }

-- a refusal
pub returns-in_err-size : goal.returns-in_err-size
returns-in_err-size c = let o = own (goal.at.returns-in_err-size c).After-unite in
    let p = err_from_is_err_and c.from_residual-in_err-size.result c.from_residual-in_err-size.ensures.1 in
    let e = c.in_err-size.was in
    record { answer = p.1 ∙ ap Err p.2 ∙ sym e ∙ answered o; output = as-told (bytes_of (join_of union c.args.first.now c.args.second.now)) c.args.out.now (e ∙ sym (p.1 ∙ ap Err p.2)) (left-refused o e) }

pub put_letters-requires : goal.put_letters-requires
put_letters-requires c = (header-joinable (valid (goal.at.put_letters-requires c).In_ok-pair) (own (goal.at.put_letters-requires c).After-unite).many (few (goal.at.put_letters-requires c).After-unite), stands (own (goal.at.put_letters-requires c).After-unite) c.in_ok-size.was)

-- a fault
pub returns-in_err-pair : goal.returns-in_err-pair
returns-in_err-pair c = let p = err_from_is_err_and c.from_residual.result c.from_residual.ensures.1 in
    let e = p.1 ∙ ap Err p.2 in
    record { answer = e ∙ sym (joined-fault union _ _ _ (sym c.read_files.ensures ∙ c.in_err-pair.was)); output = unchanged (bytes_of (join_of union c.args.first.now c.args.second.now)) c.args.out.now _ e }

-- the letters put in
pub returns : goal.returns
returns c = let o = own (goal.at.returns c).After-unite in
    record { answer = sym c.in_ok-size.was ∙ answered o; output = as-told (bytes_of (join_of union c.args.first.now c.args.second.now)) c.args.out.now c.in_ok-size.was (left-apart o c.in_ok-size.was c.put_letters.ensures) }
