-- `join::intersect` meets its contract: a refusal, the join by the first file's numbers where their letters agree, or the letters of both put in.
use mathlib.Core.Path.{◌∙◌, ◌≡◌, ap, refl, sym}
use mathlib.Core.Bool.{false}
use mathlib.Core.List.{List}
use Prim.Native.Nat.{◌+◌, ◌-◌, ◌≤◌, ℕ}
use native.Mathlib.Omega.{arith}
use lib.ListN.{drop, length, take}
use Rattle.automata.specs.Joins.{intersection}
use Rattle.format.specs.Decoding.{automaton_of}
use Rattle.format.specs.Encoding.{bytes_of}
use Rattle.join_parts.specs.Joining.{join_of}
use Rattle.file_laws.proofs.Laws.{valid-letters}
use Rattle.file_pair.specs.Pair.{files_of}
use Rattle.std.specs.Prelude.{Err, Ok}
use Rattle.std.proofs.lemmas.Result.{err_from_is_err_and}
use Rattle.file_pair.proofs.Laws.{files-valid}
use Rattle.join_parts.proofs.Laws.{as-told, joined-fault, joined-many, unchanged}
use Rattle.join_parts.specs.OwnNumbers.{Others, by_first}
use Rattle.join_intersection.proofs.Laws.{intersection-fits, intersection-lists, intersection-put}
use Rattle.join.proofs.OwnNumbers.{ByOwn, answered, header-joinable, joinable, left-alike, left-apart, left-refused, others-lent, stands}
use Rattle.join.proofs.intersect.Goals as goal
use Rattle.join.proofs.intersect.Goals.{After-product, Else-letters-gt64, In_ok-pair}

-- two valid files
valid : (k : goal.In_ok-pair) → files_of k.args.first.now k.args.second.now ≡ Ok k.in_ok-pair.pair
valid k = sym k.read_files.ensures ∙ k.in_ok-pair.was

abbrev lent : goal.After-product → List ℕ
lent u = take (u.others_end-end.result - 12) (drop 12 u.args.second.now)

few : (u : goal.After-product) → u.count_letters-letters.result ≤ 64
few u = u.if-letters-gt64.false

others : (u : goal.After-product) → Others u.args.first.now u.args.second.now (lent u)
others u = let valid' : files_of u.args.first.now u.args.second.now ≡ Ok u.in_ok-pair.pair = sym u.read_files.ensures ∙ u.in_ok-pair.was in
    others-lent u.args.first.now u.args.second.now u.others_end-end.result (valid') u.others_end-end.ensures.end

own : (u : goal.After-product) → ByOwn intersection u.args.first.now u.args.second.now u.in_ok-pair.pair.agree u.in_ok-pair.pair.first u.in_ok-pair.pair.second u.count_letters-letters.result (intersection (automaton_of u.args.first.now) (by_first u.args.first.now (lent u) u.args.second.now)) false u.product.result u.args.out.now u.product.new.out
own u = let valid' : files_of u.args.first.now u.args.second.now ≡ Ok u.in_ok-pair.pair = sym u.read_files.ensures ∙ u.in_ok-pair.was in
    record {
      fits = intersection-fits;
      valid = valid';
      many = u.count_letters-letters.ensures;
      few = few u;
      lists = intersection-lists _ _;
      ends = omega arith;
      puts = λ one two all o. intersection-put (others u) o;
      answer = u.product.ensures.answer;
      output = u.product.ensures.output;
    }

pub count_letters-letters-requires : goal.count_letters-letters-requires
count_letters-letters-requires c = files-valid _ _ (valid (goal.at.count_letters-letters-requires c).In_ok-pair)

-- too many letters
pub returns-then-letters-gt64 : goal.returns-then-letters-gt64
returns-then-letters-gt64 c = record { answer = ap Err c.of_call.ensures ∙ sym (joined-many intersection _ _ _ (valid (goal.at.returns-then-letters-gt64 c).In_ok-pair) (omega (arith, c.count_letters-letters.ensures, c.if-letters-gt64.true))); output = refl }

-- the second's letters lie in the file
second-letters : (c : goal.Else-letters-gt64) → (c.in_ok-pair.pair.second.letters ≤ 64) × (12 + c.in_ok-pair.pair.second.letters ≤ length c.args.second.now)
second-letters c = let valid' : files_of c.args.first.now c.args.second.now ≡ Ok c.in_ok-pair.pair = sym c.read_files.ensures ∙ c.in_ok-pair.was in
    valid-letters _ _ (files-valid _ _ (valid')).1

pub others_end-end-requires : goal.others_end-end-requires
others_end-end-requires c = (second-letters (goal.at.others_end-end-requires c).Else-letters-gt64).0

pub slice_bounds-others-count : goal.slice_bounds-others-count
slice_bounds-others-count c = c.others_end-end.ensures.inside.0

pub slice_bounds-others-start : goal.slice_bounds-others-start
slice_bounds-others-start c = c.others_end-end.ensures.inside.0

pub slice_bounds-others-end : goal.slice_bounds-others-end
slice_bounds-others-end c = omega (arith, c.others_end-end.ensures.inside.1, (second-letters (goal.at.slice_bounds-others-end c).Else-letters-gt64).1)

pub product-requires : goal.product-requires
product-requires c = let v = valid (goal.at.product-requires c).In_ok-pair in
    (joinable v c.count_letters-letters.ensures c.if-letters-gt64.false, c.count_letters-letters.ensures, others-lent _ _ c.others_end-end.result v c.others_end-end.ensures.end)

-- the lists agree
pub returns-then-pair : goal.returns-then-pair
returns-then-pair c = let o = own (goal.at.returns-then-pair c).After-product in record { answer = sym c.in_ok-size.was ∙ answered o; output = as-told (bytes_of (join_of intersection c.args.first.now c.args.second.now)) c.args.out.now c.in_ok-size.was (left-alike o c.if-pair.true) }

-- a refusal
pub returns-in_err-size : goal.returns-in_err-size
returns-in_err-size c = let o = own (goal.at.returns-in_err-size c).After-product in
    let p = err_from_is_err_and c.from_residual-in_err-size.result c.from_residual-in_err-size.ensures.1 in
    let e = c.in_err-size.was in
    record { answer = p.1 ∙ ap Err p.2 ∙ sym e ∙ answered o; output = as-told (bytes_of (join_of intersection c.args.first.now c.args.second.now)) c.args.out.now (e ∙ sym (p.1 ∙ ap Err p.2)) (left-refused o e) }

pub put_letters-requires : goal.put_letters-requires
put_letters-requires c = (header-joinable (valid (goal.at.put_letters-requires c).In_ok-pair) (own (goal.at.put_letters-requires c).After-product).many (few (goal.at.put_letters-requires c).After-product), stands (own (goal.at.put_letters-requires c).After-product) c.in_ok-size.was)

-- a fault
pub returns-in_err-pair : goal.returns-in_err-pair
returns-in_err-pair c = let p = err_from_is_err_and c.from_residual.result c.from_residual.ensures.1 in
    let e = p.1 ∙ ap Err p.2 in
    record { answer = e ∙ sym (joined-fault intersection _ _ _ (sym c.read_files.ensures ∙ c.in_err-pair.was)); output = unchanged (bytes_of (join_of intersection c.args.first.now c.args.second.now)) c.args.out.now _ e }

-- the letters put in
pub returns : goal.returns
returns c = let o = own (goal.at.returns c).After-product in
    record { answer = sym c.in_ok-size.was ∙ answered o; output = as-told (bytes_of (join_of intersection c.args.first.now c.args.second.now)) c.args.out.now c.in_ok-size.was (left-apart o c.in_ok-size.was c.put_letters.ensures) }
