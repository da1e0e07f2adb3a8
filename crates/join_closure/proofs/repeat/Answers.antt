-- `join_closure::repeat` meets its contract.
use mathlib.Core.Path.{◌∙◌, ◌≡◌, ap, ap₂, sym}
use Prim.Native.Nat.{◌*◌, ◌+◌, ◌≤◌, ℕ}
use native.Mathlib.Nat.{le_trans, mul-le-mul_left, mul-le-mul_right}
use native.Mathlib.Omega.{arith}
use lib.ListN.{length}
use Rattle.std.specs.Prelude.{Err}
use Rattle.std.proofs.lemmas.Result.{err_from_is_err_and}
use Rattle.automata.specs.Automaton.{Automaton}
use Rattle.automata.specs.Joins.{clearing, closure, final_states}
use Rattle.file_fields.specs.declared.Counts.{Counts}
use Rattle.format.specs.Decoding.{automaton_of}
use Rattle.format.specs.Encoding.{bytes_of, sizes}
use Rattle.file_laws.proofs.Laws.{valid-fits, valid-ranges, valid-sizes}
use Rattle.join_parts.specs.Joining.{written_of}
use Rattle.join_closure.proofs.ClosureBytes.{closure-counts, closure-length}
use Rattle.join_closure.proofs.ClosureFits.{closure-fits, closure-ops}
use Rattle.join_parts.proofs.Laws.{decided-written, unchanged, valid-lengths, written-bytes}
use Rattle.file_writing.proofs.Laws.{file-written}
use Rattle.join_closure.proofs.repeat.Goals as goal
use Rattle.join_closure.proofs.repeat.Goals.{After-closure_counts-c, After-decide, After-return_size, Start}

-- the automaton, and the counts of its closure
abbrev joined : goal.Start → Automaton
joined s = closure (automaton_of s.args.file.now)

counts : (c : goal.After-closure_counts-c) →
    let joined' : Automaton = closure (automaton_of c.args.file.now) in sizes (joined') ≡ c.closure_counts-c.result
counts c = let joined' : Automaton = closure (automaton_of c.args.file.now) in
    c.closure_counts-c.ensures (automaton_of c.args.file.now) (valid-sizes _ _ c.requires) (sym c.count_finals-finals.ensures.0)

-- the counts are small, and so is the size of the returns
small : (c : goal.After-return_size) → (c.closure_counts-c.result.letters ≤ 64) × (c.closure_counts-c.result.states ≤ 257) × (c.count_finals-finals.result * c.return_size.result ≤ 4608)
small c = let joined' : Automaton = closure (automaton_of c.args.file.now) in
    let counts' : sizes (joined') ≡ c.closure_counts-c.result = c.closure_counts-c.ensures (automaton_of c.args.file.now) (valid-sizes _ _ c.requires) (sym c.count_finals-finals.ensures.0) in
    let r = valid-ranges _ _ c.requires in
    let l = valid-lengths _ _ c.requires in
    let e = sym (counts') ∙ closure-counts (automaton_of c.args.file.now) in
    let top : c.count_finals-finals.result ≤ 256 = omega (arith, c.count_finals-finals.ensures.1, r.states) in
    let p = mul-le-mul_right c.return_size.result top in
    let q = mul-le-mul_left 256 c.return_size.ensures.1 in
    (omega (arith, ap (λ (d : Counts). d.letters) e, r.letters), omega (arith, ap (λ (d : Counts). d.states) e, r.states), le_trans p q)

-- the answer
answered : (c : goal.After-decide) →
    let joined' : Automaton = closure (automaton_of c.args.file.now) in
    let counts' : sizes (joined') ≡ c.closure_counts-c.result = c.closure_counts-c.ensures (automaton_of c.args.file.now) (valid-sizes _ _ c.requires) (sym c.count_finals-finals.ensures.0) in c.decide.result ≡ written_of (joined') (length c.args.out.now)
answered c = let joined' : Automaton = closure (automaton_of c.args.file.now) in
    let counts' : sizes (joined') ≡ c.closure_counts-c.result = c.closure_counts-c.ensures (automaton_of c.args.file.now) (valid-sizes _ _ c.requires) (sym c.count_finals-finals.ensures.0) in
    let x = automaton_of c.args.file.now in
    let size = 18 + c.closure_counts-c.result.letters + c.closure_counts-c.result.states + c.arcs_size.result + c.count_finals-finals.result * c.return_size.result in
    let n = counts' in
    let k = ap (λ (d : Counts). d.registers) (valid-sizes _ _ c.requires) in
    let returns-in_default : length (final_states 0 x.finals) * (4 + 2 * length (clearing x.registers)) ≡ c.count_finals-finals.result * c.return_size.result
    = ap₂ (λ (m n : ℕ). m * n) (sym c.count_finals-finals.ensures.0) (ap (λ (n : ℕ). 4 + 2 * length (clearing n)) k ∙ sym c.return_size.ensures.0) in
    c.decide.ensures
    ∙ decided-written (closure x) (length c.args.out.now) c.closure_counts-c.result size (closure-ops x (valid-fits _ _ c.requires)) n
    (omega (arith, closure-length x, ap (λ (d : Counts). d.letters) n, ap (λ (d : Counts). d.states) n, c.arcs_size.ensures.0))

pub closure_counts-c-requires : goal.closure_counts-c-requires
closure_counts-c-requires c = let r = valid-ranges _ _ c.requires in
    (r, omega (arith, c.count_finals-finals.ensures.1, r.states))

pub return_size-requires : goal.return_size-requires
return_size-requires c = (valid-ranges _ _ c.requires).registers

pub overflow_mul-returns : goal.overflow_mul-returns
overflow_mul-returns c = omega (arith, small c)

pub overflow_add-size : goal.overflow_add-size
overflow_add-size c = omega (arith, small (goal.at.overflow_add-size c).After-return_size)

pub overflow_add-size-2 : goal.overflow_add-size-2
overflow_add-size-2 c = omega (arith, small (goal.at.overflow_add-size-2 c).After-return_size)

pub overflow_add-size-3 : goal.overflow_add-size-3
overflow_add-size-3 c = omega (arith, small (goal.at.overflow_add-size-3 c).After-return_size, c.arcs_size.ensures.1)

pub overflow_add-size-4 : goal.overflow_add-size-4
overflow_add-size-4 c = omega (arith, small (goal.at.overflow_add-size-4 c).After-return_size, c.arcs_size.ensures.1)

pub returns-in_err-length : goal.returns-in_err-length
returns-in_err-length c = let p = err_from_is_err_and c.from_residual.result c.from_residual.ensures.1 in
    let e = p.1 ∙ ap Err p.2 in
    record { answer = e ∙ sym c.in_err-length.was ∙ answered (goal.at.returns-in_err-length c).After-decide; output = unchanged (bytes_of (closure (automaton_of c.args.file.now))) c.args.out.now _ e }

pub write_closure-requires : goal.write_closure-requires
write_closure-requires c = let w = written-bytes (joined (goal.at.write_closure-requires c).Start) (length c.args.out.now) (sym (answered (goal.at.write_closure-requires c).After-decide) ∙ c.in_ok-length.was) in
    (c.requires, counts (goal.at.write_closure-requires c).After-closure_counts-c, closure-fits _ (valid-fits _ _ c.requires) w.within, w.room)

pub returns : goal.returns
returns c = record { answer = sym c.in_ok-length.was ∙ answered (goal.at.returns c).After-decide; output = file-written c.write_closure.ensures }
