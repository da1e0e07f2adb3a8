-- `join_union::unite` meets its contract.
use mathlib.Core.Path.{◌∙◌, ◌≡◌, ap, subst, sym}
use Prim.Native.Nat.{◌+◌, ◌≤◌, ℕ}
use native.Mathlib.Omega.{arith}
use lib.ListN.{length}
use Rattle.std.specs.Prelude.{Err}
use Rattle.std.proofs.lemmas.Result.{err_from_is_err_and}
use Rattle.automata.specs.Automaton.{Automaton}
use Rattle.automata.specs.Joins.{union}
use Rattle.file_fields.specs.declared.Counts.{Counts}
use Rattle.format.specs.Decoding.{automaton_of}
use Rattle.format.specs.Encoding.{bytes_of, sizes}
use Rattle.format.specs.Limits.{Ranges}
use Rattle.file_laws.proofs.Laws.{valid-ranges, valid-sizes}
use Rattle.file_writing.proofs.Laws.{file-written}
use Rattle.join_parts.specs.Joining.{join_of, written_of}
use Rattle.join_parts.specs.OwnNumbers.{roomy}
use Rattle.join_parts.proofs.Laws.{decided-written, few-by_own, first-room, ranges-by_own, unchanged, valid-lengths, written-by_own, written-bytes}
use Rattle.join_union.proofs.UnionBytes.{union-length, union-roomy-counts}
use Rattle.join_union.proofs.UnionFits.{union-fits, union-ops}
use Rattle.join_union.proofs.UnionPut.{union-lists, union-put}
use Rattle.join_union.proofs.unite.Goals as goal
use Rattle.join_union.proofs.unite.Goals.{After-decide, After-union_counts-c, Start}

-- the automata, and their union with room for the letters of both
abbrev left : goal.Start → Automaton
left s = automaton_of s.args.first.now

abbrev right : goal.Start → Automaton
right s = automaton_of s.args.second.now

abbrev joined : goal.Start → Automaton
joined s = roomy s.args.letters (union (left s) (right s))

-- the counts of it
counts : (c : goal.After-union_counts-c) →
    let left' : Automaton = automaton_of c.args.first.now in
    let right' : Automaton = automaton_of c.args.second.now in
    let joined' : Automaton = roomy c.args.letters (union (left') (right')) in sizes (joined') ≡ c.union_counts-c.result
counts c = let left' : Automaton = automaton_of c.args.first.now in
    let right' : Automaton = automaton_of c.args.second.now in
    let joined' : Automaton = roomy c.args.letters (union (left') (right')) in
    c.union_counts-c.ensures (left') (right') (valid-sizes _ _ c.requires.0.first) (valid-sizes _ _ c.requires.0.second)

many : (c : goal.After-union_counts-c) → (c.union_counts-c.result.letters ≡ c.args.letters) × (c.union_counts-c.result.states ≡ 1 + c.args.a.states + c.args.b.states)
many c = let left' : Automaton = automaton_of c.args.first.now in
    let right' : Automaton = automaton_of c.args.second.now in
    let e = sym (counts c) ∙ union-roomy-counts (left') (right') c.args.letters (first-room _ _ c.requires.1) in
    (ap (λ (d : Counts). d.letters) e, omega (arith, ap (λ (d : Counts). d.states) e, (valid-lengths _ _ c.requires.0.first).1, (valid-lengths _ _ c.requires.0.second).1))

-- the counts are small
small : (c : goal.After-union_counts-c) → (c.union_counts-c.result.letters ≤ 64) × (c.union_counts-c.result.states ≤ 513)
small c = let m = many c in
    (omega (arith, m.0, c.requires.0.few, c.requires.1), omega (arith, m.1, (valid-ranges _ _ c.requires.0.first).states, (valid-ranges _ _ c.requires.0.second).states))

-- the answer is that for this automaton
answered : (c : goal.After-decide) →
    let left' : Automaton = automaton_of c.args.first.now in
    let right' : Automaton = automaton_of c.args.second.now in
    let joined' : Automaton = roomy c.args.letters (union (left') (right')) in
    let counts' : sizes (joined') ≡ c.union_counts-c.result = c.union_counts-c.ensures (left') (right') (valid-sizes _ _ c.requires.0.first) (valid-sizes _ _ c.requires.0.second) in
    let many' : (c.union_counts-c.result.letters ≡ c.args.letters) × (c.union_counts-c.result.states ≡ 1 + c.args.a.states + c.args.b.states) = let e = sym (counts') ∙ union-roomy-counts (left') (right') c.args.letters (first-room _ _ c.requires.1) in
    (ap (λ (d : Counts). d.letters) e, omega (arith, ap (λ (d : Counts). d.states) e, (valid-lengths _ _ c.requires.0.first).1, (valid-lengths _ _ c.requires.0.second).1)) in c.decide.result ≡ written_of (joined') (length c.args.out.now)
unfolding roomy
answered c = let left' : Automaton = automaton_of c.args.first.now in
    let right' : Automaton = automaton_of c.args.second.now in
    let joined' : Automaton = roomy c.args.letters (union (left') (right')) in
    let counts' : sizes (joined') ≡ c.union_counts-c.result = c.union_counts-c.ensures (left') (right') (valid-sizes _ _ c.requires.0.first) (valid-sizes _ _ c.requires.0.second) in
    let many' : (c.union_counts-c.result.letters ≡ c.args.letters) × (c.union_counts-c.result.states ≡ 1 + c.args.a.states + c.args.b.states) = let e = sym (counts') ∙ union-roomy-counts (left') (right') c.args.letters (first-room _ _ c.requires.1) in
    (ap (λ (d : Counts). d.letters) e, omega (arith, ap (λ (d : Counts). d.states) e, (valid-lengths _ _ c.requires.0.first).1, (valid-lengths _ _ c.requires.0.second).1)) in
    let m = many' in
    let size = 24 + c.union_counts-c.result.letters + c.union_counts-c.result.states + c.arcs_size.result + c.arcs_size-2.result in
    c.decide.ensures
    ∙ decided-written (joined') (length c.args.out.now) c.union_counts-c.result size (few-by_own union union-lists union-put c.requires.0 c.requires.1 union-ops) (counts')
    (omega (
      arith,
      union-length (left') (right') c.args.letters (first-room _ _ c.requires.1),
      m.0,
      m.1,
      (valid-lengths _ _ c.requires.0.first).1,
      (valid-lengths _ _ c.requires.0.second).1,
      c.arcs_size.ensures.0,
      c.arcs_size-2.ensures.0,
    ))

-- and that for the union over the letters of both
answered-over : (c : goal.After-decide) → c.decide.result ≡ written_of (join_of union c.args.first.now c.args.second.now) (length c.args.out.now)
answered-over c = answered c ∙ written-by_own union union-lists union-put c.requires.0 c.requires.1 (length c.args.out.now)

pub union_counts-c-requires : goal.union_counts-c-requires
union_counts-c-requires c = (valid-ranges _ _ c.requires.0.first, valid-ranges _ _ c.requires.0.second, omega (arith, (valid-lengths _ _ c.requires.0.first).0, first-room _ _ c.requires.1))

pub overflow_add-size : goal.overflow_add-size
overflow_add-size c = omega (arith, small (goal.at.overflow_add-size c).After-union_counts-c)

pub overflow_add-size-2 : goal.overflow_add-size-2
overflow_add-size-2 c = omega (arith, small (goal.at.overflow_add-size-2 c).After-union_counts-c)

pub overflow_add-size-3 : goal.overflow_add-size-3
overflow_add-size-3 c = omega (arith, small (goal.at.overflow_add-size-3 c).After-union_counts-c, c.arcs_size.ensures.1)

pub overflow_add-size-4 : goal.overflow_add-size-4
overflow_add-size-4 c = omega (arith, small (goal.at.overflow_add-size-4 c).After-union_counts-c, c.arcs_size.ensures.1, c.arcs_size-2.ensures.1)

pub returns-in_err-length : goal.returns-in_err-length
returns-in_err-length c = let p = err_from_is_err_and c.from_residual.result c.from_residual.ensures.1 in
    let e = p.1 ∙ ap Err p.2 in
    record { answer = e ∙ sym c.in_err-length.was ∙ answered-over (goal.at.returns-in_err-length c).After-decide; output = unchanged (bytes_of (roomy c.args.letters (union (automaton_of c.args.first.now) (automaton_of c.args.second.now)))) c.args.out.now _ e }

pub write_union-requires : goal.write_union-requires
write_union-requires c = let m = (many (goal.at.write_union-requires c).After-union_counts-c).0 in
    let w = written-bytes (join_of union c.args.first.now c.args.second.now) (length c.args.out.now) (sym (answered-over (goal.at.write_union-requires c).After-decide) ∙ c.in_ok-length.was) in (
      c.requires.0.first,
      c.requires.0.second,
      subst (λ (n : ℕ). sizes (roomy n (union (left (goal.at.write_union-requires c).Start) (right (goal.at.write_union-requires c).Start))) ≡ c.union_counts-c.result) (sym m) (counts (goal.at.write_union-requires c).After-union_counts-c),
      subst (λ (e : Counts). Ranges e) (counts (goal.at.write_union-requires c).After-union_counts-c) (ranges-by_own union union-lists union-put c.requires.0 c.requires.1 union-fits w.within),
      omega (arith, m, (valid-lengths _ _ c.requires.0.first).0, first-room _ _ c.requires.1),
      rw m (written-bytes (joined (goal.at.write_union-requires c).Start) (length c.args.out.now) (sym (answered (goal.at.write_union-requires c).After-decide) ∙ c.in_ok-length.was)).room,
    )

pub returns : goal.returns
returns c = let m = (many (goal.at.returns c).After-union_counts-c).0 in record { answer = sym c.in_ok-length.was ∙ answered-over (goal.at.returns c).After-decide; output = file-written (rw m at c.write_union.ensures) }
