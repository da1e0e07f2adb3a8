-- `join_intersection::product` meets its contract.
use mathlib.Core.Path.{◌≡◌, ◌∙◌, ap, ap₂, refl, subst, sym}
use Prim.Native.Nat.{ℕ, ◌+◌, ◌*◌, ◌≤◌}
use native.Mathlib.Omega.{arith}
use native.Mathlib.Nat.{mul-le-mul_left}
use lib.ListN.{length}
use Rattle.std.specs.Prelude.{Err}
use Rattle.std.proofs.lemmas.Result.{err_from_is_err_and}
use Rattle.automata.specs.Automaton.{Automaton}
use Rattle.automata.specs.Joins.{intersection}
use Rattle.relettering.specs.Relettering.{with_letters}
use Rattle.file_fields.specs.declared.Counts.{Counts}
use Rattle.format.specs.Decoding.{automaton_of}
use Rattle.format.specs.Encoding.{bytes_of, sizes}
use Rattle.format.specs.Limits.{Ranges}
use Rattle.file_laws.proofs.Laws.{bytes-length, valid-ranges, valid-sizes}
use Rattle.file_writing.proofs.Laws.{file-written}
use Rattle.join_parts.specs.Joining.{join_of, many_counts, written_of}
use Rattle.join_parts.specs.OwnNumbers.{by_first, roomy}
use Rattle.join_parts.proofs.Laws.{decided-written, first-room, unchanged, valid-lengths, written-bytes}
use Rattle.join_product_count.specs.ProductArcs.{Matchable, numbers_by, product_of, with_arcs}
use Rattle.join_intersection.proofs.IntersectionBytes.{intersection-counts}
use Rattle.join_intersection.proofs.IntersectionRoomy.{ranges-by_own, written-by_own}
use Rattle.join_intersection.proofs.ManyOps.{large_refused, many-refused, none-many}
use Rattle.join_intersection.proofs.product.Goals as goal
use Rattle.join_intersection.proofs.product.Goals.{After-decide, After-product_counts-c, Start}

-- the intersection by the first's numbers, the same with room for the letters of both, and that over these letters
abbrev own : goal.Start → Automaton
own s = product_of s.args.first.now s.args.others.now s.args.second.now

abbrev joined : goal.Start → Automaton
joined s = roomy s.args.letters (own s)

abbrev over : goal.Start → Automaton
over s = join_of intersection s.args.first.now s.args.second.now

files : (s : goal.Start) → Matchable s.args.a s.args.b s.args.first.now s.args.second.now s.args.others.now
files s = record { first = s.requires.0.first; second = s.requires.0.second; letters = s.requires.2 }

asked : (s : goal.Start) → Ranges s.args.a × Ranges s.args.b × (s.args.a.letters ≤ s.args.letters)
asked s = (valid-ranges _ _ s.requires.0.first, valid-ranges _ _ s.requires.0.second, omega (arith, first-room _ _ s.requires.1, (valid-lengths _ _ s.requires.0.first).0))

-- both have one answer
same_answer : (s : goal.Start) → written_of (joined s) (length s.args.out.now) ≡ written_of (over s) (length s.args.out.now)
same_answer s = written-by_own s.requires.0 s.requires.2 s.requires.1 (length s.args.out.now)

-- its counts, and that these are small
counts : (c : goal.After-product_counts-c) → sizes (roomy c.args.letters (product_of c.args.first.now c.args.others.now c.args.second.now)) ≡ c.product_counts-c.result
unfolding roomy
counts c =
    ap (λ (n : ℕ). with_arcs n (sizes (roomy c.args.letters (product_of c.args.first.now c.args.others.now c.args.second.now)))) (sym c.count_arcs-t.ensures.0.arcs)
    ∙ c.product_counts-c.ensures (automaton_of c.args.first.now) (automaton_of c.args.second.now) (numbers_by c.args.first.now c.args.others.now) (valid-sizes _ _ c.requires.0.first) (valid-sizes _ _ c.requires.0.second)

many : (c : goal.After-product_counts-c) → (c.product_counts-c.result.letters ≡ c.args.letters) × (c.product_counts-c.result.states ≡ c.args.a.states * c.args.b.states)
unfolding with_letters
many c = let e = sym (counts c) ∙ intersection-counts (automaton_of c.args.first.now) (by_first c.args.first.now c.args.others.now c.args.second.now) c.args.letters (first-room _ _ c.requires.1) in
    (ap (λ (d : Counts). d.letters) e, ap (λ (d : Counts). d.states) e ∙ ap₂ (λ (m n : ℕ). m * n) (valid-lengths _ _ c.requires.0.first).1 (valid-lengths _ _ c.requires.0.second).1)

small : (c : goal.After-product_counts-c) → (c.product_counts-c.result.letters ≤ 64) × (c.product_counts-c.result.states ≤ 65536) × (c.count_arcs-t.result.size ≤ 4565499904)
small c =
    let a = valid-ranges _ _ c.requires.0.first in
    let b = valid-ranges _ _ c.requires.0.second in
    (omega (arith, (many c).0, c.requires.0.few, c.requires.1), omega (arith, (many c).1, mul-le-mul_left c.args.a.states b.states, a.states), c.count_arcs-t.ensures.2)

-- the answer
answered : (c : goal.After-decide) → sizes (roomy c.args.letters (product_of c.args.first.now c.args.others.now c.args.second.now)) ≡ c.product_counts-c.result
    → c.decide.result ≡ written_of (join_of intersection c.args.first.now c.args.second.now) (length c.args.out.now)
unfolding roomy
answered c n =
    let z = roomy c.args.letters (product_of c.args.first.now c.args.others.now c.args.second.now) in
    c.decide.ensures
    ∙ decided-written z (length c.args.out.now) c.product_counts-c.result (12 + c.product_counts-c.result.letters + c.product_counts-c.result.states + c.count_arcs-t.result.size) (none-many z.arcs (sym c.count_arcs-t.ensures.0.many ∙ c.if-t.false)) n
    (omega (arith, bytes-length z, ap (λ (d : Counts). d.letters) n, ap (λ (d : Counts). d.states) n, c.count_arcs-t.ensures.0.size))
    ∙ written-by_own c.requires.0 c.requires.2 c.requires.1 (length c.args.out.now)

pub product_counts-requires : goal.product_counts-requires
product_counts-requires c = asked (goal.at.product_counts-requires c).Start

pub returns-then-is_beyond : goal.returns-then-is_beyond
returns-then-is_beyond c = let e = c.product_counts.ensures (automaton_of c.args.first.now) (automaton_of c.args.second.now) (numbers_by c.args.first.now c.args.others.now) (valid-sizes _ _ c.requires.0.first) (valid-sizes _ _ c.requires.0.second) in record { answer = ap Err c.of_call.ensures ∙ sym (large_refused (joined (goal.at.returns-then-is_beyond c).Start) (length c.args.out.now) (ap many_counts e ∙ sym c.is_beyond.ensures ∙ c.if-is_beyond.true)) ∙ same_answer (goal.at.returns-then-is_beyond c).Start; output = refl }

pub count_arcs-t-requires : goal.count_arcs-t-requires
count_arcs-t-requires c = files (goal.at.count_arcs-t-requires c).Start

pub returns-then-t : goal.returns-then-t
unfolding roomy
returns-then-t c = record { answer = ap Err c.of_call-then-t.ensures ∙ sym (many-refused (joined (goal.at.returns-then-t c).Start) (length c.args.out.now) (sym c.count_arcs-t.ensures.0.many ∙ c.if-t.true)) ∙ same_answer (goal.at.returns-then-t c).Start; output = refl }

pub product_counts-c-requires : goal.product_counts-c-requires
product_counts-c-requires c = asked (goal.at.product_counts-c-requires c).Start

pub overflow_add-size : goal.overflow_add-size
overflow_add-size c = omega (arith, small (goal.at.overflow_add-size c).After-product_counts-c)

pub overflow_add-size-2 : goal.overflow_add-size-2
overflow_add-size-2 c = omega (arith, small (goal.at.overflow_add-size-2 c).After-product_counts-c)

pub overflow_add-size-3 : goal.overflow_add-size-3
overflow_add-size-3 c = omega (arith, small (goal.at.overflow_add-size-3 c).After-product_counts-c)

pub returns-in_err-length : goal.returns-in_err-length
returns-in_err-length c = let p = err_from_is_err_and c.from_residual.result c.from_residual.ensures.1 in
    let e = p.1 ∙ ap Err p.2 in
    record { answer = e ∙ sym c.in_err-length.was ∙ answered (goal.at.returns-in_err-length c).After-decide (counts (goal.at.returns-in_err-length c).After-product_counts-c); output = unchanged (bytes_of (roomy c.args.letters (intersection (automaton_of c.args.first.now) (by_first c.args.first.now c.args.others.now c.args.second.now)))) c.args.out.now _ e }

pub write_product-requires : goal.write_product-requires
write_product-requires c = let space = length c.args.out.now in
    let told = sym (answered (goal.at.write_product-requires c).After-decide (counts (goal.at.write_product-requires c).After-product_counts-c)) ∙ c.in_ok-length.was in
    let e = (many (goal.at.write_product-requires c).After-product_counts-c).0 in
    let whole = written-bytes (joined (goal.at.write_product-requires c).Start) space (same_answer (goal.at.write_product-requires c).Start ∙ told) in (
      files (goal.at.write_product-requires c).Start,
      subst (λ (n : Counts). Ranges n) (counts (goal.at.write_product-requires c).After-product_counts-c) (ranges-by_own c.requires.0 c.requires.2 c.requires.1 (written-bytes (over (goal.at.write_product-requires c).Start) space told).within),
      omega (arith, (asked (goal.at.write_product-requires c).Start).2, e),
      subst (λ (n : ℕ). sizes (roomy n (own (goal.at.write_product-requires c).Start)) ≡ c.product_counts-c.result) (sym e) (counts (goal.at.write_product-requires c).After-product_counts-c),
      rw e whole.room,
    )

pub returns : goal.returns
returns c = record { answer = sym c.in_ok-length.was ∙ answered (goal.at.returns c).After-decide (counts (goal.at.returns c).After-product_counts-c); output = file-written (rw (many (goal.at.returns c).After-product_counts-c).0 at c.write_product.ensures) }
