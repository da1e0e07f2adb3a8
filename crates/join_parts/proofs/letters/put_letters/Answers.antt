-- `join_parts::letters::put_letters` meets its contract: the lists lent are the letters of both files and the new numbers of each file's.
use mathlib.Core.Path.{◌∙◌, ◌≡◌, ap, sym}
use mathlib.Core.Bool.{Bool, cond}
use mathlib.Core.List.{List, ◌++◌}
use Prim.Native.Nat.{◌+◌, ◌-◌, ◌≤◌, ℕ}
use native.Mathlib.Omega.{arith}
use lib.ListN.{length, length-take, take}
use Rattle.automata.specs.Automaton.{Automaton}
use Rattle.automata.specs.Words.{places}
use Rattle.file_fields.specs.declared.Counts.{Counts}
use Rattle.std.specs.Prelude.{Ok}
use Rattle.format.specs.Reading.{reading_of}
use Rattle.file_fields.specs.Parts.{counts_of}
use Rattle.format.specs.Decoding.{automaton_of}
use Rattle.format.specs.Encoding.{bytes_of, sizes}
use Rattle.file_laws.proofs.Laws.{valid-letters, valid-sizes}
use Rattle.file_pair.specs.Pair.{letters_of}
use Rattle.join_parts.specs.OwnNumbers.{Standing, last_arcs, letters_put, roomy}
use Rattle.join_parts.proofs.InPlace.{Put, all-put, counts-there, first-put, letters-room, second-put}
use Rattle.join_parts.proofs.letters.put_letters.Goals as goal
use Rattle.join_parts.proofs.letters.put_letters.Goals.{After-letter_files-l}

-- ---- the lists lent: the new numbers of the first file's letters and of the second's, and the letters of both
record Lent (first second one two all : List ℕ) : Type 0 where
  firsts : one ≡ places (letters_of first second) (automaton_of first).alphabet
  seconds : two ≡ places (letters_of first second) (automaton_of second).alphabet
  both : all ≡ letters_of first second
  few₁ : length one ≤ 64
  few₂ : length two ≤ 64

-- a part that is lent from the first place on
whole-part : (n : ℕ) → n - 0 ≡ n
whole-part n = omega arith

lent : (l : goal.After-letter_files-l) → Lent l.args.first.now l.args.second.now (take (l.read_counts-a.result.letters - 0) l.letter_files-l.result.first) (take (l.read_counts-b.result.letters - 0) l.letter_files-l.result.second) (take (l.letter_files-l.result.count - 0) l.letter_files-l.result.letters)
lent l =
    let e = l.letter_files-l.ensures in
    record {
      firsts = rw (whole-part l.read_counts-a.result.letters) e.numbers.0;
      seconds = rw (whole-part l.read_counts-b.result.letters) e.numbers.1;
      both = rw (whole-part l.letter_files-l.result.count) e.all;
      few₁ = simp length-take (omega (arith, e.arrays.1));
      few₂ = simp length-take (omega (arith, e.arrays.2));
    }

-- each file has at most 64 letters, as many as the arrays have places
few : (file : List ℕ) {c : Counts} → c ≡ counts_of file → reading_of file ≡ Ok (counts_of file) → c.letters ≤ 64
few file e v = rw e (valid-letters file (counts_of file) v).0

-- ---- the file that stands in the output, that of z with room for n letters
-- its counts
counts : (n : ℕ) (z : Automaton) (behind : List ℕ) {out : List ℕ} {c : Counts} → c ≡ counts_of out → out ≡ bytes_of (roomy n z) ++ behind → c ≡ sizes (roomy n z)
counts n z behind e h = e ∙ ap counts_of h ∙ counts-there (roomy n z) behind

-- as many of its arcs as the second file has
last : (of_second : Bool) (second : List ℕ) {b : Counts} {k : ℕ} → b ≡ counts_of second → reading_of second ≡ Ok (counts_of second) → k ≡ cond of_second b.arcs 0 → k ≡ last_arcs of_second second
last of_second second e v f =
    f ∙ ap (λ (m : ℕ). cond of_second m 0) (ap (λ (d : Counts). d.arcs) (e ∙ sym (valid-sizes second (counts_of second) v)))

-- the letters and the new numbers are for z
ready : (first second : List ℕ) (of_second : Bool) {one two all : List ℕ} {k : ℕ} (z : Automaton) → Lent first second one two all → length z.alphabet ≤ length (letters_of first second) → last_arcs of_second second ≤ length z.arcs → k ≡ last_arcs of_second second
    → Put k (length (letters_of first second)) one two all z
ready first second of_second z h room arcs e = record { many = ap length h.both; few₁ = h.few₁; few₂ = h.few₂; room = room; last = rw e arcs }

-- there is room for the letters of both
space : (first second : List ℕ) {of_second : Bool} {out : List ℕ} → Standing first second of_second out → 12 + length (letters_of first second) ≤ length out
space first second h = rw h.bytes (letters-room (length (letters_of first second)) h.joined h.behind h.letters)

-- ---- the needs
pub read_counts-a-requires : goal.read_counts-a-requires
read_counts-a-requires c = omega (arith, (valid-letters _ _ c.requires.0.first).1)

pub read_counts-b-requires : goal.read_counts-b-requires
read_counts-b-requires c = omega (arith, (valid-letters _ _ c.requires.0.second).1)

pub read_counts-c-requires : goal.read_counts-c-requires
read_counts-c-requires c = omega (arith, space c.args.first.now c.args.second.now c.requires.1)

pub letter_files-l-requires : goal.letter_files-l-requires
letter_files-l-requires c = rw (c.read_counts-a.ensures, c.read_counts-b.ensures) c.requires.0

pub write_copy-requires : goal.write_copy-requires
write_copy-requires c = omega (arith, ap length (lent (goal.at.write_copy-requires c).After-letter_files-l).both, space c.args.first.now c.args.second.now c.requires.1)

pub first_arc-requires : goal.first_arc-requires
first_arc-requires c =
    let h = c.requires.1 in
    rw (counts (length (letters_of c.args.first.now c.args.second.now)) h.joined h.behind c.read_counts-c.ensures h.bytes) (h.ranges.letters, h.ranges.states)

pub overflow_sub-c : goal.overflow_sub-c
unfolding roomy
overflow_sub-c c =
    let h = c.requires.1 in
    omega (arith, ap (λ (d : Counts). d.arcs) (counts (length (letters_of c.args.first.now c.args.second.now)) h.joined h.behind c.read_counts-c.ensures h.bytes), last c.args.of_second c.args.second.now c.read_counts-b.ensures c.requires.0.second c.last_arcs-last.ensures, h.arcs)

pub slice_bounds-reletter_arcs-end : goal.slice_bounds-reletter_arcs-end
slice_bounds-reletter_arcs-end c = omega (arith, few c.args.first.now c.read_counts-a.ensures c.requires.0.first, c.letter_files-l.ensures.arrays.1)

pub reletter_arcs-middle-requires : goal.reletter_arcs-middle-requires
reletter_arcs-middle-requires c =
    let h = c.requires.1 in
    let n = length (letters_of c.args.first.now c.args.second.now) in
    let k = last c.args.of_second c.args.second.now c.read_counts-b.ensures c.requires.0.second c.last_arcs-last.ensures in
    let p = ready c.args.first.now c.args.second.now c.args.of_second h.joined (lent (goal.at.reletter_arcs-middle-requires c).After-letter_files-l) h.letters h.arcs k in
    (first-put p h.behind c.read_counts-c.result h.bytes c.write_copy.ensures (counts n h.joined h.behind c.read_counts-c.ensures h.bytes) c.first_arc.ensures).room

pub slice_bounds-reletter_arcs-end-2 : goal.slice_bounds-reletter_arcs-end-2
slice_bounds-reletter_arcs-end-2 c = omega (arith, few c.args.second.now c.read_counts-b.ensures c.requires.0.second, c.letter_files-l.ensures.arrays.2)

pub reletter_arcs-requires : goal.reletter_arcs-requires
reletter_arcs-requires c =
    let h = c.requires.1 in
    let n = length (letters_of c.args.first.now c.args.second.now) in
    let k = last c.args.of_second c.args.second.now c.read_counts-b.ensures c.requires.0.second c.last_arcs-last.ensures in
    let p = ready c.args.first.now c.args.second.now c.args.of_second h.joined (lent (goal.at.reletter_arcs-requires c).After-letter_files-l) h.letters h.arcs k in
    let first-done = first-put p h.behind c.read_counts-c.result h.bytes c.write_copy.ensures (counts n h.joined h.behind c.read_counts-c.ensures h.bytes) c.first_arc.ensures in
    (second-put p h.behind first-done c.reletter_arcs-middle.ensures.place c.reletter_arcs-middle.ensures.output).room

pub returns : goal.returns
returns c z behind e room arcs =
    let n = length (letters_of c.args.first.now c.args.second.now) in
    let k = last c.args.of_second c.args.second.now c.read_counts-b.ensures c.requires.0.second c.last_arcs-last.ensures in
    let l = lent (goal.at.returns c).After-letter_files-l in
    let p = ready c.args.first.now c.args.second.now c.args.of_second z l room arcs k in
    let first-done = first-put p behind c.read_counts-c.result e c.write_copy.ensures (counts n z behind c.read_counts-c.ensures e) c.first_arc.ensures in
    all-put p behind (second-put p behind first-done c.reletter_arcs-middle.ensures.place c.reletter_arcs-middle.ensures.output) c.reletter_arcs.ensures.output ∙ (λ i. bytes_of (letters_put (k i) (l.firsts i) (l.seconds i) (l.both i) z) ++ behind)
