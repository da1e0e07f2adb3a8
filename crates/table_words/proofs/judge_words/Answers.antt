use mathlib.Core.Path.{◌∙◌, ◌≡◌, ap, refl, subst, sym}
use mathlib.Core.List.{List}
use Prim.Native.Nat.{◌+◌, ◌^◌, ◌-◌, ◌<◌, ◌≤◌, ℕ}
use native.Mathlib.Omega.{arith}
use lib.ListN.{drop, length, length-drop, take}
use Rattle.automata.specs.Unfolding.{configurations}
use Rattle.format.specs.Decoding.{automaton_of}
use Rattle.std.specs.Prelude.{Ok}
use Rattle.table.specs.declared.Membership.{Membership}
use Rattle.table_words.specs.Words.{before, packed}
use Rattle.table_words.proofs.FewLive.{packed-fits}
use Rattle.table_words.proofs.SoFar.{so_far-all, so_far-answered, so_far_more, so_far-none}
use Rattle.table_words.proofs.WordLaws.{before-le, words-full, words-none}
use Rattle.table_words.proofs.judge_words.Goals as goal

pub loop-n-init : goal.loop-n-init
loop-n-init c = record { ready = c.requires; long = refl; so_far = so_far-none (automaton_of c.args.file.now) c.args.bytes.now c.args.separator c.args.answers.now }

pub word_end-end-requires : goal.word_end-end-requires
word_end-end-requires c = c.loop-n.invariant.so_far.inside

-- where the word ends
inside : (separator : ℕ) (bytes : List ℕ) (from end : ℕ) → end ≡ from + before separator (drop from bytes) → from ≤ length bytes → (from ≤ end) × (end ≤ length bytes)
inside separator bytes from end e h =
    let b = before-le separator (drop from bytes) in
    (omega arith, omega (arith, b, length-drop from bytes))

-- no word ends any more
pub returns-then-end-bytes : goal.returns-then-end-bytes
returns-then-end-bytes c =
    let a = c.args in
    let h = c.loop-n.invariant.so_far in
    let none = words-none a.separator a.bytes.now c.loop-n.from c.word_end-end.result c.word_end-end.ensures (length a.answers.now - c.loop-n.n) (omega (arith, c.if-end-bytes.true)) h.inside in
    record { same = c.loop-n.invariant.long; answer = so_far-all (automaton_of a.file.now) a.bytes.now a.separator a.answers.now h none; answers = so_far-answered (automaton_of a.file.now) a.bytes.now a.separator a.answers.now h none }

pub slice_bounds-judge-end : goal.slice_bounds-judge-end
slice_bounds-judge-end c = (inside _ _ _ _ c.word_end-end.ensures c.loop-n.invariant.so_far.inside).1

pub judge-requires : goal.judge-requires
judge-requires c = c.loop-n.invariant.ready

-- the answer fits into one word, since its automaton has at most 256 configurations
pub pack-requires : goal.pack-requires
pack-requires c =
    let b = c.loop-n.invariant.ready.built in
    let few : length (configurations (automaton_of c.args.file.now) 256) ≤ 256 = omega (arith, b.many, b.ended) in
    subst (λ (r : Membership). packed (Ok r) < 2 ^ 64) (sym c.judge.ensures.answer) (packed-fits (automaton_of c.args.file.now) few (take (c.word_end-end.result - c.loop-n.from) (drop c.loop-n.from c.args.bytes.now)))

pub overflow_add-from : goal.overflow_add-from
overflow_add-from c =
    let i = inside _ _ _ _ c.word_end-end.ensures c.loop-n.invariant.so_far.inside in
    omega arith

-- the next word
pub loop-n-preserved : goal.loop-n-preserved
loop-n-preserved c =
    let a = c.args in
    let h = c.loop-n.invariant.so_far in
    let i = inside _ _ _ _ c.word_end-end.ensures h.inside in
    record {
      ready = c.judge.ensures.ready;
      long = c.judge.ensures.kept.long ∙ c.loop-n.invariant.long;
      so_far = so_far_more (automaton_of a.file.now) a.bytes.now a.separator a.answers.now h c.word_end-end.result c.pack.result
          (omega (arith, h.long, c.loop-n-test.true)) c.word_end-end.ensures (omega (arith, i.1, c.if-end-bytes.false)) (c.pack.ensures ∙ ap (λ (r : Membership). packed (Ok r)) c.judge.ensures.answer);
    }

-- there is no room for another answer
pub returns : goal.returns
returns c =
    let a = c.args in
    let h = c.loop-n.invariant.so_far in
    let none = words-full a.separator (length a.answers.now) c.loop-n.n (drop c.loop-n.from a.bytes.now) (omega (arith, h.long, c.loop-n-test.false)) in
    let all : c.loop-n.n ≡ length c.loop-n.answers = omega arith in
    rw (← all) (record { same = c.loop-n.invariant.long; answer = so_far-all (automaton_of a.file.now) a.bytes.now a.separator a.answers.now h none; answers = so_far-answered (automaton_of a.file.now) a.bytes.now a.separator a.answers.now h none })
