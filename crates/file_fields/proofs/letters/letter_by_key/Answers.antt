use mathlib.Core.Path.{◌∙◌, ◌≡◌, ap, sym}
use mathlib.Core.Logic.{◌⊎◌, inl, inr, ⊎_elim}
use native.Mathlib.Decide.{dec_lt}
use Prim.Native.Nat.{ℕ, ◌+◌, ◌<◌}
use native.Mathlib.Omega.{arith}
use lib.ListN.{get_or}
use Rattle.automata.specs.Letters.{key}
use Rattle.automata.proofs.Laws.{letter-first, letter-nowhere}
use Rattle.file_fields.specs.Letters.{letter_told}
use Rattle.file_fields.proofs.letters.letter_by_key.Goals as goal

-- below the next place: before this one, or here
lt_or_eq : (k i : ℕ) → k < i + 1 → (k < i) ⊎ (k ≡ i)
lt_or_eq k i h = go (dec_lt k i)
  where
    go : Dec (k < i) → (k < i) ⊎ (k ≡ i)
    go (yes l) = inl l
    go (no l) = inr (omega arith)

pub loop-i-init : goal.loop-i-init
loop-i-init c = λ k h. absurd (omega arith)

pub returns-then-key_of-wanted : goal.returns-then-key_of-wanted
returns-then-key_of-wanted c = let e : key (get_or c.args.letters.now c.loop-i.i 0) ≡ key c.args.byte = sym c.key_of.ensures ∙ c.if-key_of-wanted.true ∙ c.key_of-wanted.ensures in
    sym (ap letter_told (letter-first c.args.letters.now c.args.byte c.loop-i.i (omega arith) e c.loop-i.invariant))

pub loop-i-preserved : goal.loop-i-preserved
loop-i-preserved c = let other : ¬ (key (get_or c.args.letters.now c.loop-i.i 0) ≡ key c.args.byte) = λ e. c.if-key_of-wanted.false (c.key_of.ensures ∙ e ∙ sym c.key_of-wanted.ensures) in
    (λ k h e. ⊎_elim (λ (below : k < c.loop-i.i). c.loop-i.invariant k below e) (λ (here : k ≡ c.loop-i.i). other (rw (← here) e)) (lt_or_eq k c.loop-i.i h))

pub returns : goal.returns
returns c = sym (ap letter_told (letter-nowhere c.args.letters.now c.args.byte (λ k h. c.loop-i.invariant k (omega arith))))
