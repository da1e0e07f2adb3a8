use mathlib.Core.Path.{◌∙◌, ◌≡◌, refl, sym}
use mathlib.Core.Logic.{◌⊎◌, inl, inr, ⊎_elim}
use mathlib.Core.Bool.{false}
use Prim.Native.Nat.{ℕ, ◌+◌, ◌<◌}
use native.Mathlib.Decide.{dec_lt}
use native.Mathlib.Omega.{arith}
use borrow.Author.Tests.{eq-eqb, le-ltb, lt-ltb, ne_eqb}
use lib.ListN.{get_or, length}
use Rattle.std.specs.List.{position, position_or_len}
use Rattle.std.proofs.Common.{Some, None}
use Rattle.std.proofs.lemmas.List.Sums.{position_or_len_is}
use Rattle.automata.specs.Letters.{key, same_key}
use Rattle.file_letters.proofs.numbering.place_of.Goals as goal

-- below the next place: before this one, or here
lt_or_eq : (k i : ℕ) → k < i + 1 → (k < i) ⊎ (k ≡ i)
lt_or_eq k i h = go (dec_lt k i)
  where
    go : Dec (k < i) → (k < i) ⊎ (k ≡ i)
    go (yes l) = inl l
    go (no l) = inr (omega arith)

pub loop-i-init : goal.loop-i-init
loop-i-init c = λ k h. absurd (omega arith)

pub returns-then-wanted-key_of : goal.returns-then-wanted-key_of
returns-then-wanted-key_of c =
    let e : key c.args.byte ≡ key (get_or c.args.letters.now c.loop-i.i 0) = sym c.key_of-wanted.ensures ∙ c.if-wanted-key_of.true ∙ c.key_of.ensures in
    let p = position_or_len_is (same_key c.args.byte) c.args.letters.now c.loop-i.i 0 (omega arith) c.loop-i.invariant (λ _. eq-eqb _ _ e) in
    rw (p, lt-ltb c.loop-i.i (length c.args.letters.now) (omega arith)) refl

pub loop-i-preserved : goal.loop-i-preserved
loop-i-preserved c = let other : ¬ (key c.args.byte ≡ key (get_or c.args.letters.now c.loop-i.i 0)) = λ e. c.if-wanted-key_of.false (c.key_of-wanted.ensures ∙ e ∙ sym c.key_of.ensures) in
    λ k h. ⊎_elim (λ (below : k < c.loop-i.i). c.loop-i.invariant k below) (λ (here : k ≡ c.loop-i.i). rw here (ne_eqb _ _ other)) (lt_or_eq k c.loop-i.i h)

pub returns : goal.returns
returns c =
    let p = position_or_len_is (same_key c.args.byte) c.args.letters.now (length c.args.letters.now) 0 (omega arith) (λ k h. c.loop-i.invariant k (omega arith)) (λ h. absurd (omega arith)) in
    rw (p, le-ltb (length c.args.letters.now) (length c.args.letters.now) (omega arith)) refl
