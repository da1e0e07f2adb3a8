use mathlib.Core.Path.{◌≡◌, subst, sym}
use mathlib.Core.List.{List}
use mathlib.Core.Option.{none, some}
use Prim.Native.Nat.{ℕ, ◌+◌, ◌<◌, ◌≤◌}
use native.Mathlib.Decide.{dec_lt}
use native.Mathlib.Omega.{arith}
use lib.Dec.{T}
use lib.ListN.{length}
use Rattle.automata.specs.Counting.{Apart}
use Rattle.automata.specs.Letters.{keys}
use Rattle.automata.specs.Words.{letter_with}
use Rattle.automata.proofs.Laws.{letter-lt}
use Rattle.table_live.specs.Steps.{LetterNumbers}
use Rattle.table_live.proofs.WalkWord.{walking-end, walking-foreign, walking-more, walking-nothing, walking_start}
use Rattle.table_live.proofs.walk_listed.Invariants.{Leads}
use Rattle.table_live.proofs.walk_listed.Goals as goal
use Rattle.table_live.proofs.walk_listed.Goals.{After-follow-next}

-- the byte's number, of a list whose letters have theirs
module _ (w : List ℕ) (byte r letters : ℕ)
    (told : (alphabet : List ℕ) → LetterNumbers alphabet w → Apart (keys alphabet) → length alphabet ≤ 64 → r < 64 → letter_with alphabet byte ≡ some r)
    (alphabet : List ℕ) (numbers : LetterNumbers alphabet w) (apart : Apart (keys alphabet)) (many : length alphabet ≡ letters) (small : letters ≤ 64) where
  letter : r < letters → letter_with alphabet byte ≡ some r
  letter h = told alphabet numbers apart (omega arith) (omega arith)

  -- a number from that of the letters on is that of none
  foreign : ((alphabet : List ℕ) → LetterNumbers alphabet w → Apart (keys alphabet) → length alphabet ≤ 64 → 64 ≤ r → letter_with alphabet byte ≡ none) → letters ≤ r → letter_with alphabet byte ≡ none
  foreign lacks h = go (dec_lt r 64)
    where
      go : Dec (r < 64) → letter_with alphabet byte ≡ none
      go (yes u) = absurd (omega (arith, letter-lt _ _ _ (told alphabet numbers apart (omega arith) u)))
      go (no u) = lacks alphabet numbers apart (omega arith) (omega arith)

pub loop-byte-init : goal.loop-byte-init
loop-byte-init c = (omega arith, λ alphabet arcs numbers apart many held closed. walking_start closed)

pub letter_of-l-requires : goal.letter_of-l-requires
letter_of-l-requires c = c.requires.room

pub returns-then-letters-l : goal.returns-then-letters-l
returns-then-letters-l c alphabet arcs numbers apart many held closed = walking-foreign (c.loop-byte.invariant.1 alphabet arcs numbers apart many held closed) c.loop-byte-test.true (foreign _ _ _ _ c.letter_of-l.ensures.letter alphabet numbers apart many c.requires.small c.letter_of-l.ensures.none c.if-letters-l.true)

-- ---- a step
pub follow-next-requires : goal.follow-next-requires
follow-next-requires c = (c.requires, c.if-letters-l.false)

stepped : (f : goal.After-follow-next) → Leads f.args.word.now f.args.w.now f.args.block f.args.letters f.args.from f.follow-next.result (f.loop-byte.byte-index + 1)
stepped f alphabet arcs numbers apart many held closed = let v = f.loop-byte.invariant.1 alphabet arcs numbers apart many held closed in
    walking-more v f.loop-byte-test.true (letter _ _ _ _ f.letter_of-l.ensures.letter alphabet numbers apart many f.requires.small f.if-letters-l.false) (f.follow-next.ensures arcs held v.closed)

pub returns-then-is_empty : goal.returns-then-is_empty
returns-then-is_empty c alphabet arcs numbers apart many held closed = walking-nothing (stepped (goal.at.returns-then-is_empty c).After-follow-next alphabet arcs numbers apart many held closed) (c.is_empty.ensures.0 (subst T (sym c.if-is_empty.true) tt))

pub loop-byte-preserved : goal.loop-byte-preserved
loop-byte-preserved c = (omega (arith, c.loop-byte-test.true), stepped (goal.at.loop-byte-preserved c).After-follow-next)

pub returns : goal.returns
returns c alphabet arcs numbers apart many held closed = walking-end (c.loop-byte.invariant.1 alphabet arcs numbers apart many held closed) c.loop-byte-test.false
