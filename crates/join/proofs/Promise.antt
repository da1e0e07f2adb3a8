-- Promise: what the joining calls promise of the bytes (demand 2, and the exact condition of each refusal): see specs/Promises.antt.
-- The answer r and the output are those of the calls' contracts (src/lib.rt); whatever the join, the proof is two-joined (Outcomes).
use mathlib.Core.Logic.{◌↔◌, inl, inr, ⊎_elim}
use mathlib.Core.List.{List}
use Prim.Native.Nat.{ℕ}
use lib.ListN.{length}
use Rattle.automata.specs.Joins.{closure, concatenation, intersection, union}
use Rattle.automata.specs.Languages.{Concatenation, Intersection, Union}
use Rattle.automata.proofs.Laws.{concatenating, intersecting, uniting}
use Rattle.format.specs.Decoding.{automaton_of}
use Rattle.format.specs.Encoding.{bytes_of}
use Rattle.file_writing.specs.Answers.{output_of, told}
use Rattle.join_parts.specs.Joining.{closed_of, join_of, joined_of}
use Rattle.join_union.proofs.Laws.{union-fits, union-lists}
use Rattle.join_concatenation.proofs.Laws.{concatenation-fits, concatenation-lists}
use Rattle.join_intersection.proofs.Laws.{intersection-fits, intersection-lists}
use Rattle.join.specs.Promises.{ClosurePromised, JoinPromised}
use Rattle.join.proofs.Outcomes.{one-closed, two-joined}

-- their words are told by which words the two have
module _ (P Q P' Q' : List ℕ → Type 0) (f : (w : List ℕ) → P w ↔ P' w) (g : (w : List ℕ) → Q w ↔ Q' w) (w : List ℕ) where
  either_same : Union P Q w ↔ Union P' Q' w
  either_same = (⊎_elim (λ p. inl ((f w).0 p)) (λ q. inr ((g w).0 q)), ⊎_elim (λ p. inl ((f w).1 p)) (λ q. inr ((g w).1 q)))

  both-same : Intersection P Q w ↔ Intersection P' Q' w
  both-same = (λ h. ((f w).0 h.0, (g w).0 h.1), λ h. ((f w).1 h.0, (g w).1 h.1))

  split-same : Concatenation P Q w ↔ Concatenation P' Q' w
  split-same = (
    λ h. record { left = h.left; right = h.right; whole = h.whole; first = (f h.left).0 h.first; second = (g h.right).0 h.second },
    λ h. record { left = h.left; right = h.right; whole = h.whole; first = (f h.left).1 h.first; second = (g h.right).1 h.second },
  )

module _ (first second old : List ℕ) where
  -- THE PROMISE of union: the words of either
  pub union-promised : let r = joined_of union first second (length old) in JoinPromised union Union first second old (output_of r (bytes_of (join_of union first second)) old) (told r)
  union-promised = two-joined union Union union-fits union-lists uniting either_same first second old

  -- THE PROMISE of concatenation: a word of the first and then a word of the second
  pub concatenation-promised : let r = joined_of concatenation first second (length old) in
      JoinPromised concatenation Concatenation first second old (output_of r (bytes_of (join_of concatenation first second)) old) (told r)
  concatenation-promised = two-joined concatenation Concatenation concatenation-fits concatenation-lists concatenating split-same first second old

  -- THE PROMISE of intersection: the words of both
  pub intersection-promised : let r = joined_of intersection first second (length old) in
      JoinPromised intersection Intersection first second old (output_of r (bytes_of (join_of intersection first second)) old) (told r)
  intersection-promised = two-joined intersection Intersection intersection-fits intersection-lists intersecting both-same first second old

-- THE PROMISE of closure: the finite sequences of words, none at all included
pub closure-promised : (file old : List ℕ) → let r = closed_of file (length old) in ClosurePromised file old (output_of r (bytes_of (closure (automaton_of file))) old) (told r)
closure-promised file old = one-closed file old
