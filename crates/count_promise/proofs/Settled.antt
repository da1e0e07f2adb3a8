-- Settled: what is promised of counting leaves nothing open. Two answers to one call, as they are told, that both keep the promise are one.
use mathlib.Core.Path.{◌∙◌, ◌≡◌, refl, sym}
use mathlib.Core.List.{List}
use Prim.Native.Nat.{ℕ}
use native.Mathlib.Decide.{ℕ_discrete}
use Rattle.automata.proofs.Laws.{counting-unique}
use Rattle.count_promise.specs.Promised.{Promised}
use Rattle.count_promise.specs.WordCounts.{Told}

-- NOTHING IS OPEN: one answer keeps the promise.
pub counting-settled : (file : List ℕ) (size words : ℕ) (t u : Told) → Promised file size words t → Promised file size words u → t ≡ u
counting-settled file size words t u p q = λ i. record { number = number i; at_fault = at_fault i; accepted = both.0 i; rejected = both.1 i }
  where
    refusal : (u.number ≡ t.number) × (u.at_fault ≡ t.at_fault)
    refusal = (q.refuses t.number t.at_fault).1 ((p.refuses t.number t.at_fault).0 (refl, refl))

    number : t.number ≡ u.number
    number = sym refusal.0

    at_fault : t.at_fault ≡ u.at_fault
    at_fault = sym refusal.1

    both : (t.accepted ≡ u.accepted) × (t.rejected ≡ u.rejected)
    both = go (ℕ_discrete t.number 0)
      where
        go : Dec (t.number ≡ 0) → (t.accepted ≡ u.accepted) × (t.rejected ≡ u.rejected)
        go (yes z) = let h = p.answers.0 z in (counting-unique (p.accepted h) (q.accepted h), counting-unique (p.rejected h) (q.rejected h))
        go (no z) =
            let a = p.none_told z in
            let b = q.none_told (λ e. z (number ∙ e)) in
            (a.0 ∙ sym b.0, a.1 ∙ sym b.1)
