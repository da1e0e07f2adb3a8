-- WordLaws: a table of words and its chains, once a word more is written.
use mathlib.Core.Path.{◌≡◌, refl, sym, ap, ◌∙◌}
use mathlib.Core.List.{List}
use Prim.Native.Nat.{ℕ, ◌+◌, ◌/◌, ◌<◌}
use native.Mathlib.Omega.{arith}
use lib.ListN.{get_or, set}
use lib.Seq.{get_or-set_same, get_or-set_other}
use Rattle.word_fields.specs.Frame.{Kept, Beside}
use Rattle.word_fields.specs.Fields.{Apart}
use Rattle.word_fields.specs.Chains.{Chain, slot, WordChain, WordAt, Room}
use Rattle.word_fields.proofs.FrameLaws.{kept_then, kept-wider, kept_set, Beside-kept}
use Rattle.word_fields.proofs.ChainLaws.{chain-kept}

-- x is written as word n, and n pushed onto the chain of s, the key of x
module _ {w w' : List ℕ} {table heads nexts s : ℕ} (n x : ℕ) (r : Room w table heads nexts (n + 1)) (e : s ≡ slot x) (l : s < 509)
    (k : Beside (heads + s / 4) (nexts + n / 4) (set w (table + n) x) w')
    (f : (key : ℕ → ℕ) (slots : ℕ) → Chain key (set w (table + n) x) heads nexts slots n → Apart heads slots nexts (n + 1) → s < slots → key n ≡ s
    → Chain key w' heads nexts slots (n + 1)) where
  kept : Kept (table + n) (nexts + n / 4 + 1) w w'
  kept = kept_then (kept-wider (omega arith) (omega arith) (kept_set w (table + n) x)) (Beside-kept (omega arith) (omega arith) (omega arith) (omega arith) k)

  -- the push leaves the words of the table
  same : (j : ℕ) → j < n + 1 → get_or w' (table + j) 0 ≡ get_or (set w (table + n) x) (table + j) 0
  same j h = k.rest (table + j) (λ p. omega arith) (λ p. omega arith)

  there : get_or (set w (table + n) x) (table + n) 0 ≡ x
  there = get_or-set_same w (table + n) x 0 (omega arith)

  -- the word leaves the chains
  before : WordChain w table heads nexts n → WordChain (set w (table + n) x) table heads nexts n
  before c =
      chain-kept (λ j h. ap slot (sym (get_or-set_other w (table + n) (table + j) x 0 (λ p. omega arith))))
      (λ t h. get_or-set_other w (table + n) (heads + t / 4) x 0 (λ p. omega arith)) (λ j h. get_or-set_other w (table + n) (nexts + j / 4) x 0 (λ p. omega arith)) c

  pub added : Kept (table + n) (nexts + n / 4 + 1) w w' × (WordAt w' table x n × (WordChain w table heads nexts n → WordChain w' table heads nexts (n + 1)))
  added = (
    kept,
    (
      same n (omega arith) ∙ there,
      λ c. chain-kept (λ j h. ap slot (sym (same j h))) (λ t h. refl) (λ j h. refl)
          (f (λ i. slot (get_or (set w (table + n) x) (table + i) 0)) 509 (before c) (λ i j h g p. omega arith) l (ap slot there ∙ sym e)),
    ),
  )
