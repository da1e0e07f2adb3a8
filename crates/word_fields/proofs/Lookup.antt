-- Lookup: walking along a chain, and looking for an entry along the chain of its key. For any keys and any entries.
use mathlib.Core.Path.{◌≡◌, refl, ap, ◌∙◌, subst}
use mathlib.Core.Logic.{◌≢◌, ◌⊎◌, inl, inr, ⊎_elim}
use mathlib.Core.Bool.{cond}
use mathlib.Core.List.{List, [], ◌∷◌}
use Prim.Native.Nat.{ℕ, zero, suc, ◌+◌, ◌%◌, ◌≤◌, ◌<◌}
use native.Mathlib.Decide.{ℕ_discrete, dec_lt}
use native.Mathlib.Omega.{arith}
use borrow.Author.Tests.{eq-eqb, ne_eqb}
use lib.Dec.{eqb}
use Rattle.word_fields.specs.Fields.{field}
use Rattle.word_fields.specs.Chains.{no_entry, last, Chain, Found}
use Rattle.word_fields.proofs.ChainLaws.{last_of, last-is}

-- ---- walking

-- g is an entry of the chain of s, the last one below b; the field of its next says how to go on
pub record OnChain (key : ℕ → ℕ) (w : List ℕ) (nexts s b g : ℕ) : Type 0 where
  pub below : g < b
  pub keyed : key g ≡ s
  pub onward : field w nexts g ≡ last key s g
  pub none : (i : ℕ) → g < i → i < b → key i ≢ s

pub on_chain : {key : ℕ → ℕ} {w : List ℕ} {heads nexts slots n : ℕ} → Chain key w heads nexts slots n → n ≤ no_entry
    → (s : ℕ) {b g : ℕ} → b ≤ n → g ≡ last key s b → g < n → OnChain key w nexts s b g
on_chain {key} {w} {heads} {nexts} {slots} {n} c f s {b} {g} l e h = go (last-is key s b)
  where
    go : (last key s b ≡ no_entry) ⊎ ((last key s b < b) × (key (last key s b) ≡ s)) → OnChain key w nexts s b g
    go (inl q) = absurd (omega arith)
    go (inr p) =
        let mine : key g ≡ s = ap key e ∙ p.1 in
        record { below = omega arith; keyed = mine; onward = c.next g h ∙ ap (λ (x : ℕ). last key x g) mine; none = λ i m k q. let r = last_of key s b i k q in omega arith }

-- the chain of s is at its end: no entry below b has the key
pub off_chain : (key : ℕ → ℕ) (s : ℕ) {b n g : ℕ} → b ≤ n → g ≡ last key s b → n ≤ g → (i : ℕ) → i < b → key i ≢ s
off_chain key s {b} l e h i k q = let r = last_of key s b i k q in omega arith

-- the entries below n with the key s, the last first: what a walk along the chain of s sees
unfoldable pub chosen : (ℕ → ℕ) → ℕ → ℕ → List ℕ
chosen key s zero = []
chosen key s (suc n) = cond (eqb (key n) s) (n ∷ chosen key s n) (chosen key s n)

pub chosen_on : (key : ℕ → ℕ) (s b g : ℕ) → g < b → key g ≡ s → ((i : ℕ) → g < i → i < b → key i ≢ s) → chosen key s b ≡ g ∷ chosen key s g
unfolding chosen
chosen_on key s zero g h e f = absurd (omega arith)
chosen_on key s (suc b) g h e f = go (ℕ_discrete g b) (λ l. chosen_on key s b g l e (λ i m k. f i m (omega arith)))
  where
    go : Dec (g ≡ b) → (g < b → chosen key s b ≡ g ∷ chosen key s g) → cond (eqb (key b) s) (b ∷ chosen key s b) (chosen key s b) ≡ g ∷ chosen key s g
    go (yes p) ih = rw (← p, eq-eqb (key g) s e)
    go (no p) ih = rw (ne_eqb (key b) s (f b (omega arith) (omega arith))) (ih (omega arith))

pub chosen-off : (key : ℕ → ℕ) (s b : ℕ) → ((i : ℕ) → i < b → key i ≢ s) → chosen key s b ≡ []
unfolding chosen
chosen-off key s zero f = refl
chosen-off key s (suc b) f = rw (ne_eqb (key b) s (f b (omega arith))) (chosen-off key s b (λ i h. f i (omega arith)))

-- ---- looking for a hit

-- no entry from `upto` on is a hit, and g is the last one before it with the key s
pub record Looked (key : ℕ → ℕ) (s : ℕ) (Hit : ℕ → Type 0) (n g : ℕ) : Type 0 where
  pub upto : ℕ
  pub few : upto ≤ n
  pub here : g ≡ last key s upto
  pub gone : (i : ℕ) → upto ≤ i → i < n → ¬ Hit i

pub found-hit : {Hit : ℕ → Type 0} {n g : ℕ} → g < n → Hit g → Found Hit n g
found-hit h d = record { few = omega arith; hit = λ l. d; miss = λ p. absurd (omega arith) }

pub found-none : {Hit : ℕ → Type 0} {n : ℕ} → ((i : ℕ) → i < n → ¬ Hit i) → Found Hit n n
found-none f = record { few = omega arith; hit = λ l. absurd (omega arith); miss = λ p. f }

-- all that is asked of what is looked for: it has the key
module _ {key : ℕ → ℕ} {w : List ℕ} {heads nexts slots n s : ℕ} {Hit : ℕ → Type 0} (c : Chain key w heads nexts slots n) (f : n ≤ no_entry) (same : (i : ℕ) → Hit i → key i ≡ s) where
  pub Looked-start : {g : ℕ} → s < slots → g ≡ field w heads s → Looked key s Hit n g
  Looked-start h e = record { upto = n; few = omega arith; here = e ∙ c.head s h; gone = λ i l m. absurd (omega arith) }

  -- g is no hit: on to its next, which is before g or none, so a loop ends by the measure (g + 1) % 65536
  pub Looked-more : {g g' : ℕ} → g < n → ¬ Hit g → g' ≡ field w nexts g → Looked key s Hit n g → Looked key s Hit n g' × ((g' + 1) % 65536 < (g + 1) % 65536)
  Looked-more {g} {g'} h q e k =
      let o = on_chain c f s k.few k.here h in (
        record { upto = g; few = omega arith; here = e ∙ o.onward; gone = λ i l m. gone o i l m (ℕ_discrete i g) (dec_lt i k.upto) },
        ⊎_elim (λ d. omega (arith, e, o.onward, d)) (λ r. omega (arith, e, o.onward, r.0)) (last-is key s g),
      )
    where
      gone : OnChain key w nexts s k.upto g → (i : ℕ) → g ≤ i → i < n → Dec (i ≡ g) → Dec (i < k.upto) → ¬ Hit i
      gone o i l m (yes u) v d = q (subst Hit u d)
      gone o i l m (no u) (yes v) d = o.none i (omega arith) v (same i d)
      gone o i l m (no u) (no v) d = k.gone i (omega arith) m d

  -- at the end of the chain there is no hit
  pub Looked-none : {g : ℕ} → n ≤ g → Looked key s Hit n g → (i : ℕ) → i < n → ¬ Hit i
  Looked-none {g} h k i l = go (dec_lt i k.upto)
    where
      go : Dec (i < k.upto) → ¬ Hit i
      go (yes v) d = off_chain key s k.few k.here h i v (same i d)
      go (no v) d = k.gone i (omega arith) l d

  pub Looked-end : {g : ℕ} → n ≤ g → Looked key s Hit n g → Found Hit n n
  Looked-end h k = found-none (Looked-none h k)
