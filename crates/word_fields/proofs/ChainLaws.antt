-- ChainLaws: laws of chains, for any keys: how they start, what keeps them, and how an entry joins them.
use mathlib.Core.Path.{◌≡◌, refl, sym, ap, ap₂, ◌∙◌}
use mathlib.Core.Logic.{◌≢◌, ◌⊎◌, inl, inr}
use mathlib.Core.Bool.{cond}
use mathlib.Core.List.{List}
use Prim.Native.Nat.{ℕ, zero, suc, ◌+◌, ◌/◌, ◌≤◌, ◌<◌}
use native.Mathlib.Decide.{ℕ_discrete}
use native.Mathlib.Numerals.{add-one}
use native.Mathlib.Omega.{arith}
use borrow.Author.Tests.{eq-eqb, ne_eqb}
use lib.Dec.{eqb}
use lib.ListN.{get_or}
use Rattle.word_fields.specs.Frame.{Kept}
use Rattle.word_fields.specs.Fields.{field, Apart}
use Rattle.word_fields.specs.Chains.{no_entry, last, Chain}
use Rattle.word_fields.proofs.FrameLaws.{kept-other}
use Rattle.word_fields.proofs.FieldLaws.{field-same}

-- ---- the last entry with a key

last-here : (key : ℕ → ℕ) (s n : ℕ) → key n ≡ s → last key s (suc n) ≡ n
unfolding last
last-here key s n e = rw (eq-eqb (key n) s e)

last-before : (key : ℕ → ℕ) (s n : ℕ) → key n ≢ s → last key s (suc n) ≡ last key s n
unfolding last
last-before key s n e = rw (ne_eqb (key n) s e)

-- an entry with the key is no later than the last one, which then is an entry
pub last_of : (key : ℕ → ℕ) (s n i : ℕ) → i < n → key i ≡ s → (i ≤ last key s n) × (last key s n < n)
last_of key s zero i h e = absurd (omega arith)
last_of key s (suc n) i h e = go (ℕ_discrete (key n) s) (ℕ_discrete i n) (λ g. last_of key s n i g e)
  where
    go : Dec (key n ≡ s) → Dec (i ≡ n) → (i < n → (i ≤ last key s n) × (last key s n < n)) → (i ≤ last key s (suc n)) × (last key s (suc n) < suc n)
    go (yes p) d ih = rw (last-here key s n p) (omega arith)
    go (no p) (yes q) ih = absurd (p (ap key (sym q) ∙ e))
    go (no p) (no q) ih = let r = ih (omega arith) in rw (last-before key s n p) (omega arith)

-- the last entry has the key, or there is none
abbrev pub LastIs : (ℕ → ℕ) → ℕ → ℕ → Type 0
LastIs key s n = (last key s n ≡ no_entry) ⊎ ((last key s n < n) × (key (last key s n) ≡ s))

pub last-is : (key : ℕ → ℕ) (s n : ℕ) → LastIs key s n
last-is key s zero = unfold last in inl refl
last-is key s (suc n) = go (ℕ_discrete (key n) s) (last-is key s n)
  where
    go : Dec (key n ≡ s) → LastIs key s n → LastIs key s (suc n)
    go (yes p) d = rw (last-here key s n p) (inr (omega arith, p))
    go (no p) (inl q) = rw (last-before key s n p) (inl q)
    go (no p) (inr q) = rw (last-before key s n p) (inr (omega arith, q.1))

-- it depends on the keys of the entries alone
pub last-ext : (key key' : ℕ → ℕ) (s n : ℕ) → ((j : ℕ) → j < n → key j ≡ key' j) → last key s n ≡ last key' s n
unfolding last
last-ext key key' s zero h = refl
last-ext key key' s (suc n) h = ap₂ (λ (k l : ℕ). cond (eqb k s) n l) (h n (omega arith)) (last-ext key key' s n (λ j g. h j (omega arith)))

-- ---- chains

-- heads that all stand for no entry are the chains of none
pub chain-start : (key : ℕ → ℕ) (w : List ℕ) (heads nexts slots : ℕ) → ((s : ℕ) → s < slots → field w heads s ≡ no_entry) → Chain key w heads nexts slots 0
chain-start key w heads nexts slots f = record { head = λ s h. unfold last in f s h; next = λ j h. absurd (omega arith) }

-- other words change, and keys that are none of the entries'
pub chain-kept : {key key' : ℕ → ℕ} {w w' : List ℕ} {heads nexts slots n : ℕ} → ((j : ℕ) → j < n → key j ≡ key' j)
    → ((s : ℕ) → s < slots → get_or w' (heads + s / 4) 0 ≡ get_or w (heads + s / 4) 0) → ((j : ℕ) → j < n → get_or w' (nexts + j / 4) 0 ≡ get_or w (nexts + j / 4) 0)
    → Chain key w heads nexts slots n → Chain key' w' heads nexts slots n
chain-kept {key} {key'} {w} {w'} {heads} {nexts} {slots} {n} e f g c = record {
  head = λ s h. field-same w w' heads s (f s h) ∙ c.head s h ∙ last-ext key key' s n e;
  next = λ j h. field-same w w' nexts j (g j h) ∙ c.next j h ∙ ap (λ (k : ℕ). last key k j) (e j h) ∙ last-ext key key' (key' j) j (λ i l. e i (omega arith));
}

-- entry n joins the chain of s: the head is n, and field n of the nexts is the head so far
pub pushed : {w w1 w2 : List ℕ} (heads nexts s n before : ℕ)
    → Kept (heads + s / 4) (heads + s / 4 + 1) w w1 → Kept (nexts + n / 4) (nexts + n / 4 + 1) w1 w2 → before ≡ field w heads s
    → ((j : ℕ) → field w1 heads j ≡ cond (eqb j s) n (field w heads j)) → ((j : ℕ) → field w2 nexts j ≡ cond (eqb j n) before (field w1 nexts j))
    → (key : ℕ → ℕ) (slots : ℕ) → Chain key w heads nexts slots n → Apart heads slots nexts (n + 1) → s < slots → key n ≡ s → Chain key w2 heads nexts slots (n + 1)
pushed {w} {w1} {w2} heads nexts s n before k1 k2 b f1 f2 key slots c d l e = record {
  head = λ t g. field-same w1 w2 heads t (kept-other k2 (heads + t / 4) (d t n g (omega arith))) ∙ f1 t ∙ ap (cond (eqb t s) n) (c.head t g) ∙ first t (ℕ_discrete t s);
  next = λ j g. f2 j ∙ ap (cond (eqb j n) before) (field-same w w1 nexts j (kept-other k1 (nexts + j / 4) (λ p. d s j l g (sym p)))) ∙ other j g (ℕ_discrete j n);
}
  where
    first : (t : ℕ) → Dec (t ≡ s) → cond (eqb t s) n (last key t n) ≡ last key t (n + 1)
    first t (yes p) = rw (eq-eqb t s p, add-one n) (sym (last-here key t n (e ∙ sym p)))
    first t (no p) = rw (ne_eqb t s p, add-one n) (sym (last-before key t n (λ q. p (sym q ∙ e))))

    other : (j : ℕ) → j < n + 1 → Dec (j ≡ n) → cond (eqb j n) before (field w nexts j) ≡ last key (key j) j
    other j g (yes p) = rw (eq-eqb j n p, p, e) (b ∙ c.head s l)
    other j g (no p) = rw (ne_eqb j n p) (c.next j (omega arith))
