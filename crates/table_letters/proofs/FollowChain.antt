-- FollowChain: along the chain of a key, what has joined, with the arcs that are left, gives the whole.
use mathlib.Core.Path.{◌∙◌, ◌≡◌, subst}
use mathlib.Core.Logic.{◌↔◌, ◌⊎◌, inl, inr, ⊎_elim}
use mathlib.Core.Bool.{◌||◌}
use mathlib.Core.List.{List}
use Prim.Native.Nat.{◌%◌, ◌*◌, ◌+◌, ◌<◌, ◌≤◌, ℕ}
use native.Mathlib.Decide.{dec_lt, ℕ_discrete}
use native.Mathlib.Omega.{arith}
use lib.Dec.{T}
use Rattle.automata.proofs.Laws.{or_iff}
use Rattle.word_layout.specs.Layout.{letter_heads, letter_nexts}
use Rattle.word_fields.specs.Chains.{last}
use Rattle.word_fields.specs.Fields.{field}
use Rattle.word_fields.proofs.Laws.{OnChain, last-is, off_chain, on_chain}
use Rattle.word_rows.specs.Rows.{related}
use Rattle.word_sets.specs.Sets.{in_set}
use Rattle.table_sets.specs.Stepping.{target_at}
use Rattle.word_layout.specs.declared.Block.{Block}
use Rattle.table_letters.specs.Lettered.{Leading, Lettered, arc_key}

-- one of the first `upto` listed arcs has the key, and leads to j
record Upto (letters : ℕ) (w : List ℕ) (block : Block) (key upto j : ℕ) : Type 0 where
  at : ℕ
  below : at < upto
  keyed : arc_key letters w block at ≡ key
  leads : T (related w block.base (target_at w block.base at) j)

-- k is the next arc on the chain of the key; `set` is what there was before
pub record Following (letters : ℕ) (w : List ℕ) (block : Block) (key : ℕ) (set out : List ℕ) (k : ℕ) : Type 0 where
  upto : ℕ
  few : upto ≤ block.plain
  here : k ≡ last (arc_key letters w block) key upto
  sets : (j : ℕ) → (T (in_set out j) ⊎ Upto letters w block key upto j) ↔ (T (in_set set j) ⊎ Leading letters w block key j)

pub Following-start : {letters : ℕ} {w : List ℕ} {block : Block} {key k : ℕ} (set : List ℕ) → Lettered letters w block → key < 256 * letters + 256 → k ≡ field w letter_heads key
    → Following letters w block key set set k
Following-start {block = block} {key = key} set f h e = record {
  upto = block.plain;
  few = omega arith;
  here = e ∙ f.linked.chain.head key h;
  sets = λ j. (
    ⊎_elim (λ t. inl t) (λ a. inr (record { at = a.at; below = a.below; keyed = a.keyed; leads = a.leads })),
    ⊎_elim (λ t. inl t) (λ a. inr (record { at = a.at; below = a.below; keyed = a.keyed; leads = a.leads })),
  );
}

module _ {letters : ℕ} {w : List ℕ} {block : Block} {key : ℕ} {set out : List ℕ} {k : ℕ} (v : Following letters w block key set out k) (f : Lettered letters w block) where
  -- ---- a turn at arc k
  module _ (less : k < block.plain) where
    on : OnChain (arc_key letters w block) w letter_nexts key v.upto k
    on = on_chain f.linked.chain (omega (arith, f.few)) key v.few v.here less

    -- it is arc k that leads there, or one before it
    split : (j : ℕ) → Upto letters w block key v.upto j ↔ (Upto letters w block key k j ⊎ T (related w block.base (target_at w block.base k) j))
    split j = (
      λ a. go a (ℕ_discrete a.at k) (dec_lt a.at k),
      ⊎_elim (λ a. let b = a.below in record { at = a.at; below = omega (arith, on.below); keyed = a.keyed; leads = a.leads })
          (λ t. record { at = k; below = on.below; keyed = on.keyed; leads = t }),
    )
      where
        go : (a : Upto letters w block key v.upto j) → Dec (a.at ≡ k) → Dec (a.at < k) → Upto letters w block key k j ⊎ T (related w block.base (target_at w block.base k) j)
        go a (yes e) d = inr (subst (λ (x : ℕ). T (related w block.base (target_at w block.base x) j)) e a.leads)
        go a (no n) (yes h) = inl (record { at = a.at; below = h; keyed = a.keyed; leads = a.leads })
        go a (no n) (no h) = absurd (on.none a.at (omega arith) a.below a.keyed)

    module _ {k' : ℕ} (next : k' ≡ field w letter_nexts k) where
      onward : k' ≡ last (arc_key letters w block) key k
      onward = next ∙ on.onward

      pub Following-less : (k' + 1) % 65536 < (k + 1) % 65536
      Following-less = ⊎_elim (λ d. omega (arith, onward, d, f.few)) (λ d. omega (arith, onward, d.0, f.few)) (last-is (arc_key letters w block) key k)

      -- the row of its target joins
      pub Following-more : (out' : List ℕ) → ((j : ℕ) → in_set out' j ≡ (in_set out j || related w block.base (target_at w block.base k) j)) → Following letters w block key set out' k'
      Following-more out' union = record {
        upto = k;
        few = omega arith;
        here = onward;
        sets = λ j. (
          λ s. (v.sets j).0 (⊎_elim (λ x. ⊎_elim (λ y. inl y) (λ y. inr ((split j).1 (inr y))) ((both j).0 x)) (λ a. inr ((split j).1 (inl a))) s),
          λ a. ⊎_elim (λ x. inl ((both j).1 (inl x))) (λ b. ⊎_elim (λ c. inr c) (λ p. inl ((both j).1 (inr p))) ((split j).0 b)) ((v.sets j).1 a),
        );
      }
        where
          both : (j : ℕ) → T (in_set out' j) ↔ (T (in_set out j) ⊎ T (related w block.base (target_at w block.base k) j))
          both j = rw (union j) (or_iff (in_set out j) (related w block.base (target_at w block.base k) j))

  -- ---- the end of the chain
  pub Following-end : block.plain ≤ k → (j : ℕ) → T (in_set out j) ↔ (T (in_set set j) ⊎ Leading letters w block key j)
  Following-end h j = (
    λ t. (v.sets j).0 (inl t),
    λ a. ⊎_elim (λ t. t) (λ b. absurd (off_chain (arc_key letters w block) key v.few v.here h b.at b.below b.keyed)) ((v.sets j).1 a),
  )
