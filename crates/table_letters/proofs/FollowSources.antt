-- FollowSources: the chains of one letter and of the sources in a set, one source after the other; and what they lead to is the live set
-- behind the letter.
use mathlib.Core.Path.{◌∙◌, ◌≡◌, ap, ap₂, refl, subst, sym}
use mathlib.Core.Logic.{◌↔◌, ◌⊎◌, inl, inr, ⊎_elim}
use mathlib.Core.Bool.{Bool, ◌&&◌, false, not}
use mathlib.Core.List.{List}
use Prim.Native.Nat.{◌*◌, ◌+◌, ◌-◌, ◌<◌, ◌^◌, ◌≤◌, ℕ}
use native.Mathlib.Decide.{dec_lt, ℕ_discrete}
use native.Mathlib.Omega.{arith}
use borrow.Author.Tests.{le-ltb, lt-ltb, ne_eqb}
use lib.Dec.{T, eqb}
use lib.ListN.{get_or}
use Rattle.automata.proofs.Laws.{and-iff}
use Rattle.word_layout.specs.Layout.{letter_sources}
use Rattle.word_rows.specs.Rows.{related}
use Rattle.word_sets.specs.Sets.{Within, bit, in_set}
use Rattle.word_sets.proofs.Laws.{bit-above, bit-zero, place}
use Rattle.table_sets.specs.Stepping.{FromList, plain_letter_at}
use Rattle.table_sets.proofs.Laws.{Onward}
use Rattle.word_layout.specs.declared.Block.{Block}
use Rattle.table_letters.specs.Lettered.{Leading, Lettered, arc_key, key_of, row_of, source_of}
use Rattle.table_letters.proofs.Sources.{source_is, source-stands}

-- ---- the sources that are digits 1 of a word

-- an arc with the key of a digit 1 of the word leads to j
abbrev pub ByDigits : (letters : ℕ) → List ℕ → Block → (key word j : ℕ) → Type 0
ByDigits letters w block key word j = (c : ℕ) × T (bit word c) × Leading letters w block (key + c) j

-- what has joined, with the digits that are left, gives the whole
pub record Taking (letters : ℕ) (w : List ℕ) (block : Block) (key sources : ℕ) (set out : List ℕ) (left : ℕ) : Type 0 where
  sets : (j : ℕ) → (T (in_set out j) ⊎ ByDigits letters w block key left j) ↔ (T (in_set set j) ⊎ ByDigits letters w block key sources j)

pub Taking-start : (letters : ℕ) (w : List ℕ) (block : Block) (key sources : ℕ) (set : List ℕ) → Taking letters w block key sources set set sources
Taking-start letters w block key sources set = record { sets = λ j. (λ a. a, λ a. a) }

module _ {letters : ℕ} {w : List ℕ} {block : Block} {key sources : ℕ} {set out : List ℕ} {left : ℕ} (v : Taking letters w block key sources set out left) where
  -- the chain of digit c has joined
  pub Taking-more : (c : ℕ) (out' : List ℕ) (left' : ℕ) → T (bit left c) → ((j : ℕ) → T (in_set out' j) ↔ (T (in_set out j) ⊎ Leading letters w block (key + c) j))
      → ((j : ℕ) → bit left' j ≡ (not (eqb j c) && bit left j)) → Taking letters w block key sources set out' left'
  Taking-more c out' left' one more less = record {
    sets = λ j. (
      λ a. (v.sets j).0 (⊎_elim (λ t. ⊎_elim (λ u. inl u) (λ l. inr (c, one, l)) ((more j).0 t)) (λ d. inr (d.0, old d.0 d.1, d.2)) a),
      λ a. ⊎_elim (λ t. inl ((more j).1 (inl t))) (λ d. go j d (ℕ_discrete d.0 c)) ((v.sets j).1 a),
    );
  }
    where
      old : (d : ℕ) → T (bit left' d) → T (bit left d)
      old d t = ((and-iff (not (eqb d c)) (bit left d)).0 (subst T (less d) t)).1

      go : (j : ℕ) (d : ByDigits letters w block key left j) → Dec (d.0 ≡ c) → T (in_set out' j) ⊎ ByDigits letters w block key left' j
      go j d (yes e) = inl ((more j).1 (inr (subst (λ (x : ℕ). Leading letters w block (key + x) j) e d.2)))
      go j d (no n) = inr (d.0, subst T (sym (less d.0 ∙ ap (λ (b : Bool). not b && bit left d.0) (ne_eqb d.0 c n))) d.1, d.2)

  -- no digit is left
  pub Taking-end : left ≡ 0 → (j : ℕ) → T (in_set out j) ↔ (T (in_set set j) ⊎ ByDigits letters w block key sources j)
  Taking-end e j = (
    λ t. (v.sets j).0 (inl t),
    λ a. ⊎_elim (λ t. t) (λ d. absurd (subst T (ap (λ (x : ℕ). bit x d.0) e ∙ bit-zero d.0) d.1)) ((v.sets j).1 a),
  )

-- ---- the sources that are members of a set, word by word

-- an arc of a member below n has j in the row of its target; `key` is that of member 0
abbrev pub BySources : (letters : ℕ) → List ℕ → Block → (key : ℕ) → (sources : List ℕ) → (n j : ℕ) → Type 0
BySources letters w block key sources n j = (s : ℕ) × (s < n) × T (in_set sources s) × Leading letters w block (key + s) j

-- the members in the first q words have been visited
pub record Visited (letters : ℕ) (w : List ℕ) (block : Block) (key : ℕ) (sources out : List ℕ) (q : ℕ) : Type 0 where
  sets : (j : ℕ) → T (in_set out j) ↔ BySources letters w block key sources (64 * q) j

pub Visited-start : (letters : ℕ) (w : List ℕ) (block : Block) (key : ℕ) (sources out : List ℕ) → ((j : ℕ) → in_set out j ≡ false) → Visited letters w block key sources out 0
Visited-start letters w block key sources out none = record { sets = λ j. (λ t. absurd (subst T (none j) t), λ a. absurd (omega (arith, a.1))) }

-- those of word q have joined
pub Visited-more : {letters : ℕ} {w : List ℕ} {block : Block} {key : ℕ} {sources out : List ℕ} {q : ℕ} (out' : List ℕ) → get_or sources q 0 < 2 ^ 64 → Visited letters w block key sources out q
    → ((j : ℕ) → T (in_set out' j) ↔ (T (in_set out j) ⊎ ByDigits letters w block (key + 64 * q) (get_or sources q 0) j)) → Visited letters w block key sources out' (q + 1)
Visited-more {letters} {w} {block} {key} {sources} {out} {q} out' fits was more = record {
  sets = λ j. (
    λ t. ⊎_elim (λ u. let a = (was.sets j).0 u in (a.0, omega (arith, a.1), a.2, a.3)) (λ d. new j d (dec_lt d.0 64)) ((more j).0 t),
    λ a. (more j).1 (back j a (dec_lt a.0 (64 * q))),
  );
}
  where
    new : (j : ℕ) (d : ByDigits letters w block (key + 64 * q) (get_or sources q 0) j) → Dec (d.0 < 64) → BySources letters w block key sources (64 * (q + 1)) j
    new j d (yes h) =
        let e : key + 64 * q + d.0 ≡ key + (64 * q + d.0) = omega arith in
        (64 * q + d.0, omega arith, rw (place sources q d.0 h) d.1, subst (λ (x : ℕ). Leading letters w block x j) e d.2)
    new j d (no h) = absurd (subst T (bit-above 64 (get_or sources q 0) d.0 fits (omega arith)) d.1)

    back : (j : ℕ) (a : BySources letters w block key sources (64 * (q + 1)) j) → Dec (a.0 < 64 * q) → T (in_set out j) ⊎ ByDigits letters w block (key + 64 * q) (get_or sources q 0) j
    back j a (yes h) = inl ((was.sets j).1 (a.0, h, a.2, a.3))
    back j a (no h) =
        let s = a.0 in
        let l : s < 64 * (q + 1) = a.1 in
        let e : s ≡ 64 * q + (s - 64 * q) = omega arith in
        let f : key + s ≡ key + 64 * q + (s - 64 * q) = omega arith in
        inr (s - 64 * q, subst T (ap (in_set sources) e ∙ place sources q (s - 64 * q) (omega arith)) a.2, subst (λ (x : ℕ). Leading letters w block x j) f a.3)

-- ---- THE LAW. The arcs with a letter that leave a member of the set and of the letter's row are those that the live configurations list.

row-letter : (letters byte l : ℕ) → l < letters → row_of letters byte ≡ l + 1 ↔ byte ≡ l
row-letter letters byte l h = (λ e. go e (dec_lt byte letters), λ e. unfold row_of in rw (e, lt-ltb l letters h))
  where
    go : row_of letters byte ≡ l + 1 → Dec (byte < letters) → byte ≡ l
    go e (yes g) = let r : row_of letters byte ≡ byte + 1 = unfold row_of in rw (lt-ltb byte letters g) in omega arith
    go e (no g) = let r : row_of letters byte ≡ 0 = unfold row_of in rw (le-ltb byte letters (omega arith)) in omega arith

pub sources-onward : {letters : ℕ} {w : List ℕ} {block : Block} {l : ℕ} (set sources : List ℕ) {out : List ℕ} → Lettered letters w block → l < letters → Within block.count set
    → ((s : ℕ) → in_set sources s ≡ (in_set set s && related w letter_sources (l + 1) s))
    → Visited letters w block (256 * (l + 1)) sources out 4 → (j : ℕ) → T (in_set out j) ↔ Onward (FromList w block.base block.count block.plain) set block.count l j
sources-onward {letters} {w} {block} {l} set sources f h within both done j = (λ t. let a = (done.sets j).0 t in on a.0 a.2 a.3, λ o. (done.sets j).1 (back o))
  where
    key-is : (k : ℕ) → arc_key letters w block k ≡ key_of (row_of letters (plain_letter_at w block.base k)) (source_of w block k)
    key-is k = unfold arc_key in refl

    on : (s : ℕ) → T (in_set sources s) → Leading letters w block (256 * (l + 1) + s) j → Onward (FromList w block.base block.count block.plain) set block.count l j
    on s t a =
        let lives : T (in_set set s) = ((and-iff (in_set set s) (related w letter_sources (l + 1) s)).0 (subst T (both s) t)).0 in
        let below : s < block.count = within s lives in
        let p = source-stands f.listed (omega arith) a.at a.below in
        let byte = plain_letter_at w block.base a.at in
        let few : block.count ≤ 256 = f.listed.few in
        let mine : source_of w block a.at < block.count = p.0 in
        let key : 256 * row_of letters byte + source_of w block a.at ≡ 256 * (l + 1) + s = sym (key-is a.at) ∙ a.keyed in
        let r : row_of letters byte ≡ l + 1 = omega arith in
        let e : source_of w block a.at ≡ s = omega arith in
        record {
          source = s;
          lives = lives;
          below = below;
          leads = record {
            at = a.at;
            low = rw (← e) p.1;
            high = rw (← e) p.2;
            letter = (row-letter letters byte l h).0 r;
            leads = a.leads;
          };
        }

    back : Onward (FromList w block.base block.count block.plain) set block.count l j → BySources letters w block (256 * (l + 1)) sources 256 j
    back o =
        let a = o.leads in
        let s = o.source in
        let k = a.at in
        let p = source_is f.listed s k o.below a.low a.high in
        let r : row_of letters (plain_letter_at w block.base k) ≡ l + 1 = (row-letter letters (plain_letter_at w block.base k) l h).1 a.letter in
        let noted : T (related w letter_sources (l + 1) s) = subst T (ap₂ (related w letter_sources) r p.1) (f.linked.noted k p.0) in (
          s,
          omega (arith, o.below, f.listed.few),
          subst T (sym (both s)) ((and-iff (in_set set s) (related w letter_sources (l + 1) s)).1 (o.lives, noted)),
          record { at = k; below = p.0; keyed = key-is k ∙ ap₂ key_of r p.1; leads = a.leads },
        )
