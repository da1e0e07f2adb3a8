-- PutWord: the letters of a word put from the last to the first: what is spelled above, and then what is put, is the whole.
use mathlib.Core.Path.{◌≡◌, refl, sym, ap, ap₂, ◌∙◌}
use mathlib.Core.List.{List, [], ◌∷◌, ◌++◌, append_assoc, map}
use Prim.Native.Nat.{ℕ, zero, suc, ◌-◌, ◌/◌, ◌%◌, ◌≤◌, ◌<◌}
use native.Mathlib.Omega.{arith}
use lib.ListN.{drop, get_or, length, length-set, set}
use Rattle.automata.proofs.Laws.{map-append}
use Rattle.word_fields.specs.Fields.{field}
use Rattle.live_table.specs.Entries.{Tree}
use Rattle.word_layout.specs.Layout.{parents_at}
use Rattle.word_layout.specs.declared.SetTable.{SetTable}
use Rattle.compare_witness.specs.Spelled.{spelled}
use Rattle.compare_witness.proofs.WordOfRow.{spelled-length, spelled_step, spelled-zero}

drop-set : (i : ℕ) (l : List ℕ) (x : ℕ) → i < length l → drop i (set l i x) ≡ x ∷ drop (suc i) l
drop-set i [] x h = absurd (omega arith)
drop-set zero (y ∷ l) x h = refl
drop-set (suc i) (y ∷ l) x h = drop-set i l x (omega arith)

-- one letter more is put, in front
put-more : (f : ℕ → ℕ) (v u : List ℕ) (x j : ℕ) (out whole : List ℕ) → v ≡ u ++ x ∷ [] → 0 < j → j ≤ length out → map f v ++ drop j out ≡ whole
    → map f u ++ drop (j - 1) (set out (j - 1) (f x)) ≡ whole
put-more f v u x j out whole e h l q =
    let z : suc (j - 1) ≡ j = omega arith in
    ap (λ (r : List ℕ). map f u ++ r) (drop-set (j - 1) out (f x) (omega arith) ∙ ap (λ (k : ℕ). f x ∷ drop k out) z)
    ∙ sym (append_assoc (map f u) (f x ∷ []) (drop j out))
    ∙ ap (λ (r : List ℕ). r ++ drop j out) (sym (ap (map f) e ∙ map-append f u (x ∷ [])))
    ∙ q

-- the walk is at row k, and the word's letters are put from place j on
pub record Putting (tab : SetTable) (w letters out₀ : List ℕ) (from len : ℕ) (out : List ℕ) (k j : ℕ) : Type 0 where
  pub low : k ≤ from
  pub rest : j ≡ length (spelled tab w from k)
  pub less : j ≤ len
  pub same : length out ≡ length out₀
  pub whole : map (λ (l : ℕ). get_or letters l 0) (spelled tab w from k) ++ drop j out ≡ map (λ (l : ℕ). get_or letters l 0) (spelled tab w from from) ++ drop len out₀

pub Putting-start : (tab : SetTable) (w letters out : List ℕ) (from len : ℕ) → len ≡ length (spelled tab w from from) → Putting tab w letters out from len out from len
Putting-start tab w letters out from len e = record { low = omega arith; rest = e; less = omega arith; same = refl; whole = refl }

pub Putting-more : (tab : SetTable) (w : List ℕ) (a n : ℕ) → Tree a tab w n → (letters out₀ : List ℕ) (from len : ℕ) (out : List ℕ) (k j r : ℕ) → r ≡ field w (parents_at tab) k → 0 < k → k < n → len ≤ length out
    → Putting tab w letters out₀ from len out k j → (0 < j) × (r / 64 < k) × (r % 64 < a) × Putting tab w letters out₀ from len (set out (j - 1) (get_or letters (r % 64) 0)) (r / 64) (j - 1)
Putting-more tab w a n tree letters out₀ from len out k j r e pos low room p =
    let t = tree k pos low in
    let more = spelled-length tab w a n tree from k pos low p.low in
    let here : length (spelled tab w from (r / 64)) ≡ length (spelled tab w from (field w (parents_at tab) k / 64)) = ap (λ (x : ℕ). length (spelled tab w from (x / 64))) e in
    let z : 0 < j = omega (arith, p.rest) in (
      z,
      omega (arith, t.0),
      omega (arith, t.1),
      record {
        low = omega (arith, t.0, p.low);
        rest = omega (arith, p.rest);
        less = omega (arith, p.less);
        same = length-set out (j - 1) (get_or letters (r % 64) 0) ∙ p.same;
        whole = put-more (λ (l : ℕ). get_or letters l 0) (spelled tab w from k) (spelled tab w from (r / 64)) (r % 64) j out _
            (spelled_step tab w a n tree from k pos low p.low ∙ ap (λ (x : ℕ). spelled tab w from (x / 64) ++ (x % 64) ∷ []) (sym e)) z (omega (arith, p.less)) p.whole;
      },
    )

pub Putting-end : (tab : SetTable) (w letters out₀ : List ℕ) (from len : ℕ) (out : List ℕ) (k j : ℕ) → k ≡ 0 → Putting tab w letters out₀ from len out k j
    → out ≡ map (λ (l : ℕ). get_or letters l 0) (spelled tab w from from) ++ drop len out₀
Putting-end tab w letters out₀ from len out k j z p =
    let e : spelled tab w from k ≡ [] = ap (spelled tab w from) z ∙ spelled-zero tab w from in
    let y : j ≡ 0 = omega (arith, p.rest, ap (λ (v : List ℕ). length v) e) in
    sym (ap₂ (λ (v : List ℕ) (i : ℕ). map (λ (l : ℕ). get_or letters l 0) v ++ drop i out) e y) ∙ p.whole
