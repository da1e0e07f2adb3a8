-- MeetAll: the loop over the letters of a range. Meeting those that are left, from where the table stands, is meeting all from where it stood.
use Rattle.std.proofs.Common.{Option, Some, None}
use mathlib.Core.Path.{◌∙◌, ◌≡◌, ap₂, refl, subst, sym}
use mathlib.Core.Logic.{inl, inr, ⊎_elim}
use mathlib.Core.Bool.{Bool, ◌||◌, false, not, true}
use mathlib.Core.List.{List, [], ◌∷◌}
use Prim.Native.Nat.{◌*◌, ◌+◌, ◌-◌, ◌<◌, ◌≤◌, suc, zero, ℕ}
use native.Mathlib.Decide.{dec_lt}
use native.Mathlib.Numerals.{add-one}
use native.Mathlib.Omega.{arith}
use lib.Dec.{T}
use lib.ListN.{get_or, length}
use Rattle.table_sets.specs.Stepping.{set_of}
use Rattle.table_sets.proofs.Laws.{set-off}
use Rattle.automata.specs.Lists.{count_from}
use Rattle.word_fields.specs.Frame.{Kept}
use Rattle.word_fields.proofs.Laws.{kept_same, kept_then}
use Rattle.word_sets.specs.Sets.{bit}
use Rattle.word_layout.specs.Layout.{Tabled, table_end}
use Rattle.word_layout.specs.declared.SetTable.{SetTable}
use Rattle.live_table.specs.SetRows.{Met, Old, RowChain, first_set, last_set}
use Rattle.live_letters.specs.Meeting.{EmptyRow, NextLetter, left_set, right_set}
use Rattle.live_letters.proofs.MeetRow.{dead_more, met-kept}
use Rattle.live_letters.specs.MeetingAll.{MetAll}
use Rattle.live_letters.proofs.MetAllLaws.{met-rows}

-- a row has a set
pub some_side : {w : List ℕ} {tab : SetTable} {many : ℕ} → Tabled w tab → tab.sets ≡ many → 0 < many
some_side {tab = tab} d e = ⊎_elim (λ (o : tab.sets ≡ 1). omega arith) (λ (o : tab.sets ≡ 2). omega arith) d.one_or_two

-- the sets of a letter, side by side
pub letter-sets : (w : List ℕ) (sets : List (List ℕ)) (acc met : List ℕ) (l : ℕ) {many : ℕ} → 0 < many → length sets ≡ many → length acc ≡ many → length met ≡ many
    → ((j : ℕ) → j < many → get_or sets j [] ≡ set_of w (get_or acc j 0) (get_or met j 0) l) → (first_set sets ≡ left_set w acc met l) × (last_set sets ≡ right_set w acc met l)
letter-sets w sets acc met l some ls la lm h =
    let a : length sets - 1 ≡ length acc - 1 = omega arith in
    let b : length sets - 1 ≡ length met - 1 = omega arith in
    (h 0 some, h (length sets - 1) (omega arith) ∙ ap₂ (λ (x y : ℕ). set_of w (get_or acc x 0) (get_or met y 0) l) a b)

pub is-off : (b : Bool) → T (not b) → b ≡ false
is-off true z = absurd z
is-off false z = refl

-- ---- a letter that no side meets
-- its sets are empty
pub empty-sets : (w acc met : List ℕ) (l : ℕ) → 0 < length met → ((j : ℕ) → j < length met → bit (get_or met j 0) l ≡ false)
    → (left_set w acc met l ≡ 0 ∷ 0 ∷ 0 ∷ 0 ∷ []) × (right_set w acc met l ≡ 0 ∷ 0 ∷ 0 ∷ 0 ∷ [])
empty-sets w acc met l some off =
    (sym (set-off w (get_or acc 0 0) (get_or met 0 0) l (off 0 some)), sym (set-off w (get_or acc (length acc - 1) 0) (get_or met (length met - 1) 0) l (off (length met - 1) (omega arith))))

-- the row of two empty sets is known, and is what the letter leads to
skipped : {tab : SetTable} {w : List ℕ} {n : ℕ} {u v : List ℕ} → EmptyRow tab w n → (u ≡ 0 ∷ 0 ∷ 0 ∷ 0 ∷ []) × (v ≡ 0 ∷ 0 ∷ 0 ∷ 0 ∷ []) → Old tab w w n n u v
skipped e z = record { same = refl; many = refl; place = e.place; low = e.low; is = (e.is.0 ∙ sym z.0, e.is.1 ∙ sym z.1) }

-- ---- the loop
-- all letters of the range are met, from the words w₀ and `from` rows on
abbrev pub Whole : (tab : SetTable) (us vs : ℕ → List ℕ) (i low end from : ℕ) (w₀ w' : List ℕ) → Option ℕ → Type 0
Whole tab us vs i low end from w₀ w' r = MetAll tab us vs i (count_from low (end - low)) w₀ from w' r

-- the invariant: the letters before l are met, and where `dead` the row of empty sets is known
pub record Turns (tab : SetTable) (us vs : ℕ → List ℕ) (i low end from : ℕ) (w₀ w : List ℕ) (n : ℕ) (dead : Bool) (l : ℕ) : Type 0 where
  pub kept : Kept tab.rows (table_end tab) w₀ w
  pub few : n ≤ 512
  pub chain : RowChain tab w n
  pub empty : T dead → EmptyRow tab w n
  pub going : (w' : List ℕ) (r : Option ℕ) → MetAll tab us vs i (count_from l (end - l)) w n w' r → Whole tab us vs i low end from w₀ w' r

pub turns-start : (tab : SetTable) (us vs : ℕ → List ℕ) (i low end from : ℕ) (w : List ℕ) → from ≤ 512 → RowChain tab w from → Turns tab us vs i low end from w w from false low
turns-start tab us vs i low end from w few chain =
    record { kept = kept_same tab.rows (table_end tab) w; few = few; chain = chain; empty = λ x. absurd x; going = λ w' r x. x }

-- the letters that are left are l and those behind it
these : (l end : ℕ) → l < end → l ∷ count_from (l + 1) (end - (l + 1)) ≡ count_from l (end - l)
unfolding count_from
these l end hl = let c : end - l ≡ suc (end - (l + 1)) = omega arith in rw (c, add-one l)

none_left : (l end : ℕ) → end ≤ l → count_from l (end - l) ≡ []
unfolding count_from
none_left l end h = let c : end - l ≡ 0 = omega arith in rw c

-- letters that lead to a row that is known change nothing
module _ (tab : SetTable) (us vs : ℕ → List ℕ) (i end : ℕ) (w : List ℕ) (n : ℕ) (v : List ℕ) (g : Option ℕ) where
  abbrev Rest : ℕ → Type 0
  Rest l = MetAll tab us vs i (count_from l (end - l)) w n v g

  one-over : (l : ℕ) → Old tab w w n n (us l) (vs l) → Rest (l + 1) → Dec (l < end) → Rest l
  unfolding MetAll
  one-over l o x (yes h) =
      subst (λ (letters : List ℕ). MetAll tab us vs i letters w n v g) (these l end h) (inr (w, n, inl o, x))
  one-over l o x (no h) = subst (λ (letters : List ℕ). MetAll tab us vs i letters w n v g) (none_left (l + 1) end (omega arith) ∙ sym (none_left l end (omega arith))) x

  passed_over : (d l : ℕ) → ((j : ℕ) → l ≤ j → j < l + d → Old tab w w n n (us j) (vs j)) → Rest (l + d) → Rest l
  passed_over zero l old x = let e : l + 0 ≡ l = omega arith in subst Rest e x
  passed_over (suc d) l old x =
      let e : l + suc d ≡ l + 1 + d = omega arith in
      one-over l (old l (omega arith) (omega arith)) (passed_over d (l + 1) (λ j a b. old j (omega arith) (omega arith)) (subst Rest e x)) (dec_lt l end)

module _ {tab : SetTable} {us vs : ℕ → List ℕ} {i low end from : ℕ} {w₀ w : List ℕ} {n : ℕ} {dead : Bool} {l : ℕ} (w' : List ℕ) (r : Option ℕ) (hl : l < end)
    (k : Turns tab us vs i low end from w₀ w n dead l) (x : Met tab w w' n (us l) (vs l) (i * 64 + l) r) where
  abbrev At : Option ℕ → Type 0
  At r = Met tab w w' n (us l) (vs l) (i * 64 + l) r

  from-here : (v : List ℕ) (g : Option ℕ) → MetAll tab us vs i (l ∷ count_from (l + 1) (end - (l + 1))) w n v g → Whole tab us vs i low end from w₀ v g
  from-here v g y = k.going v g (subst (λ (letters : List ℕ). MetAll tab us vs i letters w n v g) (these l end hl) y)

  pub turns-kept : Kept tab.rows (table_end tab) w₀ w'
  turns-kept = kept_then k.kept (met-kept tab w w' (us l) (vs l) n (i * 64 + l) r x)

  module _ {met : ℕ} (off : (j : ℕ) → bit met j ≡ false → (us j ≡ 0 ∷ 0 ∷ 0 ∷ 0 ∷ []) × (vs j ≡ 0 ∷ 0 ∷ 0 ∷ 0 ∷ [])) where
    pub turns_more : (m next : ℕ) (none : Bool) → r ≡ Some m → (T none → (us l ≡ 0 ∷ 0 ∷ 0 ∷ 0 ∷ []) × (vs l ≡ 0 ∷ 0 ∷ 0 ∷ 0 ∷ [])) → NextLetter met (dead || none) l next → Turns tab us vs i low end from w₀ w' m (dead || none) next
    unfolding MetAll
    turns_more m next none e f q =
        let y : At (Some m) = subst At e x in
        let g = met-rows tab w w' (us l) (vs l) n (i * 64 + l) (Some m) (k.few, k.chain) y in
        let empty = dead_more tab w w' (us l) (vs l) n (i * 64 + l) m dead none k.empty f y in
        let there : next ≡ l + 1 + (next - (l + 1)) = omega (arith, q.later) in
        let old : (j : ℕ) → l + 1 ≤ j → j < l + 1 + (next - (l + 1)) → Old tab w' w' m m (us j) (vs j) =
        λ j a b. let o = q.between j (omega arith) (omega arith) in let z = off j o.1 in skipped (empty o.0) z in
        record {
          kept = turns-kept;
          few = g.0;
          chain = g.1;
          empty = empty;
          going = λ v g z. from-here v g (inr (w', m, y, passed_over tab us vs i end w' m v g (next - (l + 1)) (l + 1) old (subst (Rest tab us vs i end w' m v g) there z)));
        }

  pub turns-over : r ≡ None → Whole tab us vs i low end from w₀ w' None
  unfolding MetAll
  turns-over e = from-here w' None (inl (subst At e x, refl))

pub turns-end : {tab : SetTable} {us vs : ℕ → List ℕ} {i low end from : ℕ} {w₀ w : List ℕ} {n : ℕ} {dead : Bool} {l : ℕ} → end ≤ l → Turns tab us vs i low end from w₀ w n dead l
    → Whole tab us vs i low end from w₀ w (Some n)
unfolding MetAll count_from
turns-end {tab} {us} {vs} {i} {low} {end} {from} {w₀} {w} {n} {dead} {l} h k = let c : end - l ≡ 0 = omega arith in k.going w (Some n) (rw c (refl, refl))
