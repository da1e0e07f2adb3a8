-- TableFrames: what is written beside a table leaves its entries as they are, and what is written into it leaves the sets of the letters, which are
-- those behind them.
use Rattle.std.proofs.Common.{Option}
use mathlib.Core.Path.{◌∙◌, ◌≡◌, ap, ap₂, subst, sym}
use mathlib.Core.Logic.{inl, inr, ⊎_elim}
use mathlib.Core.Bool.{Bool, cond}
use mathlib.Core.List.{List, [], ◌++◌, ◌∷◌}
use Prim.Native.Nat.{◌%◌, ◌+◌, ◌-◌, ◌/◌, ◌<◌, ◌≤◌, suc, zero, ℕ}
use native.Mathlib.Omega.{arith}
use lib.ListN.{get_elem?, get_or, length}
use Rattle.automata.specs.Live.{by_letter}
use Rattle.automata.specs.Pairs.{Pair}
use Rattle.automata.specs.Search.{Entry}
use Rattle.automata.proofs.Laws.{get_elem?-lt}
use Rattle.word_fields.specs.Frame.{Kept}
use Rattle.word_sets.specs.Sets.{ε_closed_set, bit, view}
use Rattle.word_rows.specs.Rows.{row}
use Rattle.word_rows.proofs.Laws.{row-above}
use Rattle.table_sets.specs.Stepping.{set_of}
use Rattle.word_layout.specs.Layout.{Tabled, table_end}
use Rattle.word_layout.specs.declared.SetTable.{SetTable}
use Rattle.live_table.specs.Entries.{Child, Holds, Side}
use Rattle.live_table.specs.SetRows.{Met}
use Rattle.live_table.proofs.Laws.{Outside, left-kept, parent-kept, right_kept, rows-kept}
use Rattle.live_letters.specs.Meeting.{Behind, LetterRoom, Table, left_set, right_set}

-- ---- the sets of the letters
pub set_same : (w w' : List ℕ) (acc met l : ℕ) → row w' acc l ≡ row w acc l → set_of w' acc met l ≡ set_of w acc met l
unfolding set_of
set_same w w' acc met l e = ap (λ (x : List ℕ). cond (bit met l) x (0 ∷ 0 ∷ 0 ∷ 0 ∷ [])) e

pub behind-same : (s : Side) (S : List Bool) (l : ℕ) {u v : List ℕ} → v ≡ u → Behind s S l u → Behind s S l v
behind-same s S l e b = (ap (view s.size) e ∙ b.0, subst (λ (x : List ℕ). ε_closed_set s.size s.arcs x) (sym e) b.1)

-- a step from u, in a block with as many configurations as the side has, leaves x for letter l: where u is S, that is the set behind it
pub step-behind : (s : Side) (S : List Bool) (l : ℕ) (x : List ℕ) {count : ℕ} {u v : List ℕ} → s.size ≡ count → u ≡ v → view s.size v ≡ S → ε_closed_set s.size s.arcs v
    → (ε_closed_set count s.arcs u → (view count x ≡ by_letter count s.arcs (view count u) l) × ε_closed_set count s.arcs x) → Behind s S l x
step-behind s S l x {count} {u} e eu ev wv f =
    let g = subst (λ (k : ℕ). ε_closed_set k s.arcs u → (view k x ≡ by_letter k s.arcs (view k u) l) × ε_closed_set k s.arcs x) (sym e) f (subst (λ (y : List ℕ). ε_closed_set s.size s.arcs y) (sym eu) wv) in
    (g.0 ∙ ap (λ (T : List Bool). by_letter s.size s.arcs T l) (ap (view s.size) eu ∙ ev), g.1)

module _ {tab : SetTable} {w w₁ : List ℕ} {acc : List ℕ} (room : LetterRoom tab w acc) (k : Kept tab.rows (table_end tab) w w₁) where
  -- the table is written: the sets behind it stay
  pub room-kept : LetterRoom tab w₁ acc
  room-kept = record { behind = room.behind; long = λ j h. omega (arith, k.long, room.long j h) }

  set-above : (j met l : ℕ) → j < length acc → set_of w₁ (get_or acc j 0) met l ≡ set_of w (get_or acc j 0) met l
  set-above j met l h = let b = room.behind j h in set_same w w₁ (get_or acc j 0) met l (row-above (get_or acc j 0) l k (omega arith))

  pub met-as_left : (met : List ℕ) (w' : List ℕ) (n from l : ℕ) (r : Option ℕ) → 0 < length acc → Met tab w₁ w' n (left_set w₁ acc met l) (right_set w₁ acc met l) from r
      → Met tab w₁ w' n (left_set w acc met l) (right_set w acc met l) from r
  met-as_left met w' n from l r some m =
      subst (λ (v : List ℕ). Met tab w₁ w' n (left_set w acc met l) v from r) (set-above (length acc - 1) (get_or met (length met - 1) 0) l (omega arith))
      (subst (λ (u : List ℕ). Met tab w₁ w' n u (right_set w₁ acc met l) from r) (set-above 0 (get_or met 0 0) l some) m)

-- the room of one side, and of two
pub one-room : {tab : SetTable} {w : List ℕ} {acc : ℕ} → table_end tab ≤ acc → acc + 256 ≤ length w → LetterRoom tab w (acc ∷ [])
one-room {tab} {w} {acc} behind long = record { behind = λ j h. (at j h).0; long = λ j h. (at j h).1 }
  where
    at : (j : ℕ) → j < 1 → (table_end tab ≤ get_or (acc ∷ []) j 0) × (get_or (acc ∷ []) j 0 + 256 ≤ length w)
    at zero h = (behind, long)
    at (suc j) h = absurd (omega arith)

pub two-room : {tab : SetTable} {w : List ℕ} {acc₁ acc₂ : ℕ} → table_end tab ≤ acc₁ → acc₁ + 256 ≤ length w → table_end tab ≤ acc₂ → acc₂ + 256 ≤ length w → LetterRoom tab w (acc₁ ∷ acc₂ ∷ [])
two-room {tab} {w} {acc₁} {acc₂} behind₁ long₁ behind₂ long₂ = record { behind = λ j h. (at j h).0; long = λ j h. (at j h).1 }
  where
    at : (j : ℕ) → j < 2 → (table_end tab ≤ get_or (acc₁ ∷ acc₂ ∷ []) j 0) × (get_or (acc₁ ∷ acc₂ ∷ []) j 0 + 256 ≤ length w)
    at zero h = (behind₁, long₁)
    at (suc zero) h = (behind₂, long₂)
    at (suc (suc j)) h = absurd (omega arith)

-- ---- the table
module _ {tab : SetTable} {c b : ℕ} {w w' : List ℕ} (d : Tabled w tab) (k : Kept c b w w') (o : Outside tab c b) where
  pub table_kept : {a n : ℕ} → Table a tab w n → Table a tab w' n
  table_kept {a} t = record {
    few = t.few;
    tree = λ p h l. subst (λ (x : ℕ). (x / 64 < p) × (x % 64 < a)) (sym (parent-kept d k o p (omega (arith, t.few)))) (t.tree p h l);
    chain = rows-kept d k o t.few t.chain;
  }

  Child-kept : {es : List (Entry Pair)} {i : ℕ} {v : List ℕ} → i < 512 → Child tab w es i v → Child tab w' es i v
  Child-kept {es} {i} h c =
      let e = parent-kept d k o i h in
      record {
        later = c.later;
        parent = c.parent;
        stands = ap (λ (x : ℕ). get_elem? es (x / 64)) e ∙ c.stands;
        spells = c.spells ∙ ap (λ (x : ℕ). c.parent.word ++ (x % 64) ∷ []) (sym e);
      }

  pub holds_kept : {s t : Side} {n : ℕ} {es : List (Entry Pair)} → n ≤ 512 → Holds tab s t w n es → Holds tab s t w' n es
  holds_kept {s} {t} {n} {es} few h = record {
    many = h.many;
    each = λ i e p.
        let l : i < 512 = omega (arith, get_elem?-lt es i p, h.many) in
        let r = h.each i e p in
        let f = left-kept d k o i l in
        let g = right_kept d k o i l in
        record {
          left = ap (view s.size) f ∙ r.left;
          right = ap (view t.size) g ∙ r.right;
          settled₁ = subst (λ (x : List ℕ). ε_closed_set s.size s.arcs x) (sym f) r.settled₁;
          settled₂ = subst (λ (x : List ℕ). ε_closed_set t.size t.arcs x) (sym g) r.settled₂;
          spelled = ⊎_elim (λ z. inl z) (λ z. inr (Child-kept l z)) r.spelled;
        };
  }
