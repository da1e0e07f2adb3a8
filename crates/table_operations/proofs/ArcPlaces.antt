-- ArcPlaces: the arcs of a file at their places, one after the other, and the list of these places in the words.
use mathlib.Core.Path.{◌∙◌, ◌≡◌, ap₂, refl, sym}
use Prim.Native.Nat.{◌*◌, ◌+◌, ◌/◌, ◌<◌, ◌≤◌, suc, zero, ℕ}
use borrow.Author.Tests.{eq-eqb, ne_eqb}
use lib.Dec.{eqb}
use lib.ListN.{drop, get_or, length}
use lib.Seq.{drop-drop, get_or-drop}
use mathlib.Core.Bool.{cond}
use mathlib.Core.List.{List, ◌∷◌}
use native.Mathlib.Decide.{ℕ_discrete}
use native.Mathlib.Omega.{arith}
use Rattle.table_operations.specs.Arcs.{ArcAt, Indexed, Walkable, falling, place_of, places}
use Rattle.word_layout.specs.Layout.{arc_nexts, offsets}
use Rattle.format.specs.Placed.{OkArcs, OkOps, whole}
use Rattle.file_fields.specs.Parts.{arc_size, first_arc}
use Rattle.file_fields.specs.declared.Counts.{Counts}
use Rattle.word_fields.specs.Frame.{Kept}
use Rattle.word_fields.proofs.Laws.{kept_same, kept_then, kept-wider}

pub falling-at : (f : ℕ → ℕ) (m : ℕ) → falling f (suc m) ≡ f m ∷ falling f m
unfolding falling
falling-at f m = refl

pub cons_both : {x y : ℕ} {l m : List ℕ} → x ∷ l ≡ y ∷ m → (x ≡ y) × (l ≡ m)
cons_both e = (cc, cc)

-- ---- m arcs from a place on
pub record ArcsFrom (file : List ℕ) (m at : ℕ) : Type 0 where
  pub fits : at + whole m (drop at file) ≤ length file
  pub ok : OkArcs 8 m (drop at file)

ops-wider : (a b : ℕ) → a ≤ b → (p : ℕ) (l : List ℕ) → OkOps a p l → OkOps b p l
unfolding OkOps
ops-wider a b h zero l ok = tt
ops-wider a b h (suc p) l ok = (omega (arith, ok.0), ok.1, ops-wider a b h p (drop 2 l) ok.2)

arcs-wider : (a b : ℕ) → a ≤ b → (m : ℕ) (l : List ℕ) → OkArcs a m l → OkArcs b m l
unfolding OkArcs
arcs-wider a b h zero l ok = tt
arcs-wider a b h (suc m) l ok = (ok.0, ops-wider a b h (get_or l 3 0) (drop 4 l) ok.1, arcs-wider a b h m (drop (arc_size l) l) ok.2)

pub walkable-arcs : {c : Counts} {file : List ℕ} → Walkable c file → ArcsFrom file c.arcs (first_arc c)
walkable-arcs {c} {file} h = record { fits = h.lies.fits; ok = arcs-wider c.registers 8 h.lies.registers c.arcs (drop (first_arc c) file) h.lies.ok }

-- the next place
abbrev pub after : List ℕ → ℕ → ℕ
after file at = at + (4 + 2 * get_or file (at + 3) 0)

module _ (file : List ℕ) (m at : ℕ) where
  pub places-at : places (suc m) at file ≡ at ∷ places m (after file at) file
  unfolding places
  places-at = rw (get_or-drop at file 3 0)

  module _ (h : ArcsFrom file (suc m) at) where
    rest-fits : after file at + whole m (drop (after file at) file) ≤ length file
    unfolding whole
    rest-fits = omega (arith, rw (get_or-drop at file 3 0, drop-drop (4 + 2 * get_or file (at + 3) 0) at file) at h.fits)

    parts-ok : (get_or file (at + 3) 0 < 9) × OkOps 8 (get_or file (at + 3) 0) (drop (at + 4) file) × OkArcs 8 m (drop (after file at) file)
    unfolding OkArcs
    parts-ok = rw (get_or-drop at file 3 0, drop-drop 4 at file, drop-drop (4 + 2 * get_or file (at + 3) 0) at file) at h.ok

    -- the first of them, and the others
    pub first-arc : ArcAt file at
    first-arc = record { fits = omega (arith, rest-fits); ok = parts-ok.1 }

    pub first-size : get_or file (at + 3) 0 < 9
    first-size = parts-ok.0

    pub other_arcs : ArcsFrom file m (after file at)
    other_arcs = record { fits = rest-fits; ok = parts-ok.2 }

-- an entry of the list is the place of an arc
entry_of : (file : List ℕ) (f : ℕ → ℕ) (m at : ℕ) → ArcsFrom file m at → places m at file ≡ falling f m → (j : ℕ) → j < m → ArcAt file (f j)
entry_of file f zero at h e j l = absurd (omega arith)
entry_of file f (suc m) at h e j l = go (ℕ_discrete j m) (λ g. entry_of file f m (after file at) (other_arcs file m at h) both.1 j g)
  where
    both : (at ≡ f m) × (places m (after file at) file ≡ falling f m)
    both = cons_both (sym (places-at file m at) ∙ e ∙ falling-at f m)

    go : Dec (j ≡ m) → (j < m → ArcAt file (f j)) → ArcAt file (f j)
    go (yes p) ih = rw (p, ← both.0) (first-arc file m at h)
    go (no n) ih = ih (omega arith)

pub entry_at : {c : Counts} {file : List ℕ} (w : List ℕ) → Walkable c file → Indexed c file w → (j : ℕ) → j < c.arcs → ArcAt file (place_of w j)
entry_at {c} {file} w h e = entry_of file (place_of w) c.arcs (first_arc c) (walkable-arcs h) e

-- ---- noting the places, the last of m first: i are left, and the next one is at `at`
pub record Indexing (file w₀ : List ℕ) (first m : ℕ) (w : List ℕ) (at i : ℕ) : Type 0 where
  pub few : i ≤ m
  pub near : at + 20 * i ≤ first + 20 * m
  pub arcs : ArcsFrom file i at
  pub kept : Kept offsets arc_nexts w₀ w
  pub left : (f : ℕ → ℕ) → ((j : ℕ) → i ≤ j → j < m → f j ≡ place_of w j) → places i at file ≡ falling f i → places m first file ≡ falling f m

pub Indexing-start : (file w : List ℕ) (first m : ℕ) → ArcsFrom file m first → Indexing file w first m w first m
Indexing-start file w first m h = record { few = omega arith; near = omega arith; arcs = h; kept = kept_same offsets arc_nexts w; left = λ f g e. e }

pub Indexing-more : {file w₀ w w'' : List ℕ} {first m at k : ℕ} → m ≤ 2048 → Kept (offsets + k / 4) (offsets + k / 4 + 1) w w''
    → ((j : ℕ) → place_of w'' j ≡ cond (eqb j k) at (place_of w j)) → Indexing file w₀ first m w at (suc k) → Indexing file w₀ first m w'' (after file at) k
Indexing-more {file} {w₀} {w} {w''} {first} {m} {at} {k} h l set s = record {
  few = omega (arith, s.few);
  near = omega (arith, s.near, first-size file k at s.arcs);
  arcs = other_arcs file k at s.arcs;
  kept = kept_then s.kept (kept-wider (omega (arith, s.few)) (omega (arith, s.few)) l);
  left = λ f g e. s.left f (λ j a b. g j (omega arith) b ∙ set j ∙ rw (ne_eqb j k (λ p. omega arith)))
      (places-at file k at ∙ ap₂ (λ (x : ℕ) (t : List ℕ). x ∷ t) (sym (g k (omega arith) (omega (arith, s.few)) ∙ set k ∙ rw (eq-eqb k k refl))) e ∙ sym (falling-at f k));
}

pub Indexing-end : {file w₀ w : List ℕ} {first m at i : ℕ} → i ≡ 0 → Indexing file w₀ first m w at i → places m first file ≡ falling (place_of w) m
unfolding places falling
Indexing-end {w = w} e s = s.left (place_of w) (λ j h g. refl) (rw e)
