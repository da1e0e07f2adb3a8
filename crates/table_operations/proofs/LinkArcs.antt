-- LinkArcs: the chains of arcs by from-state. A walk along the chain of a state sees the arcs that leave it, in file order.
use mathlib.Core.Path.{◌∙◌, ◌≡◌, ap, ap₂, refl, sym}
use Prim.Native.Nat.{◌*◌, ◌+◌, ◌/◌, ◌<◌, ◌^◌, ◌≤◌, suc, zero, ℕ}
use lib.Dec.{eqb}
use lib.ListN.{drop, get_or}
use lib.Seq.{drop-drop, get_or-drop}
use mathlib.Core.Bool.{Bool, cond, false, true}
use mathlib.Core.List.{List, ◌∷◌}
use mathlib.Core.Option.{none}
use native.Mathlib.Omega.{arith}
use Rattle.automata.specs.Lists.{collect, prepend}
use Rattle.table_operations.specs.Arcs.{Indexed, Linked, Walkable, falling, place_of, places}
use Rattle.word_layout.specs.Layout.{arc_heads, arc_nexts, configs, offsets}
use Rattle.table_operations.specs.Packed.{Hop, hop, hops}
use Rattle.file_fields.specs.Parts.{first_arc}
use Rattle.file_fields.specs.declared.Counts.{Counts}
use Rattle.word_fields.specs.Chains.{Chain, no_entry}
use Rattle.word_fields.specs.Fields.{Apart, field}
use Rattle.word_fields.specs.Frame.{Beside, Kept}
use Rattle.table_operations.proofs.OperationLoop.{first-at}
use Rattle.table_operations.proofs.ArcPlaces.{after, cons_both, falling-at, places-at}
use Rattle.word_fields.proofs.Laws.{Beside-kept, chain-kept, chain-start, chosen, field-same, kept_same, kept_then}

-- the from-state of the arc of each entry
abbrev pub state_of : List ℕ → List ℕ → ℕ → ℕ
state_of file w j = get_or file (place_of w j) 0

-- ---- making the chains: j of m arcs have joined them
pub record Linking (file w₀ : List ℕ) (m : ℕ) (w : List ℕ) (j : ℕ) : Type 0 where
  pub few : j ≤ m
  pub kept : Kept arc_nexts configs w₀ w
  pub chain : Chain (state_of file w₀) w arc_heads arc_nexts 256 j

pub Linking-start : (file w : List ℕ) (m : ℕ) → ((s : ℕ) → s < 256 → field w arc_heads s ≡ no_entry) → Linking file w m w 0
Linking-start file w m f = record { few = omega arith; kept = kept_same arc_nexts configs w; chain = chain-start (state_of file w) w arc_heads arc_nexts 256 f }

-- the places of arcs stand below what changes
pub place_kept : {w w'' : List ℕ} → Kept arc_nexts configs w w'' → (j : ℕ) → j < 2048 → place_of w'' j ≡ place_of w j
place_kept {w} {w''} k j h = field-same w w'' offsets j (k.below (offsets + j / 4) (omega arith))

pub Linking-more : {file w₀ w w'' : List ℕ} {m j state : ℕ} → m ≤ 2048 → j < m → state ≡ state_of file w j → state < 256 → Beside (arc_heads + state / 4) (arc_nexts + j / 4) w w''
    → ((key : ℕ → ℕ) (slots : ℕ) → Chain key w arc_heads arc_nexts slots j → Apart arc_heads slots arc_nexts (j + 1) → state < slots → key j ≡ state → Chain key w'' arc_heads arc_nexts slots (j + 1))
    → Linking file w₀ m w j → Linking file w₀ m w'' (j + 1)
Linking-more {file} {w₀} {w} {w''} {m} {j} {state} h less e small b push s = record {
  few = omega arith;
  kept = kept_then s.kept (Beside-kept (omega arith) (omega arith) (omega arith) (omega arith) b);
  chain = push (state_of file w₀) 256 s.chain (λ i k p q r. omega arith) small (sym (e ∙ ap (λ (x : ℕ). get_or file x 0) (place_kept s.kept j (omega arith))));
}

pub Linking-end : {file w₀ w : List ℕ} {m j : ℕ} → m ≤ 2048 → m ≤ j → Linking file w₀ m w j → Chain (state_of file w) w arc_heads arc_nexts 256 m
Linking-end {file} {w₀} {w} {m} {j} h l s =
    let e : j ≡ m = omega (arith, s.few) in
    chain-kept (λ i g. ap (λ (x : ℕ). get_or file x 0) (sym (place_kept s.kept i (omega arith)))) (λ i g. refl) (λ i g. refl) (rw e at s.chain)

-- ---- other words change
falling-ext : (f g : ℕ → ℕ) (n : ℕ) → ((j : ℕ) → j < n → f j ≡ g j) → falling f n ≡ falling g n
unfolding falling
falling-ext f g zero h = refl
falling-ext f g (suc n) h = ap₂ (λ (x : ℕ) (l : List ℕ). x ∷ l) (h n (omega arith)) (falling-ext f g n (λ j k. h j (omega arith)))

pub indexed-kept : {c : Counts} {file : List ℕ} (w w'' : List ℕ) → Walkable c file → ((j : ℕ) → offsets ≤ j → j < arc_nexts → get_or w'' j 0 ≡ get_or w j 0) → Indexed c file w → Indexed c file w''
indexed-kept {c} w w'' y h i = i ∙ falling-ext (place_of w) (place_of w'') c.arcs (λ j l. sym (field-same w w'' offsets j (h (offsets + j / 4) (omega arith) (omega (arith, y.lies.few)))))

pub linked-kept : {c : Counts} {file : List ℕ} (w w'' : List ℕ) → Walkable c file → ((j : ℕ) → offsets ≤ j → j < configs → get_or w'' j 0 ≡ get_or w j 0) → Linked c file w → Linked c file w''
linked-kept {c} {file} w w'' y h l =
    chain-kept (λ j k. ap (λ (x : ℕ). get_or file x 0) (sym (field-same w w'' offsets j (h (offsets + j / 4) (omega arith) (omega (arith, y.lies.few))))))
    (λ s k. h (arc_heads + s / 4) (omega arith) (omega arith)) (λ j k. h (arc_nexts + j / 4) (omega arith) (omega (arith, y.lies.few))) l

-- ---- walking along them
-- what the arcs of these entries make of the configuration `own`
abbrev pub hops_of : List ℕ → List ℕ → ℕ → List ℕ → List Hop
hops_of file w own js = collect (λ j. hop (drop (place_of w j) file) own) js

hops-at : (file : List ℕ) (own m at : ℕ)
    → hops (suc m) (drop at file) own ≡ prepend (cond (eqb (get_or file at 0) (own / 2 ^ 32)) (hop (drop at file) own) none) (hops m (drop (after file at) file) own)
unfolding hops
hops-at file own m at = rw (first-at file at, get_or-drop at file 3 0, drop-drop (4 + 2 * get_or file (at + 3) 0) at file)

hops-of : (file : List ℕ) (f : ℕ → ℕ) (own m at : ℕ) → places m at file ≡ falling f m
    → hops m (drop at file) own ≡ collect (λ j. hop (drop (f j) file) own) (chosen (λ j. get_or file (f j) 0) (own / 2 ^ 32) m)
unfolding chosen collect
hops-of file f own zero at e = unfold hops in refl
hops-of file f own (suc m) at e = hops-at file own m at ∙ go (eqb (get_or file at 0) (own / 2 ^ 32)) refl (hops-of file f own m (after file at) both.1)
  where
    both : (at ≡ f m) × (places m (after file at) file ≡ falling f m)
    both = cons_both (sym (places-at file m at) ∙ e ∙ falling-at f m)

    go : (t : Bool) → eqb (get_or file at 0) (own / 2 ^ 32) ≡ t
        → hops m (drop (after file at) file) own ≡ collect (λ j. hop (drop (f j) file) own) (chosen (λ j. get_or file (f j) 0) (own / 2 ^ 32) m)
        → prepend (cond (eqb (get_or file at 0) (own / 2 ^ 32)) (hop (drop at file) own) none) (hops m (drop (after file at) file) own)
        ≡ collect (λ j. hop (drop (f j) file) own) (chosen (λ j. get_or file (f j) 0) (own / 2 ^ 32) (suc m))
    go true t ih = rw (← both.0, t, ← both.0) (ap (prepend (hop (drop at file) own)) ih)
    go false t ih = rw (← both.0, t) ih

pub hops-chosen : (c : Counts) (file w : List ℕ) (own : ℕ) → Indexed c file w
    → hops c.arcs (drop (first_arc c) file) own ≡ hops_of file w own (chosen (state_of file w) (own / 2 ^ 32) c.arcs)
hops-chosen c file w own e = hops-of file (place_of w) own c.arcs (first_arc c) e
