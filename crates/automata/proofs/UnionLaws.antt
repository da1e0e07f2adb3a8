-- UnionLaws: the union accepts a word just if one of the two automata does.
use mathlib.Core.Path.{◌∙◌, ◌≡◌, ap, refl, sym}
use mathlib.Core.Logic.{◌↔◌, ◌⊎◌, inl, inr, ⊎_elim}
use Prim.Native.Nat.{◌+◌, ◌-◌, ◌<◌, ◌≤◌, max, suc, ℕ}
use lib.ListN.{replicate-append-replicate}
use mathlib.Core.Bool.{false, false≢true, true}
use mathlib.Core.List.Memᴰ
use mathlib.Core.List.{List, Memᴰ, ◌++◌, map}
use mathlib.Core.Option.{Option, some-injective, none, some}
use native.Mathlib.Nat.{add-zero}
use native.Mathlib.Numerals.{one-add}
use native.Mathlib.Omega.{arith}
use Rattle.automata.specs.Automaton.{Accepts, Arc, Automaton, Configuration, DoesAll, Final, Produces, Run, WellFormed, silent, spell, start, states, stay}
use Rattle.automata.specs.Joins.{empty_move, moved, union}
use Rattle.automata.specs.Performing.{holds}
use Rattle.automata.specs.Unfolding.{read_zero}
use Rattle.automata.proofs.ListLaws.{at_back, at_front, none-some}
use Rattle.automata.proofs.Parts.{Beside, Laid, Layout, back, image, in_front, into, Laid-in_front, own-start, zeros, zeros-at}
use Rattle.automata.proofs.RunLaws.{carried}

module _ (a b : Automaton) (va : WellFormed a) (vb : WellFormed b) where
  abbrev u : Automaton
  u = union a b

  abbrev lay_a : Layout
  lay_a = in_front (λ s. 1 + s) a.registers (zeros (max a.registers b.registers - a.registers))

  abbrev lay_b : Layout
  lay_b = in_front (λ s. 1 + states a + s) b.registers (zeros (max a.registers b.registers - b.registers))

  laid_a : Laid lay_a a
  laid_a = Laid-in_front a va (λ s. 1 + s) (zeros (max a.registers b.registers - a.registers))

  laid_b : Laid lay_b b
  laid_b = Laid-in_front b vb (λ s. 1 + states a + s) (zeros (max a.registers b.registers - b.registers))

  -- from which group an arc of the union comes
  data Whence (y : Arc) : Type 0 where
    entry : (t : ℕ) → (t ≡ 1) ⊎ (t ≡ 1 + states a) → y ≡ empty_move 0 t → Whence y
    of_a : (x : Arc) → Memᴰ x a.arcs → y ≡ moved 1 x → Whence y
    of_b : (x : Arc) → Memᴰ x b.arcs → y ≡ moved (1 + states a) x → Whence y

  whence : (y : Arc) → Memᴰ y u.arcs → Whence y
  unfolding union
  whence y m = ⊎_elim (entry 1 (inl refl))
      (λ m. ⊎_elim (entry (1 + states a) (inr refl))
      (λ m. ⊎_elim
      (λ m. let p = Memᴰ.of_map (moved 1) a.arcs m in of_a p.0 p.1 (sym p.2))
      (λ m. let p = Memᴰ.of_map (moved (1 + states a)) b.arcs m in of_b p.0 p.1 (sym p.2))
      (Memᴰ.append_cases (map (moved 1) a.arcs) m))
      (Memᴰ.cases_cons m))
      (Memᴰ.cases_cons m)

  has_a : (x : Arc) → Memᴰ x a.arcs → Memᴰ (image lay_a x) u.arcs
  unfolding union
  has_a x m = Memᴰ.tail (Memᴰ.tail (Memᴰ.append_left (map (moved (1 + states a)) b.arcs) (Memᴰ.map (moved 1) m)))

  has_b : (x : Arc) → Memᴰ x b.arcs → Memᴰ (image lay_b x) u.arcs
  unfolding union
  has_b x m = Memᴰ.tail (Memᴰ.tail (Memᴰ.append_right (map (moved 1) a.arcs) (Memᴰ.map (moved (1 + states a)) m)))

  padded : (m n : ℕ) → m ≤ n → zeros n ≡ zeros m ++ zeros (n - m)
  padded m n h = let e : m + (n - m) ≡ n = omega arith in sym (replicate-append-replicate m (n - m) 0 ∙ ap zeros e)

  beside_a : (d : Configuration) → d.state ≡ 1 → d.contents ≡ (start u).contents → Beside lay_a a (start a) d
  unfolding union
  beside_a d e f = record { small = va.some_state; good = own-start a va; at = e; holds = f ∙ padded a.registers (max a.registers b.registers) (omega arith) }

  beside_b : (d : Configuration) → d.state ≡ 1 + states a → d.contents ≡ (start u).contents → Beside lay_b b (start b) d
  unfolding union
  beside_b d e f = record { small = vb.some_state; good = own-start b vb; at = e ∙ sym (add-zero (1 + states a)); holds = f ∙ padded b.registers (max a.registers b.registers) (omega arith) }

  final_a : (s : ℕ) → s < states a → Final u (1 + s) ↔ Final a s
  unfolding union
  final_a s h = rw (one-add, at_front a.finals b.finals s h) (λ e. e, λ e. e)

  final_b : (s : ℕ) → Final u (1 + states a + s) ↔ Final b s
  unfolding union
  final_b s = let e : 1 + states a + s ≡ suc (states a + s) = omega arith in rw (e, at_back a.finals b.finals s) (λ e. e, λ e. e)

  -- ---- a run of one of the two is a run of the union
  enters-at : (t : ℕ) → Memᴰ (empty_move 0 t) u.arcs → Produces u (start u) none (record { state = t; contents = (start u).contents })
  unfolding union
  enters-at t m = record {
    arc = empty_move 0 t;
    listed = m;
    leaves = refl;
    spells = refl;
    enters = refl;
    does = ((start u).contents, (refl, zeros-at (max a.registers b.registers) (omega (arith, va.some_register))), refl);
  }

  union-to : (w : List ℕ) → Accepts a w ⊎ Accepts b w → Accepts u w
  unfolding union
  union-to w (inl t) =
      let y : Configuration = record { state = 1; contents = (start u).contents } in
      let r = carried (Beside lay_a a) (λ c c' d α r m. into lay_a a u va laid_a c c' d α r m (has_a m.arc m.listed)) y (beside_a y refl refl) t.run in
      record { end = r.0; run = silent (enters-at 1 (Memᴰ.head refl)) r.1; final = rw r.2.at ((final_a t.end.state r.2.small).1 t.final) }
  union-to w (inr t) =
      let y : Configuration = record { state = 1 + states a; contents = (start u).contents } in
      let r = carried (Beside lay_b b) (λ c c' d α r m. into lay_b b u vb laid_b c c' d α r m (has_b m.arc m.listed)) y (beside_b y refl refl) t.run in
      record { end = r.0; run = silent (enters-at (1 + states a) (Memᴰ.tail (Memᴰ.head refl))) r.1; final = rw r.2.at ((final_b t.end.state).1 t.final) }

  -- ---- behind its first move a run of the union is a run of one of the two
  from_a : (d d' c : Configuration) (α : Option ℕ) → Beside lay_a a c d → Produces u d α d' → (c' : Configuration) × Produces a c α c' × Beside lay_a a c' d'
  from_a d d' c α r m = go (whence m.arc m.listed)
    where
      go : Whence m.arc → (c' : Configuration) × Produces a c α c' × Beside lay_a a c' d'
      go (entry t h e) = absurd (omega (arith, ap (λ (y : Arc). y.source) e, m.leaves, r.at))
      go (of_a x k e) = back lay_a a u va laid_a c d d' α r m x k e (omega (arith, ap (λ (y : Arc). y.source) e, m.leaves, r.at))
      go (of_b x k e) = absurd (omega (arith, ap (λ (y : Arc). y.source) e, m.leaves, r.at, r.small))

  from_b : (d d' c : Configuration) (α : Option ℕ) → Beside lay_b b c d → Produces u d α d' → (c' : Configuration) × Produces b c α c' × Beside lay_b b c' d'
  from_b d d' c α r m = go (whence m.arc m.listed)
    where
      go : Whence m.arc → (c' : Configuration) × Produces b c α c' × Beside lay_b b c' d'
      go (entry t h e) = absurd (omega (arith, ap (λ (y : Arc). y.source) e, m.leaves, r.at))
      go (of_a x k e) = absurd (omega (arith, ap (λ (y : Arc). y.source) e, m.leaves, r.at, va.sources x k))
      go (of_b x k e) = back lay_b b u vb laid_b c d d' α r m x k e (omega (arith, ap (λ (y : Arc). y.source) e, m.leaves, r.at))

  in_a : (y d : Configuration) (w : List ℕ) → y.state ≡ 1 → y.contents ≡ (start u).contents → Run (Produces u) y w d → Final u d.state → Accepts a w
  in_a y d w e f r g =
      let s = carried (λ (d c : Configuration). Beside lay_a a c d) from_a (start a) (beside_a y e f) r in
      record { end = s.0; run = s.1; final = (final_a s.0.state s.2.small).0 (rw s.2.at at g) }

  in_b : (y d : Configuration) (w : List ℕ) → y.state ≡ 1 + states a → y.contents ≡ (start u).contents → Run (Produces u) y w d → Final u d.state → Accepts b w
  in_b y d w e f r g =
      let s = carried (λ (d c : Configuration). Beside lay_b b c d) from_b (start b) (beside_b y e f) r in
      record { end = s.0; run = s.1; final = (final_b s.0.state).0 (rw s.2.at at g) }

  -- a move from the start is the first move into one of the two
  first-move : (y : Configuration) (α : Option ℕ) → Produces u (start u) α y → (α ≡ none) × (y.contents ≡ (start u).contents) × ((y.state ≡ 1) ⊎ (y.state ≡ 1 + states a))
  first-move y α m = go (whence m.arc m.listed)
    where
      go : Whence m.arc → (α ≡ none) × (y.contents ≡ (start u).contents) × ((y.state ≡ 1) ⊎ (y.state ≡ 1 + states a))
      go (entry t h e) =
          let did : DoesAll read_zero (start u).contents y.contents = rw (ap (λ (y : Arc). y.ops) e) at m.does in
          let there : t ≡ y.state = sym (ap (λ (y : Arc). y.target) e) ∙ m.enters in
          (sym m.spells ∙ ap (λ (y : Arc). y.letter) e, sym (did.1.0 ∙ did.2), rw (← there) h)
      go (of_a x k e) = absurd (omega (arith, ap (λ (y : Arc). y.source) e, m.leaves))
      go (of_b x k e) = absurd (omega (arith, ap (λ (y : Arc). y.source) e, m.leaves))

  start-not-final : Final u 0 → ⊥
  unfolding union
  start-not-final e = false≢true (some-injective false true e)

  union-from : (w : List ℕ) → Accepts u w → Accepts a w ⊎ Accepts b w
  union-from w t = starts (start u) t.end refl t.run t.final
    where
      starts : {w : List ℕ} (c d : Configuration) → c ≡ start u → Run (Produces u) c w d → Final u d.state → Accepts a w ⊎ Accepts b w
      starts c d e stay f = absurd (start-not-final (rw (ap (λ (c : Configuration). c.state) e) at f))
      starts c d e (silent {y = y} {w = w} m r) f =
          let p = first-move y none (rw e at m) in
          ⊎_elim (λ q. inl (in_a y d w q p.1 r f)) (λ q. inr (in_b y d w q p.1 r f)) p.2
      starts c d e (spell {y = y} {a = x} m r) f = let p = first-move y (some x) (rw e at m) in none-some p.0 refl

  -- THE LAW of union
  pub union-iff : (w : List ℕ) → Accepts u w ↔ (Accepts a w ⊎ Accepts b w)
  union-iff w = (union-from w, union-to w)
