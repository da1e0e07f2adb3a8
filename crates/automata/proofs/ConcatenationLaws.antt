-- ConcatenationLaws: the concatenation accepts a word just if it splits into a word of the one and a word of the other.
use mathlib.Core.Path.{◌∙◌, ◌≡◌, ap, refl, sym}
use mathlib.Core.Logic.{◌↔◌, ⊎_elim}
use Prim.Native.Nat.{◌+◌, ◌-◌, ◌<◌, suc, zero, ℕ}
use lib.ListN.{get_elem?, length, length-replicate, replicate, replicate-append-replicate}
use mathlib.Core.Bool.{false, false≢true, true}
use mathlib.Core.List.Memᴰ
use mathlib.Core.List.{List, Memᴰ, ◌++◌, ◌∷◌, map}
use mathlib.Core.Option.{Option, some-injective, none, some}
use native.Mathlib.Nat.{add-zero}
use native.Mathlib.Omega.{arith}
use Rattle.automata.specs.Automaton.{Accepts, Arc, Automaton, Configuration, DoesAll, Final, Produces, Run, WellFormed, silent, spell, start, states, stay}
use Rattle.automata.specs.Joins.{concatenation, empty_move, final_states, moved_arc}
use Rattle.automata.specs.Languages.{Concatenation}
use Rattle.automata.specs.Performing.{holds}
use Rattle.automata.specs.Unfolding.{read_zero}
use Rattle.automata.proofs.ListLaws.{at_back, at_front, get_elem?-append, get_elem?-lt, none-some}
use Rattle.automata.proofs.Parts.{Beside, Cut, Laid, Layout, Own, back, behind, Cut-here, Cut-silent, Cut-spell, final_states-iff, image, in_front, into, Laid-behind, Laid-in_front, own-start, tail_zeros, zeros}
use Rattle.automata.proofs.RunLaws.{carried, joined}

falses : (n i : ℕ) → get_elem? (replicate n false) i ≡ some true → ⊥
falses zero i e = none-some refl e
falses (suc n) zero e = false≢true (some-injective false true e)
falses (suc n) (suc i) e = falses n i e

module _ (a b : Automaton) (va : WellFormed a) (vb : WellFormed b) where
  abbrev u : Automaton
  u = concatenation a b

  abbrev lay_a : Layout
  lay_a = in_front (λ s. s) a.registers (zeros (b.registers - 1))

  laid_a : Laid lay_a a
  laid_a = Laid-in_front a va (λ s. s) (zeros (b.registers - 1))

  abbrev lay_b : List ℕ → Layout
  lay_b w = behind (λ s. states a + s) b.registers (a.registers - 1) w

  laid_b : (w : List ℕ) → Own a.registers w → Laid (lay_b w) b
  laid_b w o = Laid-behind b vb (λ s. states a + s) (a.registers - 1) w (omega (arith, o.0, va.some_register)) o.1

  -- from which group an arc of the concatenation comes
  data Whence (y : Arc) : Type 0 where
    of_a : Memᴰ y a.arcs → Whence y
    cross : (s : ℕ) → Final a s → y ≡ empty_move s (states a) → Whence y
    of_b : (x : Arc) → Memᴰ x b.arcs → y ≡ moved_arc (states a) (a.registers - 1) x → Whence y

  whence : (y : Arc) → Memᴰ y u.arcs → Whence y
  unfolding concatenation
  whence y m = ⊎_elim of_a
      (λ m. ⊎_elim
      (λ m. let p = Memᴰ.of_map (λ s. empty_move s (states a)) (final_states 0 a.finals) m in
      let q = (final_states-iff 0 a.finals p.0).0 p.1 in
      let e : p.0 ≡ q.0 = omega (arith, q.1) in cross p.0 (rw e q.2) (sym p.2))
      (λ m. let p = Memᴰ.of_map (λ x. moved_arc (states a) (a.registers - 1) x) b.arcs m in of_b p.0 p.1 (sym p.2))
      (Memᴰ.append_cases (map (λ s. empty_move s (states a)) (final_states 0 a.finals)) m))
      (Memᴰ.append_cases a.arcs m)

  has_a : (x : Arc) → Memᴰ x a.arcs → Memᴰ (image lay_a x) u.arcs
  unfolding concatenation
  has_a x m = Memᴰ.append_left _ m

  has_b : (w : List ℕ) (x : Arc) → Memᴰ x b.arcs → Memᴰ (image (lay_b w) x) u.arcs
  unfolding concatenation
  has_b w x m = Memᴰ.append_right a.arcs (Memᴰ.append_right (map (λ s. empty_move s (states a)) (final_states 0 a.finals)) (Memᴰ.map (λ x. moved_arc (states a) (a.registers - 1) x) m))

  crosses : (s : ℕ) → Final a s → Memᴰ (empty_move s (states a)) u.arcs
  unfolding concatenation
  crosses s f = let e : s ≡ 0 + s = omega arith in
      Memᴰ.append_right a.arcs (Memᴰ.append_left _ (Memᴰ.map (λ s. empty_move s (states a)) ((final_states-iff 0 a.finals s).1 (s, e, f))))

  start_a : Beside lay_a a (start a) (start u)
  unfolding concatenation
  start_a = let e : a.registers + (b.registers - 1) ≡ a.registers + b.registers - 1 = omega arith in
      record { small = va.some_state; good = own-start a va; at = refl; holds = sym (replicate-append-replicate a.registers (b.registers - 1) 0 ∙ ap zeros e) }

  start_b : (w : List ℕ) (d : Configuration) → d.state ≡ states a → d.contents ≡ w ++ zeros (b.registers - 1) → Beside (lay_b w) b (start b) d
  start_b w d e f = record { small = vb.some_state; good = own-start b vb; at = e ∙ sym (add-zero (states a)); holds = f ∙ ap (λ (l : List ℕ). w ++ l) (sym (tail_zeros b.registers)) }

  not-final_a : (s : ℕ) → s < states a → Final u s → ⊥
  unfolding concatenation
  not-final_a s h f = falses (states a) s (sym (at_front (replicate (states a) false) b.finals s (omega (arith, length-replicate (states a) false))) ∙ f)

  final_b : (s : ℕ) → Final u (states a + s) ↔ Final b s
  unfolding concatenation
  final_b s = let e : states a ≡ length (replicate (states a) false) = sym (length-replicate (states a) false) in
      let q : get_elem? u.finals (states a + s) ≡ get_elem? b.finals s = ap (λ (n : ℕ). get_elem? u.finals (n + s)) e ∙ at_back (replicate (states a) false) b.finals s in
      (λ f. sym q ∙ f, λ f. q ∙ f)

  concat_to : (v w : List ℕ) → Accepts a v → Accepts b w → Accepts u (v ++ w)
  concat_to v w s t =
      let r = carried (Beside lay_a a) (λ c c' d α r m. into lay_a a u va laid_a c c' d α r m (has_a m.arc m.listed)) (start u) start_a s.run in
      let h = s.end.contents in
      let g = r.2.good in
      let y : Configuration = record { state = states a; contents = r.0.contents } in
      let over : Produces u r.0 none y = record {
        arc = empty_move s.end.state (states a);
        listed = crosses s.end.state s.final;
        leaves = sym r.2.at;
        spells = refl;
        enters = refl;
        does = (r.0.contents, (refl, ap (λ (l : List ℕ). get_elem? l 0) r.2.holds ∙ get_elem?-append h (zeros (b.registers - 1)) 0 g.1), refl);
      } in
      let q = carried (Beside (lay_b h) b) (λ c c' d α r m. into (lay_b h) b u vb (laid_b h g) c c' d α r m (has_b h m.arc m.listed)) y (start_b h y refl r.2.holds) t.run in
      record { end = q.0; run = joined r.1 (silent over q.1); final = rw q.2.at ((final_b t.end.state).1 t.final) }

  -- past the crossing
  in_b : (h : List ℕ) → Own a.registers h → (d d' : Configuration) (w : List ℕ) → d.state ≡ states a → d.contents ≡ h ++ zeros (b.registers - 1) → Run (Produces u) d w d' → Final u d'.state → Accepts b w
  in_b h o d d' w e f r g =
      let q = carried (λ (d c : Configuration). Beside (lay_b h) b c d) step (start b) (start_b h d e f) r in
      record { end = q.0; run = q.1; final = (final_b q.0.state).0 (rw q.2.at at g) }
    where
      step : (d d' c : Configuration) (α : Option ℕ) → Beside (lay_b h) b c d → Produces u d α d' → (c' : Configuration) × Produces b c α c' × Beside (lay_b h) b c' d'
      step d d' c α r m = go (whence m.arc m.listed)
        where
          go : Whence m.arc → (c' : Configuration) × Produces b c α c' × Beside (lay_b h) b c' d'
          go (of_a k) = absurd (omega (arith, va.sources m.arc k, m.leaves, r.at))
          go (cross s f e) = absurd (omega (arith, get_elem?-lt a.finals s f, ap (λ (y : Arc). y.source) e, m.leaves, r.at))
          go (of_b x k e) = back (lay_b h) b u vb (laid_b h o) c d d' α r m x k e (omega (arith, ap (λ (y : Arc). y.source) e, m.leaves, r.at))

  in_a : {w : List ℕ} (c d d' : Configuration) → Beside lay_a a c d → Run (Produces u) d w d' → Final u d'.state → Cut a (Accepts b) c w
  in_a c d d' r stay f = absurd (not-final_a c.state r.small (rw r.at at f))
  in_a c d d' r (silent {y = y} {w = w} m q) f = go (λ c' r'. in_a c' y d' r' q f) (whence m.arc m.listed)
    where
      go : ((c' : Configuration) → Beside lay_a a c' y → Cut a (Accepts b) c' w) → Whence m.arc → Cut a (Accepts b) c w
      go ih (of_a k) =
          let s = back lay_a a u va laid_a c d y none r m m.arc k refl (m.leaves ∙ r.at) in
          Cut-silent s.1 (ih s.0 s.2)
      go ih (cross s g e) =
          let did : DoesAll read_zero d.contents y.contents = rw (ap (λ (y : Arc). y.ops) e) at m.does in
          let here : s ≡ c.state = omega (arith, ap (λ (y : Arc). y.source) e, m.leaves, r.at) in
          let there : y.state ≡ states a = omega (arith, ap (λ (y : Arc). y.target) e, m.enters) in
          Cut-here (rw (← here) g) (in_b c.contents r.good y d' w there (sym (did.1.0 ∙ did.2) ∙ r.holds) q f)
      go ih (of_b x k e) = absurd (omega (arith, ap (λ (y : Arc). y.source) e, m.leaves, r.at, r.small))
  in_a c d d' r (spell {y = y} {a = l} {w = w} m q) f = go (λ c' r'. in_a c' y d' r' q f) (whence m.arc m.listed)
    where
      go : ((c' : Configuration) → Beside lay_a a c' y → Cut a (Accepts b) c' w) → Whence m.arc → Cut a (Accepts b) c (l ∷ w)
      go ih (of_a k) =
          let s = back lay_a a u va laid_a c d y (some l) r m m.arc k refl (m.leaves ∙ r.at) in
          Cut-spell s.1 (ih s.0 s.2)
      go ih (cross s g e) = none-some (ap (λ (y : Arc). y.letter) e) m.spells
      go ih (of_b x k e) = absurd (omega (arith, ap (λ (y : Arc). y.source) e, m.leaves, r.at, r.small))

  concat_from : (w : List ℕ) → Accepts u w → Cut a (Accepts b) (start a) w
  concat_from w t = in_a (start a) (start u) t.end start_a t.run t.final

  -- THE LAW of concatenation
  pub concatenation-iff : (w : List ℕ) → Accepts u w ↔ Concatenation (Accepts a) (Accepts b) w
  concatenation-iff w = (
    λ t. let s = concat_from w t in record { left = s.left; right = s.right; whole = s.whole; first = record { end = s.end; run = s.run; final = s.final }; second = s.rest },
    λ s. rw s.whole (concat_to s.left s.right s.first s.second),
  )
