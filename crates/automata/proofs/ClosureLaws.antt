-- ClosureLaws: the closure accepts a word just if it is a finite sequence of accepted words.
use mathlib.Core.Path.{◌∙◌, ◌≡◌, ap, refl, sym}
use mathlib.Core.Logic.{◌↔◌, ⊎_elim}
use Prim.Native.Nat.{◌+◌, ◌<◌, suc, zero, ℕ}
use lib.Dec.{ltb, lt→ltb}
use lib.ListN.{get_elem?, length, length-append}
use lib.Seq.{append_snoc, set-append_seam}
use mathlib.Core.List.Memᴰ
use mathlib.Core.List.{List, Memᴰ, [], ◌++◌, ◌∷◌, append-nil, map}
use mathlib.Core.Option
use mathlib.Core.Option.{Option, some-injective, bind, none, some}
use native.Mathlib.Nat.{not-suc-le-zero}
use native.Mathlib.Numerals.{one-add}
use native.Mathlib.Omega.{arith}
use Rattle.automata.specs.Automaton.{Accepts, Arc, Automaton, Configuration, DoesAll, Final, Op, Produces, Run, WellFormed, silent, spell, start, stay, writes}
use Rattle.automata.specs.Joins.{arc_from, clearing, closure, empty_move, final_states, moved}
use Rattle.automata.specs.Languages.{Star, more, nothing}
use Rattle.automata.specs.Lists.{count_from}
use Rattle.automata.specs.Performing.{act, holds, perform}
use Rattle.automata.specs.Unfolding.{read_zero}
use Rattle.automata.proofs.ListLaws.{T_true, none-some}
use Rattle.automata.proofs.Parts.{Beside, Cut, Laid, Layout, Own, back, Cut-here, Cut-silent, Cut-spell, final_states-iff, image, into, own-kept, own-start, zeros, zeros-at}
use Rattle.automata.proofs.PerformingLaws.{perform-iff}
use Rattle.automata.proofs.RunLaws.{carried, joined}

-- ---- the return
abbrev zeroing : List ℕ → List Op
zeroing l = map (λ i. writes i 0) l

zeroing-all : (m : ℕ) (p t : List ℕ) → length t ≡ m → perform (zeroing (count_from (length p) m)) (p ++ t) ≡ some (p ++ zeros m)
unfolding count_from perform act bind
zeroing-all zero [] [] h = refl
zeroing-all zero (x ∷ p) [] h = refl
zeroing-all zero p (x ∷ t) h = absurd (omega arith)
zeroing-all (suc m) p [] h = absurd (omega arith)
zeroing-all (suc m) p (x ∷ t) h =
    let len : length (p ++ 0 ∷ []) ≡ suc (length p) = omega (arith, length-append p (0 ∷ [])) in
    let fits : length p < length (p ++ x ∷ t) = omega (arith, length-append p (x ∷ t)) in
    rw (T_true (ltb (length p) (length (p ++ x ∷ t))) (lt→ltb (length p) (length (p ++ x ∷ t)) fits), set-append_seam p x t 0)
    (rw (len, append_snoc p 0 t, append_snoc p 0 (zeros m)) at (zeroing-all m (p ++ 0 ∷ []) t (omega arith)))

cleared : (n : ℕ) (v : List ℕ) → 0 < n → length v ≡ n → get_elem? v 0 ≡ some 0 → DoesAll (clearing n) v (zeros n)
unfolding clearing
cleared zero v h s z = absurd (not-suc-le-zero h)
cleared (suc zero) [] h s z = none-some refl z
cleared (suc zero) (x ∷ []) h s z = (x ∷ [], (refl, z), ap (λ (y : ℕ). y ∷ []) (some-injective x 0 z))
cleared (suc zero) (x ∷ y ∷ v) h s z = absurd (omega arith)
cleared (suc (suc n)) [] h s z = none-some refl z
cleared (suc (suc n)) (x ∷ v) h s z =
    let e : x ≡ 0 = some-injective x 0 z in
    let q : perform (zeroing (count_from 1 (suc n))) (x ∷ v) ≡ some (zeros (suc (suc n))) = rw e (zeroing-all (suc n) (0 ∷ []) v (omega arith)) in
    (perform-iff (zeroing (count_from 1 (suc n))) (x ∷ v) (zeros (suc (suc n)))).0 q

map_same : {A : Type 0} (o : Option A) → o ≡ Option.map (λ (x : A). x) o
map_same none = refl
map_same (some x) = refl

module _ (a : Automaton) (va : WellFormed a) where
  abbrev u : Automaton
  u = closure a

  abbrev lay : Layout
  lay = record { place = λ s. 1 + s; ops_in = λ ops. ops; lay = λ v. v; Good = Own a.registers }

  laid : Laid lay a
  laid = record { keeps = own-kept a va; does = λ x k v g. map_same (perform x.ops v) }

  -- from which group an arc of the closure comes
  data Whence (y : Arc) : Type 0 where
    entry : y ≡ empty_move 0 1 → Whence y
    of_a : (x : Arc) → Memᴰ x a.arcs → y ≡ moved 1 x → Whence y
    again : (s : ℕ) → Final a s → y ≡ arc_from (1 + s) none 1 (clearing a.registers) → Whence y

  whence : (y : Arc) → Memᴰ y u.arcs → Whence y
  unfolding closure
  whence y m = ⊎_elim entry
      (λ m. ⊎_elim
      (λ m. let p = Memᴰ.of_map (moved 1) a.arcs m in of_a p.0 p.1 (sym p.2))
      (λ m. let p = Memᴰ.of_map (λ s. arc_from (1 + s) none 1 (clearing a.registers)) (final_states 0 a.finals) m in
      let q = (final_states-iff 0 a.finals p.0).0 p.1 in
      let e : p.0 ≡ q.0 = omega (arith, q.1) in again p.0 (rw e q.2) (sym p.2))
      (Memᴰ.append_cases (map (moved 1) a.arcs) m))
      (Memᴰ.cases_cons m)

  has_a : (x : Arc) → Memᴰ x a.arcs → Memᴰ (image lay x) u.arcs
  unfolding closure
  has_a x m = Memᴰ.tail (Memᴰ.append_left _ (Memᴰ.map (moved 1) m))

  returns : (s : ℕ) → Final a s → Memᴰ (arc_from (1 + s) none 1 (clearing a.registers)) u.arcs
  unfolding closure
  returns s f = let e : s ≡ 0 + s = omega arith in
      Memᴰ.tail (Memᴰ.append_right (map (moved 1) a.arcs) (Memᴰ.map (λ s. arc_from (1 + s) none 1 (clearing a.registers)) ((final_states-iff 0 a.finals s).1 (s, e, f))))

  abbrev once : Configuration
  once = record { state = 1; contents = zeros a.registers }

  beside : (d : Configuration) → d.state ≡ 1 → d.contents ≡ zeros a.registers → Beside lay a (start a) d
  beside d e f = record { small = va.some_state; good = own-start a va; at = e; holds = f }

  final_a : (s : ℕ) → Final u (1 + s) ↔ Final a s
  unfolding closure
  final_a s = rw one-add (λ e. e, λ e. e)

  enters : Produces u (start u) none once
  unfolding closure
  enters = record { arc = empty_move 0 1; listed = Memᴰ.head refl; leaves = refl; spells = refl; enters = refl; does = (zeros a.registers, (refl, zeros-at a.registers va.some_register), refl) }

  one : (v : List ℕ) (t : Accepts a v) → (d : Configuration) × Run (Produces u) once v d × Beside lay a t.end d
  one v t = carried (Beside lay a) (λ c c' d α r m. into lay a u va laid c c' d α r m (has_a m.arc m.listed)) once (beside once refl refl) t.run

  return : (v : List ℕ) (t : Accepts a v) → Produces u (one v t).0 none once
  return v t =
      let r = one v t in
      record {
        arc = arc_from (1 + t.end.state) none 1 (clearing a.registers);
        listed = returns t.end.state t.final;
        leaves = sym r.2.at;
        spells = refl;
        enters = refl;
        does = cleared a.registers r.0.contents va.some_register (ap length r.2.holds ∙ r.2.good.0) (ap (λ (l : List ℕ). get_elem? l 0) r.2.holds ∙ r.2.good.1);
      }

  -- from state 1 on, one word of a and then more
  goes : {w : List ℕ} (v : List ℕ) → Accepts a v → Star (Accepts a) w → (d : Configuration) × Run (Produces u) once (v ++ w) d × Final u d.state
  goes v t nothing =
      let r = one v t in
      (r.0, rw append-nil r.1, rw r.2.at ((final_a t.end.state).1 t.final))
  goes {w} v t (more v' r' e t' s) =
      let r = one v t in
      let g = goes v' t' s in
      let run : Run (Produces u) once w g.0 = rw e g.1 in
      (g.0, joined r.1 (silent (return v t) run), g.2)

  closure-to : {w : List ℕ} → Star (Accepts a) w → Accepts u w
  unfolding closure
  closure-to nothing = record { end = start u; run = stay; final = refl }
  closure-to {w} (more v r e t s) =
      let g = goes v t s in
      let run : Run (Produces u) once w g.0 = rw e g.1 in
      record { end = g.0; run = silent enters run; final = g.2 }

  Cut-star : {w : List ℕ} → Cut a (Star (Accepts a)) (start a) w → Star (Accepts a) w
  Cut-star s = more s.left s.right s.whole (record { end = s.end; run = s.run; final = s.final }) s.rest

  in_a : {w : List ℕ} (c d d' : Configuration) → Beside lay a c d → Run (Produces u) d w d' → Final u d'.state → Cut a (Star (Accepts a)) c w
  in_a c d d' r stay f = Cut-here ((final_a c.state).0 (rw r.at at f)) nothing
  in_a c d d' r (silent {y = y} {w = w} m q) f = go (λ c' r'. in_a c' y d' r' q f) (whence m.arc m.listed)
    where
      go : ((c' : Configuration) → Beside lay a c' y → Cut a (Star (Accepts a)) c' w) → Whence m.arc → Cut a (Star (Accepts a)) c w
      go ih (entry e) = absurd (omega (arith, ap (λ (y : Arc). y.source) e, m.leaves, r.at))
      go ih (of_a x k e) =
          let s = back lay a u va laid c d y none r m x k e (omega (arith, ap (λ (y : Arc). y.source) e, m.leaves, r.at)) in
          Cut-silent s.1 (ih s.0 s.2)
      go ih (again s g e) =
          let here : s ≡ c.state = omega (arith, ap (λ (y : Arc). y.source) e, m.leaves, r.at) in
          let there : y.state ≡ 1 = omega (arith, ap (λ (y : Arc). y.target) e, m.enters) in
          Cut-here (rw (← here) g) (Cut-star (ih (start a) (beside y there clean)))
        where
          did : DoesAll (clearing a.registers) d.contents y.contents
          did = rw (ap (λ (y : Arc). y.ops) e) at m.does

          would : DoesAll (clearing a.registers) d.contents (zeros a.registers)
          would = cleared a.registers d.contents va.some_register (ap length r.holds ∙ r.good.0) (ap (λ (l : List ℕ). get_elem? l 0) r.holds ∙ r.good.1)

          clean : y.contents ≡ zeros a.registers
          clean = some-injective y.contents (zeros a.registers) (sym ((perform-iff (clearing a.registers) d.contents y.contents).1 did) ∙ (perform-iff (clearing a.registers) d.contents (zeros a.registers)).1 would)
  in_a c d d' r (spell {y = y} {a = l} {w = w} m q) f = go (λ c' r'. in_a c' y d' r' q f) (whence m.arc m.listed)
    where
      go : ((c' : Configuration) → Beside lay a c' y → Cut a (Star (Accepts a)) c' w) → Whence m.arc → Cut a (Star (Accepts a)) c (l ∷ w)
      go ih (entry e) = none-some (ap (λ (y : Arc). y.letter) e) m.spells
      go ih (of_a x k e) =
          let s = back lay a u va laid c d y (some l) r m x k e (omega (arith, ap (λ (y : Arc). y.source) e, m.leaves, r.at)) in
          Cut-spell s.1 (ih s.0 s.2)
      go ih (again s g e) = none-some (ap (λ (y : Arc). y.letter) e) m.spells

  starts : {w : List ℕ} (c d : Configuration) → c ≡ start u → Run (Produces u) c w d → Final u d.state → Star (Accepts a) w
  unfolding closure
  starts c d e stay f = nothing
  starts c d e (silent {y = y} {w = w} m q) f = go (whence m.arc m.listed)
    where
      at0 : c.state ≡ 0
      at0 = ap (λ (c : Configuration). c.state) e

      go : Whence m.arc → Star (Accepts a) w
      go (entry o) =
          let did : DoesAll read_zero c.contents y.contents = rw (ap (λ (y : Arc). y.ops) o) at m.does in
          Cut-star (in_a (start a) y d (beside y (sym m.enters ∙ ap (λ (y : Arc). y.target) o) (sym (did.1.0 ∙ did.2) ∙ ap (λ (c : Configuration). c.contents) e)) q f)
      go (of_a x k o) = absurd (omega (arith, ap (λ (y : Arc). y.source) o, m.leaves, at0))
      go (again s g o) = absurd (omega (arith, ap (λ (y : Arc). y.source) o, m.leaves, at0))
  starts c d e (spell {y = y} {a = l} {w = w} m q) f = go (whence m.arc m.listed)
    where
      at0 : c.state ≡ 0
      at0 = ap (λ (c : Configuration). c.state) e

      go : Whence m.arc → Star (Accepts a) (l ∷ w)
      go (entry o) = none-some (ap (λ (y : Arc). y.letter) o) m.spells
      go (of_a x k o) = absurd (omega (arith, ap (λ (y : Arc). y.source) o, m.leaves, at0))
      go (again s g o) = absurd (omega (arith, ap (λ (y : Arc). y.source) o, m.leaves, at0))

  -- THE LAW of closure
  pub closure-iff : (w : List ℕ) → Accepts u w ↔ Star (Accepts a) w
  closure-iff w = (λ t. starts (start u) t.end refl t.run t.final, closure-to)
