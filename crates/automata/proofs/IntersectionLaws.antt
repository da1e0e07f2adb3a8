-- IntersectionLaws: the intersection accepts a word just if both automata do.
use mathlib.Core.Path.{◌∙◌, ◌≡◌, ap, ap₂, refl, subst, sym}
use mathlib.Core.Logic.{◌↔◌, ⊎_elim}
use Prim.Native.Nat.{◌%◌, ◌*◌, ◌+◌, ◌-◌, ◌/◌, ◌<◌, suc, zero, zero-le, ℕ}
use lib.Arith.{digits_div, digits_mod}
use lib.Dec.{T}
use lib.ListN.{drop, get_elem?, length, length-map, length-replicate, replicate-append-replicate}
use mathlib.Core.Bool.{Bool, ◌&&◌, false, false≢true, true}
use mathlib.Core.List.Memᴰ
use mathlib.Core.List.{List, Memᴰ, [], ◌++◌, ◌∷◌, map}
use mathlib.Core.Option
use mathlib.Core.Option.{Option, some-injective, map-eq-some_iff, none, some}
use native.Mathlib.Omega.{arith}
use Rattle.automata.specs.Automaton.{Accepts, Arc, Automaton, Configuration, DoesAll, Final, Op, Produces, Run, WellFormed, silent, spell, start, states, stay}
use Rattle.automata.specs.Joins.{alike, arc_both, arc_left, arc_right, both_arcs, both_final, intersection, is_empty_move, left_arcs, moved_op, right_arcs}
use Rattle.automata.specs.Lists.{count_from}
use Rattle.automata.specs.Performing.{perform}
use Rattle.automata.proofs.ListLaws.{at_back, at_front, at_map, count_from-iff, flat_map-iff, keep-iff, none-some, same_letter-iff}
use Rattle.automata.proofs.Parts.{Own, Laid-behind, Laid-in_front, own-kept, tail_zeros, zeros, zeros-at}
use Rattle.automata.proofs.PerformingLaws.{perform-iff}

is_empty_move-iff : (α : Option ℕ) → T (is_empty_move α) ↔ (α ≡ none)
unfolding is_empty_move
is_empty_move-iff none = (λ t. refl, λ e. tt)
is_empty_move-iff (some a) = (λ t. absurd t, λ e. none-some e refl)

alike-iff : (α β : Option ℕ) → T (alike α β) ↔ ((l : ℕ) × (α ≡ some l) × (β ≡ some l))
unfolding alike
alike-iff none β = (λ t. absurd t, λ p. none-some refl p.1)
alike-iff (some a) β = (λ t. (a, refl, sym ((same_letter-iff (some a) β).0 t)), λ p. (same_letter-iff (some a) β).1 (p.1 ∙ sym p.2))

-- operations one list after the other
does-append : (p q : List Op) (u m v : List ℕ) → DoesAll p u m → DoesAll q m v → DoesAll (p ++ q) u v
does-append [] q u m v d e = rw d e
does-append (o ∷ p) q u m v d e = (d.0, d.1, does-append p q d.0 m v d.2 e)

does-split : (p q : List Op) (u v : List ℕ) → DoesAll (p ++ q) u v → (m : List ℕ) × DoesAll p u m × DoesAll q m v
does-split [] q u v d = (u, refl, d)
does-split (o ∷ p) q u v d = let s = does-split p q d.0 v d.2 in (s.0, (d.0, d.1, s.1), s.2)

-- operations that do elsewhere what they do here
module _ (lay : List ℕ → List ℕ) (ops ops' : List Op) (v : List ℕ) (same : perform ops' (lay v) ≡ Option.map lay (perform ops v)) where
  lay-to : (w : List ℕ) → DoesAll ops v w → DoesAll ops' (lay v) (lay w)
  lay-to w d = (perform-iff ops' (lay v) (lay w)).0 (same ∙ ap (Option.map lay) ((perform-iff ops v w).1 d))

  lay-from : (z : List ℕ) → DoesAll ops' (lay v) z → (w : List ℕ) × DoesAll ops v w × (lay w ≡ z)
  lay-from z d = let q = (map-eq-some_iff lay (perform ops v)).0 (sym same ∙ (perform-iff ops' (lay v) z).1 d) in (q.0, (perform-iff ops v q.0).0 q.1, q.2)

abbrev combine : Option Bool → Option Bool → Option Bool
combine none o = none
combine (some x) o = Option.map (λ y. x && y) o

combine-iff : (p q : Option Bool) → (combine p q ≡ some true) ↔ ((p ≡ some true) × (q ≡ some true))
combine-iff none q = (λ e. none-some refl e, λ e. none-some refl e.0)
combine-iff (some true) none = (λ e. none-some refl e, λ e. none-some refl e.1)
combine-iff (some true) (some y) = (λ e. (refl, e), λ e. e.1)
combine-iff (some false) none = (λ e. none-some refl e, λ e. none-some refl e.1)
combine-iff (some false) (some y) = (λ e. absurd (false≢true (some-injective false true e)), λ e. absurd (false≢true (some-injective false true e.0)))

product_at : (F G : List Bool) (i j : ℕ) → j < length G → get_elem? (both_final F G) (i * length G + j) ≡ combine (get_elem? F i) (get_elem? G j)
unfolding both_final
product_at [] G i j h = refl
product_at (x ∷ F) G zero j h =
    let e : 0 * length G + j ≡ j = omega arith in
    ap (get_elem? (both_final (x ∷ F) G)) e ∙ at_front (map (λ y. x && y) G) (both_final F G) j (rw length-map h) ∙ at_map (λ y. x && y) G j
product_at (x ∷ F) G (suc i) j h =
    let e : suc i * length G + j ≡ length (map (λ y. x && y) G) + (i * length G + j) = omega (arith, length-map G (λ y. x && y)) in
    ap (get_elem? (both_final (x ∷ F) G)) e ∙ at_back (map (λ y. x && y) G) (both_final F G) (i * length G + j) ∙ product_at F G i j h

module _ (a b : Automaton) (va : WellFormed a) (vb : WellFormed b) where
  abbrev u : Automaton
  u = intersection a b

  abbrev n : ℕ
  n = states b

  abbrev k : ℕ
  k = a.registers - 1

  -- from which group an arc of the intersection comes
  data Whence (y : Arc) : Type 0 where
    of_both : (x z : Arc) (l : ℕ) → Memᴰ x a.arcs → Memᴰ z b.arcs → x.letter ≡ some l → z.letter ≡ some l → y ≡ arc_both n k x z → Whence y
    of_a : (x : Arc) (j : ℕ) → Memᴰ x a.arcs → x.letter ≡ none → j < n → y ≡ arc_left n x j → Whence y
    of_b : (z : Arc) (i : ℕ) → Memᴰ z b.arcs → z.letter ≡ none → i < states a → y ≡ arc_right n k z i → Whence y

  both_arcs-iff : (y : Arc) → Memᴰ y (both_arcs a b) ↔ ((x : Arc) × Memᴰ x a.arcs × ((z : Arc) × Memᴰ z b.arcs × (((l : ℕ) × (x.letter ≡ some l) × (z.letter ≡ some l)) × Memᴰ y (arc_both n k x z ∷ []))))
  unfolding both_arcs
  both_arcs-iff y = simp (flat_map-iff, keep-iff, alike-iff) (λ s. s, λ s. s)

  left_arcs-iff : (y : Arc) → Memᴰ y (left_arcs a b) ↔ ((x : Arc) × Memᴰ x a.arcs × ((x.letter ≡ none) × Memᴰ y (map (arc_left n x) (count_from 0 n))))
  unfolding left_arcs
  left_arcs-iff y = simp (flat_map-iff, keep-iff, is_empty_move-iff) (λ s. s, λ s. s)

  right_arcs-iff : (y : Arc) → Memᴰ y (right_arcs a b) ↔ ((z : Arc) × Memᴰ z b.arcs × ((z.letter ≡ none) × Memᴰ y (map (arc_right n k z) (count_from 0 (states a)))))
  unfolding right_arcs
  right_arcs-iff y = simp (flat_map-iff, keep-iff, is_empty_move-iff) (λ s. s, λ s. s)

  whence : (y : Arc) → Memᴰ y u.arcs → Whence y
  unfolding intersection
  whence y m = ⊎_elim
      (λ m. let s = (both_arcs-iff y).0 m in let t = s.2 in let l = t.2.0 in of_both s.0 t.0 l.0 s.1 t.1 l.1 l.2 (Memᴰ.eq_of_singleton t.2.1))
      (λ m. ⊎_elim
      (λ m. let s = (left_arcs-iff y).0 m in
      let p = Memᴰ.of_map (arc_left n s.0) (count_from 0 n) s.2.1 in
      of_a s.0 p.0 s.1 s.2.0 (omega (arith, (count_from-iff 0 n p.0).0 p.1)) (sym p.2))
      (λ m. let s = (right_arcs-iff y).0 m in
      let p = Memᴰ.of_map (arc_right n k s.0) (count_from 0 (states a)) s.2.1 in
      of_b s.0 p.0 s.1 s.2.0 (omega (arith, (count_from-iff 0 (states a) p.0).0 p.1)) (sym p.2))
      (Memᴰ.append_cases (left_arcs a b) m))
      (Memᴰ.append_cases (both_arcs a b) m)

  has_both : (x z : Arc) (l : ℕ) → Memᴰ x a.arcs → Memᴰ z b.arcs → x.letter ≡ some l → z.letter ≡ some l → Memᴰ (arc_both n k x z) u.arcs
  unfolding intersection
  has_both x z l i j p q = Memᴰ.append_left (left_arcs a b ++ right_arcs a b) ((both_arcs-iff _).1 (x, i, (z, j, ((l, p, q), Memᴰ.head refl))))

  has_left : (x : Arc) (j : ℕ) → Memᴰ x a.arcs → x.letter ≡ none → j < n → Memᴰ (arc_left n x j) u.arcs
  unfolding intersection
  has_left x j i p h = Memᴰ.append_right (both_arcs a b) (Memᴰ.append_left (right_arcs a b) ((left_arcs-iff _).1 (x, i, (p, Memᴰ.map (arc_left n x) ((count_from-iff 0 n j).1 (zero-le, omega arith))))))

  has_right : (z : Arc) (i : ℕ) → Memᴰ z b.arcs → z.letter ≡ none → i < states a → Memᴰ (arc_right n k z i) u.arcs
  unfolding intersection
  has_right z i j p h = Memᴰ.append_right (both_arcs a b) (Memᴰ.append_right (left_arcs a b) ((right_arcs-iff _).1 (z, j, (p, Memᴰ.map (arc_right n k z) ((count_from-iff 0 (states a) i).1 (zero-le, omega arith))))))

  -- ---- a pair of configurations and the joined one
  record Pairs (c e d : Configuration) : Type 0 where
    small₁ : c.state < states a
    small₂ : e.state < n
    good₁ : Own a.registers c.contents
    good₂ : Own b.registers e.contents
    at : d.state ≡ c.state * n + e.state
    holds : d.contents ≡ c.contents ++ drop 1 e.contents

  keeps_a : {c c' : Configuration} {α : Option ℕ} → Produces a c α c' → Own a.registers c.contents → Own a.registers c'.contents
  keeps_a {c} {c'} m g = own-kept a va m.arc m.listed c.contents c'.contents g m.does

  keeps_b : {c c' : Configuration} {α : Option ℕ} → Produces b c α c' → Own b.registers c.contents → Own b.registers c'.contents
  keeps_b {c} {c'} m g = own-kept b vb m.arc m.listed c.contents c'.contents g m.does

  -- the left operations leave the right registers, and the other way round
  same_a : (x : Arc) → Memᴰ x a.arcs → (v t : List ℕ) → Own a.registers v → perform x.ops (v ++ t) ≡ Option.map (λ (w : List ℕ). w ++ t) (perform x.ops v)
  same_a x i v t g = (Laid-in_front a va (λ s. s) t).does x i v g

  same_b : (z : Arc) → Memᴰ z b.arcs → (w v : List ℕ) → Own a.registers w → Own b.registers v
      → perform (map (moved_op k) z.ops) (w ++ drop 1 v) ≡ Option.map (λ (x : List ℕ). w ++ drop 1 x) (perform z.ops v)
  same_b z i w v g h = (Laid-behind b vb (λ s. s) k w (omega (arith, g.0, va.some_register)) g.1).does z i v h

  abbrev Step : Configuration → Option ℕ → Configuration → Configuration → Type 0
  Step d α c e = (d' : Configuration) × Produces u d α d' × Pairs c e d'

  abbrev join : Configuration → Configuration → Configuration
  join c e = record { state = c.state * n + e.state; contents = c.contents ++ drop 1 e.contents }

  move_left : (c c' e d : Configuration) → Pairs c e d → Produces a c none c' → Step d none c' e
  move_left c c' e d r m = (
    join c' e,
    record {
      arc = arc_left n m.arc e.state;
      listed = has_left m.arc e.state m.listed m.spells r.small₂;
      leaves = ap (λ (i : ℕ). i * n + e.state) m.leaves ∙ sym r.at;
      spells = refl;
      enters = ap (λ (i : ℕ). i * n + e.state) m.enters;
      does = rw r.holds (lay-to (λ (v : List ℕ). v ++ drop 1 e.contents) m.arc.ops m.arc.ops c.contents (same_a m.arc m.listed c.contents (drop 1 e.contents) r.good₁) c'.contents m.does);
    },
    record { small₁ = rw (← m.enters) (va.targets m.arc m.listed); small₂ = r.small₂; good₁ = keeps_a m r.good₁; good₂ = r.good₂; at = refl; holds = refl },
  )

  move_right : (c e e' d : Configuration) → Pairs c e d → Produces b e none e' → Step d none c e'
  move_right c e e' d r m = (
    join c e',
    record {
      arc = arc_right n k m.arc c.state;
      listed = has_right m.arc c.state m.listed m.spells r.small₁;
      leaves = ap (λ (j : ℕ). c.state * n + j) m.leaves ∙ sym r.at;
      spells = refl;
      enters = ap (λ (j : ℕ). c.state * n + j) m.enters;
      does = rw r.holds (lay-to (λ (v : List ℕ). c.contents ++ drop 1 v) m.arc.ops (map (moved_op k) m.arc.ops) e.contents (same_b m.arc m.listed c.contents e.contents r.good₁ r.good₂) e'.contents m.does);
    },
    record { small₁ = r.small₁; small₂ = rw (← m.enters) (vb.targets m.arc m.listed); good₁ = r.good₁; good₂ = keeps_b m r.good₂; at = refl; holds = refl },
  )

  move_both : (c c' e e' d : Configuration) (l : ℕ) → Pairs c e d → Produces a c (some l) c' → Produces b e (some l) e' → Step d (some l) c' e'
  move_both c c' e e' d l r m q = (
    join c' e',
    record {
      arc = arc_both n k m.arc q.arc;
      listed = has_both m.arc q.arc l m.listed q.listed m.spells q.spells;
      leaves = ap₂ (λ (i j : ℕ). i * n + j) m.leaves q.leaves ∙ sym r.at;
      spells = m.spells;
      enters = ap₂ (λ (i j : ℕ). i * n + j) m.enters q.enters;
      does = rw r.holds (does-append m.arc.ops (map (moved_op k) q.arc.ops) (c.contents ++ drop 1 e.contents) (c'.contents ++ drop 1 e.contents) (c'.contents ++ drop 1 e'.contents)
          (lay-to (λ (v : List ℕ). v ++ drop 1 e.contents) m.arc.ops m.arc.ops c.contents (same_a m.arc m.listed c.contents (drop 1 e.contents) r.good₁) c'.contents m.does)
          (lay-to (λ (v : List ℕ). c'.contents ++ drop 1 v) q.arc.ops (map (moved_op k) q.arc.ops) e.contents (same_b q.arc q.listed c'.contents e.contents (keeps_a m r.good₁) r.good₂) e'.contents q.does));
    },
    record { small₁ = rw (← m.enters) (va.targets m.arc m.listed); small₂ = rw (← q.enters) (vb.targets q.arc q.listed); good₁ = keeps_a m r.good₁; good₂ = keeps_b q r.good₂; at = refl; holds = refl },
  )

  -- ---- two runs that spell one word make a run
  abbrev Goes : Configuration → List ℕ → Configuration → Configuration → Type 0
  Goes d w c e = (d' : Configuration) × Run (Produces u) d w d' × Pairs c e d'

  -- the left one stays
  right_on : (c e e' d : Configuration) {w : List ℕ} → w ≡ [] → Pairs c e d → Run (Produces b) e w e' → Goes d w c e'
  right_on c e e' d h r stay = (d, stay, r)
  right_on c e e' d h r (silent {y = y} m q) = let s = move_right c e y d r m in let t = right_on c y e' s.0 h s.2 q in (t.0, silent s.1 t.1, t.2)
  right_on c e e' d h r (spell m q) = let z : ◌≡◌ {A = ℕ} 0 1 = cc in absurd (omega arith)

  -- the right one comes to the letter
  catch_up : (c c' c'' e e' d : Configuration) (l : ℕ) (v w : List ℕ) → v ≡ l ∷ w → Pairs c e d → Produces a c (some l) c'
      → ((e d : Configuration) → Pairs c' e d → Run (Produces b) e w e' → Goes d w c'' e') → Run (Produces b) e v e' → Goes d v c'' e'
  catch_up c c' c'' e e' d l v w h r m ih stay = let z : ◌≡◌ {A = ℕ} 0 1 = cc in absurd (omega arith)
  catch_up c c' c'' e e' d l v w h r m ih (silent {y = y} m₂ q) =
      let s = move_right c e y d r m₂ in
      let t = catch_up c c' c'' y e' s.0 l v w h s.2 m ih q in
      (t.0, silent s.1 t.1, t.2)
  catch_up c c' c'' e e' d l v w h r m ih (spell {y = y} {a = l'} {w = w''} m₂ q) =
      let el : l' ≡ l = cc in
      let ew : w'' ≡ w = cc in
      let s = move_both c c' e y d l r m (rw el at m₂) in
      let t = ih y s.0 s.2 (rw ew at q) in
      let run : Run (Produces u) d (l ∷ w) t.0 = spell {z = t.0} s.1 t.1 in
      (t.0, rw h run, t.2)

  two_runs : {c c' : Configuration} {w : List ℕ} (e e' d : Configuration) → Pairs c e d → Run (Produces a) c w c' → Run (Produces b) e w e' → Goes d w c' e'
  two_runs {c} e e' d r stay q = right_on c e e' d refl r q
  two_runs {c} e e' d r (silent {y = y} m p) q = let s = move_left c y e d r m in let t = two_runs e e' s.0 s.2 p q in (t.0, silent s.1 t.1, t.2)
  two_runs {c} {c'} e e' d r (spell {y = y} {a = l} {w = w} m p) q = catch_up c y c' e e' d l (l ∷ w) w refl r m (λ e d r q. two_runs e e' d r p q) q

  -- ---- a run of the whole is a run of each
  -- which of the two moved
  data Moved (c e d' : Configuration) (α : Option ℕ) : Type 0 where
    both_moved : (c' e' : Configuration) → Produces a c α c' → Produces b e α e' → Pairs c' e' d' → (l : ℕ) → α ≡ some l → Moved c e d' α
    left_moved : (c' : Configuration) → α ≡ none → Produces a c α c' → Pairs c' e d' → Moved c e d' α
    right_moved : (e' : Configuration) → α ≡ none → Produces b e α e' → Pairs c e' d' → Moved c e d' α

  same_first : (i j i' j' : ℕ) → j < n → j' < n → i * n + j ≡ i' * n + j' → i ≡ i'
  same_first i j i' j' h h' e = sym (digits_div i h) ∙ ap (λ (x : ℕ). x / n) e ∙ digits_div i' h'

  same_second : (i j i' j' : ℕ) → j < n → j' < n → i * n + j ≡ i' * n + j' → j ≡ j'
  same_second i j i' j' h h' e = sym (digits_mod i h) ∙ ap (λ (x : ℕ). x % n) e ∙ digits_mod i' h'

  apart : (c e d d' : Configuration) (α : Option ℕ) → Pairs c e d → Produces u d α d' → Moved c e d' α
  apart c e d d' α r m = go (whence m.arc m.listed)
    where
      go : Whence m.arc → Moved c e d' α
      go (of_both x z l i j p q o) = both_moved c' e' m_a m_b
          (record { small₁ = va.targets x i; small₂ = vb.targets z j; good₁ = keeps_a m_a r.good₁; good₂ = keeps_b m_b r.good₂; at = sym m.enters ∙ ap (λ (y : Arc). y.target) o; holds = sym t.2 })
          l (sym m.spells ∙ ap (λ (y : Arc). y.letter) o ∙ p)
        where
          from : x.source * n + z.source ≡ c.state * n + e.state
          from = sym (ap (λ (y : Arc). y.source) o) ∙ m.leaves ∙ r.at

          did : DoesAll (x.ops ++ map (moved_op k) z.ops) (c.contents ++ drop 1 e.contents) d'.contents
          did = rw (ap (λ (y : Arc). y.ops) o, r.holds) at m.does

          parts : (v : List ℕ) × DoesAll x.ops (c.contents ++ drop 1 e.contents) v × DoesAll (map (moved_op k) z.ops) v d'.contents
          parts = does-split x.ops (map (moved_op k) z.ops) (c.contents ++ drop 1 e.contents) d'.contents did

          s : (v : List ℕ) × DoesAll x.ops c.contents v × (v ++ drop 1 e.contents ≡ parts.0)
          s = lay-from (λ (v : List ℕ). v ++ drop 1 e.contents) x.ops x.ops c.contents (same_a x i c.contents (drop 1 e.contents) r.good₁) parts.0 parts.1

          c' : Configuration
          c' = record { state = x.target; contents = s.0 }

          m_a : Produces a c α c'
          m_a = record { arc = x; listed = i; leaves = same_first x.source z.source c.state e.state (vb.sources z j) r.small₂ from; spells = sym (ap (λ (y : Arc). y.letter) o) ∙ m.spells; enters = refl; does = s.1 }

          t : (v : List ℕ) × DoesAll z.ops e.contents v × (s.0 ++ drop 1 v ≡ d'.contents)
          t = lay-from (λ (v : List ℕ). s.0 ++ drop 1 v) z.ops (map (moved_op k) z.ops) e.contents (same_b z j s.0 e.contents (keeps_a m_a r.good₁) r.good₂) d'.contents
              (subst (λ (y : List ℕ). DoesAll (map (moved_op k) z.ops) y d'.contents) (sym s.2) parts.2)

          e' : Configuration
          e' = record { state = z.target; contents = t.0 }

          m_b : Produces b e α e'
          m_b = record { arc = z; listed = j; leaves = same_second x.source z.source c.state e.state (vb.sources z j) r.small₂ from; spells = q ∙ sym p ∙ sym (ap (λ (y : Arc). y.letter) o) ∙ m.spells; enters = refl; does = t.1 }
      go (of_a x j i p h o) = left_moved c' (sym m.spells ∙ ap (λ (y : Arc). y.letter) o) m_a
          (record {
            small₁ = va.targets x i;
            small₂ = r.small₂;
            good₁ = keeps_a m_a r.good₁;
            good₂ = r.good₂;
            at = sym m.enters ∙ ap (λ (y : Arc). y.target) o ∙ ap (λ (y : ℕ). x.target * n + y) (same_second x.source j c.state e.state h r.small₂ from);
            holds = sym s.2;
          })
        where
          from : x.source * n + j ≡ c.state * n + e.state
          from = sym (ap (λ (y : Arc). y.source) o) ∙ m.leaves ∙ r.at

          did : DoesAll x.ops (c.contents ++ drop 1 e.contents) d'.contents
          did = rw (ap (λ (y : Arc). y.ops) o, r.holds) at m.does

          s : (v : List ℕ) × DoesAll x.ops c.contents v × (v ++ drop 1 e.contents ≡ d'.contents)
          s = lay-from (λ (v : List ℕ). v ++ drop 1 e.contents) x.ops x.ops c.contents (same_a x i c.contents (drop 1 e.contents) r.good₁) d'.contents did

          c' : Configuration
          c' = record { state = x.target; contents = s.0 }

          m_a : Produces a c α c'
          m_a = record { arc = x; listed = i; leaves = same_first x.source j c.state e.state h r.small₂ from; spells = p ∙ sym (ap (λ (y : Arc). y.letter) o) ∙ m.spells; enters = refl; does = s.1 }
      go (of_b z i j p h o) = right_moved e' (sym m.spells ∙ ap (λ (y : Arc). y.letter) o) m_b
          (record {
            small₁ = r.small₁;
            small₂ = vb.targets z j;
            good₁ = r.good₁;
            good₂ = keeps_b m_b r.good₂;
            at = sym m.enters ∙ ap (λ (y : Arc). y.target) o ∙ ap (λ (y : ℕ). y * n + z.target) (same_first i z.source c.state e.state (vb.sources z j) r.small₂ from);
            holds = sym t.2;
          })
        where
          from : i * n + z.source ≡ c.state * n + e.state
          from = sym (ap (λ (y : Arc). y.source) o) ∙ m.leaves ∙ r.at

          did : DoesAll (map (moved_op k) z.ops) (c.contents ++ drop 1 e.contents) d'.contents
          did = rw (ap (λ (y : Arc). y.ops) o, r.holds) at m.does

          t : (v : List ℕ) × DoesAll z.ops e.contents v × (c.contents ++ drop 1 v ≡ d'.contents)
          t = lay-from (λ (v : List ℕ). c.contents ++ drop 1 v) z.ops (map (moved_op k) z.ops) e.contents (same_b z j c.contents e.contents r.good₁ r.good₂) d'.contents did

          e' : Configuration
          e' = record { state = z.target; contents = t.0 }

          m_b : Produces b e α e'
          m_b = record { arc = z; listed = j; leaves = same_second i z.source c.state e.state (vb.sources z j) r.small₂ from; spells = p ∙ sym (ap (λ (y : Arc). y.letter) o) ∙ m.spells; enters = refl; does = t.1 }

  -- two runs that spell one word
  record Twofold (c e : Configuration) (w : List ℕ) (d' : Configuration) : Type 0 where
    end₁ : Configuration
    end₂ : Configuration
    run₁ : Run (Produces a) c w end₁
    run₂ : Run (Produces b) e w end₂
    pairs : Pairs end₁ end₂ d'

  one_run : {d d' : Configuration} {w : List ℕ} (c e : Configuration) → Pairs c e d → Run (Produces u) d w d' → Twofold c e w d'
  one_run c e r stay = record { end₁ = c; end₂ = e; run₁ = stay; run₂ = stay; pairs = r }
  one_run {d} {d'} c e r (silent {y = y} {w = w} m q) = go (λ c' e' r'. one_run c' e' r' q) (apart c e d y none r m)
    where
      go : ((c' e' : Configuration) → Pairs c' e' y → Twofold c' e' w d') → Moved c e y none → Twofold c e w d'
      go ih (both_moved c' e' m_a m_b p l h) = none-some refl h
      go ih (left_moved c' h m_a p) = let t = ih c' e p in record { end₁ = t.end₁; end₂ = t.end₂; run₁ = silent m_a t.run₁; run₂ = t.run₂; pairs = t.pairs }
      go ih (right_moved e' h m_b p) = let t = ih c e' p in record { end₁ = t.end₁; end₂ = t.end₂; run₁ = t.run₁; run₂ = silent m_b t.run₂; pairs = t.pairs }
  one_run {d} {d'} c e r (spell {y = y} {a = l} {w = w} m q) = go (λ c' e' r'. one_run c' e' r' q) (apart c e d y (some l) r m)
    where
      go : ((c' e' : Configuration) → Pairs c' e' y → Twofold c' e' w d') → Moved c e y (some l) → Twofold c e (l ∷ w) d'
      go ih (both_moved c' e' m_a m_b p l h) = let t = ih c' e' p in record { end₁ = t.end₁; end₂ = t.end₂; run₁ = spell m_a t.run₁; run₂ = spell m_b t.run₂; pairs = t.pairs }
      go ih (left_moved c' h m_a p) = none-some h refl
      go ih (right_moved e' h m_b p) = none-some h refl

  starts : Pairs (start a) (start b) (start u)
  unfolding intersection
  starts = let e : a.registers + (b.registers - 1) ≡ a.registers + b.registers - 1 = omega arith in
      record {
        small₁ = va.some_state;
        small₂ = vb.some_state;
        good₁ = (length-replicate a.registers 0, zeros-at a.registers va.some_register);
        good₂ = (length-replicate b.registers 0, zeros-at b.registers vb.some_register);
        at = omega arith;
        holds = sym (ap (λ (l : List ℕ). zeros a.registers ++ l) (tail_zeros b.registers) ∙ replicate-append-replicate a.registers (b.registers - 1) 0 ∙ ap zeros e);
      }

  finals : (c e d : Configuration) → Pairs c e d → Final u d.state ↔ (Final a c.state × Final b e.state)
  unfolding intersection
  finals c e d r = rw (r.at, product_at a.finals b.finals c.state e.state r.small₂) (combine-iff (get_elem? a.finals c.state) (get_elem? b.finals e.state))

  -- THE LAW of intersection
  pub intersection-iff : (w : List ℕ) → Accepts u w ↔ (Accepts a w × Accepts b w)
  intersection-iff w = (
    λ t. let s = one_run (start a) (start b) starts t.run in
        let f = (finals s.end₁ s.end₂ t.end s.pairs).0 t.final in
        (record { end = s.end₁; run = s.run₁; final = f.0 }, record { end = s.end₂; run = s.run₂; final = f.1 }),
    λ p. let s = two_runs (start b) p.1.end (start u) starts p.0.run p.1.run in
        record { end = s.0; run = s.1; final = (finals p.0.end p.1.end s.0 s.2).1 (p.0.final, p.1.final) },
  )
