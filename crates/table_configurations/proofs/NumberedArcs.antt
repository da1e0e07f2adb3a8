-- NumberedArcs: the plain arcs numbered on the way are those numbered at the end.
use mathlib.Core.Path.{◌∙◌, ◌≡◌, ap, ap₂, refl, sym}
use Prim.Native.Nat.{◌+◌, ◌<◌, ◌≤◌, suc, zero, ℕ}
use borrow.Author.Tests.{eq-eqb}
use lib.Dec.{eqb}
use lib.ListN.{get_or, get_elem?, length, take}
use lib.Seq.{length-take-le, take_all, take-suc}
use mathlib.Core.Bool.{true}
use mathlib.Core.List.Memᴰ
use mathlib.Core.List.{List, [], ◌++◌, ◌∷◌, append_assoc, append-nil, map}
use mathlib.Core.Option.{Option, some-injective, none, some}
use native.Mathlib.Nat.{add-suc, add-zero, suc-add, zero-add}
use native.Mathlib.Omega.{arith}
use Rattle.automata.specs.Exploration.{Distinct, add, add_all, has, known, number, walk}
use Rattle.automata.specs.Lists.{any}
use Rattle.automata.specs.Live.{PlainArc}
use Rattle.table_operations.specs.Packed.{Hop, hops, tos}
use Rattle.table_configurations.specs.Known.{known_packed, next_packed, plain_arc, plains_of, plains_up_to}
use Rattle.automata.proofs.Laws.{add_all-prefix, at_some, get_elem?-append, get_elem?-lt, get_elem?-none, known-distinct, known-ended, known-prefix, number-add, number_append}

self : (x : ℕ) → eqb x x ≡ true
self x = eq-eqb x x refl

-- what is added is new
pub add-distinct : (l : List ℕ) (x : ℕ) → Distinct eqb l → Distinct eqb (add eqb l x)
unfolding add has any known walk add_all
add-distinct [] x d = (λ y m. absurd (Memᴰ.not-nil m), tt)
add-distinct (y ∷ l) x d = known-distinct eqb (λ z. x ∷ []) (y ∷ l) d 1

abbrev pub arcs_numbered : ℕ → List ℕ → List Hop → List PlainArc
arcs_numbered c all hs = map (λ h. plain_arc c h.letter (number eqb h.to all)) hs

plains-final : (c : ℕ) (l : List ℕ) (hs : List Hop) (r : List ℕ) → plains_of c l hs ≡ arcs_numbered c (add_all eqb l (tos hs) ++ r) hs
unfolding plains_of add_all
plains-final c l [] r = refl
plains-final c l (h ∷ hs) r = ap₂ (λ (a : ℕ) (t : List PlainArc). plain_arc c h.letter a ∷ t) given (plains-final c (add eqb l h.to) hs r)
  where
    given : number eqb h.to l ≡ number eqb h.to (add_all eqb (add eqb l h.to) (tos hs) ++ r)
    given =
        let p = add_all-prefix eqb (add eqb l h.to) (tos hs) in
        let n = number-add eqb self l h.to in
        sym (rw (p.1, append_assoc (add eqb l h.to) p.0 r) (number_append eqb h.to (add eqb l h.to) (p.0 ++ r) n.1 ∙ n.0))

module _ (m : ℕ) (l : List ℕ) where
  unfoldable pub all_numbered : List ℕ → ℕ → List ℕ → List PlainArc
  all_numbered all i [] = []
  all_numbered all i (w ∷ ws) = arcs_numbered i all (hops m l w) ++ all_numbered all (suc i) ws

  all_snoc : (all : List ℕ) (i : ℕ) (ws : List ℕ) (w : ℕ) → all_numbered all i (ws ++ w ∷ []) ≡ all_numbered all i ws ++ arcs_numbered (i + length ws) all (hops m l w)
  unfolding all_numbered
  all_snoc all i [] w = rw (append-nil (arcs_numbered i all (hops m l w)), add-zero i)
  all_snoc all i (v ∷ ws) w = rw (all_snoc all (suc i) ws w, add-suc i (length ws), suc-add i (length ws), append_assoc)

  abbrev all : ℕ → List ℕ
  all L = known_packed m l L

  shown : (n : ℕ) → known_packed m l n ≡ known eqb (next_packed m l) (0 ∷ []) n
  unfolding known_packed
  shown n = refl

  kept : (c w : ℕ) → get_elem? (all c) c ≡ some w → get_elem? (add_all eqb (all c) (tos (hops m l w))) c ≡ some w
  kept c w f = let p = add_all-prefix eqb (all c) (tos (hops m l w)) in rw p.1 (get_elem?-append (all c) p.0 c f)

  pub next_known : (c w : ℕ) → get_elem? (all c) c ≡ some w → all (suc c) ≡ add_all eqb (all c) (tos (hops m l w))
  unfolding known_packed known walk next_packed
  next_known c w f = rw f

  ended : (c j : ℕ) → get_elem? (all c) c ≡ none → (all (suc c + j) ≡ all c) × (length (all c) ≤ c)
  unfolding known_packed
  ended c j f =
      let n = get_elem?-none (all c) c f in
      let e : suc c + j ≡ c + suc j = omega arith in
      (rw e (known-ended eqb (next_packed m l) (0 ∷ []) c (suc j) n), n)

  pub upto-final : (L c j : ℕ) → c + j ≡ L → plains_up_to m l c ≡ all_numbered (all L) 0 (take c (all L))
  unfolding plains_up_to all_numbered
  upto-final L zero j e = refl
  upto-final L (suc c) j e = cases (get_elem? (all c) c) refl (upto-final L c (suc j) (omega arith))
    where
      pre : (r : List ℕ) × (all L ≡ all (suc c) ++ r)
      pre = let p = known-prefix eqb (next_packed m l) (0 ∷ []) (suc c) j in (p.0, ap (λ (x : ℕ). all x) (sym e) ∙ shown (suc c + j) ∙ p.1 ∙ ap (λ (t : List ℕ). t ++ p.0) (sym (shown (suc c))))

      cases : (o : Option ℕ) → get_elem? (all c) c ≡ o → plains_up_to m l c ≡ all_numbered (all L) 0 (take c (all L)) → plains_up_to m l (suc c) ≡ all_numbered (all L) 0 (take (suc c) (all L))
      cases none f ih =
          let d = ended c j f in
          let q : all L ≡ all c = ap (λ (x : ℕ). all x) (sym e) ∙ d.0 in
          rw (f, append-nil (plains_up_to m l c)) (ih ∙ rw (q, take_all c (all c) d.1, take_all (suc c) (all c) (omega (arith, d.1))))
      cases (some w) f ih =
          let a = next_known c w f in
          let q : all L ≡ add_all eqb (all c) (tos (hops m l w)) ++ pre.0 = pre.1 ∙ ap (λ (t : List ℕ). t ++ pre.0) a in
          let x : get_elem? (all L) c ≡ some w = rw (pre.1, a) (get_elem?-append (add_all eqb (all c) (tos (hops m l w))) pre.0 c (kept c w f)) in
          let n : c < length (all L) = get_elem?-lt (all L) c x in
          let g : get_or (all L) c 0 ≡ w = some-injective (get_or (all L) c 0) w (sym (at_some (all L) c 0 n) ∙ x) in
          let k : length (take c (all L)) ≡ c = length-take-le c (all L) (omega arith) in
          rw (f, take-suc (all L) c 0 n, g, all_snoc (all L) 0 (take c (all L)) w, k, zero-add c, ← ih)
          (ap (λ (t : List PlainArc). plains_up_to m l c ++ t) (plains-final c (all c) (hops m l w) pre.0 ∙ ap (λ (t : List ℕ). arcs_numbered c t (hops m l w)) (sym q)))
