-- PackedMeaning: what the packed definitions stand for: they are the images of the definitions of crate automata.
use mathlib.Core.Path.{◌∙◌, ◌≡◌, ap, refl, sym}
use Prim.Native.Nat.{◌%◌, ◌/◌, ◌<◌, ◌^◌, ◌≤◌, suc, zero, ℕ}
use borrow.Author.Tests.{eq-eqb, lt-ltb, ne_eqb}
use lib.Dec.{eqb}
use lib.ListN.{drop, get_or, length, length-set}
use mathlib.Core.Bool.{Bool, cond, false, true}
use mathlib.Core.List.{List, ◌∷◌, map}
use mathlib.Core.Option.{Option, bind, none, some}
use native.Mathlib.Nat.{add-mul-div_right, add-mul-mod_self_right, div-eq_of_lt, mod-eq_of_lt, zero-add}
use native.Mathlib.Omega.{arith}
use Rattle.automata.specs.Automaton.{Arc, Configuration}
use Rattle.automata.specs.Lists.{Each, collect, only, prepend}
use Rattle.automata.specs.Performing.{Move, act, along, perform}
use Rattle.automata.specs.Unfolding.{same_configuration}
use Rattle.table_operations.specs.Packed.{Hop, act_packed, and_then, hop, hop_with, hops, pack, pack_contents, perform_packed}
use Rattle.std.specs.Prelude as code
use Rattle.std.specs.Prelude.{Some, None}
use Rattle.format.specs.Decoding.{arc_of, arcs_of, op_of, ops_of}
use Rattle.format.specs.Placed.{OkArcs, OkOps}
use Rattle.file_fields.specs.Parts.{arc_size}
use Rattle.automata.proofs.Laws.{at_some, same_configuration-iff}
use Rattle.table_operations.proofs.PackedWord.{Small, digit_set, pack_contents-digit, pack_contents-inj, pack_contents-word, small-set}

abbrev pub outcome_of : Option (List ℕ) → code.Option ℕ
outcome_of none = None
outcome_of (some u) = Some (pack_contents u)

abbrev pub Fine : ℕ → Option (List ℕ) → Type 0
Fine n none = Unit {0}
Fine n (some v) = (length v ≡ n) × Small v

act-packed : (n x y : ℕ) (u : List ℕ) → length u ≡ n → Small u → x % 16 < n → y < 16
    → (act_packed x y (pack_contents u) ≡ outcome_of (act (op_of x y) u)) × Fine n (act (op_of x y) u)
unfolding act_packed act op_of
act-packed n x y u e s h k = cases (eqb (x / 16) 0) refl
  where
    inside : x % 16 < length u
    inside = rw e h

    read : (t : Bool) → (cond t (Some (pack_contents u)) None ≡ outcome_of (only t u)) × Fine n (only t u)
    read true = (refl, (e, s))
    read false = (refl, tt)

    cases : (t : Bool) → eqb (x / 16) 0 ≡ t → (act_packed x y (pack_contents u) ≡ outcome_of (act (op_of x y) u)) × Fine n (act (op_of x y) u)
    cases true f = rw (f, at_some u (x % 16) 0 inside, pack_contents-digit u (x % 16) s inside) (read (eqb (get_or u (x % 16) 0) y))
    cases false f = rw (f, lt-ltb (x % 16) (length u) inside, digit_set u (x % 16) y s inside) (refl, (length-set u (x % 16) y ∙ e, small-set u (x % 16) y s k))

pub perform-packed : (n p : ℕ) (l u : List ℕ) → length u ≡ n → Small u → OkOps n p l
    → (perform_packed p l (pack_contents u) ≡ outcome_of (perform (ops_of p l) u)) × Fine n (perform (ops_of p l) u)
unfolding perform_packed perform ops_of OkOps bind
perform-packed n zero l u e s ok = (refl, (e, s))
perform-packed n (suc p) l u e s ok =
    let a = act-packed n (get_or l 0 0) (get_or l 1 0) u e s ok.0 ok.1 in
    rw a.0 (onward (act (op_of (get_or l 0 0) (get_or l 1 0)) u) a.1 (λ v f t. perform-packed n p (drop 2 l) v f t ok.2))
  where
    onward : (o : Option (List ℕ)) → Fine n o
        → ((v : List ℕ) → length v ≡ n → Small v → (perform_packed p (drop 2 l) (pack_contents v) ≡ outcome_of (perform (ops_of p (drop 2 l)) v)) × Fine n (perform (ops_of p (drop 2 l)) v))
        → (and_then (outcome_of o) (λ v. perform_packed p (drop 2 l) v) ≡ outcome_of (bind o (λ v. perform (ops_of p (drop 2 l)) v))) × Fine n (bind o (λ v. perform (ops_of p (drop 2 l)) v))
    onward none f ih = (refl, tt)
    onward (some v) f ih = ih v f.0 f.1

-- ---- configurations
abbrev pub Good : ℕ → Configuration → Type 0
Good n c = (length c.contents ≡ n) × Small c.contents

module _ (n : ℕ) (few : n ≤ 8) where
  pub state-of : (c : Configuration) → Good n c → pack c / 2 ^ 32 ≡ c.state
  state-of c g =
      let h = pack_contents-word c.contents g.1 (rw g.0 few) in
      rw (add-mul-div_right (pack_contents c.contents) c.state {z = 2 ^ 32} (omega arith), div-eq_of_lt h, zero-add)

  pub regs_of : (c : Configuration) → Good n c → pack c % 2 ^ 32 ≡ pack_contents c.contents
  regs_of c g =
      let h = pack_contents-word c.contents g.1 (rw g.0 few) in
      rw (add-mul-mod_self_right (pack_contents c.contents) c.state (2 ^ 32)) (mod-eq_of_lt h)

  pub pack-inj : (c d : Configuration) → Good n c → Good n d → pack c ≡ pack d → c ≡ d
  pack-inj c d g h e =
      let s : c.state ≡ d.state = sym (state-of c g) ∙ ap (λ (x : ℕ). x / 2 ^ 32) e ∙ state-of d h in
      let r : pack_contents c.contents ≡ pack_contents d.contents = sym (regs_of c g) ∙ ap (λ (x : ℕ). x % 2 ^ 32) e ∙ regs_of d h in
      let u : c.contents ≡ d.contents = pack_contents-inj c.contents d.contents (g.0 ∙ sym h.0) g.1 h.1 r in
      λ i. record { state = s i; contents = u i }

  pub same-packed : (c d : Configuration) → Good n c → Good n d → same_configuration c d ≡ eqb (pack c) (pack d)
  same-packed c d g h = cases (same_configuration c d) refl
    where
      cases : (t : Bool) → same_configuration c d ≡ t → same_configuration c d ≡ eqb (pack c) (pack d)
      cases true e = e ∙ sym (eq-eqb (pack c) (pack d) (ap pack ((same_configuration-iff c d).0 (rw e tt))))
      cases false e = e ∙ sym (ne_eqb (pack c) (pack d) (λ p. rw e at ((same_configuration-iff c d).1 (pack-inj c d g h p))))

-- ---- the arcs
abbrev pub pack_hop : Move → Hop
pack_hop m = record { letter = m.letter; to = pack m.to }

abbrev pub Packs : ℕ → List Hop → List Move → Type 0
Packs n hs ms = (hs ≡ map pack_hop ms) × Each (λ m. Good n m.to) ms

module _ (n : ℕ) (few : n ≤ 8) (c : Configuration) (g : Good n c) where
  one-arc : (a : Arc) (arcs : List Arc) (rest : List Hop) → Packs n rest (collect (along c) arcs) → Fine n (perform a.ops c.contents)
      → Packs n (prepend (cond (eqb a.source c.state) (hop_with (outcome_of (perform a.ops c.contents)) a.letter a.target) none) rest) (collect (along c) (a ∷ arcs))
  unfolding along bind collect
  one-arc a arcs rest ih fine = cases (eqb a.source c.state) refl (perform a.ops c.contents) refl fine
    where
      cases : (t : Bool) → eqb a.source c.state ≡ t → (o : Option (List ℕ)) → perform a.ops c.contents ≡ o → Fine n o
          → Packs n (prepend (cond (eqb a.source c.state) (hop_with (outcome_of (perform a.ops c.contents)) a.letter a.target) none) rest) (collect (along c) (a ∷ arcs))
      cases false e o f fine = rw e ih
      cases true e none f fine = rw (e, f) ih
      cases true e (some v) f fine = rw (e, f, ← ih.0) (refl, (fine, ih.1))

  pub hops-packed : (m : ℕ) (l : List ℕ) → OkArcs n m l → Packs n (hops m l (pack c)) (collect (along c) (arcs_of m l))
  unfolding hops hop arcs_of arc_of OkArcs collect
  hops-packed zero l ok = (refl, tt)
  hops-packed (suc m) l ok =
      let p = perform-packed n (get_or l 3 0) (drop 4 l) c.contents g.0 g.1 ok.1 in
      rw (state-of n few c g, regs_of n few c g, p.0)
      (one-arc (arc_of l) (arcs_of m (drop (arc_size l) l)) (hops m (drop (arc_size l) l) (pack c)) (hops-packed m (drop (arc_size l) l) ok.2) p.1)
