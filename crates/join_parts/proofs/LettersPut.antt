-- LettersPut: putting letters into a joined automaton changes neither its counts nor how many bytes and operations its arcs have, so that
-- the answer for it is known before.
use mathlib.Core.Path.{◌∙◌, ◌≡◌, ap, ap₂, refl, sym}
use mathlib.Core.Bool.{Bool, ◌||◌}
use mathlib.Core.List.{List, [], ◌++◌, ◌∷◌, append-nil, map}
use Prim.Native.Nat.{ℕ, ◌-◌, ◌≤◌, suc, zero}
use native.Mathlib.Omega.{arith}
use lib.ListN.{drop, length, length-append, length-map, length-replicate, replicate, take, take-append-drop}
use Rattle.automata.specs.Automaton.{Arc, Automaton}
use Rattle.automata.specs.Lists.{Each, any}
use Rattle.relettering.specs.Relettering.{relettered_arc}
use Rattle.file_fields.specs.declared.Counts.{Counts}
use Rattle.format.specs.Encoding.{arc_bytes, arcs_bytes, bytes_of, sizes}
use Rattle.file_laws.proofs.Laws.{bytes-length}
use Rattle.join_parts.specs.Joining.{beyond, decided, many_counts, many_ops, written_of}
use Rattle.join_parts.specs.OwnNumbers.{letters_put, roomy}
use Rattle.join_parts.proofs.NewLetters.{arcs-unnumbered, relettered-length, relettered-size}
use Rattle.join_parts.proofs.WithinLimits.{FewOps}

-- ---- arcs, those from the place m on by the numbers `two`
module _ (one two : List ℕ) where
  abbrev put : ℕ → List Arc → List Arc
  put m l = map (relettered_arc one) (take m l) ++ map (relettered_arc two) (drop m l)

  ops-kept : (l : List Arc) → any many_ops (map (relettered_arc two) l) ≡ any many_ops l
  unfolding any
  ops-kept [] = refl
  ops-kept (a ∷ l) = ap (λ (b : Bool). many_ops a || b) (ops-kept l)

  put-many : (m : ℕ) (l : List Arc) → any many_ops (put m l) ≡ any many_ops l
  unfolding any
  put-many zero l = ops-kept l
  put-many (suc m) [] = refl
  put-many (suc m) (a ∷ l) = ap (λ (b : Bool). many_ops a || b) (put-many m l)

  few-kept : (l : List Arc) → Each FewOps (map (relettered_arc two) l) → Each FewOps l
  few-kept [] h = tt
  few-kept (a ∷ l) h = (h.0, few-kept l h.1)

  few-before : (m : ℕ) (l : List Arc) → Each FewOps (put m l) → Each FewOps l
  few-before zero l h = few-kept l h
  few-before (suc m) [] h = tt
  few-before (suc m) (a ∷ l) h = (h.0, few-before m l h.1)

  put-size : (m : ℕ) (l : List Arc) → length (arcs_bytes (put m l)) ≡ length (arcs_bytes l)
  unfolding arcs_bytes
  put-size zero l = relettered-length two l
  put-size (suc m) [] = refl
  put-size (suc m) (a ∷ l) =
      length-append (arc_bytes (relettered_arc one a)) (arcs_bytes (put m l)) ∙ omega (arith, relettered-size one a, put-size m l, length-append (arc_bytes a) (arcs_bytes l))

  put-number : (m : ℕ) (l : List Arc) → length (put m l) ≡ length l
  put-number zero l = length-map l (relettered_arc two)
  put-number (suc m) [] = refl
  put-number (suc m) (a ∷ l) = ap suc (put-number m l)

-- ---- an automaton with room for n letters, and with n letters put in
module _ (k n : ℕ) (one two all : List ℕ) (x : Automaton) where
  abbrev before : ℕ
  before = length x.arcs - k

  -- no arc has more than 8 operations, where none has afterwards
  pub put-few : Each FewOps (letters_put k one two all x).arcs → Each FewOps x.arcs
  unfolding letters_put
  put-few h = few-before one two before x.arcs h

  module _ (many : length all ≡ n) (room : length x.alphabet ≤ n) where
    pub put-sizes : sizes (letters_put k one two all x) ≡ sizes (roomy n x)
    unfolding letters_put roomy
    put-sizes =
        let free : List ℕ = replicate (n - length x.alphabet) 0 in
        let l : length all ≡ length (x.alphabet ++ free) = omega (arith, length-append x.alphabet free, length-replicate {A = ℕ} (n - length x.alphabet) 0) in
        let m = put-number one two before x.arcs in
        λ i. record { letters = l i; states = length x.finals; registers = x.registers; symbols = x.symbols; arcs = m i }

    pub put-length : length (bytes_of (letters_put k one two all x)) ≡ length (bytes_of (roomy n x))
    unfolding letters_put roomy
    put-length =
        let e = put-sizes in
        omega (
          arith,
          bytes-length (letters_put k one two all x),
          bytes-length (roomy n x),
          ap (λ (c : Counts). c.letters) e,
          ap (λ (c : Counts). c.states) e,
          put-size one two before x.arcs,
        )

    pub put_written : (space : ℕ) → written_of (letters_put k one two all x) space ≡ written_of (roomy n x) space
    unfolding written_of letters_put roomy beyond
    put_written space = ap₂ (λ (b : Bool) (m : ℕ). decided b m space) (ap₂ (λ (c : Counts) (b : Bool). many_counts c || b) put-sizes (put-many one two before x.arcs)) put-length

-- ---- no letters put in
-- where a list has room for its own letters only, and no number changes, the automaton is as it was
pub own-letters : (k n : ℕ) (x : Automaton) → n ≡ length x.alphabet → roomy n x ≡ letters_put k [] [] x.alphabet x
unfolding letters_put roomy
own-letters k n x e =
    let m = length x.arcs - k in
    let none : n - length x.alphabet ≡ 0 = omega arith in
    let letters : (x.alphabet ++ replicate (n - length x.alphabet) 0) ≡ x.alphabet = rw none (append-nil x.alphabet) in
    let arcs : x.arcs ≡ map (relettered_arc []) (take m x.arcs) ++ map (relettered_arc []) (drop m x.arcs) =
    rw (arcs-unnumbered [] (take m x.arcs) refl, arcs-unnumbered [] (drop m x.arcs) refl) (sym (take-append-drop m x.arcs)) in
    λ i. record { alphabet = letters i; registers = x.registers; symbols = x.symbols; finals = x.finals; arcs = arcs i }
