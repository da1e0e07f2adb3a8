-- EncodingLaws: the bytes of an automaton within the limits are a valid file, from which the same automaton is read.
use mathlib.Core.Path.{◌≡◌, refl, sym, ap, ◌∙◌, subst}
use mathlib.Core.Bool.{Bool, true, false, not, cond, ◌&&◌, ◌||◌, or-true}
use mathlib.Core.List.{List, [], ◌∷◌, ◌++◌, map}
use mathlib.Core.Option.{Option, none, some}
use Prim.Native.Nat.{ℕ, zero, suc, ◌+◌, ◌*◌, ◌/◌, ◌%◌, ◌≤◌, ◌<◌}
use native.Mathlib.Omega.{arith}
use borrow.Author.Tests.{le-leb, lt-ltb, eq-eqb, ne_eqb}
use lib.Dec.{eqb, leb, ltb}
use lib.ListN.{length, drop, take, length-append, length-map}
use lib.Seq.{drop-drop, take_at, drop_at}
use Rattle.automata.specs.Automaton.{Op, reads, writes, Arc, Automaton, register, symbol, KeepsZero}
use Rattle.automata.specs.Letters.{unlike}
use Rattle.file_fields.specs.declared.Counts.{Counts}
use Rattle.std.specs.Prelude.{Ok}
use Rattle.file_fields.specs.Parts.{counts_of, letter_bytes, ascending, flag_bytes, first_arc, flags, operation_tests, well_op, well_ops, arc_size, arc_tests, arcs_tests}
use Rattle.format.specs.Reading.{reading_of}
use Rattle.format.specs.Decoding.{op_of, ops_of, letter_of, arc_of, arcs_of, is_final, decoded, automaton_of}
use Rattle.format.specs.Encoding.{sizes, flag_byte, kind, ops_bytes, letter_byte, arc_bytes, arcs_bytes, bytes_of}
use Rattle.format.specs.Limits.{Ranges, Fits}
use Rattle.automata.specs.Lists.{Each}
use Rattle.automata.proofs.Laws.{Bool-ext, each-join, unlike-iff}
use Rattle.file_fields.proofs.Laws.{Hold, Holds}
use Rattle.format.proofs.Laws.{HeaderSeen}
use Rattle.file_laws.proofs.Fitting.{OpFits, ArcFits, arcs-fit}
use Rattle.file_laws.proofs.ValidLaws.{seen-file}

-- ---- an operation
-- the two halves of its first byte
halves : (o : Op) → register o < 16 → ((kind o * 16 + register o) / 16 ≡ kind o) × ((kind o * 16 + register o) % 16 ≡ register o)
halves (reads i γ) h = (omega arith, omega arith)
halves (writes i γ) h = (omega arith, omega arith)

-- the test that register 0 is only read, as 0
zero_test : (o : Op) → KeepsZero o → (not (eqb (register o) 0) || (eqb (kind o) 0 && eqb (symbol o) 0)) ≡ true
unfolding KeepsZero
zero_test (reads zero γ) h = eq-eqb γ 0 h
zero_test (reads (suc i) γ) h = rw (ne_eqb (suc i) 0 (λ e. omega arith))
zero_test (writes zero γ) h = absurd h
zero_test (writes (suc i) γ) h = rw (ne_eqb (suc i) 0 (λ e. omega arith))

pub few-kinds : (o : Op) → kind o ≤ 1
few-kinds (reads i γ) = omega arith
few-kinds (writes i γ) = omega arith

module _ (c : Counts) (n : c.registers ≤ 8) where
  Op-well : (letter : ℕ) (o : Op) → OpFits c o → well_op c letter (kind o * 16 + register o) (symbol o) ≡ true
  Op-well letter o h =
      let q = halves o (omega (arith, h.inside)) in
      rw (q.0, q.1, le-leb _ _ (few-kinds o), lt-ltb _ _ h.inside, lt-ltb _ _ h.small) (zero_test o h.zero_kept)

  Op-back : (o : Op) → OpFits c o → op_of (kind o * 16 + register o) (symbol o) ≡ o
  unfolding op_of
  Op-back o h = let q = halves o (omega (arith, h.inside)) in rw (q.0, q.1) (same o)
    where
      same : (o : Op) → cond (eqb (kind o) 0) (reads (register o) (symbol o)) (writes (register o) (symbol o)) ≡ o
      same (reads i γ) = refl
      same (writes i γ) = refl

  ops-well : (letter : ℕ) (os : List Op) (rest : List ℕ) → Each (OpFits c) os → well_ops c letter (length os) (ops_bytes os ++ rest) ≡ true
  unfolding ops_bytes well_ops
  ops-well letter [] rest h = refl
  ops-well letter (o ∷ os) rest h = rw (Op-well letter o h.0) (ops-well letter os rest h.1)

  ops_back : (os : List Op) (rest : List ℕ) → Each (OpFits c) os → ops_of (length os) (ops_bytes os ++ rest) ≡ os
  unfolding ops_bytes ops_of
  ops_back [] rest h = refl
  ops_back (o ∷ os) rest h = rw (Op-back o h.0, ops_back os rest h.1)

pub ops-length : (os : List Op) → length (ops_bytes os) ≡ 2 * length os
unfolding ops_bytes
ops-length [] = refl
ops-length (o ∷ os) = omega (arith, ops-length os)

-- ---- an arc
letter-well : (c : Counts) (α : Option ℕ) → ((l : ℕ) → α ≡ some l → l < c.letters) → (eqb (letter_byte α) 255 || ltb (letter_byte α) c.letters) ≡ true
letter-well c none h = refl
letter-well c (some k) h = rw (lt-ltb k c.letters (h k refl), or-true)

letter-back : (c : Counts) (α : Option ℕ) → c.letters ≤ 64 → ((l : ℕ) → α ≡ some l → l < c.letters) → letter_of (letter_byte α) ≡ α
unfolding letter_of
letter-back c none a h = refl
letter-back c (some k) a h = let f = h k refl in rw (ne_eqb k 255 (λ e. omega arith))

after-arc : (x : Arc) (rest : List ℕ) → drop (4 + 2 * length x.ops) (arc_bytes x ++ rest) ≡ rest
unfolding arc_bytes
after-arc x rest = sym (drop-drop (2 * length x.ops) 4 (arc_bytes x ++ rest)) ∙ drop_at (ops_bytes x.ops) rest (2 * length x.ops) (ops-length x.ops)

module _ (c : Counts) (r : Ranges c) where
  arc-well : (at : ℕ) (x : Arc) (rest : List ℕ) → ArcFits c x → Hold (arc_tests c at (arc_bytes x ++ rest))
  unfolding arc_bytes
  arc-well at x rest h =
      let k = length (arc_bytes x ++ rest) in
      let e : length (ops_bytes x.ops ++ rest) ≡ 2 * length x.ops + length rest = length-append (ops_bytes x.ops) rest ∙ ap (λ t. t + length rest) (ops-length x.ops) in
      let p = length x.ops in
      let few : (leb 1 p && leb p 8) ≡ true = rw (le-leb _ _ h.some_op, le-leb _ _ h.few_ops) in
      let ops : Hold (operation_tests c at (arc_bytes x ++ rest)) = (le-leb (4 + 2 * p) k (omega (arith, e)), (ops-well c r.registers (letter_byte x.letter) x.ops rest h.ops, tt)) in
      (le-leb 4 k (omega arith), (lt-ltb _ _ h.source, (letter-well c x.letter h.lettered, (lt-ltb _ _ h.target, (few, ops)))))

  arc-back : (x : Arc) (rest : List ℕ) → ArcFits c x → arc_of (arc_bytes x ++ rest) ≡ x
  unfolding arc_of arc_bytes
  arc-back x rest h =
      let l = letter-back c x.letter r.letters h.lettered in
      let o = ops_back c r.registers x.ops rest h.ops in
      λ i. record { source = x.source; letter = l i; target = x.target; ops = o i }

  arcs-well : (at : ℕ) (xs : List Arc) → Each (ArcFits c) xs → Hold (arcs_tests (length xs) c at (arcs_bytes xs))
  unfolding arcs_tests arcs_bytes
  arcs-well at [] h = (refl, tt)
  arcs-well at (x ∷ xs) h =
      let next = at + (4 + 2 * length x.ops) in
      each-join Holds (arc_tests c at (arc_bytes x ++ arcs_bytes xs)) (arcs_tests (length xs) c next (drop (4 + 2 * length x.ops) (arc_bytes x ++ arcs_bytes xs)))
      (arc-well at x (arcs_bytes xs) h.0) (rw (after-arc x (arcs_bytes xs)) (arcs-well next xs h.1))

  arcs-back : (xs : List Arc) → Each (ArcFits c) xs → arcs_of (length xs) (arcs_bytes xs) ≡ xs
  unfolding arcs_of arcs_bytes
  arcs-back [] h = refl
  arcs-back (x ∷ xs) h =
      let e : drop (arc_size (arc_bytes x ++ arcs_bytes xs)) (arc_bytes x ++ arcs_bytes xs) ≡ arcs_bytes xs = after-arc x (arcs_bytes xs) in
      rw (arc-back x (arcs_bytes xs) h.0, e, arcs-back xs h.1)

-- ---- the final flags
flags-well : (l : List Bool) → flags (map flag_byte l) ≡ true
unfolding flags
flags-well [] = refl
flags-well (true ∷ l) = flags-well l
flags-well (false ∷ l) = flags-well l

flags-back : (l : List Bool) → map is_final (map flag_byte l) ≡ l
flags-back [] = refl
flags-back (true ∷ l) = ap (λ t. true ∷ t) (flags-back l)
flags-back (false ∷ l) = ap (λ t. false ∷ t) (flags-back l)

-- ---- the file
module _ (x : Automaton) where
  abbrev c : Counts
  c = sizes x

  abbrev s : List ℕ
  s = bytes_of x

  abbrev flagged : List ℕ
  flagged = map flag_byte x.finals

  abbrev arcs : List ℕ
  arcs = arcs_bytes x.arcs

  -- each part stands where reading looks for it
  counts-back : counts_of s ≡ c
  unfolding bytes_of
  counts-back =
      let t : c.states % 256 + 256 * (c.states / 256) ≡ c.states = omega arith in
      let m : c.arcs % 256 + 256 * (c.arcs / 256) ≡ c.arcs = omega arith in
      λ i. record { letters = c.letters; states = t i; registers = c.registers; symbols = c.symbols; arcs = m i }

  letters-part : letter_bytes c s ≡ x.alphabet
  unfolding bytes_of
  letters-part = take_at x.alphabet (flagged ++ arcs) (length x.alphabet) refl

  after_letters : drop (12 + c.letters) s ≡ flagged ++ arcs
  unfolding bytes_of
  after_letters = sym (drop-drop c.letters 12 s) ∙ drop_at x.alphabet (flagged ++ arcs) (length x.alphabet) refl

  flags-part : flag_bytes c s ≡ flagged
  flags-part = ap (take c.states) after_letters ∙ take_at flagged arcs c.states (length-map x.finals flag_byte)

  arcs-part : drop (first_arc c) s ≡ arcs
  arcs-part = sym (drop-drop c.states (12 + c.letters) s) ∙ ap (drop c.states) after_letters ∙ drop_at flagged arcs c.states (length-map x.finals flag_byte)

  pub bytes-length : length s ≡ first_arc c + length arcs
  unfolding bytes_of
  bytes-length =
      let e = length-append x.alphabet (flagged ++ arcs) in
      let f = length-append flagged arcs in
      let g = length-map x.finals flag_byte in
      omega arith

  header-seen : Ranges c → HeaderSeen s
  unfolding bytes_of
  header-seen r = record { twelve = omega (arith, bytes-length); mark = refl; version = refl; ranges = subst (λ (d : Counts). Ranges d) (sym counts-back) r }

  pub bytes-valid : Fits x → reading_of s ≡ Ok c
  bytes-valid h = seen-file s c (record {
    counts = counts-back;
    header = header-seen h.ranges;
    rising = ap ascending letters-part ∙ h.ascends;
    unlike = ap unlike letters-part ∙ Bool-ext (unlike x.alphabet) true (λ _. tt) (λ _. (unlike-iff x.alphabet).1 h.well_formed.letters_apart);
    there = omega (arith, bytes-length);
    flags = ap flags flags-part ∙ flags-well x.finals;
    arcs = subst (λ l. Hold (arcs_tests c.arcs c (first_arc c) l)) (sym arcs-part) (arcs-well c h.ranges (first_arc c) x.arcs (arcs-fit x h));
  })

  pub bytes_back : Fits x → automaton_of s ≡ x
  unfolding automaton_of
  bytes_back h = ap (λ (d : Counts). decoded d s) counts-back ∙ whole
    where
      finals : map is_final (flag_bytes c s) ≡ x.finals
      finals = ap (map is_final) flags-part ∙ flags-back x.finals

      listed : arcs_of c.arcs (drop (first_arc c) s) ≡ x.arcs
      listed = ap (arcs_of c.arcs) arcs-part ∙ arcs-back c h.ranges x.arcs (arcs-fit x h)

      whole : decoded c s ≡ x
      whole = λ i. record { alphabet = letters-part i; registers = x.registers; symbols = x.symbols; finals = finals i; arcs = listed i }
