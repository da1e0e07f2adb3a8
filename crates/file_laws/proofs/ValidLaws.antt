-- ValidLaws: what is so of a valid file: its automaton has the counts that reading answers and is within the limits, its arcs
-- stand whole, and it is no longer than 41,292 bytes.
use mathlib.Core.Path.{◌≡◌, refl, sym, ap, ◌∙◌, subst}
use mathlib.Core.Bool.{true}
use mathlib.Core.List.{List, map}
use Prim.Native.Nat.{ℕ, zero, suc, ◌+◌, ◌-◌, ◌*◌, ◌≤◌}
use native.Mathlib.Omega.{arith}
use borrow.Author.Tests.{leb-true, le-leb}
use lib.ListN.{length, drop, take, length-drop, length-take, length-map}
use Rattle.automata.specs.Automaton.{Automaton, WellFormed}
use Rattle.automata.specs.Letters.{unlike}
use Rattle.file_fields.specs.declared.Counts.{Counts}
use Rattle.std.specs.Prelude.{Ok}
use Rattle.file_fields.specs.Parts.{counts_of, letter_bytes, ascending, flag_bytes, first_arc, flags, arc_size, arcs_tests, header_tests}
use Rattle.format.specs.Reading.{file_tests, reading_of}
use Rattle.format.specs.Decoding.{arcs_of, is_final, decoded, automaton_of}
use Rattle.format.specs.Encoding.{sizes}
use Rattle.format.specs.Limits.{Ranges, Fits}
use Rattle.format.specs.Placed.{whole, OkArcs, Lies}
use Rattle.automata.specs.Lists.{Each}
use Rattle.automata.proofs.Laws.{each-join, unlike-iff}
use Rattle.file_fields.proofs.Laws.{Hold, Holds, Hold-valid, lent_letters, letters-length, valid-hold}
use Rattle.format.proofs.Laws.{HeaderSeen, body_tests, header-seen, seen-header}
use Rattle.file_laws.proofs.Fitting.{ArcFits, fits_by}
use Rattle.file_laws.proofs.ArcLaws.{ArcsSeen, arcs-seen, arcs-count}

-- ---- a file is valid exactly if all this is so
pub record FileSeen (c : Counts) (s : List ℕ) : Type 0 where
  pub counts : counts_of s ≡ c
  pub header : HeaderSeen s
  pub rising : ascending (letter_bytes c s) ≡ true
  pub unlike : unlike (letter_bytes c s) ≡ true
  pub there : first_arc c ≤ length s
  pub flags : flags (flag_bytes c s) ≡ true
  pub arcs : Hold (arcs_tests c.arcs c (first_arc c) (drop (first_arc c) s))

pub file-seen : (s : List ℕ) (c : Counts) → reading_of s ≡ Ok c → FileSeen c s
unfolding reading_of
file-seen s c e =
    let v = valid-hold (file_tests s) (counts_of s) e in
    let h = v.0 in
    let counts = h.1.1.1 in
    let body = counts.1.1.1.1.1 in
    subst (λ (d : Counts). FileSeen d s) v.1 (record {
      counts = refl;
      header = header-seen s (h.0, (h.1.0, (h.1.1.0, (counts.0, (counts.1.0, (counts.1.1.0, (counts.1.1.1.0, (counts.1.1.1.1.0, tt))))))));
      rising = body.1.0;
      unlike = body.1.1.0;
      there = leb-true _ _ body.1.1.1.0;
      flags = body.1.1.1.1.0;
      arcs = body.1.1.1.1.1;
    })

pub seen-file : (s : List ℕ) (c : Counts) → FileSeen c s → reading_of s ≡ Ok c
unfolding reading_of
seen-file s c f = Hold-valid (file_tests s) (counts_of s) (each-join Holds (header_tests s) (body_tests (counts_of s) s) (seen-header s f.header) body) ∙ ap Ok f.counts
  where
    all : Hold (body_tests c s)
    all = (le-leb (12 + c.letters) (length s) (omega (arith, f.there)), (f.rising, (f.unlike, (le-leb _ _ f.there, (f.flags, f.arcs)))))

    body : Hold (body_tests (counts_of s) s)
    body = subst (λ (d : Counts). Hold (body_tests d s)) (sym f.counts) all

-- ---- the automaton
pub decoded-sizes : (s : List ℕ) (c : Counts) → first_arc c ≤ length s → sizes (decoded c s) ≡ c
unfolding decoded
decoded-sizes s c h =
    let a = letters-length c s (omega arith) in
    let f : length (map is_final (flag_bytes c s)) ≡ c.states = simp (length-map, length-take, length-drop) (omega arith) in
    let m = arcs-count c.arcs (drop (first_arc c) s) in
    λ i. record { letters = a i; states = f i; registers = c.registers; symbols = c.symbols; arcs = m i }

module _ (s : List ℕ) (c : Counts) where
  decoded-fits : FileSeen c s → Ranges c → Fits (decoded c s)
  unfolding decoded
  decoded-fits f r =
      let same = sym (decoded-sizes s c f.there) in
      let a = arcs-seen c c.arcs (first_arc c) (drop (first_arc c) s) r.symbols f.arcs in
      fits_by (decoded c s) (subst (λ (d : Counts). Ranges d) same r) f.rising ((unlike-iff (letter_bytes c s)).0 (rw f.unlike tt)) (subst (λ (d : Counts). Each (ArcFits d) (decoded c s).arcs) same a.fit)

  module _ (e : reading_of s ≡ Ok c) where
    abbrev seen : FileSeen c s
    seen = file-seen s c e

    pub valid-ranges : Ranges c
    valid-ranges = subst (λ (d : Counts). Ranges d) seen.counts seen.header.ranges

    pub valid-decoded : automaton_of s ≡ decoded c s
    unfolding automaton_of
    valid-decoded = ap (λ (d : Counts). decoded d s) seen.counts

    pub valid-sizes : sizes (automaton_of s) ≡ c
    valid-sizes = ap sizes valid-decoded ∙ decoded-sizes s c seen.there

    pub valid-fits : Fits (automaton_of s)
    valid-fits = subst (λ (x : Automaton). Fits x) (sym valid-decoded) (decoded-fits seen valid-ranges)

    pub valid-well_formed : WellFormed (automaton_of s)
    valid-well_formed = valid-fits.well_formed

    -- ---- what code that goes on with the file asks
    pub valid-letters : (c.letters ≤ 64) × (12 + c.letters ≤ length s)
    valid-letters = (valid-ranges.letters, omega (arith, seen.there))

    pub valid-alphabet : (automaton_of s).alphabet ≡ letter_bytes c s
    unfolding decoded
    valid-alphabet = ap (λ (x : Automaton). x.alphabet) valid-decoded

    -- the letters, where the part of the file up to their end is lent
    pub lent_alphabet : (end : ℕ) → end ≡ 12 + c.letters → take (end - 12) (drop 12 s) ≡ (automaton_of s).alphabet
    lent_alphabet end e = ap (λ (n : ℕ). take (n - 12) (drop 12 s)) e ∙ lent_letters c s ∙ sym valid-alphabet

    pub valid-arcs : (automaton_of s).arcs ≡ arcs_of c.arcs (drop (first_arc c) s)
    unfolding decoded
    valid-arcs = ap (λ (x : Automaton). x.arcs) valid-decoded

    arcs : ArcsSeen c c.arcs (drop (first_arc c) s)
    arcs = arcs-seen c c.arcs (first_arc c) (drop (first_arc c) s) valid-ranges.symbols seen.arcs

    pub valid-lies : Lies c.registers c.arcs (first_arc c) s
    valid-lies = record {
      registers = valid-ranges.registers;
      few = valid-ranges.arcs;
      fits = omega (arith, arcs.all, length-drop (first_arc c) s, seen.there);
      ok = arcs.ok;
    }

    pub valid-longest : length s ≤ 41292
    unfolding OkArcs whole
    valid-longest =
        let r = valid-ranges in
        let w = whole-most c.registers c.arcs (drop (first_arc c) s) arcs.ok in
        omega (arith, arcs.all, length-drop (first_arc c) s, seen.there)
      where
        whole-most : (n m : ℕ) (l : List ℕ) → OkArcs n m l → whole m l ≤ 20 * m
        whole-most n zero l h = omega arith
        whole-most n (suc m) l h = omega (arith, h.0, whole-most n m (drop (arc_size l) l) h.2)
