-- ArcWalk: the arcs of a valid file, one behind the other, as loops over them meet them, and the bytes of arcs made of them.
use mathlib.Core.Path.{◌≡◌}
use mathlib.Core.Bool.{Bool, true}
use mathlib.Core.List.{List, [], ◌++◌, ◌∷◌, map}
use Prim.Native.Nat.{◌*◌, ◌+◌, ◌-◌, ◌/◌, ◌<◌, ◌≤◌, suc, zero, ℕ}
use native.Mathlib.Nat.{add-zero}
use native.Mathlib.Omega.{arith}
use lib.ListN.{drop, get_or, length, length-drop}
use lib.Seq.{drop-drop, get_or-drop}
use Rattle.automata.specs.Automaton.{Arc}
use Rattle.automata.proofs.Laws.{each-split}
use Rattle.file_fields.specs.declared.Counts.{Counts}
use Rattle.file_fields.specs.declared.Reason.{Reason}
use Rattle.std.specs.Prelude.{Ok}
use Rattle.format.specs.Limits.{Ranges}
use Rattle.format.specs.Encoding.{arc_bytes, arcs_bytes}
use Rattle.format.specs.Decoding.{arc_of, arcs_of, letter_of, ops_of}
use Rattle.file_fields.specs.Parts.{arc_size, arc_tests, arcs_tests, first_arc, well_op, well_ops}
use Rattle.format.specs.Reading.{reading_of}
use Rattle.file_laws.proofs.Laws.{ArcFits, arc-fits, file-seen, Op-kind, valid-ranges}
use Rattle.file_fields.proofs.Laws.{Hold, and_both, down, none_left}
use Rattle.file_arcs.proofs.Laws.{arc-seen}
use Rattle.file_arc_writing.specs.Arcs.{KnownOps}

-- the arc at a place, byte by byte
pub arc-at : (s : List ℕ) (from : ℕ)
    → arc_of (drop from s) ≡ record { source = get_or s from 0; letter = letter_of (get_or s (from + 1) 0); target = get_or s (from + 2) 0; ops = ops_of (get_or s (from + 3) 0) (drop (from + 4) s) }
unfolding arc_of
arc-at s from = rw (get_or-drop from s 0 0, get_or-drop from s 1 0, get_or-drop from s 2 0, get_or-drop from s 3 0, drop-drop 4 from s, add-zero)

-- `left` arcs are left, from the place `from` on
pub record Walk (c : Counts) (s : List ℕ) (left from : ℕ) : Type 0 where
  pub ranges : Ranges c
  pub there : from ≤ length s
  pub tests : Hold (arcs_tests left c from (drop from s))

-- operations without a fault are reads and writes
known-ops : (c : Counts) (letter p : ℕ) (l : List ℕ) → well_ops c letter p l ≡ true → KnownOps p l
unfolding well_ops
known-ops c letter zero l e i h = absurd (omega arith)
known-ops c letter (suc p) l e i h = let b = and_both (well_op c letter (get_or l 0 0) (get_or l 1 0)) (well_ops c letter p (drop 2 l)) e in go i h (Op-kind c letter (get_or l 0 0) (get_or l 1 0) b.0) (known-ops c letter p (drop 2 l) b.1)
  where
    go : (i : ℕ) → i < suc p → get_or l 0 0 / 16 ≤ 1 → KnownOps p (drop 2 l) → get_or l (2 * i) 0 < 32
    go zero h k rest = omega arith
    go (suc i) h k rest = let e : 2 * suc i ≡ 2 + 2 * i = omega arith in rw (e, ← get_or-drop 2 l (2 * i) 0) (rest i (omega arith))

-- an arc stands there whole
pub record ArcHere (c : Counts) (s : List ℕ) (from : ℕ) : Type 0 where
  pub whole : from + arc_size (drop from s) ≤ length s
  pub fits : ArcFits c (arc_of (drop from s))
  pub kinds : KnownOps (get_or s (from + 3) 0) (drop (from + 4) s)

pub walk_start : (s : List ℕ) (c : Counts) → reading_of s ≡ Ok c → Walk c s c.arcs (first_arc c)
walk_start s c e = let f = file-seen s c e in record { ranges = valid-ranges s c e; there = f.there; tests = f.arcs }

module _ (c : Counts) (s : List ℕ) (m i from : ℕ) where
  abbrev here : List ℕ
  here = drop from s

  abbrev next : ℕ
  next = from + arc_size here

  pub walk_here : i < m → Walk c s (m - i) from → ArcHere c s from
  unfolding arcs_tests
  walk_here h w =
      let t = rw (down m i h) at w.tests in
      let a = arc-seen c from here (each-split (λ (t : Bool × Reason × ℕ). t.0 ≡ true) (arc_tests c from here) (arcs_tests (m - (i + 1)) c next (drop (arc_size here) here)) t).0 in
      let kinds = rw (get_or-drop from s 3 0, drop-drop 4 from s) at (known-ops c (get_or here 1 0) (get_or here 3 0) (drop 4 here) a.ops) in
      record { whole = omega (arith, a.whole, length-drop from s, w.there); fits = arc-fits c here w.ranges.symbols a; kinds = kinds }

  pub walk-on : i < m → Walk c s (m - i) from → Walk c s (m - (i + 1)) next
  unfolding arcs_tests
  walk-on h w =
      let t = rw (down m i h) at w.tests in
      let rest = (each-split (λ (t : Bool × Reason × ℕ). t.0 ≡ true) (arc_tests c from here) (arcs_tests (m - (i + 1)) c next (drop (arc_size here) here)) t).1 in
      record { ranges = w.ranges; there = (walk_here h w).whole; tests = rw (drop-drop (arc_size here) from s) at rest }

  -- the arcs that are left, one step and the end
  pub arcs-next : i < m → arcs_of (m - i) here ≡ arc_of here ∷ arcs_of (m - (i + 1)) (drop next s)
  unfolding arcs_of
  arcs-next h = rw (down m i h, drop-drop (arc_size here) from s)

  pub arcs-none : m ≤ i → arcs_of (m - i) here ≡ []
  unfolding arcs_of
  arcs-none h = rw (none_left m i h)

  -- the bytes of an arc made of each
  pub mapped_next : (f : Arc → Arc) → i < m → arcs_bytes (map f (arcs_of (m - i) here)) ≡ arc_bytes (f (arc_of here)) ++ arcs_bytes (map f (arcs_of (m - (i + 1)) (drop next s)))
  unfolding arcs_bytes
  mapped_next f h = rw (arcs-next h)

  pub mapped_none : (f : Arc → Arc) → m ≤ i → arcs_bytes (map f (arcs_of (m - i) here)) ≡ []
  unfolding arcs_bytes
  mapped_none f h = rw (arcs-none h)
