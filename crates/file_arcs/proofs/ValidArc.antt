-- ValidArc: what reading has seen of an arc when it finds no fault there.
use mathlib.Core.Path.{◌≡◌}
use mathlib.Core.Bool.{true}
use mathlib.Core.List.{List}
use Prim.Native.Nat.{ℕ, ◌≤◌}
use borrow.Author.Tests.{leb-true}
use lib.ListN.{length, get_or, drop}
use Rattle.file_fields.specs.declared.Counts.{Counts}
use Rattle.std.specs.Prelude.{Ok}
use Rattle.file_fields.specs.Parts.{field_tests, well_ops, arc_size, arc_tests, first_fault}
use Rattle.file_fields.proofs.Laws.{Hold, valid-hold}

-- the place of the arc decides nothing: tests hold at one place just if they hold at another
pub record ArcSeen (c : Counts) (l : List ℕ) : Type 0 where
  pub fields : Hold (field_tests c 0 l)
  pub whole : arc_size l ≤ length l
  pub ops : well_ops c (get_or l 1 0) (get_or l 3 0) (drop 4 l) ≡ true

pub arc-seen : (c : Counts) (at : ℕ) (l : List ℕ) → Hold (arc_tests c at l) → ArcSeen c l
arc-seen c at l h =
    let f = h.1 in
    let o = f.1.1.1.1 in
    record { fields = (f.0, (f.1.0, (f.1.1.0, (f.1.1.1.0, tt)))); whole = leb-true _ _ o.0; ops = o.1.0 }

-- an arc without a fault is there whole
pub arc-whole : (c : Counts) (at : ℕ) (l : List ℕ) {d : Counts} → first_fault (arc_tests c at l) c ≡ Ok d → arc_size l ≤ length l
arc-whole c at l e = (arc-seen c at l (valid-hold (arc_tests c at l) c e).0).whole
