-- The final flags: at each return the tests before it hold, and the one there fails or all hold.
use mathlib.Core.Path.{◌≡◌, ap, ap₂, sym, ◌∙◌}
use mathlib.Core.Bool.{true}
use Prim.Native.Nat.{ℕ, ◌+◌, ◌-◌}
use native.Mathlib.Omega.{arith}
use borrow.Author.Tests.{le-leb, lt-leb}
use lib.Dec.{leb}
use lib.ListN.{length, take, drop}
use Rattle.std.specs.Prelude.{Err}
use Rattle.file_fields.specs.declared.Reason.TheVariants.{EndsInsideAField, FinalFlag}
use Rattle.file_fields.specs.Parts.{flag_bytes, first_arc, flags, flags_front, first_fault}
use Rattle.file_fields.proofs.Laws.{flags-all, flags-length}
use Rattle.format.proofs.flag_list.read_flags.Goals as goal
use Rattle.format.proofs.flag_list.read_flags.Goals.{After-flags_front-known, Else-file-arcs}

-- what the callee said of the flags as they are lent, said of the file: how many are flags, and all are just if that is how many there are
flagged : (f : goal.After-flags_front-known) → f.flags_front-known.result ≡ flags_front (flag_bytes f.args.c f.args.file.now)
flagged f = let e : f.first_arc-arcs.result - f.flags_at-flags.result ≡ f.args.c.states = omega (arith, f.flags_at-flags.ensures, f.first_arc-arcs.ensures) in
    f.flags_front-known.ensures ∙ ap₂ (λ m n. flags_front (take n (drop m f.args.file.now))) f.flags_at-flags.ensures e

all-flags : (f : goal.After-flags_front-known) → flags (flag_bytes f.args.c f.args.file.now) ≡ leb f.args.c.states f.flags_front-known.result
all-flags f = flags-all (flag_bytes f.args.c f.args.file.now) ∙ ap₂ leb (flags-length f.args.c f.args.file.now (omega (arith, f.first_arc-arcs.ensures))) (sym (flagged f))

there : (c : goal.Else-file-arcs) → leb (first_arc c.args.c) (length c.args.file.now) ≡ true
there c = le-leb (first_arc c.args.c) (length c.args.file.now) (omega (arith, c.first_arc-arcs.ensures))

pub returns-then-file-arcs : goal.returns-then-file-arcs
unfolding first_fault
returns-then-file-arcs c = rw (lt-leb (first_arc c.args.c) (length c.args.file.now) (omega (arith, c.first_arc-arcs.ensures)), c.at.ensures) (ap (λ (n : ℕ). Err (record { reason = EndsInsideAField; place = n })) c.flags_at-flags.ensures)

pub returns-then-known-c : goal.returns-then-known-c
unfolding first_fault
returns-then-known-c c = rw (there (goal.at.returns-then-known-c c).Else-file-arcs, all-flags (goal.at.returns-then-known-c c).After-flags_front-known ∙ lt-leb _ _ c.if-known-c.true, c.at-then-known-c.ensures) (ap₂ (λ (m n : ℕ). Err (record { reason = FinalFlag; place = (m + n) })) c.flags_at-flags.ensures (flagged (goal.at.returns-then-known-c c).After-flags_front-known))

pub returns : goal.returns
unfolding first_fault
returns c = rw (there (goal.at.returns c).Else-file-arcs, all-flags (goal.at.returns c).After-flags_front-known ∙ le-leb _ _ c.if-known-c.false)
