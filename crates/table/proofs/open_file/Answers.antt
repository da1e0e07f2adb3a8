-- `table::open_file` meets its contract: each way out is a case of the definition (Opening).
use mathlib.Core.Path.{◌≡◌, ◌∙◌, ap, refl, subst, sym}
use native.Mathlib.Omega.{arith}
use lib.ListN.{length}
use Rattle.format.specs.Decoding.{automaton_of}
use Rattle.format.specs.Reading.{reading_of}
use Rattle.file_laws.proofs.Laws.{valid-arcs}
use Rattle.std.specs.Prelude.{Err, Ok, Option}
use Rattle.table_configurations.specs.declared.Sizes.{Sizes}
use Rattle.table_explore.specs.Explores.{Explores}
use Rattle.table.proofs.Opening.{opened-beyond, opened-fault, opened-open, opened-short, registers-are, valid-walkable}
use Rattle.table.proofs.open_file.Goals as goal
use Rattle.table.proofs.open_file.Goals.{After-explore_all, In-Ok}

-- the file is valid, once its counts are taken
valid : (c : goal.In-Ok) → reading_of c.args.file.now ≡ Ok c.in-Ok.c
valid c = sym c.read-reading.ensures ∙ c.in-Ok.is

-- what exploring leaves, of the automaton of the file
told : (b : goal.After-explore_all) (r : Option Sizes) → b.explore_all.result ≡ r → Explores (automaton_of b.args.file.now) 256 b.explore_all.new.w 4992 r
told b r q =
    let e : reading_of b.args.file.now ≡ Ok b.in-Ok.c = sym b.read-reading.ensures ∙ b.in-Ok.is in
    subst (λ (r : Option Sizes). Explores (automaton_of b.args.file.now) 256 b.explore_all.new.w 4992 r) q (b.explore_all.ensures.explores (automaton_of b.args.file.now) (registers-are _ _ e) (valid-arcs _ _ e))

-- the working words are too few
pub returns-then-work-lt8192 : goal.returns-then-work-lt8192
returns-then-work-lt8192 c = record { same = refl; answer = ap Err c.of_call.ensures ∙ opened-short c.args.file.now (length c.args.work.now) c.if-work-lt8192.true; block = tt }

-- the file has a fault
pub returns-in_default : goal.returns-in_default
returns-in_default c = record { same = refl; answer = ap Err c.of.ensures ∙ opened-fault c.args.file.now (length c.args.work.now) c.if-work-lt8192.false (sym (sym c.read-reading.ensures ∙ c.unwrap_err.ensures)); block = tt }

pub explore_all-requires : goal.explore_all-requires
explore_all-requires c = (valid-walkable _ _ (valid (goal.at.explore_all-requires c).In-Ok), record { above = omega arith; block = omega (arith, c.if-work-lt8192.false) })

-- it has too many configurations
pub returns-in_default-explore_all : goal.returns-in_default-explore_all
returns-in_default-explore_all c = let f = told (goal.at.returns-in_default-explore_all c).After-explore_all _ c.in_default-explore_all.is in record { same = c.explore_all.ensures.kept.long; answer = ap Err c.of-in_default-explore_all.ensures ∙ opened-beyond c.args.file.now (length c.args.work.now) c.if-work-lt8192.false (valid (goal.at.returns-in_default-explore_all c).In-Ok) f.answer; block = tt }

-- it is open
pub returns : goal.returns
returns c = let f = told (goal.at.returns c).After-explore_all _ c.in-Some.is in record { same = c.explore_all.ensures.kept.long; answer = opened-open c.args.file.now (length c.args.work.now) c.if-work-lt8192.false (valid (goal.at.returns c).In-Ok) c.in-Some.sizes.count c.in-Some.sizes.plain f.answer; block = record { valid = valid (goal.at.returns c).In-Ok; enough = omega (arith, c.if-work-lt8192.false, c.explore_all.ensures.kept.long); first = refl; placed = record { above = omega arith; block = omega (arith, c.if-work-lt8192.false, c.explore_all.ensures.kept.long) }; indexed = c.explore_all.ensures.arcs.0; linked = c.explore_all.ensures.arcs.1; explored = f } }
