-- `table::block::build` meets its contract: what exploring leaves, with its rows closed, stands for the automaton.
use mathlib.Core.Path.{◌≡◌, refl, subst}
use mathlib.Core.Logic.{inl}
use native.Mathlib.Omega.{arith}
use Rattle.word_fields.proofs.Laws.{but_high, but_then, kept-wider}
use Rattle.format.specs.Decoding.{automaton_of}
use Rattle.file_laws.proofs.Laws.{valid-arcs}
use Rattle.table_explore.specs.Explores.{Explores}
use Rattle.std.specs.Prelude.{Option}
use Rattle.table_configurations.specs.declared.Sizes.{Sizes}
use Rattle.table_configurations.proofs.Laws.{placed-kept}
use Rattle.table.proofs.Opening.{registers-are, valid-walkable}
use Rattle.table.proofs.Standing.{closed-raised}
use Rattle.table.proofs.block.build.Goals as goal
use Rattle.table.proofs.block.build.Goals.{After-explore_all}

-- what exploring answers, of the automaton of the file
told : (e : goal.After-explore_all) (r : Option Sizes) → e.explore_all.result ≡ r → Explores (automaton_of e.args.file.now) 256 e.explore_all.new.w e.args.base r
told e r q = subst (λ (r : Option Sizes). Explores (automaton_of e.args.file.now) 256 e.explore_all.new.w e.args.base r) q (e.explore_all.ensures.explores (automaton_of e.args.file.now) (registers-are _ _ e.requires.0) (valid-arcs _ _ e.requires.0))

pub explore_all-requires : goal.explore_all-requires
explore_all-requires c = (valid-walkable _ _ c.requires.0, c.requires.1)

pub close_rows-requires : goal.close_rows-requires
close_rows-requires c = let f = told (goal.at.close_rows-requires c).After-explore_all _ c.in_ok-sizes.was in
    let few = f.block.configured.few in
    (omega (arith, few), (omega (arith, few, c.requires.1.block, c.explore_all.ensures.kept.long), λ i h. (f.block.rows i i (omega (arith, h))).1 (inl refl)))

pub returns-in_err-sizes : goal.returns-in_err-sizes
returns-in_err-sizes c = let f = told (goal.at.returns-in_err-sizes c).After-explore_all _ c.in_err-sizes.was in rw c.from_residual.ensures (record { kept = c.explore_all.ensures.kept; answer = f.answer; stands = tt })

pub returns : goal.returns
returns c = let f = told (goal.at.returns c).After-explore_all _ c.in_ok-sizes.was in record { kept = but_then c.explore_all.ensures.kept (but_high (omega (arith, c.requires.1.above)) (omega arith) (omega (arith, f.block.configured.few)) c.close_rows.ensures.kept); answer = f.answer; stands = closed-raised c.args.file.now (record { base = c.args.base; count = c.in_ok-sizes.sizes.count; plain = c.in_ok-sizes.sizes.plain }) c.requires.0 (placed-kept c.explore_all.ensures.kept.long c.requires.1) c.explore_all.ensures.arcs.0 c.explore_all.ensures.arcs.1 f (kept-wider (omega arith) (omega arith) c.close_rows.ensures.kept) c.close_rows.ensures.closed }
