use mathlib.Core.Path.{◌∙◌, ◌≡◌, ap}
use native.Mathlib.Omega.{arith}
use lib.ListN.{get_or, length, length-set}
use Rattle.std.specs.Option.{unwrap_or}
use Rattle.automata.specs.Words.{place}
use Rattle.file_letters.proofs.FillLaws.{filled_more}
use Rattle.file_letters.proofs.PlaceLaws.{place_found}
use Rattle.file_letters.proofs.numbering.number_letters.Goals as goal

pub loop-i-preserved : goal.loop-i-preserved
loop-i-preserved c = let e : c.unwrap_or.result ≡ place c.args.all.now (get_or c.args.own.now c.loop-i.i 0) = c.unwrap_or.ensures ∙ ap (λ o. unwrap_or o (length c.args.all.now)) c.place_of.ensures ∙ place_found c.args.all.now (get_or c.args.own.now c.loop-i.i 0) in (
  length-set c.loop-i.new c.loop-i.i c.unwrap_or.result ∙ c.loop-i.invariant.0,
  rw e (filled_more (place c.args.all.now) c.args.own.now c.loop-i.new c.loop-i.i (omega arith) (omega (arith, c.loop-i.invariant.0, c.requires.0)) c.loop-i.invariant.1),
)
