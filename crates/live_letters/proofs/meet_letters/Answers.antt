use native.Mathlib.Omega.{arith}
use Rattle.std.proofs.Common.{◌≡◌, ◌∙◌, ◌*◌, ◌+◌, ◌<◌, ℕ, [], ◌∷◌, false, get_or, length, subst, sym, T}
use Rattle.word_sets.specs.Sets.{bit}
use Rattle.live_letters.specs.Meeting.{left_set, right_set}
use Rattle.live_letters.proofs.TableFrames.{met-as_left}
use Rattle.live_letters.proofs.MeetAll.{empty-sets, is-off, some_side, turns-end, turns_more, turns-over, turns-start}
use Rattle.live_letters.proofs.MetAllLaws.{all-entries, all-grows}
use Rattle.live_letters.proofs.meet_letters.Goals as goal

pub loop-l-init : goal.loop-l-init
loop-l-init g c = turns-start c.args.t (left_set c.args.w.now c.args.acc c.args.met) (right_set c.args.w.now c.args.acc c.args.met) c.args.i c.args.low c.args.end c.args.from c.args.w.now c.requires.end_bound.1.1 c.requires.row_chain

pub returns-in_err-n-clause-meets : goal.returns-in_err-n-clause-meets
returns-in_err-n-clause-meets g c =
    let some : 0 < length c.args.acc = omega (arith, c.well_formed.1.1.0.1.0.1, some_side c.requires.tabled.0.0 c.requires.tabled.0.1) in
    let met = met-as_left c.requires.tabled.1 c.loop-l.invariant.kept c.args.met c.meet_letter.new.w c.loop-l.n (c.args.i * 64 + c.loop-l.l) c.loop-l.l c.meet_letter.result some c.meet_letter.ensures in
    rw c.from_residual.ensures (turns-over c.meet_letter.new.w c.meet_letter.result c.loop-l-test.true c.loop-l.invariant met c.in_err-n.was)

pub returns-in_err-n-clause-entries : goal.returns-in_err-n-clause-entries
returns-in_err-n-clause-entries g c = all-entries c.requires.end_bound.0 _ _ _ _ _ _ _ _ _ (returns-in_err-n-clause-meets g c)

pub loop-l-preserved : goal.loop-l-preserved
loop-l-preserved g c =
    let some : 0 < length c.args.acc = omega (arith, c.well_formed.1.1.0.1.0.1, some_side c.requires.tabled.0.0 c.requires.tabled.0.1) in
    let met = met-as_left c.requires.tabled.1 c.loop-l.invariant.kept c.args.met c.meet_letter.new.w c.loop-l.n (c.args.i * 64 + c.loop-l.l) c.loop-l.l c.meet_letter.result some c.meet_letter.ensures in
    let off : (j : ℕ) → bit c.met_by_some-some.result j ≡ false → (left_set c.args.w.now c.args.acc c.args.met j ≡ 0 ∷ 0 ∷ 0 ∷ 0 ∷ []) × (right_set c.args.w.now c.args.acc c.args.met j ≡ 0 ∷ 0 ∷ 0 ∷ 0 ∷ []) =
    λ j e. empty-sets c.args.w.now c.args.acc c.args.met j (omega (arith, c.well_formed.1.1.0.1.0.1, c.well_formed.1.1.1.0.1.0.1)) (λ k h. (c.met_by_some-some.ensures j).0 e k (omega (arith, c.well_formed.1.1.1.0.1.0.1))) in
    turns_more c.meet_letter.new.w c.meet_letter.result c.loop-l-test.true c.loop-l.invariant met off c.in_ok-n.n c.next_letter-l.result c.unmet-dead.result c.in_ok-n.was
    (λ z. off c.loop-l.l (is-off (bit c.met_by_some-some.result c.loop-l.l) (subst T c.unmet-dead.ensures z))) c.next_letter-l.ensures

pub returns-clause-meets : goal.returns-clause-meets
returns-clause-meets g c = turns-end c.loop-l-test.false c.loop-l.invariant

pub returns-clause-grows : goal.returns-clause-grows
returns-clause-grows g c = all-grows c.requires.end_bound.0 _ _ _ _ _ _ _ _ _ (returns-clause-meets g c)

pub returns-clause-entries : goal.returns-clause-entries
returns-clause-entries g c = all-entries c.requires.end_bound.0 _ _ _ _ _ _ _ _ _ (returns-clause-meets g c)
