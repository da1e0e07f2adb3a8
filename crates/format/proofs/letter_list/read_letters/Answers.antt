-- The letters: at each return the tests before it hold, and the one there fails or all hold.
use mathlib.Core.Path.{◌≡◌, ap, ap₂, sym, ◌∙◌}
use mathlib.Core.Bool.{true}
use Prim.Native.Nat.{ℕ, ◌+◌, ◌-◌, ◌≤◌}
use native.Mathlib.Omega.{arith}
use borrow.Author.Tests.{le-leb, lt-leb}
use lib.Dec.{leb}
use lib.ListN.{length, take, drop}
use Rattle.automata.specs.Letters.{unlike}
use Rattle.std.specs.Prelude.{Err}
use Rattle.file_fields.specs.declared.Reason.TheVariants.{LettersNotAscending}
use Rattle.file_fields.specs.Parts.{letter_bytes, ascending, ascending_front, unlike_front, first_fault}
use Rattle.file_fields.proofs.Laws.{failed, letters-length, passed, unlike-all}
use Rattle.format.proofs.letter_list.read_letters.Goals as goal
use Rattle.format.proofs.letter_list.read_letters.Goals.{After-ascending_front, After-is_ascending, After-unlike_front-unlike, Else-file-flags, Else-not-is_ascending}

-- ---- what the callees said of the letters as they are lent, said of the file
lent : (c : goal.Else-file-flags) → c.flags_at-flags.result - 12 ≡ c.args.c.letters
lent c = omega (arith, c.flags_at-flags.ensures)

size : (c : goal.Else-file-flags) → length (letter_bytes c.args.c c.args.file.now) ≡ c.args.c.letters
size c = letters-length c.args.c c.args.file.now (omega (arith, c.flags_at-flags.ensures))

ascends : (r : goal.After-is_ascending) → r.is_ascending.result ≡ ascending (letter_bytes r.args.c r.args.file.now)
ascends r = let lent' : r.flags_at-flags.result - 12 ≡ r.args.c.letters = omega (arith, r.flags_at-flags.ensures) in
    r.is_ascending.ensures ∙ ap (λ n. ascending (take n (drop 12 r.args.file.now))) (lent')

-- how many ascend: no more than there are
rise : (f : goal.After-ascending_front) → (f.ascending_front.result ≡ ascending_front (letter_bytes f.args.c f.args.file.now)) × (f.ascending_front.result ≤ f.args.c.letters)
rise f = let lent' : f.flags_at-flags.result - 12 ≡ f.args.c.letters = omega (arith, f.flags_at-flags.ensures) in
    let size' : length (letter_bytes f.args.c f.args.file.now) ≡ f.args.c.letters = letters-length f.args.c f.args.file.now (omega (arith, f.flags_at-flags.ensures)) in
    let known = rw (lent') at f.ascending_front.ensures in
    let n = size' in
    (known.0, omega (arith, known.1))

-- how many are listed once, and all are just if that is how many there are
once : (u : goal.After-unlike_front-unlike) → u.unlike_front-unlike.result ≡ unlike_front (letter_bytes u.args.c u.args.file.now)
once u = let lent' : u.flags_at-flags.result - 12 ≡ u.args.c.letters = omega (arith, u.flags_at-flags.ensures) in
    u.unlike_front-unlike.ensures ∙ ap (λ n. unlike_front (take n (drop 12 u.args.file.now))) (lent')

all_once : (u : goal.After-unlike_front-unlike) → unlike (letter_bytes u.args.c u.args.file.now) ≡ leb u.args.c.letters u.unlike_front-unlike.result
all_once u = let size' : length (letter_bytes u.args.c u.args.file.now) ≡ u.args.c.letters = letters-length u.args.c u.args.file.now (omega (arith, u.flags_at-flags.ensures)) in
    unlike-all (letter_bytes u.args.c u.args.file.now) ∙ ap₂ leb (size') (sym (once u))

-- ---- the tests that hold where the letters are looked at, and behind them
there : (c : goal.Else-file-flags) → leb (12 + c.args.c.letters) (length c.args.file.now) ≡ true
there c = le-leb (12 + c.args.c.letters) (length c.args.file.now) (omega (arith, c.flags_at-flags.ensures))

risen : (c : goal.Else-not-is_ascending) → ascending (letter_bytes c.args.c c.args.file.now) ≡ true
risen c = let lent' : c.flags_at-flags.result - 12 ≡ c.args.c.letters = omega (arith, c.flags_at-flags.ensures) in
    let ascends' : c.is_ascending.result ≡ ascending (letter_bytes c.args.c c.args.file.now) = c.is_ascending.ensures ∙ ap (λ n. ascending (take n (drop 12 c.args.file.now))) (lent') in
    passed (ascends') c.if-not-is_ascending.false-raw

-- ---- the returns
pub returns-then-file-flags : goal.returns-then-file-flags
unfolding first_fault
returns-then-file-flags c = rw (lt-leb (12 + c.args.c.letters) (length c.args.file.now) (omega (arith, c.flags_at-flags.ensures)), c.at.ensures)

pub returns-then-not-is_ascending : goal.returns-then-not-is_ascending
unfolding first_fault
returns-then-not-is_ascending c = rw (there (goal.at.returns-then-not-is_ascending c).Else-file-flags, failed (ascends (goal.at.returns-then-not-is_ascending c).After-is_ascending) c.if-not-is_ascending.true-raw, c.at-then-not-is_ascending.ensures) (ap (λ (n : ℕ). Err (record { reason = LettersNotAscending; place = (12 + n) })) (rise (goal.at.returns-then-not-is_ascending c).After-ascending_front).0)

pub unlike_front-unlike-requires : goal.unlike_front-unlike-requires
unlike_front-unlike-requires c = passed c.is_ascending.ensures c.if-not-is_ascending.false-raw

pub returns-then-unlike-c : goal.returns-then-unlike-c
unfolding first_fault
returns-then-unlike-c c = let fewer = lt-leb c.args.c.letters c.unlike_front-unlike.result (omega arith) in
    rw (there (goal.at.returns-then-unlike-c c).Else-file-flags, risen (goal.at.returns-then-unlike-c c).Else-not-is_ascending, all_once (goal.at.returns-then-unlike-c c).After-unlike_front-unlike ∙ fewer, c.at-then-unlike-c.ensures) (ap (λ (n : ℕ). Err (record { reason = LettersNotAscending; place = (12 + n) })) (once (goal.at.returns-then-unlike-c c).After-unlike_front-unlike))

pub returns : goal.returns
unfolding first_fault
returns c = rw (there (goal.at.returns c).Else-file-flags, risen (goal.at.returns c).Else-not-is_ascending, all_once (goal.at.returns c).After-unlike_front-unlike ∙ le-leb _ _ c.if-unlike-c.false)
