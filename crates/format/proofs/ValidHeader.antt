-- ValidHeader: what reading has seen of a header when it finds no fault there, and of a file's front.
use mathlib.Core.Path.{◌≡◌, subst}
use mathlib.Core.Bool.{Bool, true, ◌&&◌}
use mathlib.Core.List.{List, ◌++◌}
use Prim.Native.Nat.{ℕ, ◌≤◌}
use borrow.Author.Tests.{leb-true, le-leb, eqb-true, eq-eqb}
use lib.Dec.{leb}
use lib.ListN.{length, drop}
use Rattle.file_fields.specs.declared.Reason.{Reason}
use Rattle.file_fields.specs.declared.Counts.{Counts}
use Rattle.std.specs.Prelude.{Ok}
use Rattle.file_fields.specs.Parts.{two, marked, counts_of, count_tests, header_tests, letter_tests, flag_tests, first_arc, arcs_tests, first_fault}
use Rattle.format.specs.Reading.{front_tests}
use Rattle.format.specs.Limits.{Ranges}
use Rattle.file_fields.proofs.Laws.{Hold, and_both, valid-hold}

-- ---- the counts' ranges
-- a count between two others
between : {a b x : ℕ} → (leb a x && leb x b) ≡ true → (a ≤ x) × (x ≤ b)
between {a} {b} {x} e = let h = and_both (leb a x) (leb x b) e in (leb-true _ _ h.0, leb-true _ _ h.1)

ranges-of : (c : Counts) → Hold (count_tests c) → Ranges c
ranges-of c h =
    let states = between h.1.0 in
    let registers = between h.1.1.0 in
    let symbols = between h.1.1.1.0 in
    record {
      letters = leb-true _ _ h.0;
      some_state = states.0;
      states = states.1;
      some_register = registers.0;
      registers = registers.1;
      some_symbol = symbols.0;
      symbols = symbols.1;
      arcs = leb-true _ _ h.1.1.1.1.0;
    }

within : {a b x : ℕ} → a ≤ x → x ≤ b → (leb a x && leb x b) ≡ true
within low high = rw (le-leb _ _ low, le-leb _ _ high)

ranges_in : (c : Counts) → Ranges c → Hold (count_tests c)
ranges_in c r =
    (le-leb _ _ r.letters, (within r.some_state r.states, (within r.some_register r.registers, (within r.some_symbol r.symbols, (le-leb _ _ r.arcs, tt)))))

-- ---- the header
pub record HeaderSeen (s : List ℕ) : Type 0 where
  pub twelve : 12 ≤ length s
  pub mark : marked s ≡ true
  pub version : two s 3 ≡ 1
  pub ranges : Ranges (counts_of s)

pub header-seen : (s : List ℕ) → Hold (header_tests s) → HeaderSeen s
header-seen s h = record { twelve = leb-true _ _ h.0; mark = h.1.0; version = eqb-true _ _ h.1.1.0; ranges = ranges-of (counts_of s) h.1.1.1 }

pub seen-header : (s : List ℕ) → HeaderSeen s → Hold (header_tests s)
seen-header s h = (le-leb _ _ h.twelve, (h.mark, (eq-eqb _ _ h.version, ranges_in (counts_of s) h.ranges)))

-- what follows it, as one list: the tests of a file are those of its header and these
abbrev pub body_tests : Counts → List ℕ → List (Bool × Reason × ℕ)
body_tests c s = letter_tests c s ++ (flag_tests c s ++ arcs_tests c.arcs c (first_arc c) (drop (first_arc c) s))

-- the counts that reading the header answers are in their ranges ..
pub header-ranges : (s : List ℕ) {c : Counts} → first_fault (header_tests s) (counts_of s) ≡ Ok c → Ranges c
header-ranges s e = let h = valid-hold (header_tests s) (counts_of s) e in subst (λ (d : Counts). Ranges d) h.1 (header-seen s h.0).ranges

-- .. and so are those that reading the front answers, and the file reaches to its first arc
pub front-there : (s : List ℕ) {c : Counts} → first_fault (front_tests s) (counts_of s) ≡ Ok c → Ranges c × (first_arc c ≤ length s)
front-there s e =
    let h = valid-hold (front_tests s) (counts_of s) e in
    let counts = h.0.1.1.1 in
    let letters = counts.1.1.1.1.1 in
    let ranges = ranges-of (counts_of s) (counts.0, (counts.1.0, (counts.1.1.0, (counts.1.1.1.0, (counts.1.1.1.1.0, tt))))) in
    subst (λ (d : Counts). Ranges d × (first_arc d ≤ length s)) h.1 (ranges, leb-true (first_arc (counts_of s)) (length s) letters.1.1.1.0)
