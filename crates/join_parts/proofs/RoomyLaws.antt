-- RoomyLaws: an automaton with room for n letters: its counts, its bytes as writers meet them, and where its front ends.
use mathlib.Core.Path.{◌∙◌, ◌≡◌, ap, ap₂, refl}
use mathlib.Core.List.{List, ◌++◌, map}
use Prim.Native.Nat.{ℕ, ◌+◌, ◌-◌, ◌≤◌}
use native.Mathlib.Omega.{arith}
use lib.ListN.{length, length-append, length-replicate, replicate}
use Rattle.automata.specs.Automaton.{Automaton, states}
use Rattle.file_fields.specs.declared.Counts.{Counts}
use Rattle.std.specs.Prelude.{Ok}
use Rattle.format.specs.Decoding.{automaton_of}
use Rattle.format.specs.Encoding.{arcs_bytes, bytes_of, flag_byte, header_bytes, sizes}
use Rattle.format.specs.Reading.{reading_of}
use Rattle.file_laws.proofs.Laws.{bytes-length}
use Rattle.file_writing.specs.Placing.{Appended}
use Rattle.file_writing.proofs.Laws.{bytes-from, front_ends}
use Rattle.join_parts.specs.OwnNumbers.{roomy}
use Rattle.join_parts.proofs.FinalFlags.{valid-lengths}

-- the letters of an automaton, and 00 for those that are left of n
abbrev pub roomy_letters : (n m : ℕ) (letters : List ℕ) → List ℕ
roomy_letters n m letters = letters ++ replicate (n - m) 0

letters-long : (n m : ℕ) (letters : List ℕ) → length letters ≡ m → m ≤ n → length (roomy_letters n m letters) ≡ n
letters-long n m letters e h = omega (arith, length-append letters (replicate (n - m) 0), length-replicate {A = ℕ} (n - m) 0)

module _ (n : ℕ) (x : Automaton) (room : length x.alphabet ≤ n) where
  -- room for letters changes no other count
  pub roomy-counts : sizes (roomy n x) ≡ record { letters = n; states = states x; registers = x.registers; symbols = x.symbols; arcs = length x.arcs }
  unfolding roomy
  roomy-counts =
      let l = letters-long n (length x.alphabet) x.alphabet refl room in
      λ i. record { letters = l i; states = states x; registers = x.registers; symbols = x.symbols; arcs = length x.arcs }

  pub roomy-length : length (bytes_of (roomy n x)) ≡ 12 + n + states x + length (arcs_bytes x.arcs)
  unfolding roomy
  roomy-length = omega (arith, bytes-length (roomy n x), ap (λ (c : Counts). c.letters) roomy-counts)

-- header, letters and 00, then flags and arcs
pub roomy-from : (n m : ℕ) (x : Automaton) {c : Counts} → sizes (roomy n x) ≡ c → length x.alphabet ≡ m → bytes_of (roomy n x) ≡ (header_bytes c ++ roomy_letters n m x.alphabet) ++ (map flag_byte x.finals ++ arcs_bytes x.arcs)
unfolding roomy
roomy-from n m x e k =
    bytes-from (roomy n x) ∙ ap₂ (λ (d : Counts) (j : ℕ). (header_bytes d ++ roomy_letters n j x.alphabet) ++ (map flag_byte x.finals ++ arcs_bytes x.arcs)) e k

-- header, letters and 00 stand before the flags
pub roomy-ends : (s : List ℕ) (a : Counts) → reading_of s ≡ Ok a → (c : Counts) → a.letters ≤ c.letters → {old out : List ℕ} {next : ℕ}
    → Appended 0 (header_bytes c ++ roomy_letters c.letters a.letters (automaton_of s).alphabet) old out next → (next ≡ 12 + c.letters) × (length out ≡ length old)
roomy-ends s a e c h w =
    let l = letters-long c.letters a.letters (automaton_of s).alphabet (valid-lengths s a e).0 h in
    let f = front_ends c (roomy_letters c.letters a.letters (automaton_of s).alphabet) w in
    (omega (arith, f.0), f.1)
