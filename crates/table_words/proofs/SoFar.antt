-- SoFar: the words before one place of the bytes are judged: what all words give is what stands in the answers, followed by what the rest gives.
use mathlib.Core.Path.{◌∙◌, ◌≡◌, ap, refl, sym}
use mathlib.Core.List.{List, [], ◌∷◌, ◌++◌, append-nil}
use Prim.Native.Nat.{◌+◌, ◌-◌, ◌<◌, ◌≤◌, suc, ℕ}
use native.Mathlib.Omega.{arith}
use lib.ListN.{drop, length, length-drop, length-set, set, take, take-append-drop}
use lib.Seq.{append_snoc, drop-drop, drop-set-lt, length-take-le, take-suc-set}
use Rattle.automata.specs.Automaton.{Automaton}
use Rattle.table.specs.Membership.{judged}
use Rattle.table_words.specs.Words.{answered, before, bytes_of, packed, verdicts_of, words_in, words_judged}
use Rattle.std.specs.Prelude.{Ok}
use Rattle.table_words.specs.declared.Judged.{Judged}
use Rattle.table_words.proofs.WordLaws.{words_more}

module _ (x : Automaton) (bytes : List ℕ) (separator : ℕ) (lent : List ℕ) where
  -- all words
  abbrev all : List (List ℕ)
  all = words_in separator (length lent) bytes

  -- those from the place `from` on, where n are judged already
  abbrev rest : (n from : ℕ) → List (List ℕ)
  rest n from = words_in separator (length lent - n) (drop from bytes)

  pub record SoFar (n from : ℕ) (answers : List ℕ) : Type 0 where
    pub few : n ≤ length lent
    pub inside : from ≤ length bytes
    pub long : length answers ≡ length lent
    pub many : length all ≡ n + length (rest n from)
    pub taken : bytes_of all ≡ from + bytes_of (rest n from)
    pub given : verdicts_of x all ≡ take n answers ++ verdicts_of x (rest n from)
    pub kept : drop n answers ≡ drop n lent

  pub so_far-none : SoFar 0 0 lent
  so_far-none =
      let z : length lent - 0 ≡ length lent = omega arith in
      let l : rest 0 0 ≡ all = ap (λ (n : ℕ). words_in separator n bytes) z in
      record { few = omega arith; inside = omega arith; long = refl; many = rw l (omega arith); taken = rw l (omega arith); given = rw l; kept = refl }

  module _ {n from : ℕ} {answers : List ℕ} (h : SoFar n from answers) where
    -- the word from `from` to `end` is the next one, and its answer is noted
    pub so_far_more : (end v : ℕ) → n < length lent → end ≡ from + before separator (drop from bytes) → end < length bytes
        → v ≡ packed (Ok (judged 256 x (take (end - from) (drop from bytes)))) → SoFar (n + 1) (end + 1) (set answers n v)
    unfolding bytes_of
    so_far_more end v room e inside right = record {
      few = omega arith;
      inside = omega arith;
      long = length-set answers n v ∙ h.long;
      many = omega (arith, h.many, ap length next);
      taken = omega (arith, h.taken, ap bytes_of next, bytes-more, word-long);
      given = h.given ∙ ap (λ (l : List (List ℕ)). take n answers ++ verdicts_of x l) next ∙ noted;
      kept = left;
    }
      where
        next : rest n from ≡ take (end - from) (drop from bytes) ∷ rest (n + 1) (end + 1)
        next = words_more separator bytes from end e (length lent) n room inside

        word-long : length (take (end - from) (drop from bytes)) ≡ end - from
        word-long = length-take-le (end - from) (drop from bytes) (omega (arith, length-drop from bytes))

        bytes-more : bytes_of (take (end - from) (drop from bytes) ∷ rest (n + 1) (end + 1)) ≡ length (take (end - from) (drop from bytes)) + 1 + bytes_of (rest (n + 1) (end + 1))
        bytes-more = refl

        one : n + 1 ≡ suc n
        one = omega arith

        noted : take n answers ++ (packed (Ok (judged 256 x (take (end - from) (drop from bytes)))) ∷ verdicts_of x (rest (n + 1) (end + 1))) ≡ take (n + 1) (set answers n v) ++ verdicts_of x (rest (n + 1) (end + 1))
        noted = rw (one, take-suc-set answers n v (omega (arith, h.long)), append_snoc (take n answers) v (verdicts_of x (rest (suc n) (end + 1))), right)

        left : drop (n + 1) (set answers n v) ≡ drop (n + 1) lent
        left = drop-set-lt (n + 1) answers n v (omega arith) ∙ sym (drop-drop 1 n answers) ∙ ap (drop 1) h.kept ∙ drop-drop 1 n lent

    abbrev so_many : Judged
    so_many = record { count = n; bytes = from }

    -- no word is left
    pub so_far-all : rest n from ≡ [] → so_many ≡ words_judged all
    unfolding words_judged bytes_of
    so_far-all none =
        let m : n ≡ length all = omega (arith, h.many, ap length none) in
        let t : from ≡ bytes_of all = omega (arith, h.taken, ap bytes_of none) in
        λ i. record { count = m i; bytes = t i }

    pub so_far-answered : rest n from ≡ [] → answers ≡ answered (Ok so_many) (verdicts_of x all) lent
    unfolding answered
    so_far-answered none =
        let v : verdicts_of x all ≡ take n answers = h.given ∙ rw none (append-nil (take n answers)) in
        let m : length (take n answers) ≡ n = length-take-le n answers (omega (arith, h.few, h.long)) in
        rw (v, m, ← h.kept) (sym (take-append-drop n answers))
