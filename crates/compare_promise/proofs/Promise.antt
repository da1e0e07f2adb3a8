-- Promise: what the contract of comparing says of the bytes handed in (demand 3, and the exact condition of each refusal).
use mathlib.Core.Path.{◌≡◌, refl, sym, ap, ◌∙◌, subst}
use mathlib.Core.Logic.{◌↔◌, ◌⊎◌, inl, inr, ⊎_elim}
use mathlib.Core.Bool.{Bool}
use mathlib.Core.List.{List}
use Prim.Native.Nat.{ℕ, ◌<◌, ◌≤◌}
use native.Mathlib.Omega.{arith}
use lib.ListN.{drop, length, length-append, length-map, take}
use lib.Seq.{drop_at, take_at}
use Rattle.automata.specs.Automaton.{Automaton, Reachable, WellFormed}
use Rattle.automata.specs.Counting.{MoreThan}
use Rattle.automata.specs.Pairs.{Right, Verdict, different, pairs, same, verdict}
use Rattle.automata.specs.Unfolding.{configurations, plain_arcs}
use Rattle.automata.specs.WordOrder.{BeforeIn, Earliest}
use Rattle.automata.specs.Words.{Language, Listed, SameLetters, place, places}
use Rattle.automata.proofs.Laws.{comparing, comparing_more, not-before-long, reaching_more, same-language, same-many}
use Rattle.relettering.specs.Relettering.{with_letters}
use Rattle.relettering.proofs.Laws.{configurations-same}
use Rattle.format.specs.Decoding.{automaton_of}
use Rattle.format.specs.Refusals.{FirstHolds, Refusals, fault_of, unless_refused}
use Rattle.file_laws.proofs.Laws.{NoneHolds, Outcome, at_least, first-exactly, first_some, none_first, number-above, refused-or_not}
use Rattle.compare_promise.specs.Comparing.{answer_of, buffer_of, bytes_in, comparison_of, refusals, refused as refusal, shown_word, told, verdict_of}
use Rattle.compare_promise.specs.Promised.{Either, Equivalent, Premises, Promised, SameLive, conditions, letters_in, over_all, pair_in}
use Rattle.compare_promise.specs.declared.Comparison.{Comparison}
use Rattle.std.specs.Prelude.{Option}
use Rattle.file_fields.specs.declared.Automaton.{Automaton as Blamed}
use Rattle.file_fields.specs.declared.Reason.{Reason}
use Rattle.file_fields.specs.Parts.{automaton_number, number_of}
use Rattle.compare_promise.proofs.OverLetters.{Either-own, formed₁, formed₂, language₁, language₂, pairs-by_runs, shared-letters}
use Rattle.compare_promise.proofs.Refusals.{refusals-decide}
use Rattle.compare_promise.proofs.ShownBytes.{shown_by, shown-first, shown-listed}

-- ---- the premises of demand 3 are that no condition of a refusal holds
module _ (first second : List ℕ) (words buffer : ℕ) where
  none_of : Premises first second words buffer → NoneHolds (conditions first second words buffer)
  none_of p = (
    ⊎_elim (λ h. omega (arith, p.enough_words)) (λ h. omega (arith, p.enough_bytes)),
    (
      λ h. omega (arith, p.valid₁),
      (
        λ h. omega (arith, p.valid₂),
        (
          λ h. omega (arith, p.few_letters),
          (p.configurations₁, (λ h. omega (arith, p.arcs₁), (p.configurations₂, (λ h. omega (arith, p.arcs₂), (p.few_pairs, tt))))),
        ),
      ),
    ),
  )

  Premises-of : NoneHolds (conditions first second words buffer) → Premises first second words buffer
  Premises-of h =
      let z₁ = at_least 0 (fault_of first) h.1.0 in
      let z₂ = at_least 0 (fault_of second) h.1.1.0 in
      let l = h.1.1.1 in
      record {
        enough_words = at_least words 8192 (λ k. h.0 (inl k));
        enough_bytes = at_least buffer 512 (λ k. h.0 (inr k));
        valid₁ = omega arith;
        valid₂ = omega arith;
        few_letters = at_least 64 (length (letters_in first second)) l.0;
        configurations₁ = l.1.0;
        arcs₁ = at_least 2048 (length (plain_arcs (automaton_of first) 256)) l.1.1.0;
        configurations₂ = l.1.1.1.0;
        arcs₂ = at_least 2048 (length (plain_arcs (automaton_of second) 256)) l.1.1.1.1.0;
        few_pairs = l.1.1.1.1.1.0;
      }

-- ---- within the limits the verdict is right, of the automata over the letters of both
module _ (first second : List ℕ) (words buffer : ℕ) (p : Premises first second words buffer) where
  abbrev x : Automaton
  x = over_all first second first

  abbrev y : Automaton
  y = over_all first second second

  -- as many configurations as over its own letters
  few : (file : List ℕ) → ¬ MoreThan (Reachable (automaton_of file)) 256 → length (configurations (over_all first second file) 256) ≤ 256
  few file h =
      let own = automaton_of file in
      let all = letters_in first second in
      rw (configurations-same own (places all own.alphabet) all 256) (at_least 256 (length (configurations own 256)) (λ k. h ((reaching_more own 256).0 k)))

  paired-by_runs : (v w : List ℕ) → Listed (letters_in first second) v → Listed (letters_in first second) w → (pair_in first second v ≡ pair_in first second w) ↔ (SameLive (automaton_of first) v w × SameLive (automaton_of second) v w)
  paired-by_runs = pairs-by_runs first second p.valid₁ p.valid₂ (few first p.configurations₁) (few second p.configurations₂)

  right : Right x y 256 (verdict x y 256 512)
  right =
      comparing x y 256 512 (formed₁ first second p.valid₁ p.valid₂) (formed₂ first second p.valid₁ p.valid₂) (same-many x y (shared-letters (letters_in first second) (automaton_of first) (automaton_of second)))
      (few first p.configurations₁) (few second p.configurations₂) (at_least 512 (length (pairs x y 256 512)) (λ h. p.few_pairs ((comparing_more x y 256 512).0 h)))

-- one word that exactly one accepts, and the two are not equivalent
not-equivalent : (x y : Automaton) (taker : ℕ) (word : List ℕ) → ((taker ≡ 1) × Language x word × ¬ Language y word) ⊎ ((taker ≡ 2) × Language y word × ¬ Language x word) → ¬ Equivalent x y
not-equivalent x y taker word (inl h) one = h.2 ((one word).0 h.1)
not-equivalent x y taker word (inr h) one = h.2 ((one word).1 h.1)

-- ---- the whole answer
module _ (first second : List ℕ) (words : ℕ) (old new : List ℕ) where
  abbrev x₁ : Automaton
  x₁ = automaton_of first

  abbrev x₂ : Automaton
  x₂ = automaton_of second

  abbrev cs : List (Type 0 × ℕ × ℕ)
  cs = conditions first second words (length old)

  refused : (why : Reason) (whose : Option Blamed) → FirstHolds cs (number_of why) (automaton_number whose) → new ≡ old → Promised first second words old new (told (refusal why whose))
  refused why whose f unchanged = record {
    answers = (λ z. absurd (omega (arith, number-above why)), λ p. absurd (none p));
    same = (λ t. absurd t, λ p. none p.0);
    different = (λ t. absurd t, λ p. none p.0);
    shows = λ t. absurd t;
    shortest = λ t. absurd t;
    earliest = λ t. absurd t;
    written = λ t. absurd t;
    counts = λ p. absurd (none p);
    paired = λ p. absurd (none p);
    refuses = first-exactly cs f;
    behind = unchanged;
    none_shown = λ _. refl;
    whole = omega arith;
  }
    where
      none : ¬ Premises first second words (length old)
      none p = first_some cs (number_of why) (automaton_number whose) (number-above why) f (none_of first second words (length old) p)

  abbrev all : List ℕ
  all = letters_in first second

  abbrev y₁ : Automaton
  y₁ = over_all first second first

  abbrev y₂ : Automaton
  y₂ = over_all first second second

  -- the answer of a right verdict
  answered : (v : Verdict) → Right y₁ y₂ 256 v → Premises first second words (length old) → new ≡ buffer_of (answer_of v) (bytes_in all v) old
      → Promised first second words old new (told (answer_of v))
  unfolding with_letters
  answered (same n) r p lent = record {
    answers = (λ _. p, λ _. refl);
    same = (λ _. (p, one), λ _. tt);
    different = (λ t. absurd t, λ q. q.1 one);
    shows = λ t. absurd t;
    shortest = λ t. absurd t;
    earliest = λ t. absurd t;
    written = λ t. absurd t;
    counts = λ _. r.0;
    paired = paired-by_runs first second words (length old);
    refuses = first-exactly cs (none_first cs (none_of first second words (length old) p));
    behind = lent;
    none_shown = λ _. refl;
    whole = omega arith;
  }
    where
      one : Equivalent x₁ x₂
      one word =
          let f = language₁ first second p.valid₁ p.valid₂ word in
          let g = language₂ first second p.valid₁ p.valid₂ word in
          let e = same-language y₁ y₂ (shared-letters all x₁ x₂) r.1 word in
          (λ l. g.0 (e.0 (f.1 l)), λ l. f.0 (e.1 (g.1 l)))
  answered (different n taker v) r p e = record {
    answers = (λ _. p, λ _. refl);
    same = (λ t. absurd t, λ q. not-equivalent x₁ x₂ taker word by q.1);
    different = (λ _. (p, not-equivalent x₁ x₂ taker word by), λ _. tt);
    shows = λ _. rw front by;
    shortest = λ _ other o. omega (arith, at-least_as_long other o);
    earliest = λ _. rw front first_word;
    written = λ _. rw front In-its_list;
    counts = λ _. r.0;
    paired = paired-by_runs first second words (length old);
    refuses = first-exactly cs (none_first cs (none_of first second words (length old) p));
    behind = back;
    none_shown = λ h. absurd (h tt);
    whole = omega (arith, ap length e, length-append word (drop (length word) old), long);
  }
    where
      one : WellFormed y₁
      one = formed₁ first second p.valid₁ p.valid₂

      two : WellFormed y₂
      two = formed₂ first second p.valid₁ p.valid₂

      shared : SameLetters y₁ y₂
      shared = shared-letters all x₁ x₂

      word : List ℕ
      word = bytes_in all (different n taker v)

      long : length word ≡ length v
      long = length-map v _

      front : take (length v) new ≡ word
      front = ap (take (length v)) e ∙ take_at word (drop (length word) old) (length v) long

      by : ((taker ≡ 1) × Language x₁ word × ¬ Language x₂ word) ⊎ ((taker ≡ 2) × Language x₂ word × ¬ Language x₁ word)
      by =
          let f = language₁ first second p.valid₁ p.valid₂ word in
          let g = language₂ first second p.valid₁ p.valid₂ word in
          ⊎_elim (λ q. inl (q.0, f.0 q.1, λ l. q.2 (g.1 l))) (λ q. inr (q.0, g.0 q.1, λ l. q.2 (f.1 l)))
          (shown_by y₁ y₂ one two shared taker v r.1)

      over-all : Earliest (BeforeIn all) (λ other. Either (Language y₁ other) (Language y₂ other)) word
      over-all = shown-first y₁ y₂ one two shared taker v r.1

      first_word : Earliest (BeforeIn all) (λ other. Either (Language x₁ other) (Language x₂ other)) word
      first_word = record { has = (Either-own first second p.valid₁ p.valid₂ word).0 over-all.has; first = λ other o. over-all.first other ((Either-own first second p.valid₁ p.valid₂ other).1 o) }

      In-its_list : Listed all word
      In-its_list = shown-listed y₁ y₂ one two shared taker v r.1

      at-least_as_long : (other : List ℕ) → Either (Language x₁ other) (Language x₂ other) → length v ≤ length other
      at-least_as_long other o =
          let h = not-before-long (places all word) (places all other) (first_word.first other o) in
          omega (arith, h, long, length-map other (place all), length-map word (place all))

      back : drop (length v) new ≡ drop (length v) old
      back = ap (drop (length v)) e ∙ drop_at word (drop (length word) old) (length v) long ∙ ap (λ (k : ℕ). drop k old) long

  -- THE PROMISE of comparing, from the equations of its contract.
  pub comparing_promised : (r : Comparison) → r ≡ comparison_of first second words (length old) → new ≡ buffer_of r (shown_word first second) old → Promised first second words old new (told r)
  unfolding comparison_of shown_word verdict_of
  comparing_promised r a b = either (refused-or_not refusal answer tests cs (refusals-decide first second words (length old)))
    where
      tests : Refusals
      tests = refusals 256 2048 512 first second words (length old)

      answer : Comparison
      answer = answer_of (verdict y₁ y₂ 256 512)

      left : (c : Comparison) → r ≡ c → new ≡ buffer_of c (shown_word first second) old
      left c e = subst (λ (c : Comparison). new ≡ buffer_of c (shown_word first second) old) e b

      either : Outcome refusal answer cs (unless_refused refusal tests answer) → Promised first second words old new (told r)
      either (inl h) =
          let e = a ∙ h.1 in
          let p = Premises-of first second words (length old) h.0 in
          subst (λ (c : Comparison). Promised first second words old new (told c)) (sym e) (answered (verdict y₁ y₂ 256 512) (right first second words (length old) p) p (left answer e))
      either (inr h) =
          let e = a ∙ h.3 in
          subst (λ (c : Comparison). Promised first second words old new (told c)) (sym e) (refused h.0 h.1 h.2 (left (refusal h.0 h.1) e))
