-- Promise: what the answer of judging many words says of the bytes handed in: see specs/Promised.antt.
use mathlib.Core.Path.{◌∙◌, ◌≡◌, ap, refl, subst, sym}
use mathlib.Core.Logic.{◌⊎◌, inl, inr, ⊎_elim}
use mathlib.Core.Bool.{Bool, cond, false, true}
use mathlib.Core.List.Memᴰ
use mathlib.Core.List.{List, Memᴰ, [], ◌++◌, ◌∷◌, append_assoc}
use Prim.Native.Nat.{◌<◌, ◌≤◌, suc, zero, ℕ}
use native.Mathlib.Omega.{arith}
use borrow.Author.Tests.{eqb-false, eqb-true, ltb-false, ltb-true}
use lib.Dec.{eqb, ltb}
use lib.ListN.{drop, get_or, length, length-append, length-map, take, take-append-drop}
use lib.Seq.{drop_at, take_all}
use Rattle.format.specs.Decoding.{automaton_of}
use Rattle.std.specs.Prelude.{Err, Ok, Result}
use Rattle.file_fields.specs.declared.Refusal.{Refusal}
use Rattle.format.specs.Refusals.{Refusals, refused, unless_refused}
use Rattle.table.specs.Membership.{judged, membership_of}
use Rattle.table.specs.Opening.{open_refusals}
use Rattle.table.specs.declared.Membership.{Membership}
use Rattle.table_words.specs.Promised.{FirstWords, Promised, joined}
use Rattle.table_words.specs.Words.{answered, answers_of, before, bytes_of, judged_of, packed, words_in, words_judged}
use Rattle.table_words.specs.declared.Judged.{Judged}

-- ---- which words there are
module _ (separator : ℕ) where
  -- before the first separator there is none
  before-lacks : (s : List ℕ) → ¬ Memᴰ separator (take (before separator s) s)
  unfolding before
  before-lacks [] m = Memᴰ.not-nil m
  before-lacks (b ∷ s) m = go (eqb b separator) refl (before-lacks s) m
    where
      go : (t : Bool) → eqb b separator ≡ t → ¬ Memᴰ separator (take (before separator s) s) → ¬ Memᴰ separator (take (cond t 0 (suc (before separator s))) (b ∷ s))
      go true e none m = Memᴰ.not-nil m
      go false e none m = ⊎_elim (λ (q : separator ≡ b). eqb-false b separator e (sym q)) none (Memᴰ.cases_cons m)

  all-lack : (s : List ℕ) → length s ≤ before separator s → ¬ Memᴰ separator s
  all-lack s h m = before-lacks s (subst (Memᴰ separator) (sym (take_all (before separator s) s h)) m)

  -- and there it stands
  before_stands : (s : List ℕ) → before separator s < length s → drop (before separator s) s ≡ separator ∷ drop (suc (before separator s)) s
  unfolding before
  before_stands [] h = absurd (omega arith)
  before_stands (b ∷ s) h = go (eqb b separator) refl (before_stands s) h
    where
      go : (t : Bool) → eqb b separator ≡ t → (before separator s < length s → drop (before separator s) s ≡ separator ∷ drop (suc (before separator s)) s)
          → (let k = cond t 0 (suc (before separator s)) in k < length (b ∷ s) → drop k (b ∷ s) ≡ separator ∷ drop (suc k) (b ∷ s))
      go true e later h = ap (λ (a : ℕ). a ∷ s) (eqb-true b separator e)
      go false e later h = later (omega (arith, h))

  first-words : (n : ℕ) (s : List ℕ) → FirstWords separator n s (words_in separator n s)
  unfolding words_in joined
  first-words zero s = record { rest = s; whole = refl; apart = tt; few = omega arith; none_left = inl refl }
  first-words (suc n) s = go (ltb (before separator s) (length s)) refl (first-words n (drop (suc (before separator s)) s))
    where
      go : (t : Bool) → ltb (before separator s) (length s) ≡ t → FirstWords separator n (drop (suc (before separator s)) s) (words_in separator n (drop (suc (before separator s)) s))
          → FirstWords separator (suc n) s (cond t (take (before separator s) s ∷ words_in separator n (drop (suc (before separator s)) s)) [])
      go true e later = record {
        rest = later.rest;
        whole = sym (take-append-drop (before separator s) s)
            ∙ ap (λ (l : List ℕ). take (before separator s) s ++ l) (before_stands s (ltb-true (before separator s) (length s) e) ∙ ap (λ (l : List ℕ). separator ∷ l) later.whole)
            ∙ sym (append_assoc (take (before separator s) s) (separator ∷ joined separator (words_in separator n (drop (suc (before separator s)) s))) later.rest);
        apart = (before-lacks s, later.apart);
        few = omega (arith, later.few);
        none_left = ⊎_elim (λ (q : length (words_in separator n (drop (suc (before separator s)) s)) ≡ n). inl (ap suc q)) (λ (q : ¬ Memᴰ separator later.rest). inr q) later.none_left;
      }
      go false e later = record { rest = s; whole = refl; apart = tt; few = omega arith; none_left = inr (all-lack s (ltb-false (before separator s) (length s) e)) }

  joined-long : (l : List (List ℕ)) → bytes_of l ≡ length (joined separator l)
  unfolding bytes_of joined
  joined-long [] = refl
  joined-long (word ∷ l) = omega (arith, joined-long l, length-append word (separator ∷ joined separator l))

-- ---- the answers
module _ (file : List ℕ) (words : ℕ) where
  answer_at : (l : List (List ℕ)) (behind : List ℕ) (i : ℕ) → i < length l → get_or (answers_of file l words ++ behind) i 0 ≡ packed (membership_of file (get_or l i []) words)
  answer_at [] behind i h = absurd (omega arith)
  answer_at (word ∷ l) behind zero h = refl
  answer_at (word ∷ l) behind (suc i) h = answer_at l behind i (omega (arith, h))

  -- nothing is refused
  each-judged : (bytes : List ℕ) (separator : ℕ) (lent : List ℕ) → let l = words_in separator (length lent) bytes in Promised file bytes separator words lent (answered (Ok (words_judged l)) (answers_of file l words) lent) (Ok (words_judged l))
  unfolding words_judged answered
  each-judged bytes separator lent =
      let l = words_in separator (length lent) bytes in
      let front = answers_of file l words in
      let many : length front ≡ length l = length-map l (λ word. packed (membership_of file word words)) in
      record {
        judged = l;
        first = first-words separator (length lent) bytes;
        counted = refl;
        bytes_taken = joined-long separator l;
        each_is = answer_at l (drop (length front) lent);
        others = drop_at front (drop (length front) lent) (length l) many ∙ ap (λ (k : ℕ). drop k lent) many;
      }

  -- a refusal is that of every word
  module _ (answer : Judged) where
    -- what the call tells and what every word is told, by the same tests: one refusal; or the call has its answer
    abbrev Decided : Result Judged Refusal → (Result Membership Refusal → Result Membership Refusal) → Type 0
    Decided r each = ((p : Refusal) × (r ≡ Err p) × ((a : Result Membership Refusal) → each a ≡ Err p)) ⊎ (r ≡ Ok answer)

    decided : (tests : Refusals) → Decided (unless_refused refused tests (Ok answer)) (unless_refused refused tests)
    unfolding unless_refused
    decided [] = inr refl
    decided (t ∷ tests) = go t.0 (decided tests)
      where
        go : (b : Bool) → Decided (unless_refused refused tests (Ok answer)) (unless_refused refused tests)
            → Decided (cond b (refused t.1 t.2) (unless_refused refused tests (Ok answer))) (λ a. cond b (refused t.1 t.2) (unless_refused refused tests a))
        go true later = inl (record { reason = t.1; automaton = t.2 }, refl, λ a. refl)
        go false later = later

  pub words-promised : (bytes : List ℕ) (separator : ℕ) (lent : List ℕ) → let r = judged_of file bytes separator words (length lent) in
      Promised file bytes separator words lent (answered r (answers_of file (words_in separator (length lent) bytes) words) lent) r
  unfolding judged_of membership_of answered
  words-promised bytes separator lent = ⊎_elim
      (λ o. subst kept (sym o.1) (λ word. o.2 (Ok (judged 256 (automaton_of file) word)), refl))
      (λ e. subst kept (sym e) (each-judged bytes separator lent))
      (decided (words_judged (words_in separator (length lent) bytes)) (open_refusals 256 file words))
    where
      kept : Result Judged Refusal → Type 0
      kept r = Promised file bytes separator words lent (answered r (answers_of file (words_in separator (length lent) bytes) words) lent) r
