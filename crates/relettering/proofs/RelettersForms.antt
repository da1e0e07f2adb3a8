-- RelettersForms: the relettered automaton is well-formed over a list of letters that are apart; and where the list has the automaton's own
-- letters place by place, or no new number is given, no arc changes.
use mathlib.Core.Path.{◌≡◌, ◌∙◌, ap, refl, sym, subst}
use mathlib.Core.List.Memᴰ
use mathlib.Core.List.{List, Memᴰ, [], ◌∷◌, map}
use mathlib.Core.Option
use mathlib.Core.Option.{Option, some-injective, none, some}
use Prim.Native.Nat.{ℕ, ◌<◌, ◌≤◌}
use native.Mathlib.Decide.{dec_lt}
use native.Mathlib.Omega.{arith}
use lib.ListN.{get_or-eq_default, get_or, get_elem?, length, length-map}
use Rattle.automata.specs.Automaton.{Arc, Automaton, KeepsZero, Op, WellFormed, letters, register, symbol}
use Rattle.automata.specs.Counting.{Apart}
use Rattle.automata.specs.Joins.{arc_from}
use Rattle.automata.specs.Letters.{key, keys}
use Rattle.automata.specs.Words.{place, places}
use Rattle.automata.proofs.Laws.{at_map, at_some, none-some, spells-places}
use Rattle.relettering.specs.Relettering.{letter_by, relettered, relettered_arc, with_letters}
use Rattle.relettering.proofs.RelettersWords.{Inside, new-number, new-place}

-- ---- numbers
-- the number of a letter on the list of new numbers, and of one beyond it
pub number-listed : (new : List ℕ) (l : ℕ) → l < length new → letter_by new l ≡ get_or new l 0
number-listed new l h = some-injective _ _ (sym (at_some new l l h) ∙ at_some new l 0 h)

pub number-beyond : (new : List ℕ) (l : ℕ) → length new ≤ l → letter_by new l ≡ l
number-beyond new l h = get_or-eq_default new l {n = l} h

-- of two lists with the same letters, place by place, each letter keeps its number
pub same_numbers : (all own : List ℕ) → keys all ≡ keys own → Apart (keys all) → (l : ℕ) → letter_by (places all own) l ≡ l
same_numbers all own e apart l = go (dec_lt l (length own))
  where
    go : Dec (l < length own) → letter_by (places all own) l ≡ l
    go (yes h) =
        let p : get_elem? (keys all) l ≡ some (key (get_or own l 0)) = ap (λ (k : List ℕ). get_elem? k l) e ∙ at_map key own l ∙ ap (Option.map key) (at_some own l 0 h) in
        let q : place all (get_or own l 0) ∷ [] ≡ l ∷ [] = spells-places all apart (get_or own l 0 ∷ []) (l ∷ []) (p, tt) in
        let r : place all (get_or own l 0) ≡ l = cc in
        new-number all own l h ∙ r
    go (no h) = number-beyond (places all own) l (omega (arith, length-map own (place all)))

-- no two letters have one new number
pub new_apart : (own all : List ℕ) → Inside own all → Apart (keys own) → (l m : ℕ) → l < length own → m < length own → letter_by (places all own) l ≡ letter_by (places all own) m → l ≡ m
new_apart own all inside apart l m h k e =
    let byte = get_or own m 0 in
    let there : get_elem? (keys own) m ≡ some (key byte) = at_map key own m ∙ ap (Option.map key) (at_some own m 0 k) in
    let same : get_elem? (keys own) l ≡ some (key byte) = sym (new-place own all inside l h) ∙ ap (λ (n : ℕ). get_elem? (keys all) n) e ∙ new-place own all inside m k ∙ there in
    let p : place own byte ∷ [] ≡ l ∷ [] = spells-places own apart (byte ∷ []) (l ∷ []) (same, tt) in
    let q : place own byte ∷ [] ≡ m ∷ [] = spells-places own apart (byte ∷ []) (m ∷ []) (there, tt) in
    let r : l ≡ m = cc in
    r

-- where the numbers are the same, so is the automaton
pub numbers-same : (new new' all : List ℕ) (x : Automaton) → ((l : ℕ) → letter_by new l ≡ letter_by new' l) → with_letters new all x ≡ with_letters new' all x
unfolding with_letters
numbers-same new new' all x h =
    ap (λ (ρ : ℕ → ℕ). record { alphabet = all; registers = x.registers; symbols = x.symbols; finals = x.finals; arcs = map (λ (a : Arc). arc_from a.source (Option.map ρ a.letter) a.target a.ops) x.arcs })
    (λ i l. h l i)

-- over a list with its own letters, place by place, an automaton has its own numbers
pub relettered-own : (all : List ℕ) (x : Automaton) → keys all ≡ keys x.alphabet → Apart (keys all) → relettered all x ≡ with_letters [] all x
relettered-own all x e apart = numbers-same (places all x.alphabet) [] all x (same_numbers all x.alphabet e apart)

-- by no new numbers an arc is as it was
pub arc-unnumbered : (a : Arc) → relettered_arc [] a ≡ a
arc-unnumbered a = go a.letter
  where
    go : (α : Option ℕ) → arc_from a.source (Option.map (letter_by []) α) a.target a.ops ≡ arc_from a.source α a.target a.ops
    go none = refl
    go (some l) = refl

-- ---- what is asked of an automaton
module _ (x : Automaton) (new all : List ℕ) (inside : (l : ℕ) → l < letters x → letter_by new l < length all) where
  abbrev y : Automaton
  y = with_letters new all x

  -- an arc of y is one of x with its new letter
  arc-from : (P : Arc → Type 0) → ((a : Arc) → Memᴰ a x.arcs → P (relettered_arc new a)) → (a : Arc) → Memᴰ a y.arcs → P a
  unfolding with_letters
  arc-from P h a m = let p = Memᴰ.of_map (relettered_arc new) x.arcs m in subst P p.2 (h p.0 p.1)

  lettered-in : (α : Option ℕ) → ((l : ℕ) → α ≡ some l → l < letters x) → (k : ℕ) → Option.map (letter_by new) α ≡ some k → k < length all
  lettered-in none h k e = none-some refl e
  lettered-in (some l) h k e = subst (λ (j : ℕ). j < length all) (some-injective (letter_by new l) k e) (inside l (h l refl))

  -- well-formed over letters that are apart
  pub relettered-formed : WellFormed x → Apart (keys all) → WellFormed y
  unfolding with_letters
  relettered-formed v apart = record {
    some_state = v.some_state;
    some_register = v.some_register;
    letters_apart = apart;
    sources = arc-from (λ a. a.source < length x.finals) v.sources;
    targets = arc-from (λ a. a.target < length x.finals) v.targets;
    lettered = arc-from (λ a. (l : ℕ) → a.letter ≡ some l → l < length all) (λ a m. lettered-in a.letter (v.lettered a m));
    inside = arc-from (λ a. (o : Op) → Memᴰ o a.ops → register o < x.registers) v.inside;
    small = arc-from (λ a. (o : Op) → Memᴰ o a.ops → symbol o < x.symbols) v.small;
    zero_kept = arc-from (λ a. (o : Op) → Memᴰ o a.ops → KeepsZero o) v.zero_kept;
  }
