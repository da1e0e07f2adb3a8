-- RelettersWords: over a longer letter list an automaton accepts the same words of bytes, and the same configurations are live behind them.
use mathlib.Core.Path.{◌≡◌, ◌∙◌, ap, ap₂, refl, subst, sym}
use mathlib.Core.Logic.{◌↔◌}
use mathlib.Core.List.Memᴰ
use mathlib.Core.List.{List, Memᴰ, [], ◌∷◌, map}
use mathlib.Core.Option
use mathlib.Core.Option.{Option, some-injective, none, some}
use Prim.Native.Nat.{ℕ, ◌<◌}
use native.Mathlib.Omega.{arith}
use lib.Dec.{eqb}
use lib.ListN.{get_or, get_elem?, length, length-map}
use Rattle.automata.specs.Automaton.{Arc, Automaton, Configuration, DoesAll, Produces, Run, WellFormed, letters, silent, spell, stay}
use Rattle.automata.specs.Letters.{key, keys}
use Rattle.automata.specs.Search.{Over}
use Rattle.automata.specs.Words.{Language, LiveAfter, Spells, place, places}
use Rattle.automata.proofs.Laws.{at_map, at_mem, at_some, eqb-iff, get_elem?-lt, none-some, number_at}
use Rattle.relettering.specs.Relettering.{letter_by, relettered, relettered_arc, with_letters}

-- ---- whatever the new numbers, if each is a place of its letter in the list
module _ (x : Automaton) (v : WellFormed x) (new all : List ℕ) (kept : (l : ℕ) → l < letters x → get_elem? (keys all) (letter_by new l) ≡ get_elem? (keys x.alphabet) l) where
  abbrev y : Automaton
  y = with_letters new all x

  abbrev ρ : ℕ → ℕ
  ρ = letter_by new

  -- ---- moves
  move-to : {c d : Configuration} {α : Option ℕ} → Produces x c α d → Produces y c (Option.map ρ α) d
  unfolding with_letters
  move-to m = record { arc = relettered_arc new m.arc; listed = Memᴰ.map (relettered_arc new) m.listed; leaves = m.leaves; spells = ap (Option.map ρ) m.spells; enters = m.enters; does = m.does }

  -- a move of y is one of x
  record Came (c : Configuration) (β : Option ℕ) (d : Configuration) : Type 0 where
    letter : Option ℕ
    move : Produces x c letter d
    is : Option.map ρ letter ≡ β

  move-from : {c d : Configuration} {β : Option ℕ} → Produces y c β d → Came c β d
  unfolding with_letters
  move-from {c} {d} m =
      let p = Memᴰ.of_map (relettered_arc new) x.arcs m.listed in
      record {
        letter = p.0.letter;
        move = record {
          arc = p.0;
          listed = p.1;
          leaves = ap (λ (a : Arc). a.source) p.2 ∙ m.leaves;
          spells = refl;
          enters = ap (λ (a : Arc). a.target) p.2 ∙ m.enters;
          does = subst (λ (a : Arc). DoesAll a.ops c.contents d.contents) (sym p.2) m.does;
        };
        is = ap (λ (a : Arc). a.letter) p.2 ∙ m.spells;
      }

  -- the letter of a move of x is one of its letters
  move-letter : {c d : Configuration} {l : ℕ} → Produces x c (some l) d → l < letters x
  move-letter {l = l} m = v.lettered m.arc m.listed l m.spells

  -- ---- runs
  run-to : {c d : Configuration} {w : List ℕ} → Run (Produces x) c w d → Run (Produces y) c (map ρ w) d
  run-to stay = stay
  run-to (silent m r) = silent (move-to m) (run-to r)
  run-to (spell m r) = spell (move-to m) (run-to r)

  record CameBy (c : Configuration) (u : List ℕ) (d : Configuration) : Type 0 where
    word : List ℕ
    run : Run (Produces x) c word d
    is : map ρ word ≡ u
    over : Over (letters x) word

  Came-quiet : {c d e : Configuration} {u : List ℕ} (α : Option ℕ) → Produces x c α d → Option.map ρ α ≡ none → CameBy d u e → CameBy c u e
  Came-quiet none m z r = record { word = r.word; run = silent m r.run; is = r.is; over = r.over }
  Came-quiet (some l) m z r = none-some z refl

  Came-spelled : {c d e : Configuration} {u : List ℕ} (b : ℕ) (α : Option ℕ) → Produces x c α d → Option.map ρ α ≡ some b → CameBy d u e → CameBy c (b ∷ u) e
  Came-spelled b none m z r = none-some refl z
  Came-spelled b (some l) m z r = record {
    word = l ∷ r.word;
    run = spell m r.run;
    is = ap₂ (λ (k : ℕ) (w : List ℕ). k ∷ w) (some-injective (ρ l) b z) r.is;
    over = (move-letter m, r.over);
  }

  run-from : {c d : Configuration} {u : List ℕ} → Run (Produces y) c u d → CameBy c u d
  run-from stay = record { word = []; run = stay; is = refl; over = tt }
  run-from (silent m r) = let p = move-from m in Came-quiet p.letter p.move p.is (run-from r)
  run-from (spell {a = b} m r) = let p = move-from m in Came-spelled b p.letter p.move p.is (run-from r)

  -- ---- words of bytes
  spells-to : (s w : List ℕ) → Over (letters x) w → Spells x.alphabet s w ↔ Spells all s (map ρ w)
  spells-to [] [] o = (λ p. p, λ p. p)
  spells-to [] (l ∷ w) o = (λ p. p, λ p. p)
  spells-to (byte ∷ s) [] o = (λ p. p, λ p. p)
  spells-to (byte ∷ s) (l ∷ w) o =
      let k = kept l o.0 in
      let f = spells-to s w o.1 in
      (λ p. (k ∙ p.0, f.0 p.1), λ p. (sym k ∙ p.0, f.1 p.1))

  spells-over : (s w : List ℕ) → Spells x.alphabet s w → Over (letters x) w
  spells-over [] [] p = tt
  spells-over [] (l ∷ w) p = absurd p
  spells-over (byte ∷ s) [] p = absurd p
  spells-over (byte ∷ s) (l ∷ w) p = (omega (arith, get_elem?-lt (keys x.alphabet) l p.0, length-map x.alphabet key), spells-over s w p.1)

  -- the runs that spell a word of bytes end in the same configurations
  live_same : (s : List ℕ) (c : Configuration) → LiveAfter y s c ↔ LiveAfter x s c
  unfolding with_letters
  live_same s c = (
    λ t. let r = run-from t.holds in
        record { word = r.word; spells = (spells-to s r.word r.over).1 (subst (Spells all s) (sym r.is) t.spells); holds = r.run },
    λ t. record { word = map ρ t.word; spells = (spells-to s t.word (spells-over s t.word t.spells)).0 t.spells; holds = run-to t.holds },
  )

  Language-same : (s : List ℕ) → Language y s ↔ Language x s
  unfolding with_letters
  Language-same s = (
    λ t. let r = run-from t.holds.run in
        record { word = r.word; spells = (spells-to s r.word r.over).1 (subst (Spells all s) (sym r.is) t.spells); holds = record { end = t.holds.end; run = r.run; final = t.holds.final } },
    λ t. record { word = map ρ t.word; spells = (spells-to s t.word (spells-over s t.word t.spells)).0 t.spells; holds = record { end = t.holds.end; run = run-to t.holds.run; final = t.holds.final } },
  )

-- ---- over a list that has its letters
-- a list has the letters of another
abbrev pub Inside : (own all : List ℕ) → Type 0
Inside own all = (k : ℕ) → Memᴰ k (keys own) → Memᴰ k (keys all)

-- the new number of a letter is the place of its byte
pub new-number : (all own : List ℕ) (l : ℕ) → l < length own → letter_by (places all own) l ≡ place all (get_or own l 0)
new-number all own l h =
    some-injective _ _
    (sym (at_some (places all own) l l (omega (arith, length-map own (place all)))) ∙ at_map (place all) own l ∙ ap (Option.map (place all)) (at_some own l 0 h))

-- where it stands
pub new-place : (own all : List ℕ) → Inside own all → (l : ℕ) → l < length own → get_elem? (keys all) (letter_by (places all own) l) ≡ get_elem? (keys own) l
new-place own all inside l h =
    let e : get_elem? (keys own) l ≡ some (key (get_or own l 0)) = at_map key own l ∙ ap (Option.map key) (at_some own l 0 h) in
    rw (new-number all own l h) (number_at eqb eqb-iff (inside (key (get_or own l 0)) (at_mem (keys own) l e)) ∙ sym e)

-- so it is one of the list's numbers
pub new-inside : (own all : List ℕ) → Inside own all → (l : ℕ) → l < length own → letter_by (places all own) l < length all
new-inside own all inside l h =
    omega (arith, get_elem?-lt (keys all) (letter_by (places all own) l) (new-place own all inside l h ∙ at_map key own l ∙ ap (Option.map key) (at_some own l 0 h)), length-map all key)

module _ (x : Automaton) (v : WellFormed x) (all : List ℕ) (inside : Inside x.alphabet all) where
  -- THE LAW of relettering: the same words of bytes, of every length, are accepted
  pub relettered-language : (s : List ℕ) → Language (relettered all x) s ↔ Language x s
  relettered-language = Language-same x v (places all x.alphabet) all (new-place x.alphabet all inside)

  -- and the same configurations are live behind them
  pub relettered-live : (s : List ℕ) (c : Configuration) → LiveAfter (relettered all x) s c ↔ LiveAfter x s c
  relettered-live = live_same x v (places all x.alphabet) all (new-place x.alphabet all inside)
