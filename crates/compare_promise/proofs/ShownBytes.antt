-- ShownBytes: the word of a right verdict is shown by its bytes, and what is said of the word holds of them.
use mathlib.Core.Path.{◌∙◌, ◌≡◌, ap, refl, subst, sym}
use mathlib.Core.Logic.{◌↔◌, ◌⊎◌, inl, inr, ⊎_elim}
use mathlib.Core.List.{List, [], ◌∷◌, map}
use mathlib.Core.Option
use Prim.Native.Nat.{ℕ}
use lib.ListN.{get_or, length}
use Rattle.automata.specs.Automaton.{Accepts, Automaton, WellFormed}
use Rattle.automata.specs.Counting.{Apart}
use Rattle.automata.specs.Letters.{key, keys}
use Rattle.automata.specs.Pairs.{OneAccepts, Shows}
use Rattle.automata.specs.Search.{Over}
use Rattle.automata.specs.WordOrder.{BeforeIn, Earliest}
use Rattle.automata.specs.Words.{Language, Listed, SameLetters, Spells}
use Rattle.automata.proofs.Laws.{at_map, at_mem, at_some, spelled-both, spells-keys, spells-places}
use Rattle.compare_promise.specs.Promised.{Either}

-- a word over the letters of an alphabet is spelled by their bytes
bytes-spell : (alphabet v : List ℕ) → Over (length alphabet) v → Spells alphabet (map (λ (l : ℕ). get_or alphabet l 0) v) v
bytes-spell alphabet [] o = tt
bytes-spell alphabet (l ∷ v) o = (at_map key alphabet l ∙ ap (Option.map key) (at_some alphabet l 0 o.0), bytes-spell alphabet v o.1)

-- which are bytes of the list
bytes-listed : (alphabet v : List ℕ) → Over (length alphabet) v → Listed alphabet (map (λ (l : ℕ). get_or alphabet l 0) v)
bytes-listed alphabet [] o = tt
bytes-listed alphabet (l ∷ v) o = (at_mem alphabet l (at_some alphabet l 0 o.0), bytes-listed alphabet v o.1)

spells-language : (x : Automaton) → Apart (keys x.alphabet) → (s v : List ℕ) → Spells x.alphabet s v → Language x s ↔ Accepts x v
spells-language x apart s v p = (
  λ t. let b = (spelled-both x.alphabet apart (Accepts x) (λ w. w ≡ v) s).1 (t, record { word = v; spells = p; holds = refl }) in
      subst (Accepts x) b.holds.1 b.holds.0,
  λ a. record { word = v; spells = p; holds = a },
)

-- two automata with the same letters
module _ (x y : Automaton) (vx : WellFormed x) (vy : WellFormed y) (shared : SameLetters x y) where
  first-language : (s v : List ℕ) → Spells x.alphabet s v → Language x s ↔ Accepts x v
  first-language s v p = spells-language x vx.letters_apart s v p

  second-language : (s v : List ℕ) → Spells x.alphabet s v → Language y s ↔ Accepts y v
  second-language s v p = spells-language y vy.letters_apart s v (spells-keys x.alphabet y.alphabet shared s v p)

  -- a word of bytes that exactly one accepts spells such a word of letters
  pub one-spells : (s : List ℕ) → Either (Language x s) (Language y s) → (v : List ℕ) × Spells x.alphabet s v × OneAccepts x y v
  one-spells s (inl h) = let t = h.0 in (t.word, t.spells, inl (t.holds, λ a. h.1 ((second-language s t.word t.spells).1 a)))
  one-spells s (inr h) =
      let t = h.0 in
      let p = spells-keys y.alphabet x.alphabet (sym shared) s t.word t.spells in
      (t.word, p, inr (λ a. h.1 ((first-language s t.word p).1 a), t.holds))

  -- the word of a right verdict
  module _ (taker : ℕ) (v : List ℕ) (h : Shows x y taker v) where
    abbrev pub shown : List ℕ
    shown = map (λ (l : ℕ). get_or x.alphabet l 0) v

    spelled : Spells x.alphabet shown v
    spelled = bytes-spell x.alphabet v h.over

    pub shown_by : ((taker ≡ 1) × Language x shown × ¬ Language y shown) ⊎ ((taker ≡ 2) × Language y shown × ¬ Language x shown)
    shown_by =
        let f = first-language shown v spelled in
        let g = second-language shown v spelled in
        ⊎_elim (λ q. inl (q.0, f.1 q.1, λ l. q.2 (g.0 l))) (λ q. inr (q.0, g.1 q.2, λ l. q.1 (f.0 l))) h.by

    pub shown-listed : Listed x.alphabet shown
    shown-listed = bytes-listed x.alphabet v h.over

    -- the first word that exactly one accepts
    pub shown-first : Earliest (BeforeIn x.alphabet) (λ other. Either (Language x other) (Language y other)) shown
    shown-first = record {
      has = ⊎_elim (λ q. inl (q.1, q.2)) (λ q. inr (q.1, q.2)) shown_by;
      first = λ other o b.
          let u = one-spells other o in
          h.earliest.first u.0 u.2 (rw (spells-places x.alphabet vx.letters_apart other u.0 u.1, spells-places x.alphabet vx.letters_apart shown v spelled) at b);
    }
