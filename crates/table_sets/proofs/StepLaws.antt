-- StepLaws: a step by all letters at once takes each live configuration's arcs, and leaves the live set of each letter.
use mathlib.Core.Path.{◌≡◌, subst}
use mathlib.Core.Logic.{◌↔◌, ◌⊎◌, inl, inr}
use mathlib.Core.List.{List, []}
use mathlib.Core.Option.{some}
use Prim.Native.Nat.{◌+◌, ◌<◌, ◌≤◌, ℕ}
use native.Mathlib.Decide.{dec_lt, ℕ_discrete}
use native.Mathlib.Omega.{arith}
use lib.Dec.{T}
use Rattle.automata.specs.Automaton.{Run}
use Rattle.automata.specs.Live.{Moves, PlainArc, by_letter, in?}
use Rattle.automata.proofs.Laws.{by_letter-closed, by_letter-iff, closed_run, length-by_letter, run-below}
use Rattle.word_fields.specs.Frame.{Kept}
use Rattle.word_fields.proofs.Laws.{kept_same, kept_then}
use Rattle.word_sets.specs.Sets.{Next, ε_closed_set, in_set, view}
use Rattle.word_sets.proofs.Laws.{In-view, view-is}
use Rattle.table_sets.specs.Stepping.{Held, set_of}
use Rattle.table_sets.proofs.LetterSets.{none-met}

-- `From` says where a letter leads from a configuration; a step is over it, whether the arcs are listed or stand in the file
module _ (From : ℕ → ℕ → ℕ → Type 0) where
  -- a member of the set below c leads by letter l to j
  pub record Onward (set : List ℕ) (c l j : ℕ) : Type 0 where
    pub source : ℕ
    pub lives : T (in_set set source)
    pub below : source < c
    pub leads : From source l j

  -- the members of the set below c have been visited, and c is the next one
  pub record Stepping (w₀ : List ℕ) (acc : ℕ) (set : List ℕ) (c : ℕ) (w : List ℕ) (met : ℕ) : Type 0 where
    pub high : c ≤ 256
    pub live : c < 256 → T (in_set set c)
    pub kept : Kept acc (acc + 256) w₀ w
    pub sets : (p j : ℕ) → p < 64 → T (in_set (set_of w acc met p) j) ↔ Onward set c p j

  pub Stepping-start : (w : List ℕ) (acc : ℕ) {set : List ℕ} {c : ℕ} → Next set 0 c → Stepping w acc set c w 0
  Stepping-start w acc n = record {
    high = n.high;
    live = n.member;
    kept = kept_same acc (acc + 256) w;
    sets = λ p j h. (λ t. absurd (subst T (none-met w acc p j) t), λ o. absurd (n.none o.source (omega arith) o.below o.lives));
  }

  -- a turn: what leads from c, as the words tell it now, has joined
  module _ {w₀ w w' : List ℕ} {acc : ℕ} {set : List ℕ} {c met c' : ℕ} {Own : ℕ → ℕ → Type 0} (met' : ℕ) (h : c < 256) (k : Stepping w₀ acc set c w met) (kk : Kept acc (acc + 256) w w')
      (f : (p j : ℕ) → p < 64 → T (in_set (set_of w' acc met' p) j) ↔ (T (in_set (set_of w acc met p) j) ⊎ Own p j)) (own : (p j : ℕ) → Own p j ↔ From c p j) (n : Next set (c + 1) c') where
    on : (p j : ℕ) → p < 64 → T (in_set (set_of w acc met p) j) ⊎ Own p j → Onward set c' p j
    on p j l (inl t) = let o = (k.sets p j l).0 t in let a = o.below in let b = n.low in record { source = o.source; lives = o.lives; below = omega arith; leads = o.leads }
    on p j l (inr a) = let b = n.low in record { source = c; lives = k.live h; below = omega arith; leads = (own p j).0 a }

    back : (p j : ℕ) → p < 64 → (o : Onward set c' p j) → Dec (o.source ≡ c) → Dec (o.source < c) → T (in_set (set_of w acc met p) j) ⊎ Own p j
    back p j l o (yes e) d = inr ((own p j).1 (subst (λ (x : ℕ). From x p j) e o.leads))
    back p j l o (no q) (yes m) = inl ((k.sets p j l).1 (record { source = o.source; lives = o.lives; below = m; leads = o.leads }))
    back p j l o (no q) (no m) = absurd (n.none o.source (omega arith) o.below o.lives)

    pub Stepping-more : Stepping w₀ acc set c' w' met'
    Stepping-more = record {
      high = n.high;
      live = n.member;
      kept = kept_then k.kept kk;
      sets = λ p j l. (λ t. on p j l ((f p j l).0 t), λ o. (f p j l).1 (back p j l o (ℕ_discrete o.source c) (dec_lt o.source c)));
    }

  -- THE LAW. Where the members below c lead by a letter is the live set behind it
  module _ {count c : ℕ} {set : List ℕ} (out : List ℕ) (h : count ≤ c) (letters : ℕ) (arcs : List PlainArc) (held : Held count letters arcs From) (ws : ε_closed_set count arcs set) (l : ℕ) (hl : l < letters)
      (onward : (j : ℕ) → T (in_set out j) ↔ Onward set c l j) where
    Went : ℕ → Type 0
    Went j = (s t : ℕ) × T (in_set set s) × Moves arcs s (some l) t × Run (Moves arcs) t [] j

    went : (j : ℕ) → T (in_set out j) ↔ Went j
    unfolding Went
    went j = (
      λ t. let o = (onward j).0 t in
          let m = held.sound o.source l j (ws.0 o.source o.lives) hl o.leads in
          (o.source, m.0, o.lives, m.1, m.2),
      λ p. let f = held.full p.0 l j (ws.0 p.0 p.2) hl (p.1, p.3, p.4) in
          let q = (In-view count set f.0).0 (closed_run (view count set) ws.1 ((In-view count set p.0).1 (ws.0 p.0 p.2, p.2)) f.1) in
          (onward j).1 (record { source = f.0; lives = q.1; below = omega (arith, q.0); leads = f.2 }),
    )

    same : (j : ℕ) → T (in_set out j) ↔ T (in? (by_letter count arcs (view count set) l) j)
    unfolding Went
    same j = (
      λ t. let p = (went j).0 t in (by_letter-iff count arcs held.within (view count set) l j).1 (p.0, p.1, (In-view count set p.0).1 (ws.0 p.0 p.2, p.2), p.3, p.4),
      λ t. let p = (by_letter-iff count arcs held.within (view count set) l j).0 t in (went j).1 (p.0, p.1, ((In-view count set p.0).0 p.2).1, p.3, p.4),
    )

    pub led : (view count out ≡ by_letter count arcs (view count set) l) × ε_closed_set count arcs out
    unfolding Went
    led = (is, (λ j t. let p = (went j).0 t in run-below count arcs held.within (held.within _ p.3) p.4, rw is (by_letter-closed count arcs held.within (view count set) l)))
      where
        is : view count out ≡ by_letter count arcs (view count set) l
        is = view-is count out (by_letter count arcs (view count set) l) (length-by_letter count arcs held.within (view count set) l) (λ j g. same j)

  -- the sets that a step leaves are those behind one more letter
  pub stepped : {w₀ w : List ℕ} {acc count : ℕ} {set : List ℕ} {c met : ℕ} → count ≤ c → Stepping w₀ acc set c w met
      → (letters : ℕ) (arcs : List PlainArc) → Held count letters arcs From → letters ≤ 64 → ε_closed_set count arcs set → (l : ℕ) → l < letters
      → (view count (set_of w acc met l) ≡ by_letter count arcs (view count set) l) × ε_closed_set count arcs (set_of w acc met l)
  stepped {w = w} {acc = acc} {met = met} h k letters arcs held few ws l hl = led (set_of w acc met l) h letters arcs held ws l hl (λ j. k.sets l j (omega arith))
