-- FinalLaws: the set of the final configurations, made one configuration after the other, is the definition's.
use mathlib.Core.Path.{◌∙◌, ◌≡◌, ap, sym}
use mathlib.Core.Bool.{Bool, ◌&&◌, ◌||◌, and-false, and-true, false, or-false, true}
use mathlib.Core.List.Memᴰ
use mathlib.Core.List.{List, [], ◌∷◌, map}
use mathlib.Core.Option
use mathlib.Core.Option.{some-injective, some}
use Prim.Native.Nat.{◌+◌, ◌/◌, ◌<◌, ◌^◌, ◌≤◌, ℕ}
use native.Mathlib.Decide.{dec_lt, ℕ_discrete}
use native.Mathlib.Omega.{arith}
use borrow.Author.Tests.{eq-eqb, le-ltb, lt-ltb, ne_eqb}
use lib.Dec.{eqb, ltb, ltb→lt}
use lib.ListN.{get_or-map, drop, get_or, get_elem?, length, length-map, take}
use lib.Seq.{get_or-drop, get_or-take}
use Rattle.automata.specs.Automaton.{Automaton, Configuration, WellFormed, start, states}
use Rattle.automata.specs.Exploration.{Reach, first, later}
use Rattle.automata.specs.Lists.{Each}
use Rattle.automata.specs.Live.{in?}
use Rattle.automata.specs.Performing.{Move, successors}
use Rattle.automata.specs.Unfolding.{configurations, final_set, same_configuration, targets_of}
use Rattle.automata.proofs.Laws.{and-iff, at_map, at_mem, at_some, each_at, get_elem?-some, known-sound, successors-iff}
use Rattle.word_layout.specs.Layout.{configs}
use Rattle.table_operations.specs.Packed.{pack}
use Rattle.table_operations.proofs.Laws.{Good, state-of}
use Rattle.format.specs.Decoding.{is_final}
use Rattle.file_fields.specs.Parts.{first_arc, flag_bytes, flags_at}
use Rattle.file_fields.specs.declared.Counts.{Counts}
use Rattle.word_sets.specs.Sets.{Within, in_set, view}
use Rattle.word_sets.proofs.Laws.{view-is}
use Rattle.table.specs.Finals.{flag_place, is_final_in, state_in}

-- ---- a set made by a test of one number after the other: it holds those below i that pass
pub record Sifted (f : ℕ → Bool) (i : ℕ) (s : List ℕ) : Type 0 where
  pub holds : (j : ℕ) → in_set s j ≡ (ltb j i && f j)

pub Sifted-start : (f : ℕ → Bool) (s : List ℕ) → ((j : ℕ) → in_set s j ≡ false) → Sifted f 0 s
Sifted-start f s e = record { holds = λ j. e j ∙ ap (λ (b : Bool). b && f j) (sym (le-ltb j 0 (omega arith))) }

Sifted-more : {f : ℕ → Bool} {i : ℕ} {s : List ℕ} (s' : List ℕ) → Sifted f i s → ((j : ℕ) → in_set s' j ≡ ((eqb j i && f i) || in_set s j)) → Sifted f (i + 1) s'
Sifted-more {f} {i} s' k e = record { holds = λ j. go j (ℕ_discrete j i) (dec_lt j i) }
  where
    go : (j : ℕ) → Dec (j ≡ i) → Dec (j < i) → in_set s' j ≡ (ltb j (i + 1) && f j)
    go j (yes q) d = rw (e j, k.holds j, eq-eqb j i q, le-ltb j i (omega arith), lt-ltb j (i + 1) (omega arith), q) (or-false (f i))
    go j (no q) (yes l) = rw (e j, k.holds j, ne_eqb j i q, lt-ltb j i l, lt-ltb j (i + 1) (omega arith))
    go j (no q) (no l) = rw (e j, k.holds j, ne_eqb j i q, le-ltb j i (omega arith), le-ltb j (i + 1) (omega arith))

-- number i passes, and joins; or it does not, and the set stays
pub Sifted-in : {f : ℕ → Bool} {i : ℕ} {s : List ℕ} (s' : List ℕ) → Sifted f i s → f i ≡ true → ((j : ℕ) → in_set s' j ≡ (eqb j i || in_set s j)) → Sifted f (i + 1) s'
Sifted-in {i = i} s' k t e = Sifted-more s' k (λ j. e j ∙ rw (t, and-true (eqb j i)))

pub Sifted-out : {f : ℕ → Bool} {i : ℕ} {s : List ℕ} → Sifted f i s → f i ≡ false → Sifted f (i + 1) s
Sifted-out {i = i} {s} k t = Sifted-more s k (λ j. rw (t, and-false (eqb j i)))

-- ---- the configurations in the words
-- the states of an automaton's configurations are states of it
pub configurations-states : (x : Automaton) → WellFormed x → (L i : ℕ) (d : Configuration) → get_elem? (configurations x L) i ≡ some d → d.state < states x
unfolding configurations targets_of
configurations-states x wf L i d e = reached (known-sound same_configuration (targets_of x) (start x ∷ []) L (at_mem (configurations x L) i e))
  where
    reached : {d : Configuration} → Reach (targets_of x) (start x ∷ []) d → d.state < states x
    reached (first m) = rw (Memᴰ.eq_of_singleton m) wf.some_state
    reached (later {x = c} {y = d} r m) =
        let q = Memᴰ.of_map (λ (v : Move). v.to) (successors x c) m in
        let p = (successors-iff x c q.0.letter q.0.to).0 q.1 in
        let h : q.0.to.state < states x = rw (← p.enters) (wf.targets p.arc p.listed) in
        rw (← q.2) h

-- each word of the table is a configuration, packed
pub word_in : (w : List ℕ) (count : ℕ) (cs : List Configuration) → take count (drop configs w) ≡ map pack cs → count ≡ length cs → (i : ℕ) → i < count
    → (d : Configuration) × (get_elem? cs i ≡ some d) × (get_or w (configs + i) 0 ≡ pack d)
word_in w count cs stand many i h =
    let f = get_elem?-some cs i (omega arith) in
    let e : some (get_or w (configs + i) 0) ≡ some (pack f.0) =
    ap some (sym (get_or-take count (drop configs w) i 0 h ∙ get_or-drop configs w i 0) ∙ ap (λ (l : List ℕ). get_or l i 0) stand)
    ∙ sym (at_some (map pack cs) i 0 (omega (arith, length-map cs pack))) ∙ at_map pack cs i ∙ ap (Option.map pack) f.1 in
    (f.0, f.1, some-injective (get_or w (configs + i) 0) (pack f.0) e)

-- x has the final states that the flags of the file say; the words hold the configurations cs
module _ (x : Automaton) (c : Counts) (file : List ℕ) (flagged : x.finals ≡ map is_final (flag_bytes c file)) (n : ℕ) (few : n ≤ 8) (w : List ℕ) (count : ℕ) (cs : List Configuration)
    (stand : take count (drop configs w) ≡ map pack cs) (many : count ≡ length cs) (good : Each (Good n) cs) (small : (i : ℕ) (d : Configuration) → get_elem? cs i ≡ some d → d.state < c.states) where
  state-in : (i : ℕ) → i < count → (d : Configuration) × (get_elem? cs i ≡ some d) × (state_in w i ≡ d.state)
  state-in i h = let f = word_in w count cs stand many i h in (f.0, f.1, ap (λ (v : ℕ). v / 2 ^ 32) f.2 ∙ state-of n few f.0 (each_at (Good n) cs i f.1 good))

  -- the flag of each configuration's state is in the file
  pub flag_inside : first_arc c ≤ length file → (i : ℕ) → i < count → flag_place c (state_in w i) < length file
  flag_inside h i l = let s = state-in i l in omega (arith, s.2, small i s.0 s.1)

  final-at : (i : ℕ) → i < count → is_final_in file c w i ≡ in? (final_set x cs) i
  unfolding final_set
  final-at i h =
      let s = state-in i h in
      let l = small i s.0 s.1 in
      let q : some (in? (map (λ d. in? x.finals d.state) cs) i) ≡ some (in? x.finals s.0.state) =
      sym (at_some (map (λ d. in? x.finals d.state) cs) i false (omega (arith, length-map cs (λ d. in? x.finals d.state))))
      ∙ at_map (λ d. in? x.finals d.state) cs i ∙ ap (Option.map (λ d. in? x.finals d.state)) s.1 in
      rw s.2
      (ap is_final (sym (get_or-take c.states (drop (flags_at c) file) s.0.state 0 l ∙ get_or-drop (flags_at c) file s.0.state 0))
      ∙ sym (get_or-map is_final (flag_bytes c file) s.0.state 0) ∙ ap (λ (F : List Bool). in? F s.0.state) (sym flagged)
      ∙ sym (some-injective _ _ q))

  -- THE LAW. The set that the flags make is that of the final configurations
  pub final-view : (r : List ℕ) → ((j : ℕ) → in_set r j ≡ (ltb j count && is_final_in file c w j)) → (view count r ≡ final_set x cs) × Within count r
  unfolding final_set
  final-view r e = (
    view-is count r (final_set x cs) (length-map cs (λ d. in? x.finals d.state) ∙ sym many) (λ j h. rw (e j, lt-ltb j count h, final-at j h) (λ t. t, λ t. t)),
    λ j t. ltb→lt j count ((and-iff (ltb j count) (is_final_in file c w j)).0 (rw (e j) at t)).0,
  )
