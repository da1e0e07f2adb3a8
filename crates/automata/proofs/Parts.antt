-- Parts: an automaton that stands as a part of another, its states at other numbers, its registers at other places.
use mathlib.Core.Path.{◌∙◌, ◌≡◌, ap, refl, sym}
use mathlib.Core.Logic.{◌↔◌, ⊎_elim}
use Prim.Native.Nat.{◌+◌, ◌-◌, ◌<◌, suc, zero, ℕ}
use lib.Dec.{ltb, ltb→lt, lt→ltb}
use lib.ListN.{drop, get_elem?, length, length-append, length-replicate, replicate, set}
use lib.Seq.{set-append_left}
use mathlib.Core.Bool.{Bool, false, false≢true, true}
use mathlib.Core.List.Memᴰ
use mathlib.Core.List.{List, Memᴰ, [], ◌++◌, ◌∷◌, map}
use mathlib.Core.Option
use mathlib.Core.Option.{Option, some-injective, bind, map-eq-some_iff, none, some}
use native.Mathlib.Nat.{not-suc-le-zero, suc-add, suc-ne-zero}
use native.Mathlib.Omega.{arith}
use Rattle.automata.specs.Automaton.{Arc, Automaton, Configuration, Does, DoesAll, Final, KeepsZero, Op, Produces, Run, WellFormed, reads, register, silent, spell, start, states, stay, writes}
use Rattle.automata.specs.Joins.{final_states, moved_op}
use Rattle.automata.specs.Lists.{only}
use Rattle.automata.specs.Performing.{act, perform, holds}
use Rattle.automata.proofs.ListLaws.{T_true, at_back, at_front, Bool-ext, get_elem?-append, none-some, only-iff}
use Rattle.automata.proofs.PerformingLaws.{act-iff, perform-iff}

-- ---- registers that no operation names
pub act-length : (o : Op) (u v : List ℕ) → Does o u v → length v ≡ length u
act-length (reads i γ) u v d = ap length (sym d.0)
act-length (writes i γ) u v d = d.0

act-padded : (o : Op) (u p : List ℕ) → register o < length u → act o (u ++ p) ≡ Option.map (λ v. v ++ p) (act o u)
unfolding act
act-padded (reads i γ) u p h = rw (at_front u p i h) (go (holds (get_elem? u i) γ))
  where
    go : (b : Bool) → only b (u ++ p) ≡ Option.map (λ v. v ++ p) (only b u)
    go true = refl
    go false = refl
act-padded (writes i γ) u p h = rw (T_true (ltb i (length u)) (lt→ltb i (length u) h), T_true (ltb i (length (u ++ p))) (lt→ltb i (length (u ++ p)) (omega (arith, length-append u p))), set-append_left u p i γ h)

pub perform-padded : (ops : List Op) (u p : List ℕ) → ((o : Op) → Memᴰ o ops → register o < length u) → perform ops (u ++ p) ≡ Option.map (λ v. v ++ p) (perform ops u)
unfolding perform bind
perform-padded [] u p h = refl
perform-padded (o ∷ ops) u p h = go (λ v l. perform-padded ops v p (λ x k. rw l (h x (Memᴰ.tail k)))) (act o u) refl
  where
    go : ((v : List ℕ) → length v ≡ length u → perform ops (v ++ p) ≡ Option.map (λ v. v ++ p) (perform ops v)) → (m : Option (List ℕ)) → act o u ≡ m
        → perform (o ∷ ops) (u ++ p) ≡ Option.map (λ v. v ++ p) (perform (o ∷ ops) u)
    go ih none e = rw (act-padded o u p (h o (Memᴰ.head refl)), e)
    go ih (some v) e = rw (act-padded o u p (h o (Memᴰ.head refl)), e) (ih v (act-length o u v ((act-iff o u v).0 e)))

pub size-kept : (ops : List Op) (v w : List ℕ) → DoesAll ops v w → length w ≡ length v
size-kept [] v w d = ap length (sym d)
size-kept (o ∷ ops) v w d = size-kept ops d.0 w d.2 ∙ act-length o v d.0 d.1

-- where the parts of an automaton stand
pub record Layout : Type 1 where
  pub place : ℕ → ℕ
  pub ops_in : List Op → List Op
  pub lay : List ℕ → List ℕ
  pub Good : List ℕ → Type 0

abbrev pub image : Layout → Arc → Arc
image l x = record { source = l.place x.source; letter = x.letter; target = l.place x.target; ops = l.ops_in x.ops }

-- c of the part and d of the whole are at the same place
pub record Beside (l : Layout) (a : Automaton) (c d : Configuration) : Type 0 where
  pub small : c.state < states a
  pub good : l.Good c.contents
  pub at : d.state ≡ l.place c.state
  pub holds : d.contents ≡ l.lay c.contents

-- the part's operations do in the whole what they do in the part
pub record Laid (l : Layout) (a : Automaton) : Type 0 where
  pub keeps : (x : Arc) → Memᴰ x a.arcs → (v w : List ℕ) → l.Good v → DoesAll x.ops v w → l.Good w
  pub does : (x : Arc) → Memᴰ x a.arcs → (v : List ℕ) → l.Good v → perform (l.ops_in x.ops) (l.lay v) ≡ Option.map l.lay (perform x.ops v)

module _ (l : Layout) (a u : Automaton) (valid : WellFormed a) (laid : Laid l a) where
  pub into : (c c' d : Configuration) (α : Option ℕ) → Beside l a c d → (m : Produces a c α c') → Memᴰ (image l m.arc) u.arcs → (d' : Configuration) × Produces u d α d' × Beside l a c' d'
  into c c' d α r m k = (
    record { state = l.place c'.state; contents = l.lay c'.contents },
    record {
      arc = image l m.arc;
      listed = k;
      leaves = ap l.place m.leaves ∙ sym r.at;
      spells = m.spells;
      enters = ap l.place m.enters;
      does = rw r.holds ((perform-iff (l.ops_in m.arc.ops) (l.lay c.contents) (l.lay c'.contents)).0
          (laid.does m.arc m.listed c.contents r.good ∙ ap (Option.map l.lay) ((perform-iff m.arc.ops c.contents c'.contents).1 m.does)));
    },
    record { small = rw (← m.enters) (valid.targets m.arc m.listed); good = laid.keeps m.arc m.listed c.contents c'.contents r.good m.does; at = refl; holds = refl },
  )

  pub back : (c d d' : Configuration) (α : Option ℕ) → Beside l a c d → (m : Produces u d α d') (x : Arc) → Memᴰ x a.arcs → m.arc ≡ image l x → x.source ≡ c.state
      → (c' : Configuration) × Produces a c α c' × Beside l a c' d'
  back c d d' α r m x k e s =
      let did : DoesAll (l.ops_in x.ops) (l.lay c.contents) d'.contents = rw (ap (λ (y : Arc). y.ops) e, r.holds) at m.does in
      let q = (map-eq-some_iff l.lay (perform x.ops c.contents)).0
      (sym (laid.does x k c.contents r.good) ∙ (perform-iff (l.ops_in x.ops) (l.lay c.contents) d'.contents).1 did) in
      let does = (perform-iff x.ops c.contents q.0).0 q.1 in (
        record { state = x.target; contents = q.0 },
        record { arc = x; listed = k; leaves = s; spells = sym (ap (λ (y : Arc). y.letter) e) ∙ m.spells; enters = refl; does = does },
        record { small = valid.targets x k; good = laid.keeps x k c.contents q.0 r.good does; at = sym m.enters ∙ ap (λ (y : Arc). y.target) e; holds = sym q.2 },
      )

only-map : {A B : Type 0} (f : A → B) (b : Bool) (x : A) → only b (f x) ≡ Option.map f (only b x)
only-map f true x = refl
only-map f false x = refl

set_back : {A : Type 0} (l r : List A) (i : ℕ) (x : A) → set (l ++ r) (length l + i) x ≡ l ++ set r i x
set_back [] r i x = ap (λ (n : ℕ). set r n x) (omega arith)
set_back {A} (y ∷ l) r i x = rw suc-add (ap (λ (s : List A). y ∷ s) (set_back l r i x))

-- ---- registers from 1 up stand behind another automaton's
module _ (w : List ℕ) (k : ℕ) (size : length w ≡ suc k) (zero-first : get_elem? w 0 ≡ some 0) where
  -- 0 and then v, behind w
  at-shifted : (v : List ℕ) (i : ℕ) → get_elem? (w ++ v) (suc (i + k)) ≡ get_elem? v i
  at-shifted v i = let e : suc (i + k) ≡ length w + i = omega arith in rw e (at_back w v i)

  act-shifted : (o : Op) (v : List ℕ) → KeepsZero o → act (moved_op k o) (w ++ v) ≡ Option.map (λ (x : List ℕ). w ++ drop 1 x) (act o (0 ∷ v))
  unfolding act KeepsZero
  act-shifted (reads zero γ) v h = rw (get_elem?-append w v 0 zero-first, h)
  act-shifted (reads (suc i) γ) v h = rw (at-shifted v i) (only-map (λ (x : List ℕ). w ++ drop 1 x) (holds (get_elem? v i) γ) (0 ∷ v))
  act-shifted (writes zero γ) v h = absurd h
  act-shifted (writes (suc i) γ) v h =
      let e : suc (i + k) ≡ length w + i = omega arith in
      let fits : ltb (suc (i + k)) (length (w ++ v)) ≡ ltb (suc i) (suc (length v)) = Bool-ext _ _
      (λ t. lt→ltb (suc i) (suc (length v)) (omega (arith, ltb→lt (suc (i + k)) (length (w ++ v)) t, length-append w v)))
      (λ t. lt→ltb (suc (i + k)) (length (w ++ v)) (omega (arith, ltb→lt (suc i) (suc (length v)) t, length-append w v))) in
      rw (fits, e, set_back w v i γ) (only-map (λ (x : List ℕ). w ++ drop 1 x) (ltb (suc i) (suc (length v))) (0 ∷ set v i γ))

  -- what is performed keeps register 0
  zero_kept : (o : Op) (v x : List ℕ) → KeepsZero o → act o (0 ∷ v) ≡ some x → x ≡ 0 ∷ drop 1 x
  unfolding act KeepsZero
  zero_kept (reads i γ) v x h e = is v ((only-iff (holds (get_elem? (0 ∷ v) i) γ) (0 ∷ v) x).0 e).1
    where
      is : (r : List ℕ) → 0 ∷ r ≡ x → x ≡ 0 ∷ drop 1 x
      is r q = sym q ∙ ap (λ (l : List ℕ). 0 ∷ drop 1 l) q
  zero_kept (writes zero γ) v x h e = absurd h
  zero_kept (writes (suc i) γ) v x h e = let q = ((only-iff (ltb (suc i) (suc (length v))) (0 ∷ set v i γ) x).0 e).1 in sym q ∙ ap (λ (l : List ℕ). 0 ∷ drop 1 l) q

  pub perform-shifted : (ops : List Op) (v : List ℕ) → ((o : Op) → Memᴰ o ops → KeepsZero o) → perform (map (moved_op k) ops) (w ++ v) ≡ Option.map (λ (x : List ℕ). w ++ drop 1 x) (perform ops (0 ∷ v))
  unfolding perform bind
  perform-shifted [] v h = refl
  perform-shifted (o ∷ ops) v h = go (λ x. perform-shifted ops x (λ q i. h q (Memᴰ.tail i))) (act o (0 ∷ v)) refl
    where
      go : ((x : List ℕ) → perform (map (moved_op k) ops) (w ++ x) ≡ Option.map (λ (x : List ℕ). w ++ drop 1 x) (perform ops (0 ∷ x))) → (m : Option (List ℕ)) → act o (0 ∷ v) ≡ m
          → perform (map (moved_op k) (o ∷ ops)) (w ++ v) ≡ Option.map (λ (x : List ℕ). w ++ drop 1 x) (perform (o ∷ ops) (0 ∷ v))
      go ih none e = rw (act-shifted o v (h o (Memᴰ.head refl)), e)
      go ih (some x) e =
          let z = zero_kept o v x (h o (Memᴰ.head refl)) e in
          rw (act-shifted o v (h o (Memᴰ.head refl)), e) (ih (drop 1 x) ∙ ap (λ (y : List ℕ). Option.map (λ (x : List ℕ). w ++ drop 1 x) (perform ops y)) (sym z))

-- register 0 stays 0
pub zero-stays : (ops : List Op) (v w : List ℕ) → ((o : Op) → Memᴰ o ops → KeepsZero o) → DoesAll ops v w → get_elem? v 0 ≡ some 0 → get_elem? w 0 ≡ some 0
unfolding KeepsZero
zero-stays [] v w h d z = rw (← d) z
zero-stays (o ∷ ops) v w h d z = zero-stays ops d.0 w (λ q i. h q (Memᴰ.tail i)) d.2 (one o (h o (Memᴰ.head refl)) d.1)
  where
    one : (o : Op) → KeepsZero o → Does o v d.0 → get_elem? d.0 0 ≡ some 0
    one (reads i γ) p e = rw (← e.0) z
    one (writes zero γ) p e = absurd p
    one (writes (suc i) γ) p e = e.2 0 (λ q. suc-ne-zero i (sym q)) ∙ z

abbrev pub zeros : ℕ → List ℕ
zeros n = replicate n 0

pub zeros-at : (n : ℕ) → 0 < n → get_elem? (zeros n) 0 ≡ some 0
zeros-at zero h = absurd (not-suc-le-zero h)
zeros-at (suc n) h = refl

pub tail_zeros : (n : ℕ) → drop 1 (zeros n) ≡ zeros (n - 1)
tail_zeros zero = refl
tail_zeros (suc n) = let e : n ≡ suc n - 1 = omega arith in ap zeros e

-- ---- the two ways in which registers stand
-- a register of its own in front, which holds 0
abbrev pub Own : ℕ → List ℕ → Type 0
Own n v = (length v ≡ n) × (get_elem? v 0 ≡ some 0)

-- the part's n registers, then p
abbrev pub in_front : (ℕ → ℕ) → ℕ → List ℕ → Layout
in_front place n p = record { place = place; ops_in = λ ops. ops; lay = λ v. v ++ p; Good = Own n }

-- w, then the part's n registers from 1 up
abbrev pub behind : (ℕ → ℕ) → ℕ → ℕ → List ℕ → Layout
behind place n k w = record { place = place; ops_in = map (moved_op k); lay = λ v. w ++ drop 1 v; Good = Own n }

head-zero : (v : List ℕ) → get_elem? v 0 ≡ some 0 → v ≡ 0 ∷ drop 1 v
head-zero [] e = none-some refl e
head-zero (x ∷ v) e = ap (λ (y : ℕ). y ∷ v) (some-injective x 0 e)

module _ (a : Automaton) (va : WellFormed a) where
  pub own-kept : (x : Arc) → Memᴰ x a.arcs → (v w : List ℕ) → Own a.registers v → DoesAll x.ops v w → Own a.registers w
  own-kept x k v w g d = (size-kept x.ops v w d ∙ g.0, zero-stays x.ops v w (va.zero_kept x k) d g.1)

  pub Laid-in_front : (place : ℕ → ℕ) (p : List ℕ) → Laid (in_front place a.registers p) a
  Laid-in_front place p = record { keeps = own-kept; does = λ x k v g. perform-padded x.ops v p (λ o i. rw g.0 (va.inside x k o i)) }

  pub Laid-behind : (place : ℕ → ℕ) (k : ℕ) (w : List ℕ) → length w ≡ suc k → get_elem? w 0 ≡ some 0 → Laid (behind place a.registers k w) a
  Laid-behind place k w s z = record {
    keeps = own-kept;
    does = λ x i v g. perform-shifted w k s z x.ops (drop 1 v) (va.zero_kept x i)
        ∙ ap (λ (y : List ℕ). Option.map (λ (x : List ℕ). w ++ drop 1 x) (perform x.ops y)) (sym (head-zero v g.1));
  }

  -- the part's initial configuration, where the whole's registers are empty
  pub own-start : Own a.registers (start a).contents
  own-start = (length-replicate a.registers 0, zeros-at a.registers va.some_register)

-- ---- the final states
pub final_states-iff : (i : ℕ) (l : List Bool) (s : ℕ) → Memᴰ s (final_states i l) ↔ ((j : ℕ) × (s ≡ i + j) × (get_elem? l j ≡ some true))
unfolding final_states
final_states-iff i [] s = (λ m. absurd (Memᴰ.not-nil m), λ p. none-some refl p.2)
final_states-iff i (true ∷ l) s = (
  λ m. ⊎_elim (λ (e : s ≡ i). (0, omega arith, refl)) (λ m. let p = (final_states-iff (suc i) l s).0 m in (suc p.0, omega (arith, p.1), p.2)) (Memᴰ.cases_cons m),
  λ p. go (final_states-iff (suc i) l s).1 p.0 p.1 p.2,
)
  where
    go : (((j : ℕ) × (s ≡ suc i + j) × (get_elem? l j ≡ some true)) → Memᴰ s (final_states (suc i) l)) → (j : ℕ) → s ≡ i + j → get_elem? (true ∷ l) j ≡ some true → Memᴰ s (i ∷ final_states (suc i) l)
    go ih zero e f = let q : s ≡ i = omega arith in Memᴰ.head q
    go ih (suc j) e f = Memᴰ.tail (ih (j, omega arith, f))
final_states-iff i (false ∷ l) s = (
  λ m. let p = (final_states-iff (suc i) l s).0 m in (suc p.0, omega (arith, p.1), p.2),
  λ p. go (final_states-iff (suc i) l s).1 p.0 p.1 p.2,
)
  where
    go : (((j : ℕ) × (s ≡ suc i + j) × (get_elem? l j ≡ some true)) → Memᴰ s (final_states (suc i) l)) → (j : ℕ) → s ≡ i + j → get_elem? (false ∷ l) j ≡ some true → Memᴰ s (final_states (suc i) l)
    go ih zero e f = absurd (false≢true (some-injective false true f))
    go ih (suc j) e f = ih (j, omega arith, f)

-- ---- a run of the part from c to a final state that spells the front of the word, and what is said of the rest of it
pub record Cut (a : Automaton) (Rest : List ℕ → Type 0) (c : Configuration) (w : List ℕ) : Type 0 where
  pub left : List ℕ
  pub right : List ℕ
  pub whole : w ≡ left ++ right
  pub end : Configuration
  pub run : Run (Produces a) c left end
  pub final : Final a end.state
  pub rest : Rest right

module _ {a : Automaton} {Rest : List ℕ → Type 0} where
  pub Cut-here : {c : Configuration} {w : List ℕ} → Final a c.state → Rest w → Cut a Rest c w
  Cut-here {c} {w} f r = record { left = []; right = w; whole = refl; end = c; run = stay; final = f; rest = r }

  pub Cut-silent : {c c' : Configuration} {w : List ℕ} → Produces a c none c' → Cut a Rest c' w → Cut a Rest c w
  Cut-silent m t = record { left = t.left; right = t.right; whole = t.whole; end = t.end; run = silent m t.run; final = t.final; rest = t.rest }

  pub Cut-spell : {c c' : Configuration} {l : ℕ} {w : List ℕ} → Produces a c (some l) c' → Cut a Rest c' w → Cut a Rest c (l ∷ w)
  Cut-spell {l = l} m t = record { left = l ∷ t.left; right = t.right; whole = ap (λ (v : List ℕ). l ∷ v) t.whole; end = t.end; run = spell m t.run; final = t.final; rest = t.rest }
