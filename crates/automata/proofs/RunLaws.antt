-- RunLaws: runs one after the other, and runs carried over to other moves.
use Prim.Native.Nat.{ℕ}
use mathlib.Core.List.{List, ◌++◌}
use mathlib.Core.Option.{Option, none, some}
use Rattle.automata.specs.Automaton.{Run, silent, spell, stay}

-- runs one after the other
pub joined : {X : Type 0} {M : X → Option ℕ → X → Type 0} {x y z : X} {w v : List ℕ} → Run M x w y → Run M y v z → Run M x (w ++ v) z
joined stay q = q
joined (silent m r) q = silent m (joined r q)
joined (spell m r) q = spell m (joined r q)

-- where R carries each move over it carries each run over
pub carried : {X Y : Type 0} {M : X → Option ℕ → X → Type 0} {N : Y → Option ℕ → Y → Type 0} (R : X → Y → Type 0)
    → ((x x' : X) (y : Y) (α : Option ℕ) → R x y → M x α x' → (y' : Y) × N y α y' × R x' y')
    → {x x' : X} {w : List ℕ} (y : Y) → R x y → Run M x w x' → (y' : Y) × Run N y w y' × R x' y'
carried R f y r stay = (y, stay, r)
carried R f y r (silent {x = x} {y = v} m q) = let s = f x v y none r m in let t = carried R f s.0 s.2 q in (t.0, silent s.1 t.1, t.2)
carried R f y r (spell {x = x} {y = v} {a = a} m q) = let s = f x v y (some a) r m in let t = carried R f s.0 s.2 q in (t.0, spell s.1 t.1, t.2)
