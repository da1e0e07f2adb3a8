-- Lines: what the type of the sets of a row says: as many as a row has, and four words each.
use mathlib.Core.Path.{◌≡◌}
use mathlib.Core.List.{List, [], ◌∷◌}
use Prim.Native.Nat.{ℕ, zero, suc, ◌<◌}
use native.Mathlib.Omega.{arith}
use lib.ListN.{length, get_or}
use mir.Syntax.{w64}
use mir.Val.{Val}
use denote.Plain.{UInt}
use denote.Array.{Array, each}
use denote.Shadow.{shadow}
use Rattle.word_sets.proofs.Laws.{Four, four}

pub lines-four : (sets : List (List ℕ)) (us : List Val) → shadow (each (List ℕ) (Array (UInt w64) 4).own_val sets us) → (i : ℕ) → i < length sets → Four (get_or sets i [])
lines-four [] us q i h = absurd (omega arith)
lines-four (x ∷ s) [] q i h = absurd q
lines-four (x ∷ s) (u ∷ us) q zero h = four x (u ∷ []) q.0
lines-four (x ∷ s) (u ∷ us) q (suc i) h = lines-four s us q.1 i (omega arith)
