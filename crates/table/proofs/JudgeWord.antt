-- JudgeWord: the live set of a word and the final configurations say what membership answers.
use mathlib.Core.Path.{◌∙◌, ◌≡◌, ap, ap₂, refl, sym}
use mathlib.Core.Logic.{◌↔◌}
use mathlib.Core.Bool.{Bool, cond, false}
use mathlib.Core.List.{List, [], ◌∷◌}
use mathlib.Core.Option.{Option, none, some}
use Prim.Native.Nat.{suc, zero, ℕ}
use lib.Dec.{T, eqb}
use lib.ListN.{length}
use Rattle.automata.specs.Automaton.{Automaton}
use Rattle.automata.specs.Live.{count as how_many, epsilon_closure, live, live_from, meets, table}
use Rattle.automata.specs.Unfolding.{accepted, accepted_bytes, configurations, final_set, live_count, live_set, plain_arcs, spelled_or}
use Rattle.automata.specs.Words.{spelling}
use Rattle.word_sets.specs.Sets.{Within, in_set, view}
use Rattle.word_rows.specs.Rows.{row}
use Rattle.word_sets.proofs.Laws.{count_none, count-within, meets-view}
use Rattle.word_layout.specs.declared.Block.{Block}
use Rattle.table_sets.proofs.Laws.{tells-start}
use Rattle.table.specs.Membership.{judged}
use Rattle.table_live.specs.Steps.{live_bytes}
use Rattle.table.specs.Built.{Built}
use Rattle.table.specs.declared.Membership.TheVariants.{Accepted, Rejected}

-- nothing is in the empty set
meets-none : (k : ℕ) (F : List Bool) → meets (table k (λ _. false)) F ≡ false
unfolding meets table
meets-none zero F = refl
meets-none (suc k) [] = refl
meets-none (suc k) (y ∷ F) = meets-none k F

-- from the live set of the empty word, the live set of a word of bytes says whether it is accepted and how many are live
bytes-say : (x : Automaton) (L : ℕ) (s : List ℕ) (count : ℕ) (S : List Bool) → count ≡ length (configurations x L) → S ≡ live count (plain_arcs x L) []
    → (accepted_bytes x L s ≡ meets (live_bytes x.alphabet (plain_arcs x L) count S s) (final_set x (configurations x L))) × (live_count x L s ≡ how_many (live_bytes x.alphabet (plain_arcs x L) count S s))
unfolding accepted_bytes accepted live_count live_set live live_bytes
bytes-say x L s count S many start = rw (start, many) (go (spelling x.alphabet s))
  where
    n : ℕ
    n = length (configurations x L)

    set : Option (List ℕ) → List Bool
    set o = spelled_or (table n (λ _. false)) (live_from n (plain_arcs x L) (epsilon_closure n (plain_arcs x L) (table n (eqb 0)))) o

    go : (o : Option (List ℕ)) → (spelled_or false (accepted x L) o ≡ meets (set o) (final_set x (configurations x L))) × (spelled_or 0 (λ w. how_many (live_set x L w)) o ≡ how_many (set o))
    go none = (sym (meets-none n (final_set x (configurations x L))), sym (count_none n (λ _. false) (λ j. refl)))
    go (some v) = (refl, refl)

-- THE LAW of judging: `live` is the live set of the word and `finals` the set of the final configurations; m says how many are live,
-- and b whether a final one is among them
pub judge_is : {x : Automaton} {L : ℕ} {w : List ℕ} {block : Block} (word live finals : List ℕ) (b : Bool) (m : ℕ) → Built x L w block
    → view block.count live ≡ live_bytes x.alphabet (plain_arcs x L) block.count (view block.count (row w block.base 0)) word → Within block.count live
    → view block.count finals ≡ final_set x (configurations x L)
    → T b ↔ ((j : ℕ) × T (in_set live j) × T (in_set finals j)) → m ≡ how_many (view 256 live) → judged L x word ≡ cond b (Accepted m) (Rejected m)
unfolding judged
judge_is {x} {L} {w} {block} word live finals b m built is inside final test many =
    let s = bytes-say x L word block.count (view block.count (row w block.base 0)) built.many (tells-start built.tells).0 in
    let e : accepted_bytes x L word ≡ b = s.0 ∙ sym (meets-view live finals inside test ∙ ap₂ meets is final) in
    let c : live_count x L word ≡ m = s.1 ∙ ap how_many (sym is) ∙ sym (many ∙ count-within live built.tells.few inside) in
    rw (e, c)
