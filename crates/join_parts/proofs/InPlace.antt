-- InPlace: letters put into a joined file where it stands in an output: the arcs one behind the other, as the loop over them meets them, and
-- what the writing of the letters and two such loops make of the file.
use mathlib.Core.Path.{◌∙◌, ◌≡◌, ap, ap₂, refl, sym}
use mathlib.Core.Bool.{Bool}
use mathlib.Core.List.{List, [], ◌++◌, ◌∷◌, append_assoc, map}
use mathlib.Core.Option
use mathlib.Core.Option.{Option, none, some}
use Prim.Native.Nat.{ℕ, ◌%◌, ◌*◌, ◌+◌, ◌-◌, ◌/◌, ◌<◌, ◌≤◌, suc}
use native.Mathlib.Omega.{arith}
use lib.ListN.{drop, get_or, length, length-append, length-drop, length-map, length-replicate, length-set, length-take, replicate, set, take, take-append-drop}
use lib.Seq.{drop_at, drop-drop, drop-set-add, drop-set-lt, get_or-drop, get_or-set_other, take-add, take_at, take-set-le}
use Rattle.automata.specs.Automaton.{Arc, Automaton}
use Rattle.relettering.specs.Relettering.{letter_by, relettered_arc}
use Rattle.relettering.proofs.Laws.{number-beyond}
use Rattle.file_fields.specs.declared.Counts.{Counts}
use Rattle.file_fields.specs.Parts.{arc_size, counts_of, first_arc}
use Rattle.file_fields.proofs.Laws.{down, none_left}
use Rattle.format.specs.Encoding.{arc_bytes, arcs_bytes, bytes_of, flag_byte, header_bytes, letter_byte, sizes}
use Rattle.format.specs.Limits.{Ranges}
use Rattle.format.specs.Placed.{whole}
use Rattle.file_laws.proofs.Laws.{bytes-length}
use Rattle.file_pair.specs.Pair.{letters_of}
use Rattle.file_writing.specs.Answers.{output_of}
use Rattle.file_writing.specs.Placing.{Appended}
use Rattle.std.specs.Prelude.{Ok}
use Rattle.file_writing.proofs.Laws.{arcs-append, header-length}
use Rattle.file_arc_writing.proofs.Laws.{arc-length}
use Rattle.join_parts.specs.OwnNumbers.{Standing, last_arcs, letters_put, relettered_bytes, roomy}
use Rattle.join_parts.proofs.LettersPut.{put-sizes}
use Rattle.join_parts.proofs.NewLetters.{relettered-length}

-- ---- the loop
-- Of the `count` arcs at the place `at` of `old`, those from number i on are left, at the place `from` of `out`.
pub record ArcsLeft (new : List ℕ) (at count : ℕ) (old : List ℕ) (from i : ℕ) (out : List ℕ) : Type 0 where
  pub room : at + whole count (drop at old) ≤ length old
  pub same : take from out ++ relettered_bytes (count - i) new (drop from out) ≡ take at old ++ relettered_bytes count new (drop at old)
  pub ends : from + whole (count - i) (drop from out) ≡ at + whole count (drop at old)
  pub size : length out ≡ length old

module _ (new : List ℕ) (at count : ℕ) (old : List ℕ) where
  -- all are left
  pub arcs-all : at + whole count (drop at old) ≤ length old → ArcsLeft new at count old at 0 old
  arcs-all h = let e : count - 0 ≡ count = omega arith in record { room = h; same = rw e; ends = rw e; size = refl }

  module _ (from i : ℕ) (out : List ℕ) (l : ArcsLeft new at count old from i out) where
    abbrev here : List ℕ
    here = drop from out

    abbrev byte : ℕ
    byte = letter_by new (get_or out (from + 1) 0)

    abbrev changed : List ℕ
    changed = set out (from + 1) byte

    -- the arc of this turn stands there whole
    pub arc-whole : i < count → from + arc_size here ≤ length out
    unfolding whole
    arc-whole h = omega (arith, rw (down count i h) at l.ends, l.room, l.size)

    -- with its new number it takes as many bytes
    pub arc-same : arc_size (drop from changed) ≡ arc_size here
    arc-same = rw (drop-set-add from out 1 byte, get_or-set_other here 1 3 byte 0 (λ e. omega arith))

    -- and one less is left
    pub arcs-less : i < count → ArcsLeft new at count old (from + arc_size here) (i + 1) changed
    unfolding whole relettered_bytes
    arcs-less h =
        let e = down count i h in
        let b : byte ≡ letter_by new (get_or here 1 0) = rw (get_or-drop from out 1 0) in
        let f : drop (from + arc_size here) changed ≡ drop (arc_size here) here = drop-set-lt (from + arc_size here) out (from + 1) byte (omega arith) ∙ sym (drop-drop (arc_size here) from out) in
        let t : take (from + arc_size here) changed ≡ take from out ++ take (arc_size here) (set here 1 (letter_by new (get_or here 1 0)))
        = take-add from (arc_size here) changed ∙ rw (take-set-le from out (from + 1) byte (omega arith), drop-set-add from out 1 byte, b) in
        record {
          room = l.room;
          same = rw (f, t) (append_assoc (take from out) (take (arc_size here) (set here 1 (letter_by new (get_or here 1 0)))) (relettered_bytes (count - (i + 1)) new (drop (arc_size here) here)) ∙ rw e at l.same);
          ends = rw f (omega (arith, rw e at l.ends));
          size = length-set out (from + 1) byte ∙ l.size;
        }

    -- none is left
    pub arcs-done : count ≤ i → (from ≡ at + whole count (drop at old)) × (out ≡ take at old ++ relettered_bytes count new (drop at old))
    unfolding whole relettered_bytes
    arcs-done h = let e = none_left count i h in (omega (arith, rw e at l.ends), sym (take-append-drop from out) ∙ rw e at l.same)

-- ---- arcs in an output
-- the byte of a letter's new number; the empty move keeps its byte, FF
letter-put : (new : List ℕ) → length new ≤ 64 → (α : Option ℕ) → letter_by new (letter_byte α) ≡ letter_byte (Option.map (letter_by new) α)
letter-put new few none = number-beyond new 255 (omega arith)
letter-put new few (some k) = refl

-- an arc at the front of the bytes: how many it takes, and what is behind it
module _ (a : Arc) (r : List ℕ) where
  arc-size : arc_size (arc_bytes a ++ r) ≡ length (arc_bytes a)
  unfolding arc_bytes
  arc-size = sym (arc-length a)

  arc-behind : drop (arc_size (arc_bytes a ++ r)) (arc_bytes a ++ r) ≡ r
  arc-behind = drop_at (arc_bytes a) r (arc_size (arc_bytes a ++ r)) (sym arc-size)

  -- its bytes with the new number of its letter
  arc-put : (new : List ℕ) → length new ≤ 64
      → take (arc_size (arc_bytes a ++ r)) (set (arc_bytes a ++ r) 1 (letter_by new (get_or (arc_bytes a ++ r) 1 0))) ≡ arc_bytes (relettered_arc new a)
  unfolding arc_bytes
  arc-put new few = rw (letter-put new few a.letter) (take_at (arc_bytes (relettered_arc new a)) r (4 + 2 * length a.ops) (arc-length (relettered_arc new a)))

-- how many bytes arcs take
pub whole-arcs : (l : List Arc) (r : List ℕ) → whole (length l) (arcs_bytes l ++ r) ≡ length (arcs_bytes l)
unfolding whole arcs_bytes
whole-arcs [] r = refl
whole-arcs (a ∷ l) r = rw (append_assoc (arc_bytes a) (arcs_bytes l) r, arc-behind a (arcs_bytes l ++ r), whole-arcs l r, arc-size a (arcs_bytes l ++ r), length-append (arc_bytes a) (arcs_bytes l))

-- arcs with the new numbers of their letters
pub arcs-relettered : (new : List ℕ) → length new ≤ 64 → (l : List Arc) (r : List ℕ) → relettered_bytes (length l) new (arcs_bytes l ++ r) ≡ arcs_bytes (map (relettered_arc new) l) ++ r
unfolding relettered_bytes arcs_bytes
arcs-relettered new few [] r = refl
arcs-relettered new few (a ∷ l) r =
    ap (relettered_bytes (suc (length l)) new) (append_assoc (arc_bytes a) (arcs_bytes l) r)
    ∙ ap₂ (λ (p q : List ℕ). p ++ relettered_bytes (length l) new q) (arc-put a (arcs_bytes l ++ r) new few) (arc-behind a (arcs_bytes l ++ r))
    ∙ ap (λ (q : List ℕ). arc_bytes (relettered_arc new a) ++ q) (arcs-relettered new few l r)
    ∙ sym (append_assoc (arc_bytes (relettered_arc new a)) (arcs_bytes (map (relettered_arc new) l)) r)

-- the arcs that stand behind `front`: they end within the output, where they end, and the output with the new numbers of their letters
pub record ArcsPut (new front : List ℕ) (l : List Arc) (behind : List ℕ) (at m : ℕ) (out : List ℕ) : Type 0 where
  pub room : at + whole m (drop at out) ≤ length out
  pub next : length (front ++ arcs_bytes (map (relettered_arc new) l)) ≡ at + whole m (drop at out)
  pub output : take at out ++ relettered_bytes m new (drop at out) ≡ (front ++ arcs_bytes (map (relettered_arc new) l)) ++ behind

pub arcs-put : (new front : List ℕ) (l : List Arc) (behind : List ℕ) (at m : ℕ) {out : List ℕ} → length new ≤ 64 → length front ≡ at → length l ≡ m → out ≡ front ++ (arcs_bytes l ++ behind)
    → ArcsPut new front l behind at m out
arcs-put new front l behind at m {out} few there many e =
    let f : drop at out ≡ arcs_bytes l ++ behind = ap (drop at) e ∙ drop_at front (arcs_bytes l ++ behind) at there in
    let t : take at out ≡ front = ap (take at) e ∙ take_at front (arcs_bytes l ++ behind) at there in
    let w : whole m (drop at out) ≡ length (arcs_bytes l) = rw (f, ← many) (whole-arcs l behind) in
    let new-arcs = arcs_bytes (map (relettered_arc new) l) in
    let size = length-append (arcs_bytes l) behind in
    record {
      room = omega (arith, ap length e, length-append front (arcs_bytes l ++ behind));
      next = omega (arith, length-append front new-arcs, relettered-length new l);
      output = rw (t, f, ← many, arcs-relettered new few l behind) (sym (append_assoc front new-arcs behind));
    }

-- ---- a file in an output
module _ (x : Automaton) (behind : List ℕ) where
  -- the counts in its header
  pub counts-there : counts_of (bytes_of x ++ behind) ≡ sizes x
  unfolding bytes_of header_bytes
  counts-there =
      let c = sizes x in
      let t : c.states % 256 + 256 * (c.states / 256) ≡ c.states = omega arith in
      let m : c.arcs % 256 + 256 * (c.arcs / 256) ≡ c.arcs = omega arith in
      λ i. record { letters = c.letters; states = t i; registers = c.registers; symbols = c.symbols; arcs = m i }

  -- its parts, one behind the other
  file-parts : bytes_of x ++ behind ≡ header_bytes (sizes x) ++ (x.alphabet ++ (map flag_byte x.finals ++ (arcs_bytes x.arcs ++ behind)))
  unfolding bytes_of
  file-parts = simp append_assoc

-- bytes written over as many others
over-others : (h a b r : List ℕ) {at next : ℕ} {out : List ℕ} → length h ≡ at → length a ≡ length b → Appended at b (h ++ (a ++ r)) out next → out ≡ h ++ (b ++ r)
over-others h a b r {at} p q w =
    let l : length (h ++ a) ≡ at + length b = omega (arith, length-append h a) in
    let t : take at (h ++ (a ++ r)) ≡ h = take_at h (a ++ r) at p in
    let f : drop (at + length b) (h ++ (a ++ r)) ≡ r = ap (drop (at + length b)) (sym (append_assoc h a r)) ∙ drop_at (h ++ a) r (at + length b) l in
    w.output ∙ rw (t, f)

-- ---- room for n letters: as many are listed, and stand in the output
roomy-letters : (n : ℕ) (z : Automaton) → length z.alphabet ≤ n → length (roomy n z).alphabet ≡ n
unfolding roomy
roomy-letters n z h = let free : List ℕ = replicate (n - length z.alphabet) 0 in omega (arith, length-append z.alphabet free, length-replicate {A = ℕ} (n - length z.alphabet) 0)

pub letters-room : (n : ℕ) (z : Automaton) (behind : List ℕ) → length z.alphabet ≤ n → 12 + n ≤ length (bytes_of (roomy n z) ++ behind)
letters-room n z behind h = omega (arith, length-append (bytes_of (roomy n z)) behind, bytes-length (roomy n z), roomy-letters n z h)

-- ---- the letters put in, step by step
-- what is to stand before the arcs of z
module _ (n : ℕ) (all : List ℕ) (z : Automaton) where
  abbrev front : List ℕ
  front = header_bytes (sizes (roomy n z)) ++ (all ++ map flag_byte z.finals)

  -- the arcs begin behind it
  front-size : length all ≡ n → length z.alphabet ≤ n → length front ≡ first_arc (sizes (roomy n z))
  unfolding roomy
  front-size many room =
      let c = sizes (roomy n z) in
      let flags = map flag_byte z.finals in
      omega (arith, length-append (header_bytes c) (all ++ flags), header-length c, length-append all flags, length-map z.finals flag_byte, roomy-letters n z room)

-- the arcs that get the numbers `one`, and the last k, which get `two`
module _ (k : ℕ) (z : Automaton) where
  abbrev earlier : List Arc
  earlier = take (length z.arcs - k) z.arcs

  abbrev later : List Arc
  later = drop (length z.arcs - k) z.arcs

  -- the bytes of all
  both : arcs_bytes z.arcs ≡ arcs_bytes earlier ++ arcs_bytes later
  both = sym (ap arcs_bytes (take-append-drop (length z.arcs - k) z.arcs)) ∙ arcs-append earlier later

-- the first loop, over an output at whose place `at` m arcs begin; and the second
abbrev pub FirstPut : (k n : ℕ) (one all : List ℕ) (z : Automaton) (behind : List ℕ) (at m : ℕ) (out : List ℕ) → Type 0
FirstPut k n one all z behind at m out = ArcsPut one (front n all z) (earlier k z) (arcs_bytes (later k z) ++ behind) at m out

abbrev pub SecondPut : (k n : ℕ) (one two all : List ℕ) (z : Automaton) (behind : List ℕ) (at : ℕ) (out : List ℕ) → Type 0
SecondPut k n one two all z behind at out = ArcsPut two (front n all z ++ arcs_bytes (map (relettered_arc one) (earlier k z))) (later k z) behind at k out

-- `all` has n letters and z no more; z has at least k arcs; and no more than 64 letters get new numbers
pub record Put (k n : ℕ) (one two all : List ℕ) (z : Automaton) : Type 0 where
  pub many : length all ≡ n
  pub few₁ : length one ≤ 64
  pub few₂ : length two ≤ 64
  pub room : length z.alphabet ≤ n
  pub last : k ≤ length z.arcs

module _ {k n : ℕ} {one two all : List ℕ} {z : Automaton} (h : Put k n one two all z) (behind : List ℕ) where
  -- the letters are written
  letters-written : {old out : List ℕ} {next : ℕ} → old ≡ bytes_of (roomy n z) ++ behind → Appended 12 all old out next → out ≡ front n all z ++ (arcs_bytes (earlier k z) ++ (arcs_bytes (later k z) ++ behind))
  unfolding roomy
  letters-written e w =
      let c = sizes (roomy n z) in
      let rest = map flag_byte z.finals ++ (arcs_bytes z.arcs ++ behind) in
      over-others (header_bytes c) (roomy n z).alphabet all rest (header-length c) (roomy-letters n z h.room ∙ sym h.many) (rw (e, file-parts (roomy n z) behind) at w) ∙ rw (both k z) (simp append_assoc)

  -- then the first arcs get new numbers
  pub first-put : {old out : List ℕ} {next at : ℕ} (c : Counts) → old ≡ bytes_of (roomy n z) ++ behind → Appended 12 all old out next → c ≡ sizes (roomy n z) → at ≡ first_arc c
      → FirstPut k n one all z behind at (c.arcs - k) out
  unfolding roomy
  first-put {at = at} c e w f g =
      rw f (arcs-put _ _ _ _ at (length z.arcs - k) h.few₁ (front-size n all z h.many h.room ∙ sym (g ∙ ap first_arc f)) (simp length-take (omega arith)) (letters-written e w))

  -- then the last ones
  pub second-put : {at m middle : ℕ} {before out : List ℕ} → FirstPut k n one all z behind at m before → middle ≡ at + whole m (drop at before) → out ≡ take at before ++ relettered_bytes m one (drop at before)
      → SecondPut k n one two all z behind middle out
  second-put {middle = middle} p e f = arcs-put _ _ _ _ middle k h.few₂ (p.next ∙ sym e) (simp length-drop (omega (arith, h.last))) (f ∙ p.output)

  -- and that is the file with the letters of both
  pub all-put : {at : ℕ} {before out : List ℕ} → SecondPut k n one two all z behind at before → out ≡ take at before ++ relettered_bytes k two (drop at before)
      → out ≡ bytes_of (letters_put k one two all z) ++ behind
  unfolding letters_put
  all-put p f =
      let arcs = arcs-append (map (relettered_arc one) (earlier k z)) (map (relettered_arc two) (later k z)) in
      f ∙ p.output ∙ sym (file-parts (letters_put k one two all z) behind ∙ rw (put-sizes k n one two all z h.many h.room, arcs) (simp append_assoc))

-- ---- the output once a join by the files' own numbers is written
pub standing : (s t : List ℕ) (of_second : Bool) (z : Automaton) (n : ℕ) (old : List ℕ) → length z.alphabet ≤ length (letters_of s t) → last_arcs of_second t ≤ length z.arcs → Ranges (sizes (roomy (length (letters_of s t)) z))
    → Standing s t of_second (output_of (Ok n) (bytes_of (roomy (length (letters_of s t)) z)) old)
standing s t of_second z n old room last ranges = record {
  joined = z;
  behind = drop (length (bytes_of (roomy (length (letters_of s t)) z))) old;
  bytes = refl;
  letters = room;
  arcs = last;
  ranges = ranges;
}
