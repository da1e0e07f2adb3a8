-- Opening: what opening a file answers in each case; what a call answers by it; and what an open file's block holds.
use mathlib.Core.Path.{◌∙◌, ◌≡◌, ap, refl, sym}
use mathlib.Core.Bool.{Bool, cond, false, true}
use mathlib.Core.List.{List, [], ◌++◌, ◌∷◌}
use Prim.Native.Nat.{◌<◌, ◌≤◌, ℕ}
use native.Mathlib.Omega.{arith}
use borrow.Author.Tests.{le-ltb, lt-ltb}
use lib.ListN.{length}
use Rattle.automata.specs.Unfolding.{configurations, plain_arcs}
use Rattle.file_fields.specs.Parts.{counts_of, fault}
use Rattle.file_fields.specs.declared.Counts.{Counts}
use Rattle.file_fields.specs.declared.Automaton.{Automaton as Blamed}
use Rattle.file_fields.specs.declared.Automaton.TheVariants.{First}
use Rattle.file_fields.specs.declared.Fault.{Fault}
use Rattle.file_fields.specs.declared.Reason.{Reason}
use Rattle.file_fields.specs.declared.Reason.TheVariants.{TooLittleMemoryLent, TooManyConfigurations}
use Rattle.file_fields.specs.declared.Refusal.{Refusal}
use Rattle.format.specs.Decoding.{automaton_of}
use Rattle.format.specs.Reading.{reading_of}
use Rattle.format.specs.Refusals.{Refusals, fault_of, refused as refusal, told_number, told_reason, unless_refused}
use Rattle.file_laws.proofs.Laws.{file-seen, has-fault, valid-lies, valid-ranges, valid-sizes}
use Rattle.word_layout.specs.Layout.{block_end, first_block}
use Rattle.word_layout.specs.declared.Block.{Block}
use Rattle.table_operations.specs.Arcs.{Walkable}
use Rattle.std.specs.Prelude.{Err, None, Ok, Option, Result, Some}
use Rattle.table_explore.specs.Explores.{explored_of}
use Rattle.table.specs.Opening.{Holds, block_of, open_refusals, opened_as, opened_of}
use Rattle.table.specs.declared.Opened.{Opened}
use Rattle.table.proofs.BuildBlock.{explored-few, explored-many}

-- ---- the answer of opening
module _ (file : List ℕ) (words : ℕ) where
  pub opened-short : words < 8192 → refusal TooLittleMemoryLent None ≡ opened_of file words
  unfolding opened_of
  opened-short h = rw (lt-ltb words 8192 h)

  module _ (enough : 8192 ≤ words) where
    pub opened-fault : {r : Reason} {place : ℕ} → fault r place ≡ reading_of file → refusal r (Some First) ≡ opened_of file words
    unfolding opened_of
    opened-fault {r} e = ap (λ (a : Result Counts Fault). refusal (told_reason a) (Some First)) e ∙ rw (le-ltb words 8192 enough, lt-ltb 0 (fault_of file) (has-fault file r (sym e)))

    module _ {c : Counts} (valid : reading_of file ≡ Ok c) where
      none : fault_of file ≤ 0
      none = omega (arith, ap told_number valid)

      -- what the last test decides
      abbrev last : Bool → Result Opened Refusal
      last t = cond t (refusal TooManyConfigurations (Some First)) (opened_as (counts_of file) (block_of 256 file))

      -- exploring found more than 256 configurations, or not
      pub opened-beyond : None ≡ explored_of (automaton_of file) 256 → refusal TooManyConfigurations (Some First) ≡ opened_of file words
      unfolding opened_of
      opened-beyond t = rw (le-ltb words 8192 enough, le-ltb 0 (fault_of file) none) (sym (ap last (lt-ltb 256 (length (configurations (automaton_of file) 256)) (explored-many (automaton_of file) 256 t))))

      pub opened-open : (count plain : ℕ) → Some (record { count = count; plain = plain }) ≡ explored_of (automaton_of file) 256 → opened_as c (record { base = first_block; count = count; plain = plain }) ≡ opened_of file words
      unfolding opened_of
      opened-open count plain t =
          let f = explored-few (automaton_of file) 256 count plain t in
          let d = sym (file-seen file c valid).counts in
          let e : opened_as c (record { base = first_block; count = count; plain = plain }) ≡ opened_as (counts_of file) (block_of 256 file) = λ i. opened_as (d i) (record { base = first_block; count = f.1 i; plain = f.2 i }) in
          e ∙ rw (le-ltb words 8192 enough, le-ltb 0 (fault_of file) none) (sym (ap last (le-ltb 256 (length (configurations (automaton_of file) 256)) f.0)))

  -- ---- a call's answer, by what opening answers: its refusal, or what the tests that are left say
  module _ {A : Type 0} (refused : Reason → Option Blamed → A) (left : Refusals) (answer : A) where
    abbrev by_opened : Result Opened Refusal → A
    by_opened (Ok o) = unless_refused refused left answer
    by_opened (Err r) = refused r.reason r.automaton

    open-decides : unless_refused refused (open_refusals 256 file words ++ left) answer ≡ by_opened (opened_of file words)
    unfolding opened_of
    open-decides = all (open_refusals 256 file words)
      where
        all : (l : Refusals) → unless_refused refused (l ++ left) answer ≡ by_opened (unless_refused refusal l (opened_as (counts_of file) (block_of 256 file)))
        all [] = refl
        all (k ∷ l) = go k.0 (all l)
          where
            go : (b : Bool) → unless_refused refused (l ++ left) answer ≡ by_opened (unless_refused refusal l (opened_as (counts_of file) (block_of 256 file)))
                → cond b (refused k.1 k.2) (unless_refused refused (l ++ left) answer) ≡ by_opened (cond b (refusal k.1 k.2) (unless_refused refusal l (opened_as (counts_of file) (block_of 256 file))))
            go true later = refl
            go false later = later

    pub opened-refused : {r : Refusal} → opened_of file words ≡ Err r → unless_refused refused (open_refusals 256 file words ++ left) answer ≡ refused r.reason r.automaton
    opened-refused e = open-decides ∙ ap by_opened e

    pub opened-passed : {o : Opened} → opened_of file words ≡ Ok o → unless_refused refused (open_refusals 256 file words ++ left) answer ≡ unless_refused refused left answer
    opened-passed e = open-decides ∙ ap by_opened e

-- ---- the block of an open file
module _ {file : List ℕ} {c : Counts} {w : List ℕ} {block : Block} (h : Holds file c w block) where
  -- x has as many configurations, at most 256, and plain arcs as the block says
  pub holds-few : length (configurations (automaton_of file) 256) ≤ 256
  holds-few = (explored-few (automaton_of file) 256 block.count block.plain h.explored.answer).0

  pub holds-count : block.count ≡ length (configurations (automaton_of file) 256)
  holds-count = (explored-few (automaton_of file) 256 block.count block.plain h.explored.answer).1

  pub holds_plain : block.plain ≡ length (plain_arcs (automaton_of file) 256)
  holds_plain = (explored-few (automaton_of file) 256 block.count block.plain h.explored.answer).2

  -- so it is the block that opening answers
  pub holds-block : opened_as c block ≡ opened_as c (block_of 256 file)
  holds-block = λ i. opened_as c (record { base = h.first i; count = holds-count i; plain = holds_plain i })

  pub holds-valid : reading_of file ≡ Ok c
  holds-valid = h.valid

  -- it stands in the words
  pub holds-room : block_end block.base ≤ length w
  holds-room = h.placed.block

-- the registers of a valid file's automaton are those of its counts
pub registers-are : (file : List ℕ) (c : Counts) → reading_of file ≡ Ok c → (automaton_of file).registers ≡ c.registers
registers-are file c valid = ap (λ (d : Counts). d.registers) (valid-sizes file c valid)

-- and its arcs can be walked
pub valid-walkable : (file : List ℕ) (c : Counts) → reading_of file ≡ Ok c → Walkable c file
valid-walkable file c e = let r = valid-ranges file c e in record { letters = r.letters; states = r.states; lies = valid-lies file c e }
