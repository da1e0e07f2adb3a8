-- Fitting: an operation and an arc within the limits of some counts, and that the arcs of an automaton within the limits are.
use mathlib.Core.Path.{◌≡◌}
use mathlib.Core.Bool.{true}
use mathlib.Core.Option.{some}
use Prim.Native.Nat.{ℕ, ◌≤◌, ◌<◌}
use lib.ListN.{length}
use Rattle.automata.specs.Automaton.{Op, Arc, Automaton, register, symbol, KeepsZero}
use Rattle.automata.specs.Counting.{Apart}
use Rattle.automata.specs.Letters.{keys}
use Rattle.file_fields.specs.declared.Counts.{Counts}
use Rattle.file_fields.specs.Parts.{ascending}
use Rattle.format.specs.Encoding.{sizes}
use Rattle.format.specs.Limits.{Ranges, Fits}
use Rattle.automata.specs.Lists.{Each}
use Rattle.automata.proofs.Laws.{each-mem, mem_each}

pub record OpFits (c : Counts) (o : Op) : Type 0 where
  pub inside : register o < c.registers
  pub small : symbol o < c.symbols
  pub zero_kept : KeepsZero o

pub record ArcFits (c : Counts) (a : Arc) : Type 0 where
  pub source : a.source < c.states
  pub lettered : (l : ℕ) → a.letter ≡ some l → l < c.letters
  pub target : a.target < c.states
  pub some_op : 1 ≤ length a.ops
  pub few_ops : length a.ops ≤ 8
  pub ops : Each (OpFits c) a.ops

module _ (x : Automaton) where
  abbrev c : Counts
  c = sizes x

  pub arcs-fit : Fits x → Each (ArcFits c) x.arcs
  arcs-fit h =
      let w = h.well_formed in
      mem_each x.arcs λ a m. record {
        source = w.sources a m;
        lettered = w.lettered a m;
        target = w.targets a m;
        some_op = h.some_op a m;
        few_ops = h.few_ops a m;
        ops = mem_each a.ops λ o n. record { inside = w.inside a m o n; small = w.small a m o n; zero_kept = w.zero_kept a m o n };
      }

  pub fits_by : Ranges c → ascending x.alphabet ≡ true → Apart (keys x.alphabet) → Each (ArcFits c) x.arcs → Fits x
  fits_by r e apart h = record {
    well_formed = record {
      some_state = r.some_state;
      some_register = r.some_register;
      letters_apart = apart;
      sources = λ a m. (each-mem (ArcFits c) h m).source;
      targets = λ a m. (each-mem (ArcFits c) h m).target;
      lettered = λ a m. (each-mem (ArcFits c) h m).lettered;
      inside = λ a m o n. (each-mem (OpFits c) (each-mem (ArcFits c) h m).ops n).inside;
      small = λ a m o n. (each-mem (OpFits c) (each-mem (ArcFits c) h m).ops n).small;
      zero_kept = λ a m o n. (each-mem (OpFits c) (each-mem (ArcFits c) h m).ops n).zero_kept;
    };
    ranges = r;
    ascends = e;
    some_op = λ a m. (each-mem (ArcFits c) h m).some_op;
    few_ops = λ a m. (each-mem (ArcFits c) h m).few_ops;
  }
