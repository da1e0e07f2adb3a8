-- UnfoldedLaws: the unfolded automaton accepts exactly the words of the automaton.
use mathlib.Core.Path.{◌∙◌, ◌≡◌, ap, refl, sym}
use mathlib.Core.Logic.{◌↔◌}
use Prim.Native.Nat.{◌≤◌, ℕ}
use lib.ListN.{get_elem?, length}
use mathlib.Core.List.Memᴰ
use mathlib.Core.List.{List, [], ◌∷◌}
use mathlib.Core.Option.{Option, some-injective}
use Rattle.automata.specs.Automaton.{Accepts, Arc, Automaton, Configuration, DoesAll, Produces}
use Rattle.automata.specs.Joins.{arc_from}
use Rattle.automata.specs.Live.{Moves}
use Rattle.automata.specs.Unfolding.{as_arc, configurations, final_set, plain_arcs, read_zero, unfolded}
use Rattle.automata.proofs.RunLaws.{carried}
use Rattle.automata.proofs.UnfoldingLaws.{final_set-at, first-configuration, In-iff, runs_from, runs_to}

module _ (b : Automaton) (L : ℕ) (fits : length (configurations b L) ≤ L) where
  abbrev u : Automaton
  u = unfolded b L

  abbrev Here : ℕ → Configuration → Type 0
  Here j d = d ≡ record { state = j; contents = 0 ∷ [] }

  into : (i j : ℕ) (d : Configuration) (α : Option ℕ) → Here i d → Moves (plain_arcs b L) i α j → (d' : Configuration) × Produces u d α d' × Here j d'
  unfolding unfolded
  into i j d α h m = (
    record { state = j; contents = 0 ∷ [] },
    record {
      arc = arc_from i α j read_zero;
      listed = Memᴰ.map as_arc m;
      leaves = sym (ap (λ (c : Configuration). c.state) h);
      spells = refl;
      enters = refl;
      does = (0 ∷ [], (ap (λ (c : Configuration). c.contents) h, ap (λ (c : Configuration). get_elem? c.contents 0) h), refl);
    },
    refl,
  )

  from : (d d' : Configuration) (i : ℕ) (α : Option ℕ) → Here i d → Produces u d α d' → (j : ℕ) × Moves (plain_arcs b L) i α j × Here j d'
  unfolding unfolded
  from d d' i α h m =
      let p = Memᴰ.of_map as_arc (plain_arcs b L) m.listed in
      let e : as_arc p.0 ≡ m.arc = p.2 in
      let did : DoesAll read_zero d.contents d'.contents = rw (← (ap (λ (y : Arc). y.ops) e)) at m.does in (
        p.0.target,
        Memᴰ.cast (λ t. record { source = (sym (ap (λ (y : Arc). y.source) e ∙ m.leaves ∙ ap (λ (c : Configuration). c.state) h)) t; letter = (sym (ap (λ (y : Arc). y.letter) e ∙ m.spells)) t; target = p.0.target }) p.1,
        λ t. record { state = (sym m.enters ∙ sym (ap (λ (y : Arc). y.target) e)) t; contents = (sym (did.1.0 ∙ did.2) ∙ ap (λ (c : Configuration). c.contents) h) t },
      )

  -- THE LAW of unfolding
  pub unfolded-iff : (w : List ℕ) → Accepts u w ↔ Accepts b w
  unfolding unfolded
  unfolded-iff w = (
    λ t. let r = carried (λ (d : Configuration) (j : ℕ). Here j d) from 0 refl t.run in
        let s = runs_from b L fits (first-configuration b L fits) r.1 in
        let e : t.end.state ≡ r.0 = ap (λ (c : Configuration). c.state) r.2 in
        let f = (final_set-at b (configurations b L) r.0).0 ((In-iff (final_set b (configurations b L)) r.0).1 (rw e at t.final)) in
        let q : s.0 ≡ f.0 = some-injective s.0 f.0 (sym s.1 ∙ f.1) in
        record { end = s.0; run = s.2; final = rw q f.2 },
    λ t. let r = runs_to b L fits 0 (first-configuration b L fits) t.run in
        let s = carried Here into (record { state = 0; contents = 0 ∷ [] }) refl r.2 in
        let e : s.0.state ≡ r.0 = ap (λ (c : Configuration). c.state) s.2 in
        record { end = s.0; run = s.1; final = rw e ((In-iff (final_set b (configurations b L)) r.0).0 ((final_set-at b (configurations b L) r.0).1 (t.end, r.1, t.final))) },
  )
