-- What registers hold next, as their module sees it.
use Rattle.std.proofs.Common.{◌≡◌, ℕ, true, List, ℤ, Option, Some, None, refl, sym, ap, ap₂, ◌∙◌}
use Rattle.bit_words.specs.declared.value.Value.{Value}
use Rattle.fir_types.specs.declared.leaf.PathStep.{PathStep}
use Rattle.fir_tree.specs.declared.expr.Expr.{Expr}
use Rattle.fir_meaning.specs.Components.{Sort}
use Rattle.fir_meaning.specs.Values.{Valuation, Scene, scene_of}
use Rattle.fir_meaning.specs.WellTyped.{Known}
use Rattle.fir_meaning.specs.States.{State, next_of_register}
use Rattle.plain_values.specs.Sites.{valuation_of, known_at}
use Rattle.plain_values.specs.declared.register.Reset.{Reset}
use Rattle.plain_values.specs.declared.register.Register.{Register}
use Rattle.plain_values.specs.Registers.{is_typed_reset, sort_by_reset, sort_of}
use Rattle.settling_laws.specs.Typed.{is_typed_sort}
use Rattle.plain_cycle.specs.Layouts.{Located}
use Rattle.plain_cycle.specs.declared.run.Run.{Run}
use Rattle.plain_cycle.specs.declared.run.Part.{Part}
use Rattle.plain_cycle.specs.Runs.{IsRun, IsPart, design_in}
use Rattle.plain_cycle.proofs.Views.{path_is, name_is, sort_is, sort_typed}
use Rattle.plain_cycle.specs.Edges.{IsRegisterOf}

typed_reset : (known : Known) (clock : Expr) (reset : Option Reset) → is_typed_sort known (sort_by_reset clock reset) ≡ true → is_typed_reset known reset ≡ true
typed_reset known clock None e = refl
typed_reset known clock (Some reset) e = e

module _ (run : Run) (ok : IsRun run) (x : Located) (part : Part) (is : IsPart (design_in run) x part) where
  -- a reset is well typed
  pub reset_typed : (path : List ℕ) → path ≡ part.site.now.path → (register : Register) → IsRegisterOf part.declaration register → is_typed_reset (known_at run.sites.now path) register.reset ≡ true
  reset_typed path same register r =
      typed_reset (known_at run.sites.now path) r.clock register.reset (sym (ap (is_typed_sort (known_at run.sites.now path)) r.sort) ∙ sort_typed run ok x part is path same)

  -- what a register holds in the cycle
  pub held_there : (registers all : List (List Value)) (path : List ℕ) (way own : List PathStep) → registers ≡ all → path ≡ part.site.now.path → way ≡ own
      → valuation_of run.sites.now registers path part.site.now.name way ≡ valuation_of run.sites.now all x.path x.c.declaration.name own
  held_there registers all path way own q p w =
      ap₂ (λ vs i. valuation_of run.sites.now vs i part.site.now.name way) q (p ∙ path_is (design_in run) x part is)
      ∙ ap₂ (λ n v. valuation_of run.sites.now all x.path n v) (name_is (design_in run) x part is) w

  -- and what it holds next
  pub next_there : (s : State) (rho : Valuation) (register : Register) (r : IsRegisterOf part.declaration register) (here : Scene) (way own : List PathStep) (held : ℤ) → here ≡ scene_of x.m x.path rho → way ≡ own
      → held ≡ s.registers x.path x.c.declaration.name own
      → next_of_register here x.c (sort_of r.clock register) way held ≡ next_of_register (scene_of x.m x.path rho) x.c x.c.declaration.sort own (s.registers x.path x.c.declaration.name own)
  next_there s rho register r here way own held scene w h =
      ap₂ (λ (q : Scene) (o : Sort). next_of_register q x.c o way held) scene (sym r.sort ∙ sort_is (design_in run) x part is)
      ∙ ap₂ (λ (v : List PathStep) (n : ℤ). next_of_register (scene_of x.m x.path rho) x.c x.c.declaration.sort v n) w h
