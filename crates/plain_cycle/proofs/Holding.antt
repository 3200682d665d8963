-- What memories hold and show.
use Rattle.std.proofs.Common.{◌≡◌, ℕ, Bool, true, false, List, [], ◌∷◌, find, pos, Some, None, if◌then◌else◌, cond, refl, sym, ap, ap₂, ◌∙◌, Bor, option_map}
use Rattle.std.proofs.lemmas.Bool.{eqb-true}
use Rattle.bit_words.specs.declared.value.Value.{Value}
use Rattle.place_text.specs.declared.place.Place.{Place}
use Rattle.fir_types.specs.declared.leaf.TypeLeaf.{TypeLeaf}
use Rattle.fir_types.specs.declared.leaf.PathStep.{PathStep}
use Rattle.fir_types.specs.declared.memory.MemLine.{MemLine}
use Rattle.fir_types.specs.declared.memory.MemLine.TheVariants as line
use Rattle.fir_types.specs.Memories.{read_latency_in}
use Rattle.fir_types.specs.declared.memory.Memory.{Memory}
use Rattle.fir_meaning.specs.Components as tree
use Rattle.fir_meaning.specs.Components.{Design, TypedModule, Component}
use Rattle.fir_meaning.specs.Values.{Valuation, Scene, scene_of}
use Rattle.fir_meaning.specs.MemoryPorts.{Contents, read_by}
use Rattle.fir_meaning.proofs.Tracking.{none_some}
use Rattle.fir_names.proofs.Graphs.{some_same}
use Rattle.plain_values.specs.declared.site.Site.{Site}
use Rattle.plain_values.specs.Sites.{is_at, site_at}
use Rattle.plain_values.specs.Contents.{contents_of, stored_leaves}
use Rattle.plain_cycle.specs.declared.declarations.Sort.{Sort}
use Rattle.plain_cycle.specs.declared.declarations.Sort.TheVariants as sort
use Rattle.plain_cycle.specs.Held.{held_sort}
use Rattle.plain_cycle.specs.Parts.{bare}
use Rattle.settling_laws.specs.Typed.{is_named}
use Rattle.plain_cycle.specs.Layouts.{Located, site_with}
use Rattle.plain_cycle.proofs.Seeing.{found_at, located_is}
use Rattle.plain_cycle.specs.declared.run.Run.{Run}
use Rattle.plain_cycle.specs.declared.run.Part.{Part}
use Rattle.plain_cycle.specs.Firsts.{first_beside}
use Rattle.plain_cycle.specs.Runs.{IsRun, IsPart, design_in, held_elements, contents_on, captured_on}
use Rattle.plain_cycle.proofs.Views.{path_is, name_is, sort_is, named_there}

pub not_latency : (l : MemLine) → ((at : Place) (n : ℕ) → l ≡ line.ReadLatency at n → ⊥) → read_latency_in l ≡ None
not_latency (line.ReadLatency at n) h = absurd (h at n refl)
not_latency (line.Element at t) h = refl
not_latency (line.Depth at n) h = refl
not_latency (line.WriteLatency at n) h = refl
not_latency (line.ReadUnder at u) h = refl
not_latency (line.MemPort at m n) h = refl

-- the item that is found is the first one
found_first : {A B : Type 0} (test : A → Bool) (xs : List A) (ys : List B) (x : A) (y : B) → first_beside test xs ys ≡ Some (x, y) → find test xs ≡ Some x
found_first test [] ys x y e = absurd (none_some e)
found_first test (a ∷ xs) [] x y e = absurd (none_some e)
found_first test (a ∷ xs) (b ∷ ys) x y e = by (test a) e (found_first test xs ys x y)
  where
    by : (t : Bool) → (if t then Some (a, b) else first_beside test xs ys) ≡ Some (x, y) → (first_beside test xs ys ≡ Some (x, y) → find test xs ≡ Some x) → cond t (Some a) (find test xs) ≡ Some x
    by true f later = ap (λ p. Some p.0) (some_same f)
    by false f later = later f

pub elements_here : (sites : List Site) (contents : List (List (List Value))) (path : List ℕ) (name : ℕ) (site x : Site) (elements items : List (List Value)) → site_at sites path name ≡ Some site
    → first_beside (is_at path name) sites contents ≡ Some (x, elements) → items ≡ elements → contents_on sites contents path name ≡ contents_of (stored_leaves site.leaves) items
elements_here sites contents path name site x elements items at first is =
    let same : x ≡ site = some_same (sym (found_first (is_at path name) sites contents x elements first) ∙ at) in
    ap held_elements first ∙ ap₂ (λ (s : Site) (es : List (List Value)). contents_of (stored_leaves s.leaves) es) same (sym is)

pub elements_past : (sites : List Site) (contents : List (List (List Value))) (path : List ℕ) (name : ℕ) (site : Site) → first_beside (is_at path name) sites contents ≡ None
    → ((leaves : List TypeLeaf) (element : ℕ) (way : List PathStep) → contents_of leaves [] element way ≡ pos 0) → contents_on sites contents path name ≡ contents_of (stored_leaves site.leaves) []
elements_past sites contents path name site none nothing =
    ap held_elements none ∙ (λ i element way. sym (nothing (stored_leaves site.leaves) element way) i)

-- the component of a name, among sites
pub site_there : (run : Run) → IsRun run → (x : Located) (part : Part) → IsPart (design_in run) x part → site_at run.sites.now part.site.now.path part.site.now.name ≡ Some part.site.now
site_there run ok x part is =
    let design = design_in run in
    ap₂ (site_at run.sites.now) (path_is design x part is) (name_is design x part is)
    ∙ (ap (λ l. site_at l x.path x.c.declaration.name) ok.layout.lists.sites
    ∙ (found_at design ok.layout.all ok.layout.are x.path x.c.declaration.name
    ∙ (ap (option_map (λ (found : TypedModule × Component). site_with x.path (bare found.1))) (located_is design x is.located) ∙ ap Some (sym is.site))))

-- what it holds
pub contents_there : (run : Run) → IsRun run → (x : Located) (part : Part) → IsPart (design_in run) x part → (all held : List (List (List Value))) (path : List ℕ) (elements : List (List Value)) → path ≡ part.site.now.path → held ≡ all
    → ((site : Site) → site_at run.sites.now path part.site.now.name ≡ Some site → contents_on run.sites.now held path part.site.now.name ≡ contents_of (stored_leaves site.leaves) elements)
    → contents_on run.sites.now all x.path x.c.declaration.name ≡ contents_of (stored_leaves part.site.now.leaves) elements
contents_there run ok x part is all held path elements p q found =
    let design = design_in run in
    ap₂ (contents_on run.sites.now all) (sym (p ∙ path_is design x part is)) (sym (name_is design x part is))
    ∙ (ap (λ l. contents_on run.sites.now l path part.site.now.name) (sym q) ∙ found part.site.now (ap (λ i. site_at run.sites.now i part.site.now.name) p ∙ site_there run ok x part is))

-- what its ports have read
pub captured_there : (design : Design) (x : Located) (part : Part) → IsPart design x part → (sites : List Site) (all held : List (List Value)) (path : List ℕ) (port : ℕ) (way : List PathStep) → path ≡ part.site.now.path → held ≡ all
    → captured_on sites held path part.site.now.name port way ≡ captured_on sites all x.path x.c.declaration.name port way
captured_there design x part is sites all held path port way p q =
    ap₂ (λ h i. captured_on sites h i part.site.now.name port way) q (p ∙ path_is design x part is) ∙ ap (λ n. captured_on sites all x.path n port way) (name_is design x part is)

-- memories

same_memory : (a b : Memory) → tree.A_memory a ≡ tree.A_memory b → a ≡ b
same_memory a b e = cc

memory_named : (memory : Memory) (name : ℕ) (so : tree.Sort) → so ≡ tree.A_memory memory → is_named name so ≡ true → memory.name.id ≡ name
memory_named memory name so e h = eqb-true memory.name.id name (sym (ap (is_named name) e) ∙ h)

-- what a declaration of a memory makes is a memory
pub held_memory : (t : Sort) (memory : Memory) → held_sort t ≡ tree.A_memory memory → ((m : Bor Memory) → t ≡ sort.Memory m → ⊥) → ⊥
held_memory sort.Input memory e h = cc
held_memory sort.Output memory e h = cc
held_memory sort.Wire memory e h = cc
held_memory (sort.Register clock) memory e h = cc
held_memory (sort.ResetRegister clock reset init) memory e h = cc
held_memory (sort.Memory m) memory e h = h m refl
held_memory (sort.Instance target) memory e h = cc
held_memory (sort.Node expr) memory e h = cc

module _ (run : Run) (ok : IsRun run) (x : Located) (part : Part) (is : IsPart (design_in run) x part) (m : Bor Memory) (so : part.declaration.sort ≡ sort.Memory m) (memory : Memory) (e : x.c.declaration.sort ≡ tree.A_memory memory) where
  pub memory_is : m.now ≡ memory
  memory_is = same_memory m.now memory (sym (ap held_sort so) ∙ (sort_is (design_in run) x part is ∙ e))

  pub read_is : (rho : Valuation) (here : Scene) (stored : List TypeLeaf) (elements : List (List Value)) (contents : Contents) (port : ℕ) (way : List PathStep) → here ≡ scene_of x.m x.path rho
      → contents ≡ contents_of (stored_leaves part.site.now.leaves) elements → stored ≡ stored_leaves part.site.now.leaves
      → read_by m.now (here.integers m.now.name.id) (contents_of stored elements) port way ≡ read_by memory ((scene_of x.m x.path rho).integers x.c.declaration.name) contents port way
  read_is rho here stored elements contents port way scene held leaves =
      ap (λ l. read_by m.now (here.integers m.now.name.id) (contents_of l elements) port way) leaves
      ∙ (ap₂ (λ (s : Scene) (k : Contents). read_by m.now (s.integers m.now.name.id) k port way) scene (sym held)
      ∙ (ap (λ (n : Memory). read_by n ((scene_of x.m x.path rho).integers n.name.id) contents port way) memory_is
      ∙ ap (λ n. read_by memory ((scene_of x.m x.path rho).integers n) contents port way) (memory_named memory x.c.declaration.name x.c.declaration.sort e (named_there run ok x part is part.site.now.path refl))))
