-- What is held of all components of a run after a cycle is the next state, as far as the circuit goes.
use Rattle.std.proofs.Common.{◌≡◌, ℕ, ◌+◌, ◌<◌, ◌≤◌, ◌==◌, min, ◌++◌, false, true, List, [], ◌∷◌, map, length, take, get_or, Some, sym, ap, ap₂, ◌∙◌, subst, arith, Contains}
use Rattle.std.proofs.lemmas.Bool.{eqb-true}
use Rattle.bit_words.specs.declared.value.Value.{Value}
use Rattle.bit_words.specs.Values.{integer_of}
use Rattle.fir_types.specs.declared.fir_type.FirType.{FirType}
use Rattle.fir_types.specs.declared.leaf.TypeLeaf.{TypeLeaf}
use Rattle.fir_types.specs.declared.leaf.PathStep.{PathStep}
use Rattle.fir_types.specs.declared.leaf.PathStep.TheVariants as step
use Rattle.fir_types.specs.declared.memory.Memory.{Memory}
use Rattle.fir_types.specs.Leaves.{leaves}
use Rattle.fir_types.specs.Memories.{depth_of, under_of}
use Rattle.fir_meaning.specs.Components.{Design, TypedModule, Component, A_memory, module_at, component_named}
use Rattle.fir_meaning.specs.Values.{Valuation, scene_of}
use Rattle.fir_meaning.specs.Drives.{same_way}
use Rattle.fir_meaning.specs.Elements.{IsElement}
use Rattle.fir_meaning.specs.States.{State, SameState, Stands, is_register, next, next_of_register, next_of_memory, next_of_port, taken, located, where_located}
use Rattle.fir_names.proofs.Graphs.{some_same}
use Rattle.drive_check.proofs.KeyTests.{way_equal}
use Rattle.plain_values.specs.declared.site.Site.{Site}
use Rattle.plain_values.specs.Sites.{same_path, is_at, integer_or_zero, valuation_of}
use Rattle.plain_values.specs.Contents.{contents_of, stored_leaves}
use Rattle.plain_cycle.specs.declared.declarations.Declaration.{Declaration}
use Rattle.plain_cycle.specs.Layouts.{Located, IsLocated, site_of, AreAll, IsLayout}
use Rattle.plain_cycle.proofs.Seeing.{and_parts, path_equal, located_is}
use Rattle.plain_cycle.specs.declared.run.Part.{Part}
use Rattle.plain_cycle.specs.declared.run.Held.{Held}
use Rattle.plain_cycle.specs.Firsts.{first_beside, integer_beside_it}
use Rattle.plain_cycle.specs.Runs.{IsPart, held_elements, contents_on, shows, held_reads, captured_on, state_of}
use Rattle.plain_cycle.proofs.Parts.{part_there, so_many_sites, so_many_declared}
use Rattle.plain_cycle.specs.Edges.{Beside, IsReadFrom, next_in_leaf, AreNextIn, AreWritten, AreRead, leaves_in, before_writes, written_in}
use Rattle.plain_cycle.proofs.Besides.{first_met, met_itself, beside_more, beside_all}
use Rattle.plain_cycle.proofs.Steps.{way_itself, at_itself, shows_itself, shown_there, in_first, value_first, leaf_first}

-- what stands beside a component, the first of its name at its path
pub record Own {B : Type 0} (all : List Located) (P : Located → B → Type 0) (items : List B) (x : Located) : Type 0 where
  pub item : B
  pub first : first_beside (is_at x.path x.c.declaration.name) (map site_of all) items ≡ Some (site_of x, item)
  pub beside : P x item

abbrev at_path : List ℕ → TypedModule × Component → Located
at_path path found = record { path = path; m = found.0; c = found.1 }

module _ (design : Design) (all : List Located) (are : AreAll design all) where
  same_component : (y x : Located) → IsLocated design y → IsLocated design x → is_at x.path x.c.declaration.name (site_of y) ≡ true → y ≡ x
  same_component y x is own met =
      let parts = and_parts (y.c.declaration.name == x.c.declaration.name) (same_path y.path x.path) met in
      let there : y.path ≡ x.path = path_equal y.path x.path parts.1 in
      let named : y.c.declaration.name ≡ x.c.declaration.name = eqb-true y.c.declaration.name x.c.declaration.name parts.0 in
      let found : located design x.path x.c.declaration.name ≡ Some (y.m, y.c) = ap₂ (located design) (sym there) (sym named) ∙ located_is design y is in
      ap₂ at_path there (some_same (sym found ∙ located_is design x own))

  own_there : {B : Type 0} (P : Located → B → Type 0) (items : List B) → Beside P all items → (x : Located) → IsLocated design x → Own all P items x
  own_there P items b x is =
      let found = first_met site_of (is_at x.path x.c.declaration.name) P all items x b (are.every x is) (at_itself (site_of x)) in
      let same : found.item ≡ x = same_component found.item x (are.each found.item found.among) is found.met in
      record {
        item = found.other;
        first = found.first ∙ ap (λ y. Some (site_of y, found.other)) same;
        beside = subst (λ y. P y found.other) same found.beside;
      }

-- What is held of these components.
pub record AreHeld (s : State) (rho : Valuation) (xs : List Located) (values : List (List Value)) (elements : List (List (List Value))) (read : List (List Value)) : Type 0 where
  pub registers : Beside (AreNextIn s rho) xs values
  pub contents : Beside (AreWritten s rho) xs elements
  pub captured : Beside (AreRead s rho) xs read

module _ (design : Design) (sites : List Site) (declared : List Declaration) (layout : IsLayout design sites declared) (s : State) (rho : Valuation) where
  -- one component more
  pub held_more : {part : Part} (k : ℕ) (registers registers' : List (List Value)) (contents contents' : List (List (List Value))) (captured captured' : List (List Value))
      (values : List Value) (elements : List (List Value)) (read : List Value) → k < length sites → part.site.now ≡ get_or sites k part.site.now → part.declaration ≡ get_or declared k part.declaration
      → registers' ≡ registers ++ values ∷ [] → contents' ≡ contents ++ elements ∷ [] → captured' ≡ captured ++ read ∷ []
      → ((x : Located) → IsPart design x part → AreNextIn s rho x values) → ((x : Located) → IsPart design x part → AreWritten s rho x elements) → ((x : Located) → IsPart design x part → AreRead s rho x read)
      → AreHeld s rho (take k layout.all) registers contents captured → AreHeld s rho (take (k + 1) layout.all) registers' contents' captured'
  held_more {part = part} k registers registers' contents contents' captured captured' values elements read h site declaration p q r a b c old =
      let y = part_there design sites declared layout k part h site declaration in
      record {
        registers = beside_more (AreNextIn s rho) layout.all k y.0 registers registers' values y.1.below y.1.at p (a y.0 y.1.is) old.registers;
        contents = beside_more (AreWritten s rho) layout.all k y.0 contents contents' elements y.1.below y.1.at q (b y.0 y.1.is) old.contents;
        captured = beside_more (AreRead s rho) layout.all k y.0 captured captured' read y.1.below y.1.at r (c y.0 y.1.is) old.captured;
      }

  -- all of them
  pub held_all : (k : ℕ) (registers : List (List Value)) (contents : List (List (List Value))) (captured : List (List Value)) → min (length sites) (length declared) ≤ k
      → AreHeld s rho (take k layout.all) registers contents captured → AreHeld s rho layout.all registers contents captured
  held_all k registers contents captured past b =
      let beyond : length layout.all ≤ k = omega (arith, past, so_many_sites design sites declared layout, so_many_declared design sites declared layout) in
      record {
        registers = beside_all (AreNextIn s rho) layout.all k registers beyond b.registers;
        contents = beside_all (AreWritten s rho) layout.all k contents beyond b.contents;
        captured = beside_all (AreRead s rho) layout.all k captured beyond b.captured;
      }

  module _ (after : Held) (are : AreHeld s rho layout.all after.registers after.contents after.captured) where
    abbrev here : List ℕ → TypedModule → Component → Located
    here path m c = record { path = path; m = m; c = c }

    located_here : (path : List ℕ) (m : TypedModule) (c : Component) (leaf : TypeLeaf) → Stands design path m c leaf → IsLocated design (here path m c)
    located_here path m c leaf stands = record { reached = stands.reached; declared = stands.declared }

    next_registers : (path : List ℕ) (m : TypedModule) (c : Component) (leaf : TypeLeaf) → Stands design path m c leaf → is_register c.declaration.sort ≡ true
        → valuation_of sites after.registers path c.declaration.name leaf.path ≡ (next design s rho).registers path c.declaration.name leaf.path
    next_registers path m c leaf stands register =
        let x : Located = here path m c in
        let name : ℕ = c.declaration.name in
        let its = own_there design layout.all layout.are (AreNextIn s rho) after.registers are.registers x (located_here path m c leaf stands) in
        let found = first_met (λ (l : TypeLeaf). l) (λ (l : TypeLeaf). same_way l.path leaf.path) (λ (l : TypeLeaf) (v : Value). integer_of v ≡ next_in_leaf s rho x l) (leaves c.typ) its.item leaf (its.beside register) stands.listed (way_itself leaf.path) in
        ap (λ l. valuation_of l after.registers path name leaf.path) layout.lists.sites
        ∙ (ap integer_or_zero (value_first (map site_of layout.all) after.registers path name leaf.path ∙ ap (in_first leaf.path) its.first)
        ∙ (leaf_first leaf.path (leaves c.typ) its.item
        ∙ (ap integer_beside_it (met_itself (λ (l : TypeLeaf). same_way l.path leaf.path) (λ (l : TypeLeaf) (v : Value). integer_of v ≡ next_in_leaf s rho x l) (leaves c.typ) its.item found)
        ∙ (found.beside
        ∙ (ap (λ (way : List PathStep). next_of_register (scene_of m path rho) c c.declaration.sort way (s.registers path name way)) (way_equal found.item.path leaf.path found.met)
        ∙ sym (ap (where_located (s.registers path name leaf.path) (λ (f : TypedModule × Component). next_of_register (scene_of f.0 path rho) f.1 f.1.declaration.sort leaf.path (s.registers path name leaf.path)))
        (located_is design x (located_here path m c leaf stands))))))))

    next_contents : (path : List ℕ) (m : TypedModule) (c : Component) (memory : Memory) (typ : FirType) (leaf : TypeLeaf) (element : ℕ) → module_at design path ≡ Some m
        → component_named m c.declaration.name ≡ Some c → c.declaration.sort ≡ A_memory memory → IsElement c memory typ → Contains (leaves typ) leaf → element < depth_of memory
        → contents_on sites after.contents path c.declaration.name element leaf.path ≡ (next design s rho).contents path c.declaration.name element leaf.path
    next_contents path m c memory typ leaf element reached declared so of inside below =
        let x : Located = here path m c in
        let at : IsLocated design x = record { reached = reached; declared = declared } in
        let way : List PathStep = leaf.path in
        let name : ℕ = c.declaration.name in
        let its = own_there design layout.all layout.are (AreWritten s rho) after.contents are.contents x at in
        ap (λ l. contents_on l after.contents path name element way) layout.lists.sites
        ∙ (ap (λ o. held_elements o element way) its.first
        ∙ (its.beside memory typ so of element leaf inside
        ∙ (sym (ap (λ k. next_of_memory (scene_of m path rho) c k (s.contents path name) element way) so)
        ∙ sym (ap (λ o. where_located (s.contents path name) (λ (f : TypedModule × Component). next_of_memory (scene_of f.0 path rho) f.1 f.1.declaration.sort (s.contents path name)) o element way)
        (located_is design x at)))))

    next_captured : (path : List ℕ) (m : TypedModule) (c : Component) (leaf : TypeLeaf) (memory : Memory) (port field : ℕ) (way : List PathStep)
        → Stands design path m c leaf → c.declaration.sort ≡ A_memory memory → leaf.flip ≡ false → leaf.path ≡ step.Field port ∷ step.Field field ∷ way
        → captured_on sites after.captured path c.declaration.name port way ≡ (next design s rho).captured path c.declaration.name port way
    next_captured path m c leaf memory port field way stands so turned is =
        let x : Located = here path m c in
        let name : ℕ = c.declaration.name in
        let its = own_there design layout.all layout.are (AreRead s rho) after.captured are.captured x (located_here path m c leaf stands) in
        let rule = IsReadFrom memory (leaves_in s rho x) (taken (under_of memory) (before_writes s rho x) (written_in s rho memory x)) in
        let found = first_met (λ (l : TypeLeaf). l) (shows port way) rule (leaves c.typ) its.item leaf (its.beside memory so) stands.listed (shows_itself leaf port field way turned is) in
        let what = shown_there found.item port way found.met in
        ap (λ l. captured_on l after.captured path name port way) layout.lists.sites
        ∙ (ap (held_reads port way) its.first
        ∙ (ap integer_beside_it (met_itself (shows port way) rule (leaves c.typ) its.item found)
        ∙ (found.beside port way what.0 what.1
        ∙ (sym (ap (λ k. next_of_port (scene_of m path rho) c k (s.contents path name) port way) so)
        ∙ sym (ap (λ o. where_located (s.captured path name) (λ (f : TypedModule × Component). next_of_port (scene_of f.0 path rho) f.1 f.1.declaration.sort (s.contents path name)) o port way)
        (located_is design x (located_here path m c leaf stands)))))))

    pub same_next : SameState design (state_of sites after) (next design s rho)
    same_next = record {
      registers = next_registers;
      contents = next_contents;
      captured = λ path m c leaf memory port field way stands so later turned is. next_captured path m c leaf memory port field way stands so turned is;
    }
