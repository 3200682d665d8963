-- What memories hold after the writes of a cycle, and what their ports have read.
use Rattle.std.proofs.Common.{◌≡◌, ◌≢◌, ℕ, false, List, [], ◌∷◌, fold, filter_map, pos, None, refl, sym, ap, ap₂, ◌∙◌, subst, Bor, arith}
use Rattle.std.specs.Prelude.{Contains}
use Rattle.std.proofs.lemmas.Bool.{eqb-true}
use Rattle.bit_words.specs.declared.value.Value.{Value}
use Rattle.place_text.specs.declared.place.Place.{Place}
use Rattle.fir_types.specs.declared.fir_type.FirType.{FirType}
use Rattle.fir_types.specs.declared.leaf.TypeLeaf.{TypeLeaf}
use Rattle.fir_types.specs.declared.leaf.PathStep.{PathStep}
use Rattle.fir_types.specs.declared.memory.Memory.{Memory}
use Rattle.fir_types.specs.declared.memory.MemLine.{MemLine}
use Rattle.fir_types.specs.declared.memory.MemLine.TheVariants as line
use Rattle.fir_types.specs.declared.memory.Under.{Under}
use Rattle.fir_types.specs.declared.memory.Under.TheVariants as under
use Rattle.fir_types.specs.Leaves.{leaves}
use Rattle.fir_types.specs.Memories.{first_or, under_in, under_of}
use Rattle.fir_meaning.specs.Components as tree
use Rattle.fir_meaning.specs.Values.{Valuation, Scene, scene_of}
use Rattle.fir_meaning.specs.MemoryPorts.{MemoryPort, Contents, Leaves, memory_ports, port_named, after_port, after_writes, read_by}
use Rattle.fir_meaning.specs.States.{State, taken}
use Rattle.fir_meaning.proofs.MemoryWays.{element_way, leaf_ported, shown_element}
use Rattle.fir_meaning.proofs.Settling.{read_contents}
use Rattle.plain_values.specs.Contents.{contents_of, stored_leaves}
use Rattle.plain_cycle.specs.declared.declarations.Sort.TheVariants as sort
use Rattle.settling_laws.specs.Typed.{is_named}
use Rattle.plain_cycle.specs.Layouts.{Located}
use Rattle.plain_cycle.specs.declared.run.Run.{Run}
use Rattle.plain_cycle.specs.declared.run.Part.{Part}
use Rattle.plain_cycle.specs.Runs.{IsRun, IsPart, design_in}
use Rattle.plain_cycle.proofs.Views.{leaves_are, named_there}
use Rattle.plain_cycle.proofs.Holding.{memory_is}
use Rattle.plain_cycle.specs.Edges.{Beside, IsReadFrom, AreWritten, AreRead, leaves_in, before_writes, written_in}
use Rattle.plain_cycle.proofs.Besides.{beside_weaker}
use Rattle.plain_cycle.proofs.Steps.{shown_fields}

pub not_under : (l : MemLine) → ((at : Place) (u : Under) → l ≡ line.ReadUnder at u → ⊥) → under_in l ≡ None
not_under (line.ReadUnder at u) h = absurd (h at u refl)
not_under (line.Element at t) h = refl
not_under (line.Depth at n) h = refl
not_under (line.ReadLatency at n) h = refl
not_under (line.WriteLatency at n) h = refl
not_under (line.MemPort at m n) h = refl

-- what a read takes where both contents after the writes have the same at its way
taken_alike : (u : Under) (held new after : Contents) (element : ℕ) (way : List PathStep) → new element way ≡ after element way → taken u held new element way ≡ taken u held after element way
taken_alike under.New held new after element way h = h
taken_alike under.Old held new after element way h = refl
taken_alike under.Undefined held new after element way h = refl

reads_alike : (memory : Memory) (l : Leaves) (u : Under) (held new after : Contents) (port : ℕ) (way : List PathStep) → ((element : ℕ) → new element way ≡ after element way)
    → read_by memory l (taken u held new) port way ≡ read_by memory l (taken u held after) port way
reads_alike memory l u held new after port way h =
    read_contents memory l (taken u held new) (taken u held after) way (λ element below. taken_alike u held new after element way (h element)) (port_named memory port)

-- Each leaf of an element is stored where the memory has a port.
abbrev pub AreStored : Type 0
AreStored = (memory : Memory) (element : FirType) (leaf : TypeLeaf) → memory_ports memory ≢ [] → Contains (leaves element) leaf
    → (stored : TypeLeaf) × Contains (stored_leaves (leaves (tree.ports_bundle memory element))) stored × (stored.path ≡ leaf.path)

-- A memory without ports has no leaves.
unported : (memory : Memory) (element : FirType) → memory_ports memory ≡ [] → leaves (tree.ports_bundle memory element) ≡ []
unported memory element none = by (leaves (tree.ports_bundle memory element)) refl
  where
    by : (ls : List TypeLeaf) → leaves (tree.ports_bundle memory element) ≡ ls → ls ≡ []
    by [] e = refl
    by (l ∷ ls) e = absurd (leaf_ported memory element l (subst (λ all. Contains all l) (sym e) (0, omega arith, refl)) none)

nothing_there : (way : List PathStep) (ls : List TypeLeaf) (elements : List (List Value)) (element : ℕ) → ls ≡ [] → contents_of ls elements element way ≡ pos 0
nothing_there way ls elements element e = ap (λ l. contents_of l elements element way) e

module _ (run : Run) (ok : IsRun run) (x : Located) (part : Part) (is : IsPart (design_in run) x part) (m : Bor Memory) (so : part.declaration.sort ≡ sort.Memory m) (s : State) (rho : Valuation) where
  module _ (memory : Memory) (e : x.c.declaration.sort ≡ tree.A_memory memory) where
    same : m.now ≡ memory
    same = memory_is run ok x part is m so memory e

    named : memory.name.id ≡ x.c.declaration.name
    named = eqb-true memory.name.id x.c.declaration.name (sym (ap (is_named x.c.declaration.name) e) ∙ named_there run ok x part is part.site.now.path refl)

    own_leaves : (here : Scene) → here ≡ scene_of x.m x.path rho → here.integers m.now.name.id ≡ leaves_in s rho x
    own_leaves here scene = ap₂ (λ (q : Scene) (n : ℕ). q.integers n) scene (ap (λ (k : Memory). k.name.id) same ∙ named)

  all_stored : (stored : List TypeLeaf) → stored ≡ stored_leaves part.site.now.leaves → stored ≡ stored_leaves (leaves x.c.typ)
  all_stored stored q = q ∙ ap stored_leaves (leaves_are (design_in run) x part is)

  pub written_is : AreStored → (here : Scene) (stored : List TypeLeaf) (old copy new : List (List Value)) → here ≡ scene_of x.m x.path rho → before_writes s rho x ≡ contents_of (stored_leaves part.site.now.leaves) old
      → stored ≡ stored_leaves part.site.now.leaves → copy ≡ old
      → ((element : ℕ) (leaf : TypeLeaf) → Contains stored leaf → contents_of stored new element leaf.path ≡ after_writes m.now (here.integers m.now.name.id) (contents_of stored copy) element leaf.path)
      → AreWritten s rho x new
  written_is kept here stored old copy new scene held q o h memory typ e of element leaf among = by (memory_ports memory) refl
    where
      all : stored ≡ stored_leaves (leaves x.c.typ)
      all = all_stored stored q

      at : (way : List PathStep) (l : TypeLeaf) → Contains stored l → l.path ≡ way → contents_of (stored_leaves (leaves x.c.typ)) new element way ≡ written_in s rho memory x element way
      at way l there is =
          ap (λ ls. contents_of ls new element way) (sym all)
          ∙ (subst (λ w. contents_of stored new element w ≡ after_writes m.now (here.integers m.now.name.id) (contents_of stored copy) element w) is (h element l there)
          ∙ (ap₂ (λ (k : Memory) (ls : Leaves). after_writes k ls (contents_of stored copy) element way) (same memory e) (own_leaves memory e here scene)
          ∙ ap (λ (k : Contents). after_writes memory (leaves_in s rho x) k element way) (ap₂ contents_of q o ∙ sym held)))

      by : (ports : List MemoryPort) → memory_ports memory ≡ ports → contents_of (stored_leaves (leaves x.c.typ)) new element leaf.path ≡ written_in s rho memory x element leaf.path
      by [] none =
          let empty : stored_leaves (leaves x.c.typ) ≡ [] = ap stored_leaves (of.bundle ∙ unported memory typ none) in
          nothing_there leaf.path (stored_leaves (leaves x.c.typ)) new element empty
          ∙ sym (ap (λ ps. fold (after_port memory (leaves_in s rho x)) (before_writes s rho x) ps element leaf.path) none
          ∙ (ap (λ (k : Contents). k element leaf.path) (held ∙ ap (λ ls. contents_of ls old) (sym q)) ∙ nothing_there leaf.path stored old element (all ∙ empty)))
      by (port ∷ ports) some =
          let its = kept memory typ leaf (λ none. let bad : port ∷ ports ≡ [] = sym some ∙ none in cc) among in
          at leaf.path its.0 (subst (λ ls. Contains ls its.0) (sym (all ∙ ap stored_leaves of.bundle)) its.1) its.2

  pub reads_are : (here : Scene) (stored ls : List TypeLeaf) (old new from : List (List Value)) (lines : List MemLine) (values : List Value) → here ≡ scene_of x.m x.path rho
      → before_writes s rho x ≡ contents_of (stored_leaves part.site.now.leaves) old → stored ≡ stored_leaves part.site.now.leaves → ls ≡ part.site.now.leaves → lines ≡ m.now.lines → AreWritten s rho x new
      → ((l : List TypeLeaf) → contents_of l from ≡ taken (first_or under.Undefined (filter_map under_in lines)) (contents_of l old) (contents_of l new))
      → Beside (IsReadFrom m.now (here.integers m.now.name.id) (contents_of stored from)) ls values → AreRead s rho x values
  reads_are here stored ls old new from lines values scene held q p r written takes h memory e =
      let all = all_stored stored q in
      let its : List TypeLeaf = stored_leaves (leaves x.c.typ) in
      let own : Leaves = leaves_in s rho x in
      let before : Contents = before_writes s rho x in
      let after : Contents = written_in s rho memory x in
      let reads_under : first_or under.Undefined (filter_map under_in lines) ≡ under_of memory = ap (λ l. first_or under.Undefined (filter_map under_in l)) r ∙ ap under_of (same memory e) in
      let sees : contents_of stored from ≡ taken (under_of memory) before (contents_of its new) =
      ap (λ l. contents_of l from) all
      ∙ (takes its ∙ ap₂ (λ (u : Under) (k : Contents). taken u k (contents_of its new)) reads_under (ap (λ l. contents_of l old) (sym all ∙ q) ∙ sym held)) in
      let shows : (leaf : TypeLeaf) (v : Value) → Contains (leaves x.c.typ) leaf → IsReadFrom m.now (here.integers m.now.name.id) (contents_of stored from) leaf v
      → IsReadFrom memory own (taken (under_of memory) before after) leaf v =
      λ leaf v among has port way turned shown.
      let fields = shown_fields leaf.path port way shown in
      let bundle = ok.well.bundles.memories x.path x.m x.c memory is.located.reached is.located.declared e in
      let part = element_way memory bundle.0 leaf port fields.0 way (subst (λ all. Contains all leaf) bundle.1 among) turned fields.1 in
      has port way turned shown
      ∙ (ap₂ (λ (k : Memory) (l : Leaves). read_by k l (contents_of stored from) port way) (same memory e) (own_leaves memory e here scene)
      ∙ (ap (λ (k : Contents). read_by memory own k port way) sees
      ∙ reads_alike memory own (under_of memory) before (contents_of its new) after port way (λ element.
      subst (λ w. contents_of its new element w ≡ after element w) part.2
      (written memory bundle.0 e (shown_element x.c memory bundle.0 bundle.1 leaf among) element part.0 part.1)))) in
      beside_weaker (IsReadFrom m.now (here.integers m.now.name.id) (contents_of stored from)) (IsReadFrom memory own (taken (under_of memory) before after)) (leaves x.c.typ) values shows
      (subst (λ l. Beside (IsReadFrom m.now (here.integers m.now.name.id) (contents_of stored from)) l values) (p ∙ leaves_are (design_in run) x part is) h)
