-- What elements hold, and what ports make of it.
use Rattle.std.proofs.Common.{◌≡◌, ◌≢◌, ◌==◌, ℕ, zero, suc, ◌+◌, ◌<◌, ◌&&◌, ◌||◌, nat_lt, not, Bool, true, false, List, [], ◌∷◌, ◌++◌, map, filter, fold, filter_map, length, take, drop, get_or, find, Contains, ℤ, pos, Option, Some, None, option_to_list, if◌then◌else◌, refl, sym, ap, ap₂, ◌∙◌, subst, arith}
use Rattle.std.specs.List.{list_any, cons_option}
use Rattle.std.proofs.lemmas.Grind.{common_steps}
use Rattle.std.proofs.lemmas.Bool.Decides.{nat_tests}
use Rattle.std.proofs.lemmas.List.{take_more, drop_more, map-append}
use Rattle.std.proofs.lemmas.List.Elements.{filter-append}
use Rattle.std.proofs.lemmas.List.Sums.{fold-append}
use Rattle.bit_words.specs.declared.value.Value.{Value}
use Rattle.bit_words.specs.Values.{integer_of}
use Rattle.fir_types.specs.declared.fir_type.FirType.{FirType}
use Rattle.fir_types.specs.declared.leaf.TypeLeaf.{TypeLeaf}
use Rattle.fir_types.specs.declared.leaf.PathStep.{PathStep}
use Rattle.fir_types.specs.declared.leaf.PathStep.TheVariants as step
use Rattle.fir_types.specs.declared.memory.Memory.{Memory}
use Rattle.fir_types.specs.declared.memory.MemLine.{MemLine}
use Rattle.fir_types.specs.declared.memory.MemLine.TheVariants as line
use Rattle.fir_types.specs.declared.memory.PortMode.{PortMode}
use Rattle.fir_types.specs.declared.memory.PortMode.TheVariants as mode
use Rattle.fir_types.specs.declared.name.Name.{Name}
use Rattle.place_text.specs.declared.place.Place.{Place}
use Rattle.fir_types.specs.Leaves.{leaves}
use Rattle.fir_types.specs.Memories.{depth_of}
use Rattle.fir_types.proofs.Lines.{lines_more}
use Rattle.prim_ops.specs.Ports as port_rules
use Rattle.prim_ops.specs.Ports.{Shown}
use Rattle.fir_meaning.specs.Components.{ports_bundle}
use Rattle.fir_meaning.specs.Values.{beside, lone}
use Rattle.fir_meaning.specs.Drives.{same_step, same_way}
use Rattle.fir_meaning.specs.MemoryPorts.{MemoryPort, Contents, Leaves, port_in, memory_ports, address, asks_to_write, written_field, shown, after_port}
use Rattle.fir_meaning.proofs.MemoryLeaves.{data_leaf}
use Rattle.drive_check.proofs.KeyTests.{way_equal}
use Rattle.plain_values.specs.Sites.{beside_leaf, integer_or_zero}
use Rattle.plain_values.specs.Contents.{contents_of, takes_data, is_stored, stored_leaves, inner_leaf}
use Rattle.plain_values.specs.Writing.{over}
use Rattle.plain_values.proofs.Settings.{beside_more}

drop_there : {A : Type 0} (xs : List A) (k : ℕ) (x : A) → k < length xs → x ≡ get_or xs k x → drop k xs ≡ x ∷ drop (k + 1) xs
drop_there xs k x h is = drop_more xs k x h ∙ ap (λ y. y ∷ drop (k + 1) xs) (sym is)

-- the leaf at a way among others

step_itself : (s : PathStep) → same_step s s ≡ true
step_itself (step.Field n) = grind (arith, common_steps)
step_itself (step.Element n) = grind (arith, common_steps)

way_itself : (way : List PathStep) → same_way way way ≡ true
way_itself [] = refl
way_itself (s ∷ way) = ap₂ (λ a b. a && b) (step_itself s) (way_itself way)

-- a leaf stands at the way
abbrev is_there : List PathStep → List TypeLeaf → Bool
is_there way leaves = list_any (λ l. same_way l.path way) leaves

or_true : (b : Bool) → (b || true) ≡ true
or_true true = refl
or_true false = refl

there : (leaves : List TypeLeaf) (leaf : TypeLeaf) → Contains leaves leaf → is_there leaf.path leaves ≡ true
there [] leaf (k, below, is) = absurd (omega arith)
there (l ∷ leaves) leaf (zero, below, is) = ap (λ b. b || is_there leaf.path leaves) (ap (λ (x : TypeLeaf). same_way x.path leaf.path) is ∙ way_itself leaf.path)
there (l ∷ leaves) leaf (suc k, below, is) = ap (λ b. same_way l.path leaf.path || b) (there leaves leaf (k, omega arith, is)) ∙ or_true (same_way l.path leaf.path)

none_beside : (way : List PathStep) (leaves : List TypeLeaf) → beside_leaf way leaves [] ≡ None
none_beside way [] = refl
none_beside way (l ∷ leaves) = refl

-- an element after a write

heads : {A : Type 0} (x y : A) (xs ys : List A) → x ∷ xs ≡ y ∷ ys → (x ≡ y) × (xs ≡ ys)
heads x y xs ys e = (cc, cc)

no_cons : {A : Type 0} (x : A) (xs : List A) → [] ≡ x ∷ xs → ⊥
no_cons x xs e = cc

abbrev chosen : Shown (List PathStep) → List PathStep → ℤ → ℤ
chosen port way held = if port.masked way then port.written way else held

module _ (port : Shown (List PathStep)) (way : List PathStep) where
  one : (l : TypeLeaf) (b v : Value) → same_way l.path way ≡ true → integer_of v ≡ over port (l, b) → integer_of v ≡ chosen port way (integer_of b)
  one l b v q e = e ∙ ap (λ w. if port.masked w then port.written w else integer_of b) (way_equal l.path way q)

  beside_over : (leaves : List TypeLeaf) (before after : List Value) → map integer_of after ≡ map (over port) (beside (lone []) leaves before) → is_there way leaves ≡ true
      → integer_or_zero (beside_leaf way leaves after) ≡ chosen port way (integer_or_zero (beside_leaf way leaves before))
  beside_over [] before after e h = cc
  beside_over (l ∷ leaves) [] [] e h = absurd (no_cons _ _ e)
  beside_over (l ∷ leaves) (b ∷ before) [] e h = absurd (no_cons _ _ e)
  beside_over (l ∷ leaves) [] (v ∷ after) e h =
      let split = heads (integer_of v) (over port (l, lone [])) (map integer_of after) (map (over port) (beside (lone []) leaves [])) e in
      by (same_way l.path way) refl split.0 (λ later. beside_over leaves [] after split.1 later ∙ ap (λ o. chosen port way (integer_or_zero o)) (none_beside way leaves)) h
    where
      by : (t : Bool) → same_way l.path way ≡ t → integer_of v ≡ over port (l, lone []) → (is_there way leaves ≡ true → integer_or_zero (beside_leaf way leaves after) ≡ chosen port way (pos 0))
          → (t || is_there way leaves) ≡ true → integer_or_zero (if t then Some v else beside_leaf way leaves after) ≡ chosen port way (pos 0)
      by true q same rest among = one l (lone []) v q same
      by false q same rest among = rest among
  beside_over (l ∷ leaves) (b ∷ before) (v ∷ after) e h =
      let split = heads (integer_of v) (over port (l, b)) (map integer_of after) (map (over port) (beside (lone []) leaves before)) e in
      by (same_way l.path way) refl split.0 (λ later. beside_over leaves before after split.1 later) h
    where
      by : (t : Bool) → same_way l.path way ≡ t → integer_of v ≡ over port (l, b)
          → (is_there way leaves ≡ true → integer_or_zero (beside_leaf way leaves after) ≡ chosen port way (integer_or_zero (beside_leaf way leaves before)))
          → (t || is_there way leaves) ≡ true → integer_or_zero (if t then Some v else beside_leaf way leaves after) ≡ chosen port way (integer_or_zero (if t then Some b else beside_leaf way leaves before))
      by true q same rest among = one l b v q same
      by false q same rest among = rest among

-- one leaf of an element more

pub over_more : (port : Shown (List PathStep)) (leaves : List TypeLeaf) (before after more : List Value) (v : Value) (at : ℕ) (leaf : TypeLeaf) → at < length leaves → leaf ≡ get_or leaves at leaf → more ≡ after ++ v ∷ []
    → map integer_of after ≡ map (over port) (beside (lone []) (take at leaves) before) → integer_of v ≡ over port (leaf, get_or before at (lone []))
    → map integer_of more ≡ map (over port) (beside (lone []) (take (at + 1) leaves) before)
over_more port leaves before after more v at leaf h is pushed old new =
    ap (map integer_of) pushed ∙ (map-append integer_of after (v ∷ []) ∙ (ap₂ (λ l n. l ++ n ∷ []) old new
    ∙ sym (ap (map (over port)) (beside_more (lone []) leaves before at leaf h is) ∙ map-append (over port) (beside (lone []) (take at leaves) before) ((leaf, get_or before at (lone [])) ∷ []))))

-- the contents after a port

numbers_same : (a b : ℕ) → (a == b) ≡ true → a ≡ b
numbers_same a b e = grind (arith, common_steps)

module _ (memory : Memory) (seen : Leaves) (leaves : List TypeLeaf) (old : List (List Value)) (port : MemoryPort) where
  pub port_wrote : (new : List (List Value)) (e : List Value) (at : ℕ) (writes : Bool) → at ≡ address seen port → writes ≡ asks_to_write seen port port.mode → writes ≡ true → at < depth_of memory
      → ((k : ℕ) → get_or new k [] ≡ (if at == k then e else get_or old k [])) → map integer_of e ≡ map (over (shown seen port)) (beside (lone []) leaves (get_or old at []))
      → (element : ℕ) (leaf : TypeLeaf) → Contains leaves leaf → contents_of leaves new element leaf.path ≡ after_port memory seen (contents_of leaves old) port element leaf.path
  port_wrote new e at writes is asks set within put over element leaf among =
      let test : (asks_to_write seen port port.mode && nat_lt (address seen port) (depth_of memory)) ≡ true =
      ap₂ (λ a b. a && b) (sym asks ∙ set) (ap (λ n. nat_lt n (depth_of memory)) (sym is) ∙ below at (depth_of memory) within) in
      ap (λ vs. integer_or_zero (beside_leaf leaf.path leaves vs)) (put element)
      ∙ (by (at == element) refl
      ∙ (ap (λ n. if (n == element) && (shown seen port).masked leaf.path then (shown seen port).written leaf.path else contents_of leaves old element leaf.path) is
      ∙ sym (ap (λ b. if b && ((address seen port == element) && (shown seen port).masked leaf.path) then (shown seen port).written leaf.path else contents_of leaves old element leaf.path) test)))
    where
      below : (a b : ℕ) → a < b → nat_lt a b ≡ true
      below a b h = grind (arith, nat_tests)

      by : (t : Bool) → (at == element) ≡ t → integer_or_zero (beside_leaf leaf.path leaves (if t then e else get_or old element []))
          ≡ (if t && (shown seen port).masked leaf.path then (shown seen port).written leaf.path else contents_of leaves old element leaf.path)
      by true q =
          beside_over (shown seen port) leaf.path leaves (get_or old at []) e over (there leaves leaf among)
          ∙ ap (λ n. chosen (shown seen port) leaf.path (contents_of leaves old n leaf.path)) (numbers_same at element q)
      by false q = refl

  pub port_idle : (at : ℕ) (writes : Bool) → at ≡ address seen port → writes ≡ asks_to_write seen port port.mode → (writes && nat_lt at (depth_of memory)) ≡ false
      → (element : ℕ) (way : List PathStep) → contents_of leaves old element way ≡ after_port memory seen (contents_of leaves old) port element way
  port_idle at writes is asks never element way =
      sym (ap (λ b. if b && ((address seen port == element) && (shown seen port).masked way) then (shown seen port).written way else contents_of leaves old element way)
      (ap₂ (λ a n. a && nat_lt n (depth_of memory)) (sym asks) (sym is) ∙ never))

-- the contents after the ports of some lines

module _ (memory : Memory) (seen : Leaves) where
  abbrev pub after_lines : List MemLine → Contents → Contents
  after_lines lines before = fold (λ held port. port_rules.after_port (depth_of memory) held (shown seen port)) before (filter_map port_in lines)

  pub lines_wrote : (lines : List MemLine) (k : ℕ) (x : MemLine) (port : MemoryPort) (before now' after : Contents) (element : ℕ) (way : List PathStep) → k < length lines → x ≡ get_or lines k x → port_in x ≡ Some port
      → now' element way ≡ after_lines (take k lines) before element way → after element way ≡ after_port memory seen now' port element way → after element way ≡ after_lines (take (k + 1) lines) before element way
  lines_wrote lines k x port before now' after element way h is p i e =
      let step = λ (held : Contents) (q : MemoryPort). port_rules.after_port (depth_of memory) held (shown seen q) in
      e ∙ (ap (λ n. if (asks_to_write seen port port.mode && nat_lt (address seen port) (depth_of memory)) && ((address seen port == element) && (shown seen port).masked way) then (shown seen port).written way else n) i
      ∙ sym (ap (λ ps. fold step before ps element way) (lines_more port_in lines k x h is ∙ ap (λ o. filter_map port_in (take k lines) ++ option_to_list o) p)
      ∙ ap (λ (c : Contents). c element way) (fold-append step before (filter_map port_in (take k lines)) (port ∷ []))))

  pub lines_idle : (lines : List MemLine) (k : ℕ) (x : MemLine) (before now' : Contents) (element : ℕ) (way : List PathStep) → k < length lines → x ≡ get_or lines k x → port_in x ≡ None
      → now' element way ≡ after_lines (take k lines) before element way → now' element way ≡ after_lines (take (k + 1) lines) before element way
  lines_idle lines k x before now' element way h is p i =
      let step = λ (held : Contents) (q : MemoryPort). port_rules.after_port (depth_of memory) held (shown seen q) in
      i ∙ sym (ap (λ ps. fold step before ps element way) (lines_more port_in lines k x h is ∙ (ap (λ o. filter_map port_in (take k lines) ++ option_to_list o) p ∙ nil (filter_map port_in (take k lines)))))
    where
      nil : (ps : List MemoryPort) → ps ++ [] ≡ ps
      nil [] = refl
      nil (q ∷ ps) = ap (λ l. q ∷ l) (nil ps)

pub no_port : (l : MemLine) → ((at : Place) (m : PortMode) (name : Name) → l ≡ line.MemPort at m name → ⊥) → port_in l ≡ None
no_port (line.MemPort at m name) h = absurd (h at m name refl)
no_port (line.Element at t) h = refl
no_port (line.Depth at n) h = refl
no_port (line.ReadLatency at n) h = refl
no_port (line.WriteLatency at n) h = refl
no_port (line.ReadUnder at u) h = refl

-- the port of a name

abbrev pub named_from : ℕ → List MemLine → Option MemoryPort
named_from name lines = find (λ port. port.name == name) (filter_map port_in lines)

pub named_here : (name : ℕ) (lines : List MemLine) (k : ℕ) (x : MemLine) (port : MemoryPort) → k < length lines → x ≡ get_or lines k x → port_in x ≡ Some port
    → named_from name (drop k lines) ≡ (if port.name == name then Some port else named_from name (drop (k + 1) lines))
named_here name lines k x port h is p =
    ap (named_from name) (drop_there lines k x h is) ∙ ap (λ o. find (λ (q : MemoryPort). q.name == name) (cons_option o (filter_map port_in (drop (k + 1) lines)))) p

pub named_later : (name : ℕ) (lines : List MemLine) (k : ℕ) (x : MemLine) → k < length lines → x ≡ get_or lines k x → port_in x ≡ None → named_from name (drop k lines) ≡ named_from name (drop (k + 1) lines)
named_later name lines k x h is p =
    ap (named_from name) (drop_there lines k x h is) ∙ ap (λ o. find (λ (q : MemoryPort). q.name == name) (cons_option o (filter_map port_in (drop (k + 1) lines)))) p

-- leaves by their ways within an element

pub stored_more : (leaves : List TypeLeaf) (k : ℕ) (x : TypeLeaf) → k < length leaves → x ≡ get_or leaves k x
    → stored_leaves (take (k + 1) leaves) ≡ (if is_stored x then stored_leaves (take k leaves) ++ inner_leaf x ∷ [] else stored_leaves (take k leaves))
stored_more leaves k x h is =
    ap stored_leaves (take_more leaves k x h ∙ ap (λ y. take k leaves ++ y ∷ []) (sym is))
    ∙ (ap (map inner_leaf) (filter-append is_stored (take k leaves) (x ∷ [])) ∙ (map-append inner_leaf (filter is_stored (take k leaves)) (filter is_stored (x ∷ []))
    ∙ by (is_stored x)))
  where
    nil : (ls : List TypeLeaf) → ls ++ [] ≡ ls
    nil [] = refl
    nil (l ∷ ls) = ap (λ m. l ∷ m) (nil ls)

    by : (b : Bool) → stored_leaves (take k leaves) ++ map inner_leaf (if b then x ∷ [] else []) ≡ (if b then stored_leaves (take k leaves) ++ inner_leaf x ∷ [] else stored_leaves (take k leaves))
    by true = refl
    by false = nil (stored_leaves (take k leaves))

stored_there : (leaves : List TypeLeaf) (leaf : TypeLeaf) → Contains leaves leaf → is_stored leaf ≡ true → Contains (stored_leaves leaves) (inner_leaf leaf)
stored_there [] leaf (k, below, is) stored = absurd (omega arith)
stored_there (l ∷ leaves) leaf (zero, below, is) stored = by (is_stored l) (ap is_stored is ∙ stored)
  where
    by : (b : Bool) → b ≡ true → Contains (map inner_leaf (if b then l ∷ filter is_stored leaves else filter is_stored leaves)) (inner_leaf leaf)
    by true e = (0, omega arith, ap inner_leaf is)
    by false e = cc
stored_there (l ∷ leaves) leaf (suc k, below, is) stored = by (is_stored l) (stored_there leaves leaf (k, omega arith, is) stored)
  where
    by : (b : Bool) → Contains (stored_leaves leaves) (inner_leaf leaf) → Contains (map inner_leaf (if b then l ∷ filter is_stored leaves else filter is_stored leaves)) (inner_leaf leaf)
    by true (j, less, at) = (suc j, omega (arith, less), at)
    by false c = c

written_taken : (md : PortMode) (port : ℕ) (way : List PathStep) → takes_data (step.Field port ∷ (step.Field (written_field md) ∷ way)) ≡ true
written_taken mode.Reader port way = refl
written_taken mode.Writer port way = refl
written_taken mode.ReadWriter port way = refl

-- Each leaf of an element is stored where the memory has a port.
pub all_stored : (memory : Memory) (element : FirType) (leaf : TypeLeaf) → memory_ports memory ≢ [] → Contains (leaves element) leaf
    → (stored : TypeLeaf) × Contains (stored_leaves (leaves (ports_bundle memory element))) stored × (stored.path ≡ leaf.path)
all_stored memory element leaf some inside = by (memory_ports memory) refl
  where
    by : (ports : List MemoryPort) → memory_ports memory ≡ ports → (stored : TypeLeaf) × Contains (stored_leaves (leaves (ports_bundle memory element))) stored × (stored.path ≡ leaf.path)
    by [] e = absurd (some e)
    by (port ∷ ports) e =
        let taken_leaf = data_leaf memory element port leaf inside (subst (λ ps. Contains ps port) (sym e) (0, omega arith, refl)) in
        let taken : is_stored taken_leaf.0 ≡ true =
        ap (λ way. not taken_leaf.0.flip || takes_data way) taken_leaf.2 ∙ (ap (λ b. not taken_leaf.0.flip || b) (written_taken port.mode port.name leaf.path) ∙ or_true (not taken_leaf.0.flip)) in
        (inner_leaf taken_leaf.0, stored_there (leaves (ports_bundle memory element)) taken_leaf.0 taken_leaf.1 taken, ap (drop 2) taken_leaf.2)

pub held_nothing : (leaves : List TypeLeaf) (element : ℕ) (way : List PathStep) → contents_of leaves [] element way ≡ pos 0
held_nothing leaves element way = ap integer_or_zero (none_beside way leaves)
