-- The widths of memories, and instances by their list.
use Rattle.std.proofs.Common.{◌≡◌, ℕ, List, [], ◌∷◌, ◌++◌, filter_map, refl, ap, ap₂, ◌∙◌}
use Rattle.std.specs.List.{flat_map}
use Rattle.fir_types.specs.declared.memory.Memory.{Memory}
use Rattle.fir_types.specs.declared.memory.MemLine.{MemLine}
use Rattle.fir_types.specs.declared.memory.MemLine.TheVariants as line
use Rattle.fir_types.specs.declared.memory.PortMode.TheVariants as mode
use Rattle.fir_types.specs.declared.fir_type.FirType.{FirType}
use Rattle.fir_types.specs.declared.fir_type.Shape.TheVariants as shape
use Rattle.fir_types.specs.Bundles.{nowhere}
use Rattle.fir_types.specs.Memories.{element_of, depth_of, first_or, element_in, depth_in}
use Rattle.fir_tree.specs.declared.stmt.Stmt.{fold-Stmt}
use Rattle.fir_tree.specs.declared.stmt.Stmt.TheOpen.{Stmt-F}
use Rattle.fir_tree.specs.declared.part.Part.{Part}
use Rattle.width_rules.specs.declared.component.Component.{Component}
use Rattle.width_rules.specs.declared.slot.Slot.{Slot}
use Rattle.width_rules.specs.Layers.{line_widths}
use Rattle.width_rules.specs.Places.{spots, slots_from}
use Rattle.width_rules.specs.Sources.{Known, component_or_none}
use Rattle.width_rules.specs.Circuits.{Walk, WithPorts, line_slots, memory_slots, of_stmt, of_arm, stmt_walk}
use Rattle.width_rules.specs.Walks.{AreInstances, declares_component, of_stmt_among, stmt_walk_among}

-- Memories

line_is : (memory : Memory) (element : List Slot) (l : MemLine) → line_widths (element_of memory) (depth_of memory) element l ≡ line_slots memory element l
line_is memory element (line.MemPort at mode.Reader name) = refl
line_is memory element (line.MemPort at mode.Writer name) = refl
line_is memory element (line.MemPort at mode.ReadWriter name) = refl
line_is memory element (line.Element at typ) = refl
line_is memory element (line.Depth at n) = refl
line_is memory element (line.ReadLatency at n) = refl
line_is memory element (line.WriteLatency at n) = refl
line_is memory element (line.ReadUnder at u) = refl

pub lines_are : (memory : Memory) (element : List Slot) (ls : List MemLine) → flat_map (line_widths (element_of memory) (depth_of memory) element) ls ≡ flat_map (line_slots memory element) ls
lines_are memory element [] = refl
lines_are memory element (l ∷ ls) = ap₂ (λ x xs. x ++ xs) (line_is memory element l) (lines_are memory element ls)

pub memory_told : (memory : Memory) (ls : List MemLine) (typ : FirType) (widths slots : List Slot) (n : ℕ) → ls ≡ memory.lines → typ ≡ first_or (record { place = nowhere; shape = shape.Bundle [] }) (filter_map element_in ls)
    → widths ≡ slots_from n (spots typ) → slots ≡ flat_map (line_widths typ (first_or 1 (filter_map depth_in ls)) widths) ls → slots ≡ memory_slots memory (slots_from n (spots (element_of memory)))
memory_told memory ls typ widths slots n is t w s =
    let element : typ ≡ element_of memory = t ∙ ap (λ l. first_or (record { place = nowhere; shape = shape.Bundle [] }) (filter_map element_in l)) is in
    let own : widths ≡ slots_from n (spots (element_of memory)) = w ∙ ap (λ x. slots_from n (spots x)) element in
    s ∙ ap₂ (λ x l. flat_map (line_widths x (first_or 1 (filter_map depth_in l)) widths) l) element is
    ∙ ap (λ l. flat_map (line_widths (element_of memory) (depth_of memory) l) memory.lines) own ∙ lines_are memory (slots_from n (spots (element_of memory))) memory.lines

-- a component of these parts
pub component_is : (component : Component) {part other : Part} {slots more : List Slot} → part ≡ other → slots ≡ more → component ≡ record { part = part; slots = slots } → component ≡ record { part = other; slots = more }
component_is component {part} {other} {slots} {more} p s is = is ∙ (λ i. record { part = p i; slots = s i })

-- Instances by their list

same_layer : (modules : List WithPorts) (instances : Known) → AreInstances modules instances → (s : Stmt-F Walk Walk) → of_stmt_among instances s ≡ of_stmt modules s
same_layer modules instances h (Stmt-F.Wire name typ) = refl
same_layer modules instances h (Stmt-F.Reg name typ clock) = refl
same_layer modules instances h (Stmt-F.RegReset name typ clock reset init) = refl
same_layer modules instances h (Stmt-F.Mem memory) = refl
same_layer modules instances h (Stmt-F.Inst name target) = ap (λ sized. declares_component name (component_or_none sized)) (h.found target.id)
same_layer modules instances h (Stmt-F.Node name e) = refl
same_layer modules instances h (Stmt-F.Connect left right) = refl
same_layer modules instances h (Stmt-F.Invalidate target) = refl
same_layer modules instances h (Stmt-F.When arms other) = refl
same_layer modules instances h (Stmt-F.Skip place) = refl

pub same_walk : (modules : List WithPorts) (instances : Known) → AreInstances modules instances → stmt_walk_among instances ≡ stmt_walk modules
same_walk modules instances h =
    let layers : of_stmt_among instances ≡ of_stmt modules = λ i s. same_layer modules instances h s i in
    ap (λ f. fold-Stmt Walk Walk f of_arm) layers
