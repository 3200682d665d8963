-- The counts of a tree are as small as they may be where so many blocks and brackets are open.
use Rattle.std.proofs.Common.{ℕ, ◌-◌, ◌≤◌, List, [], ◌∷◌, map, length, Option}
use Rattle.std.specs.Prelude.{⊤}
use Rattle.fir_types.specs.declared.port.Port.{Port as ModulePort}
use Rattle.fir_types.specs.declared.fir_type.FirType.{FirType}
use Rattle.fir_types.specs.declared.memory.MemLine.{MemLine}
use Rattle.fir_tree.specs.declared.expr.Expr.{Expr}
use Rattle.item_lines.specs.declared.line.Line.{Line}
use Rattle.item_lines.specs.declared.line.LineArm.{LineArm}
use Rattle.item_lines.specs.declared.line.LineModule.{LineModule}
use Rattle.fir_grammar.specs.Grammar.{Symbol, Is, A, Rule, Tree, Values, Nothing, Its_place, Its_name, Its_magnitude, Its_place_and_magnitude, Its_number, Its_pieces, Text, Circuit_body, Modules, Module, Module_body, Ports, Port, Type_of, Lengths, Base_type, Width, Fields, Field, Statements, Statement, Printed, Item_end, Block, Branches, Memory_lines, Memory_line, Under_write, Expression, Expressions, Numbers, Reference, Suffixes, Integer}
use Rattle.depth_laws.specs.Blocks.{greatest, block_of, line_blocks, arm_blocks, body_blocks, module_blocks}
use Rattle.depth_laws.specs.Parts.{most_in_memory_line, most_in_line, most_in_arm, most_in_body, most_in_module}
use Rattle.depth_laws.specs.Brackets.{type_brackets, field_brackets, expr_brackets, suffix_brackets}
use Rattle.depth_laws.specs.Suffixes.{type_lengths, type_suffixes, field_suffixes, expr_suffixes, suffix_suffixes}
use Rattle.depth_laws.proofs.Bounds.{Fits}
use Rattle.depth_laws.proofs.Classes.{class_of}
use Rattle.depth_laws.proofs.Known.{Known, count, moves, Behind}
use Rattle.depth_laws.proofs.Steps.{past_rule}

abbrev pub bracket_of : List ℕ → ℕ
bracket_of [] = 0
bracket_of (n ∷ ns) = 1

abbrev pub FitsType : List (Option ℕ) → FirType → Type 0
FitsType o typ = Fits (128 - length o) (type_brackets typ) (type_suffixes typ)

abbrev pub FitsExpr : List (Option ℕ) → Expr → Type 0
FitsExpr o e = Fits (128 - length o) (expr_brackets e) (expr_suffixes e)

abbrev pub FitsExprs : List (Option ℕ) → List Expr → Type 0
FitsExprs o es = Fits (128 - length o) (greatest (map expr_brackets es)) (greatest (map expr_suffixes es))

abbrev pub FitsBlock : List (Option ℕ) → List Line → Type 0
FitsBlock o ss = Fits (128 - length o) (greatest (map (most_in_line type_brackets expr_brackets) ss)) (greatest (map (most_in_line type_suffixes expr_suffixes) ss))

abbrev pub FitsArms : List (Option ℕ) → List LineArm → Type 0
FitsArms o arms = Fits (128 - length o) (greatest (map (most_in_arm type_brackets expr_brackets) arms)) (greatest (map (most_in_arm type_suffixes expr_suffixes) arms))

abbrev pub FitsBody : List (Option ℕ) → List ModulePort → List Line → Type 0
FitsBody o ports body = Fits (128 - length o) (most_in_body type_brackets expr_brackets ports body) (most_in_body type_suffixes expr_suffixes ports body)

abbrev pub FitsModules : List (Option ℕ) → List LineModule → Type 0
FitsModules o ms = Fits (128 - length o) (greatest (map (most_in_module type_brackets expr_brackets) ms)) (greatest (map (most_in_module type_suffixes expr_suffixes) ms))

abbrev pub FitsMemoryLine : List (Option ℕ) → MemLine → Type 0
FitsMemoryLine o l = Fits (128 - length o) (most_in_memory_line type_brackets expr_brackets l) (most_in_memory_line type_suffixes expr_suffixes l)

abbrev pub FitsMemory : List (Option ℕ) → List MemLine → Type 0
FitsMemory o ls = Fits (128 - length o) (greatest (map (most_in_memory_line type_brackets expr_brackets) ls)) (greatest (map (most_in_memory_line type_suffixes expr_suffixes) ls))

-- of each rule, where b blocks and the brackets of o are open and the reference or type has the suffixes h
abbrev pub Within : (r : Rule) → ℕ → Option ℕ → List (Option ℕ) → Tree r → Type 0
Within Text b h o t = (block_of (map module_blocks t.1.1) ≤ 128 - b) × FitsModules o t.1.1
Within Circuit_body b h o ms = (block_of (map module_blocks ms) ≤ 128 - b) × FitsModules o ms
Within Modules b h o ms = (greatest (map module_blocks ms) ≤ 128 - b) × FitsModules o ms
Within Module b h o m = (module_blocks m ≤ 128 - b) × FitsBody o m.ports m.body
Within Module_body b h o t = (body_blocks t.0 (map line_blocks t.1) ≤ 128 - b) × FitsBody o t.0 t.1
Within Ports b h o t = (greatest (map line_blocks t.1) ≤ 128 - b) × FitsBody o t.0 t.1
Within Port b h o p = FitsType o p.typ
Within Type_of b h o t = FitsType o t
Within Lengths b h o ns = (bracket_of ns ≤ 128 - length o) × (length ns ≤ 128 - count h)
Within Base_type b h o t = Fits (128 - length o) (type_brackets t) (type_lengths t).1
Within Width b h o t = ⊤
Within Fields b h o fs = Fits (128 - length o) (greatest (map field_brackets fs)) (greatest (map field_suffixes fs))
Within Field b h o f = Fits (128 - length o) (field_brackets f) (field_suffixes f)
Within Statements b h o ss = (greatest (map line_blocks ss) ≤ 128 - b) × FitsBlock o ss
Within Statement b h o s = (line_blocks s ≤ 128 - b) × Fits (128 - length o) (most_in_line type_brackets expr_brackets s) (most_in_line type_suffixes expr_suffixes s)
Within Printed b h o t = FitsExprs o t.1
Within Item_end b h o t = ⊤
Within Block b h o ss = (block_of (map line_blocks ss) ≤ 128 - b) × FitsBlock o ss
Within Branches b h o t = ((greatest (map arm_blocks t.0) ≤ 128 - b) × (block_of (map line_blocks t.1) ≤ 128 - b)) × (FitsArms o t.0 × FitsBlock o t.1)
Within Memory_lines b h o ls = FitsMemory o ls
Within Memory_line b h o l = FitsMemoryLine o l
Within Under_write b h o t = ⊤
Within Expression b h o e = FitsExpr o e
Within (Expressions n) b h o es = FitsExprs o es
Within (Numbers n) b h o t = ⊤
Within Reference b h o e = FitsExpr o e
Within Suffixes b h o ss = Fits (128 - length o) (greatest (map suffix_brackets ss)) (greatest (map suffix_suffixes ss)) × (length (map suffix_suffixes ss) ≤ 128 - count h)
Within Integer b h o t = ⊤

abbrev pub AllWithin : (ss : List Symbol) → Known → Values ss → Type 0
AllWithin [] st v = ⊤
AllWithin (Is Nothing s ∷ ss) st v = Behind (class_of s) st (AllWithin ss (moves (class_of s) st) v)
AllWithin (Is Its_place s ∷ ss) st v = Behind (class_of s) st (AllWithin ss (moves (class_of s) st) v.1)
AllWithin (Is Its_name s ∷ ss) st v = Behind (class_of s) st (AllWithin ss (moves (class_of s) st) v.1)
AllWithin (Is Its_magnitude s ∷ ss) st v = Behind (class_of s) st (AllWithin ss (moves (class_of s) st) v.1)
AllWithin (Is Its_place_and_magnitude s ∷ ss) st v = Behind (class_of s) st (AllWithin ss (moves (class_of s) st) v.1.1)
AllWithin (Is Its_number s ∷ ss) st v = Behind (class_of s) st (AllWithin ss (moves (class_of s) st) v.1)
AllWithin (Is Its_pieces s ∷ ss) st v = Behind (class_of s) st (AllWithin ss (moves (class_of s) st) v.1)
AllWithin (A r ∷ ss) st v = Within r st.blocks st.head st.outer v.0 × AllWithin ss (past_rule r st) v.1
