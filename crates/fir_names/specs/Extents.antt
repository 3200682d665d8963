-- What a module declares, and how far it is visible (FIRRTL specification 3.0, "Namespaces" and "Scoping"): a name is visible from
-- the statement behind its declaration to the end of its block, there and in the blocks within.
use Rattle.std.specs.Prelude.{ℕ, ◌+◌, List, [], ◌∷◌, ◌++◌, map, length, nat_lt, if◌then◌else◌}
use Rattle.std.specs.List.{flat_map}
use Rattle.fir_types.specs.declared.name.Name.{Name}
use Rattle.fir_tree.specs.declared.circuit.Module.{Module}
use Rattle.fir_tree.specs.declared.expr.Expr.{Expr, fold-Expr}
use Rattle.fir_tree.specs.declared.expr.Suffix.{Suffix, fold-Suffix}
use Rattle.fir_tree.specs.declared.expr.Form.TheOpen.{Form-F, Suffix-F, Expr-F}
use Rattle.fir_tree.specs.declared.stmt.Stmt.{Stmt, fold-Stmt}
use Rattle.fir_tree.specs.declared.stmt.Arm.{Arm, fold-Arm}
use Rattle.fir_tree.specs.declared.stmt.Stmt.TheOpen.{Stmt-F, Arm-F}

-- The references of an expression in text order: a reference itself, and then those in its indices.
abbrev pub of_form : Form-F (List Name) (List Name) (List Name) → List Name
of_form (Form-F.Ref name suffixes) = name ∷ flat_map (λ names. names) suffixes
of_form (Form-F.Literal kind width number) = []
of_form (Form-F.Prim op operands params) = flat_map (λ names. names) operands
of_form (Form-F.Mux operands) = flat_map (λ names. names) operands

abbrev pub of_suffix : Suffix-F (List Name) (List Name) (List Name) → List Name
of_suffix (Suffix-F.Field name) = []
of_suffix (Suffix-F.At place at number) = []
of_suffix (Suffix-F.Index place index) = index

abbrev pub of_expr : Expr-F (List Name) (List Name) (List Name) → List Name
of_expr e = e.form

abbrev pub references : Expr → List Name
references = fold-Expr (List Name) (List Name) (List Name) of_form of_suffix of_expr

abbrev pub suffix_references : Suffix → List Name
suffix_references = fold-Suffix (List Name) (List Name) (List Name) of_form of_suffix of_expr

-- a visible declaration: the text of its name, and its number among the declarations of its module
abbrev pub Seen : Type 0
Seen = ℕ × ℕ

-- a reference, with the declarations that it sees
pub record Use : Type 0 where
  pub name : Name
  pub seen : List Seen

-- A name of a module: it refers to a declaration, it is that of an instance's module, or it declares, and as many names as
-- the number says stand behind it in its block. A statement's other names come before the one that it declares, since they
-- don't see it.
pub data Mark : Type 0 where
  Refers : Name → Mark
  Instantiates : Name → Mark
  Declares : Name → ℕ → Mark

-- the names of a part in text order, where so many stand behind the part in its block
abbrev pub Marks : Type 0
Marks = ℕ → List Mark

abbrev pub no_mark : Marks
no_mark after = []

abbrev pub refer : List Name → Marks
refer names after = map Refers names

abbrev pub instantiate : Name → Marks
instantiate target after = Instantiates target ∷ []

abbrev pub declare : Name → Marks
declare name after = Declares name after ∷ []

abbrev pub followed_by : Marks → Marks → Marks
followed_by first second after = first (length (second after) + after) ++ second after

abbrev pub all_marks : List Marks → Marks
all_marks [] = no_mark
all_marks (m ∷ ms) = followed_by m (all_marks ms)

-- behind a block's last name none stands in it
abbrev pub block_marks : List Marks → Marks
block_marks ms after = all_marks ms 0

abbrev pub of_stmt : Stmt-F Marks Marks → Marks
of_stmt (Stmt-F.Wire name typ) = declare name
of_stmt (Stmt-F.Reg name typ clock) = followed_by (refer (references clock)) (declare name)
of_stmt (Stmt-F.RegReset name typ clock reset init) = followed_by (refer (references clock ++ references reset ++ references init)) (declare name)
of_stmt (Stmt-F.Mem memory) = declare memory.name
of_stmt (Stmt-F.Inst name target) = followed_by (instantiate target) (declare name)
of_stmt (Stmt-F.Node name expr) = followed_by (refer (references expr)) (declare name)
of_stmt (Stmt-F.Connect left right) = refer (references left ++ references right)
of_stmt (Stmt-F.Invalidate target) = refer (references target)
of_stmt (Stmt-F.When arms other) = followed_by (all_marks arms) (block_marks other)
of_stmt (Stmt-F.Skip place) = no_mark

abbrev pub of_arm : Arm-F Marks Marks → Marks
of_arm arm = followed_by (refer (references arm.condition)) (block_marks arm.body)

abbrev pub stmt_marks : Stmt → Marks
stmt_marks = fold-Stmt Marks Marks of_stmt of_arm

abbrev pub arm_marks : Arm → Marks
arm_marks = fold-Arm Marks Marks of_stmt of_arm

abbrev pub marks_in : Module → List Mark
marks_in holder = followed_by (all_marks (map (λ port. declare port.name) holder.ports)) (all_marks (map stmt_marks holder.body)) 0

-- What a name sees, where so many names stand between it and these: the declarations whose blocks still go on there, with
-- their numbers from n on.
abbrev pub seen_behind : ℕ → ℕ → List Mark → List Seen
seen_behind between n [] = []
seen_behind between n (Refers name ∷ ms) = seen_behind between n ms
seen_behind between n (Instantiates name ∷ ms) = seen_behind between n ms
seen_behind between n (Declares name after ∷ ms) = (if nat_lt (length ms + between) after then (name.id, n) ∷ [] else []) ++ seen_behind between (n + 1) ms

-- the references behind some names, each with what it sees
abbrev pub uses_behind : List Mark → List Mark → List Use
uses_behind before [] = []
uses_behind before (Refers name ∷ ms) = record { name = name; seen = seen_behind 0 0 before } ∷ uses_behind (before ++ Refers name ∷ []) ms
uses_behind before (Instantiates name ∷ ms) = uses_behind (before ++ Instantiates name ∷ []) ms
uses_behind before (Declares name after ∷ ms) = uses_behind (before ++ Declares name after ∷ []) ms

abbrev pub declared_by : List Mark → List Name
declared_by [] = []
declared_by (Refers name ∷ ms) = declared_by ms
declared_by (Instantiates name ∷ ms) = declared_by ms
declared_by (Declares name after ∷ ms) = name ∷ declared_by ms

abbrev pub instantiated_by : List Mark → List Name
instantiated_by [] = []
instantiated_by (Refers name ∷ ms) = instantiated_by ms
instantiated_by (Instantiates name ∷ ms) = name ∷ instantiated_by ms
instantiated_by (Declares name after ∷ ms) = instantiated_by ms

-- the references of a module, each with what it sees; the names that it declares; the modules of its instances: each in
-- text order
abbrev pub uses_in : Module → List Use
uses_in holder = uses_behind [] (marks_in holder)

abbrev pub declared_in : Module → List Name
declared_in holder = declared_by (marks_in holder)

abbrev pub instances_in : Module → List Name
instances_in holder = instantiated_by (marks_in holder)
