-- What the walk carries along is what is visible by the extents of the declarations.
use Rattle.std.proofs.Common.{◌≡◌, ℕ, ◌+◌, ◌<◌, ◌≤◌, Bool, true, false, List, [], ◌∷◌, ◌++◌, map, length, refl, sym, ap, ap₂, ◌∙◌, subst, arith, append_assoc, append-nil, length-append, if◌then◌else◌}
use Rattle.std.specs.Prelude.{nat_lt}
use Rattle.std.proofs.lemmas.Bool.{ltb-true, ltb-false}
use Rattle.fir_types.specs.declared.name.Name.{Name}
use Rattle.fir_types.specs.declared.port.Port.{Port}
use Rattle.fir_tree.specs.declared.circuit.Module.{Module}
use Rattle.fir_tree.specs.declared.stmt.Stmt.{Stmt, roll-Stmt, map-Stmt}
use Rattle.fir_tree.specs.declared.stmt.Arm.{Arm, roll-Arm, map-Arm}
use Rattle.fir_tree.specs.declared.stmt.Stmt.TheOpen.{Stmt-F, Arm-F}
use Rattle.fir_tree.specs.declared.stmt.Stmt.TheFolds.{ind-Stmt, fold-roll-Stmt, fold-roll-Arm}
use Rattle.std.proofs.lemmas.List.{length-map}
use Rattle.fir_names.specs.Parts as parts
use Rattle.fir_names.specs.Parts.{Part, nothing, mentions, declares, instance_of, joined, in_turn, block, stmt_part, arm_part, module_part}
use Rattle.fir_names.specs.Extents as extents
use Rattle.fir_names.specs.Extents.{Seen, Use, references, Mark, Refers, Instantiates, Declares, Marks, no_mark, refer, instantiate, declare, followed_by, all_marks, block_marks, stmt_marks, arm_marks, marks_in, seen_behind, uses_behind, declared_by, instantiated_by, uses_in, declared_in, instances_in}

abbrev count : List Mark → ℕ
count ms = length (declared_by ms)

declared-append : (xs ys : List Mark) → declared_by (xs ++ ys) ≡ declared_by xs ++ declared_by ys
declared-append [] ys = refl
declared-append (Refers name ∷ xs) ys = declared-append xs ys
declared-append (Instantiates name ∷ xs) ys = declared-append xs ys
declared-append (Declares name after ∷ xs) ys = ap (λ l. name ∷ l) (declared-append xs ys)

instantiated-append : (xs ys : List Mark) → instantiated_by (xs ++ ys) ≡ instantiated_by xs ++ instantiated_by ys
instantiated-append [] ys = refl
instantiated-append (Refers name ∷ xs) ys = instantiated-append xs ys
instantiated-append (Instantiates name ∷ xs) ys = ap (λ l. name ∷ l) (instantiated-append xs ys)
instantiated-append (Declares name after ∷ xs) ys = instantiated-append xs ys

count-append : (xs ys : List Mark) → count (xs ++ ys) ≡ count xs + count ys
count-append xs ys = ap length (declared-append xs ys) ∙ length-append (declared_by xs) (declared_by ys)

seen-append : (between n : ℕ) (xs ys : List Mark) → seen_behind between n (xs ++ ys) ≡ seen_behind (length ys + between) n xs ++ seen_behind between (n + count xs) ys
seen-append between n [] ys = ap (λ k. seen_behind between k ys) (omega arith)
seen-append between n (Refers name ∷ xs) ys = seen-append between n xs ys
seen-append between n (Instantiates name ∷ xs) ys = seen-append between n xs ys
seen-append between n (Declares name after ∷ xs) ys =
    let e : length (xs ++ ys) + between ≡ length xs + (length ys + between) = omega (arith, length-append xs ys) in
    ap₂ (λ k l. (if nat_lt k after then (name.id, n) ∷ [] else []) ++ l) e
    (seen-append between (n + 1) xs ys ∙ ap (λ k. seen_behind (length ys + between) (n + 1) xs ++ seen_behind between k ys) (omega arith))
    ∙ sym (append_assoc (if nat_lt (length xs + (length ys + between)) after then (name.id, n) ∷ [] else []) _ _)

uses-append : (before xs ys : List Mark) → uses_behind before (xs ++ ys) ≡ uses_behind before xs ++ uses_behind (before ++ xs) ys
uses-append before [] ys = ap (λ b. uses_behind b ys) (sym (append-nil before))
uses-append before (Refers name ∷ xs) ys = ap (λ l. record { name = name; seen = seen_behind 0 0 before } ∷ l)
    (uses-append (before ++ Refers name ∷ []) xs ys ∙ ap (λ b. uses_behind (before ++ Refers name ∷ []) xs ++ uses_behind b ys) (append_assoc before (Refers name ∷ []) xs))
uses-append before (Instantiates name ∷ xs) ys =
    uses-append (before ++ Instantiates name ∷ []) xs ys ∙ ap (λ b. uses_behind (before ++ Instantiates name ∷ []) xs ++ uses_behind b ys) (append_assoc before (Instantiates name ∷ []) xs)
uses-append before (Declares name after ∷ xs) ys =
    uses-append (before ++ Declares name after ∷ []) xs ys ∙ ap (λ b. uses_behind (before ++ Declares name after ∷ []) xs ++ uses_behind b ys) (append_assoc before (Declares name after ∷ []) xs)

-- a part has these names
record Agrees (part : Part) (marks : Marks) : Type 0 where
  named : (after : ℕ) → declared_by (marks after) ≡ part.declares
  instanced : (after : ℕ) → instantiated_by (marks after) ≡ part.instances
  shows : (after between n : ℕ) → between < after → seen_behind between n (marks after) ≡ part.shows n
  ends : (after between n : ℕ) → after ≤ between → seen_behind between n (marks after) ≡ []
  uses : (after : ℕ) (before : List Mark) (seen : List Seen) → ((between : ℕ) → between < length (marks after) → seen_behind between 0 before ≡ seen)
      → uses_behind before (marks after) ≡ part.uses seen (count before)

agrees_nothing : Agrees nothing no_mark
agrees_nothing = record { named = λ a. refl; instanced = λ a. refl; shows = λ a b n lt. refl; ends = λ a b n le. refl; uses = λ a before seen h. refl }

agrees_instance : (target : Name) → Agrees (instance_of target) (instantiate target)
agrees_instance target = record { named = λ a. refl; instanced = λ a. refl; shows = λ a b n lt. refl; ends = λ a b n le. refl; uses = λ a before seen h. refl }

agrees_declares : (name : Name) → Agrees (declares name) (declare name)
agrees_declares name = record {
  named = λ a. refl;
  instanced = λ a. refl;
  shows = λ a b n lt. ap (λ c. (if c then (name.id, n) ∷ [] else []) ++ []) (is_less a b lt);
  ends = λ a b n le. ap (λ c. (if c then (name.id, n) ∷ [] else []) ++ []) (is_not_less a b le);
  uses = λ a before seen h. refl;
}
  where
    is_less : (a b : ℕ) → b < a → nat_lt (0 + b) a ≡ true
    is_less a b lt = by (nat_lt (0 + b) a) refl
      where
        by : (c : Bool) → nat_lt (0 + b) a ≡ c → c ≡ true
        by true e = refl
        by false e = absurd (omega (arith, lt, ltb-false (0 + b) a e))

    is_not_less : (a b : ℕ) → a ≤ b → nat_lt (0 + b) a ≡ false
    is_not_less a b le = by (nat_lt (0 + b) a) refl
      where
        by : (c : Bool) → nat_lt (0 + b) a ≡ c → c ≡ false
        by true e = absurd (omega (arith, le, ltb-true (0 + b) a e))
        by false e = refl

refers_show : (between n : ℕ) (names : List Name) → seen_behind between n (map Refers names) ≡ []
refers_show between n [] = refl
refers_show between n (x ∷ xs) = refers_show between n xs

refers_declare : (names : List Name) → declared_by (map Refers names) ≡ []
refers_declare [] = refl
refers_declare (x ∷ xs) = refers_declare xs

refers_instantiate : (names : List Name) → instantiated_by (map Refers names) ≡ []
refers_instantiate [] = refl
refers_instantiate (x ∷ xs) = refers_instantiate xs

refers_use : (names : List Name) (before : List Mark) (seen : List Seen) → ((between : ℕ) → between < length names → seen_behind between 0 before ≡ seen)
    → uses_behind before (map Refers names) ≡ map (λ name. record { name = name; seen = seen }) names
refers_use [] before seen h = refl
refers_use (x ∷ xs) before seen h = ap₂ (λ s l. record { name = x; seen = s } ∷ l) (h 0 (omega arith))
    (refers_use xs (before ++ Refers x ∷ []) seen (λ b lt. seen-append b 0 before (Refers x ∷ []) ∙ append-nil _ ∙ h (1 + b) (omega (arith, lt))))

agrees_mentions : (names : List Name) → Agrees (mentions names) (refer names)
agrees_mentions names = record {
  named = λ a. refers_declare names;
  instanced = λ a. refers_instantiate names;
  shows = λ a b n lt. refers_show b n names;
  ends = λ a b n le. refers_show b n names;
  uses = λ a before seen h. refers_use names before seen (λ b lt. h b (subst (λ k. b < k) (sym (length-map names Refers)) lt));
}

agrees_joined : {p q : Part} {ms ns : Marks} → Agrees p ms → Agrees q ns → Agrees (joined p q) (followed_by ms ns)
agrees_joined {p} {q} {ms} {ns} h k = record {
  named = λ a. declared-append (ms (length (ns a) + a)) (ns a) ∙ ap₂ (λ x y. x ++ y) (h.named (length (ns a) + a)) (k.named a);
  instanced = λ a. instantiated-append (ms (length (ns a) + a)) (ns a) ∙ ap₂ (λ x y. x ++ y) (h.instanced (length (ns a) + a)) (k.instanced a);
  shows = λ a b n lt. seen-append b n (ms (length (ns a) + a)) (ns a)
      ∙ ap₂ (λ x y. x ++ y) (h.shows (length (ns a) + a) (length (ns a) + b) n (omega (arith, lt)))
      (ap (λ c. seen_behind b (n + c) (ns a)) (ap length (h.named (length (ns a) + a))) ∙ k.shows a b (n + length p.declares) lt);
  ends = λ a b n le. seen-append b n (ms (length (ns a) + a)) (ns a)
      ∙ ap₂ (λ x y. x ++ y) (h.ends (length (ns a) + a) (length (ns a) + b) n (omega (arith, le))) (k.ends a b (n + count (ms (length (ns a) + a))) le);
  uses = λ a before seen s.
      let xs = ms (length (ns a) + a) in
      uses-append before xs (ns a)
      ∙ ap₂ (λ x y. x ++ y) (h.uses (length (ns a) + a) before seen (λ b lt. s b (omega (arith, lt, length-append xs (ns a)))))
      (k.uses a (before ++ xs) (seen ++ p.shows (count before)) (λ b lt. seen-append b 0 before xs
      ∙ ap₂ (λ x y. x ++ y) (s (length xs + b) (omega (arith, lt, length-append xs (ns a))))
      (ap (λ c. seen_behind b c xs) (omega arith) ∙ h.shows (length (ns a) + a) b (count before) (omega (arith, lt))))
      ∙ ap (λ c. q.uses (seen ++ p.shows (count before)) c) (count-append before xs ∙ ap (λ c. count before + c) (ap length (h.named (length (ns a) + a)))));
}

agrees_shut : {p : Part} {ms : Marks} → Agrees p ms → Agrees (record p { shows = λ n. [] }) (λ after. ms 0)
agrees_shut {p} {ms} h = record {
  named = λ a. h.named 0;
  instanced = λ a. h.instanced 0;
  shows = λ a b n lt. h.ends 0 b n (omega arith);
  ends = λ a b n le. h.ends 0 b n (omega arith);
  uses = λ a before seen s. h.uses 0 before seen s;
}

agrees_all : {X : Type 0} (part : X → Part) (marks : X → Marks) (xs : List ((x : X) × Agrees (part x) (marks x)))
    → Agrees (in_turn (map part (map (λ e. e.0) xs))) (all_marks (map marks (map (λ e. e.0) xs)))
agrees_all part marks [] = agrees_nothing
agrees_all part marks (e ∷ es) = agrees_joined e.1 (agrees_all part marks es)

agrees_map : {X : Type 0} (part : X → Part) (marks : X → Marks) → ((x : X) → Agrees (part x) (marks x)) → (xs : List X) → Agrees (in_turn (map part xs)) (all_marks (map marks xs))
agrees_map part marks h [] = agrees_nothing
agrees_map part marks h (x ∷ xs) = agrees_joined (h x) (agrees_map part marks h xs)

abbrev Fits : Stmt → Type 0
Fits s = Agrees (stmt_part s) (stmt_marks s)

abbrev ArmFits : Arm → Type 0
ArmFits a = Agrees (arm_part a) (arm_marks a)

rolled : (z : Stmt-F Stmt Arm) → Agrees (parts.of_stmt (map-Stmt Stmt Arm Part Part stmt_part arm_part z)) (extents.of_stmt (map-Stmt Stmt Arm Marks Marks stmt_marks arm_marks z))
    → Fits (roll-Stmt z)
rolled z h = subst (λ p. Agrees p (stmt_marks (roll-Stmt z))) (sym (fold-roll-Stmt Part Part parts.of_stmt parts.of_arm z))
    (subst (λ m. Agrees (parts.of_stmt (map-Stmt Stmt Arm Part Part stmt_part arm_part z)) m) (sym (fold-roll-Stmt Marks Marks extents.of_stmt extents.of_arm z)) h)

of_layer : (y : Stmt-F ((s : Stmt) × Fits s) ((a : Arm) × ArmFits a)) → Fits (roll-Stmt (map-Stmt ((s : Stmt) × Fits s) ((a : Arm) × ArmFits a) Stmt Arm (λ e. e.0) (λ e. e.0) y))
of_layer (Stmt-F.Wire name typ) = rolled _ (agrees_declares name)
of_layer (Stmt-F.Reg name typ clock) = rolled _ (agrees_joined (agrees_mentions (references clock)) (agrees_declares name))
of_layer (Stmt-F.RegReset name typ clock reset init) = rolled _ (agrees_joined (agrees_mentions (references clock ++ references reset ++ references init)) (agrees_declares name))
of_layer (Stmt-F.Mem memory) = rolled _ (agrees_declares memory.name)
of_layer (Stmt-F.Inst name target) = rolled _ (agrees_joined (agrees_instance target) (agrees_declares name))
of_layer (Stmt-F.Node name expr) = rolled _ (agrees_joined (agrees_mentions (references expr)) (agrees_declares name))
of_layer (Stmt-F.Connect left right) = rolled _ (agrees_mentions (references left ++ references right))
of_layer (Stmt-F.Invalidate target) = rolled _ (agrees_mentions (references target))
of_layer (Stmt-F.When arms other) = rolled _ (agrees_joined (agrees_all arm_part arm_marks arms) (agrees_shut (agrees_all stmt_part stmt_marks other)))
of_layer (Stmt-F.Skip place) = rolled _ agrees_nothing

rolled_arm : (z : Arm-F Stmt Arm) → Agrees (parts.of_arm (map-Arm Stmt Arm Part Part stmt_part arm_part z)) (extents.of_arm (map-Arm Stmt Arm Marks Marks stmt_marks arm_marks z))
    → ArmFits (roll-Arm z)
rolled_arm z h = subst (λ p. Agrees p (arm_marks (roll-Arm z))) (sym (fold-roll-Arm Part Part parts.of_stmt parts.of_arm z))
    (subst (λ m. Agrees (parts.of_arm (map-Arm Stmt Arm Part Part stmt_part arm_part z)) m) (sym (fold-roll-Arm Marks Marks extents.of_stmt extents.of_arm z)) h)

of_arm_layer : (y : Arm-F ((s : Stmt) × Fits s) ((a : Arm) × ArmFits a)) → ArmFits (roll-Arm (map-Arm ((s : Stmt) × Fits s) ((a : Arm) × ArmFits a) Stmt Arm (λ e. e.0) (λ e. e.0) y))
of_arm_layer y = rolled_arm (map-Arm ((s : Stmt) × Fits s) ((a : Arm) × ArmFits a) Stmt Arm (λ e. e.0) (λ e. e.0) y)
    (agrees_joined (agrees_mentions (references y.condition)) (agrees_shut (agrees_all stmt_part stmt_marks y.body)))

agrees_stmt : (s : Stmt) → Fits s
agrees_stmt = ind-Stmt Fits ArmFits (λ x y is. subst (λ z. Fits (roll-Stmt z)) is (of_layer y)) (λ x y is. subst (λ z. ArmFits (roll-Arm z)) is (of_arm_layer y))

agrees_module : (holder : Module) → Agrees (module_part holder) (followed_by (all_marks (map (λ port. declare port.name) holder.ports)) (all_marks (map stmt_marks holder.body)))
agrees_module holder = agrees_joined (agrees_map (λ (port : Port). declares port.name) (λ port. declare port.name) (λ port. agrees_declares port.name) holder.ports)
    (agrees_map stmt_part stmt_marks agrees_stmt holder.body)

pub sees_its_blocks : (holder : Module) → (module_part holder).uses [] 0 ≡ uses_in holder
sees_its_blocks holder = sym ((agrees_module holder).uses 0 [] [] (λ b lt. refl))

pub declares_its_names : (holder : Module) → (module_part holder).declares ≡ declared_in holder
declares_its_names holder = sym ((agrees_module holder).named 0)

pub has_its_instances : (holder : Module) → (module_part holder).instances ≡ instances_in holder
has_its_instances holder = sym ((agrees_module holder).instanced 0)
