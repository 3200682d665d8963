-- Sums of statements, one more at a time.
use Rattle.std.proofs.Common.{◌≡◌, ℕ, zero, suc, ◌+◌, ◌<◌, ◌≤◌, max, List, [], ◌∷◌, ◌++◌, map, sum, take, drop, length, get_or, refl, sym, ap, ap₂, ◌∙◌, arith}
use Rattle.std.specs.Prelude.{Result, Ok, Err, IfOk}
use Rattle.std.proofs.lemmas.Grind.{common_steps}
use Rattle.std.proofs.lemmas.List.{map_more, drop_more}
use Rattle.fir_tree.specs.declared.stmt.Stmt.{Stmt, the_lemmas as stmt_lemmas}
use Rattle.fir_tree.specs.declared.stmt.Stmt.TheVariants as stmt
use Rattle.fir_tree.specs.declared.stmt.Arm.{Arm}
use Rattle.fir_tree.specs.declared.expr.Expr.{Expr}
use Rattle.fir_types.specs.declared.name.Name.{Name}
use Rattle.fir_types.specs.declared.memory.Memory.{Memory}
use Rattle.fir_types.specs.declared.fir_type.FirType.{FirType}
use Rattle.fir_types.specs.Leaves.{count}
use Rattle.fir_tree.specs.LeafNames.{Texts}
use Rattle.size_check.specs.declared.sums.Sums.{Sums}
use Rattle.size_check.specs.Caps.{cap, capped}
use Rattle.size_check.specs.Measures.{nothing, plus, together, greatest}
use Rattle.size_check.specs.Weights.{Typing, nodes, weight}
use Rattle.fir_tree.specs.declared.circuit.Module.{Module}
use Rattle.size_check.specs.Typings.{Known, typing, typing_in, known_in}
use Rattle.size_check.specs.Owns.{Own, port_own, module_own, OwnArm, sized, flat, stored, celled, cells, captured, of_memory, all_own, arms_own, nodes_in, stmt_own, arm_own}
use Rattle.size_check.proofs.Capping.{capped_plus, capped_left, capped_right, plus_later, plus_nothing, nothing_plus, sized_cap, capped_again, cap_max}

together-append : (xs : List Sums) (x : Sums) → together (xs ++ x ∷ []) ≡ plus (together xs) x
together-append [] x = plus_nothing x ∙ sym (nothing_plus x)
together-append (y ∷ xs) x = ap (plus y) (together-append xs x) ∙ sym (plus_later y (together xs) x)

-- one more
pub together_more : {X : Type 0} (own : X → Sums) (xs : List X) (i : ℕ) (x : X) (before one after : Sums) → i < length xs → x ≡ get_or xs i x
    → before ≡ capped (together (map own (take i xs))) → one ≡ capped (own x) → after ≡ capped (plus before one) → after ≡ capped (together (map own (take (i + 1) xs)))
together_more own xs i x before one after lt is h o e =
    e ∙ ap₂ (λ a b. capped (plus a b)) h o ∙ capped_plus (together (map own (take i xs))) (own x)
    ∙ ap (λ y. capped (plus (together (map own (take i xs))) (own y))) is
    ∙ sym (ap capped (ap together (map_more own xs i x lt) ∙ together-append (map own (take i xs)) (own (get_or xs i x))))

all_own-is : {X : Type 0} (own : X → Own) (xs : List X) (around : ℕ) → all_own (map own xs) around ≡ together (map (λ x. own x around) xs)
all_own-is own [] around = refl
all_own-is own (x ∷ xs) around = ap (plus (own x around)) (all_own-is own xs around)

pub all_more : {X : Type 0} (own : X → Own) (xs : List X) (i : ℕ) (x : X) (around : ℕ) (before one after : Sums) → i < length xs → x ≡ get_or xs i x
    → before ≡ capped (all_own (map own (take i xs)) around) → one ≡ capped (own x around) → after ≡ capped (plus before one)
    → after ≡ capped (all_own (map own (take (i + 1) xs)) around)
all_more own xs i x around before one after lt is h o e =
    together_more (λ y. own y around) xs i x before one after lt is (h ∙ ap capped (all_own-is own (take i xs) around)) o e
    ∙ sym (ap capped (all_own-is own (take (i + 1) xs) around))

-- a size, and another sum
pub sized_plus : (n most around : ℕ) (first second : Sums) (other after : Sums) → first ≡ capped (sized n (cap most) around) → second ≡ capped other
    → after ≡ capped (plus first second) → after ≡ capped (plus (sized n most around) other)
sized_plus n most around first second other after f s e =
    e ∙ ap₂ (λ a b. capped (plus a b)) (f ∙ sized_cap n most around) s ∙ capped_plus (sized n most around) other

pub two_plus : (a b : Sums) (first second after : Sums) → first ≡ capped a → second ≡ capped b → after ≡ capped (plus first second) → after ≡ capped (plus a b)
two_plus a b first second after f s e = e ∙ ap₂ (λ x y. capped (plus x y)) f s ∙ capped_plus a b

-- Arms

arm_own-is : (texts : Texts) (types : Typing) (a : Arm)
    → arm_own texts types a ≡ record { nodes = nodes a.condition; most = (weight a.condition types).most; body = all_own (map (stmt_own texts types) a.body) }
arm_own-is texts types a = grind (arith, common_steps, stmt_lemmas)

own_nodes : (texts : Texts) (types : Typing) (arms : List Arm) → nodes_in (map (arm_own texts types) arms) ≡ sum (map (λ arm. nodes arm.condition) arms)
own_nodes texts types arms = ap sum (each arms)
  where
    each : (list : List Arm) → map (λ (o : OwnArm). o.nodes) (map (arm_own texts types) list) ≡ map (λ arm. nodes arm.condition) list
    each [] = refl
    each (a ∷ list) = ap₂ (λ n l. n ∷ l) (ap (λ (o : OwnArm). o.nodes) (arm_own-is texts types a)) (each list)

own_most : (texts : Texts) (types : Typing) (arms : List Arm)
    → greatest (map (λ (o : OwnArm). o.most) (map (arm_own texts types) arms)) ≡ greatest (map (λ arm. (weight arm.condition types).most) arms)
own_most texts types [] = refl
own_most texts types (a ∷ list) = ap₂ (λ n m. max n m) (ap (λ (o : OwnArm). o.most) (arm_own-is texts types a)) (own_most texts types list)

pub arms_more : (texts : Texts) (types : Typing) (arms : List Arm) (i : ℕ) (arm : Arm) (whole total one after : Sums) (conditions own more : ℕ)
    → i < length arms → arm ≡ get_or arms i arm
    → whole ≡ capped (plus total (arms_own (map (arm_own texts types) (drop i arms)) conditions))
    → own ≡ nodes arm.condition → more ≡ conditions + own → one ≡ capped (all_own (map (stmt_own texts types) arm.body) more) → after ≡ capped (plus total one)
    → whole ≡ capped (plus after (arms_own (map (arm_own texts types) (drop (i + 1) arms)) more))
arms_more texts types arms i arm whole total one after conditions own more lt is h n m o e =
    let rest = map (arm_own texts types) (drop (i + 1) arms) in
    let f = arm_own texts types arm in
    let split : map (arm_own texts types) (drop i arms) ≡ f ∷ rest = ap (map (arm_own texts types)) (drop_more arms i arm lt) ∙ ap (λ a. arm_own texts types a ∷ rest) (sym is) in
    let there : conditions + f.nodes ≡ more = ap (λ k. conditions + k) (ap (λ (x : OwnArm). x.nodes) (arm_own-is texts types arm) ∙ sym n) ∙ sym m in
    let inside : capped (f.body more) ≡ one = ap (λ (x : OwnArm). capped (x.body more)) (arm_own-is texts types arm) ∙ sym o in
    h ∙ ap (λ l. capped (plus total (arms_own l conditions))) split
    ∙ ap (λ k. capped (plus total (plus (f.body k) (arms_own rest k)))) there
    ∙ ap capped (sym (plus_later total (f.body more) (arms_own rest more)))
    ∙ sym (capped_left (plus total (f.body more)) (arms_own rest more))
    ∙ ap (λ x. capped (plus x (arms_own rest more))) (sym (capped_right total (f.body more)) ∙ ap (λ x. capped (plus total x)) inside ∙ sym e)

drop_past : {X : Type 0} (xs : List X) (i : ℕ) → length xs ≤ i → drop i xs ≡ []
drop_past [] zero h = refl
drop_past [] (suc i) h = refl
drop_past (x ∷ xs) zero h = absurd (omega arith)
drop_past (x ∷ xs) (suc i) h = drop_past xs i (omega arith)

pub arms_begin : (texts : Texts) (types : Typing) (arms : List Arm) (around : ℕ) (total : Sums) → total ≡ nothing
    → capped (arms_own (map (arm_own texts types) arms) around) ≡ capped (plus total (arms_own (map (arm_own texts types) arms) around))
arms_begin texts types arms around total e =
    ap capped (sym (nothing_plus (arms_own (map (arm_own texts types) arms) around))) ∙ ap (λ t. capped (plus t (arms_own (map (arm_own texts types) arms) around))) (sym e)

pub arms_end : (texts : Texts) (types : Typing) (arms : List Arm) (i : ℕ) (whole total : Sums) (conditions : ℕ) → length arms ≤ i
    → whole ≡ capped (plus total (arms_own (map (arm_own texts types) (drop i arms)) conditions)) → total ≡ capped total → total ≡ whole
arms_end texts types arms i whole total conditions l h s =
    s ∙ sym (h ∙ ap (λ r. capped (plus total (arms_own (map (arm_own texts types) r) conditions))) (drop_past arms i l) ∙ ap capped (plus_nothing total))

pub small_more : (a b after : Sums) → after ≡ capped (plus a b) → after ≡ capped after
small_more a b after e = e ∙ sym (capped_again (plus a b)) ∙ sym (ap capped e)

when_own : (texts : Texts) (types : Typing) (s : Stmt) (arms : List Arm) (other : List Stmt) (around : ℕ) → s ≡ stmt.When arms other
    → stmt_own texts types s around ≡ plus (sized (nodes_in (map (arm_own texts types) arms)) (greatest (map (λ (o : OwnArm). o.most) (map (arm_own texts types) arms))) around)
    (plus (arms_own (map (arm_own texts types) arms) around) (all_own (map (stmt_own texts types) other) (around + nodes_in (map (arm_own texts types) arms))))
when_own texts types s arms other around e = grind (arith, common_steps, stmt_lemmas)

pub when_sums : (texts : Texts) (types : Typing) (s : Stmt) (arms : List Arm) (other : List Stmt) (around most own later : ℕ) (size inside last both after : Sums)
    → s ≡ stmt.When arms other → most ≡ cap (greatest (map (λ arm. (weight arm.condition types).most) arms)) → own ≡ sum (map (λ arm. nodes arm.condition) arms)
    → size ≡ capped (sized own most around) → inside ≡ capped (arms_own (map (arm_own texts types) arms) around) → later ≡ around + own
    → last ≡ capped (all_own (map (stmt_own texts types) other) later) → both ≡ capped (plus inside last) → after ≡ capped (plus size both)
    → after ≡ capped (stmt_own texts types s around)
when_sums texts types s arms other around most own later size inside last both after is m n z i l t b a =
    let count : own ≡ nodes_in (map (arm_own texts types) arms) = n ∙ sym (own_nodes texts types arms) in
    let top = greatest (map (λ (o : OwnArm). o.most) (map (arm_own texts types) arms)) in
    let least : most ≡ cap top = m ∙ ap cap (sym (own_most texts types arms)) in
    let blocks = arms_own (map (arm_own texts types) arms) around in
    let rest = all_own (map (stmt_own texts types) other) (around + nodes_in (map (arm_own texts types) arms)) in
    let ends : last ≡ capped rest = t ∙ ap (λ k. capped (all_own (map (stmt_own texts types) other) k)) (l ∙ ap (λ k. around + k) count) in
    sized_plus (nodes_in (map (arm_own texts types) arms)) top around size both (plus blocks rest) after
    (z ∙ ap₂ (λ x y. capped (sized x y around)) count least) (two_plus blocks rest inside last both i ends b) a
    ∙ sym (ap capped (when_own texts types s arms other around is))

-- The other statements

own-wire : (texts : Texts) (types : Typing) (s : Stmt) (name : Name) (typ : FirType) (around : ℕ) → s ≡ stmt.Wire name typ
    → stmt_own texts types s around ≡ plus (sized 0 (count typ) around) (flat texts name.id typ)
own-wire texts types s name typ around e = grind (arith, common_steps, stmt_lemmas)

own-reg : (texts : Texts) (types : Typing) (s : Stmt) (name : Name) (typ : FirType) (clock : Expr) (around : ℕ) → s ≡ stmt.Reg name typ clock
    → stmt_own texts types s around ≡ plus (sized (nodes clock) (max (count typ) (weight clock types).most) around) (plus (flat texts name.id typ) (stored (count typ)))
own-reg texts types s name typ clock around e = grind (arith, common_steps, stmt_lemmas)

own-reg_reset : (texts : Texts) (types : Typing) (s : Stmt) (name : Name) (typ : FirType) (clock reset init : Expr) (around : ℕ) → s ≡ stmt.RegReset name typ clock reset init
    → stmt_own texts types s around ≡ plus (sized (nodes clock + nodes reset + nodes init) (max (max (count typ) (weight clock types).most) (max (weight reset types).most (weight init types).most)) around)
    (plus (flat texts name.id typ) (stored (count typ)))
own-reg_reset texts types s name typ clock reset init around e = grind (arith, common_steps, stmt_lemmas)

own-node : (texts : Texts) (types : Typing) (s : Stmt) (name : Name) (e : Expr) (around : ℕ) → s ≡ stmt.Node name e
    → stmt_own texts types s around ≡ plus (sized (nodes e) (max (count (types name.id)) (weight e types).most) around) (flat texts name.id (types name.id))
own-node texts types s name e around is = grind (arith, common_steps, stmt_lemmas)

own-inst : (texts : Texts) (types : Typing) (s : Stmt) (name target : Name) (around : ℕ) → s ≡ stmt.Inst name target
    → stmt_own texts types s around ≡ sized 0 (count (types name.id)) around
own-inst texts types s name target around is = grind (arith, common_steps, stmt_lemmas)

own-connect : (texts : Texts) (types : Typing) (s : Stmt) (left right : Expr) (around : ℕ) → s ≡ stmt.Connect left right
    → stmt_own texts types s around ≡ sized (nodes left + nodes right) (max (weight left types).most (weight right types).most) around
own-connect texts types s left right around is = grind (arith, common_steps, stmt_lemmas)

own-invalidate : (texts : Texts) (types : Typing) (s : Stmt) (target : Expr) (around : ℕ) → s ≡ stmt.Invalidate target
    → stmt_own texts types s around ≡ sized (nodes target) (weight target types).most around
own-invalidate texts types s target around is = grind (arith, common_steps, stmt_lemmas)

pub wire_sums : (texts : Texts) (types : Typing) (s : Stmt) (name : Name) (typ : FirType) (around most : ℕ) (size leaves after : Sums) → s ≡ stmt.Wire name typ
    → most ≡ cap (count typ) → size ≡ capped (sized 0 most around) → leaves ≡ capped (flat texts name.id typ) → after ≡ capped (plus size leaves)
    → after ≡ capped (stmt_own texts types s around)
wire_sums texts types s name typ around most size leaves after is m z f a =
    sized_plus 0 (count typ) around size leaves (flat texts name.id typ) after (z ∙ ap (λ x. capped (sized 0 x around)) m) f a ∙ sym (ap capped (own-wire texts types s name typ around is))

no_more : (n : ℕ) → n + 0 ≡ n
no_more n = omega arith

-- the leaves of a register
pub register_leaves : (texts : Texts) (id : ℕ) (typ : FirType) (kept : Sums) → kept ≡ capped (plus (flat texts id typ) (stored (count typ))) → kept.leaves ≡ cap (count typ)
register_leaves texts id typ kept h = ap (λ (s : Sums). s.leaves) h ∙ ap cap (no_more (count typ))

pub reg_sums : (texts : Texts) (types : Typing) (s : Stmt) (name : Name) (typ : FirType) (clock : Expr) (around leaves own asked top : ℕ) (size kept after : Sums) → s ≡ stmt.Reg name typ clock
    → leaves ≡ cap (count typ) → asked ≡ cap (weight clock types).most → top ≡ max leaves asked → own ≡ nodes clock → size ≡ capped (sized own top around)
    → kept ≡ capped (plus (flat texts name.id typ) (stored (count typ))) → after ≡ capped (plus size kept) → after ≡ capped (stmt_own texts types s around)
reg_sums texts types s name typ clock around leaves own asked top size kept after is l w t n z k a =
    let top' : top ≡ cap (max (count typ) (weight clock types).most) = t ∙ ap₂ (λ x y. max x y) l w ∙ cap_max (count typ) (weight clock types).most in
    sized_plus (nodes clock) (max (count typ) (weight clock types).most) around size kept (plus (flat texts name.id typ) (stored (count typ))) after
    (z ∙ ap₂ (λ x y. capped (sized x y around)) n top') k a ∙ sym (ap capped (own-reg texts types s name typ clock around is))

pub reset_sums : (texts : Texts) (types : Typing) (s : Stmt) (name : Name) (typ : FirType) (clock reset init : Expr) (around leaves asked first third fourth second top own : ℕ) (size kept after : Sums)
    → s ≡ stmt.RegReset name typ clock reset init
    → leaves ≡ cap (count typ) → asked ≡ cap (weight clock types).most → first ≡ max leaves asked → third ≡ cap (weight reset types).most → fourth ≡ cap (weight init types).most
    → second ≡ max third fourth → top ≡ max first second → own ≡ nodes clock + nodes reset + nodes init → size ≡ capped (sized own top around)
    → kept ≡ capped (plus (flat texts name.id typ) (stored (count typ))) → after ≡ capped (plus size kept) → after ≡ capped (stmt_own texts types s around)
reset_sums texts types s name typ clock reset init around leaves asked first third fourth second top own size kept after is l w f r i g t n z k a =
    let one : first ≡ cap (max (count typ) (weight clock types).most) = f ∙ ap₂ (λ x y. max x y) l w ∙ cap_max (count typ) (weight clock types).most in
    let two : second ≡ cap (max (weight reset types).most (weight init types).most) = g ∙ ap₂ (λ x y. max x y) r i ∙ cap_max (weight reset types).most (weight init types).most in
    let whole = max (max (count typ) (weight clock types).most) (max (weight reset types).most (weight init types).most) in
    let top' : top ≡ cap whole = t ∙ ap₂ (λ x y. max x y) one two ∙ cap_max (max (count typ) (weight clock types).most) (max (weight reset types).most (weight init types).most) in
    sized_plus (nodes clock + nodes reset + nodes init) whole around size kept (plus (flat texts name.id typ) (stored (count typ))) after
    (z ∙ ap₂ (λ x y. capped (sized x y around)) n top') k a ∙ sym (ap capped (own-reg_reset texts types s name typ clock reset init around is))

pub node_sums : (texts : Texts) (types : Typing) (s : Stmt) (name : Name) (e : Expr) (around leaves asked top own : ℕ) (size kept after : Sums) → s ≡ stmt.Node name e
    → leaves ≡ cap (count (types name.id)) → asked ≡ cap (weight e types).most → top ≡ max leaves asked → own ≡ nodes e → size ≡ capped (sized own top around)
    → kept ≡ capped (flat texts name.id (types name.id)) → after ≡ capped (plus size kept) → after ≡ capped (stmt_own texts types s around)
node_sums texts types s name e around leaves asked top own size kept after is l w t n z k a =
    let top' : top ≡ cap (max (count (types name.id)) (weight e types).most) = t ∙ ap₂ (λ x y. max x y) l w ∙ cap_max (count (types name.id)) (weight e types).most in
    sized_plus (nodes e) (max (count (types name.id)) (weight e types).most) around size kept (flat texts name.id (types name.id)) after
    (z ∙ ap₂ (λ x y. capped (sized x y around)) n top') k a ∙ sym (ap capped (own-node texts types s name e around is))

pub inst_sums : (texts : Texts) (types : Typing) (s : Stmt) (name target : Name) (around leaves : ℕ) (after : Sums) → s ≡ stmt.Inst name target
    → leaves ≡ cap (count (types name.id)) → after ≡ capped (sized 0 leaves around) → after ≡ capped (stmt_own texts types s around)
inst_sums texts types s name target around leaves after is l z =
    z ∙ ap (λ x. capped (sized 0 x around)) l ∙ sized_cap 0 (count (types name.id)) around ∙ sym (ap capped (own-inst texts types s name target around is))

pub connect_sums : (texts : Texts) (types : Typing) (s : Stmt) (left right : Expr) (around first second top own : ℕ) (after : Sums) → s ≡ stmt.Connect left right
    → first ≡ cap (weight left types).most → second ≡ cap (weight right types).most → top ≡ max first second → own ≡ nodes left + nodes right → after ≡ capped (sized own top around)
    → after ≡ capped (stmt_own texts types s around)
connect_sums texts types s left right around first second top own after is f g t n z =
    z ∙ ap₂ (λ x y. capped (sized x y around)) n (t ∙ ap₂ (λ x y. max x y) f g ∙ cap_max (weight left types).most (weight right types).most)
    ∙ sized_cap (nodes left + nodes right) (max (weight left types).most (weight right types).most) around ∙ sym (ap capped (own-connect texts types s left right around is))

pub invalidate_sums : (texts : Texts) (types : Typing) (s : Stmt) (target : Expr) (around most own : ℕ) (after : Sums) → s ≡ stmt.Invalidate target
    → most ≡ cap (weight target types).most → own ≡ nodes target → after ≡ capped (sized own most around) → after ≡ capped (stmt_own texts types s around)
invalidate_sums texts types s target around most own after is m n z =
    z ∙ ap₂ (λ x y. capped (sized x y around)) n m ∙ sized_cap (nodes target) (weight target types).most around ∙ sym (ap capped (own-invalidate texts types s target around is))

pub memory_sums : (texts : Texts) (types : Typing) (memory : Memory) (around leaves : ℕ) (size ports elements kept inner both after : Sums)
    → leaves ≡ cap (count (types memory.name.id)) → size ≡ capped (sized 0 leaves around) → ports ≡ capped (flat texts memory.name.id (types memory.name.id))
    → elements ≡ capped (celled texts memory.name.id (cells memory)) → kept ≡ capped (stored (captured memory)) → inner ≡ capped (plus elements kept) → both ≡ capped (plus ports inner)
    → after ≡ capped (plus size both) → after ≡ capped (of_memory texts types memory around)
memory_sums texts types memory around leaves size ports elements kept inner both after l z p c k i b a =
    let cs = celled texts memory.name.id (cells memory) in
    let ks = stored (captured memory) in
    let fs = flat texts memory.name.id (types memory.name.id) in
    sized_plus 0 (count (types memory.name.id)) around size both (plus fs (plus cs ks)) after (z ∙ ap (λ x. capped (sized 0 x around)) l)
    (two_plus fs (plus cs ks) ports inner both p (two_plus cs ks elements kept inner c k i) b) a

pub module_sums : (texts : Texts) (modules : List Module) (holder : Module) (entries : Known) (ports body after : Sums) → entries ≡ known_in modules holder
    → ports ≡ capped (together (map (port_own texts) holder.ports)) → body ≡ capped (all_own (map (stmt_own texts (typing entries)) holder.body) 0)
    → after ≡ capped (plus ports body) → after ≡ capped (module_own texts modules holder)
module_sums texts modules holder entries ports body after e p b a =
    two_plus (together (map (port_own texts) holder.ports)) (all_own (map (stmt_own texts (typing_in modules holder)) holder.body) 0) ports body after
    p (b ∙ ap (λ k. capped (all_own (map (stmt_own texts (typing k)) holder.body) 0)) e) a

pub ok_then : {T E : Type 0} {P Q : T → Type 0} (r : Result T E) → ((x : T) → P x → Q x) → IfOk r P → IfOk r Q
ok_then (Ok x) f h = f x h
ok_then (Err e) f h = h
