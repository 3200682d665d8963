-- The first declaration of a name in lists that are put together.
use Rattle.std.proofs.Common.{◌≡◌, ℕ, zero, suc, ◌+◌, ◌<◌, Bool, true, false, List, [], ◌∷◌, ◌++◌, map, length, take, get_or, Option, Some, None, refl, sym, ap, ◌∙◌, subst, arith, cond, nat_eq, ◌==◌, find, option_map, ◌⊎◌, inl, inr}
use Rattle.std.specs.List.{flat_map}
use Rattle.std.specs.Map.{lookup}
use Rattle.std.specs.Cmp.{nat_eq_equiv}
use Rattle.std.proofs.lemmas.Grind.{common_steps}
use Rattle.std.proofs.lemmas.Bool.{eq-eqb, ne_eqb}
use Rattle.std.proofs.lemmas.List.Folds.{flat_map-map}
use Rattle.place_text.specs.declared.place.Place.{Place}
use Rattle.fir_types.specs.declared.name.Name.{Name}
use Rattle.fir_types.specs.declared.port.Port.{Port}
use Rattle.fir_tree.specs.declared.expr.Expr.{Expr}
use Rattle.fir_tree.specs.declared.circuit.Module.{Module}
use Rattle.fir_tree.specs.declared.stmt.Stmt.{Stmt, the_lemmas}
use Rattle.fir_tree.specs.declared.stmt.Arm.{Arm}
use Rattle.fir_tree.specs.declared.stmt.Stmt.TheVariants as stmt
use Rattle.fir_tree.specs.declared.part.Part.{Part}
use Rattle.reference_flow.specs.declared.component.Reached.{Reached}
use Rattle.fir_tree.specs.Parts.{part_of, part_or_none, no_part, instance_in, port_flow}
use Rattle.reference_flow.specs.Flows.{Declared, stmt_declared, port_declared, components_of}
use Rattle.reference_flow.specs.Declarations.{arm_declared}
use Rattle.reference_flow.specs.Reached.{Means, MayMean, neither, both}

-- the first of what is found, if anything
abbrev or_else : Option Part → Option Part → Option Part
or_else (Some x) o = Some x
or_else None o = o

lookup-append : (t : ℕ → Bool) (xs ys : Declared) → lookup t (xs ++ ys) ≡ or_else (lookup t xs) (lookup t ys)
lookup-append t [] ys = refl
lookup-append t (x ∷ xs) ys = by (t x.0) (lookup-append t xs ys)
  where
    by : (b : Bool) → lookup t (xs ++ ys) ≡ or_else (lookup t xs) (lookup t ys) → cond b (Some x.1) (lookup t (xs ++ ys)) ≡ or_else (cond b (Some x.1) (lookup t xs)) (lookup t ys)
    by true h = refl
    by false h = h

none_of : (o : Option Part) → MayMean None o → o ≡ None
none_of None neither = refl
none_of (Some x) h = elim h [ ]

pub none_before : {r : Option Reached} (t : ℕ → Bool) (xs ys : Declared) → MayMean None (lookup t xs) → MayMean r (lookup t ys) → MayMean r (lookup t (xs ++ ys))
none_before {r} t xs ys n h = subst (MayMean r) (ap (λ o. or_else o (lookup t ys)) (sym (none_of (lookup t xs) n)) ∙ sym (lookup-append t xs ys)) h

first_stays : (r : Reached) (o p : Option Part) → MayMean (Some r) o → MayMean (Some r) (or_else o p)
first_stays r (Some x) p (both _ _ m) = both r x m
first_stays r None p h = elim h [ ]

pub some_before : (r : Reached) (t : ℕ → Bool) (xs ys : Declared) → MayMean (Some r) (lookup t xs) → MayMean (Some r) (lookup t (xs ++ ys))
some_before r t xs ys h = subst (MayMean (Some r)) (sym (lookup-append t xs ys)) (first_stays r (lookup t xs) (lookup t ys) h)

-- one more item

pub none_more : {A : Type 0} (f : A → Declared) (t : ℕ → Bool) (xs : List A) (i : ℕ) (x : A) → i < length xs → x ≡ get_or xs i x
    → MayMean None (lookup t (flat_map f (take i xs))) → MayMean None (lookup t (f x)) → MayMean None (lookup t (flat_map f (take (i + 1) xs)))
none_more f t xs i x l e n h =
    let step : flat_map f (take (i + 1) xs) ≡ flat_map f (take i xs) ++ f x = grind (arith, common_steps) in
    subst (λ d. MayMean None (lookup t d)) (sym step) (none_before t (flat_map f (take i xs)) (f x) n h)

split_at : {A : Type 0} (f : A → Declared) (xs : List A) (i : ℕ) (x : A) → i < length xs → x ≡ get_or xs i x
    → (rest : Declared) × (flat_map f xs ≡ flat_map f (take i xs) ++ (f x ++ rest))
split_at f [] i x l e = absurd (omega arith)
split_at f (y ∷ ys) zero x l e = (flat_map f ys, ap (λ z. f z ++ flat_map f ys) (sym e))
split_at f (y ∷ ys) (suc i) x l e =
    let r = split_at f ys i x (omega arith) e in
    (r.0, ap (λ d. f y ++ d) r.1 ∙ grind (arith, common_steps))

pub some_here : {A : Type 0} (f : A → Declared) (t : ℕ → Bool) (xs : List A) (i : ℕ) (x : A) (r : Reached) → i < length xs → x ≡ get_or xs i x
    → MayMean None (lookup t (flat_map f (take i xs))) → MayMean (Some r) (lookup t (f x)) → MayMean (Some r) (lookup t (flat_map f xs))
some_here f t xs i x r l e n h =
    let s = split_at f xs i x l e in
    subst (λ d. MayMean (Some r) (lookup t d)) (sym s.1) (none_before t (flat_map f (take i xs)) (f x ++ s.0) n (some_before r t (f x) s.0 h))

-- a single declaration

pub one_named : (name id : ℕ) (part : Part) (r : Reached) → name ≡ id → Means r part → MayMean (Some r) (lookup (nat_eq id) ((name, part) ∷ []))
one_named name id part r e m = subst (λ b. MayMean (Some r) (cond b (Some part) None)) (sym (eq-eqb id name (sym e))) (both r part m)

pub one_other : (name id : ℕ) (part : Part) → (name ≡ id → ⊥) → MayMean None (lookup (nat_eq id) ((name, part) ∷ []))
one_other name id part n = subst (λ b. MayMean None (cond b (Some part) None)) (sym (ne_eqb id name (λ e. n (sym e)))) neither

-- each statement

pub declared-when : (ms : List Module) (s : Stmt) (arms : List Arm) (other : List Stmt) → s ≡ stmt.When arms other
    → stmt_declared ms s ≡ flat_map (arm_declared ms) arms ++ flat_map (stmt_declared ms) other
declared-when ms s arms other e = grind (arith, common_steps, the_lemmas, flat_map-map)

pub declared-arm : (ms : List Module) (a : Arm) → arm_declared ms a ≡ flat_map (stmt_declared ms) a.body
declared-arm ms a = grind (arith, common_steps, the_lemmas, flat_map-map)

pub declared-inst : (ms : List Module) (s : Stmt) (name target : Name) → s ≡ stmt.Inst name target
    → stmt_declared ms s ≡ (name.id, part_or_none (instance_in ms target.id)) ∷ []
declared-inst ms s name target e = grind (arith, common_steps, the_lemmas)

pub no_some : (o : Option Reached) → ((r : Reached) → o ≡ Some r → ⊥) → o ≡ None
no_some None h = refl
no_some (Some r) h = absurd (h r refl)

-- the ports of a module

lookup_port : (ports : List Port) (id : ℕ) → lookup (nat_eq id) (map port_declared ports) ≡ option_map (λ port. (port_declared port).1) (find (λ port. port.name.id == id) ports)
lookup_port [] id = refl
lookup_port (p ∷ ps) id =
    ap (λ b. cond b (Some (port_declared p).1) (lookup (nat_eq id) (map port_declared ps))) (nat_eq_equiv.symm id p.name.id) ∙ by (p.name.id == id) (lookup_port ps id)
  where
    by : (b : Bool) → lookup (nat_eq id) (map port_declared ps) ≡ option_map (λ port. (port_declared port).1) (find (λ port. port.name.id == id) ps)
        → cond b (Some (port_declared p).1) (lookup (nat_eq id) (map port_declared ps)) ≡ option_map (λ port. (port_declared port).1) (cond b (Some p) (find (λ port. port.name.id == id) ps))
    by true h = refl
    by false h = h

pub component-port : (ms : List Module) (holder : Module) (id : ℕ) (port : Port) → Some port ≡ find (λ p. p.name.id == id) holder.ports
    → components_of ms holder id ≡ part_of port.typ (port_flow port)
component-port ms holder id port e =
    ap part_or_none (lookup-append (nat_eq id) (map port_declared holder.ports) (flat_map (stmt_declared ms) holder.body)
    ∙ ap (λ o. or_else o (lookup (nat_eq id) (flat_map (stmt_declared ms) holder.body))) (lookup_port holder.ports id ∙ ap (option_map (λ p. (port_declared p).1)) (sym e)))

component-body : (ms : List Module) (holder : Module) (id : ℕ) → None ≡ find (λ p. p.name.id == id) holder.ports
    → components_of ms holder id ≡ part_or_none (lookup (nat_eq id) (flat_map (stmt_declared ms) holder.body))
component-body ms holder id e =
    ap part_or_none (lookup-append (nat_eq id) (map port_declared holder.ports) (flat_map (stmt_declared ms) holder.body)
    ∙ ap (λ o. or_else o (lookup (nat_eq id) (flat_map (stmt_declared ms) holder.body))) (lookup_port holder.ports id ∙ ap (option_map (λ p. (port_declared p).1)) (sym e)))

means_found : (r : Reached) (o : Option Part) → MayMean (Some r) o → Means r (part_or_none o)
means_found r (Some p) (both _ _ m) = m
means_found r None h = elim h [ ]

pub body_found : (ms : List Module) (holder : Module) (id : ℕ) (r : Reached) → None ≡ find (λ p. p.name.id == id) holder.ports
    → MayMean (Some r) (lookup (nat_eq id) (flat_map (stmt_declared ms) holder.body)) → Means r (components_of ms holder id)
body_found ms holder id r e h = subst (Means r) (sym (component-body ms holder id e)) (means_found r _ h)

pub nothing_found : (ms : List Module) (holder : Module) (id : ℕ) → None ≡ find (λ p. p.name.id == id) holder.ports
    → MayMean None (lookup (nat_eq id) (flat_map (stmt_declared ms) holder.body)) → components_of ms holder id ≡ no_part
nothing_found ms holder id e h = component-body ms holder id e ∙ ap part_or_none (none_of _ h)

-- the statements that declare nothing

declared-connect : (ms : List Module) (s : Stmt) (left right : Expr) → s ≡ stmt.Connect left right → stmt_declared ms s ≡ []
declared-connect ms s left right e = grind (arith, common_steps, the_lemmas)

declared-invalidate : (ms : List Module) (s : Stmt) (target : Expr) → s ≡ stmt.Invalidate target → stmt_declared ms s ≡ []
declared-invalidate ms s target e = grind (arith, common_steps, the_lemmas)

declared-skip : (ms : List Module) (s : Stmt) (place : Place) → s ≡ stmt.Skip place → stmt_declared ms s ≡ []
declared-skip ms s place e = grind (arith, common_steps, the_lemmas)

pub declares_nothing : (ms : List Module) (s : Stmt)
    → ((left : Expr) × (right : Expr) × (s ≡ stmt.Connect left right)) ⊎ (((target : Expr) × (s ≡ stmt.Invalidate target)) ⊎ ((place : Place) × (s ≡ stmt.Skip place)))
    → stmt_declared ms s ≡ []
declares_nothing ms s (inl (left, right, e)) = declared-connect ms s left right e
declares_nothing ms s (inr (inl (target, e))) = declared-invalidate ms s target e
declares_nothing ms s (inr (inr (place, e))) = declared-skip ms s place e
