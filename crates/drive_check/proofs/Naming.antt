-- The names that arms declare, and one module after another.
use Rattle.std.proofs.Common.{◌≡◌, ℕ, ◌+◌, ◌<◌, Bool, true, false, append-nil, List, ◌∷◌, ◌++◌, map, length, drop, get_or, sym, ap, ap₂, ◌∙◌, arith, append_assoc}
use Rattle.std.specs.List.{flat_map}
use Rattle.std.proofs.lemmas.Grind.{common_steps}
use Rattle.std.proofs.lemmas.List.{drop_more, drop-drop, get_or-drop}
use Rattle.std.proofs.lemmas.List.Folds.{flat_map-map}
use Rattle.fir_types.specs.declared.name.Name.{Name}
use Rattle.fir_types.specs.declared.fir_type.FirType.{FirType}
use Rattle.fir_types.specs.declared.port.Port.{Port}
use Rattle.fir_tree.specs.declared.circuit.Module.{Module}
use Rattle.fir_tree.specs.declared.stmt.Stmt.{Stmt, the_lemmas as stmt_lemmas}
use Rattle.fir_tree.specs.declared.stmt.Stmt.TheVariants as stmt
use Rattle.fir_tree.specs.declared.stmt.Arm.{Arm}
use Rattle.fir_meaning.specs.Components.{Leaf}
use Rattle.fir_meaning.specs.Mentions.{Scope}
use Rattle.drive_check.specs.declared.fault.DriveFault.{DriveFault}
use Rattle.drive_check.specs.declared.leaf_set.LeafKey.{LeafKey}
use Rattle.drive_check.specs.Keys.{is_among}
use Rattle.drive_check.specs.Sites.{all_names, stmt_names, arm_names, names_of}
use Rattle.drive_check.specs.Walks.{Certain, any_certain, faults_from, walked}
use Rattle.drive_check.specs.Modules.{port_faults, body_walked, faults_in, module_faults, where_reached, modules_faults}

pub arm_names_is : (a : Arm) → arm_names a ≡ flat_map stmt_names a.body
arm_names_is a = folded ∙ flat_map-map (λ names. names) stmt_names a.body
  where
    folded : arm_names a ≡ all_names (map stmt_names a.body)
    folded = grind (arith, common_steps, stmt_lemmas)

pub when_names_are : (s : Stmt) (arms : List Arm) (other : List Stmt) → s ≡ stmt.When arms other → stmt_names s ≡ flat_map arm_names arms ++ flat_map stmt_names other
when_names_are s arms other e =
    ap stmt_names e ∙ folded ∙ ap₂ (λ a b. a ++ b) (flat_map-map (λ names. names) arm_names arms) (flat_map-map (λ names. names) stmt_names other)
  where
    folded : stmt_names (stmt.When arms other) ≡ all_names (map arm_names arms) ++ all_names (map stmt_names other)
    folded = grind (arith, common_steps, stmt_lemmas)

pub module_told : (T S : Scope) (holder : Module) (ports : List Port) (keys : List LeafKey) (old mid after : List DriveFault) → ((id : ℕ) → T id ≡ S id)
    → ((leaf : Leaf) → is_among keys leaf ≡ any_certain (map (walked T) holder.body) leaf) → mid ≡ old ++ faults_from (map (walked T) holder.body)
    → after ≡ mid ++ flat_map (port_faults T (is_among keys)) ports → ports ≡ holder.ports → after ≡ old ++ faults_in S holder
module_told T S holder ports keys old mid after same h f g p =
    let scopes : T ≡ S = λ i id. same id i in
    let sets : is_among keys ≡ any_certain (body_walked T holder) = λ i leaf. h leaf i in
    g ∙ ap (λ ps. mid ++ flat_map (port_faults T (is_among keys)) ps) p ∙ ap₂ (λ (l : List DriveFault) (c : Certain). l ++ flat_map (port_faults T c) holder.ports) f sets ∙ append_assoc old _ _ ∙ ap (λ t. old ++ faults_in t holder) scopes

pub modules_more : (modules : List Module) (reached : List Bool) (i n : ℕ) (x : Module) (names : List Name) (rest rest' : List FirType) (total faults after : List DriveFault)
    → i < length modules → x ≡ get_or modules i x → total ≡ faults ++ modules_faults (drop i modules) rest (drop i reached)
    → after ≡ faults ++ where_reached (get_or reached i false) (module_faults x rest) → names ≡ names_of x → n ≡ length names → rest' ≡ drop n rest
    → total ≡ after ++ modules_faults (drop (i + 1) modules) rest' (drop (i + 1) reached)
modules_more modules reached i n x names rest rest' total faults after lt is h a e m r =
    let front : drop i modules ≡ x ∷ drop (i + 1) modules = drop_more modules i x lt ∙ ap (λ y. y ∷ drop (i + 1) modules) (sym is) in
    let flag : get_or (drop i reached) 0 false ≡ get_or reached i false = get_or-drop i reached 0 false ∙ ap (λ k. get_or reached k false) (omega arith) in
    let later : drop 1 (drop i reached) ≡ drop (i + 1) reached = drop-drop 1 i reached in
    let types : drop (length (names_of x)) rest ≡ rest' = sym (r ∙ ap (λ k. drop k rest) (m ∙ ap length e)) in
    h ∙ ap (λ l. faults ++ modules_faults l rest (drop i reached)) front
    ∙ ap₂ (λ (b : Bool) (fs : List DriveFault). faults ++ (where_reached b (module_faults x rest) ++ fs)) flag
    (ap₂ (λ (t : List FirType) (bs : List Bool). modules_faults (drop (i + 1) modules) t bs) types later)
    ∙ sym (append_assoc faults (where_reached (get_or reached i false) (module_faults x rest)) (modules_faults (drop (i + 1) modules) rest' (drop (i + 1) reached)))
    ∙ ap (λ l. l ++ modules_faults (drop (i + 1) modules) rest' (drop (i + 1) reached)) (sym a)

pub where_true : (faults fs : List DriveFault) (b : Bool) → b ≡ true → faults ++ fs ≡ faults ++ where_reached b fs
where_true faults fs b e = sym (ap (λ x. faults ++ where_reached x fs) e)

pub where_false : (faults fs : List DriveFault) (b : Bool) → b ≡ false → faults ≡ faults ++ where_reached b fs
where_false faults fs b e = sym (append-nil faults) ∙ sym (ap (λ x. faults ++ where_reached x fs) e)
