-- Scopes and faults of names carry over to a circuit with the same names.
use Rattle.std.proofs.Common.{arith, ◌≡◌, ℕ, zero, suc, ◌<◌, Bool, true, List, [], ◌∷◌, ◌++◌, map, length, Option, Some, None, slice_get, refl, sym, ap, ◌∙◌, subst}
use Rattle.std.specs.Prelude.{◌↔◌, Contains, option_map}
use Rattle.std.specs.List.{flat_map, AllZip}
use Rattle.std.proofs.lemmas.List.{length-map}
use Rattle.place_text.specs.First.{HasNone}
use Rattle.fir_types.specs.declared.name.Name.{Name}
use Rattle.fir_tree.specs.declared.circuit.Circuit.{Circuit}
use Rattle.fir_tree.specs.declared.circuit.Module.{Module}
use Rattle.fir_tree.specs.declared.scope.Scope.{Scope}
use Rattle.fir_names.specs.declared.fault.NameFault.{NameFault}
use Rattle.fir_names.specs.declared.fault.NameFault.TheVariants.{NoMain}
use Rattle.fir_names.specs.Extents.{Use, Mark, marks_in, uses_behind, declared_by, instantiated_by, uses_in, declared_in, instances_in}
use Rattle.fir_names.specs.Scopes.{texts, module_names, FirstOf, Means, Instance, Reaches, itself, through, Names, IsScope}
use Rattle.fir_names.specs.Faults.{IsTwice, IsFault, no_main, module_twice, module_unknown, instance_loop, name_twice, name_unknown}
use Rattle.reset_names.proofs.Marking.{SameNames, turned}

-- a module of the other circuit with the same names
record Other (modules : List Module) (at : ℕ) (m : Module) : Type 0 where
  other : Module
  here : slice_get modules at ≡ Some other
  marks : marks_in other ≡ marks_in m

some_same : {X : Type 0} {x y : X} → Some x ≡ Some y → x ≡ y
some_same e = cc

got : {X Y : Type 0} (f : X → Y) (xs : List X) (at : ℕ) → slice_get (map f xs) at ≡ option_map f (slice_get xs at)
got f [] at = refl
got f (x ∷ xs) zero = refl
got f (x ∷ xs) (suc at) = got f xs at

other_at : (ms others : List Module) (at : ℕ) (m : Module) → map marks_in ms ≡ map marks_in others → slice_get ms at ≡ Some m → Other others at m
other_at ms others at m same here = by (slice_get others at) refl (sym (got marks_in others at) ∙ ap (λ l. slice_get l at) (sym same) ∙ got marks_in ms at ∙ ap (option_map marks_in) here)
  where
    by : (o : Option Module) → slice_get others at ≡ o → option_map marks_in (slice_get others at) ≡ Some (marks_in m) → Other others at m
    by None e f = absurd (none (sym (ap (option_map marks_in) e) ∙ f))
      where
        none : {x : List Mark} → None ≡ Some x → ⊥
        none g = absurd cc
    by (Some x) e f = record { other = x; here = e; marks = some_same (sym (ap (option_map marks_in) e) ∙ f) }

record Held (modules : List Module) (m : Module) : Type 0 where
  other : Module
  has : Contains modules other
  marks : marks_in other ≡ marks_in m

held : (ms others : List Module) (m : Module) → map marks_in ms ≡ map marks_in others → Contains ms m → Held others m
held ms others m same c = let k = at ms m c in let o = other_at ms others k.0 m same k.1 in record { other = o.other; has = back others k.0 o.other o.here; marks = o.marks }
  where
    at : (xs : List Module) (x : Module) → Contains xs x → (k : ℕ) × (slice_get xs k ≡ Some x)
    at [] x (k, below, is) = absurd (omega arith)
    at (y ∷ xs) x (zero, below, is) = (0, ap Some is)
    at (y ∷ xs) x (suc k, below, is) = let r = at xs x (k, omega arith, is) in (suc r.0, r.1)

    none : {x : Module} → None ≡ Some x → ⊥
    none g = absurd cc

    back : (xs : List Module) (k : ℕ) (x : Module) → slice_get xs k ≡ Some x → Contains xs x
    back [] k x e = absurd (none e)
    back (y ∷ xs) zero x e = (0, omega arith, some_same e)
    back (y ∷ xs) (suc k) x e = let r = back xs k x e in (suc r.0, omega (arith, r.1), r.2)

module _ (one other : Circuit) (s : SameNames one other) where
  means : (text number : ℕ) → Means one text number → Means other text number
  means text number m = subst (λ names. FirstOf (texts names) text number) s.names m

  instance_there : (from : ℕ) (target : Name) (to : ℕ) → Instance one from target to → Instance other from target to
  instance_there from target to i =
      let o = other_at one.modules other.modules from i.holder s.marks i.here in
      record {
        holder = o.other;
        here = o.here;
        stands = subst (λ marks. Contains (instantiated_by marks) target) (sym o.marks) i.stands;
        means = means target.id to i.means;
      }

  pub reaches_there : (from k : ℕ) → Reaches one from k → Reaches other from k
  reaches_there from k itself = itself
  reaches_there from k (through middle to target r i) = through middle to target (reaches_there from middle r) (instance_there middle target to i)

  counted : length one.modules ≡ length other.modules
  counted = sym (length-map one.modules marks_in) ∙ ap length s.marks ∙ length-map other.modules marks_in

  flat : {Y : Type 0} (f : List Mark → List Y) (ms : List Module) → flat_map (λ m. f (marks_in m)) ms ≡ flat_map f (map marks_in ms)
  flat f [] = refl
  flat f (m ∷ ms) = ap (λ l. f (marks_in m) ++ l) (flat f ms)

  pub fault_there : (fault : NameFault) → IsFault one fault → IsFault other fault
  fault_there fault (no_main none) = subst (IsFault other) (ap (λ (n : Name). NoMain n.place) (sym s.main))
      (no_main (λ c. none (subst (λ (n : Name). Contains (texts (module_names one)) n.id) (sym s.main) (subst (λ names. Contains (texts names) other.main.id) (sym s.names) c))))
  fault_there fault (module_twice name twice) = module_twice name (subst (λ names. IsTwice names name) s.names twice)
  fault_there fault (module_unknown holder target c i none) =
      let h = held one.modules other.modules holder s.marks c in
      module_unknown h.other target h.has (subst (λ marks. Contains (instantiated_by marks) target) (sym h.marks) i) (λ there. none (subst (λ names. Contains (texts names) target.id) (sym s.names) there))
  fault_there fault (instance_loop from to target i r) = instance_loop from to target (instance_there from target to i) (reaches_there to from r)
  fault_there fault (name_twice holder name c twice) =
      let h = held one.modules other.modules holder s.marks c in
      name_twice h.other name h.has (subst (λ marks. IsTwice (declared_by marks) name) (sym h.marks) twice)
  fault_there fault (name_unknown holder use' c u none) =
      let h = held one.modules other.modules holder s.marks c in
      name_unknown h.other use' h.has (subst (λ marks. Contains (uses_behind [] marks) use') (sym h.marks) u) none

pub scope_there : (one other : Circuit) → SameNames one other → (scope : Scope) → IsScope one scope → IsScope other scope
scope_there one other s scope i = record {
  main = i.main;
  is_main = subst (λ (n : Name). Means other n.id i.main) s.main (means one other s one.main.id i.main i.is_main);
  counted = i.counted ∙ counted one other s;
  reached = λ k lt. let r = i.reached k (subst (λ n. k < n) (sym (counted one other s)) lt) in
      (λ e. reaches_there one other s i.main k (r.0 e), λ t. r.1 (reaches_there other one (turned one other s) i.main k t));
  uses = subst (λ us. AllZip Names us scope.uses) (flat one other s (uses_behind []) one.modules ∙ ap (flat_map (uses_behind [])) s.marks ∙ sym (flat one other s (uses_behind []) other.modules)) i.uses;
  targets = subst (λ ts. AllZip (λ target number. Means other target.id number) ts scope.targets)
      (flat one other s instantiated_by one.modules ∙ ap (flat_map instantiated_by) s.marks ∙ sym (flat one other s instantiated_by other.modules))
      (subst (λ names. AllZip (λ (target : Name) number. FirstOf (texts names) target.id number) (flat_map instances_in one.modules) scope.targets) s.names i.targets);
}

pub none_there : (one other : Circuit) → SameNames one other → HasNone (IsFault one) → HasNone (IsFault other)
none_there one other s none = λ fault f. none fault (fault_there other one (turned one other s) fault f)
