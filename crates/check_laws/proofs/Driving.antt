-- A connect without a fault drives no leaf that can only be read.
use Rattle.std.proofs.Common.{◌≡◌, ℕ, zero, suc, Bool, true, false, ◌&&◌, if◌then◌else◌, List, [], ◌∷◌, ◌++◌, map, slice_get, Some, refl, sym, ap, ap₂, ◌∙◌, subst}
use Rattle.std.specs.Prelude.{◌≢◌}
use Rattle.std.specs.List.{AllByRecursion}
use Rattle.fir_types.specs.declared.fir_type.FirType.{FirType}
use Rattle.fir_types.specs.declared.leaf.TypeLeaf.{TypeLeaf}
use Rattle.fir_types.specs.Leaves.{leaves, way_of}
use Rattle.fir_types.specs.Passivity.{has_flip}
use Rattle.fir_types.specs.Equivalence.{Equivalent}
use Rattle.fir_types.proofs.Masks.{straight}
use Rattle.fir_types.proofs.Ways.{same_ways}
use Rattle.fir_tree.specs.declared.expr.Expr.{Expr}
use Rattle.fir_tree.specs.declared.part.Flow.{Flow}
use Rattle.fir_tree.specs.declared.part.Flow.TheVariants.{Source, Sink, Duplex}
use Rattle.fir_tree.specs.declared.part.Part.{Part}
use Rattle.fir_tree.specs.Parts.{flow_through}
use Rattle.type_check.specs.declared.fault.TypeFault.TheVariants.{NotEquivalent, FlowSink, FlowSource}
use Rattle.type_check.specs.Parts.{Known, where_typed}
use Rattle.type_check.specs.Texts.{are_equivalent}
use Rattle.type_check.specs.Expressions.{Judgement, found_of}
use Rattle.type_check.specs.Statements.{connects, sink_faults, source_faults, equal_faults, is_source, is_sink}
use Rattle.type_check.proofs.Equivalence.{is_equivalent}
use Rattle.check_laws.specs.Driving.{leaf_flow, driven_flow}
use Rattle.check_laws.proofs.Typing.{left_empty, right_empty, when_none, unless_none, some_same, none_some}

-- What a connect between two parts asks for.
record Connects (left right : Part) : Type 0 where
  pub sink : is_source left.flow ≡ false
  pub source : (is_sink right.flow && has_flip right.typ) ≡ false
  pub same : Equivalent left.typ right.typ

connects_with : (known : Known) (left right : Expr) (l r : Part) → (connects left right known).faults ≡ [] → (found_of known left).part ≡ Some l
    → (found_of known right).part ≡ Some r → Connects l r
connects_with known left right l r none p q =
    let a : Judgement = found_of known left in
    let b : Judgement = found_of known right in
    let sinks = where_typed (sink_faults left.place) a.part in
    let sources = where_typed (source_faults right.place) b.part in
    let equals = where_typed (λ x. where_typed (equal_faults right.place x) b.part) a.part in
    let rest = right_empty b.faults (sinks ++ (sources ++ equals)) (right_empty a.faults (b.faults ++ (sinks ++ (sources ++ equals))) none) in
    let more = right_empty sinks (sources ++ equals) rest in
    record {
      sink = when_none (is_source l.flow) (FlowSink left.place) (ap (where_typed (sink_faults left.place)) (sym p) ∙ left_empty sinks (sources ++ equals) rest);
      source = when_none (is_sink r.flow && has_flip r.typ) (FlowSource right.place) (ap (where_typed (source_faults right.place)) (sym q) ∙ left_empty sources equals more);
      same = is_equivalent l.typ r.typ (unless_none (are_equivalent l.typ r.typ) (NotEquivalent right.place)
          (ap₂ (λ x y. where_typed (λ z. where_typed (equal_faults right.place z) y) x) (sym p) (sym q) ∙ right_empty sources equals more));
    }

-- Leaves at one place

get_mapped : {A B : Type 0} (f : A → B) (xs : List A) (k : ℕ) (x : A) → slice_get xs k ≡ Some x → slice_get (map f xs) k ≡ Some (f x)
get_mapped f [] k x e = absurd (none_some e)
get_mapped f (y ∷ xs) zero x e = ap Some (ap f (some_same e))
get_mapped f (y ∷ xs) (suc k) x e = get_mapped f xs k x e

all_get : {A : Type 0} (P : A → Type 0) (xs : List A) (k : ℕ) (x : A) → AllByRecursion P xs → slice_get xs k ≡ Some x → P x
all_get P [] k x h e = absurd (none_some e)
all_get P (y ∷ xs) zero x h e = subst P (some_same e) h.0
all_get P (y ∷ xs) (suc k) x h e = all_get P xs k x h.1 e

same_way : (l r : FirType) → Equivalent l r → (k : ℕ) (x y : TypeLeaf) → slice_get (leaves l) k ≡ Some x → slice_get (leaves r) k ≡ Some y → way_of x ≡ way_of y
same_way l r same k x y e f =
    some_same (sym (get_mapped way_of (leaves l) k x e) ∙ ap (λ ways. slice_get ways k) (same_ways same) ∙ get_mapped way_of (leaves r) k y f)

pub ways_agree : (known : Known) (left right : Expr) (l r : Part) → (connects left right known).faults ≡ [] → (found_of known left).part ≡ Some l
    → (found_of known right).part ≡ Some r → map way_of (leaves l.typ) ≡ map way_of (leaves r.typ)
ways_agree known left right l r none p q = same_ways (connects_with known left right l r none p q).same

-- Flows

not_source : (flow : Flow) → is_source flow ≡ false → flow ≢ Source
not_source flow e is = let q : is_source flow ≡ true = ap is_source is in cc

turned_sink : (flow : Flow) → flow_through true flow ≡ Source → is_sink flow ≡ true
turned_sink Source e = absurd (let q : is_source Sink ≡ true = ap is_source e in cc)
turned_sink Sink e = refl
turned_sink Duplex e = absurd (let q : is_source Duplex ≡ true = ap is_source e in cc)

-- a leaf that is turned round stands in a type with a flip
flip_there : (t : FirType) (k : ℕ) (x : TypeLeaf) → slice_get (leaves t) k ≡ Some x → x.flip ≡ true → has_flip t ≡ true
flip_there t k x e turned = by (has_flip t) refl where
  by : (b : Bool) → has_flip t ≡ b → b ≡ true
  by true q = refl
  by false q = absurd (let h : x.flip ≡ false = all_get (λ (leaf : TypeLeaf). leaf.flip ≡ false) (leaves t) k x (straight t q) e in cc)

pub no_source_driven : (known : Known) (left right : Expr) (l r : Part) → (connects left right known).faults ≡ [] → (found_of known left).part ≡ Some l
    → (found_of known right).part ≡ Some r → (k : ℕ) (x y : TypeLeaf) → slice_get (leaves l.typ) k ≡ Some x → slice_get (leaves r.typ) k ≡ Some y → driven_flow l r x y ≢ Source
no_source_driven known left right l r none p q k x y e f = by x.flip refl where
  c : Connects l r
  c = connects_with known left right l r none p q

  agrees : x.flip ≡ y.flip
  agrees = ap (λ way. way.1) (same_way l.typ r.typ c.same k x y e f)

  by : (b : Bool) → x.flip ≡ b → (if b then leaf_flow r y else leaf_flow l x) ≢ Source
  by false t is = not_source l.flow c.sink (subst (λ b. flow_through b l.flow ≡ Source) t is)
  by true t is =
      let turned : y.flip ≡ true = sym agrees ∙ t in
      let sink : is_sink r.flow ≡ true = turned_sink r.flow (subst (λ b. flow_through b r.flow ≡ Source) turned is) in
      let flips : has_flip r.typ ≡ true = flip_there r.typ k y f turned in
      let both : (is_sink r.flow && has_flip r.typ) ≡ true = ap₂ (λ a b. a && b) sink flips in
      let none' = c.source in cc
