-- Expressions, form by form.
use Rattle.std.proofs.Common.{◌≡◌, ℕ, zero, suc, ◌+◌, ◌*◌, ◌<◌, nat_lt, ◌&&◌, Bool, true, false, List, [], ◌∷◌, ◌++◌, map, length, take, get_or, Option, Some, None, option_map, option_and_then, is_some, refl, sym, ap, ap₂, ◌∙◌, subst, arith, if◌then◌else◌, true≢false, append-nil, nat_eq}
use Rattle.std.specs.Prelude.{IsSome}
use Rattle.std.specs.Map.{lookup}
use Rattle.std.proofs.lemmas.Grind.{common_steps}
use Rattle.std.proofs.lemmas.Bool.Decides.{nat_tests}
use Rattle.std.proofs.lemmas.List.{map-append, take_more}
use Rattle.std.proofs.lemmas.List.Sums.{fold-append}
use Rattle.std.proofs.lemmas.List.Folds.{list_all-append}
use Rattle.place_text.specs.declared.place.Place.{Place}
use Rattle.bit_words.specs.declared.value.Value.{Value}
use Rattle.bit_words.specs.Values.{integer_of}
use Rattle.fir_types.specs.declared.name.Name.{Name}
use Rattle.fir_types.specs.declared.fir_type.FirType.{FirType}
use Rattle.fir_types.specs.declared.fir_type.Shape.TheViews.{out-Shape}
use Rattle.fir_types.specs.declared.leaf.PathStep.TheVariants as step
use Rattle.fir_types.specs.Leaves.{leaves}
use Rattle.fir_tree.specs.declared.expr.Expr.{Expr}
use Rattle.fir_tree.specs.declared.expr.Suffix.{Suffix}
use Rattle.fir_tree.specs.declared.expr.Suffix.TheVariants as suffix
use Rattle.fir_tree.specs.declared.expr.Form.TheOpen.{Form-F}
use Rattle.prim_ops.specs.Values.{lone}
use Rattle.ground_net.specs.Grounds.{Instant, value, mentions}
use Rattle.ground_net.specs.Shapes.{Shape, shape, is_unsigned}
use Rattle.fir_meaning.specs.Components.{Leaf}
use Rattle.fir_meaning.specs.WellTyped as kinds
use Rattle.fir_meaning.specs.WellTyped.{Known, InKnown, Onward, typed, leaf_shape, type_behind, is_one_unsigned, lone_shape}
use Rattle.fir_meaning.specs.Values as tree
use Rattle.fir_meaning.specs.Values.{Scene, Spot, field_type, element_type, vector_length, or_itself, field_of_shape, element_of_shape, part_of, element_step, suffix_step, follow, whole}
use Rattle.fir_meaning.specs.Mentions as reads
use Rattle.fir_meaning.specs.Mentions.{Scope, Region, joined, behind_each, elements_behind, suffix_onward, follow_all, whole_region, leaves_at}
use Rattle.ground_exprs.specs.declared.part.Part.{Part}
use Rattle.ground_exprs.specs.declared.part.Pick.{Pick}
use Rattle.ground_exprs.specs.Parts.{are_indices, is_index_shape}
use Rattle.ground_exprs.specs.Numbers.{Numbering, IsPart, IsInside, SameLeaves, scene_seen}
use Rattle.fir_meaning.specs.WellTyped.{is_narrow}
use Rattle.ground_exprs.proofs.Onwards.{part_inside, part_indexed, part_whole, part_told}
use Rattle.ground_exprs.specs.declared.source.Source.{Source}
use Rattle.ground_exprs.specs.declared.component.Component.{Component}
use Rattle.ground_exprs.specs.Sources.{Entries, known_of, AreNarrow, told, ReadEach, Lowers, IsLowered, AreOfPart, typed_step, Steps, Leads}
use Rattle.ground_exprs.specs.Views.{Moves}
use Rattle.ground_exprs.proofs.Wholes.{told_shapes, part_shapes, part_values, part_reads}
use Rattle.ground_exprs.proofs.Forms.{typed-Field, value-Field, onward-Field, typed-At, value-At, onward-At, typed-Index, value-Index, onward-Index}

-- the same in other words
pub lowers_as : (entries : Entries) (k k2 : Option (List Shape)) (v v2 : Scene → List Value) (m m2 : Scope → List (List Leaf)) (sources : List Source) → k2 ≡ k → v2 ≡ v → m2 ≡ m
    → Lowers entries k v m sources → Lowers entries k2 v2 m2 sources
lowers_as entries k k2 v v2 m m2 sources a b c l =
    subst (λ x. Lowers entries x v2 m2 sources) (sym a) (subst (λ x. Lowers entries k x m2 sources) (sym b) (subst (λ x. Lowers entries k v x sources) (sym c) l))

some_of : {A : Type 0} (o : Option A) → IsSome o → (x : A) × (o ≡ Some x)
some_of (Some x) h = (x, refl)
some_of None h = absurd (true≢false (sym h))

-- References

pub reference_lowers : (entries : Entries) (name : Name) (ss : List Suffix) (typ : FirType) (part : Part) (sources : List Source) → Leads entries name.id ss typ part → AreOfPart typ part sources
    → Lowers entries (kinds.of_form (Form-F.Ref name (map typed_step ss)) (known_of entries)) (tree.of_form (Form-F.Ref name (map suffix_step ss))) (reads.of_form (Form-F.Ref name (map suffix_onward ss))) sources
reference_lowers entries name ss typ part sources l all = record {
  typed = ap (option_map (λ t. map leaf_shape (leaves t))) l.typed ∙ ap Some (told_shapes typ part sources l.narrow all);
  are = λ n types k.
      let region : Region = follow_all types name.id (map suffix_onward ss) in
      let spot : Instant → Spot = λ instant. follow (scene_seen types n instant) name.id (map suffix_step ss) in
      let p : IsPart n region spot typ part = l.leads n types k in
      let i = l.indices n types k in
      record {
        values = part_values n types region spot typ part sources p i all;
        shapes = part_shapes n types region spot typ part sources p i all;
        reads = subst (λ t. ReadEach n (map (λ leaf. region.indices ++ leaves_at region leaf.path) (leaves t)) sources) (sym p.region_type) (part_reads n types region spot typ part sources p i all);
      };
}

known_is : (entries : Entries) (name : ℕ) (c : Component) → lookup (nat_eq name) entries ≡ Some c → known_of entries name ≡ Some c.typ
known_is entries name c e = ap (option_map (λ (c : Component). c.typ)) e

pub leads_whole : (entries : Entries) (name : ℕ) (c : Component) (part : Part) → AreNarrow entries → lookup (nat_eq name) entries ≡ Some c → part ≡ record { first = c.first; picks = [] }
    → Leads entries name [] c.typ part
leads_whole entries name c part thin e is = subst (Leads entries name [] c.typ) (sym is) (record {
  typed = known_is entries name c e;
  narrow = thin name c e;
  leads = λ n types k. part_whole n types name c.first c.typ (k.typed name c e) (thin name c e) (k.numbers name c e);
  indices = λ n types k. refl;
})

behind_more : (known : Known) (steps : List Onward) (s : Onward) (o : Option FirType) → type_behind known (steps ++ s ∷ []) o ≡ option_and_then (s known) (type_behind known steps o)
behind_more known [] s o = refl
behind_more known (t ∷ ts) s o = behind_more known ts s (option_and_then (t known) o)

steps_more : {B : Type 0} (f : Suffix → B) (ss : List Suffix) (k : ℕ) (s : Suffix) → k < length ss → s ≡ get_or ss k s → map f (take (k + 1) ss) ≡ map f (take k ss) ++ f s ∷ []
steps_more f ss k s h is = ap (map f) (take_more ss k s h) ∙ (map-append f (take k ss) (get_or ss k s ∷ []) ∙ ap (λ x. map f (take k ss) ++ f x ∷ []) (sym is))

pub leads_more : (entries : Entries) (name : ℕ) (ss : List Suffix) (k : ℕ) (s : Suffix) (typ inner : FirType) (part after : Part) → k < length ss → s ≡ get_or ss k s
    → Leads entries name (take k ss) typ part → Steps entries s typ part inner after → Leads entries name (take (k + 1) ss) inner after
leads_more entries name ss k s typ inner part after h is l t = record {
  typed = ap (λ ts. type_behind (known_of entries) ts (known_of entries name)) (steps_more typed_step ss k s h is)
      ∙ (behind_more (known_of entries) (map typed_step (take k ss)) (typed_step s) (known_of entries name) ∙ (ap (option_and_then (typed_step s (known_of entries))) l.typed ∙ t.typed));
  narrow = t.narrow l.narrow;
  leads = λ n types k2.
      let region : Region = follow_all types name (map suffix_onward (take k ss)) in
      let spot : Instant → Spot = λ instant. follow (scene_seen types n instant) name (map suffix_step (take k ss)) in
      let next : IsPart n (suffix_onward s types region) (λ instant. suffix_step s (scene_seen types n instant) (spot instant)) inner after = t.goes n types k2 region spot (l.leads n types k2) in
      part_told n (suffix_onward s types region) (follow_all types name (map suffix_onward (take (k + 1) ss))) (λ instant. suffix_step s (scene_seen types n instant) (spot instant))
      (λ instant. follow (scene_seen types n instant) name (map suffix_step (take (k + 1) ss))) inner after
      (sym (ap (follow_all types name) (steps_more suffix_onward ss k s h is) ∙ fold-append (λ r go. go types r) (whole_region types name) (map suffix_onward (take k ss)) (suffix_onward s ∷ [])))
      (λ instant. sym (ap (follow (scene_seen types n instant) name) (steps_more suffix_step ss k s h is)
      ∙ fold-append (λ at go. go (scene_seen types n instant) at) (whole (scene_seen types n instant) name) (map suffix_step (take k ss)) (suffix_step s ∷ [])))
      next;
  indices = λ n types k2. t.indices n types k2 (l.indices n types k2);
}

-- what is left of the steps is well typed
behind_none : (known : Known) (steps : List Onward) → type_behind known steps None ≡ None
behind_none known [] = refl
behind_none known (s ∷ ss) = behind_none known ss

next_some : (known : Known) (s : Onward) (later : List Onward) (o : Option FirType) → IsSome (type_behind known later (option_and_then (s known) o)) → IsSome (option_and_then (s known) o)
next_some known s later o h = by (option_and_then (s known) o) refl
  where
    by : (q : Option FirType) → option_and_then (s known) o ≡ q → IsSome q
    by (Some t) e = refl
    by None e = absurd (true≢false (sym (ap is_some (sym (behind_none known later)) ∙ (ap (λ x. is_some (type_behind known later x)) (sym e) ∙ h))))

split_steps : (known : Known) (ss : List Suffix) (k : ℕ) (s : Suffix) (o : Option FirType) → k < length ss → s ≡ get_or ss k s → IsSome (type_behind known (map typed_step ss) o)
    → IsSome (option_and_then (typed_step s known) (type_behind known (map typed_step (take k ss)) o))
split_steps known [] k s o h is w = absurd (omega arith)
split_steps known (x ∷ xs) zero s o h is w =
    subst (λ y. IsSome (option_and_then (typed_step y known) o)) (sym is) (next_some known (typed_step x) (map typed_step xs) o w)
split_steps known (x ∷ xs) (suc k) s o h is w = split_steps known xs k s (option_and_then (typed_step x known) o) (omega arith) is w

some_mapped : {A B : Type 0} (f : A → B) (o : Option A) → IsSome (option_map f o) → IsSome o
some_mapped f (Some x) h = refl
some_mapped f None h = h

pub step_typed : (entries : Entries) (name : Name) (ss : List Suffix) (k : ℕ) (s : Suffix) (typ : FirType) (part : Part) → k < length ss → s ≡ get_or ss k s
    → IsSome (kinds.of_form (Form-F.Ref name (map typed_step ss)) (known_of entries)) → Leads entries name.id (take k ss) typ part → IsSome (typed_step s (known_of entries) typ)
step_typed entries name ss k s typ part h is w l =
    ap (λ o. is_some (option_and_then (typed_step s (known_of entries)) o)) (sym l.typed)
    ∙ split_steps (known_of entries) ss k s (known_of entries name.id) h is (some_mapped (λ t. map leaf_shape (leaves t)) (type_behind (known_of entries) (map typed_step ss) (known_of entries name.id)) w)

pub name_known : (entries : Entries) (name : Name) (ss : List Suffix) → IsSome (kinds.of_form (Form-F.Ref name (map typed_step ss)) (known_of entries)) → lookup (nat_eq name.id) entries ≡ None → ⊥
name_known entries name ss w none =
    true≢false (sym (ap (λ o. is_some (option_map (λ t. map leaf_shape (leaves t)) o)) (sym (behind_none (known_of entries) (map typed_step ss)))
    ∙ (ap (λ o. is_some (option_map (λ t. map leaf_shape (leaves t)) (type_behind (known_of entries) (map typed_step ss) (option_map (λ (c : Component). c.typ) o)))) (sym none) ∙ w)))

-- Steps

pub steps_field : (entries : Entries) (s : Suffix) (name : Name) (typ inner : FirType) (part after : Part) → s ≡ suffix.Field name → field_of_shape name.id (out-Shape typ.shape) ≡ Some inner
    → Moves typ (step.Field name.id) part inner after → Steps entries s typ part inner after
steps_field entries s name typ inner part after is found m = record {
  typed = ap (λ f. f (known_of entries) typ) (typed-Field s name is) ∙ found;
  narrow = m.inside.narrow;
  goes = λ n types k region spot p.
      part_told n (record region { typ = inner; ways = behind_each region.ways (step.Field name.id) }) (suffix_onward s types region) (λ instant. part_of (spot instant) inner (Some (step.Field name.id)))
      (λ instant. suffix_step s (scene_seen types n instant) (spot instant)) inner after
      (ap (λ t. record region { typ = t; ways = behind_each region.ways (step.Field name.id) }) (sym (field_is region.typ p.region_type)) ∙ ap (λ f. f types region) (sym (onward-Field s name is)))
      (λ instant. ap (λ t. part_of (spot instant) t (Some (step.Field name.id))) (sym (field_is (spot instant).typ (p.spot_type instant))) ∙ ap (λ f. f (scene_seen types n instant) (spot instant)) (sym (value-Field s name is)))
      (part_inside n region spot typ part after (step.Field name.id) inner m.before p m.inside m.first m.picks);
  indices = λ n types k h. ap (are_indices n.table) m.picks ∙ h;
}
  where
    field_is : (t : FirType) → t ≡ typ → field_type name.id t ≡ inner
    field_is t e = ap (field_type name.id) e ∙ ap (or_itself typ) found

pub steps_at : (entries : Entries) (s : Suffix) (a b : Place) (k : ℕ) (typ inner : FirType) (part after : Part) → s ≡ suffix.At a b k → k < vector_length typ
    → element_of_shape (out-Shape typ.shape) ≡ Some inner → Moves typ (step.Element k) part inner after → Steps entries s typ part inner after
steps_at entries s a b k typ inner part after is within found m = record {
  typed = ap (λ f. f (known_of entries) typ) (typed-At s a b k is) ∙ (ap (λ t. if t then element_of_shape (out-Shape typ.shape) else None) (below k (vector_length typ) within) ∙ found);
  narrow = m.inside.narrow;
  goes = λ n types known region spot p.
      part_told n (record region { typ = inner; ways = behind_each region.ways (step.Element k) }) (suffix_onward s types region) (λ instant. part_of (spot instant) inner (Some (step.Element k)))
      (λ instant. suffix_step s (scene_seen types n instant) (spot instant)) inner after
      (ap (λ t. record region { typ = t; ways = behind_each region.ways (step.Element k) }) (sym (element_is region.typ p.region_type)) ∙ ap (λ f. f types region) (sym (onward-At s a b k is)))
      (λ instant. ap (λ t. part_of (spot instant) t (Some (step.Element k))) (sym (element_is (spot instant).typ (p.spot_type instant))) ∙ ap (λ f. f (scene_seen types n instant) (spot instant)) (sym (value-At s a b k is)))
      (part_inside n region spot typ part after (step.Element k) inner m.before p m.inside m.first m.picks);
  indices = λ n types known h. ap (are_indices n.table) m.picks ∙ h;
}
  where
    element_is : (t : FirType) → t ≡ typ → element_type t ≡ inner
    element_is t e = ap element_type e ∙ ap (or_itself typ) found

    below : (k n : ℕ) → k < n → nat_lt k n ≡ true
    below k n h = grind (arith, common_steps, nat_tests, h)

-- one list of what is mentioned
pub joined_one : (n : Numbering) (ms : List (List Leaf)) (s : Source) → ReadEach n ms (s ∷ []) → SameLeaves n (joined ms) (mentions s.expr)
joined_one n [] s r = absurd r
joined_one n (m ∷ []) s r = subst (λ l. SameLeaves n l (mentions s.expr)) (sym (append-nil m)) r.0
joined_one n (m ∷ o ∷ ms) s r = absurd r.1

unsigned_one : (o : Option (List Shape)) (s : Source) → o ≡ Some (map told (s ∷ [])) → is_one_unsigned o ≡ true → is_unsigned (told s) ≡ true
unsigned_one o s e h = ap is_one_unsigned (sym e) ∙ h

pub head_same : {A : Type 0} {x y : A} {xs ys : List A} → (x ∷ xs) ≡ (y ∷ ys) → x ≡ y
head_same e = cc

pub steps_index : (entries : Entries) (s : Suffix) (a : Place) (e : Expr) (typ inner : FirType) (part after : Part) (source : Source) (pick : Pick) → s ≡ suffix.Index a e
    → is_one_unsigned (typed e (known_of entries)) ≡ true → IsLowered entries e (source ∷ []) → element_of_shape (out-Shape typ.shape) ≡ Some inner → pick.length ≡ vector_length typ
    → pick.index ≡ source.expr → ((k : ℕ) → k < pick.length → IsInside typ (step.Element k) inner (k * pick.stride)) → (is_narrow typ ≡ true → is_narrow inner ≡ true)
    → after.first ≡ part.first → after.picks ≡ part.picks ++ pick ∷ [] → Steps entries s typ part inner after
steps_index entries s a e typ inner part after source pick is one low found length index inside thin first picks = record {
  typed = ap (λ f. f (known_of entries) typ) (typed-Index s a e is) ∙ (ap (λ t. if t then element_of_shape (out-Shape typ.shape) else None) one ∙ found);
  narrow = thin;
  goes = λ n types k region spot p.
      let at = low.are n types k in
      part_told n (record region { typ = inner; ways = elements_behind region.ways pick.length; dynamic = true; indices = region.indices ++ joined (reads.mentions e types) }) (suffix_onward s types region)
      (λ instant. part_of (spot instant) inner (element_step pick.length (integer_of (lone (tree.value e (scene_seen types n instant))))))
      (λ instant. suffix_step s (scene_seen types n instant) (spot instant)) inner after
      (ap₂ (λ t l. record region { typ = t; ways = elements_behind region.ways l; dynamic = true; indices = region.indices ++ joined (reads.mentions e types) })
      (sym (element_is region.typ p.region_type)) (length ∙ ap vector_length (sym p.region_type)) ∙ ap (λ f. f types region) (sym (onward-Index s a e is)))
      (λ instant. ap₂ (λ t l. part_of (spot instant) t (element_step l (integer_of (lone (tree.value e (scene_seen types n instant))))))
      (sym (element_is (spot instant).typ (p.spot_type instant))) (length ∙ ap vector_length (sym (p.spot_type instant))) ∙ ap (λ f. f (scene_seen types n instant) (spot instant)) (sym (value-Index s a e is)))
      (part_indexed n region spot typ part after pick inner (λ instant. integer_of (lone (tree.value e (scene_seen types n instant)))) (joined (reads.mentions e types)) p inside (thin p.narrow)
      (λ instant h. ap (λ g. integer_of (value g instant)) index ∙ ap (λ vs. integer_of (lone vs)) (at.values instant h))
      (subst (λ g. SameLeaves n (joined (reads.mentions e types)) (mentions g)) (sym index) (joined_one n (reads.mentions e types) source at.reads)) first picks);
  indices = λ n types k h.
      let at = low.are n types k in
      let here : shape source.expr n.table ≡ Some (told source) = head_same at.shapes in
      let test : is_index_shape (shape pick.index n.table) ≡ true = ap (λ g. is_index_shape (shape g n.table)) index ∙ (ap is_index_shape here ∙ unsigned_one (typed e (known_of entries)) source low.typed one) in
      ap (are_indices n.table) picks ∙ (list_all-append (λ (p : Pick). is_index_shape (shape p.index n.table)) part.picks (pick ∷ []) ∙ ap₂ (λ a b. a && (b && true)) h test);
}
  where
    element_is : (t : FirType) → t ≡ typ → element_type t ≡ inner
    element_is t e = ap element_type e ∙ ap (or_itself typ) found

-- what a well typed step asks for

pub field_asked : (known : Known) (s : Suffix) (name : Name) (typ : FirType) → s ≡ suffix.Field name → IsSome (typed_step s known typ) → IsSome (field_of_shape name.id (out-Shape typ.shape))
field_asked known s name typ is h = ap (λ f. is_some (f known typ)) (sym (typed-Field s name is)) ∙ h

tested : {A : Type 0} (b : Bool) (o : Option A) → IsSome (if b then o else None) → (b ≡ true) × IsSome o
tested true o h = (refl, h)
tested false o h = absurd (true≢false (sym h))

pub at_asked : (known : Known) (s : Suffix) (a b : Place) (k : ℕ) (typ : FirType) → s ≡ suffix.At a b k → IsSome (typed_step s known typ) → (k < vector_length typ) × IsSome (element_of_shape (out-Shape typ.shape))
at_asked known s a b k typ is h =
    let both = tested (nat_lt k (vector_length typ)) (element_of_shape (out-Shape typ.shape)) (ap (λ f. is_some (f known typ)) (sym (typed-At s a b k is)) ∙ h) in
    (below k (vector_length typ) both.0, both.1)
  where
    below : (k n : ℕ) → nat_lt k n ≡ true → k < n
    below k n t = grind (arith, common_steps, nat_tests, t)

pub index_asked : (known : Known) (s : Suffix) (a : Place) (e : Expr) (typ : FirType) → s ≡ suffix.Index a e → IsSome (typed_step s known typ)
    → (is_one_unsigned (typed e known) ≡ true) × IsSome (element_of_shape (out-Shape typ.shape))
index_asked known s a e typ is h = tested (is_one_unsigned (typed e known)) (element_of_shape (out-Shape typ.shape)) (ap (λ f. is_some (f known typ)) (sym (typed-Index s a e is)) ∙ h)

pub unsigned_some : (o : Option (List Shape)) → is_one_unsigned o ≡ true → IsSome o
unsigned_some (Some ss) h = refl
unsigned_some None h = absurd (true≢false (sym h))

pub unsigned_lone : (o : Option (List Shape)) (sources : List Source) → is_one_unsigned o ≡ true → o ≡ Some (map told sources) → length sources ≡ 1
unsigned_lone o [] h e = absurd (true≢false (sym (ap is_one_unsigned (sym e) ∙ h)))
unsigned_lone o (s ∷ []) h e = refl
unsigned_lone o (s ∷ t ∷ ss) h e = absurd (true≢false (sym (ap is_one_unsigned (sym e) ∙ h)))
