-- No two entries of the flat order are one leaf of the run.
use Rattle.std.proofs.Common.{◌≡◌, ℕ, zero, suc, ◌+◌, List, [], ◌∷◌, ◌++◌, length, Some, option_and_then, refl, sym, ap, ◌∙◌, subst, arith, ◌⊎◌, inl, inr, ⊎_elim, append_assoc}
use Rattle.std.specs.Prelude.{Contains}
use Rattle.std.specs.List.{slice_get}
use Rattle.std.proofs.lemmas.List.Concat.{flat_map-cons}
use Rattle.fir_types.specs.declared.leaf.TypeLeaf.{TypeLeaf}
use Rattle.fir_types.specs.Leaves.{leaves}
use Rattle.fir_meaning.specs.Components.{Design, TypedModule, Component, component_named, module_at, module_named, HasBundles}
use Rattle.fir_meaning.proofs.Ports.{at_snoc, inside, target_is, target_sort}
use Rattle.net_of_circuit.specs.FlatOrder.{Placed, InFlatOrder, no_more, one_more, an_instance, Standing, all_leaves, flat_of}
use Rattle.net_laws.proofs.Numbers.{some_same, none_some}
use Rattle.net_laws.proofs.Rows.{leaves_of, begins}
use Rattle.net_laws.proofs.Lists.{place_of, later, from_map_at, in_append}

-- Paths

cancel : (path : List ℕ) (a b : ℕ) (x y : List ℕ) → path ++ a ∷ x ≡ path ++ b ∷ y → a ≡ b
cancel [] a b x y e = cc
cancel (i ∷ path) a b x y e = cancel path a b x y cc

no_longer : {B : Type 0} (path : List ℕ) (a : ℕ) (x : List ℕ) → path ++ a ∷ x ≡ path → B
no_longer [] a x e = absurd cc
no_longer (i ∷ path) a x e = no_longer path a x cc

-- Names of components

-- No two components of a list have one name.
abbrev pub Apart : List Component → Type 0
Apart cs = (j k : ℕ) (c d : Component) → slice_get cs j ≡ Some c → slice_get cs k ≡ Some d → c.declaration.name ≡ d.declaration.name → j ≡ k

rest_apart : (c : Component) (cs : List Component) → Apart (c ∷ cs) → Apart cs
rest_apart c cs apart j k d e f g same = let s : suc j ≡ suc k = apart (suc j) (suc k) d e f g same in omega arith

not_among : {B : Type 0} (c : Component) (cs : List Component) → Apart (c ∷ cs) → (d : Component) → Contains cs d → c.declaration.name ≡ d.declaration.name → B
not_among c cs apart d h same = let at = place_of cs d h in let s : 0 ≡ suc at.0 = apart 0 (suc at.0) c d refl at.1 same in absurd (omega arith)

-- An entry is a component of the list, or stands behind an instance of it.
record Own (path : List ℕ) (cs : List Component) (q : Placed) : Type 0 where
  at : q.path ≡ path
  among : Contains cs q.c

record Behind (path : List ℕ) (cs : List Component) (q : Placed) : Type 0 where
  c : Component
  among : Contains cs c
  more : List ℕ
  at : q.path ≡ path ++ c.declaration.name ∷ more

origin : (design : Design) (path : List ℕ) (m : TypedModule) (cs : List Component) {placed : List Placed} → InFlatOrder design path m cs placed → (k : ℕ) (q : Placed) → slice_get placed k ≡ Some q → Own path cs q ⊎ Behind path cs q
origin design path m [] no_more k q e = none_some e
origin design path m (c ∷ cs) (one_more none f) zero q e =
    inl (record { at = ap (λ (p : Placed). p.path) (sym (some_same e)); among = (0, omega arith, ap (λ (p : Placed). p.c) (some_same e)) })
origin design path m (c ∷ cs) (one_more none f) (suc k) q e = ⊎_elim
    (λ own. inl (record { at = own.at; among = later c cs q.c own.among }))
    (λ behind. inr (record { c = behind.c; among = later c cs behind.c behind.among; more = behind.more; at = behind.at }))
    (origin design path m cs f k q e)
origin design path m (c ∷ cs) (an_instance {own = own} {rest = rest} target n t found inner f) k q e = ⊎_elim
    (λ here.
    let b = begins design (path ++ c.declaration.name ∷ []) n n.components inner k q here in
    inr (record { c = c; among = (0, omega arith, refl); more = b.0; at = b.1 ∙ append_assoc path (c.declaration.name ∷ []) b.0 }))
    (λ there. ⊎_elim
    (λ own'. inl (record { at = own'.at; among = later c cs q.c own'.among }))
    (λ behind. inr (record { c = behind.c; among = later c cs behind.c behind.among; more = behind.more; at = behind.at }))
    (origin design path m cs f there.0 q there.2))
    (in_append own rest k q e)

-- another entry than a component's own has another path or name
apart_from : {B : Type 0} (path : List ℕ) (c : Component) (cs : List Component) → Apart (c ∷ cs) → (q : Placed) → q.path ≡ path → q.c.declaration.name ≡ c.declaration.name → Own path cs q ⊎ Behind path cs q → B
apart_from path c cs apart q at name o = ⊎_elim
    (λ own. not_among c cs apart q.c own.among (sym name))
    (λ behind. no_longer path behind.c.declaration.name behind.more (sym behind.at ∙ at))
    o

-- what stands behind an instance stands behind no other component
apart_behind : {B : Type 0} (path : List ℕ) (c : Component) (cs : List Component) → Apart (c ∷ cs) → (q : Placed) (more : List ℕ) → q.path ≡ path ++ c.declaration.name ∷ more → Own path cs q ⊎ Behind path cs q → B
apart_behind path c cs apart q more at o = ⊎_elim
    (λ own. no_longer path c.declaration.name more (sym at ∙ own.at))
    (λ behind. not_among c cs apart behind.c behind.among (cancel path c.declaration.name behind.c.declaration.name more behind.more (sym at ∙ behind.at)))
    o

module _ (design : Design) (has : HasBundles design) (apart : (path : List ℕ) (m : TypedModule) → module_at design path ≡ Some m → Apart m.components) where
  -- Two entries of one path and name are one.
  pub entries_once : (path : List ℕ) (m : TypedModule) (cs : List Component) {placed : List Placed} → InFlatOrder design path m cs placed → module_at design path ≡ Some m
      → ((c : Component) → Contains cs c → Contains m.components c) → Apart cs
      → (j k : ℕ) (p q : Placed) → slice_get placed j ≡ Some p → slice_get placed k ≡ Some q → p.path ≡ q.path → p.c.declaration.name ≡ q.c.declaration.name → j ≡ k
  entries_once path m [] no_more reached all own j k p q e f at name = none_some e
  entries_once path m (c ∷ cs) (one_more none order) reached all own zero zero p q e f at name = refl
  entries_once path m (c ∷ cs) (one_more none order) reached all own zero (suc k) p q e f at name =
      let same = some_same e in
      apart_from path c cs own q (sym at ∙ ap (λ (z : Placed). z.path) (sym same)) (sym name ∙ ap (λ (z : Placed). z.c.declaration.name) (sym same)) (origin design path m cs order k q f)
  entries_once path m (c ∷ cs) (one_more none order) reached all own (suc j) zero p q e f at name =
      let same = some_same f in
      apart_from path c cs own p (at ∙ ap (λ (z : Placed). z.path) (sym same)) (name ∙ ap (λ (z : Placed). z.c.declaration.name) (sym same)) (origin design path m cs order j p e)
  entries_once path m (c ∷ cs) (one_more none order) reached all own (suc j) (suc k) p q e f at name =
      ap suc (entries_once path m cs order reached (λ d h. all d (later c cs d h)) (rest_apart c cs own) j k p q e f at name)
  entries_once path m (c ∷ cs) (an_instance {own = inner} {rest = rest} target n t found inside_order order) reached all own j k p q e f at name =
      let declared : component_named m c.declaration.name ≡ Some c = has.names path m c reached (all c (0, omega arith, refl)) in
      let below : module_at design (path ++ c.declaration.name ∷ []) ≡ Some n =
      at_snoc design path c.declaration.name
      ∙ (ap (option_and_then (λ x. inside design x c.declaration.name)) reached
      ∙ (ap (option_and_then (module_named design)) (target_is m c target declared (target_sort c.declaration.sort target t)) ∙ found)) in
      let recurse = entries_once (path ++ c.declaration.name ∷ []) n n.components inside_order below (λ d h. h) (apart (path ++ c.declaration.name ∷ []) n below) in
      let onward = entries_once path m cs order reached (λ d h. all d (later c cs d h)) (rest_apart c cs own) in
      let deeper : (i : ℕ) (r : Placed) → slice_get inner i ≡ Some r → (more : List ℕ) × (r.path ≡ path ++ c.declaration.name ∷ more) = λ i r h.
      let b = begins design (path ++ c.declaration.name ∷ []) n n.components inside_order i r h in
      (b.0, b.1 ∙ append_assoc path (c.declaration.name ∷ []) b.0) in
      ⊎_elim
      (λ first. ⊎_elim
      (λ second. recurse j k p q first second at name)
      (λ second. let d = deeper j p first in apart_behind path c cs own q d.0 (sym at ∙ d.1) (origin design path m cs order second.0 q second.2))
      (in_append inner rest k q f))
      (λ first. ⊎_elim
      (λ second. let d = deeper k q second in apart_behind path c cs own p d.0 (at ∙ d.1) (origin design path m cs order first.0 p first.2))
      (λ second. first.1 ∙ (ap (λ i. length inner + i) (onward first.0 second.0 p q first.2 second.2 at name) ∙ sym second.1))
      (in_append inner rest k q f))
      (in_append inner rest j p e)

-- Leaves of one component at one place are one entry.
pub leaves_once : (placed : List Placed) → ((j k : ℕ) (p q : Placed) → slice_get placed j ≡ Some p → slice_get placed k ≡ Some q → p.path ≡ q.path → p.c.declaration.name ≡ q.c.declaration.name → j ≡ k)
    → ((j i k : ℕ) (p : Placed) (a b : TypeLeaf) → slice_get placed j ≡ Some p → slice_get (leaves p.c.typ) i ≡ Some a → slice_get (leaves p.c.typ) k ≡ Some b → a.path ≡ b.path → i ≡ k)
    → (x z : ℕ) (y w : Standing) → slice_get (all_leaves placed) x ≡ Some y → slice_get (all_leaves placed) z ≡ Some w → flat_of y ≡ flat_of w → x ≡ z
leaves_once [] once ways x z y w e f same = none_some e
leaves_once (p ∷ ps) once ways x z y w e f same =
    let at : y.0.path ≡ w.0.path = ap (λ g. g.path) same in
    let name : y.0.c.declaration.name ≡ w.0.c.declaration.name = ap (λ g. g.component) same in
    let way : y.1.path ≡ w.1.path = ap (λ g. g.way) same in
    let split : (k : ℕ) (v : Standing) → slice_get (all_leaves (p ∷ ps)) k ≡ Some v → (slice_get (leaves_of p) k ≡ Some v) ⊎ ((j : ℕ) × (k ≡ length (leaves_of p) + j) × (slice_get (all_leaves ps) j ≡ Some v)) =
    λ k v h. in_append (leaves_of p) (all_leaves ps) k v (subst (λ l. slice_get l k ≡ Some v) (flat_map-cons leaves_of p ps) h) in
    let tail_once : (j k : ℕ) (q r : Placed) → slice_get ps j ≡ Some q → slice_get ps k ≡ Some r → q.path ≡ r.path → q.c.declaration.name ≡ r.c.declaration.name → j ≡ k =
    λ j k q r g h a n. let s : suc j ≡ suc k = once (suc j) (suc k) q r g h a n in omega arith in
    ⊎_elim
    (λ first. ⊎_elim
    (λ second.
    let a = from_map_at (λ leaf. (p, leaf)) (leaves p.c.typ) x y first in
    let b = from_map_at (λ leaf. (p, leaf)) (leaves p.c.typ) z w second in
    ways 0 x z p a.0 b.0 refl a.1 b.1 (ap (λ (v : Standing). v.1.path) a.2 ∙ (way ∙ ap (λ (v : Standing). v.1.path) (sym b.2))))
    (λ second.
    let a = from_map_at (λ leaf. (p, leaf)) (leaves p.c.typ) x y first in
    let b = component_of ps second.0 w second.2 in
    let s : 0 ≡ suc b.0 = once 0 (suc b.0) p w.0 refl b.1 (ap (λ (v : Standing). v.0.path) a.2 ∙ at) (ap (λ (v : Standing). v.0.c.declaration.name) a.2 ∙ name) in
    absurd (omega arith))
    (split z w f))
    (λ first. ⊎_elim
    (λ second.
    let b = from_map_at (λ leaf. (p, leaf)) (leaves p.c.typ) z w second in
    let a = component_of ps first.0 y first.2 in
    let s : 0 ≡ suc a.0 = once 0 (suc a.0) p y.0 refl a.1 (ap (λ (v : Standing). v.0.path) b.2 ∙ sym at) (ap (λ (v : Standing). v.0.c.declaration.name) b.2 ∙ sym name) in
    absurd (omega arith))
    (λ second.
    let rest = leaves_once ps tail_once (λ j i k q a b h. ways (suc j) i k q a b h) first.0 second.0 y w first.2 second.2 same in
    first.1 ∙ (ap (λ i. length (leaves_of p) + i) rest ∙ sym second.1))
    (split z w f))
    (split x y e)
  where
    component_of : (ps : List Placed) (k : ℕ) (y : Standing) → slice_get (all_leaves ps) k ≡ Some y → (j : ℕ) × (slice_get ps j ≡ Some y.0)
    component_of [] k y e = none_some e
    component_of (p ∷ ps) k y e = ⊎_elim
        (λ here. let l = from_map_at (λ leaf. (p, leaf)) (leaves p.c.typ) k y here in (0, ap Some (ap (λ (v : Standing). v.0) l.2)))
        (λ there. let r = component_of ps there.0 y there.2 in (suc r.0, r.1))
        (in_append (leaves_of p) (all_leaves ps) k y (subst (λ l. slice_get l k ≡ Some y) (flat_map-cons leaves_of p ps) e))
