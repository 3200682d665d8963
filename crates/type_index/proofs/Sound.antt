-- The table stays sound with one more number.
use Rattle.std.proofs.Common.{◌≡◌, ℕ, ◌+◌, ◌<◌, ◌≤◌, Bool, true, false, List, refl, sym, ap, ap₂, ◌∙◌, subst, arith, ◌⊎◌, inl, inr, true≢false}
use Rattle.std.specs.Prelude.{Option, Some, None, cond, nat_eq, ◌&&◌, Result, Ok, Err, OnOk, OnErr}
use Rattle.std.specs.Bool.{beq}
use Rattle.std.specs.Map.{lookup}
use Rattle.std.proofs.lemmas.Bool.{eqb-true, eq-eqb}
use Rattle.type_index.specs.declared.keys.VectorKey.{VectorKey}
use Rattle.type_index.specs.declared.keys.FieldKey.{FieldKey}
use Rattle.type_index.specs.declared.keys.FieldClasses.{FieldClasses}
use Rattle.type_index.specs.Numbers.{Table, same_vector, same_field, vector_number, field_number}
use Rattle.type_index.specs.Tables.{HasPart, here, behind, HasParts, IsSound}
use Rattle.type_index.specs.Sights.{Keeps}

both : (a b : Bool) → (a && b) ≡ true → (a ≡ true) × (b ≡ true)
both true true h = (refl, refl)
both true false h = absurd cc
both false b h = absurd cc

same_bool : (a b : Bool) → beq a b ≡ true → a ≡ b
same_bool true true h = refl
same_bool true false h = absurd cc
same_bool false true h = absurd cc
same_bool false false h = refl

vector_is : (key other : VectorKey) → same_vector key other ≡ true → key ≡ other
vector_is key other h =
    let b = both (nat_eq key.element other.element) (nat_eq key.length other.length) h in
    ap (λ (p : ℕ × ℕ). record { element = p.0; length = p.1 })
    (ap₂ (λ (x y : ℕ). (x, y)) (eqb-true key.element other.element b.0) (eqb-true key.length other.length b.1))

field_is : (key other : FieldKey) → same_field key other ≡ true → key ≡ other
field_is key other h =
    let a = both (nat_eq key.name other.name) (beq key.flip other.flip && (nat_eq key.class other.class && nat_eq key.after other.after)) h in
    let b = both (beq key.flip other.flip) (nat_eq key.class other.class && nat_eq key.after other.after) a.1 in
    let c = both (nat_eq key.class other.class) (nat_eq key.after other.after) b.1 in
    ap (λ (p : (ℕ × Bool) × (ℕ × ℕ)). record { name = p.0.0; flip = p.0.1; class = p.1.0; after = p.1.1 })
    (ap₂ (λ (x : ℕ × Bool) (y : ℕ × ℕ). (x, y)) (ap₂ (λ (x : ℕ) (y : Bool). (x, y)) (eqb-true key.name other.name a.0) (same_bool key.flip other.flip b.0))
    (ap₂ (λ (x y : ℕ). (x, y)) (eqb-true key.class other.class c.0) (eqb-true key.after other.after c.1)))

-- what is found once one more is there

told : (b : Bool) (n m : ℕ) (o : Option ℕ) → cond b (Some n) o ≡ Some m → ((b ≡ true) × (n ≡ m)) ⊎ (o ≡ Some m)
told true n m o h = inl (refl, cc)
told false n m o h = inr h

stays : (b : Bool) (n m : ℕ) (o : Option ℕ) → o ≡ Some m → (b ≡ true → o ≡ None) → cond b (Some n) o ≡ Some m
stays true n m o h none = let e = none refl in absurd cc
stays false n m o h none = h

found : (b : Bool) (n : ℕ) (o : Option ℕ) → b ≡ true → cond b (Some n) o ≡ Some n
found true n o h = refl
found false n o h = absurd cc

keeps_part : {old new : Table} → Keeps old new → {n name class : ℕ} → HasPart old n name class → HasPart new n name class
keeps_part keeps {n} {name} {class} (here flip after is) =
    here flip after (keeps.bundles (record { name = name; flip = flip; class = class; after = after }) n is)
keeps_part keeps {n} (behind key is other rest) = behind key (keeps.bundles key n is) other (keeps_part keeps rest)

pub keeps_parts : (old new : Table) (n : ℕ) (numbers : List (ℕ × ℕ)) → Keeps old new → HasParts old n numbers → HasParts new n numbers
keeps_parts old new n numbers keeps parts name class is = keeps_part keeps (parts name class is)

abbrev pub table : List (VectorKey × ℕ) → List (FieldKey × ℕ) → Table
table vs bs = record { vectors = vs; bundles = bs }

abbrev pub VectorsWith : List (VectorKey × ℕ) → List (VectorKey × ℕ) → VectorKey → ℕ → Type 0
VectorsWith vs ws key n = (q : VectorKey) → lookup (same_vector q) ws ≡ cond (same_vector key q) (Some n) (lookup (same_vector q) vs)

abbrev pub BundlesWith : List (FieldKey × ℕ) → List (FieldKey × ℕ) → FieldKey → ℕ → Type 0
BundlesWith bs cs key n = (q : FieldKey) → lookup (same_field q) cs ≡ cond (same_field key q) (Some n) (lookup (same_field q) bs)

pub keeps_vectors : (vs ws : List (VectorKey × ℕ)) (bs : List (FieldKey × ℕ)) (key : VectorKey) (n : ℕ) → lookup (same_vector key) vs ≡ None → VectorsWith vs ws key n
    → Keeps (table vs bs) (table ws bs)
keeps_vectors vs ws bs key n none with' = record {
  vectors = λ q m is. with' q ∙ stays (same_vector key q) n m (lookup (same_vector q) vs) is
      (λ e. subst (λ k. lookup (same_vector k) vs ≡ None) (vector_is key q e) none);
  bundles = λ q m is. is;
}

pub keeps_bundles : (vs : List (VectorKey × ℕ)) (bs cs : List (FieldKey × ℕ)) (key : FieldKey) (n : ℕ) → lookup (same_field key) bs ≡ None → BundlesWith bs cs key n
    → Keeps (table vs bs) (table vs cs)
keeps_bundles vs bs cs key n none with' = record {
  vectors = λ q m is. is;
  bundles = λ q m is. with' q ∙ stays (same_field key q) n m (lookup (same_field q) bs) is
      (λ e. subst (λ k. lookup (same_field k) bs ≡ None) (field_is key q e) none);
}

module _ (vs : List (VectorKey × ℕ)) (bs : List (FieldKey × ℕ)) (es : List (ℕ × ℕ)) (fs : List (ℕ × FieldClasses)) (next after : ℕ) where
  pub sound_next : after ≡ next + 1 → IsSound (table vs bs) es fs next → IsSound (table vs bs) es fs after
  sound_next up s = record {
    vectors = λ q m is. let b = s.vectors q m is in (b.0, omega (arith, b.1));
    bundles = λ q m is. let b = s.bundles q m is in (b.0, omega (arith, b.1));
    vectors_differ = s.vectors_differ;
    bundles_differ = s.bundles_differ;
    apart = s.apart;
    elements' = s.elements';
    fields' = s.fields';
    free = omega (arith, s.free);
  }

  pub sound_vector : (ws : List (VectorKey × ℕ)) (key : VectorKey) → after ≡ next + 1 → lookup (same_vector key) vs ≡ None → VectorsWith vs ws key next
      → IsSound (table vs bs) es fs next → IsSound (table ws bs) es fs after
  sound_vector ws key up none with' s = record {
    vectors = λ q m is. elim (from q m is) as (λ _. (5 ≤ m) × (m < after)) [
      | inl p ↦ let f = s.free in (omega (arith, p.1, f), omega (arith, p.1))
      | inr o ↦ let b = s.vectors q m o in (b.0, omega (arith, b.1))
    ];
    bundles = λ q m is. let b = s.bundles q m is in (b.0, omega (arith, b.1));
    vectors_differ = λ q r m is at. elim (from q m is) as (λ _. q ≡ r) [
      | inl p ↦ elim (from r m at) as (λ _. q ≡ r) [
        | inl o ↦ sym (vector_is key q p.0) ∙ vector_is key r o.0
        | inr o ↦ let b = s.vectors r m o in absurd (omega (arith, p.1, b.1))
      ]
      | inr p ↦ elim (from r m at) as (λ _. q ≡ r) [
        | inl o ↦ let b = s.vectors q m p in absurd (omega (arith, o.1, b.1))
        | inr o ↦ s.vectors_differ q r m p o
      ]
    ];
    bundles_differ = s.bundles_differ;
    apart = λ q r m is at. elim (from q m is) as (λ _. ⊥) [
      | inl p ↦ let b = s.bundles r m at in omega (arith, p.1, b.1)
      | inr p ↦ s.apart q r m p at
    ];
    elements' = λ n inner is. let r = s.elements' n inner is in (r.0, keeps.vectors (record { element = inner; length = r.0 }) n r.1);
    fields' = λ n inside is. keeps_parts (table vs bs) (table ws bs) n inside.numbers.entries keeps (s.fields' n inside is);
    free = omega (arith, s.free);
  }
    where
      from : (q : VectorKey) (m : ℕ) → lookup (same_vector q) ws ≡ Some m → ((same_vector key q ≡ true) × (next ≡ m)) ⊎ (lookup (same_vector q) vs ≡ Some m)
      from q m is = told (same_vector key q) next m (lookup (same_vector q) vs) (sym (with' q) ∙ is)

      keeps : Keeps (table vs bs) (table ws bs)
      keeps = keeps_vectors vs ws bs key next none with'

  pub sound_bundle : (cs : List (FieldKey × ℕ)) (key : FieldKey) → after ≡ next + 1 → lookup (same_field key) bs ≡ None → BundlesWith bs cs key next
      → IsSound (table vs bs) es fs next → IsSound (table vs cs) es fs after
  sound_bundle cs key up none with' s = record {
    vectors = λ q m is. let b = s.vectors q m is in (b.0, omega (arith, b.1));
    bundles = λ q m is. elim (from q m is) as (λ _. (5 ≤ m) × (m < after)) [
      | inl p ↦ let f = s.free in (omega (arith, p.1, f), omega (arith, p.1))
      | inr o ↦ let b = s.bundles q m o in (b.0, omega (arith, b.1))
    ];
    vectors_differ = s.vectors_differ;
    bundles_differ = λ q r m is at. elim (from q m is) as (λ _. q ≡ r) [
      | inl p ↦ elim (from r m at) as (λ _. q ≡ r) [
        | inl o ↦ sym (field_is key q p.0) ∙ field_is key r o.0
        | inr o ↦ let b = s.bundles r m o in absurd (omega (arith, p.1, b.1))
      ]
      | inr p ↦ elim (from r m at) as (λ _. q ≡ r) [
        | inl o ↦ let b = s.bundles q m p in absurd (omega (arith, o.1, b.1))
        | inr o ↦ s.bundles_differ q r m p o
      ]
    ];
    apart = λ q r m is at. elim (from r m at) as (λ _. ⊥) [
      | inl p ↦ let b = s.vectors q m is in omega (arith, p.1, b.1)
      | inr p ↦ s.apart q r m is p
    ];
    elements' = s.elements';
    fields' = λ n inside is. keeps_parts (table vs bs) (table vs cs) n inside.numbers.entries (keeps_bundles vs bs cs key next none with') (s.fields' n inside is);
    free = omega (arith, s.free);
  }
    where
      from : (q : FieldKey) (m : ℕ) → lookup (same_field q) cs ≡ Some m → ((same_field key q ≡ true) × (next ≡ m)) ⊎ (lookup (same_field q) bs ≡ Some m)
      from q m is = told (same_field key q) next m (lookup (same_field q) bs) (sym (with' q) ∙ is)

  pub sound_element : (ds : List (ℕ × ℕ)) (n inner length : ℕ) → lookup (same_vector (record { element = inner; length = length })) vs ≡ Some n
      → ((q : ℕ) → lookup (nat_eq q) ds ≡ cond (nat_eq n q) (Some inner) (lookup (nat_eq q) es)) → IsSound (table vs bs) es fs next → IsSound (table vs bs) ds fs next
  sound_element ds n inner l at with' s = record {
    vectors = s.vectors;
    bundles = s.bundles;
    vectors_differ = s.vectors_differ;
    bundles_differ = s.bundles_differ;
    apart = s.apart;
    elements' = λ q i is. elim (told (nat_eq n q) inner i (lookup (nat_eq q) es) (sym (with' q) ∙ is))
        as (λ _. (length : ℕ) × (vector_number (table vs bs) (record { element = i; length = length }) ≡ Some q)) [
          | inl p ↦ (
            l,
            subst (λ x. lookup (same_vector (record { element = x; length = l })) vs ≡ Some q) p.1
                (subst (λ x. lookup (same_vector (record { element = inner; length = l })) vs ≡ Some x) (eqb-true n q p.0) at),
          )
          | inr o ↦ s.elements' q i o
        ];
    fields' = s.fields';
    free = s.free;
  }

  pub sound_fields : (gs : List (ℕ × FieldClasses)) (n : ℕ) (inside : FieldClasses) → HasParts (table vs bs) n inside.numbers.entries
      → ((q : ℕ) → lookup (nat_eq q) gs ≡ cond (nat_eq n q) (Some inside) (lookup (nat_eq q) fs)) → IsSound (table vs bs) es fs next → IsSound (table vs bs) es gs next
  sound_fields gs n inside parts with' s = record {
    vectors = s.vectors;
    bundles = s.bundles;
    vectors_differ = s.vectors_differ;
    bundles_differ = s.bundles_differ;
    apart = s.apart;
    elements' = s.elements';
    fields' = λ q i is. elim (given (nat_eq n q) i (lookup (nat_eq q) fs) (sym (with' q) ∙ is)) as (λ _. HasParts (table vs bs) q i.numbers.entries) [
      | inl p ↦ subst (λ x. HasParts (table vs bs) q x.numbers.entries) p.1 (subst (λ x. HasParts (table vs bs) x inside.numbers.entries) (eqb-true n q p.0) parts)
      | inr o ↦ s.fields' q i o
    ];
    free = s.free;
  }
    where
      given : (b : Bool) (i : FieldClasses) (o : Option FieldClasses) → cond b (Some inside) o ≡ Some i → ((b ≡ true) × (inside ≡ i)) ⊎ (o ≡ Some i)
      given true i o h = inl (refl, cc)
      given false i o h = inr h

-- the number of what was noted
pub number_now : (bs cs : List (FieldKey × ℕ)) (key : FieldKey) (n : ℕ) → BundlesWith bs cs key n → same_field key key ≡ true → lookup (same_field key) cs ≡ Some n
number_now bs cs key n with' same = with' key ∙ found (same_field key key) n (lookup (same_field key) bs) same

-- what holds after a call that may fail
pub either_way : {R E X Y Z : Type 0} (r : Result R E) → OnOk r X → OnErr r Y → (X → Z) → (Y → Z) → Z
either_way (Ok x) ok err f g = f ok
either_way (Err e) ok err f g = g err

pub keeps_all : (table : Table) → Keeps table table
keeps_all table = record { vectors = λ key n is. is; bundles = λ key n is. is }

pub keeps_on : {one two three : Table} → Keeps one two → Keeps two three → Keeps one three
keeps_on a b = record { vectors = λ key n is. b.vectors key n (a.vectors key n is); bundles = λ key n is. b.bundles key n (a.bundles key n is) }

-- one more field before those whose numbers are known by name
pub parts_before : (old new : Table) (key : FieldKey) (n : ℕ) (before after : List (ℕ × ℕ)) → Keeps old new → field_number new key ≡ Some n
    → ((q : ℕ) → lookup (nat_eq q) after ≡ cond (nat_eq key.name q) (Some key.class) (lookup (nat_eq q) before)) → HasParts old key.after before → HasParts new n after
parts_before old new key n before after keeps at with' parts name class is =
    by (nat_eq key.name name) refl (sym (with' name) ∙ is)
  where
    by : (b : Bool) → nat_eq key.name name ≡ b → cond b (Some key.class) (lookup (nat_eq name) before) ≡ Some class → HasPart new n name class
    by true e h =
        here key.flip key.after (subst (λ i. field_number new (record { name = i; flip = key.flip; class = class; after = key.after }) ≡ Some n) (eqb-true key.name name e)
        (subst (λ i. field_number new (record { name = key.name; flip = key.flip; class = i; after = key.after }) ≡ Some n) (some_is h) at))
      where
        some_is : Some key.class ≡ Some class → key.class ≡ class
        some_is h = cc
    by false e h = behind key at (λ same. absurd (true≢false (sym (eq-eqb key.name name same) ∙ e))) (keeps_part keeps (parts name class h))
